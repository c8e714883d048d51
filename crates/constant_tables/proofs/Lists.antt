-- The bytes of a table and the words of its document, entry by entry. Assumes nothing.
use Prim.Native.Nat.{ℕ, zero, suc, ◌+◌, ◌*◌, ◌<◌}
use native.Mathlib.Omega.{arith}
use mathlib.Core.Path.{◌≡◌, refl, sym, ap, ◌∙◌}
use mathlib.Core.Bool.{true}
use mathlib.Core.List.{List, [], ◌∷◌, ◌++◌, append_assoc, append-nil}
use lib.ListN.{length, take, drop, get_or, length-append, get_or-append}
use lib.Seq.{take_at, drop-append-add, get_or-append-add}
use lib.Dec.{ltb}
use borrow.Author.Tests.{lt-ltb}
use Rattle.words.specs.Record.{field_of}
use Rattle.constant_tables.specs.Form.{table_line_length, document_kind}
use Rattle.constant_tables.specs.Entry.{Entry, entry, entry_line, table_bytes, definition_of, definitions_of, table_records}
use Rattle.constant_tables.proofs.TableLines.{entry_length}

-- what is read past the entries
abbrev pub no_entry : Entry
no_entry = entry 0 0 0

-- bytes

pub bytes_length : (es : List Entry) → length (table_bytes es) ≡ length es * 34
unfolding table_bytes
bytes_length [] = refl
bytes_length (e ∷ es) =
    let a = entry_length e in
    let r = bytes_length es in
    length-append (entry_line e) (table_bytes es) ∙ omega (arith, a, r)

pub bytes_more : (es : List Entry) (e : Entry) → table_bytes (es ++ (e ∷ [])) ≡ table_bytes es ++ entry_line e
unfolding table_bytes
bytes_more [] e = append-nil (entry_line e)
bytes_more (x ∷ es) e = ap (λ (l : List ℕ). entry_line x ++ l) (bytes_more es e) ∙ sym (append_assoc (entry_line x) (table_bytes es) (entry_line e))

pub bytes_line : (es : List Entry) (j : ℕ) → j < length es → take table_line_length (drop (j * table_line_length) (table_bytes es)) ≡ entry_line
    (get_or es j no_entry)
unfolding table_bytes
bytes_line [] j h = absurd (omega arith)
bytes_line (e ∷ es) zero h = take_at (entry_line e) (table_bytes es) 34 (entry_length e)
bytes_line (e ∷ es) (suc j) h =
    let l = entry_length e in
    let m : suc j * 34 ≡ length (entry_line e) + j * 34 = omega (arith, l) in
    ap (take 34) (ap (λ (n : ℕ). drop n (entry_line e ++ table_bytes es)) m ∙ drop-append-add (entry_line e) (table_bytes es) (j * 34))
    ∙ bytes_line es j (omega arith)

-- words

pub definitions_length : (es : List Entry) → length (definitions_of es) ≡ length es * 12
unfolding definitions_of
definitions_length [] = refl
definitions_length (e ∷ es) =
    let r = definitions_length es in
    length-append (definition_of e) (definitions_of es) ∙ omega (arith, r)

pub definitions_more : (es : List Entry) (e : Entry) → definitions_of (es ++ (e ∷ [])) ≡ definitions_of es ++ definition_of e
unfolding definitions_of
definitions_more [] e = append-nil (definition_of e)
definitions_more (x ∷ es) e =
    ap (λ (l : List ℕ). definition_of x ++ l) (definitions_more es e) ∙ sym (append_assoc (definition_of x) (definitions_of es) (definition_of e))

definitions_word : (es : List Entry) (j k : ℕ) → j < length es → k < 12
    → get_or (definitions_of es) (j * 12 + k) 0 ≡ get_or (definition_of (get_or es j no_entry)) k 0
unfolding definitions_of
definitions_word [] j k h l = absurd (omega arith)
definitions_word (e ∷ es) zero k h l =
    let m : 0 * 12 + k ≡ k = omega arith in
    rw m (get_or-append (definition_of e) (definitions_of es) 0 k l)
definitions_word (e ∷ es) (suc j) k h l =
    let m : suc j * 12 + k ≡ length (definition_of e) + (j * 12 + k) = omega arith in
    rw m (get_or-append-add (definition_of e) (definitions_of es) (j * 12 + k) 0 ∙ definitions_word es j k (omega arith) l)

abbrev pub head_of : ℕ → ℕ → List ℕ
head_of span file = document_kind ∷ span ∷ 0 ∷ file ∷ []

-- word k of record a of definition j
pub table_word : (file : ℕ) (es : List Entry) (j a k : ℕ) → j < length es → a < 3 → k < 4
    → field_of (table_records file es) (j * 3 + 1 + a) k ≡ get_or (definition_of (get_or es j no_entry)) (a * 4 + k) 0
unfolding field_of
table_word file es j a k h b l =
    let t : ltb k 4 ≡ true = lt-ltb k 4 l in
    let m : (j * 3 + 1 + a) * 4 + k ≡ 4 + (j * 12 + (a * 4 + k)) = omega arith in
    rw (t, m) (get_or-append-add (head_of (length es * 3 + 1) file) (definitions_of es) (j * 12 + (a * 4 + k)) 0
    ∙ definitions_word es j (a * 4 + k) h (omega arith))

pub table_length : (file : ℕ) (es : List Entry) → length (table_records file es) ≡ (length es * 3 + 1) * 4
table_length file es = let r = definitions_length es in omega (arith, r)
