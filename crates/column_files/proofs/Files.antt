-- The lines of a column file, one after the other: the words that they spell, the lines of records, and row 1. Assumes nothing.
use Prim.Native.Nat.{ℕ, zero, suc, ◌+◌, ◌-◌, ◌*◌, ◌%◌, ◌≤◌, ◌<◌}
use native.Mathlib.Omega.{arith}
use mathlib.Core.Path.{◌≡◌, refl, sym, ap, ◌∙◌}
use mathlib.Core.Bool.{Bool, true, false, cond}
use mathlib.Core.List.{List, ◌++◌, append_assoc, append-nil}
use lib.ListN.{length, take, drop, get_or, length-append, length-drop, length-take, get_or-append, get_or-eq_default}
use lib.Seq.{drop-drop, get_or-append-add}
use lib.Dec.{eqb, ltb}
use Rattle.std.specs.Prelude.{◌==◌}
use borrow.Author.Tests.{eq-eqb, ne_eqb, eqb-true, eqb-false, ltb-true, ltb-false}
use Rattle.words.specs.Node.{record_at}
use Rattle.words.specs.Record.{field_of}
use Rattle.tree.specs.Check.{records_of}
use Rattle.column_lines.specs.Form.{line_length}
use Rattle.column_lines.specs.Line.{read_line, record_line}
use Rattle.words.specs.declared.node.Record.{Record}
use Rattle.std.specs.Prelude.{Option, Some, None, is_some, unwrap_or, Result, Ok}
use Rattle.words.specs.declared.row.Row.TheVariants.{BadLine}
use Rattle.words.specs.declared.row.Refused.{Refused}
use Rattle.tree.specs.Check.{refused}
use Rattle.column_lines.proofs.Lines.{line_length_lem, line_size_lem}
use Rattle.column_files.specs.Files.{lines_in, words_in, word_in, words_by, words_of, good_then, bad_by, first_bad, row_one, lines_by}

-- line i of a file
abbrev pub line_of : ℕ → List ℕ → List ℕ
line_of i file = take line_length (drop (i * line_length) file)

pub line_none : (file : List ℕ) (i : ℕ) → lines_in file ≤ i → None ≡ read_line (line_of i file)
line_none file i h =
    let x : length (line_of i file) ≤ length (drop (i * line_length) file) = simp length-take (omega arith) in
    line_length_lem (line_of i file) (λ e. omega (arith, x, length-drop (i * line_length) file, e))

pub words_in_lem : (l : Option Record) → length (words_in l) ≡ 4
words_in_lem (Some r) = refl
words_in_lem None = refl

next_line : (i : ℕ) (file : List ℕ) → line_of i (drop line_length file) ≡ line_of (suc i) file
next_line i file =
    let e : line_length + i * line_length ≡ suc i * line_length = omega arith in
    ap (take line_length) (drop-drop (i * line_length) line_length file ∙ ap (λ (n : ℕ). drop n file) e)

-- words

pub words_length : (n : ℕ) (file : List ℕ) → length (words_by n file) ≡ n * 4
unfolding words_by
words_length zero file = refl
words_length (suc n) file =
    let w = words_in_lem (read_line (take line_length file)) in
    let r = words_length n (drop line_length file) in
    length-append (words_in (read_line (take line_length file))) (words_by n (drop line_length file)) ∙ omega (arith, w, r)

pub words_more : (n : ℕ) (file : List ℕ) → words_by (n + 1) file ≡ words_by n file ++ words_in (read_line (line_of n file))
unfolding words_by
words_more zero file = append-nil (words_in (read_line (take line_length file)))
words_more (suc n) file =
    let e : suc n + 1 ≡ suc (n + 1) = omega arith in
    let w = words_in (read_line (take line_length file)) in
    rw e (ap (λ (l : List ℕ). w ++ l) (words_more n (drop line_length file)
    ∙ ap (λ (l : List ℕ). words_by n (drop line_length file) ++ words_in (read_line l)) (next_line n file))
    ∙ sym (append_assoc w (words_by n (drop line_length file)) (words_in (read_line (line_of (suc n) file)))))

word_at : (i n k : ℕ) (file : List ℕ) → i < n → k < 4 → get_or (words_by n file) (i * 4 + k) 0 ≡ get_or (words_in (read_line (line_of i file))) k 0
unfolding words_by
word_at i zero k file h l = absurd (omega arith)
word_at zero (suc n) k file h l =
    let e : 0 * 4 + k ≡ k = omega arith in
    let w = words_in_lem (read_line (take line_length file)) in
    rw e (get_or-append (words_in (read_line (take line_length file))) (words_by n (drop line_length file)) 0 k (omega (arith, w)))
word_at (suc i) (suc n) k file h l =
    let w = words_in_lem (read_line (take line_length file)) in
    let e : suc i * 4 + k ≡ length (words_in (read_line (take line_length file))) + (i * 4 + k) = omega (arith, w) in
    rw e (get_or-append-add (words_in (read_line (take line_length file))) (words_by n (drop line_length file)) (i * 4 + k) 0
    ∙ word_at i n k (drop line_length file) (omega arith) l
    ∙ ap (λ (x : List ℕ). get_or (words_in (read_line x)) k 0) (next_line i file))

word_past : (l : Option Record) (k : ℕ) → 4 ≤ k → 0 ≡ get_or (words_in l) k 0
word_past l k h = sym (get_or-eq_default (words_in l) 0 {n = k} (let w = words_in_lem l in omega (arith, w)))

word_bad : (k : ℕ) → get_or (words_in None) k 0 ≡ 0
word_bad k = go (ltb k 4) refl
  where
    below : (k : ℕ) → k < 4 → get_or (words_in None) k 0 ≡ 0
    below zero h = refl
    below (suc zero) h = refl
    below (suc (suc zero)) h = refl
    below (suc (suc (suc zero))) h = refl
    below (suc (suc (suc (suc k)))) h = absurd (omega arith)

    go : (t : Bool) → ltb k 4 ≡ t → get_or (words_in None) k 0 ≡ 0
    go true e = below k (ltb-true k 4 e)
    go false e = sym (word_past None k (ltb-false k 4 e))

-- the reader of the bytes is a reader of the words
pub field_is : (file : List ℕ) (i k : ℕ) → word_in (read_line (line_of i file)) k ≡ field_of (words_of file) i k
unfolding word_in field_of
field_is file i k = go (ltb k 4) refl
  where
    inside : k < 4 → (t : Bool) → ltb i (lines_in file) ≡ t → get_or (words_in (read_line (line_of i file))) k 0 ≡ get_or (words_of file) (i * 4 + k) 0
    inside h true e = sym (word_at i (lines_in file) k file (ltb-true i (lines_in file) e) h)
    inside h false e =
        let l : lines_in file ≤ i = ltb-false i (lines_in file) e in
        let n = words_length (lines_in file) file in
        ap (λ (x : Option Record). get_or (words_in x) k 0) (sym (line_none file i l)) ∙ word_bad k
        ∙ sym (get_or-eq_default (words_of file) 0 {n = i * 4 + k} (omega (arith, n, l)))

    go : (t : Bool) → ltb k 4 ≡ t → get_or (words_in (read_line (line_of i file))) k 0 ≡ cond (ltb k 4) (get_or (words_of file) (i * 4 + k) 0) 0
    go true e = rw e (inside (ltb-true k 4 e) (ltb i (lines_in file)) refl)
    go false e = rw e (sym (word_past (read_line (line_of i file)) k (ltb-false k 4 e)))

-- a record of a file, by what its line spells; zeros for a bad line
pub line_record : (file : List ℕ) (i : ℕ) {l : Option Record} → l ≡ read_line (line_of i file)
    → record_at (words_of file) i ≡ unwrap_or l (record { kind = 0; span = 0; position = 0; value = 0 })
unfolding word_in
line_record file i {l} e = rw (← field_is file i 0, ← field_is file i 1, ← field_is file i 2, ← field_is file i 3, ← e) (by l)
  where
    by : (l : Option Record) → ◌≡◌ {A = Record}
        (record { kind = word_in l 0; span = word_in l 1; position = word_in l 2; value = word_in l 3 })
        (unwrap_or l (record { kind = 0; span = 0; position = 0; value = 0 }))
    by (Some r) = refl
    by None = refl

-- row 1

pub bad_start : (file : List ℕ) → first_bad file ≡ bad_by (lines_in file - 0) (0 + 1) (drop (0 * line_length) file)
bad_start file = ap (λ (n : ℕ). bad_by n 1 file) (let e : lines_in file ≡ lines_in file - 0 = omega arith in e)

pub bad_end : (file : List ℕ) (i : ℕ) → lines_in file ≤ i → i ≤ lines_in file
    → bad_by (lines_in file - i) (i + 1) (drop (i * line_length) file) ≡ cond (eqb (length (drop (i * line_length) file)) 0) 0 (i + 1)
unfolding bad_by
bad_end file i h l = let e : lines_in file - i ≡ 0 = omega arith in rw e

bad_step : (n i : ℕ) (file : List ℕ) → bad_by (suc n) (i + 1) (drop (i * line_length) file)
    ≡ good_then (read_line (line_of i file)) (i + 1) (bad_by n (i + 1 + 1) (drop ((i + 1) * line_length) file))
unfolding bad_by
bad_step n i file =
    let e : i * line_length + line_length ≡ (i + 1) * line_length = omega arith in
    ap (λ (l : List ℕ). good_then (read_line (line_of i file)) (i + 1) (bad_by n (i + 1 + 1) l))
    (drop-drop line_length (i * line_length) file ∙ ap (λ (k : ℕ). drop k file) e)

module _ (file : List ℕ) (i : ℕ) (h : i < lines_in file) {l : Option Record} (L : l ≡ read_line (line_of i file)) where
  step : bad_by (lines_in file - i) (i + 1) (drop (i * line_length) file)
      ≡ good_then (read_line (line_of i file)) (i + 1) (bad_by (lines_in file - (i + 1)) (i + 1 + 1) (drop ((i + 1) * line_length) file))
  step =
      let e : lines_in file - i ≡ suc (lines_in file - (i + 1)) = omega arith in
      ap (λ (n : ℕ). bad_by n (i + 1) (drop (i * line_length) file)) e ∙ bad_step (lines_in file - (i + 1)) i file

  pub bad_here : l ≡ None → bad_by (lines_in file - i) (i + 1) (drop (i * line_length) file) ≡ i + 1
  bad_here e =
      step ∙ ap (λ (x : Option Record). good_then x (i + 1) (bad_by (lines_in file - (i + 1)) (i + 1 + 1) (drop ((i + 1) * line_length) file))) (sym L ∙ e)

  pub bad_next : {r : Record} → l ≡ Some r
      → bad_by (lines_in file - i) (i + 1) (drop (i * line_length) file) ≡ bad_by (lines_in file - (i + 1)) (i + 1 + 1) (drop ((i + 1) * line_length) file)
  bad_next e =
      step ∙ ap (λ (x : Option Record). good_then x (i + 1) (bad_by (lines_in file - (i + 1)) (i + 1 + 1) (drop ((i + 1) * line_length) file))) (sym L ∙ e)

pub bad_none : (file : List ℕ) (i : ℕ) → lines_in file ≤ i → i ≤ lines_in file → length file % line_length ≡ 0
    → bad_by (lines_in file - i) (i + 1) (drop (i * line_length) file) ≡ 0
bad_none file i h l z =
    let e : eqb (length (drop (i * line_length) file)) 0 ≡ true = eq-eqb (length (drop (i * line_length) file)) 0
    (omega (arith, length-drop (i * line_length) file)) in
    bad_end file i h l ∙ rw e

pub bad_rest : (file : List ℕ) (i : ℕ) → lines_in file ≤ i → i ≤ lines_in file → (length file % line_length ≡ 0 → ⊥)
    → bad_by (lines_in file - i) (i + 1) (drop (i * line_length) file) ≡ lines_in file + 1
bad_rest file i h l z =
    let e : eqb (length (drop (i * line_length) file)) 0 ≡ false = ne_eqb (length (drop (i * line_length) file)) 0
    (λ x. z (omega (arith, length-drop (i * line_length) file, x))) in
    bad_end file i h l ∙ rw e (let y : i + 1 ≡ lines_in file + 1 = omega arith in y)

-- row 1 as a result

pub no_record : (l : Option Record) → is_some l ≡ false → l ≡ None
no_record (Some r) e = cc
no_record None e = refl

pub a_record : (l : Option Record) → is_some l ≡ true → (r : Record) × (l ≡ Some r)
a_record (Some r) e = (r, refl)
a_record None e = cc

pub row_one_at : (file : List ℕ) (n : ℕ) → first_bad file ≡ suc n → refused BadLine (n + 1) ≡ row_one file
row_one_at file n e =
    let t : eqb (first_bad file) 0 ≡ false = ne_eqb (first_bad file) 0 (λ z. omega (arith, e, z)) in
    let x : n + 1 ≡ suc n = omega arith in
    rw (t, e, x)

pub row_one_end : (file : List ℕ) (i : ℕ) → first_bad file ≡ bad_by (lines_in file - i) (i + 1) (drop (i * line_length) file) → lines_in file ≤ i
    → i ≤ lines_in file → cond (eqb (length file % line_length) 0) (Ok tt) (refused BadLine (lines_in file + 1)) ≡ row_one file
row_one_end file i b h l = go (eqb (length file % line_length) 0) refl
  where
    go : (t : Bool) → eqb (length file % line_length) 0 ≡ t → cond t (Ok (tt {0})) (refused BadLine (lines_in file + 1)) ≡ row_one file
    go true e = let x : first_bad file ≡ 0 = b ∙ bad_none file i h l (eqb-true _ 0 e) in rw x
    go false e = row_one_at file (lines_in file) (b ∙ bad_rest file i h l (eqb-false _ 0 e) ∙ omega arith)

pub row_one_none : (file : List ℕ) {r : Result (Unit {0}) Refused} → r ≡ row_one file → r ≡ Ok tt → first_bad file ≡ 0
row_one_none file {r} e o = go (eqb (first_bad file) 0) refl (sym e ∙ o)
  where
    go : (t : Bool) → eqb (first_bad file) 0 ≡ t → cond t (Ok (tt {0})) (refused BadLine (first_bad file)) ≡ Ok (tt {0}) → first_bad file ≡ 0
    go true x y = eqb-true (first_bad file) 0 x
    go false x y = cc

-- lines

pub lines_more : (n : ℕ) (w : List ℕ) → lines_by (n + 1) w ≡ lines_by n w ++ lines_by 1 (drop (n * 4) w)
unfolding lines_by
lines_more zero w = refl
lines_more (suc n) w =
    let e : suc n + 1 ≡ suc (n + 1) = omega arith in
    let m : 4 + n * 4 ≡ suc n * 4 = omega arith in
    let r = record_line (get_or w 0 0) (get_or w 1 0) (get_or w 2 0) (get_or w 3 0) in
    rw e (ap (λ (l : List ℕ). r ++ l) (lines_more n (drop 4 w)
    ∙ ap (λ (l : List ℕ). lines_by n (drop 4 w) ++ lines_by 1 l) (drop-drop (n * 4) 4 w ∙ ap (λ (k : ℕ). drop k w) m))
    ∙ sym (append_assoc r (lines_by n (drop 4 w)) (lines_by 1 (drop (suc n * 4) w))))

-- the words of a file for the shape check

pub records_is : (file : List ℕ) → records_of (words_of file) ≡ lines_in file
records_is file = let e = words_length (lines_in file) file in omega (arith, e)

pub words_even : (file : List ℕ) → length (words_of file) % 4 ≡ 0
words_even file = let e = words_length (lines_in file) file in omega (arith, e)

pub words_whole : (file : List ℕ) → true ≡ (length (words_of file) % 4 == 0)
words_whole file = sym (eq-eqb (length (words_of file) % 4) 0 (words_even file))

pub lines_length : (n : ℕ) (w : List ℕ) → length (lines_by n w) ≡ n * line_length
unfolding lines_by
lines_length zero w = refl
lines_length (suc n) w =
    let l = line_size_lem (get_or w 0 0) (get_or w 1 0) (get_or w 2 0) (get_or w 3 0) in
    let r = lines_length n (drop 4 w) in
    length-append (record_line (get_or w 0 0) (get_or w 1 0) (get_or w 2 0) (get_or w 3 0)) (lines_by n (drop 4 w)) ∙ omega (arith, l, r)
