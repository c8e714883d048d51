-- Row 10's place is 'the index of the first record up to which no table agrees' (`first_disagreement`): no table's records are the given ones up to it, and
-- for every smaller index some table's are. Assumes nothing.
use Prim.Native.Nat.{ℕ, zero, suc, ◌+◌, ◌*◌, ◌/◌, ◌%◌, ◌≤◌, ◌<◌}
use native.Mathlib.Omega.{arith}
use mathlib.Core.Path.{◌≡◌, refl, sym, ap, subst, ◌∙◌}
use mathlib.Core.Bool.{Bool, true, false, not, cond}
use mathlib.Core.List.{List}
use lib.ListN.{length, take, get_or, length-take}
use lib.Seq.{get_or-take, length-take-le}
use lib.Dec.{eqb, ltb}
use borrow.Author.Tests.{ltb-true, lt-ltb, not-true, not-false}
use Rattle.std.specs.Prelude.{Ok}
use Rattle.words.specs.Record.{field_of, kind_at, span_at, value_at}
use Rattle.tree.specs.Check.{shape_of, records_of}
use Rattle.column_lines.specs.Numeral.{word_end}
use Rattle.constant_tables.specs.Form.{local_definition_kind, integer_kind, float_kind, name_kind}
use Rattle.constant_tables.specs.Entry.{Entry, entry, is_text, table_bytes, record_kind, table_kind, table_records}
use Rattle.constant_tables.specs.Table.{list_from, head_is, in_definition, agrees_at, not_table, entries_of}
use Rattle.constant_tables.specs.Convert.{table_rows}
use Rattle.constant_tables.proofs.TableLines.{Text, text_parts, text_yes, Good}
use Rattle.constant_tables.proofs.Search.{first_least, first_holds, list_length, list_get}
use Rattle.constant_tables.proofs.Lists.{no_entry, table_length}
use Rattle.constant_tables.proofs.Converting.{differs}
use Rattle.constant_tables.proofs.Documents.{ValueKind, Document, fine_document, name_text, value_bits, agreed, agreed_inside, agreed_span}
use Rattle.constant_tables.proofs.Documents.{definition_parts, name_parts, value_parts, tabular_agrees, table_tabular}
use Rattle.constant_tables.proofs.RoundTrips.{rows_passed, passed_rows, entries_good, table_lines, table_entries, table_count}
use Rattle.constant_tables.proofs.RoundTrips.{Same, same_words, same_document, same_definition, same_name, same_value, value_kind_back, table_kind_is}

-- no table agrees up to there

-- whether a record agrees is seen from it and from the first
head_same : (t w : List ℕ) (i kind span : ℕ) → Same t w i → head_is t i kind span ≡ head_is w i kind span
unfolding head_is
head_same t w i kind span s = rw (s.kind, s.span, s.position)

part_same : (t w : List ℕ) (i part : ℕ) → Same t w i → in_definition part t i ≡ in_definition part w i
unfolding in_definition
part_same t w i zero s = rw (head_same t w i local_definition_kind 3 s, s.value)
part_same t w i (suc zero) s = head_same t w i name_kind 1 s
part_same t w i (suc (suc part)) s = rw (head_same t w i integer_kind 1 s, head_same t w i float_kind 1 s)

agrees_same : (t w : List ℕ) (i : ℕ) → Same t w 0 → Same t w i → agrees_at t i ≡ agrees_at w i
unfolding agrees_at
agrees_same t w zero z s = ap (λ (n : ℕ). eqb (n % 3) 1) z.span
agrees_same t w (suc i) z s = rw (z.span, part_same t w (suc i) (i % 3) s)

taken_same : (t w : List ℕ) (n i : ℕ) → take (n * 4) t ≡ take (n * 4) w → i < n → Same t w i
unfolding field_of
taken_same t w n i e h =
    let word : (b : ℕ) → b < 4 → get_or t (i * 4 + b) 0 ≡ get_or w (i * 4 + b) 0
    = λ b l. sym (get_or-take (n * 4) t (i * 4 + b) 0 (omega (arith, h, l))) ∙ ap (λ (x : List ℕ). get_or x (i * 4 + b) 0) e
    ∙ get_or-take (n * 4) w (i * 4 + b) 0 (omega (arith, h, l)) in
    record { kind = word 0 (omega arith); span = word 1 (omega arith); position = word 2 (omega arith); value = word 3 (omega arith) }

-- the taken part of words that are long enough is long
long_enough : (t w : List ℕ) (m : ℕ) → take m t ≡ take m w → m ≤ length w → m ≤ length t
long_enough t w m e h =
    let a = length-take-le m w h in
    let b : length (take m t) ≡ m = ap length e ∙ a in
    let c : length (take m t) ≤ length t = simp length-take (omega arith) in
    omega (arith, b, c)

-- one does for every smaller index

-- the text, or 1, and the bits, or 0: what a table has where the words have none
mended : List ℕ → ℕ → Entry
mended w q =
    entry (cond (is_text (value_at w (q * 3 + 1 + 1))) (value_at w (q * 3 + 1 + 1)) 1) (table_kind (kind_at w (q * 3 + 1 + 2)))
    (cond (ltb (value_at w (q * 3 + 1 + 2)) word_end) (value_at w (q * 3 + 1 + 2)) 0)

mended_good : (w : List ℕ) (q : ℕ) → Good (mended w q)
unfolding mended
mended_good w q = record {
  text = text (is_text (value_at w (q * 3 + 1 + 1))) refl;
  kind = table_kind_is (kind_at w (q * 3 + 1 + 2));
  value = value (ltb (value_at w (q * 3 + 1 + 2)) word_end) refl;
}
  where
    text : (b : Bool) → is_text (value_at w (q * 3 + 1 + 1)) ≡ b → Text (cond b (value_at w (q * 3 + 1 + 1)) 1)
    text true e = text_parts (value_at w (q * 3 + 1 + 1)) e
    text false e = record { some = omega arith; limit = omega arith }

    value : (b : Bool) → ltb (value_at w (q * 3 + 1 + 2)) word_end ≡ b → cond b (value_at w (q * 3 + 1 + 2)) 0 < word_end
    value true e = ltb-true (value_at w (q * 3 + 1 + 2)) word_end e
    value false e = omega arith

module _ (w : List ℕ) (d : Document w) (n j : ℕ) (S : span_at w 0 ≡ n * 3 + 1) (J : j < records_of w) (A : (m : ℕ) → m ≤ j → agrees_at w m ≡ true) where
  abbrev es : List Entry
  es = list_from (mended w) 0 n

  size : length es ≡ n
  size = list_length (mended w) 0 n

  entry_is : (q : ℕ) → q < n → get_or es q no_entry ≡ mended w q
  entry_is q h = list_get (mended w) 0 n q no_entry h ∙ ap (mended w) (let e : 0 + q ≡ q = omega arith in e)

  text_at : (q : ℕ) → q < n → Text (value_at w (q * 3 + 1 + 1)) → (get_or es q no_entry).text ≡ value_at w (q * 3 + 1 + 1)
  unfolding mended
  text_at q h t = ap (λ (e : Entry). e.text) (entry_is q h) ∙ rw (text_yes (value_at w (q * 3 + 1 + 1)) t)

  kind_at_lem : (q : ℕ) → q < n → ValueKind (kind_at w (q * 3 + 1 + 2)) → record_kind (get_or es q no_entry).kind ≡ kind_at w (q * 3 + 1 + 2)
  unfolding mended
  kind_at_lem q h k = ap (λ (e : Entry). record_kind e.kind) (entry_is q h) ∙ value_kind_back (kind_at w (q * 3 + 1 + 2)) k

  value_at_lem : (q : ℕ) → q < n → value_at w (q * 3 + 1 + 2) < word_end → (get_or es q no_entry).value ≡ value_at w (q * 3 + 1 + 2)
  unfolding mended
  value_at_lem q h b = ap (λ (e : Entry). e.value) (entry_is q h) ∙ rw (lt-ltb (value_at w (q * 3 + 1 + 2)) word_end b)

  mended_same : (m : ℕ) → m ≤ j → Same (table_records (value_at w 0) es) w m
  mended_same zero h = same_document w (value_at w 0) es d.kind (S ∙ ap (λ (k : ℕ). k * 3 + 1) (sym size)) d.position refl
  mended_same (suc i) h = go (i % 3) refl
    where
      inside : suc i < n * 3 + 1
      inside = let x = agreed_inside w i (A (suc i) h) in omega (arith, x, S)

      q : i / 3 < n
      q = let x = inside in omega (arith, x)

      l : i / 3 < length es
      l = let x = q in let z = size in omega (arith, x, z)

      part : (p : ℕ) → i % 3 ≡ p → in_definition p w (i / 3 * 3 + 1 + p) ≡ true
      part p e =
          subst (λ (k : ℕ). in_definition p w k ≡ true) (let x : suc i ≡ i / 3 * 3 + 1 + p = omega (arith, e) in x) (agreed w i p (A (suc i) h) e)

      same : (p : ℕ) → i % 3 ≡ p → Same (table_records (value_at w 0) es) w (i / 3 * 3 + 1 + p) → Same (table_records (value_at w 0) es) w (suc i)
      same p e s = subst (λ (k : ℕ). Same (table_records (value_at w 0) es) w k) (let x : i / 3 * 3 + 1 + p ≡ suc i = omega (arith, e) in x) s

      go : (p : ℕ) → i % 3 ≡ p → Same (table_records (value_at w 0) es) w (suc i)
      go zero e =
          let x = definition_parts w (i / 3 * 3 + 1 + 0) (part 0 e) in
          same 0 e (same_definition w (value_at w 0) es (i / 3) l x.0.kind_is x.0.span_is x.0.at_zero x.1)
      go (suc zero) e =
          let x = name_parts w (i / 3 * 3 + 1 + 1) (part 1 e) in
          let t = name_text w d (i / 3 * 3 + 1 + 1) (omega (arith, e, h, J)) x.kind_is in
          same 1 e (same_name w (value_at w 0) es (i / 3) l x.kind_is x.span_is x.at_zero (text_at (i / 3) q t))
      go (suc (suc zero)) e =
          let x = value_parts w (i / 3 * 3 + 1 + 2) (part 2 e) in
          let b = value_bits w d (i / 3 * 3 + 1 + 2) (omega (arith, e, h, J)) x.kind_is in
          same 2 e (same_value w (value_at w 0) es (i / 3) l (kind_at_lem (i / 3) q x.kind_is) x.span_is x.at_zero (value_at_lem (i / 3) q b))
      go (suc (suc (suc p))) e = absurd (omega (arith, e))

  entries_mended : (q : ℕ) → q < length es → Good (get_or es q no_entry)
  entries_mended q h = let z = size in subst Good (sym (entry_is q (omega (arith, h, z)))) (mended_good w q)

  mended_rows : table_rows (table_bytes es) (value_at w 0) ≡ Ok tt
  mended_rows =
      let c = table_count es entries_mended in
      let z = size in
      let a = d.within in
      let m = d.limit in
      passed_rows (table_bytes es) (value_at w 0)
      (record { lines = table_lines es entries_mended; limit = omega (arith, c, z, S, a, m); is_text = d.file })

  -- how far a table reaches that agrees
  last_inside : j < n * 3 + 1
  last_inside = go j (A j (omega arith))
    where
      go : (m : ℕ) → agrees_at w m ≡ true → m < n * 3 + 1
      go zero e = omega arith
      go (suc m) e = let x = agreed_inside w m e in omega (arith, x, S)

  mended_agrees : take ((j + 1) * 4) (table_records (value_at w 0) (entries_of (table_bytes es))) ≡ take ((j + 1) * 4) w
  mended_agrees =
      let a = table_length (value_at w 0) es in
      let z = size in
      let i = last_inside in
      ap (λ (x : List Entry). take ((j + 1) * 4) (table_records (value_at w 0) x)) (table_entries es entries_mended)
      ∙ same_words (table_records (value_at w 0) es) w (j + 1) (omega (arith, a, z, i)) (omega (arith, J)) (λ m h. mended_same m (omega (arith, h)))

-- a table whose document has the given words up to record j
pub record Agrees (w : List ℕ) (j : ℕ) : Type 0 where
  pub table : List ℕ
  pub file : ℕ
  pub rows : table_rows table file ≡ Ok tt
  pub words : take ((j + 1) * 4) (table_records file (entries_of table)) ≡ take ((j + 1) * 4) w

pub record FirstDisagreement (w : List ℕ) (i : ℕ) : Type 0 where
  pub none : Agrees w i → ⊥
  pub before : (j : ℕ) → j < i → Agrees w j

pub first_disagreement : (w : List ℕ) → shape_of w ≡ Ok tt → not_table w < records_of w → FirstDisagreement w (not_table w)
first_disagreement w h l = record { none = no; before = one }
  where
    d : Document w
    d = fine_document w h

    agree : (j : ℕ) → j < not_table w → agrees_at w j ≡ true
    agree j x = not-false (agrees_at w j) (first_least (differs w) 0 (records_of w) j (omega arith) x)

    no : Agrees w (not_table w) → ⊥
    no a =
        let p = rows_passed a.table a.file a.rows in
        let t = table_records a.file (entries_of a.table) in
        let n = table_length a.file (entries_of a.table) in
        let long = long_enough t w ((not_table w + 1) * 4) a.words (omega (arith, l)) in
        let T = table_tabular a.file (entries_of a.table) p.is_text (entries_good a.table p.lines) in
        let x : agrees_at t (not_table w) ≡ true = tabular_agrees t (length (entries_of a.table)) (not_table w) T (omega (arith, long, n)) in
        let same : (i : ℕ) → i < not_table w + 1 → Same t w i = λ i. taken_same t w (not_table w + 1) i a.words in
        let y : agrees_at w (not_table w) ≡ true
        = sym (agrees_same t w (not_table w) (same 0 (omega arith)) (same (not_table w) (omega arith))) ∙ x in
        let z : not (agrees_at w (not_table w)) ≡ true = first_holds (differs w) 0 (records_of w) (omega (arith, l)) in
        let f : agrees_at w (not_table w) ≡ false = not-true (agrees_at w (not_table w)) z in
        let u : true ≡ false = sym y ∙ f in
        cc

    one : (j : ℕ) → j < not_table w → Agrees w j
    one j x =
        let m = agreed_span w (agree 0 (omega (arith, x))) in
        let s : span_at w 0 ≡ span_at w 0 / 3 * 3 + 1 = omega (arith, m) in
        let J : j < records_of w = omega (arith, x, l) in
        let A : (k : ℕ) → k ≤ j → agrees_at w k ≡ true = λ k y. agree k (omega (arith, x, y)) in
        record {
          table = table_bytes (list_from (mended w) 0 (span_at w 0 / 3));
          file = value_at w 0;
          rows = mended_rows w d (span_at w 0 / 3) j s J A;
          words = mended_agrees w d (span_at w 0 / 3) j s J A;
        }
