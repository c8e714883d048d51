-- The document of a table that passes rows 1 to 3 passes rows 2 to 4 (`table_fine`). Such a table comes back from its document byte for byte, with its file
-- number (`table_round_trip`); a document that passes rows 2 to 4 and 10 comes back from its lines word for word (`document_round_trip`). Assumes nothing.
use Prim.Native.Nat.{ℕ, zero, suc, ◌+◌, ◌-◌, ◌*◌, ◌/◌, ◌%◌, ◌≤◌, ◌<◌}
use native.Mathlib.Omega.{arith}
use mathlib.Core.Path.{◌≡◌, refl, sym, ap, subst, ◌∙◌}
use mathlib.Core.Bool.{Bool, true, false, not, cond}
use mathlib.Core.List.{List, ◌++◌}
use lib.ListN.{length, take, drop, get_or, replicate, take-append-drop, drop_of_length-le}
use lib.Seq.{drop-drop, ext_get_or, get_or-take, length-take-le, take_all}
use lib.Dec.{eqb, ltb}
use borrow.Author.Tests.{eq-eqb, le-leb, le-ltb, lt-ltb, eqb-true, ltb-false}
use Rattle.std.specs.Prelude.{Result, Ok, Err}
use Rattle.words.specs.declared.row.Row.TheVariants.{BadLine, BadLength, BadShape, NotATable}
use Rattle.words.specs.declared.row.Refused.{Refused}
use Rattle.words.specs.Record.{field_of, kind_at, span_at, position_at, value_at, most_records}
use Rattle.tree.specs.Check.{shape_of, records_of, refused}
use Rattle.column_files.specs.Convert.{answer_by, success}
use Rattle.constant_tables.specs.Form.{table_line_length, table_integer, table_float, integer_kind}
use Rattle.constant_tables.specs.Entry.{Entry, is_text, read_entry, entry_line, table_bytes, record_kind, table_kind, table_records}
use Rattle.constant_tables.specs.Table.{list_from, count_in, line_count, table_line, is_bad, bad_at, first_off, entry_in, line_entry, entries_of}
use Rattle.constant_tables.specs.Table.{not_table, entry_at, definition_count, entries_in}
use Rattle.constant_tables.specs.Convert.{table_rows, table_to_records, row_ten, document_rows, tabled, table_by, records_to_table}
use Rattle.std.specs.Prelude.{Option, Some, None}
use Rattle.constant_tables.proofs.TableLines.{Text, text_parts, text_yes, TableKind, is_integer, is_float, Good, spells, line_again, entry_read}
use Rattle.constant_tables.proofs.Search.{first_least, first_none, list_length, list_get, list_is}
use Rattle.constant_tables.proofs.Lists.{no_entry, bytes_length, bytes_line, table_word, table_length}
use Rattle.constant_tables.proofs.Converting.{differs}
use Rattle.constant_tables.proofs.Documents.{ValueKind, integer_value, float_value, Definition, Tabular, tabular_fine, tabular_agrees}
use Rattle.constant_tables.proofs.Documents.{fine_document, fine_tabular, table_tabular}

-- what passes rows 1 to 3

pub record Passes (table : List ℕ) (file : ℕ) : Type 0 where
  pub lines : line_count table ≤ first_off table
  pub limit : line_count table * 3 + 1 ≤ most_records
  pub is_text : Text file

no_row : {A : Type 0} {found : Refused} → ◌≡◌ {A = Result (Unit {0}) Refused} (Err found) (Ok tt) → A
no_row h = let z : ◌≡◌ {A = ℕ} 0 1 = cc in absurd (omega arith)

pub rows_passed : (table : List ℕ) (file : ℕ) → table_rows table file ≡ Ok tt → Passes table file
unfolding table_rows
rows_passed table file h =
    go (ltb (first_off table) (line_count table)) refl (ltb most_records (line_count table * 3 + 1)) refl (is_text file) refl h
  where
    go : (a : Bool) → ltb (first_off table) (line_count table) ≡ a → (b : Bool) → ltb most_records (line_count table * 3 + 1) ≡ b
        → (c : Bool) → is_text file ≡ c
        → cond a (refused BadLine (first_off table + 1)) (cond b (refused BadLength 0) (cond c (Ok (tt {0})) (refused BadShape 0))) ≡ Ok tt → Passes table file
    go true x b y c z e = no_row e
    go false x true y c z e = no_row e
    go false x false y false z e = no_row e
    go false x false y true z e =
        record {
          lines = ltb-false (first_off table) (line_count table) x;
          limit = ltb-false most_records (line_count table * 3 + 1) y;
          is_text = text_parts file z;
        }

pub passed_rows : (table : List ℕ) (file : ℕ) → Passes table file → table_rows table file ≡ Ok tt
unfolding table_rows
passed_rows table file p =
    let a = le-ltb (first_off table) (line_count table) p.lines in
    let b = le-ltb most_records (line_count table * 3 + 1) p.limit in
    rw (a, b, text_yes file p.is_text)

-- the entries of a table

good_line : (l : Option Entry) → is_bad l ≡ false → (e : Entry) × (l ≡ Some e)
good_line (Some x) e = (x, refl)
good_line None e = cc

module _ (table : List ℕ) (h : line_count table ≤ first_off table) where
  line_good : (j : ℕ) → j < line_count table → (e : Entry) × (table_line table j ≡ Some e)
  line_good j l = good_line (table_line table j) (first_least (bad_at table) 0 (line_count table) j (omega arith) (omega (arith, l, h)))

  entry_good : (j : ℕ) → j < line_count table → Good (line_entry table j)
  entry_good j l =
      let g = line_good j l in
      subst Good (ap entry_in (sym g.1)) (spells _ g.1).good

  line_back : (j : ℕ) → j < line_count table → entry_line (line_entry table j) ≡ take table_line_length (drop (j * table_line_length) table)
  line_back j l =
      let g = line_good j l in
      ap (λ (x : Option Entry). entry_line (entry_in x)) g.1 ∙ line_again (take table_line_length (drop (j * table_line_length) table)) g.1

  pub entries_good : (j : ℕ) → j < length (entries_of table) → Good (get_or (entries_of table) j no_entry)
  entries_good j l =
      let n = list_length (line_entry table) 0 (line_count table) in
      let b : j < line_count table = omega (arith, n, l) in
      let e : get_or (entries_of table) j no_entry ≡ line_entry table j
      = list_get (line_entry table) 0 (line_count table) j no_entry b ∙ ap (line_entry table) (let e : 0 + j ≡ j = omega arith in e) in
      subst Good (sym e) (entry_good j b)

count_covers : (bytes : ℕ) → bytes ≤ count_in bytes * 34
count_covers bytes = by (eqb (bytes % 34) 0) refl
  where
    by : (t : Bool) → eqb (bytes % 34) 0 ≡ t → bytes ≤ (bytes / 34 + cond t 0 1) * 34
    by true e = let x = eqb-true (bytes % 34) 0 e in omega (arith, x)
    by false e = omega arith

bytes_from : (n k : ℕ) (table : List ℕ) → line_count table ≤ first_off table → k + n ≡ line_count table
    → table_bytes (list_from (line_entry table) k n) ≡ drop (k * 34) table
unfolding table_bytes list_from
bytes_from zero k table h e =
    sym (drop_of_length-le table {i = k * 34} (let c = count_covers (length table) in omega (arith, e, c)))
bytes_from (suc n) k table h e =
    let r = bytes_from n (k + 1) table h (omega (arith, e)) in
    let l = line_back table h k (omega (arith, e)) in
    rw (l, r) (ap (λ (x : List ℕ). take 34 (drop (k * 34) table) ++ x)
    (sym (drop-drop 34 (k * 34) table ∙ ap (λ (m : ℕ). drop m table) (let y : k * 34 + 34 ≡ (k + 1) * 34 = omega arith in y)))
    ∙ take-append-drop 34 (drop (k * 34) table))

-- a table that passes row 1 comes back from its entries
pub table_back : (table : List ℕ) → line_count table ≤ first_off table → table_bytes (entries_of table) ≡ table
table_back table h = bytes_from (line_count table) 0 table h (omega arith)

-- and good entries from their table

module _ (es : List Entry) (g : (j : ℕ) → j < length es → Good (get_or es j no_entry)) where
  count_is : line_count (table_bytes es) ≡ length es
  count_is =
      let n = bytes_length es in
      let t : eqb (length (table_bytes es) % 34) 0 ≡ true = eq-eqb (length (table_bytes es) % 34) 0 (omega (arith, n)) in
      rw t (omega (arith, n))

  line_is : (j : ℕ) → j < length es → table_line (table_bytes es) j ≡ Some (get_or es j no_entry)
  line_is j h = ap read_entry (bytes_line es j h) ∙ entry_read (get_or es j no_entry) (g j h)

  pub table_lines : line_count (table_bytes es) ≤ first_off (table_bytes es)
  table_lines =
      let c = count_is in
      let f = first_none (bad_at (table_bytes es)) 0 (line_count (table_bytes es)) (λ j a l. ap is_bad (line_is j (omega (arith, c, l)))) in
      omega (arith, f)

  pub table_entries : entries_of (table_bytes es) ≡ es
  table_entries =
      ap (λ (n : ℕ). list_from (line_entry (table_bytes es)) 0 n) count_is
      ∙ list_is (line_entry (table_bytes es)) es no_entry (λ j h. ap entry_in (line_is j h))

  pub table_count : line_count (table_bytes es) ≡ length es
  table_count = count_is

-- the entries of a document

kind_back : (k : ℕ) → TableKind k → table_kind (record_kind k) ≡ k
unfolding table_kind record_kind
kind_back k is_integer = refl
kind_back k is_float = refl

module _ (file : ℕ) (es : List Entry) (g : (j : ℕ) → j < length es → Good (get_or es j no_entry)) where
  entry_back : (k : ℕ) → k < length es → entry_at (table_records file es) k ≡ get_or es k no_entry
  entry_back k h =
      let e = get_or es k no_entry in
      let n : k * 3 + 2 ≡ k * 3 + 1 + 1 = omega arith in
      let m : k * 3 + 2 + 1 ≡ k * 3 + 1 + 2 = omega arith in
      let a : value_at (table_records file es) (k * 3 + 2) ≡ e.text
      = ap (value_at (table_records file es)) n ∙ table_word file es k 1 3 h (omega arith) (omega arith) in
      let b : kind_at (table_records file es) (k * 3 + 2 + 1) ≡ record_kind e.kind
      = ap (kind_at (table_records file es)) m ∙ table_word file es k 2 0 h (omega arith) (omega arith) in
      let c : value_at (table_records file es) (k * 3 + 2 + 1) ≡ e.value
      = ap (value_at (table_records file es)) m ∙ table_word file es k 2 3 h (omega arith) (omega arith) in
      rw (a, b, c, kind_back e.kind (g k h).kind)

  definitions_is : definition_count (table_records file es) ≡ length es
  definitions_is = let l = table_length file es in omega (arith, l)

  pub document_entries : entries_in (table_records file es) ≡ es
  document_entries =
      ap (λ (n : ℕ). list_from (entry_at (table_records file es)) 0 n) definitions_is ∙ list_is (entry_at (table_records file es)) es no_entry entry_back

-- the document of a table that passes rows 1 to 3 passes rows 2 to 4
pub table_fine : (table : List ℕ) (file : ℕ) → table_rows table file ≡ Ok tt → shape_of (table_records file (entries_of table)) ≡ Ok tt
table_fine table file h =
    let p = rows_passed table file h in
    let l = p.limit in
    let n = list_length (line_entry table) 0 (line_count table) in
    tabular_fine (table_records file (entries_of table)) (length (entries_of table))
    (table_tabular file (entries_of table) p.is_text (entries_good table p.lines)) (omega (arith, n, l))

-- and row 10
pub table_agrees : (table : List ℕ) (file : ℕ) → table_rows table file ≡ Ok tt → document_rows (table_records file (entries_of table)) ≡ Ok tt
unfolding row_ten
table_agrees table file h =
    let p = rows_passed table file h in
    let w = table_records file (entries_of table) in
    let l = table_length file (entries_of table) in
    let t = table_tabular file (entries_of table) p.is_text (entries_good table p.lines) in
    let f = first_none (differs w) 0 (records_of w)
    (λ j a b. ap not (tabular_agrees w (length (entries_of table)) j t (omega (arith, b, l)))) in
    let n : ltb (not_table w) (records_of w) ≡ false = le-ltb (not_table w) (records_of w) (omega (arith, f)) in
    rw (table_fine table file h, n)

-- a table comes back from its document byte for byte, with its file number
pub table_round_trip : (table : List ℕ) (file room : ℕ) → table_rows table file ≡ Ok tt → length table ≤ room
    → records_to_table (table_records file (entries_of table)) room
    ≡ record { reply = tabled (line_count table) file; output = table ++ replicate (room - length table) 0 }
unfolding records_to_table table_by field_of
table_round_trip table file room h l =
    let p = rows_passed table file h in
    let g = entries_good table p.lines in
    let e : table_bytes (entries_in (table_records file (entries_of table))) ≡ table
    = ap table_bytes (document_entries file (entries_of table) g) ∙ table_back table p.lines in
    let c : definition_count (table_records file (entries_of table)) ≡ line_count table
    = definitions_is file (entries_of table) g ∙ list_length (line_entry table) 0 (line_count table) in
    rw (table_agrees table file h, e, c) (rw (le-leb (length table) room l))

-- records word for word

pub record Same (t w : List ℕ) (i : ℕ) : Type 0 where
  pub kind : kind_at t i ≡ kind_at w i
  pub span : span_at t i ≡ span_at w i
  pub position : position_at t i ≡ position_at w i
  pub value : value_at t i ≡ value_at w i

same_field : (t w : List ℕ) (i b : ℕ) → Same t w i → b < 4 → field_of t i b ≡ field_of w i b
same_field t w i zero s h = s.kind
same_field t w i (suc zero) s h = s.span
same_field t w i (suc (suc zero)) s h = s.position
same_field t w i (suc (suc (suc zero))) s h = s.value
same_field t w i (suc (suc (suc (suc b)))) s h = absurd (omega arith)

field_word : (w : List ℕ) (i b : ℕ) → b < 4 → field_of w i b ≡ get_or w (i * 4 + b) 0
unfolding field_of
field_word w i b h = rw (lt-ltb b 4 h)

same_word : (t w : List ℕ) (m : ℕ) → Same t w (m / 4) → get_or t m 0 ≡ get_or w m 0
same_word t w m s =
    let e : m / 4 * 4 + m % 4 ≡ m = omega arith in
    ap (λ (k : ℕ). get_or t k 0) (sym e) ∙ sym (field_word t (m / 4) (m % 4) (omega arith)) ∙ same_field t w (m / 4) (m % 4) s (omega arith)
    ∙ field_word w (m / 4) (m % 4) (omega arith) ∙ ap (λ (k : ℕ). get_or w k 0) e

-- the words of records that are the same
pub same_words : (t w : List ℕ) (n : ℕ) → n * 4 ≤ length t → n * 4 ≤ length w → ((i : ℕ) → i < n → Same t w i) → take (n * 4) t ≡ take (n * 4) w
same_words t w n a b s =
    let x = length-take-le (n * 4) t a in
    let y = length-take-le (n * 4) w b in
    ext_get_or 0 (take (n * 4) t) (take (n * 4) w) (x ∙ sym y)
    (λ m h.
    let l : m < n * 4 = omega (arith, x, h) in
    get_or-take (n * 4) t m 0 l ∙ same_word t w m (s (m / 4) (omega (arith, l))) ∙ sym (get_or-take (n * 4) w m 0 l))

-- record i of a table's document and of words, which agree there; its definition's entry has the words' name and value
module _ (w : List ℕ) (file : ℕ) (es : List Entry) where
  abbrev t : List ℕ
  t = table_records file es

  pub same_document : kind_at w 0 ≡ 1 → span_at w 0 ≡ length es * 3 + 1 → position_at w 0 ≡ 0 → value_at w 0 ≡ file → Same t w 0
  unfolding field_of
  same_document k s p v = record { kind = sym k; span = sym s; position = sym p; value = sym v }

  module _ (q : ℕ) (h : q < length es) where
    pub same_definition : kind_at w (q * 3 + 1 + 0) ≡ 10 → span_at w (q * 3 + 1 + 0) ≡ 3 → position_at w (q * 3 + 1 + 0) ≡ 0 → value_at w (q * 3 + 1 + 0) ≡ 0
        → Same t w (q * 3 + 1 + 0)
    same_definition k s p v = record {
      kind = table_word file es q 0 0 h (omega arith) (omega arith) ∙ sym k;
      span = table_word file es q 0 1 h (omega arith) (omega arith) ∙ sym s;
      position = table_word file es q 0 2 h (omega arith) (omega arith) ∙ sym p;
      value = table_word file es q 0 3 h (omega arith) (omega arith) ∙ sym v;
    }

    pub same_name : kind_at w (q * 3 + 1 + 1) ≡ 40 → span_at w (q * 3 + 1 + 1) ≡ 1 → position_at w (q * 3 + 1 + 1) ≡ 0
        → (get_or es q no_entry).text ≡ value_at w (q * 3 + 1 + 1) → Same t w (q * 3 + 1 + 1)
    same_name k s p v = record {
      kind = table_word file es q 1 0 h (omega arith) (omega arith) ∙ sym k;
      span = table_word file es q 1 1 h (omega arith) (omega arith) ∙ sym s;
      position = table_word file es q 1 2 h (omega arith) (omega arith) ∙ sym p;
      value = table_word file es q 1 3 h (omega arith) (omega arith) ∙ v;
    }

    pub same_value : record_kind (get_or es q no_entry).kind ≡ kind_at w (q * 3 + 1 + 2) → span_at w (q * 3 + 1 + 2) ≡ 1 → position_at w (q * 3 + 1 + 2) ≡ 0
        → (get_or es q no_entry).value ≡ value_at w (q * 3 + 1 + 2) → Same t w (q * 3 + 1 + 2)
    same_value k s p v = record {
      kind = table_word file es q 2 0 h (omega arith) (omega arith) ∙ k;
      span = table_word file es q 2 1 h (omega arith) (omega arith) ∙ sym s;
      position = table_word file es q 2 2 h (omega arith) (omega arith) ∙ sym p;
      value = table_word file es q 2 3 h (omega arith) (omega arith) ∙ v;
    }

-- the kind of a value's record comes back
pub value_kind_back : (k : ℕ) → ValueKind k → record_kind (table_kind k) ≡ k
unfolding table_kind record_kind
value_kind_back k integer_value = refl
value_kind_back k float_value = refl

pub table_kind_is : (k : ℕ) → TableKind (table_kind k)
unfolding table_kind
table_kind_is k = go (eqb k integer_kind)
  where
    go : (t : Bool) → TableKind (cond t table_integer table_float)
    go true = is_integer
    go false = is_float

-- words that are a table's document are that of their entries
module _ (w : List ℕ) (n : ℕ) (T : Tabular w n) where
  abbrev es : List Entry
  es = list_from (entry_at w) 0 n

  size : length es ≡ n
  size = list_length (entry_at w) 0 n

  entry_is : (q : ℕ) → q < n → get_or es q no_entry ≡ entry_at w q
  entry_is q h = list_get (entry_at w) 0 n q no_entry h ∙ ap (entry_at w) (let e : 0 + q ≡ q = omega arith in e)

  name_at : (q : ℕ) → q < n → (get_or es q no_entry).text ≡ value_at w (q * 3 + 1 + 1)
  name_at q h = ap (λ (e : Entry). e.text) (entry_is q h) ∙ ap (value_at w) (let e : q * 3 + 2 ≡ q * 3 + 1 + 1 = omega arith in e)

  value_at_lem : (q : ℕ) → q < n → (get_or es q no_entry).value ≡ value_at w (q * 3 + 1 + 2)
  value_at_lem q h = ap (λ (e : Entry). e.value) (entry_is q h) ∙ ap (value_at w) (let e : q * 3 + 2 + 1 ≡ q * 3 + 1 + 2 = omega arith in e)

  kind_at_lem : (q : ℕ) → q < n → record_kind (get_or es q no_entry).kind ≡ kind_at w (q * 3 + 1 + 2)
  kind_at_lem q h =
      ap (λ (e : Entry). record_kind e.kind) (entry_is q h)
      ∙ ap (λ (i : ℕ). record_kind (table_kind (kind_at w i))) (let e : q * 3 + 2 + 1 ≡ q * 3 + 1 + 2 = omega arith in e)
      ∙ value_kind_back (kind_at w (q * 3 + 1 + 2)) (T.each q h).value_kind

  same_at : (i : ℕ) → i < n * 3 + 1 → Same (table_records (value_at w 0) es) w i
  same_at zero h = same_document w (value_at w 0) es T.kind (T.span ∙ ap (λ (m : ℕ). m * 3 + 1) (sym size)) T.position refl
  same_at (suc i) h = go (i % 3) refl
    where
      q : i / 3 < n
      q = omega (arith, h)

      l : i / 3 < length es
      l = let z = size in omega (arith, z, h)

      D : Definition w (i / 3 * 3 + 1)
      D = T.each (i / 3) q

      z : i / 3 * 3 + 1 ≡ i / 3 * 3 + 1 + 0
      z = omega arith

      go : (part : ℕ) → i % 3 ≡ part → Same (table_records (value_at w 0) es) w (suc i)
      go zero p =
          subst (λ (j : ℕ). Same (table_records (value_at w 0) es) w j) (let e : i / 3 * 3 + 1 + 0 ≡ suc i = omega (arith, p) in e)
          (same_definition w (value_at w 0) es (i / 3) l (ap (kind_at w) (sym z) ∙ D.kind) (ap (span_at w) (sym z) ∙ D.span)
          (ap (position_at w) (sym z) ∙ D.position) (ap (value_at w) (sym z) ∙ D.zero_value))
      go (suc zero) p =
          subst (λ (j : ℕ). Same (table_records (value_at w 0) es) w j) (let e : i / 3 * 3 + 1 + 1 ≡ suc i = omega (arith, p) in e)
          (same_name w (value_at w 0) es (i / 3) l D.name_kind D.name_span D.name_position (name_at (i / 3) q))
      go (suc (suc zero)) p =
          subst (λ (j : ℕ). Same (table_records (value_at w 0) es) w j) (let e : i / 3 * 3 + 1 + 2 ≡ suc i = omega (arith, p) in e)
          (same_value w (value_at w 0) es (i / 3) l (kind_at_lem (i / 3) q) D.value_span D.value_position (value_at_lem (i / 3) q))
      go (suc (suc (suc part))) p = absurd (omega (arith, p))

  pub document_back : table_records (value_at w 0) es ≡ w
  document_back =
      let a = table_length (value_at w 0) es in
      let s = size in
      let b = T.long in
      sym (take_all ((n * 3 + 1) * 4) (table_records (value_at w 0) es) (omega (arith, a, s)))
      ∙ same_words (table_records (value_at w 0) es) w (n * 3 + 1) (omega (arith, a, s)) (omega (arith, b)) same_at
      ∙ take_all ((n * 3 + 1) * 4) w (omega (arith, b))

  pub document_good : (j : ℕ) → j < length es → Good (get_or es j no_entry)
  document_good j h =
      let s = size in
      let l : j < n = omega (arith, s, h) in
      let D = T.each j l in
      record {
        text = subst Text (sym (name_at j l)) D.name;
        kind = subst TableKind (sym (ap (λ (e : Entry). e.kind) (entry_is j l))) (table_kind_is (kind_at w (j * 3 + 2 + 1)));
        value = let v = value_at_lem j l in let b = D.bits in omega (arith, v, b);
      }

row_ten_parts : (s : Result (Unit {0}) Refused) (w : List ℕ) → s ≡ shape_of w → row_ten s w ≡ Ok tt → (shape_of w ≡ Ok tt) × (records_of w ≤ not_table w)
unfolding row_ten
row_ten_parts (Err found) w e h = no_row h
row_ten_parts (Ok u) w e h = go (ltb (not_table w) (records_of w)) refl h
  where
    go : (b : Bool) → ltb (not_table w) (records_of w) ≡ b → cond b (refused NotATable (not_table w)) (Ok (tt {0})) ≡ Ok tt → (shape_of w ≡ Ok tt)
        × (records_of w ≤ not_table w)
    go true x y = no_row y
    go false x y = (sym e, ltb-false (not_table w) (records_of w) x)

-- a document comes back from its lines word for word, given the file number that stood beside them
pub document_round_trip : (w : List ℕ) (room : ℕ) → document_rows w ≡ Ok tt → length w ≤ room
    → table_to_records (table_bytes (entries_in w)) (value_at w 0) room
    ≡ record { reply = success (records_of w); output = w ++ replicate (room - length w) 0 }
unfolding table_to_records answer_by
document_round_trip w room h l =
    let p = row_ten_parts (shape_of w) w refl h in
    let d = fine_document w p.0 in
    let T = fine_tabular w d p.1 in
    let n = definition_count w in
    let es = list_from (entry_at w) 0 n in
    let g = document_good w n T in
    let s = list_length (entry_at w) 0 n in
    let c = table_count es g in
    let b = T.long in
    let m = d.limit in
    let rows : table_rows (table_bytes es) (value_at w 0) ≡ Ok tt
    = passed_rows (table_bytes es) (value_at w 0) (record { lines = table_lines es g; limit = omega (arith, c, s, b, m); is_text = d.file }) in
    let words : table_records (value_at w 0) (entries_of (table_bytes es)) ≡ w
    = ap (table_records (value_at w 0)) (table_entries es g) ∙ document_back w n T in
    let total : line_count (table_bytes es) * 3 + 1 ≡ records_of w = omega (arith, c, s, b) in
    ap (λ (r : Result (Unit {0}) Refused). answer_by r (table_records (value_at w 0) (entries_of (table_bytes es)))
    (line_count (table_bytes es) * 3 + 1) room) rows
    ∙ ap (λ (c : List ℕ). answer_by (Ok tt) c (line_count (table_bytes es) * 3 + 1) room) words ∙ ap (λ (k : ℕ). answer_by (Ok tt) w k room) total
    ∙ rw (le-leb (length w) room l)
