-- The two ways, one law for each way through the code. Assumes nothing.
use Prim.Native.Nat.{ℕ, suc, ◌+◌, ◌-◌, ◌*◌, ◌/◌, ◌%◌, ◌≤◌, ◌<◌}
use native.Mathlib.Omega.{arith}
use mathlib.Core.Path.{◌≡◌, refl, sym, ap, subst, ◌∙◌}
use mathlib.Core.Bool.{Bool, true, false, not, cond, ◌&&◌}
use mathlib.Core.List.{List, [], ◌∷◌, ◌++◌, append_assoc, append-nil}
use lib.ListN.{length, take, drop, replicate, length-drop, length-take, take-append-drop}
use lib.Seq.{take_at, length-take-le}
use lib.Dec.{eqb, leb, ltb}
use borrow.Author.Tests.{ltb-false, le-leb, lt-leb, lt-ltb, le-ltb}
use borrow.Rule.Slice.PartMut.{mid_of, put_mid, Post-is, mid_len}
use Rattle.std.specs.Prelude.{Result, Ok, Err}
use Rattle.words.specs.Row.{row_number}
use Rattle.words.specs.declared.row.Row.TheVariants.{BadLine, BadLength, BadShape, AreaFull, NotATable}
use Rattle.words.specs.declared.row.Refused.{Refused}
use Rattle.words.specs.Areas.{Written, cleared_from}
use Rattle.words.specs.Record.{kind_at, span_at, value_at, most_records}
use Rattle.tree.specs.Check.{shape_of, records_of, refused}
use Rattle.column_lines.proofs.Lines.{Begun, begun_more}
use Rattle.column_files.specs.Convert.{Stands}
use Rattle.column_files.proofs.Converting.{stands_short, stands_off, stands_whole, cleared_all, cleared_rest}
use Rattle.constant_tables.specs.Form.{table_line_length, local_definition_kind, integer_kind, float_kind, name_kind, document_kind}
use Rattle.constant_tables.specs.Entry.{Entry, entry, is_text, entry_line, table_bytes, record_kind, table_kind, definition_of, definitions_of}
use Rattle.constant_tables.specs.Entry.{table_records}
use Rattle.constant_tables.specs.Table.{first_where, list_from, count_in, line_count, table_line, is_bad}
use Rattle.constant_tables.specs.Table.{bad_at, first_off, row_one, entry_in, line_entry, entries_of}
use Rattle.constant_tables.specs.Table.{head_is, in_definition, agrees_at, not_table, entry_at, definition_count, entries_in}
use Rattle.constant_tables.specs.Table.{DefinitionPut, DefinitionsPut, ConstantPut}
use Rattle.constant_tables.specs.Convert.{TableConversion, table_rows, table_to_records, row_ten, document_rows, no_table, tabled, table_by, TableStands}
use Rattle.constant_tables.specs.Convert.{records_to_table, Tables}
use Rattle.std.specs.Prelude.{Option, Some, None}
use Rattle.constant_tables.proofs.TableLines.{line_length_lem, entry_length}
use Rattle.constant_tables.proofs.Search.{first_start, first_end, first_here, first_next, list_length, list_more}
use Rattle.constant_tables.proofs.Lists.{bytes_length, bytes_more, definitions_more, head_of, table_length}

-- lines

pub count_most : (bytes : ℕ) → count_in bytes ≤ bytes / 34 + 1
count_most bytes = by (eqb (bytes % 34) 0)
  where
    by : (t : Bool) → bytes / 34 + cond t 0 1 ≤ bytes / 34 + 1
    by true = omega arith
    by false = omega arith

pub line_none : (table : List ℕ) (i : ℕ) → length table / 34 ≤ i → None ≡ table_line table i
line_none table i h =
    let l = take table_line_length (drop (i * 34) table) in
    let x : length l ≤ length (drop (i * 34) table) = simp length-take (omega arith) in
    line_length_lem l (λ e. omega (arith, x, length-drop (i * 34) table, e))

-- a definition is written

put_at : (b after words : List ℕ) (at x : ℕ) {r : Bool} → Written 4 at words b after r → at * 4 ≡ x → x + 4 ≤ length b
    → after ≡ take x b ++ (words ++ drop (x + 4) b)
put_at b after words at x w e h =
    let t : leb (at * 4 + 4) (length b) ≡ true = le-leb (at * 4 + 4) (length b) (omega (arith, e, h)) in
    let a : after ≡ take (at * 4) b ++ (words ++ drop (at * 4 + 4) b) = simp t at w.words in
    a ∙ ap (λ (n : ℕ). take n b ++ (words ++ drop (n + 4) b)) e

pub definition_put : (b0 b1 b2 b3 : List ℕ) (i : ℕ) (e : Entry) {of : ℕ} {r1 r2 r3 : Bool} → of ≡ record_kind e.kind
    → length b1 ≡ length b0 → length b2 ≡ length b1
    → Written 4 (i * 3 + 1) (local_definition_kind ∷ 3 ∷ 0 ∷ 0 ∷ []) b0 b1 r1 → Written 4 (i * 3 + 1 + 1) (name_kind ∷ 1 ∷ 0 ∷ e.text ∷ []) b1 b2 r2
    → Written 4 (i * 3 + 1 + 2) (of ∷ 1 ∷ 0 ∷ e.value ∷ []) b2 b3 r3 → DefinitionPut i e b0 b3
definition_put b0 b1 b2 b3 i e {of} K k1 k2 w1 w2 w3 = record { words = put }
  where
    put : i * 12 + 4 + 12 ≤ length b0 → b3 ≡ take (i * 12 + 4) b0 ++ (definition_of e ++ drop (i * 12 + 4 + 12) b0)
    put h =
        let x = i * 12 + 4 in
        let e1 = put_at b0 b1 _ (i * 3 + 1) x w1 (omega arith) (omega (arith, h)) in
        let e2 = put_at b1 b2 _ (i * 3 + 1 + 1) (x + 4) w2 (omega arith) (omega (arith, h, k1)) in
        let e3 = put_at b2 b3 _ (i * 3 + 1 + 2) (x + 8) w3 (omega arith) (omega (arith, h, k1, k2)) in
        let s0 : Begun (take x b0) b0 b0 x = record { long = length-take-le x b0 (omega (arith, h)); rest = sym (take-append-drop x b0) } in
        let s1 = begun_more (take x b0) b0 b0 (local_definition_kind ∷ 3 ∷ 0 ∷ 0 ∷ []) b1 x (x + 4) s0 (omega arith) (omega arith) e1 in
        let s2 = begun_more _ b0 b1 (name_kind ∷ 1 ∷ 0 ∷ e.text ∷ []) b2 (x + 4) (x + 8) s1 (omega arith) (omega arith)
        (e2 ∙ ap (λ (n : ℕ). take (x + 4) b1 ++ ((name_kind ∷ 1 ∷ 0 ∷ e.text ∷ []) ++ drop n b1)) (let y : x + 4 + 4 ≡ x + 8 = omega arith in y)) in
        let s3 = begun_more _ b0 b2 (of ∷ 1 ∷ 0 ∷ e.value ∷ []) b3 (x + 8) (x + 12) s2 (omega arith) (omega arith)
        (e3 ∙ ap (λ (n : ℕ). take (x + 8) b2 ++ ((of ∷ 1 ∷ 0 ∷ e.value ∷ []) ++ drop n b2)) (let y : x + 8 + 4 ≡ x + 12 = omega arith in y)) in
        s3.rest ∙ rw K (simp append_assoc)

-- the definitions of a table, one after the other

-- the lines before i are written, where there is room for all
pub record Begins (table before out : List ℕ) (i : ℕ) : Type 0 where
  pub room : line_count table * 12 + 4 ≤ length before
      → Begun (take 4 before ++ definitions_of (list_from (line_entry table) 0 i)) before out (i * 12 + 4)

pub begins : (table out : List ℕ) → Begins table out out 0
unfolding list_from definitions_of
begins table out = record {
  room = λ h. record {
    long = ap length (append-nil (take 4 out)) ∙ length-take-le 4 out (omega (arith, h));
    rest = sym (ap (λ (l : List ℕ). l ++ drop 4 out) (append-nil (take 4 out)) ∙ take-append-drop 4 out);
  };
}

pub begins_next : (table before out after : List ℕ) (i : ℕ) {x : Entry} {l : Option Entry} → i < line_count table
    → Begins table before out i → length out ≡ length before → l ≡ table_line table i → l ≡ Some x
    → DefinitionPut i x out after → Begins table before after (i + 1)
begins_next table before out after i {x} h b n L e d = record { room = more }
  where
    more : line_count table * 12 + 4 ≤ length before
        → Begun (take 4 before ++ definitions_of (list_from (line_entry table) 0 (i + 1))) before after ((i + 1) * 12 + 4)
    more r =
        let z : 0 + i ≡ i = omega arith in
        let f : line_entry table i ≡ x = ap entry_in (sym L ∙ e) in
        let p = d.words (omega (arith, h, r, n)) in
        let s = begun_more (take 4 before ++ definitions_of (list_from (line_entry table) 0 i)) before out (definition_of x) after
        (i * 12 + 4) (i * 12 + 4 + 12) (b.room r) (omega arith) (omega arith) p in
        let q : definitions_of (list_from (line_entry table) 0 (i + 1)) ≡ definitions_of (list_from (line_entry table) 0 i) ++ definition_of
        x
        = ap definitions_of (list_more (line_entry table) 0 i ∙ ap (λ (m : ℕ). list_from (line_entry table) 0 i ++ (line_entry table m ∷ [])) z
        ∙ ap (λ (y : Entry). list_from (line_entry table) 0 i ++ (y ∷ [])) f)
        ∙ definitions_more (list_from (line_entry table) 0 i) x in
        let m : i * 12 + 4 + 12 ≡ (i + 1) * 12 + 4 = omega arith in
        let a : (take 4 before ++ definitions_of (list_from (line_entry table) 0 i)) ++ definition_of x
        ≡ take 4 before ++ definitions_of (list_from (line_entry table) 0 (i + 1))
        = append_assoc (take 4 before) (definitions_of (list_from (line_entry table) 0 i)) (definition_of x)
        ∙ ap (λ (y : List ℕ). take 4 before ++ y) (sym q) in
        subst (λ (y : List ℕ). Begun y before after ((i + 1) * 12 + 4)) a
        (subst (λ (k : ℕ). Begun ((take 4 before ++ definitions_of (list_from (line_entry table) 0 i)) ++ definition_of x) before after k)
        m s)

bad_is : (table : List ℕ) (i : ℕ) {l : Option Entry} → l ≡ table_line table i → l ≡ None → bad_at table i ≡ true
bad_is table i L e = ap is_bad (sym L ∙ e)

pub good_is : (table : List ℕ) (i : ℕ) {l : Option Entry} {x : Entry} → l ≡ table_line table i → l ≡ Some x → bad_at table i ≡ false
good_is table i L e = ap is_bad (sym L ∙ e)

-- row 1 as a result

row_one_off : (table : List ℕ) (i : ℕ) → first_off table ≡ i → i < line_count table → refused BadLine (i + 1) ≡ row_one table
row_one_off table i e h =
    let t : ltb (first_off table) (line_count table) ≡ true = lt-ltb (first_off table) (line_count table) (omega (arith, e, h)) in
    rw (t, e)

row_one_good : (table : List ℕ) → line_count table ≤ first_off table → Ok tt ≡ row_one table
row_one_good table h = rw (le-ltb (first_off table) (line_count table) h)

good_lines : (table : List ℕ) → row_one table ≡ Ok tt → line_count table ≤ first_off table
good_lines table e = go (ltb (first_off table) (line_count table)) refl e
  where
    go : (t : Bool) → ltb (first_off table) (line_count table) ≡ t → cond t (refused BadLine (first_off table + 1)) (Ok (tt {0})) ≡ Ok (tt {0})
        → line_count table ≤ first_off table
    go true x y = cc
    go false x y = ltb-false (first_off table) (line_count table) x

pub lines_bad : (table before out : List ℕ) (i : ℕ) {l : Option Entry} → first_off table ≡ first_where (bad_at table) i (line_count table - i)
    → i < line_count table → l ≡ table_line table i → l ≡ None → DefinitionsPut table before out (refused BadLine (i + 1))
lines_bad table before out i B h L e =
    record { first = row_one_off table i (B ∙ first_here (bad_at table) (line_count table) i h (bad_is table i L e)) h; words = λ z. cc }

pub lines_good : (table before out : List ℕ) (i : ℕ) → first_off table ≡ first_where (bad_at table) i (line_count table - i)
    → line_count table ≤ i → i ≤ line_count table → Begins table before out i → DefinitionsPut table before out (Ok tt)
lines_good table before out i B h l b =
    let e : i ≡ line_count table = omega (arith, h, l) in
    let f : first_off table ≡ i = B ∙ first_end (bad_at table) (line_count table) i h in
    record {
      first = row_one_good table (omega (arith, f, h));
      words = λ _ r. (b.room r).rest ∙ ap (λ (k : ℕ). (take 4 before ++ definitions_of (list_from (line_entry table) 0 k)) ++ drop (k * 12 + 4) before) e
          ∙ append_assoc (take 4 before) (definitions_of (entries_of table)) (drop (line_count table * 12 + 4) before);
    }

-- a table to records

module _ (table : List ℕ) (file : ℕ) where
  pub rows_bad : {found : Refused} → row_one table ≡ Err found → table_rows table file ≡ Err found
  unfolding table_rows
  rows_bad {found} e = go (ltb (first_off table) (line_count table)) _ e
    where
      go : (t : Bool) (x : Result (Unit {0}) Refused) → cond t (refused BadLine (first_off table + 1)) (Ok (tt {0})) ≡ Err found
          → cond t (refused BadLine (first_off table + 1)) x ≡ Err found
      go true x y = y
      go false x y = cc

  module _ (good : row_one table ≡ Ok tt) where
    t : ltb (first_off table) (line_count table) ≡ false
    t = le-ltb (first_off table) (line_count table) (good_lines table good)

    pub rows_long : 349525 < line_count table → table_rows table file ≡ refused BadLength 0
    unfolding table_rows
    rows_long h = let u : ltb most_records (line_count table * 3 + 1) ≡ true = lt-ltb most_records (line_count table * 3 + 1) (omega (arith, h)) in rw (t, u)

    module _ (few : line_count table ≤ 349525) where
      u : ltb most_records (line_count table * 3 + 1) ≡ false
      u = le-ltb most_records (line_count table * 3 + 1) (omega (arith, few))

      pub rows_file : is_text file ≡ false → table_rows table file ≡ refused BadShape 0
      unfolding table_rows
      rows_file v = rw (t, u, v)

      pub rows_good : is_text file ≡ true → table_rows table file ≡ Ok tt
      unfolding table_rows
      rows_good v = rw (t, u, v)

module _ (table mid : List ℕ) (file room : ℕ) (n : length mid ≡ room) where
  pub table_refused : {found : Refused} → table_rows table file ≡ Err found → Stands 4 (table_to_records table file room) mid (Err found)
  unfolding table_to_records
  table_refused e = rw n (stands_off (table_rows table file) (table_records file (entries_of table)) (line_count table * 3 + 1) room e)

  count : length (entries_of table) ≡ line_count table
  count = list_length (line_entry table) 0 (line_count table)

  size : length (table_records file (entries_of table)) ≡ (line_count table * 3 + 1) * 4
  size = table_length file (entries_of table) ∙ ap (λ (k : ℕ). (k * 3 + 1) * 4) count

  module _ (fine : table_rows table file ≡ Ok tt) where
    pub table_short : {found : Refused} → room / 4 < line_count table * 3 + 1 → found ≡ record { row = AreaFull; place = 0 }
        → Stands 4 (table_to_records table file room) mid (Err found)
    unfolding table_to_records
    table_short h f =
        rw (f, n) (stands_short (table_rows table file) (table_records file (entries_of table)) (line_count table * 3 + 1) room fine (omega (arith, size, h)))

    -- with the lines as the code counts them
    pub table_done : (out first : List ℕ) {w : Bool} {lines : ℕ} {r : Result (Unit {0}) Refused} → lines ≡ line_count table → lines * 3 + 1 ≤ room / 4
        → length first ≡ length out → length out ≡ room → Written 4 0 (document_kind ∷ (lines * 3 + 1) ∷ 0 ∷ file ∷ []) out first w
        → DefinitionsPut table first mid r → r ≡ Ok tt → Stands 4 (table_to_records table file room) mid (Ok (lines * 3 + 1))
    unfolding table_to_records
    table_done out first {w} {lines} L h k o W D g =
        let f : first ≡ take 0 out ++ (head_of (lines * 3 + 1) file ++ drop (0 + 4) out) = put_at out first _ 0 0 W refl (omega (arith, h, o)) in
        let t4 : take 4 first ≡ head_of (lines * 3 + 1) file = rw f (take_at (head_of (lines * 3 + 1) file) (drop (0 + 4) out) 4 refl) in
        let m : mid ≡ table_records file (entries_of table) ++ drop (line_count table * 12 + 4) first
        = D.words g (omega (arith, h, k, o, L))
        ∙ ap (λ (l : List ℕ). l ++ (definitions_of (entries_of table) ++ drop (line_count table * 12 + 4) first)) t4
        ∙ ap (λ (c : ℕ). head_of (c * 3 + 1) file ++ (definitions_of (entries_of table) ++ drop (line_count table * 12 + 4) first)) (L ∙ sym count) in
        let s = stands_whole (table_rows table file) (table_records file (entries_of table)) _ mid (line_count table * 3 + 1) 4 fine size
        (omega (arith, size, h, n, L)) m in
        rw (L, ← n) s

-- records that agree with a table's

suc_of : (i : ℕ) → (i ≡ 0 → ⊥) → i ≡ suc (i - 1)
suc_of i n = omega arith

module _ (w : List ℕ) (i : ℕ) {s : ℕ} (S : s ≡ span_at w 0) where
  pub agrees_document : i ≡ 0 → eqb (s % 3) 1 ≡ agrees_at w i
  unfolding agrees_at
  agrees_document e = rw (e, S)

  module _ (n : i ≡ 0 → ⊥) where
    abbrev i' : ℕ
    i' = i - 1

    at_suc : agrees_at w i ≡ agrees_at w (suc i')
    at_suc = ap (agrees_at w) (suc_of i n)

    pub agrees_behind : s ≤ i → false ≡ agrees_at w i
    unfolding agrees_at
    agrees_behind h = sym (at_suc ∙ simp (le-ltb (suc i') (span_at w 0) (omega (arith, S, h, n))))

    module _ (h : i < s) where
      inside : (part : ℕ) → i' % 3 ≡ part → agrees_at w i ≡ in_definition part w i
      unfolding agrees_at
      inside part e =
          let b = lt-ltb (suc i') (span_at w 0) (omega (arith, S, h, n)) in
          at_suc ∙ ap (λ (x : Bool). x && in_definition (i' % 3) w (suc i')) b ∙ ap (λ (q : ℕ). in_definition q w (suc i')) e
          ∙ ap (λ (j : ℕ). in_definition part w j) (sym (suc_of i n))

      module _ (first : i' % 3 ≡ 0) {b : Bool} (H : b ≡ head_is w i local_definition_kind 3) where
        pub agrees_no_head : b ≡ false → b ≡ agrees_at w i
        unfolding in_definition
        agrees_no_head x = let e : head_is w i local_definition_kind 3 ≡ false = sym H ∙ x in x ∙ sym (inside 0 first ∙ simp e)

        pub agrees_head : {v : ℕ} → b ≡ true → v ≡ value_at w i → eqb v 0 ≡ agrees_at w i
        unfolding in_definition
        agrees_head x Va = let e : head_is w i local_definition_kind 3 ≡ true = sym H ∙ x in sym (inside 0 first ∙ rw Va (simp e))

      pub agrees_name : {b : Bool} → i' % 3 ≡ 1 → b ≡ head_is w i name_kind 1 → b ≡ agrees_at w i
      unfolding in_definition
      agrees_name e H = H ∙ sym (inside 1 e)

      module _ (last : i' % 3 ≡ 2) {a : Bool} (A : a ≡ head_is w i integer_kind 1) where
        pub agrees_integer : a ≡ true → a ≡ agrees_at w i
        unfolding in_definition
        agrees_integer x =
            let e : head_is w i integer_kind 1 ≡ true = sym A ∙ x in
            x ∙ sym (inside 2 last ∙ simp e)

        pub agrees_float : {b : Bool} → a ≡ false → b ≡ head_is w i float_kind 1 → b ≡ agrees_at w i
        unfolding in_definition
        agrees_float x B =
            let e : head_is w i integer_kind 1 ≡ false = sym A ∙ x in
            B ∙ sym (inside 2 last ∙ simp e)

-- row 10

abbrev pub differs : List ℕ → ℕ → Bool
differs w i = not (agrees_at w i)

module _ (w : List ℕ) (i : ℕ) (I : not_table w ≡ first_where (differs w) i (records_of w - i)) where
  pub other_here : {b : Bool} → i < records_of w → b ≡ agrees_at w i → not b ≡ true → i ≡ not_table w
  other_here {b} h e x = sym (I ∙ first_here (differs w) (records_of w) i h (ap not (sym e) ∙ x))

  pub other_next : {b : Bool} → i < records_of w → b ≡ agrees_at w i → not b ≡ false → not_table w ≡ first_where (differs w) (i + 1) (records_of w - (i + 1))
  other_next {b} h e x = I ∙ first_next (differs w) (records_of w) i h (ap not (sym e) ∙ x)

  pub other_none : records_of w ≤ i → i ≡ not_table w
  other_none h = sym (I ∙ first_end (differs w) (records_of w) i h)

pub other_start : (w : List ℕ) → not_table w ≡ first_where (differs w) 0 (records_of w - 0)
other_start w = first_start (differs w) (records_of w) 0

module _ (w : List ℕ) {s : Result (Unit {0}) Refused} (S : s ≡ shape_of w) where
  pub rows_refused : {found : Refused} → s ≡ Err found → Err found ≡ document_rows w
  unfolding row_ten
  rows_refused e = sym (rw (← S, e))

  module _ (e : s ≡ Ok tt) {at : ℕ} (N : at ≡ not_table w) where
    pub rows_other : at < length w / 4 → refused NotATable at ≡ document_rows w
    unfolding row_ten
    rows_other h =
        let t : ltb (not_table w) (records_of w) ≡ true = lt-ltb (not_table w) (records_of w) (omega (arith, N, h)) in
        ap (λ (k : ℕ). refused NotATable k) N ∙ sym (rw (← S, e, t))

    pub rows_fine : length w / 4 ≤ at → Ok tt ≡ document_rows w
    unfolding row_ten
    rows_fine h =
        let t : ltb (not_table w) (records_of w) ≡ false = le-ltb (not_table w) (records_of w) (omega (arith, N, h)) in
        sym (rw (← S, e, t))

-- lines of constants

pub constant_put : (w out : List ℕ) (i : ℕ) {part : List ℕ} {text of kind value : ℕ} → (i + 1) * 34 ≤ length out
    → text ≡ value_at w (i * 3 + 2) → of ≡ kind_at w (i * 3 + 2 + 1) → value ≡ value_at w (i * 3 + 2 + 1) → kind ≡ table_kind of
    → part ≡ entry_line (entry text kind value) → ConstantPut w i out (put_mid (i * 34) (i * 34 + 34 - i * 34) out part)
constant_put w out i {part} h T O Va K e =
    let p : part ≡ entry_line (entry_at w i) = e ∙ rw (T, K, O, Va) in
    record { bytes = rw (p, Post-is (i * 34) (i * 34 + 34) out (omega arith)) }

pub part_length : (out : List ℕ) (i : ℕ) → (i + 1) * 34 ≤ length out → length (mid_of (i * 34) (i * 34 + 34 - i * 34) out) ≡ 34
part_length out i h = mid_len (i * 34) (i * 34 + 34) out (omega (arith, h)) ∙ omega arith

pub constants_begun : (w out : List ℕ) → Begun (table_bytes (list_from (entry_at w) 0 0)) out out (0 * 34)
unfolding list_from table_bytes
constants_begun w out = record { long = refl; rest = refl }

pub constants_more : (w before out after : List ℕ) (i : ℕ) → Begun (table_bytes (list_from (entry_at w) 0 i)) before out (i * 34)
    → ConstantPut w i out after → Begun (table_bytes (list_from (entry_at w) 0 (i + 1))) before after ((i + 1) * 34)
constants_more w before out after i b c =
    let e : i * 34 + 34 ≡ (i + 1) * 34 = omega arith in
    let n : length (entry_line (entry_at w i)) ≡ i * 34 + 34 - i * 34 = entry_length (entry_at w i) ∙ omega arith in
    let z : 0 + i ≡ i = omega arith in
    let q : table_bytes (list_from (entry_at w) 0 (i + 1)) ≡ table_bytes (list_from (entry_at w) 0 i) ++ entry_line (entry_at w i)
    = ap table_bytes (list_more (entry_at w) 0 i ∙ ap (λ (m : ℕ). list_from (entry_at w) 0 i ++ (entry_at w m ∷ [])) z)
    ∙ bytes_more (list_from (entry_at w) 0 i) (entry_at w i) in
    rw (q, ← e) (begun_more (table_bytes (list_from (entry_at w) 0 i)) before out _ after (i * 34) (i * 34 + 34) b n (omega arith) c.bytes)

pub constants_all : (w before out : List ℕ) (i n : ℕ) → Begun (table_bytes (list_from (entry_at w) 0 i)) before out (i * 34) → i ≡ n
    → out ≡ table_bytes (list_from (entry_at w) 0 n) ++ drop (n * 34) before
constants_all w before out i n b e = b.rest ∙ ap (λ (k : ℕ). table_bytes (list_from (entry_at w) 0 k) ++ drop (k * 34) before) e

-- records to a table

module _ (w mid : List ℕ) (room : ℕ) (n : length mid ≡ room) where
  pub document_refused : {found : Refused} → document_rows w ≡ Err found → TableStands (value_at w 0) (records_to_table w room) mid (Err found)
  unfolding records_to_table table_by
  document_refused e = rw (e, n)

  module _ (e : document_rows w ≡ Ok tt) where
    bytes : length (table_bytes (entries_in w)) ≡ definition_count w * 34
    bytes = bytes_length (entries_in w) ∙ ap (λ (k : ℕ). k * 34) (list_length (entry_at w) 0 (definition_count w))

    pub document_short : {found : Refused} → room / 34 < definition_count w → found ≡ record { row = AreaFull; place = 0 }
        → TableStands (value_at w 0) (records_to_table w room) mid (Err found)
    unfolding records_to_table table_by
    document_short h f =
        let t : leb (length (table_bytes (entries_in w))) room ≡ false = lt-leb (length (table_bytes (entries_in w))) room (omega (arith, bytes, h)) in
        rw (e, t, f, n)

    pub document_done : (out : List ℕ) → definition_count w ≤ room / 34
        → mid ≡ table_bytes (list_from (entry_at w) 0 (definition_count w)) ++ drop (definition_count w * 34) out
        → TableStands (value_at w 0) (records_to_table w room) mid (Ok (definition_count w))
    unfolding records_to_table table_by
    document_done out h m =
        let t : leb (length (table_bytes (entries_in w))) room ≡ true = le-leb (length (table_bytes (entries_in w))) room (omega (arith, bytes, h)) in
        let x : table_bytes (entries_in w) ++ replicate (room - length (table_bytes (entries_in w))) 0 ≡ cleared_from (definition_count w * 34) mid
        = sym (cleared_rest (table_bytes (entries_in w)) _ mid (definition_count w * 34) room m bytes n) in
        (omega (arith, h, n), rw (e, t) (ap (λ (o : List ℕ). record { reply = tabled (definition_count w) (value_at w 0); output = o }) x))

pub tables_done : (c : TableConversion) (mid : List ℕ) (total file : ℕ) {after : List ℕ} {f : ℕ} → TableStands file c mid (Ok total)
    → after ≡ cleared_from (total * 34) mid
    → f ≡ file → Tables c after (tabled total f)
tables_done c mid total file s a f = rw (s.1, f) (record { reply = refl; output = a })

pub tables_refused : (c : TableConversion) (mid : List ℕ) (file : ℕ) (found : Refused) {after : List ℕ} {number : ℕ} → TableStands file c mid (Err found)
    → after ≡ cleared_from 0 mid → number ≡ row_number found.row → Tables c after (no_table number found.place)
tables_refused c mid file found s a e = rw (s, e) (record { reply = refl; output = a ∙ cleared_all mid (length mid) refl })
