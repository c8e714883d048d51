-- A line of a constant table: what reading it gives, one law for each way through the code; what writing its columns leaves; and that a line comes back
-- from its entry (`line_again`) and an entry from its line (`entry_read`). Assumes nothing.
use Prim.Native.Nat.{ℕ, ◌+◌, ◌≤◌, ◌<◌}
use native.Mathlib.Omega.{arith}
use mathlib.Core.Path.{◌≡◌, refl, sym, ap, subst, ◌∙◌}
use mathlib.Core.Bool.{Bool, true, false, cond, ◌&&◌, ◌||◌}
use mathlib.Core.List.{List, [], ◌∷◌, ◌++◌, append_assoc}
use lib.ListN.{length, take, drop, get_or, set, length-append, length-drop, take-append-drop, drop_of_length-le}
use lib.Seq.{take_at, drop-drop, drop-append-add, drop-cons, length-take-le, get_or-append-add}
use lib.Dec.{eqb, leb}
use borrow.Author.Tests.{eq-eqb, ne_eqb, eqb-true, le-leb, leb-true}
use Rattle.words.specs.Record.{most_text}
use Rattle.column_lines.specs.Form.{newline}
use Rattle.column_lines.specs.Numeral.{word_end, numeral, read_numeral}
use Rattle.column_lines.specs.Line.{field_in}
use Rattle.column_lines.proofs.Numerals.{read_written, written_read, read_small}
use Rattle.column_lines.proofs.Lines.{numeral_length, Begun, begun_last}
use Rattle.column_lines.proofs.Again.{natural_fits, value_fits}
use Rattle.constant_tables.specs.Form.{table_line_length, table_newline_place, table_value_place, table_value_width, table_integer, table_float}
use Rattle.constant_tables.specs.Entry.{Entry, entry, is_text, is_table_kind, integer_is, constant_in, text_in, table_kind_in, table_value_in, whole_table_line}
use Rattle.constant_tables.specs.Entry.{read_entry, entry_line}
use Rattle.std.specs.Prelude.{Option, Some, None}
use Rattle.std.specs.Bool.{then_some}
use Rattle.std.proofs.lemmas.Option.{same_Some}

-- texts and kinds

pub record Text (n : ℕ) : Type 0 where
  pub some : 1 ≤ n
  pub limit : n ≤ most_text

and_parts : (a b : Bool) → (a && b) ≡ true → (a ≡ true) × (b ≡ true)
and_parts true b e = (refl, e)
and_parts false b e = cc

pub text_parts : (n : ℕ) → is_text n ≡ true → Text n
unfolding is_text
text_parts n e =
    let p = and_parts (leb 1 n) _ e in
    record { some = leb-true 1 n p.0; limit = leb-true n most_text p.1 }

pub text_yes : (n : ℕ) → Text n → is_text n ≡ true
unfolding is_text
text_yes n t = simp (le-leb 1 n t.some, le-leb n most_text t.limit)

-- 2 or 3
pub data TableKind : ℕ → Type 0 where
  is_integer : TableKind table_integer
  is_float : TableKind table_float

pub kind_parts : (k : ℕ) → is_table_kind k ≡ true → TableKind k
unfolding is_table_kind
kind_parts k e = go (eqb k table_integer) refl (eqb k table_float) refl e
  where
    go : (a : Bool) → eqb k table_integer ≡ a → (b : Bool) → eqb k table_float ≡ b → (a || b) ≡ true → TableKind k
    go true x b y z = subst TableKind (sym (eqb-true k table_integer x)) is_integer
    go false x true y z = subst TableKind (sym (eqb-true k table_float y)) is_float
    go false x false y z = cc

pub kind_yes : (k : ℕ) → TableKind k → is_table_kind k ≡ true
unfolding is_table_kind
kind_yes k is_integer = refl
kind_yes k is_float = refl

-- the constant that three numbers are

pub constant_yes : (a b c : Option ℕ) {t k v : ℕ} → a ≡ Some t → b ≡ Some k → c ≡ Some v → is_text t ≡ true → TableKind k
    → Some (entry t k v) ≡ constant_in a b c
unfolding constant_in
constant_yes a b c {t} {k} A B C e i = rw (A, B, C, e, kind_yes k i)

-- lines

pub line_length_lem : (l : List ℕ) → (length l ≡ table_line_length → ⊥) → None ≡ read_entry l
unfolding read_entry
line_length_lem l n = simp (ne_eqb (length l) table_line_length n)

pub line_newline : (l : List ℕ) → length l ≡ table_line_length → (get_or l table_newline_place 0 ≡ newline → ⊥) → None ≡ read_entry l
unfolding read_entry
line_newline l e n = simp (eq-eqb (length l) table_line_length e, ne_eqb (get_or l table_newline_place 0) newline n)

pub line_whole : (l : List ℕ) → length l ≡ table_line_length → get_or l table_newline_place 0 ≡ newline
    → constant_in (text_in l) (table_kind_in l) (table_value_in l) ≡ read_entry l
unfolding read_entry
line_whole l e n = simp (eq-eqb (length l) table_line_length e, eq-eqb (get_or l table_newline_place 0) newline n)

-- a line of its form with its columns, up to one that is no number

module _ (l : List ℕ) (long : length l ≡ table_line_length) (ends : get_or l table_newline_place 0 ≡ newline) where
  pub text_off : text_in l ≡ None → None ≡ read_entry l
  unfolding constant_in
  text_off T = let w = line_whole l long ends in rw (T, constant_in) at w

  module _ {t : ℕ} (T : text_in l ≡ Some t) where
    pub kind_off : table_kind_in l ≡ None → None ≡ read_entry l
    unfolding constant_in
    kind_off K = let w = line_whole l long ends in rw (T, K, constant_in) at w

    module _ {k : ℕ} (K : table_kind_in l ≡ Some k) where
      pub value_off : read_numeral (eqb k table_integer) (field_in table_value_place table_value_width l) ≡ None → None ≡ read_entry l
      unfolding constant_in
      value_off V = let w = line_whole l long ends in rw (T, K, V, constant_in) at w

      module _ {v : ℕ} (V : read_numeral (eqb k table_integer) (field_in table_value_place table_value_width l) ≡ Some v) where
        numbers_in : cond (is_text t) (cond (is_table_kind k) (Some (entry t k v)) None) None ≡ read_entry l
        unfolding constant_in
        numbers_in = let w = line_whole l long ends in rw (T, K, V, constant_in) at w

        pub entry_off : is_text t ≡ false → None ≡ read_entry l
        entry_off e = let w = numbers_in in rw e at w

        pub entry_spelled : is_text t ≡ true → then_some (is_table_kind k) (entry t k v) ≡ read_entry l
        entry_spelled e = by (is_table_kind k) ∙ (let w = numbers_in in rw e at w)
          where
            by : (b : Bool) → then_some b (entry t k v) ≡ cond b (Some (entry t k v)) None
            by true = refl
            by false = refl

-- a line is written

pub entry_length : (e : Entry) → length (entry_line e) ≡ table_line_length
unfolding entry_line
entry_length e =
    let a = numeral_length 8 false e.text in
    let b = numeral_length 4 false e.kind in
    let c = numeral_length 21 (eqb e.kind table_integer) e.value in
    simp length-append (omega (arith, a, b, c))

-- all its bytes but the last are
pub entry_written : (e : Entry) (before out : List ℕ) → length before ≡ table_line_length
    → Begun ((([] ++ numeral 8 false e.text) ++ numeral 4 false e.kind) ++ numeral 21 (eqb e.kind table_integer) e.value) before out 33
    → set out 33 10 ≡ entry_line e
unfolding entry_line
entry_written e before out l b = begun_last _ before out 33 10 b l ∙ simp append_assoc

-- an entry that a line can spell
pub record Good (e : Entry) : Type 0 where
  pub text : Text e.text
  pub kind : TableKind e.kind
  pub value : e.value < word_end

-- a line that was read

pub record Spells (l : List ℕ) (t k v : ℕ) : Type 0 where
  pub long : length l ≡ table_line_length
  pub ends : get_or l table_newline_place 0 ≡ newline
  pub text : text_in l ≡ Some t
  pub kind : table_kind_in l ≡ Some k
  pub value : read_numeral (eqb k table_integer) (field_in 12 21 l) ≡ Some v
  pub good : Good (entry t k v)

record Numbers (a b c : Option ℕ) (t k v : ℕ) : Type 0 where
  pub first : a ≡ Some t
  pub second : b ≡ Some k
  pub third : c ≡ Some v
  pub is : Text t
  pub kind : TableKind k

if_line : (x : Bool) {n : Option Entry} {y : Entry} → cond x n None ≡ Some y → (x ≡ true) × (n ≡ Some y)
if_line true e = (refl, e)
if_line false e = cc

numbers : (a b c : Option ℕ) {t k v : ℕ} → constant_in a b c ≡ Some (entry t k v) → Numbers a b c t k v
unfolding constant_in
numbers (Some a) (Some b) (Some c) {t} {k} {v} e =
    let x = if_line (is_text a) e in
    let y = if_line (is_table_kind b) x.1 in
    let z = same_Some _ _ y.1 in
    let p : a ≡ t = ap (λ (x : Entry). x.text) z in
    let q : b ≡ k = ap (λ (x : Entry). x.kind) z in
    let r : c ≡ v = ap (λ (x : Entry). x.value) z in
    record {
      first = ap Some p;
      second = ap Some q;
      third = ap Some r;
      is = subst Text p (text_parts a x.0);
      kind = subst TableKind q (kind_parts b y.0);
    }
numbers (Some t) (Some k) None e = cc
numbers (Some t) None c e = cc
numbers None b c e = cc

pub spells : (l : List ℕ) {t k v : ℕ} → read_entry l ≡ Some (entry t k v) → Spells l t k v
unfolding read_entry
spells l {t} {k} {v} e =
    let x = if_line (whole_table_line l) e in
    let y = and_parts (eqb (length l) table_line_length) _ x.0 in
    let n = numbers (text_in l) (table_kind_in l) (table_value_in l) x.1 in
    let s : integer_is (table_kind_in l) ≡ eqb k table_integer = ap integer_is n.second in
    let r : read_numeral (eqb k table_integer) (field_in 12 21 l) ≡ Some v = ap (λ (b : Bool). read_numeral b (field_in 12 21 l)) (sym s) ∙ n.third in
    record {
      long = eqb-true (length l) table_line_length y.0;
      ends = eqb-true (get_or l table_newline_place 0) newline y.1;
      text = n.first;
      kind = n.second;
      value = r;
      good = record { text = n.is; kind = n.kind; value = read_small (eqb k table_integer) (field_in 12 21 l) v r };
    }

-- a column is taken off the front of what is left of a line
field_off : (l : List ℕ) (at w : ℕ) → drop at l ≡ field_in at w l ++ drop (at + w) l
field_off l at w = sym (take-append-drop w (drop at l)) ∙ ap (λ (r : List ℕ). field_in at w l ++ r) (drop-drop w at l)

field_back : (l : List ℕ) (at w : ℕ) (s : Bool) (word : ℕ) → at + w ≤ length l → read_numeral s (field_in at w l) ≡ Some word
    → numeral w s word ≡ field_in at w l
field_back l at w s word h e =
    let n : length (field_in at w l) ≡ w = length-take-le w (drop at l) (omega (arith, length-drop at l)) in
    ap (λ (k : ℕ). numeral k s word) (sym n) ∙ written_read s (field_in at w l) word e

-- a line that spells an entry is that entry's line
pub line_again : (l : List ℕ) {t k v : ℕ} → read_entry l ≡ Some (entry t k v) → entry_line (entry t k v) ≡ l
unfolding entry_line
line_again l {t} {k} {v} e =
    let x = spells l e in
    let n = x.long in
    let last : drop 33 l ≡ 10 ∷ [] = drop-cons l 33 0 (omega arith)
    ∙ ap (λ (b : ℕ). b ∷ drop 34 l) x.ends ∙ ap (λ (r : List ℕ). 10 ∷ r) (drop_of_length-le l {i = 34} (omega arith)) in
    rw (
      field_back l 0 8 false t (omega arith) x.text,
      field_back l 8 4 false k (omega arith) x.kind,
      field_back l 12 21 (eqb k table_integer) v (omega arith) x.value,
    )
    (sym (field_off l 0 8 ∙ ap (λ (r : List ℕ). field_in 0 8 l ++ r) (field_off l 8 4 ∙ ap (λ (r : List ℕ). field_in 8 4 l ++ r) (field_off l 12 21
    ∙ ap (λ (r : List ℕ). field_in 12 21 l ++ r) last))))

-- a line that was written

first_field : (a r : List ℕ) (w : ℕ) → length a ≡ w → field_in 0 w (a ++ r) ≡ a
first_field a r w n = take_at a r w n

next_field : (a r : List ℕ) (m at w : ℕ) → length a ≡ m → field_in (m + at) w (a ++ r) ≡ field_in at w r
next_field a r m at w n = ap (take w) (ap (λ (k : ℕ). drop (k + at) (a ++ r)) (sym n) ∙ drop-append-add a r at)

next_byte : (a r : List ℕ) (m n : ℕ) → length a ≡ m → get_or (a ++ r) (m + n) 0 ≡ get_or r n 0
next_byte a r m n e = ap (λ (k : ℕ). get_or (a ++ r) (k + n) 0) (sym e) ∙ get_or-append-add a r n 0

kind_small : (k : ℕ) → TableKind k → k < 10000
kind_small k is_integer = omega arith
kind_small k is_float = omega arith

module _ (e : Entry) (g : Good e) where
  abbrev n0 : List ℕ
  n0 = numeral 8 false e.text

  abbrev n1 : List ℕ
  n1 = numeral 4 false e.kind

  abbrev n2 : List ℕ
  n2 = numeral 21 (eqb e.kind table_integer) e.value

  l0 : length n0 ≡ 8
  l0 = numeral_length 8 false e.text

  l1 : length n1 ≡ 4
  l1 = numeral_length 4 false e.kind

  l2 : length n2 ≡ 21
  l2 = numeral_length 21 (eqb e.kind table_integer) e.value

  text_read : text_in (entry_line e) ≡ Some e.text
  unfolding entry_line
  text_read =
      let t = g.text.limit in
      ap (read_numeral false) (first_field n0 _ 8 l0)
      ∙ read_written 8 false e.text (omega (arith, t)) (natural_fits 8 e.text (omega arith) (omega (arith, t)))

  kind_read : table_kind_in (entry_line e) ≡ Some e.kind
  unfolding entry_line
  kind_read =
      let k = kind_small e.kind g.kind in
      ap (read_numeral false) (next_field n0 _ 8 0 4 l0 ∙ first_field n1 _ 4 l1)
      ∙ read_written 4 false e.kind (omega (arith, k)) (natural_fits 4 e.kind (omega arith) (omega (arith, k)))

  value_read : table_value_in (entry_line e) ≡ Some e.value
  unfolding entry_line
  value_read =
      ap (λ (t : Bool). read_numeral t (field_in 12 21 (entry_line e))) (ap integer_is kind_read)
      ∙ ap (read_numeral (eqb e.kind table_integer)) (next_field n0 _ 8 4 21 l0 ∙ next_field n1 _ 4 0 21 l1 ∙ first_field n2 _ 21 l2)
      ∙ read_written 21 (eqb e.kind table_integer) e.value g.value (value_fits (eqb e.kind table_integer) e.value g.value)

  ends_read : get_or (entry_line e) table_newline_place 0 ≡ newline
  unfolding entry_line
  ends_read = next_byte n0 _ 8 25 l0 ∙ next_byte n1 _ 4 21 l1 ∙ next_byte n2 _ 21 0 l2

  -- a good entry's line spells it
  pub entry_read : read_entry (entry_line e) ≡ Some e
  entry_read =
      sym (constant_yes _ _ _ text_read kind_read value_read (text_yes e.text g.text) g.kind
      ∙ line_whole (entry_line e) (entry_length e) ends_read)
