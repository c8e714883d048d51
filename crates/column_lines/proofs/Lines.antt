-- A line of a column file: what reading it gives, one law for each way through the code, and what writing its fields one after the other leaves.
-- Assumes nothing.
use Prim.Native.Nat.{ℕ, suc, ◌+◌, ◌-◌, ◌≤◌}
use native.Mathlib.Omega.{arith}
use mathlib.Core.Path.{◌≡◌, refl, sym, ap, ◌∙◌}
use mathlib.Core.Bool.{Bool, true, false}
use mathlib.Core.List.{List, [], ◌∷◌, ◌++◌, append_assoc}
use lib.ListN.{length, take, drop, get_or, set, replicate, length-append, length-replicate, length-drop, drop_of_length-le}
use lib.Seq.{take_at, drop-drop, drop-append-add, set_at, drop-cons}
use lib.Dec.{eqb}
use borrow.Author.Tests.{eq-eqb, ne_eqb}
use Rattle.words.specs.Record.{pack_position, line_of, column_of}
use Rattle.column_lines.specs.Form.{kind_width, span_width, line_width, column_width, value_width, line_place, column_place, value_place}
use Rattle.column_lines.specs.Form.{newline_place, line_length, newline, signed_kind}
use Rattle.column_lines.specs.Numeral.{blank, written, right_justified, numeral, read_numeral, Wrote}
use Rattle.column_lines.specs.Line.{field_in, position_in, record_of, record_in, kind_in, span_in, place_in, value_in, read_line, record_line, LineWrote}
use borrow.Rule.Slice.PartMut.{mid_of, put_mid, Post-is, mid_len}
use Rattle.std.specs.Prelude.{Option, Some, None}

-- positions

module _ (a b : Option ℕ) {l c : ℕ} (A : a ≡ Some l) (B : b ≡ Some c) where
  pub position_yes : Some (pack_position l c) ≡ position_in a b
  unfolding position_in
  position_yes = rw (A, B)

pub record_all : (a b c d : Option ℕ) {k s p v : ℕ} → a ≡ Some k → b ≡ Some s → c ≡ Some p → d ≡ Some v → Some (record_of k s p v) ≡ record_in a b c d
unfolding record_in
record_all a b c d A B C D = rw (A, B, C, D)

-- lines

pub line_length_lem : (l : List ℕ) → (length l ≡ line_length → ⊥) → None ≡ read_line l
unfolding read_line
line_length_lem l n = simp (ne_eqb (length l) line_length n)

pub line_newline : (l : List ℕ) → length l ≡ line_length → (get_or l newline_place 0 ≡ newline → ⊥) → None ≡ read_line l
unfolding read_line
line_newline l e n = simp (eq-eqb (length l) line_length e, ne_eqb (get_or l newline_place 0) newline n)

pub line_whole : (l : List ℕ) → length l ≡ line_length → get_or l newline_place 0 ≡ newline → record_in (kind_in l) (span_in l) (place_in l) (value_in l) ≡
    read_line l
unfolding read_line
line_whole l e n = simp (eq-eqb (length l) line_length e, eq-eqb (get_or l newline_place 0) newline n)

-- a line of its form with its fields, up to one that is no number

module _ (l : List ℕ) (long : length l ≡ line_length) (ends : get_or l newline_place 0 ≡ newline) where
  pub kind_off : kind_in l ≡ None → None ≡ read_line l
  unfolding record_in
  kind_off K = let w = line_whole l long ends in rw (K, record_in) at w

  module _ {k : ℕ} (K : kind_in l ≡ Some k) where
    pub span_off : span_in l ≡ None → None ≡ read_line l
    unfolding record_in
    span_off S = let w = line_whole l long ends in rw (K, S, record_in) at w

    module _ {s : ℕ} (S : span_in l ≡ Some s) where
      pub row_off : read_numeral false (field_in line_place line_width l) ≡ None → None ≡ read_line l
      unfolding record_in position_in
      row_off R = let w = line_whole l long ends in rw (K, S, R, record_in, position_in) at w

      module _ {r : ℕ} (R : read_numeral false (field_in line_place line_width l) ≡ Some r) where
        pub column_off : read_numeral false (field_in column_place column_width l) ≡ None → None ≡ read_line l
        unfolding record_in position_in
        column_off C = let w = line_whole l long ends in rw (K, S, R, C, record_in, position_in) at w

        module _ {c : ℕ} (C : read_numeral false (field_in column_place column_width l) ≡ Some c) where
          pub value_off : read_numeral (eqb k signed_kind) (field_in value_place value_width l) ≡ None → None ≡ read_line l
          unfolding record_in position_in
          value_off V = let w = line_whole l long ends in rw (K, S, R, C, V, record_in, position_in) at w

          pub line_spelled : {v : ℕ} → read_numeral (eqb k signed_kind) (field_in value_place value_width l) ≡ Some v
              → Some (record_of k s (pack_position r c) v) ≡ read_line l
          unfolding record_in position_in
          line_spelled V = let w = line_whole l long ends in rw (K, S, R, C, V, record_in, position_in) at w

-- a field is as long as its width

pub numeral_length : (w : ℕ) (s : Bool) (word : ℕ) → length (numeral w s word) ≡ w
unfolding right_justified
numeral_length w s word =
    let d = length-drop (length (written s word)) (replicate w blank ++ written s word) in
    let a = length-append (replicate w blank) (written s word) in
    let r = length-replicate w blank in
    omega (arith, d, a, r)

-- a number is put into a field
pub field_put : (a e word : ℕ) (s : Bool) (xs ys : List ℕ) {r : Bool} → a ≤ e → e ≤ length xs → Wrote s word (mid_of a (e - a) xs) ys r
    → put_mid a (e - a) xs ys ≡ take a xs ++ (numeral (e - a) s word ++ drop e xs)
field_put a e word s xs ys l h w =
    let b : ys ≡ numeral (e - a) s word = w.bytes ∙ ap (λ (n : ℕ). numeral n s word) (mid_len a e xs h) in
    rw (b, Post-is a e xs l)

-- the first bytes of a line are written

pub record Begun (done before out : List ℕ) (k : ℕ) : Type 0 where
  pub long : length done ≡ k
  pub rest : out ≡ done ++ drop k before

pub begun : (before : List ℕ) → Begun [] before before 0
begun before = record { long = refl; rest = refl }

-- a part is put after them
pub begun_more : (done before out part after : List ℕ) (k e : ℕ) → Begun done before out k → length part ≡ e - k → k ≤ e
    → after ≡ take k out ++ (part ++ drop e out) → Begun (done ++ part) before after e
begun_more done before out part after k e b p l a =
    let t : take k out ≡ done = rw b.rest (take_at done (drop k before) k b.long) in
    let x : e ≡ length done + (e - k) = omega (arith, b.long) in
    let d : drop e out ≡ drop e before =
    rw b.rest (ap (λ (n : ℕ). drop n (done ++ drop k before)) x ∙ drop-append-add done (drop k before) (e - k)
    ∙ drop-drop (e - k) k before ∙ ap (λ (n : ℕ). drop n before) (let y : k + (e - k) ≡ e = omega arith in y)) in
    record {
      long = length-append done part ∙ omega (arith, b.long);
      rest = a ∙ rw (t, d) (sym (append_assoc done part (drop e before)));
    }

pub begun_length : (done before out : List ℕ) (k : ℕ) → Begun done before out k → k ≤ length before → length out ≡ length before
begun_length done before out k b l =
    let x : length out ≡ length done + length (drop k before) = ap length b.rest ∙ length-append done (drop k before) in
    omega (arith, x, length-drop k before, b.long)

-- a number is put into the field after them
pub begun_put : (done before out : List ℕ) (a e : ℕ) (s : Bool) (word : ℕ) {field : List ℕ} {r : Bool} → Begun done before out a → a ≤ e → e ≤ length before
    → Wrote s word (mid_of a (e - a) out) field r → Begun (done ++ numeral (e - a) s word) before (put_mid a (e - a) out field) e
begun_put done before out a e s word b l h w =
    let n = begun_length done before out a b (omega arith) in
    begun_more done before out (numeral (e - a) s word) _ a e b (numeral_length (e - a) s word) l (field_put a e word s out _ l (omega (arith, n)) w)

-- the last byte of a line
pub begun_last : (done before out : List ℕ) (k v : ℕ) → Begun done before out k → length before ≡ k + 1 → set out k v ≡ done ++ (v ∷ [])
begun_last done before out k v b l =
    let c : drop k before ≡ get_or before k 0 ∷ drop (suc k) before = drop-cons before k 0 (omega arith) in
    let n : drop (suc k) before ≡ [] = drop_of_length-le before {i = suc k} (omega arith) in
    rw (b.rest, c, n) (set_at done (get_or before k 0) [] v k b.long)

pub line_done : (kind span position value : ℕ) (before after : List ℕ) → length before ≡ line_length → after ≡ record_line kind span position value
    → LineWrote kind span position value before after true
line_done kind span position value before after l e =
    let t : eqb (length before) line_length ≡ true = eq-eqb (length before) line_length l in
    record { bytes = rw t e; done = sym t }

-- all its bytes but the last are
pub line_written : (kind span position value : ℕ) (before out : List ℕ) {row column : ℕ} → length before ≡ line_length → row ≡ line_of position
    → column ≡ column_of position
    → Begun ((((([] ++ numeral kind_width false kind) ++ numeral span_width false span) ++ numeral line_width false row) ++ numeral column_width false column)
    ++ numeral value_width (eqb kind signed_kind) value) before out newline_place
    → LineWrote kind span position value before (set out newline_place newline) true
unfolding record_line
line_written kind span position value before out l R C b =
    line_done kind span position value before _ l (begun_last _ before out newline_place newline b l ∙ rw (R, C) (simp append_assoc))

-- a record's line is as long as every line
pub line_size_lem : (kind span position value : ℕ) → length (record_line kind span position value) ≡ line_length
unfolding record_line
line_size_lem kind span position value =
    let a = numeral_length kind_width false kind in
    let b = numeral_length span_width false span in
    let c = numeral_length line_width false (line_of position) in
    let d = numeral_length column_width false (column_of position) in
    let e = numeral_length value_width (eqb kind signed_kind) value in
    simp length-append (omega (arith, a, b, c, d, e))
