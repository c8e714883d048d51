-- A line comes back: a line that spells a record is that record's line (`line_again`), and a record's line spells it, if its numbers fit their fields
-- (`line_read`). Assumes nothing.
use Prim.Native.Nat.{ℕ, zero, suc, ◌+◌, ◌-◌, ◌/◌, ◌%◌, ◌^◌, ◌≤◌, ◌<◌}
use native.Mathlib.Nat.{pow-suc}
use native.Mathlib.Omega.{arith}
use mathlib.Core.Path.{◌≡◌, refl, sym, ap, subst, ◌∙◌}
use mathlib.Core.Bool.{Bool, true, false, cond, ◌&&◌}
use mathlib.Core.List.{List, [], ◌∷◌, ◌++◌}
use lib.ListN.{length, take, drop, get_or, length-drop, take-append-drop, drop_of_length-le}
use lib.Seq.{take_at, drop-drop, drop-append-add, drop-cons, length-take-le, get_or-append-add}
use lib.Dec.{eqb}
use borrow.Author.Tests.{eq-eqb, eqb-true, leb-true}
use Rattle.words.specs.Record.{position_base, pack_position, line_of, column_of}
use Rattle.column_lines.specs.Form.{kind_width, span_width, line_width, column_width, value_width, span_place, line_place, column_place, value_place}
use Rattle.column_lines.specs.Form.{newline_place, line_length, newline, signed_kind}
use Rattle.column_lines.specs.Numeral.{word_end, least_size, negative_of, numeral, numeral_fits, read_numeral}
use Rattle.column_lines.specs.Spelling.{rest_fits, spell_fits}
use Rattle.column_lines.specs.Line.{field_in, signed_is, position_in, record_of, record_in, kind_in}
use Rattle.column_lines.specs.Line.{span_in, place_in, value_in, whole_line, read_line, record_line}
use Rattle.std.specs.Prelude.{Option, Some, None}
use Rattle.std.proofs.lemmas.Option.{same_Some}
use Rattle.words.specs.declared.node.Record.{Record}
use Rattle.column_lines.proofs.Digits.{fits_spelled}
use Rattle.column_lines.proofs.Numerals.{read_written, written_read, read_below}
use Rattle.column_lines.proofs.Lines.{numeral_length, position_yes, record_all, line_whole, line_size_lem}

-- a number below a power of ten fits

rest_fits_lem : (w m : ℕ) → m < 10 ^ w → rest_fits w false m ≡ true
unfolding rest_fits
rest_fits_lem zero m h = simp (eq-eqb m 0 (omega arith))
rest_fits_lem (suc w) m h = by (eqb m 0) (rest_fits_lem w (m / 10) (let p = pow-suc 10 w in omega (arith, p)))
  where
    by : (t : Bool) {x : Bool} → x ≡ true → cond t true x ≡ true
    by true e = refl
    by false e = e

rest_fits_signed : (w m : ℕ) → m < 10 ^ w → rest_fits (suc w) true m ≡ true
unfolding rest_fits
rest_fits_signed zero m h = simp (eq-eqb m 0 (omega arith))
rest_fits_signed (suc w) m h = by (eqb m 0) (rest_fits_signed w (m / 10) (let p = pow-suc 10 w in omega (arith, p)))
  where
    by : (t : Bool) {x : Bool} → x ≡ true → cond t true x ≡ true
    by true e = refl
    by false e = e

pub natural_fits : (w word : ℕ) → 0 < w → word < 10 ^ w → numeral_fits w false word ≡ true
unfolding spell_fits
natural_fits zero word z h = absurd (omega arith)
natural_fits (suc w) word z h = fits_spelled false word (suc w) ∙ rest_fits_lem w (word / 10) (let p = pow-suc 10 w in omega (arith, p))

-- every value fits its field
pub value_fits : (s : Bool) (word : ℕ) → word < word_end → numeral_fits value_width s word ≡ true
unfolding spell_fits
value_fits s word h = fits_spelled s word value_width ∙ go (negative_of s word) refl
  where
    minus : (s : Bool) → negative_of s word ≡ true → least_size ≤ word
    minus true e = leb-true least_size word e
    minus false e = cc

    go : (t : Bool) → negative_of s word ≡ t → rest_fits 20 (negative_of s word) (cond (negative_of s word) (word_end - word) word / 10) ≡ true
    go true e = rw e (rest_fits_signed 19 ((word_end - word) / 10) (let l = minus s e in omega arith))
    go false e = rw e (rest_fits_lem 20 (word / 10) (omega arith))

-- a line that was read

record-parts : (a b c d : Option ℕ) {k s p v : ℕ} → record_in a b c d ≡ Some (record_of k s p v) → (a ≡ Some k) × (b ≡ Some s) × (c ≡ Some p) × (d ≡ Some v)
unfolding record_in
record-parts (Some k) (Some s) (Some p) (Some v) e =
    let q = same_Some _ _ e in
    (ap (λ (r : Record). Some r.kind) q, ap (λ (r : Record). Some r.span) q, ap (λ (r : Record). Some r.position) q, ap (λ (r : Record). Some r.value) q)
record-parts (Some k) (Some s) (Some p) None e = cc
record-parts (Some k) (Some s) None d e = cc
record-parts (Some k) None c d e = cc
record-parts None b c d e = cc

position_parts : (a b : Option ℕ) {p : ℕ} → ((c : ℕ) → b ≡ Some c → c < position_base) → position_in a b ≡ Some p
    → (a ≡ Some (line_of p)) × (b ≡ Some (column_of p))
unfolding position_in
position_parts (Some l) (Some c) {p} below e =
    let q : pack_position l c ≡ p = cc e in
    let k : c < position_base = below c refl in
    (ap Some (let z : l ≡ p / position_base = omega (arith, q, k) in z), ap Some (let z : c ≡ p % position_base = omega (arith, q, k) in z))
position_parts (Some l) None below e = cc
position_parts None b below e = cc

-- a number in a field of a line is below the power of ten of the field's width
pub field_below : (l : List ℕ) (at w : ℕ) {word : ℕ} → at + w ≤ length l → read_numeral false (field_in at w l) ≡ Some word → word < 10 ^ w
field_below l at w {word} h e =
    let n : length (field_in at w l) ≡ w = length-take-le w (drop at l) (omega (arith, length-drop at l)) in
    subst (λ (k : ℕ). word < 10 ^ k) n (read_below (field_in at w l) word e)

if_line : (t : Bool) {n : Option Record} {k s p v : ℕ} → cond t n None ≡ Some (record_of k s p v) → (t ≡ true) × (n ≡ Some (record_of k s p v))
if_line true e = (refl, e)
if_line false e = cc

and_parts : (a b : Bool) → (a && b) ≡ true → (a ≡ true) × (b ≡ true)
and_parts true b e = (refl, e)
and_parts false b e = cc

pub record Spells (l : List ℕ) (k s p v : ℕ) : Type 0 where
  pub long : length l ≡ line_length
  pub ends : get_or l newline_place 0 ≡ newline
  pub kind : kind_in l ≡ Some k
  pub span : span_in l ≡ Some s
  pub line : read_numeral false (field_in line_place line_width l) ≡ Some (line_of p)
  pub column : read_numeral false (field_in column_place column_width l) ≡ Some (column_of p)
  pub value : read_numeral (eqb k signed_kind) (field_in value_place value_width l) ≡ Some v

pub spells : (l : List ℕ) {k s p v : ℕ} → read_line l ≡ Some (record_of k s p v) → Spells l k s p v
unfolding read_line
spells l {k} {s} {p} {v} e =
    let x = if_line (whole_line l) e in
    let y = and_parts (eqb (length l) line_length) _ x.0 in
    let r = record-parts (kind_in l) (span_in l) (place_in l) (value_in l) x.1 in
    let n = eqb-true (length l) line_length y.0 in
    let q = position_parts _ _ (λ c h. let z = field_below l column_place column_width (omega (arith, n)) h in omega (arith, z)) r.2 in
    let g : signed_is (kind_in l) ≡ eqb k signed_kind = ap signed_is r.0 in
    record {
      long = n;
      ends = eqb-true (get_or l newline_place 0) newline y.1;
      kind = r.0;
      span = r.1;
      line = q.0;
      column = q.1;
      value = ap (λ (t : Bool). read_numeral t (field_in value_place value_width l)) (sym g) ∙ r.3;
    }

-- a field is taken off the front of what is left of a line
field_off : (l : List ℕ) (at w : ℕ) → drop at l ≡ field_in at w l ++ drop (at + w) l
field_off l at w = sym (take-append-drop w (drop at l)) ∙ ap (λ (r : List ℕ). field_in at w l ++ r) (drop-drop w at l)

field_back : (l : List ℕ) (at w : ℕ) (s : Bool) (word : ℕ) → at + w ≤ length l → read_numeral s (field_in at w l) ≡ Some word
    → numeral w s word ≡ field_in at w l
field_back l at w s word h e =
    let n : length (field_in at w l) ≡ w = length-take-le w (drop at l) (omega (arith, length-drop at l)) in
    ap (λ (k : ℕ). numeral k s word) (sym n) ∙ written_read s (field_in at w l) word e

pub line_again : (l : List ℕ) {k s p v : ℕ} → read_line l ≡ Some (record_of k s p v) → record_line k s p v ≡ l
unfolding record_line
line_again l {k} {s} {p} {v} e =
    let x = spells l e in
    let n = x.long in
    let last : drop newline_place l ≡ newline ∷ [] = drop-cons l newline_place 0 (omega arith)
    ∙ ap (λ (b : ℕ). b ∷ drop line_length l) x.ends ∙ ap (λ (r : List ℕ). newline ∷ r) (drop_of_length-le l {i = line_length} (omega arith)) in
    rw (
      field_back l 0 kind_width false k (omega arith) x.kind,
      field_back l span_place span_width false s (omega arith) x.span,
      field_back l line_place line_width false (line_of p) (omega arith) x.line,
      field_back l column_place column_width false (column_of p) (omega arith) x.column,
      field_back l value_place value_width (eqb k signed_kind) v (omega arith) x.value,
    )
    (sym (field_off l 0 kind_width ∙ ap (λ (r : List ℕ). field_in 0 kind_width l ++ r) (field_off l span_place span_width
    ∙ ap (λ (r : List ℕ). field_in span_place span_width l ++ r) (field_off l line_place line_width
    ∙ ap (λ (r : List ℕ). field_in line_place line_width l ++ r) (field_off l column_place column_width
    ∙ ap (λ (r : List ℕ). field_in column_place column_width l ++ r) (field_off l value_place value_width
    ∙ ap (λ (r : List ℕ). field_in value_place value_width l ++ r) last))))))

-- a line that was written

first_field : (a r : List ℕ) (w : ℕ) → length a ≡ w → field_in 0 w (a ++ r) ≡ a
first_field a r w n = take_at a r w n

next_field : (a r : List ℕ) (m at w : ℕ) → length a ≡ m → field_in (m + at) w (a ++ r) ≡ field_in at w r
next_field a r m at w n = ap (take w) (ap (λ (k : ℕ). drop (k + at) (a ++ r)) (sym n) ∙ drop-append-add a r at)

next_byte : (a r : List ℕ) (m n : ℕ) → length a ≡ m → get_or (a ++ r) (m + n) 0 ≡ get_or r n 0
next_byte a r m n e = ap (λ (k : ℕ). get_or (a ++ r) (k + n) 0) (sym e) ∙ get_or-append-add a r n 0

module _ (a b c d e : List ℕ) (la : length a ≡ kind_width) (lb : length b ≡ span_width) (lc : length c ≡ line_width) (ld : length d ≡ column_width)
    (le : length e ≡ value_width) where
  abbrev whole : List ℕ
  whole = a ++ (b ++ (c ++ (d ++ (e ++ (newline ∷ [])))))

  -- what stands behind each field, from its own end on
  after_a : (at w : ℕ) → field_in (kind_width + at) w whole ≡ field_in at w (b ++ (c ++ (d ++ (e ++ (newline ∷ [])))))
  after_a at w = next_field a _ kind_width at w la

  after_b : (at w : ℕ) → field_in (kind_width + (span_width + at)) w whole ≡ field_in at w (c ++ (d ++ (e ++ (newline ∷ []))))
  after_b at w = after_a (span_width + at) w ∙ next_field b _ span_width at w lb

  after_c : (at w : ℕ) → field_in (kind_width + (span_width + (line_width + at))) w whole ≡ field_in at w (d ++ (e ++ (newline ∷ [])))
  after_c at w = after_b (line_width + at) w ∙ next_field c _ line_width at w lc

  after_d : (at w : ℕ) → field_in (kind_width + (span_width + (line_width + (column_width + at)))) w whole ≡ field_in at w (e ++ (newline ∷ []))
  after_d at w = after_c (column_width + at) w ∙ next_field d _ column_width at w ld

  f0 : field_in 0 kind_width whole ≡ a
  f0 = first_field a _ kind_width la

  f1 : field_in span_place span_width whole ≡ b
  f1 = after_a 0 span_width ∙ first_field b _ span_width lb

  f2 : field_in line_place line_width whole ≡ c
  f2 = after_b 0 line_width ∙ first_field c _ line_width lc

  f3 : field_in column_place column_width whole ≡ d
  f3 = after_c 0 column_width ∙ first_field d _ column_width ld

  f4 : field_in value_place value_width whole ≡ e
  f4 = after_d 0 value_width ∙ first_field e _ value_width le

  f5 : get_or whole newline_place 0 ≡ newline
  f5 = next_byte a _ kind_width (span_width + (line_width + (column_width + value_width))) la
      ∙ next_byte b _ span_width (line_width + (column_width + value_width)) lb ∙ next_byte c _ line_width (column_width + value_width) lc
      ∙ next_byte d _ column_width value_width ld ∙ next_byte e _ value_width 0 le

module _ (k s p v : ℕ) (hk : k < 10 ^ kind_width) (hs : s < 10 ^ span_width) (hl : line_of p < 10 ^ line_width) (hc : column_of p < 10 ^ column_width)
    (hv : v < word_end) where
  abbrev n0 : List ℕ
  n0 = numeral kind_width false k

  abbrev n1 : List ℕ
  n1 = numeral span_width false s

  abbrev n2 : List ℕ
  n2 = numeral line_width false (line_of p)

  abbrev n3 : List ℕ
  n3 = numeral column_width false (column_of p)

  abbrev n4 : List ℕ
  n4 = numeral value_width (eqb k signed_kind) v

  l0 : length n0 ≡ kind_width
  l0 = numeral_length kind_width false k

  l1 : length n1 ≡ span_width
  l1 = numeral_length span_width false s

  l2 : length n2 ≡ line_width
  l2 = numeral_length line_width false (line_of p)

  l3 : length n3 ≡ column_width
  l3 = numeral_length column_width false (column_of p)

  l4 : length n4 ≡ value_width
  l4 = numeral_length value_width (eqb k signed_kind) v

  kind_read : kind_in (record_line k s p v) ≡ Some k
  unfolding record_line
  kind_read = ap (read_numeral false) (f0 n0 n1 n2 n3 n4 l0 l1 l2 l3 l4)
      ∙ read_written kind_width false k (omega arith) (natural_fits kind_width k (omega arith) hk)

  span_read : span_in (record_line k s p v) ≡ Some s
  unfolding record_line
  span_read = ap (read_numeral false) (f1 n0 n1 n2 n3 n4 l0 l1 l2 l3 l4)
      ∙ read_written span_width false s (omega arith) (natural_fits span_width s (omega arith) hs)

  place_read : place_in (record_line k s p v) ≡ Some p
  unfolding record_line
  place_read =
      let x : read_numeral false (field_in line_place line_width (record_line k s p v)) ≡ Some (line_of p) =
      ap (read_numeral false) (f2 n0 n1 n2 n3 n4 l0 l1 l2 l3 l4)
      ∙ read_written line_width false (line_of p) (omega arith) (natural_fits line_width (line_of p) (omega arith) hl) in
      let y : read_numeral false (field_in column_place column_width (record_line k s p v)) ≡ Some (column_of p) =
      ap (read_numeral false) (f3 n0 n1 n2 n3 n4 l0 l1 l2 l3 l4)
      ∙ read_written column_width false (column_of p) (omega arith) (natural_fits column_width (column_of p) (omega arith) hc) in
      sym (position_yes _ _ x y) ∙ ap Some (let z : pack_position (line_of p) (column_of p) ≡ p = omega arith in z)

  value_read : value_in (record_line k s p v) ≡ Some v
  unfolding record_line
  value_read =
      ap (λ (t : Bool). read_numeral t (field_in value_place value_width (record_line k s p v))) (ap signed_is kind_read)
      ∙ ap (read_numeral (eqb k signed_kind)) (f4 n0 n1 n2 n3 n4 l0 l1 l2 l3 l4)
      ∙ read_written value_width (eqb k signed_kind) v hv (value_fits (eqb k signed_kind) v hv)

  ends_read : get_or (record_line k s p v) newline_place 0 ≡ newline
  unfolding record_line
  ends_read = f5 n0 n1 n2 n3 n4 l0 l1 l2 l3 l4

  pub line_read : read_line (record_line k s p v) ≡ Some (record_of k s p v)
  line_read =
      sym (record_all _ _ _ _ kind_read span_read place_read value_read ∙ line_whole (record_line k s p v) (line_size_lem k s p v) ends_read)
