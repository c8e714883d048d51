-- Numbers and bytes at an offset: one law for each way through the code, and that none changes how long the buffer is.
-- Assumes nothing.
use Prim.Native.Nat.{ℕ, ◌+◌, ◌-◌, ◌≤◌, ◌<◌}
use native.Mathlib.Omega.{arith}
use mathlib.Core.Path.{◌≡◌, refl, sym, ap, ◌∙◌}
use mathlib.Core.Bool.{Bool, true, false, cond, ◌&&◌}
use mathlib.Core.List.{List, ◌++◌}
use lib.ListN.{length, take, drop, set, length-append, length-drop, length-set}
use lib.Seq.{length-take-le}
use lib.Dec.{leb}
use borrow.Author.Tests.{le-leb, lt-leb, leb-true}
use borrow.Rule.Slice.PartMut.{mid_of, put_mid, mid_len}
use Rattle.column_lines.specs.Numeral.{numeral, numeral_fits, Wrote}
use Rattle.column_lines.proofs.Lines.{numeral_length, field_put}
use Rattle.std.specs.Prelude.{Result, Ok}
use Rattle.line_writer.specs.declared.place.Refused.{Refused}
use Rattle.line_writer.specs.Written.{start_at, place_of}
use Rattle.line_writer.specs.Placed.{Placed, placed, has_room, refused, number_put, number_at, byte_put, byte_at}

pub room_yes : (n : ℕ) (m : Placed) → m.fits ≡ true → m.offset + n ≤ length m.bytes → has_room n m ≡ true
room_yes n m f h = ap (λ (b : Bool). b && leb (m.offset + n) (length m.bytes)) f ∙ le-leb _ _ h

-- no room: the buffer is too short
room_short : (n : ℕ) (m : Placed) → length m.bytes < m.offset + n → has_room n m ≡ false
room_short n m h = ap (λ (b : Bool). m.fits && b) (lt-leb _ _ h) ∙ none m.fits
  where
    none : (b : Bool) → (b && false) ≡ false
    none true = refl
    none false = refl

pub number_done : (width word : ℕ) (s : Bool) (p : Result ℕ Refused) (at : ℕ) (xs ys : List ℕ) {r t : Bool} → p ≡ Ok at → at ≤ length xs
    → width ≤ length xs - at → Wrote s word (mid_of at (at + width - at) xs) ys r → r ≡ t
    → record { offset = at + width; fits = t; bytes = put_mid at (at + width - at) xs ys } ≡ number_at width s word (placed p xs)
unfolding number_at
number_done width word s p at xs ys {r} {t} q h h' w e =
    let within : at + width ≤ length xs = omega (arith, h, h') in
    let same : at + width - at ≡ width = omega arith in
    let bytes : put_mid at (at + width - at) xs ys ≡ take at xs ++ (numeral width s word ++ drop (at + width) xs) =
    field_put at (at + width) word s xs ys (omega arith) within w ∙ ap (λ (n : ℕ). take at xs ++ (numeral n s word ++ drop (at + width) xs)) same in
    let fits : t ≡ numeral_fits width s word =
    sym e ∙ (w.fits ∙ ap (λ (n : ℕ). numeral_fits n s word) (mid_len at (at + width) xs within ∙ same)) in
    (λ j. record { offset = at + width; fits = fits j; bytes = bytes j })
    ∙ sym (ap (λ (b : Bool). cond b (number_put width s word (start_at at xs)) (refused (start_at at xs))) (room_yes width (start_at at xs) refl within))
    ∙ ap (λ (o : Result ℕ Refused). number_at width s word (placed o xs)) (sym q)

pub number_short : (width word : ℕ) (s : Bool) (at : ℕ) (xs : List ℕ) → length xs < at + width
    → refused (start_at at xs) ≡ number_at width s word (start_at at xs)
unfolding number_at
number_short width word s at xs h =
    sym (ap (λ (b : Bool). cond b (number_put width s word (start_at at xs)) (refused (start_at at xs))) (room_short width (start_at at xs) h))

pub number_gone : (width word : ℕ) (s : Bool) (at : ℕ) (xs : List ℕ) → refused (start_at at xs) ≡ number_at width s word (refused (start_at at xs))
unfolding number_at
number_gone width word s at xs = refl

pub byte_done : (b at : ℕ) (xs : List ℕ) → at < length xs → start_at (at + 1) (set xs at b) ≡ byte_at b (start_at at xs)
unfolding byte_at
byte_done b at xs h =
    sym (ap (λ (t : Bool). cond t (byte_put b (start_at at xs)) (refused (start_at at xs))) (room_yes 1 (start_at at xs) refl (omega (arith, h))))

pub byte_short : (b at : ℕ) (xs : List ℕ) → length xs ≤ at → refused (start_at at xs) ≡ byte_at b (start_at at xs)
unfolding byte_at
byte_short b at xs h =
    sym (ap (λ (t : Bool). cond t (byte_put b (start_at at xs)) (refused (start_at at xs))) (room_short 1 (start_at at xs) (omega (arith, h))))

pub byte_gone : (b at : ℕ) (xs : List ℕ) → refused (start_at at xs) ≡ byte_at b (refused (start_at at xs))
unfolding byte_at
byte_gone b at xs = refl

-- what a place makes of a buffer has that place
pub placed_back : (m : Placed) → placed (place_of m) m.bytes ≡ m
placed_back m = by m.offset m.fits m.bytes
  where
    by : (at : ℕ) (f : Bool) (bs : List ℕ) → placed (place_of (record { offset = at; fits = f; bytes = bs })) bs ≡ record { offset = at; fits = f; bytes = bs }
    by at true bs = refl
    by at false bs = refl

-- the buffer stays as long as it is
pub number_length : (width word : ℕ) (s : Bool) (m : Placed) → length (number_at width s word m).bytes ≡ length m.bytes
unfolding number_at
number_length width word s m = by m.fits (leb (m.offset + width) (length m.bytes)) (λ e. put (leb-true (m.offset + width) (length m.bytes) e))
  where
    put : m.offset + width ≤ length m.bytes → length (number_put width s word m).bytes ≡ length m.bytes
    put h =
        let n = numeral_length width s word in
        let t = length-take-le m.offset m.bytes (omega (arith, h)) in
        let d = length-drop (m.offset + width) m.bytes in
        let a = length-append (numeral width s word) (drop (m.offset + width) m.bytes) in
        length-append (take m.offset m.bytes) _ ∙ omega (arith, n, t, d, a, h)

    by : (f t : Bool) → (t ≡ true → length (number_put width s word m).bytes ≡ length m.bytes)
        → length (cond (f && t) (number_put width s word m) (refused m)).bytes ≡ length m.bytes
    by true true h = h refl
    by true false h = refl
    by false t h = refl

pub byte_length : (b : ℕ) (m : Placed) → length (byte_at b m).bytes ≡ length m.bytes
unfolding byte_at
byte_length b m = by (has_room 1 m)
  where
    by : (t : Bool) → length (cond t (byte_put b m) (refused m)).bytes ≡ length m.bytes
    by true = length-set m.bytes m.offset b
    by false = refl
