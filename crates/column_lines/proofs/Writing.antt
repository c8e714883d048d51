-- Writing a number into a field from its last digit on: one law for each way through the code, over sign and width. Assumes nothing.
use Prim.Native.Nat.{ℕ, zero, suc, ◌+◌, ◌-◌, ◌/◌, ◌%◌, ◌≤◌, ◌<◌}
use native.Mathlib.Omega.{arith}
use mathlib.Core.Path.{◌≡◌, refl, sym, ap, ◌∙◌}
use native.Mathlib.Numerals.{add-one}
use mathlib.Core.Bool.{Bool, true, false}
use mathlib.Core.List.{List, [], ◌∷◌, ◌++◌, append-nil}
use lib.ListN.{length, take, drop, set, replicate, length-set, length-take, length-replicate, drop_of_length-le}
use lib.Seq.{set_split, drop_at, length-take-le, append_snoc}
use borrow.Author.Tests.{leb-true}
use Rattle.column_lines.specs.Numeral.{digit_of, least_size, word_end, negative_of, Wrote}
use Rattle.column_lines.specs.Spelling.{magnitude_of, lead_of, rest_of, spelled, lead_fits, rest_fits, spell_fits, Spelt, Led}
use Rattle.column_lines.proofs.Digits.{rest_lead, rest_lead_fits, spelled_rest, spelled_rest_fits, numeral_spelled, fits_spelled}

pub drop_set : (l : List ℕ) (k d : ℕ) → k < length l → drop k (set l k d) ≡ d ∷ drop (suc k) l
drop_set l k d h = rw (set_split l k d h) (drop_at (take k l) (d ∷ drop (suc k) l) k (length-take-le k l (omega arith)))

-- what is left of a number is still to be written in the bytes before k
pub record Writing (g : Bool) (number width : ℕ) (out : List ℕ) (k m : ℕ) : Type 0 where
  pub long : length out ≡ width
  pub inside : k ≤ width
  pub bytes : spelled k g m ++ drop k out ≡ spelled width g number
  pub fits : spell_fits k g m ≡ spell_fits width g number

pub write_start : (g : Bool) (number : ℕ) (out : List ℕ) → Writing g number (length out) out (length out) number
write_start g number out =
    record {
      long = refl;
      inside = omega arith;
      bytes = rw (drop_of_length-le out {i = length out} (omega arith)) (append-nil _);
      fits = refl;
    }

module _ (g : Bool) (number width : ℕ) (out : List ℕ) (k m d : ℕ) (w : Writing g number width out (k + 1) m) (D : d ≡ m % 10) where
  -- the last digit, in its place
  put : drop k (set out k (48 + d)) ≡ digit_of m ∷ drop (suc k) out
  put = drop_set out k (48 + d) (omega (arith, w.long, w.inside)) ∙ rw D

  whole : rest_of k g (m / 10) ++ drop k (set out k (48 + d)) ≡ spelled width g number
  unfolding spelled
  whole = rw (put, ← append_snoc) (let b : spelled (k + 1) g m ++ drop (k + 1) out ≡ spelled width g number = w.bytes in rw add-one at b)

  fit : rest_fits k g (m / 10) ≡ spell_fits width g number
  unfolding spell_fits
  fit = let f : spell_fits (k + 1) g m ≡ spell_fits width g number = w.fits in rw add-one at f

  -- more digits are left
  pub write_turn : {r : ℕ} → r ≡ m / 10 → 0 < r → Writing g number width (set out k (48 + d)) k r
  write_turn {r} R p =
      let n : m / 10 ≡ 0 → ⊥ = λ e. omega (arith, R) in
      record {
        long = length-set out k (48 + d) ∙ w.long;
        inside = omega (arith, w.inside);
        bytes = rw (R, spelled_rest k g (m / 10) n) whole;
        fits = rw (R, spelled_rest_fits k g (m / 10) n) fit;
      }

  -- none is, and the rest of the field is led
  pub write_end : (before lead : List ℕ) {r : Bool} → width ≡ length before → m / 10 ≡ 0
      → Led g (length (take k (set out k (48 + d)))) (take k (set out k (48 + d))) lead r
      → Spelt g number before (lead ++ drop k (set out k (48 + d))) r
  write_end before lead {r} W z l =
      let part : List ℕ = take k (set out k (48 + d)) in
      let n : length part ≡ k = omega (arith, length-take k (set out k (48 + d)), length-set out k (48 + d), w.long, w.inside) in
      let gone : drop (length part) part ≡ [] = drop_of_length-le part {i = length part} (omega arith) in
      let b : lead ≡ lead_of k g = l.bytes ∙ rw (gone, n) (append-nil _) in
      let f : r ≡ lead_fits k g = l.fits ∙ rw n in
      record {
        bytes = rw (b, ← rest_lead k g (m / 10) z, ← W) whole;
        fits = f ∙ sym (rest_lead_fits k g (m / 10) z) ∙ rw (← W) fit;
      }

-- the field is full
pub write_none : (g : Bool) (number : ℕ) (before out : List ℕ) (k m : ℕ) {width : ℕ} → width ≡ length before → Writing g number width out k m → k ≡ 0
    → Spelt g number before out false
unfolding spelled spell_fits
write_none g number before out zero m W w e = record { bytes = rw (← W) w.bytes; fits = rw (← W) w.fits }
write_none g number before out (suc k) m W w e = absurd (omega arith)

-- what leads

pub lead_blank : (g : Bool) (before after : List ℕ) → g ≡ false → after ≡ replicate (length before) 32 → Led g (length before) before after true
unfolding lead_of lead_fits
lead_blank true before after n e = cc
lead_blank false before after n e =
    record { bytes = rw (drop_of_length-le before {i = length before} (omega arith), append-nil) e; fits = blank (length before) }
  where
    blank : (w : ℕ) → true ≡ lead_fits w false
    blank zero = refl
    blank (suc w) = refl

pub lead_none : (g : Bool) (before after : List ℕ) → g ≡ true → length before ≡ 0 → after ≡ replicate (length before) 32
    → Led g (length before) before after false
unfolding lead_of lead_fits
lead_none true [] after n z e = record { bytes = e; fits = refl }
lead_none true (b ∷ bs) after n z e = absurd (omega arith)
lead_none false before after n z e = cc

blanks_sign : (w : ℕ) → set {A = ℕ} (replicate (suc w) 32) w 45 ≡ replicate w 32 ++ (45 ∷ [])
blanks_sign zero = refl
blanks_sign (suc w) = ap (λ (l : List ℕ). 32 ∷ l) (blanks_sign w)

pub lead_sign : (g : Bool) (before blanks : List ℕ) → g ≡ true → 0 < length before → blanks ≡ replicate (length before) 32
    → Led g (length before) before (set blanks (length blanks - 1) 45) true
unfolding lead_of lead_fits
lead_sign true [] blanks n h e = absurd (omega arith)
lead_sign true (b ∷ bs) blanks n h e =
    let l : length blanks - 1 ≡ length bs = omega (arith, ap length e, length-replicate {A = ℕ} (length (b ∷ bs)) 32) in
    let s : set blanks (length blanks - 1) 45 ≡ replicate (length bs) 32 ++ (45 ∷ []) = rw (l, e) (blanks_sign (length bs)) in
    record { bytes = rw (drop_of_length-le (b ∷ bs) {i = length (b ∷ bs)} (omega arith), append-nil) s; fits = refl }
lead_sign false before blanks n h e = cc

-- a word is written by its sign and magnitude

wrote_spelt : (signed : Bool) (word : ℕ) (before after : List ℕ) {r : Bool}
    → Spelt (negative_of signed word) (magnitude_of signed word) before after r → Wrote signed word before after r
wrote_spelt signed word before after s =
    record {
      bytes = s.bytes ∙ sym (numeral_spelled signed word (length before));
      fits = s.fits ∙ sym (fits_spelled signed word (length before));
    }

pub wrote_natural : (signed : Bool) (word : ℕ) (before after : List ℕ) {r : Bool} → false ≡ negative_of signed word → Spelt false word before after r
    → Wrote signed word before after r
wrote_natural signed word before after e s = wrote_spelt signed word before after (record { bytes = rw (← e) s.bytes; fits = rw (← e) s.fits })

pub wrote_negative : (signed : Bool) (word m : ℕ) (before after : List ℕ) {r : Bool} → true ≡ negative_of signed word → m ≡ word_end - word
    → Spelt true m before after r → Wrote signed word before after r
wrote_negative signed word m before after e M s =
    wrote_spelt signed word before after (record { bytes = rw (← e, ← M) s.bytes; fits = rw (← e, ← M) s.fits })

pub negative_yes : (signed : Bool) (word : ℕ) → true ≡ negative_of signed word → least_size ≤ word
negative_yes true word e = leb-true least_size word (sym e)
negative_yes false word e = cc
