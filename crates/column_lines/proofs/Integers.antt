-- Negative integers, held as they are: their words and their size without the sign. Assumes nothing.
use Prim.Native.Nat.{ℕ, zero, suc, ◌-◌, ◌^◌, ◌≤◌, ◌<◌}
use native.Mathlib.Omega.{arith}
use mathlib.Core.Path.{◌≡◌, refl, sym, ap, ◌∙◌}
use mathlib.Core.Bool.{Bool, false, cond}
use lib.IntN.{ℤ, pos, negsuc, neg_ℤ, nat_abs}
use lib.Dec.{ltb}
use borrow.Author.Tests.{le-ltb}
use mir.Syntax.{w64}
use mir.Val.{Fits, SFits, of_z, to_z}
use mir.Facts.{of_z-to_z}
use mir.ValLaws.{to_z-of_z, to_z-neg}
use Rattle.words.specs.Constants.{word_of_integer, integer_of_word}
use Rattle.column_lines.specs.Numeral.{least_size, word_end}

abbrev neg : ℕ → ℤ
neg m = neg_ℤ (pos m)

-- a result, as the machine holds it
abbrev kept : ℤ → ℤ
kept z = to_z w64 (of_z w64 z)

neg_fits : (m : ℕ) → m ≤ least_size → SFits w64 (neg m)
neg_fits zero h = record { sfits = omega arith }
neg_fits (suc a) h = record { sfits = omega arith }

-- the word of a negative integer
pub word_held : (n : ℤ) → n ≡ neg (nat_abs n) → nat_abs n ≤ least_size → 0 < nat_abs n → word_of_integer (kept n) ≡ word_end - nat_abs n
word_held n e l p =
    let k : kept n ≡ neg (nat_abs n) = ap kept e ∙ to_z-of_z w64 (neg (nat_abs n)) (neg_fits (nat_abs n) l) in
    ap word_of_integer k ∙ of_neg (nat_abs n) p
  where
    of_neg : (m : ℕ) → 0 < m → word_of_integer (neg m) ≡ word_end - m
    of_neg zero p = absurd (omega arith)
    of_neg (suc a) p = refl

-- the integer of a word from 2^63 on
module _ (word : ℕ) (n : ℤ) (f : Fits w64 word) (l : least_size ≤ word) (N : n ≡ integer_of_word word) where
  below : kept n ≡ negsuc (word_end - 1 - word)
  below =
      let b = f.fits in
      let t : ltb word (2 ^ 63) ≡ false = le-ltb word (2 ^ 63) l in
      let x : 2 ^ 64 - suc (word_end - 1 - word) ≡ word = omega arith in
      let w : to_z w64 word ≡ negsuc (word_end - 1 - word) = ap (to_z w64) (sym x) ∙ to_z-neg w64 (word_end - 1 - word) (omega arith) in
      let y : 2 ^ 64 - suc word ≡ word_end - 1 - word = omega arith in
      let i : n ≡ negsuc (word_end - 1 - word) = N ∙ ap (λ (b : Bool). cond b (pos word) (negsuc (2 ^ 64 - suc word))) t ∙ ap negsuc y in
      ap kept (i ∙ sym w) ∙ ap (to_z w64) (of_z-to_z f) ∙ w

  pub negative_size : nat_abs (kept n) ≡ word_end - word
  negative_size = let x : nat_abs (kept n) ≡ suc (word_end - 1 - word) = ap nat_abs below in let b = f.fits in omega (arith, x)

  pub negative_held : (kept n ≡ neg (nat_abs (kept n))) × (nat_abs (kept n) ≤ least_size)
  negative_held = (below ∙ ap neg (sym (ap nat_abs below)), omega (arith, negative_size))
