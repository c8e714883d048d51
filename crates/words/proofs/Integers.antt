-- Two's complement in 64 bits: each way is the other's way back. Assumes nothing.
use Prim.Native.Nat.{ℕ, suc, ◌-◌, ◌^◌, ◌≤◌, ◌<◌}
use native.Mathlib.Omega.{arith}
use mathlib.Core.Path.{◌≡◌, refl, ap}
use mathlib.Core.Bool.{Bool, true, false, cond}
use lib.IntN.{ℤ, pos, negsuc}
use lib.Dec.{ltb}
use borrow.Author.Tests.{lt-ltb, le-ltb, ltb-true, ltb-false}
use mir.Syntax.{w64}
use mir.Val.{SFits}
use Rattle.words.specs.Constants.{word_of_integer, integer_of_word}

-- the ways back
pub integer_back : (z : ℤ) → SFits w64 z → integer_of_word (word_of_integer z) ≡ z
integer_back (pos n) f = simp (lt-ltb n (2 ^ 63) f.sfits)
integer_back (negsuc n) f =
    let l : n < 2 ^ 63 = f.sfits in
    let e : 2 ^ 64 - suc (2 ^ 64 - suc n) ≡ n = omega arith in
    simp (le-ltb (2 ^ 64 - suc n) (2 ^ 63) (omega arith)) (ap negsuc e)

pub word_back : (w : ℕ) → w < 2 ^ 64 → word_of_integer (integer_of_word w) ≡ w
word_back w l = go (ltb w (2 ^ 63))
  where
    go : (b : Bool) → word_of_integer (cond b (pos w) (negsuc (2 ^ 64 - suc w))) ≡ w
    go true = refl
    go false = omega arith

pub integer_fits : (w : ℕ) → w < 2 ^ 64 → SFits w64 (integer_of_word w)
integer_fits w l = go (ltb w (2 ^ 63)) refl
  where
    go : (b : Bool) → ltb w (2 ^ 63) ≡ b → SFits w64 (cond b (pos w) (negsuc (2 ^ 64 - suc w)))
    go true e = record { sfits = ltb-true w (2 ^ 63) e }
    go false e = let h : 2 ^ 63 ≤ w = ltb-false w (2 ^ 63) e in record { sfits = omega arith }
