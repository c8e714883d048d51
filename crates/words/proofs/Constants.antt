-- Constants and the pool's words: the kind and the value of a constant are decoded to it again. A NaN stays a NaN. Assumes nothing.
use Prim.Native.Nat.{ℕ, ◌^◌, ◌<◌}
use mathlib.Core.Path.{◌≡◌, refl, sym, ap}
use mathlib.Core.Bool.{Bool, true, false, cond}
use Rattle.std.specs.Prelude.{Option, Some, None}
use lib.IntN.{ℤ}
use lib.Dec.{T, ltb}
use lib.Ieee as Ieee
use lib.Ieee.{binary64, fits}
use lib.Ieee.Bits.{of_bits-to_bits}
use mir.Syntax.{w64}
use mir.Val.{SFits}
use borrow.Author.Tests.{lt-ltb, ne_eqb}
use Rattle.words.specs.Constants.{number_of_kind, kind_of, value_of, decode_of, numbered_of}
use Rattle.words.specs.declared.object.Kind.{Kind}
use Rattle.words.specs.declared.object.Kind.TheVariants as kind
use Rattle.words.specs.declared.object.Constant.{Constant}
use Rattle.words.specs.declared.object.Constant.TheVariants.{Null, Boolean, Integer, Float, Text, Model, Function}
use Rattle.words.proofs.Integers.{integer_back}

-- what the types of a case's parts say: 64 bits of an integer and of a float, 32 of a number
abbrev pub Held : Constant → Type 0
Held Null = Unit {0}
Held (Boolean b) = Unit {0}
Held (Integer n) = SFits w64 n
Held (Float x) = T (fits binary64 x)
Held (Text t) = t < 2 ^ 32
Held (Model m) = m < 2 ^ 32
Held (Function f) = f < 2 ^ 32

pub decode_encode : (c : Constant) → Held c → decode_of (kind_of c) (value_of c) ≡ Some c
unfolding decode_of numbered_of
decode_encode Null h = refl
decode_encode (Boolean true) h = refl
decode_encode (Boolean false) h = refl
decode_encode (Integer n) h = ap (λ (z : ℤ). Some (Integer z)) (integer_back n h)
decode_encode (Float x) h = ap (λ (y : Ieee.Float). Some (Float y)) (of_bits-to_bits binary64 x h)
decode_encode (Text t) h = simp (lt-ltb t (2 ^ 32) h)
decode_encode (Model m) h = simp (lt-ltb m (2 ^ 32) h)
decode_encode (Function f) h = simp (lt-ltb f (2 ^ 32) h)

-- a number that no kind has decodes to nothing
pub no_kind : (k v : ℕ) → ((c : Kind) → number_of_kind c ≡ k → ⊥) → None ≡ decode_of k v
unfolding decode_of numbered_of
no_kind k v h =
    simp (
      ne_eqb k 0 (λ e. h kind.Null (sym e)),
      ne_eqb k 1 (λ e. h kind.Boolean (sym e)),
      ne_eqb k 2 (λ e. h kind.Integer (sym e)),
      ne_eqb k 3 (λ e. h kind.Float (sym e)),
      ne_eqb k 4 (λ e. h kind.Text (sym e)),
      ne_eqb k 5 (λ e. h kind.Model (sym e)),
      ne_eqb k 6 (λ e. h kind.Function (sym e)),
    )
    (either (ltb v (2 ^ 32)))
  where
    either : (b : Bool) → ◌≡◌ {A = Option Constant} None (cond b None None)
    either true = refl
    either false = refl
