-- `==` on texts is `is_same`. Assumes nothing.
use mathlib.Core.Path.{◌≡◌, refl, ap}
use mathlib.Core.Bool.{Bool, ◌&&◌}
use mathlib.Core.List.{List, [], ◌∷◌}
use Prim.Native.Nat.{ℕ}
use lib.Dec.{eqb}
use lib.Pointwise.{pointwise}
use Rattle.case_numbers.specs.Texts.{is_same}

pub same_by_test : (text other : List ℕ) → pointwise eqb text other ≡ is_same text other
unfolding is_same
same_by_test [] [] = refl
same_by_test [] (b ∷ more) = refl
same_by_test (a ∷ rest) [] = refl
same_by_test (a ∷ rest) (b ∷ more) = ap (λ (t : Bool). eqb a b && t) (same_by_test rest more)
