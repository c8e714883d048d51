-- Whether two texts are the same, byte for byte
use Rattle.std.specs.Prelude.{ℕ, Bool, true, false, ◌&&◌, List, [], ◌∷◌, eqb}

unfoldable pub is_same : List ℕ → List ℕ → Bool
is_same [] [] = true
is_same [] (b ∷ more) = false
is_same (a ∷ rest) [] = false
is_same (a ∷ rest) (b ∷ more) = eqb a b && is_same rest more
