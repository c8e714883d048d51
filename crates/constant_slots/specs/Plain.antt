-- The plain search of the pool: area 2's words, of which the first `count` entries are the pool. A word outside the area reads as 0
use Rattle.std.specs.Prelude.{ℕ, zero, suc, ◌+◌, Bool, List, [], ◌∷◌}
use Rattle.std.proofs.Math.Option.{Option}
use Rattle.words.specs.Areas.{entry_field}
use Rattle.words.specs.Object.{Constant, constant_of, same_constant}
pub use Rattle.words.specs.Search.{found_of}
unfoldable pub use Rattle.words.specs.Search.{first_from}

-- constant i of area 2
abbrev pub constant_at : List ℕ → ℕ → Constant
constant_at w i = constant_of (entry_field 3 i 0 w) (entry_field 3 i 1 w)

-- the pool as a list: k constants from constant i on
unfoldable pub constants_from : ℕ → ℕ → List ℕ → List Constant
constants_from zero i w = []
constants_from (suc k) i w = constant_at w i ∷ constants_from k (i + 1) w

abbrev pub pool_of : ℕ → List ℕ → List Constant
pool_of count w = constants_from count 0 w

-- whether constant i of area 2 is the same as c: 'Integers, texts and floats go through one definition of sameness' (2026-12), `same_constant`
abbrev pub is_constant : Constant → List ℕ → ℕ → Bool
is_constant c w i = same_constant c (constant_at w i)

-- the plain search: the first of the constants that is the same as c
abbrev pub find_plain : ℕ → Constant → List ℕ → Option ℕ
find_plain count c w = first_from (is_constant c w) count 0
