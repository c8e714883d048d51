-- The mode of a call in C (2026-07): 0 is the present one, anything else strict
use Rattle.std.specs.Prelude.{ℕ, Bool, not, eqb}

abbrev pub is_strict : ℕ → Bool
is_strict mode = not (eqb mode 0)
