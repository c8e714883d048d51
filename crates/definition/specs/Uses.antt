-- Row 9 of 01, and the entries that are in use. The definitions of the compiler know no limits, as the Rust knows none: each step notes the entries
-- that its areas then have in use, and row 9 is the first note beyond its area. The greatest note of an area is what 2026-09 reports
use Rattle.std.specs.Prelude.{ℕ, ◌+◌, max, cond, List, [], ◌∷◌, length, get_or, eqb, ltb}
use Rattle.std.proofs.Math.Option.{Option, none, some}
use Rattle.definition.specs.FunctionState.{or_else}

-- a note: so many entries of an area are in use
pub record Use : Type 0 where
  pub area : ℕ
  pub count : ℕ

abbrev pub using' : ℕ → ℕ → Use
using' a n = record { area = a; count = n }

-- the areas' lengths in entries, by area from 1; an area that is not there has none
abbrev pub Limits : Type 0
Limits = List ℕ

abbrev pub limit_of : Limits → ℕ → ℕ
limit_of l area = get_or l area 0

abbrev pub over_by : Limits → Use → Option ℕ
over_by l u = cond (ltb (limit_of l u.area) u.count) (some u.area) none

-- the first note beyond its area; notes stand newest first (row 9's place)
unfoldable pub first_over : Limits → List Use → Option ℕ
first_over l [] = none
first_over l (u ∷ us) = or_else (first_over l us) (over_by l u)

-- 2026-07, row 11 'name not public' with 'the include's record index, as that include is reached': it is met among the steps of row 9, and whichever comes
-- first answers. So it is a note of an area that is not there, and has room for no entry: 16 and the include's index on
abbrev pub first_not_public : ℕ
first_not_public = 16

abbrev pub not_public_area : ℕ → ℕ
not_public_area index = first_not_public + index

-- the greatest number of entries of an area in use at any step (2026-09)
unfoldable pub greatest_use : ℕ → List Use → ℕ
greatest_use area [] = 0
greatest_use area (u ∷ us) = max (cond (eqb u.area area) u.count 0) (greatest_use area us)

-- the entries of several lists
abbrev pub total : {A : Type 0} → List (List A) → ℕ
total [] = 0
total (l ∷ ls) = length l + total ls

abbrev pub sum_of : {A : Type 0} → (A → ℕ) → List A → ℕ
sum_of f [] = 0
sum_of f (x ∷ xs) = f x + sum_of f xs
