-- What stood in an area before a call is in place while a bundle is compiled, also where an area has run full (2026-01, undo)
-- Private contracts alone cite this file: whoever reads the promises need not believe it
use Rattle.std.specs.Prelude.{ℕ, ◌/◌, ◌%◌, ◌^◌, ◌<◌, ◌≡◌, cond, ◌&&◌, List, length, get_or, eqb}
use Rattle.words.specs.Areas.{constants_area, methods_area}

-- what stays of a word at a place once it stands: of a constant's mark whether it is the note, of a method's function its note, else the word
abbrev pub kept_of : ℕ → ℕ → ℕ → ℕ
kept_of area k w =
    cond (eqb area constants_area && eqb (k % 3) 2) (cond (eqb w 2) 1 0) (cond (eqb area methods_area && eqb (k % 3) 2) (w / 2 ^ 56) w)

-- the words that stood are at the front of the area
pub record Stood (area : ℕ) (before words : List ℕ) : Type 0 where
  pub kept : (k : ℕ) → k < length before → kept_of area k (get_or words k 0) ≡ kept_of area k (get_or before k 0)

-- with the mark set a step leaves the area as it was, without it the words below a place
pub record Spares (area full below : ℕ) (words after : List ℕ) : Type 0 where
  pub kept : (k : ℕ) → (full ≡ 0 → k < below) → kept_of area k (get_or after k 0) ≡ kept_of area k (get_or words k 0)
