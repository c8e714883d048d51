-- One lent memory: where areas 1 to 12 of 01 lie in it, and what is left over as part 13 (the slot table of 2026-12).
-- The parts follow each other by number. A length that passes the memory's end is cut there, and what is left over belongs to the last part,
-- so that any lengths and any memory have a reading
use Rattle.std.specs.Prelude.{ℕ, suc, ◌+◌, ◌-◌, ◌≤◌, ◌<◌, min, List, [], ◌∷◌, ◌++◌, take, drop, get_or}

-- the parts: one for each length, and what is left over
unfoldable pub areas_of : List ℕ → List ℕ → List (List ℕ)
areas_of [] memory = memory ∷ []
areas_of (n ∷ ns) memory = take n memory ∷ areas_of ns (drop n memory)

-- where parts begin that follow each other from a word on, in a memory of `size` words, and where the last ends
unfoldable pub starts_from : ℕ → ℕ → List ℕ → List ℕ
starts_from size at [] = at ∷ size ∷ []
starts_from size at (n ∷ ns) = at ∷ starts_from size (min size (at + n)) ns

-- the table of starts: part i has the words from the i-th number up to the next; there is no area 0, and it is empty
abbrev pub starts_of : List ℕ → ℕ → List ℕ
starts_of lengths size = 0 ∷ starts_from size 0 lengths

-- part i of a memory by a table of starts
unfoldable pub part : List ℕ → ℕ → List ℕ → List ℕ
part starts i memory = take (get_or starts (suc i) 0 - get_or starts i 0) (drop (get_or starts i 0) memory)

-- the memory with other words as part i
unfoldable pub with_part : List ℕ → ℕ → List ℕ → List ℕ → List ℕ
with_part starts i words memory =
    take (get_or starts i 0) memory ++ (words ++ drop (get_or starts (suc i) 0 - get_or starts i 0) (drop (get_or starts i 0) memory))

-- how many numbers a part may have: no area 0, twelve areas, and what is left over
abbrev pub part_count : ℕ
part_count = 14

-- a table of starts suits a memory of `size` words: the starts ascend, and the last part ends in it
pub record Fits (starts : List ℕ) (size : ℕ) : Type 0 where
  pub ordered : (i : ℕ) → i < part_count → get_or starts i 0 ≤ get_or starts (suc i) 0
  pub within : get_or starts part_count 0 ≤ size
