-- A program in one lent memory (docs/promises/memory.md): its areas follow each other by number, and what is left over is none of them
use Rattle.std.specs.Prelude.{ℕ, List, [], ◌∷◌, take}
use Rattle.memory.specs.Layout.{areas_of, part}
use Rattle.definition.specs.Promise.{areas}
use Rattle.definition.specs.Within.{Areas}

-- areas by number; no area has number 0
unfoldable pub areas_in : List ℕ → List ℕ → Areas
areas_in lengths memory = [] ∷ take 12 (areas_of lengths memory)

-- the same by a table of starts
abbrev pub parts_of : List ℕ → List ℕ → Areas
parts_of starts m =
    areas (part starts 1 m) (part starts 2 m) (part starts 3 m) (part starts 4 m) (part starts 5 m) (part starts 6 m) (part starts 7 m) (part starts 8 m)
    (part starts 9 m) (part starts 10 m) (part starts 11 m) (part starts 12 m)
