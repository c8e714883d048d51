-- What the program check answers, computed: the totals, the tails, keys, functions over each other's code, sums past 2^64. The words of entries, one by one,
-- stand in `WithinBench` of the crate `definition`. Assumes nothing.
use Prim.Native.Nat.{ℕ, ◌-◌, ◌^◌}
use mathlib.Core.Path.{◌≡◌, refl}
use mathlib.Core.Option.{none, some}
use mathlib.Core.List.{List, [], ◌∷◌, ◌++◌, map}
use lib.ListN.{get_or, set}
use Rattle.words.specs.Opcode.{word, unword}
use Rattle.words.specs.Record.{in_place}
use Rattle.definition.specs.Within.{Program, area_bound}
use Rattle.definition.specs.ProgramCheck.{area_fine, program_fault}
use Rattle.definition.specs.WithinBench.{kept}

-- the small program with an area and its total otherwise
abbrev other : ℕ → List ℕ → ℕ → Program
other a w n = record { areas = set kept.areas a w; totals = set kept.totals a n; entry_point = kept.entry_point; globals = kept.globals }

-- with another total, or words behind its own
abbrev counted : ℕ → ℕ → Program
counted a n = other a (get_or kept.areas a []) n

abbrev behind : ℕ → List ℕ → Program
behind a w = other a (get_or kept.areas a [] ++ w) (get_or kept.totals a 0)

abbrev numbered : ℕ → ℕ → Program
numbered entry globals = record { areas = kept.areas; totals = kept.totals; entry_point = entry; globals = globals }

-- function 2 is the given entry
abbrev third : List ℕ → Program
third f = other 3 (0 ∷ 1 ∷ 0 ∷ 0 ∷ 0 ∷ 3 ∷ 0 ∷ 3 ∷ 0 ∷ 0 ∷ 2 ∷ 1 ∷ 3 ∷ 2 ∷ 0 ∷ 9 ∷ f) 3

-- totals past the areas, and short of their words
totals : map (λ (p : Program). program_fault p)
    (counted 1 13 ∷ counted 1 11 ∷ counted 2 7 ∷ counted 8 2 ∷ counted 8 0 ∷ counted 9 1 ∷ counted 10 1 ∷ counted 11 77 ∷ counted 12 3 ∷ [])
    ≡ some 1 ∷ some 1 ∷ some 2 ∷ some 8 ∷ some 8 ∷ some 9 ∷ some 10 ∷ none ∷ some 12 ∷ []
unfolding program_fault area_fine area_bound unword word in_place
totals = refl

-- zeros behind, also fewer than an entry; a word that is not; area 11 is not looked at
tails : map (λ (p : Program). program_fault p) (behind 1 (0 ∷ []) ∷ behind 1 (1 ∷ []) ∷ behind 7 (0 ∷ 0 ∷ 0 ∷ 0 ∷ 5 ∷ []) ∷ behind 9 (1 ∷ []) ∷ behind 11 (1
    ∷ []) ∷ [])
    ≡ none ∷ some 1 ∷ some 7 ∷ some 9 ∷ none ∷ []
unfolding program_fault area_fine area_bound unword word in_place
tails = refl

-- an entry in area 9; the entry point; the count of marks; fewer than three constants
others : map (λ (p : Program). program_fault p) (other 9 (0 ∷ 0 ∷ []) 1 ∷ numbered 2 1 ∷ numbered 3 1 ∷ numbered 0 0 ∷ other 2 (0 ∷ 0 ∷ 0 ∷ 1 ∷ 1 ∷ 1 ∷ []) 2
    ∷ [])
    ≡ some 9 ∷ none ∷ some 3 ∷ some 2 ∷ some 1 ∷ []
unfolding program_fault area_fine area_bound unword word in_place
others = refl

-- keys that repeat; the same names in another model's or book's company, in any order
keys : map (λ (p : Program). program_fault p)
    (other 6 (0 ∷ 9 ∷ 1 ∷ 0 ∷ 9 ∷ 2 ∷ []) 2 ∷ other 6 (0 ∷ 9 ∷ 1 ∷ 0 ∷ 8 ∷ 1 ∷ []) 2
    ∷ other 8 (1 ∷ 7 ∷ 4 ∷ 0 ∷ 9 ∷ 0 ∷ 1 ∷ 7 ∷ 3 ∷ []) 3 ∷ other 8 (1 ∷ 7 ∷ 4 ∷ 0 ∷ 7 ∷ 4 ∷ []) 2 ∷ other 12 (5 ∷ 3 ∷ []) 2 ∷ other 12 (5 ∷ 3 ∷ 5 ∷ []) 3 ∷ [])
    ≡ some 6 ∷ none ∷ some 8 ∷ none ∷ none ∷ some 12 ∷ []
unfolding program_fault area_fine area_bound unword word in_place
keys = refl

-- a function over another's code, with a local and without; past area 1; a start and a length whose sum is past 2^64; no instructions, wherever it starts
functions : map (λ (p : Program). program_fault p)
    (third (0 ∷ 1 ∷ 0 ∷ 0 ∷ 0 ∷ 3 ∷ 1 ∷ 4 ∷ []) ∷ third (0 ∷ 0 ∷ 0 ∷ 0 ∷ 0 ∷ 3 ∷ 1 ∷ 4 ∷ []) ∷ third (0 ∷ 0 ∷ 0 ∷ 0 ∷ 11 ∷ 2 ∷ 1 ∷ 4 ∷ [])
    ∷ third (0 ∷ 0 ∷ 0 ∷ 0 ∷ (2 ^ 64 - 1) ∷ 2 ∷ 1 ∷ 4 ∷ []) ∷ third (0 ∷ 0 ∷ 0 ∷ 0 ∷ (2 ^ 64 - 1) ∷ 0 ∷ 1 ∷ 4 ∷ []) ∷ [])
    ≡ none ∷ some 1 ∷ some 3 ∷ some 3 ∷ none ∷ []
unfolding program_fault area_fine area_bound unword word in_place
functions = refl
