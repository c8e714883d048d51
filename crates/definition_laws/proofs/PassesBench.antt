-- That the check can fail of a delivered program: a small bundle's program passes, as `answer_passes` says, and with one word changed it does not. Computed;
-- nothing rests on it. Assumes nothing.
use Prim.Native.Nat.{ℕ}
use mathlib.Core.Path.{◌≡◌, refl}
use mathlib.Core.Bool.{false}
use mathlib.Core.Option.{none, some}
use mathlib.Core.List.{List, [], ◌∷◌, map}
use Rattle.words.specs.Areas.{code_area, constants_area, functions_area, context_locals_area, books_area, function_name_word}
use Rattle.words.specs.Record.{in_place}
use Rattle.words.specs.Opcode.{to_instruction, word, unword, Operation}
use Rattle.definition.specs.Answer.{Answer, Delivery, Refusal, answer, areas_of, reply_of}
use Rattle.definition.specs.Within.{Program, area_bound}
use Rattle.definition.specs.ProgramCheck.{area_fine, program_fault}
use Rattle.definition.specs.Bench.{r, function, ample, run}
use Rattle.definition.specs.WithinBench.{Change, changed}
use Rattle.definition_laws.proofs.Keeps.{delivered}

-- what the call leaves in the areas
unfoldable delivered_by : List ℕ → Program
unfolding run areas_of reply_of
delivered_by w = program_in (answer false w ample)
  where
    program_in : Answer → Program
    program_in (Delivery c) = delivered ample c
    program_in (Refusal n p es) = record { areas = []; totals = []; entry_point = 0; globals = 0 }

-- the function 3 of book 2: it adds 7 to the global 4
small : List ℕ
small = function (r 25 4 0 0 ∷ r 39 3 9 1 ∷ r 30 1 8 4 ∷ r 33 1 10 7 ∷ [])

change : ℕ → ℕ → ℕ → ℕ → Change
change a i k v = record { area = a; entry = i; field = k; value = v }

-- an operation that is none; a position out of range; a global's name that is no text, its mark; a function's name; a book's number; a word beyond the entries
changes : List Change
changes =
    change code_area 2 0 (word (to_instruction Operation 10)) ∷ change code_area 0 1 0xFFFF_FFFF ∷ change constants_area 3 1 0 ∷ change constants_area 3 2 0
    ∷ change functions_area 0 function_name_word 0 ∷ change books_area 0 0 0 ∷ change context_locals_area 1 0 1 ∷ []

small_passes : program_fault (delivered_by small) ≡ none
unfolding delivered_by small program_fault area_fine area_bound unword word in_place
small_passes = refl

changed_faults : map (λ (c : Change). program_fault (changed (delivered_by small) c)) changes ≡ map (λ (c : Change). some c.area) changes
unfolding delivered_by small changes change program_fault area_fine area_bound unword word in_place
changed_faults = refl
