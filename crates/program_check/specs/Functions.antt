-- The bounds of functions over their instructions: for each function, each instruction that it has
use Rattle.std.specs.Prelude.{ℕ, ◌+◌, Bool, ◌&&◌, List, [], ◌∷◌, leb}
use Rattle.words.specs.Areas.{code_area, functions_area, entry_field}
use Rattle.words.specs.declared.reply.Totals.{Totals}
use Rattle.definition.specs.Within.{Program, total, present, instruction_at, class_of, has_instruction, all_below, where', bound_by_function}
use Rattle.program_check.specs.Instructions.{jump_of, locals_needed}
use Rattle.program_check.specs.Parts.{lent}

-- a program of which only areas 1 and 3 are read
abbrev pub code_and : List ℕ → List ℕ → Totals → Program
code_and code functions t = lent ([] ∷ code ∷ [] ∷ functions ∷ []) t

-- an instruction keeps the bounds of a function of some length and some locals
abbrev pub keeps_at : List ℕ → ℕ → ℕ → ℕ → Bool
keeps_at code length locals i = leb (jump_of (entry_field 2 i 0 code)) length && leb (locals_needed (entry_field 2 i 0 code)) locals

unfoldable pub range_keeps : List ℕ → ℕ → ℕ → ℕ → ℕ → Bool
range_keeps code from count length locals = all_below count (λ k. keeps_at code length locals (from + k))

-- instruction i keeps the bounds of function j, where that has it
abbrev pub keeps_in : Program → ℕ → ℕ → Bool
keeps_in p j i =
    where' (has_instruction p j i) (bound_by_function (class_of (instruction_at p.areas i).opcode) p j (instruction_at p.areas i).operand)

unfoldable pub function_keeps : Program → ℕ → Bool
function_keeps p j = all_below (total p code_area) (keeps_in p j)

unfoldable pub functions_keep : Program → Bool
functions_keep p = all_below (present p functions_area) (function_keeps p)
