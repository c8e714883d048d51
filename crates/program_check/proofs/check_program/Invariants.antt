-- `check_program` meets its contract. The invariant: what is found of the areas from here on is what is found of all. Assumes nothing.
use Rattle.std.proofs.Common.{◌≡◌, drop}
use Rattle.definition.specs.ProgramCheck.{first_fault}
use Rattle.program_check.proofs.OneMemory.{checked}
use Rattle.program_check.proofs.WholeTests.{laid}
use Rattle.program_check.proofs.check_program.Given as goal

abbrev pub invariant-loop-area : goal.invariant-loop-area
invariant-loop-area l =
    first_fault (laid l.starts l.memory l.fn.totals) (drop l.area-index checked) ≡ first_fault (laid l.starts l.memory l.fn.totals) checked
