-- `book_compiler::functions::parameters_end` meets its contract. The invariant: where they end from here they end from the start. Assumes nothing.
use Rattle.compiler_laws.specs.MakingFunctions.{ParametersEnd}
use Rattle.std.proofs.Common.{ℕ, ◌-◌}
use Rattle.book_compiler.proofs.functions.parameters_end.Given as goal

abbrev pub invariant-loop-i : goal.invariant-loop-i
invariant-loop-i l = (r : ℕ) → ParametersEnd l.tree l.i l.end r → ParametersEnd l.tree l.at l.end r

abbrev pub decreases-loop-i : goal.decreases-loop-i
decreases-loop-i l = l.end - l.i
