-- `book_compiler::solver::first_uncompiled` meets its contract. The invariant: the includes that were passed are compiled. Assumes nothing.
use Rattle.std.proofs.Common.{◌≡◌, ◌≤◌, max}
use Rattle.compiler_laws.specs.SolverSteps.{ReadTo}
use Rattle.book_compiler.proofs.solver.first_uncompiled.Given as goal

abbrev pub invariant-loop-definition : goal.invariant-loop-definition
invariant-loop-definition l = (l.definition-iterator.tree.now ≡ l.tree) × (l.definition-iterator.end ≡ l.end)
    × (l.at ≤ l.definition-iterator.at) × (l.definition-iterator.at ≤ max l.at l.end) × ReadTo l.tree l.at l.definition-iterator.at l.end l.compiled
