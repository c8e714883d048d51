-- `book_compiler::solver::narrow_includes` meets its contract. The invariant: what is answered from here is answered from the start. Assumes nothing.
use Rattle.std.proofs.Common.{◌≡◌, Bool}
use Rattle.compiler_laws.specs.SolverSteps.{NarrowIncludes}
use Rattle.book_compiler.proofs.solver.narrow_includes.Given as goal

abbrev pub invariant-loop-definition : goal.invariant-loop-definition
invariant-loop-definition l = (l.definition-iterator.tree.now ≡ l.tree) × (l.definition-iterator.end ≡ l.end) × ((r : Bool)
    → NarrowIncludes l.tree l.definition-iterator.at l.end r → NarrowIncludes l.tree l.at l.end r)
