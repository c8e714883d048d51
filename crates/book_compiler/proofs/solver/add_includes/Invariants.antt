-- `book_compiler::solver::add_includes` meets its contract. The invariant: what is added from here is added from the start. Assumes nothing.
use Rattle.std.proofs.Common.{◌≡◌, ℕ, Bool, List, length}
use Rattle.compiler_laws.specs.SolverSteps.{Includes}
use Rattle.book_compiler.proofs.solver.add_includes.Given as goal

abbrev pub invariant-loop-definition : goal.invariant-loop-definition
invariant-loop-definition l = (l.definition-iterator.tree.now ≡ l.tree) × (l.definition-iterator.end ≡ l.end) ×
    (length l.set ≡ length l.initial.set) × ((after : List ℕ)
    (r : Bool) → Includes l.tree l.definition-iterator.at l.end l.standing l.grew l.set after r
    → Includes l.tree l.at l.end l.standing l.any l.initial.set after r)
