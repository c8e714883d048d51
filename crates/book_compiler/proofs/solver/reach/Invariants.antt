-- `book_compiler::solver::reach` meets its contract. The invariant: what is reached from here is reached from the start. Assumes nothing.
use Rattle.std.proofs.Common.{◌≡◌, ℕ, Bool, List, length}
use Rattle.compiler_laws.specs.SolverSteps.{Reaches}
use Rattle.book_compiler.proofs.solver.reach.Given as goal

abbrev pub invariant-loop-document : goal.invariant-loop-document
invariant-loop-document l = (l.document-iterator.tree.now ≡ l.tree) × (l.document-iterator.end ≡ l.end) × (length l.next ≡ length l.initial.next) ×
    ((after : List ℕ)
    (r : Bool) → Reaches l.tree l.document-iterator.at l.end l.standing l.read l.set l.grew l.next after r
    → Reaches l.tree 0 l.end l.standing l.read l.set l.initial.grew l.initial.next after r)
