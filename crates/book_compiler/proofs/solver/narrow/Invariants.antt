-- `book_compiler::solver::narrow` meets its contract. The invariant: what is answered from here is answered from the start. Assumes nothing.
use Rattle.std.proofs.Common.{◌≡◌, Bool}
use Rattle.compiler_laws.specs.SolverSteps.{Narrows}
use Rattle.book_compiler.proofs.solver.narrow.Given as goal

abbrev pub invariant-loop-document : goal.invariant-loop-document
invariant-loop-document l = (l.document-iterator.tree.now ≡ l.tree) × (l.document-iterator.end ≡ l.end) × ((r : Bool)
    → Narrows l.tree l.document-iterator.at l.end r → Narrows l.tree 0 l.end r)
