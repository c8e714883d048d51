-- `book_compiler::solver::twice` meets its contract. The invariant: what is found from here is found from the start. Assumes nothing.
use Rattle.building.specs.Found.{Found}
use Rattle.std.proofs.Common.{◌≡◌, ℕ, List, length}
use Rattle.compiler_laws.proofs.DocumentsRead.{TwiceFrom}
use Rattle.book_compiler.proofs.solver.twice.Given as goal

abbrev pub invariant-loop-document : goal.invariant-loop-document
invariant-loop-document l = (l.document-iterator.tree.now ≡ l.tree) × (l.document-iterator.end ≡ l.end) ×
    (length l.present ≡ length l.initial.present) × ((r : Found)
    (after : List ℕ) → TwiceFrom l.tree l.document-iterator.at l.end l.present r after → TwiceFrom l.tree 0 l.end l.initial.present r after)
