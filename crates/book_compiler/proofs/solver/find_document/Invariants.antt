-- `book_compiler::solver::find_document` meets its contract. The invariant: what is found from here, below the bound, is found from the start. Assumes nothing.
use Rattle.std.proofs.Common.{◌≡◌, ◌<◌}
use Rattle.compiler_laws.specs.SolverSteps.{Skips}
use Rattle.book_compiler.proofs.solver.find_document.Given as goal

abbrev pub invariant-loop-document : goal.invariant-loop-document
invariant-loop-document l = (l.document-iterator.tree.now ≡ l.tree) × (l.document-iterator.end ≡ l.end) × (l.file < l.above)
    × (Skips l.tree l.end l.fn.last.at l.file l.fn.last.above → Skips l.tree l.end l.document-iterator.at l.file l.above)
