-- `book_compiler::ending::count_marked` meets its contract. The invariant: what is counted from here is counted from the start. Assumes nothing.
use Rattle.undo.specs.Notes.{plain_marks}
use Rattle.compiler_laws.specs.BooksInOrder.{MarkedFrom}
use Rattle.std.proofs.Common.{ℕ, ◌≤◌}
use Rattle.book_compiler.proofs.ending.count_marked.Given as goal

abbrev pub invariant-loop-i : goal.invariant-loop-i
invariant-loop-i l = (l.n ≤ l.i) × ((r : ℕ) → MarkedFrom (plain_marks l.constants) l.i l.count l.n r → MarkedFrom (plain_marks l.constants) 0 l.count 0 r)
