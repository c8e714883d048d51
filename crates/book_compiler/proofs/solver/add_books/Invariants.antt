-- `book_compiler::solver::add_books` meets its contract. The invariant: what is added from here is added from the start. Assumes nothing.
use Rattle.std.proofs.Common.{◌≡◌, ℕ, List, [], length, drop}
use Rattle.compiler_laws.specs.FileSets.{add_bits}
use Rattle.book_compiler.proofs.solver.add_books.Given as goal

abbrev pub invariant-loop-book : goal.invariant-loop-book
invariant-loop-book l = (length l.set ≡ length l.initial.set)
    × ((after : List ℕ) → after ≡ add_bits [] l.set (drop l.book-index l.books) → after ≡ add_bits [] l.initial.set l.books)
