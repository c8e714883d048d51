-- `book_compiler::solver::take_books` meets its contract. The invariant: what is taken from here is taken from the start. Assumes nothing.
use Rattle.std.proofs.Common.{◌≡◌, ℕ, ◌≤◌, List, length}
use Rattle.building.specs.declared.taking.Taken.{Taken}
use Rattle.compiler_laws.specs.FileSets.{set_size}
use Rattle.compiler_laws.specs.SolverSteps.{Skips}
use Rattle.compiler_laws.proofs.WaitingBooks.{TakesFrom}
use Rattle.book_compiler.proofs.solver.take_books.Given as goal

abbrev pub invariant-loop-file : goal.invariant-loop-file
invariant-loop-file l = (length l.books ≡ length l.initial.books) × (l.file-iterator.set.now ≡ l.needed) × (l.file-iterator.from ≤ set_size)
    × Skips l.tree l.end l.place.at l.file-iterator.from l.place.above
    × ((r : Taken) (after : List ℕ) → TakesFrom l.tree l.end l.needed l.file-iterator.from l.t l.books r after
    → TakesFrom l.tree l.end l.needed 0 l.initial.t l.initial.books r after)
