-- `book_compiler::solver::next_ready` meets its contract. The invariant: what is ready from here is ready from the start. Assumes nothing.
use Rattle.std.proofs.Common.{◌≡◌, ℕ, List, length}
use Rattle.compiler_laws.specs.SolverSteps.{FindsReady}
use Rattle.book_compiler.proofs.solver.next_ready.Given as goal

abbrev pub invariant-loop-k : goal.invariant-loop-k
invariant-loop-k l = (length l.books ≡ length l.initial.books)
    × ((r : ℕ) (after : List ℕ) → FindsReady l.tree l.end l.k l.count l.compiled l.books r after → FindsReady l.tree l.end l.done l.count l.compiled
    l.initial.books r after)
