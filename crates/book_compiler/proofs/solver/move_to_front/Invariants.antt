-- `book_compiler::solver::move_to_front` meets its contract. The invariant: what is brought from here is brought from the start. Assumes nothing.
use Rattle.std.proofs.Common.{◌≡◌, ℕ, List, length}
use Rattle.compiler_laws.specs.SolverSteps.{Brings}
use Rattle.book_compiler.proofs.solver.move_to_front.Given as goal

abbrev pub invariant-loop-i : goal.invariant-loop-i
invariant-loop-i l = (length l.books ≡ length l.initial.books) × ((after : List ℕ) → Brings l.books l.done l.i l.file after → Brings l.initial.books l.done l.k
    l.file after)
