-- `book_compiler::solver::next_in` meets its contract. The invariant: what is next from here is next from the start. Assumes nothing.
use Rattle.std.proofs.Common.{ℕ, ◌-◌, ◌≤◌}
use Rattle.compiler_laws.specs.FileSets.{NextIn, set_size}
use Rattle.book_compiler.proofs.solver.next_in.Given as goal

abbrev pub invariant-loop-n : goal.invariant-loop-n
invariant-loop-n l = (l.n ≤ set_size) × ((r : ℕ) → NextIn l.set l.n r → NextIn l.set l.from r)

abbrev pub decreases-loop-n : goal.decreases-loop-n
decreases-loop-n l = set_size - l.n
