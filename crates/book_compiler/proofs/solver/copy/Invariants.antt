-- `book_compiler::solver::copy` meets its contract. The invariant: what is passed is copied. Assumes nothing.
use Rattle.std.proofs.Common.{◌≡◌, length}
use Rattle.compiler_laws.proofs.SetBits.{Copied}
use Rattle.book_compiler.proofs.solver.copy.Given as goal

abbrev pub invariant-loop-i : goal.invariant-loop-i
invariant-loop-i l = (length l.to ≡ length l.from) × Copied l.from l.to l.i
