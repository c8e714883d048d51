-- `book_compiler::solver::zeros_end` meets its contract. The invariant: the words passed are 0. Assumes nothing.
use Rattle.compiler_laws.specs.FileSets.{Zeros}
use Rattle.book_compiler.proofs.solver.zeros_end.Given as goal

abbrev pub invariant-loop-i : goal.invariant-loop-i
invariant-loop-i l = Zeros l.set l.at l.i
