-- `book_compiler::ending::clear_but_errors` meets its contract. The invariant: the parts so far are zeros, but for the errors. Assumes nothing.
use Rattle.words.specs.Areas.{cleared_from}
use Rattle.book_compiler.proofs.PartsInTurn.{ChangedUpTo}
use Rattle.std.proofs.Common.{◌≡◌, length}
use Rattle.book_compiler.proofs.ending.clear_but_errors.Given as goal

abbrev pub invariant-loop-i : goal.invariant-loop-i
invariant-loop-i l = (length l.memory ≡ length l.initial.memory) × ChangedUpTo (λ j l. cleared_from 0 l) 0 l.i l.starts l.initial.memory l.memory
