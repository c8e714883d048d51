-- `book_compiler::onto::give_back` meets its contract. The invariant: the parts so far are given back, but for the errors. Assumes nothing.
use Rattle.std.proofs.Common.{◌≡◌, length}
use Rattle.words.specs.Reply.{total_of}
use Rattle.book_compiler.specs.OntoParts.{given_back}
use Rattle.book_compiler.proofs.PartsInTurn.{ChangedUpTo}
use Rattle.book_compiler.proofs.onto.give_back.Given as goal

abbrev pub invariant-loop-i : goal.invariant-loop-i
invariant-loop-i l = (length l.memory ≡ length l.initial.memory) × ChangedUpTo (λ j p. given_back j
    (total_of l.fn.standing j) p) 1 l.i l.starts l.initial.memory l.memory
