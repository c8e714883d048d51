-- `book_compiler::ending::settle` meets its contract: parts 2, 6 and 13, one after the other. Assumes nothing.
use Rattle.book_compiler.proofs.BookEnding.{settled}
use Rattle.book_compiler.proofs.ending.settle.Goals as goal

pub returns : goal.returns
returns c =
    settled c.settle_constants.ensures c.settle_methods.ensures c.clear_slots.ensures
