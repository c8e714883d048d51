-- `book_compiler::book::add_constant` meets its contract: the constant is that of a function that begins. Assumes nothing.
use Rattle.book_compiler.proofs.BookLeaves.{adds_constant}
use Rattle.book_compiler.proofs.book.add_constant.Goals as goal

pub returns : goal.returns
returns c =
    adds_constant c.working-state.ensures c.add_constant-place.ensures c.resume.ensures
