-- `book_compiler::driver::first_constants` meets its contract. Assumes nothing.
use Rattle.compiler_laws.proofs.CallBeginning.{first_constants}
use Rattle.book_compiler.proofs.BookBeginning.{took_plain}
use Rattle.book_compiler.proofs.driver.first_constants.Goals as goal

pub returns : goal.returns
returns c =
    first_constants (took_plain c.take.ensures) (took_plain c.take-2.ensures) (took_plain c.take-3.ensures)
