-- `book_compiler::driver::compile_needed` meets its contract: too many records, no room for the books, and the books. Assumes nothing.
use Rattle.compiler_laws.proofs.DefinitionKinds.{unchanged_definition}
use Rattle.book_compiler.proofs.BookBeginning.{needed_huge, needed_full, needed_on}
use Rattle.std.proofs.Common.{refl}
use Rattle.book_compiler.proofs.driver.compile_needed.Goals as goal

pub returns-then-end-gt-MOST_RECORDS : goal.returns-then-end-gt-MOST_RECORDS
returns-then-end-gt-MOST_RECORDS c = needed_huge c.if-end-gt-MOST_RECORDS.true

pub returns-then-t-ne0 : goal.returns-then-t-ne0
returns-then-t-ne0 c = needed_full c.begin_books-t.ensures unchanged_definition refl c.if-t-ne0.true 0 _

pub returns : goal.returns
returns c =
    needed_on c.begin_books-t.ensures refl c.if-t-ne0.false c.drive.ensures
