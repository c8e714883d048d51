-- `book_compiler::locals::set_entry` meets its contract: a way for each outcome of its tests. Assumes nothing.
use Rattle.compiler_laws.proofs.BookLeaves.{value_full, value_nothing, value_at_lem}
use Rattle.book_compiler.proofs.StoodBooks.{value_spares, value_spares_none}
use Rattle.book_compiler.proofs.locals.set_entry.Goals as goal

pub returns-then-book-ne0 : goal.returns-then-book-ne0
returns-then-book-ne0 c = (value_full c.if-book-ne0.true, value_spares_none)

pub returns-in-Some : goal.returns-in-Some
returns-in-Some c = (
  value_at_lem c.if-book-ne0.false _ c.in-Some.is c.set_value.ensures,
  value_spares c.args.constant c.if-book-ne0.false _ c.in-Some.is c.set_value.ensures,
)

pub returns : goal.returns
returns c = (value_nothing c.if-book-ne0.false c.in_default.is, value_spares_none)
