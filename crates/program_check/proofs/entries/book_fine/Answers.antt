-- `book_fine` meets its contract. Assumes nothing.
use Rattle.program_check.proofs.EntryTests.{book_fine}
use Rattle.program_check.proofs.entries.book_fine.Goals as goal

pub returns : goal.returns
returns c = book_fine c.args.books.now c.args.i c.args.totals
    c.entry_word-number.ensures c.is_text.ensures
