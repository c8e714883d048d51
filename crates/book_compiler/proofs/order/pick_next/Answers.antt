-- `book_compiler::order::pick_next` meets its contract: no book is ready, or one is and its number goes to the front. Assumes nothing.
use Rattle.std.proofs.Common.{refl}
use Rattle.book_compiler.proofs.BookRounds.{pick_none, pick_one}
use Rattle.book_compiler.proofs.order.pick_next.Goals as goal

pub returns-in_err-index : goal.returns-in_err-index
returns-in_err-index c = rw c.from_residual.ensures (pick_none c.in_err-index.ensures.finds refl)

pub returns : goal.returns
returns c = pick_one c.in_ok-index.ensures.finds c.in_ok-index.ensures.inside c.entry_word-entry.ensures c.move_to_front.ensures
