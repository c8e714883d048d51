-- `book_compiler::slots::add_no_check` meets its contract: it lends the constants. Assumes nothing.
use Rattle.std.proofs.Common.{rules}
use Rattle.book_compiler.proofs.Lending.{lent_on}
use Rattle.book_compiler.proofs.slots.add_no_check.Goals as goal

pub returns : goal.returns
returns c = record { acts = lent_on c.lend_with.ensures.lends (λ x y p. search rules) }
