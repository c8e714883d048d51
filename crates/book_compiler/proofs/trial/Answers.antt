-- `book_compiler::trial` meets its contract: the answer of the order to try. Assumes nothing.
use Rattle.book_compiler.specs.Orders.{order_of}
use Rattle.book_compiler.proofs.OntoMemory.{tries_into}
use Rattle.book_compiler.proofs.trial.Goals as goal

pub returns : goal.returns
unfolding order_of
returns c = tries_into c.answer_onto.ensures
