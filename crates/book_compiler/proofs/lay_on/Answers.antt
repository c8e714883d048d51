-- `book_compiler::lay_on` meets its contract: the answer of the order to lay on, and demand 3. Assumes nothing.
use Rattle.book_compiler.specs.Orders.{order_of}
use Rattle.book_compiler.proofs.OntoMemory.{lays_into}
use Rattle.std.proofs.Common.{rules}
use Rattle.book_compiler.proofs.lay_on.Goals as goal

pub returns : goal.returns
unfolding order_of
returns c =
    lays_into c.args.lengths c.args.memory.now (search rules) c.answer_onto.ensures
