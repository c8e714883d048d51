-- `book_compiler::commit` meets its contract: the answer of the order to commit, and demand 3. Assumes nothing.
use Rattle.book_compiler.specs.Orders.{order_of}
use Rattle.book_compiler.proofs.OntoMemory.{commits_into}
use Rattle.std.proofs.Common.{rules}
use Rattle.book_compiler.proofs.commit.Goals as goal

pub returns : goal.returns
unfolding order_of
returns c =
    commits_into c.args.lengths c.args.memory.now (search rules) c.answer_onto.ensures
