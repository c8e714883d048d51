-- `book_compiler::expressions::constant` meets its contract: the number that was answered is the definition's where nothing is full. Assumes nothing.
use Rattle.book_compiler.proofs.Leaves.{constant_acts}
use Rattle.book_compiler.proofs.expressions.constant.Goals as goal

pub returns : goal.returns
returns c =
    constant_acts 2 c.args.position c.add_constant-index.ensures c.to_instruction-instruction.ensures c.emit.ensures
