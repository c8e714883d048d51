-- `book_compiler::expressions::global` meets its contract: the number that was answered is the definition's where nothing is full. Assumes nothing.
use Rattle.words.specs.Codes.{number_of}
use Rattle.book_compiler.proofs.Leaves.{global_acts}
use Rattle.book_compiler.proofs.expressions.global.Goals as goal

pub returns : goal.returns
returns c =
    global_acts (number_of c.args.opcode) c.args.position c.add_constant-index.ensures c.mark_global.ensures c.to_instruction-instruction.ensures
    c.emit.ensures
