-- `book_compiler::statements::begin_loop` meets its contract: the numbers of both locals count by their low bits. Assumes nothing.
use Rattle.book_compiler.proofs.Loops.{head_acts}
use Rattle.book_compiler.proofs.statements.begin_loop.Goals as goal

pub returns : goal.returns
returns c =
    head_acts c.to_instruction-set.ensures c.emit.ensures c.emit_opcode_without_position.ensures c.constant.ensures
    c.wrapping_add_u64-iterator.ensures.value
    c.to_instruction-zero.ensures c.emit-2.ensures c.emit_opcode_without_position-2.ensures
