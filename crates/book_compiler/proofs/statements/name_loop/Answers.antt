-- `book_compiler::statements::name_loop` meets its contract: the name's local is the definition's where nothing is full. Assumes nothing.
use Rattle.book_compiler.proofs.Loops.{name_names}
use Rattle.book_compiler.proofs.statements.name_loop.Goals as goal

pub returns : goal.returns
returns c =
    name_names c.define_local-found.ensures c.found_or_zero-index.ensures c.get_next_instruction_index-first.ensures c.to_instruction-next.ensures
    c.emit.ensures c.get_next_instruction_index-exit.ensures
    c.emit_opcode_without_position.ensures c.to_instruction-set.ensures c.emit-2.ensures
    c.emit_opcode_without_position-2.ensures
