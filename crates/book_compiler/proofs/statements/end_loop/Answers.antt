-- `book_compiler::statements::end_loop` meets its contract: what was remembered stands where nothing is full. Assumes nothing.
use Rattle.book_compiler.proofs.Loops.{end_ends}
use Rattle.book_compiler.proofs.statements.end_loop.Goals as goal

pub returns : goal.returns
returns c =
    end_ends c.get_last_position-position.ensures c.wrapping_add_u64-iterator.ensures.value c.to_instruction-iterate.ensures c.emit.ensures
    c.get_last_position-last.ensures c.to_instruction-again.ensures c.emit-2.ensures
    c.get_next_instruction_index-next.ensures c.to_instruction-out.ensures c.replace_instruction.ensures c.exit_break_scope.ensures
    c.exit_scope.ensures
