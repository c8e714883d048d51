-- `book_compiler::function_state::emit_break` meets its contract: in a loop a Jump, and an entry of area 10 for it. Assumes nothing.
use Rattle.book_compiler.proofs.BothParts.{break_inside, break_outside}
use Rattle.book_compiler.proofs.function_state.emit_break.Goals as goal

pub returns-then-state : goal.returns-then-state
returns-then-state c =
    break_inside c.args.position c.if-state.true c.get_next_instruction_index-index.ensures c.emit_opcode.ensures c.push_break.ensures

pub returns-else-state : goal.returns-else-state
returns-else-state c = break_outside c.args.position c.if-state.false
