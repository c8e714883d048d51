-- `book_compiler::function_state::exit_break_scope` meets its contract: with the mark set nothing. Assumes nothing.
use Rattle.book_compiler.proofs.BothParts.{exit_marked, exit_both}
use Rattle.book_compiler.proofs.function_state.exit_break_scope.Goals as goal

pub returns-then-state-ne0 : goal.returns-then-state-ne0
returns-then-state-ne0 c = exit_marked c.args.around c.args.inside c.if-state-ne0.true

pub returns : goal.returns
returns c =
    exit_both c.if-state-ne0.false c.patch_breaks.ensures c.give_up_breaks.ensures
    c.leave_break_scope.ensures
