-- `book_compiler::statements::start_loop` meets its contract: four routines do the one step. Assumes nothing.
use Rattle.book_compiler.proofs.Loops.{start_acts}
use Rattle.book_compiler.proofs.statements.start_loop.Goals as goal

pub returns : goal.returns
returns c =
    start_acts c.define_anonymous_local.ensures c.define_anonymous_local-2.ensures
    c.enter_scope.ensures c.enter_break_scope.ensures
