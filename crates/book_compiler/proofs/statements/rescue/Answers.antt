-- `book_compiler::statements::rescue` meets its contract: with the mark set, inside a statement, and outside. Assumes nothing.
use Rattle.book_compiler.specs.Members.{token}
use Rattle.book_compiler.proofs.StatementKinds.{rescue_full, rescue_deep, rescue_here}
use Rattle.book_compiler.proofs.statements.rescue.Goals as goal

pub returns-then-state-ne0 : goal.returns-then-state-ne0
returns-then-state-ne0 c = rescue_full (token c.args.position c.args.kind
    c.args.value) c.if-state-ne0.true

pub returns-then-state-gt1 : goal.returns-then-state-gt1
returns-then-state-gt1 c =
    rescue_deep c.if-state-ne0.false c.if-state-gt1.true c.push_error.ensures

pub returns : goal.returns
returns c =
    rescue_here c.args.position c.args.kind c.args.value c.if-state-ne0.false c.if-state-gt1.false c.emit_return.ensures
    c.set_rescue.ensures
