-- `check_document` meets its contract: rows 2 to 4 by the shape check, then row 10. Assumes nothing.
use Rattle.std.proofs.Common.{ap, ◌∙◌, Err, not}
use Rattle.std.proofs.lemmas.Result.{err_from_is_err_and}
use Rattle.constant_tables.proofs.Converting.{rows_refused, rows_other, rows_fine, other_start, other_here, other_next, other_none}
use Rattle.constant_tables.proofs.check_document.Goals as goal

pub returns-in_err-check : goal.returns-in_err-check
returns-in_err-check c =
    let p = err_from_is_err_and c.from_residual.result c.from_residual.ensures.1 in
    rw (p.1, p.2) (rows_refused c.args.tree.now c.check.ensures c.in_err-check.was)

pub loop-i-init : goal.loop-i-init
loop-i-init c = other_start c.args.tree.now

pub returns-then-not-agrees : goal.returns-then-not-agrees
returns-then-not-agrees c =
    let at = other_here c.args.tree.now c.loop-i.i c.loop-i.invariant c.loop-i-test.true c.agrees.ensures (ap not c.if-not-agrees.true) in
    ap Err c.at.ensures ∙ rows_other c.args.tree.now c.check.ensures c.in_ok-check.was at c.loop-i-test.true

pub loop-i-preserved : goal.loop-i-preserved
loop-i-preserved c = other_next c.args.tree.now c.loop-i.i c.loop-i.invariant c.loop-i-test.true c.agrees.ensures (ap not c.if-not-agrees.false)

pub returns : goal.returns
returns c =
    rows_fine c.args.tree.now c.check.ensures c.in_ok-check.was (other_none c.args.tree.now c.loop-i.i c.loop-i.invariant c.loop-i-test.false)
    c.loop-i-test.false
