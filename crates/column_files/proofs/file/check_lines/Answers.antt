-- `check_lines` meets its contract. Assumes nothing.
use Rattle.std.proofs.Common.{◌∙◌, arith}
use Rattle.column_files.proofs.Files.{bad_start, bad_here, bad_next, no_record, a_record, row_one_at, row_one_end}
use Rattle.column_files.proofs.file.check_lines.Goals as goal

pub loop-i-init : goal.loop-i-init
loop-i-init c = bad_start c.args.file.now

pub returns-then-is_none : goal.returns-then-is_none
returns-then-is_none c =
    let none = no_record c.line_at.result c.if-is_none.ensures in
    rw c.at.ensures (row_one_at c.args.file.now c.loop-i.i (c.loop-i.invariant
    ∙ bad_here c.args.file.now c.loop-i.i c.loop-i-test.true c.line_at.ensures none ∙ omega arith))

pub loop-i-preserved : goal.loop-i-preserved
loop-i-preserved c =
    let some = a_record c.line_at.result c.if-is_none.ensures in
    c.loop-i.invariant ∙ bad_next c.args.file.now c.loop-i.i c.loop-i-test.true c.line_at.ensures some.1

pub returns : goal.returns
returns c = c.check_end.ensures ∙ row_one_end c.args.file.now c.loop-i.i c.loop-i.invariant c.loop-i-test.false c.loop-i.auto.i-end
