-- `put_lines` meets its contract, entry by entry. Assumes nothing.
use native.Mathlib.Omega.{arith}
use Rattle.error_lines.proofs.Walking.{lines_start, lines_turn, lines_stop, lines_done}
use Rattle.error_lines.proofs.buffer.Sink.put_lines.Goals as goal

pub loop-i-init : goal.loop-i-init
loop-i-init c = lines_start c.args.errors.now c.args.texts.table.now c.args.texts.bytes.now c.args.file c.args.self.now

pub returns-then-is_zeros : goal.returns-then-is_zeros
returns-then-is_zeros c =
    lines_stop c.args.errors.now c.args.texts.table.now c.args.texts.bytes.now c.args.file _ c.loop-i.i c.loop-i.invariant (omega arith)
    c.at-error.ensures c.is_zeros.ensures c.if-is_zeros.true

pub loop-i-preserved : goal.loop-i-preserved
loop-i-preserved c =
    lines_turn c.args.errors.now c.args.texts.table.now c.args.texts.bytes.now c.args.file _ c.loop-i.i c.loop-i.invariant (omega arith)
    c.at-error.ensures c.is_zeros.ensures c.if-is_zeros.false c.put_line.ensures

pub returns : goal.returns
returns c =
    lines_done c.args.errors.now c.args.texts.table.now c.args.texts.bytes.now c.args.file _ c.loop-i.i c.loop-i.invariant (omega arith)
