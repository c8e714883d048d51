-- `constant_slots::slots::fill` meets its contract: once every slot is taken no constant takes one. Assumes nothing.
use Rattle.std.proofs.Common.{length, ap, refl, arith}
use Rattle.constant_slots.proofs.Filling.{filled_start, filled_again, filled_last}
use Rattle.constant_slots.proofs.slots.fill.Goals as goal

pub loop-i-init : goal.loop-i-init
loop-i-init c = (refl, filled_start (length c.args.slots.now) c.clear.new.slots c.args.constants.now c.clear.ensures)

pub loop-i-preserved : goal.loop-i-preserved
loop-i-preserved c = (
  omega arith,
  filled_again (length c.clear.new.slots) c.loop-i.i c.args.constants.now c.loop-i.slots c.loop-i.invariant.1 (omega arith)
      (ap (λ x. x.kind) c.constant_at.ensures) (ap (λ x. x.value) c.constant_at.ensures) c.put.ensures,
)

pub returns : goal.returns
returns c =
    filled_last (length c.clear.new.slots) (length c.args.slots.now) c.loop-i.i c.args.count c.args.constants.now c.loop-i.invariant.1
    (omega arith) (omega arith)
