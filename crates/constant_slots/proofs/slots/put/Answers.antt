-- `constant_slots::slots::put` meets its contract: no slots, an empty slot, none. Assumes nothing.
use Rattle.std.proofs.Common.{length, ap, ◌∙◌, arith}
use Rattle.std.proofs.lemmas.Grind.{common_steps}
use Rattle.constant_slots.specs.Slots.{first_empty}
use Rattle.constant_slots.proofs.SlotWays.{put_nowhere, put_in, put_past}
use Rattle.constant_slots.proofs.slots.put.Goals as goal

pub returns-then-is_empty : goal.returns-then-is_empty
returns-then-is_empty c = put_nowhere c.args.slots.now c.args.number c.args.constant.kind c.args.constant.value (grind (arith, common_steps))

pub returns-in-Some-first_empty : goal.returns-in-Some-first_empty
returns-in-Some-first_empty c =
    rw c.in-Some.ensures.1
    (put_in c.args.slots.now c.args.number c.args.constant.kind c.args.constant.value c.in-Some-first_empty.p (omega (arith, c.in-Some.ensures.0))
    (c.in-Some-first_empty.ensures.is ∙ ap (first_empty (length c.args.slots.now) (length c.args.slots.now) c.args.slots.now) c.home-from.ensures.is))

pub returns-in_default-first_empty : goal.returns-in_default-first_empty
returns-in_default-first_empty c =
    put_past c.args.slots.now c.args.number c.args.constant.kind c.args.constant.value (length c.args.slots.now) (omega (arith, c.in-Some.ensures.0))
    (c.in_default-first_empty.ensures.is ∙ ap (first_empty (length c.args.slots.now) (length c.args.slots.now) c.args.slots.now) c.home-from.ensures.is)
    (omega arith)
