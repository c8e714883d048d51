-- `taking::give_up` meets its contract: the part that is cleared is what is given up. Assumes nothing.
use Rattle.std.proofs.Common.{length, sym, ◌∙◌}
use Rattle.building.proofs.Room.{start_inside, given_up_lem, cleared, zero_end}
use Rattle.building.proofs.taking.give_up.Goals as goal

pub returns-then-start-end : goal.returns-then-start-end
returns-then-start-end c =
    cleared c.args.area.now c.start_of-start.result c.start_of-end.result c.if-start-end.true
    (rw c.start_of-end.ensures (start_inside c.args.width c.args.count (length c.args.area.now))) (c.fill.ensures.after (λ y e. e))
    ∙ rw (c.start_of-start.ensures, c.start_of-end.ensures) (given_up_lem c.args.area.now c.args.width c.args.from c.args.count)

pub returns-else-start-end : goal.returns-else-start-end
returns-else-start-end c =
    sym (zero_end c.args.area.now c.start_of-start.result c.start_of-end.result c.if-start-end.false)
    ∙ rw (c.start_of-start.ensures, c.start_of-end.ensures) (given_up_lem c.args.area.now c.args.width c.args.from c.args.count)
