-- `write_lead` meets its contract, by the sign and by whether it has a place. Assumes nothing.
use Rattle.std.proofs.Common.{arith}
use Rattle.column_lines.proofs.Writing.{lead_blank, lead_none, lead_sign}
use Rattle.column_lines.proofs.number.write_lead.Goals as goal

pub returns-then-not-negative : goal.returns-then-not-negative
returns-then-not-negative c = lead_blank c.args.negative c.args.out.now _ c.if-not-negative.true (c.fill.ensures.after (λ y e. e))

pub returns-in_default : goal.returns-in_default
returns-in_default c = lead_none c.args.negative c.args.out.now _ c.if-not-negative.false
    (omega (arith, c.in_default.ensures.item, c.fill.ensures.len)) (c.fill.ensures.after (λ y e. e))

pub returns : goal.returns
returns c = lead_sign c.args.negative c.args.out.now _ c.if-not-negative.false
    (omega (arith, c.in-Some.ensures.item, c.fill.ensures.len)) (c.fill.ensures.after (λ y e. e))
