-- `agrees` meets its contract, by the record's place. Assumes nothing.
use Rattle.constant_tables.proofs.Converting.{agrees_no_head, agrees_head, agrees_name, agrees_integer, agrees_float}
use Rattle.std.proofs.Common.{arith}
use Rattle.constant_tables.proofs.agrees.Goals as goal

pub returns-then-is_head : goal.returns-then-is_head
returns-then-is_head c =
    agrees_head c.args.tree.now c.args.i c.field-span.ensures c.if-i-eq0.false c.if-i-span.false c.in-0.is c.is_head.ensures c.if-is_head.true c.field.ensures

pub returns-else-is_head : goal.returns-else-is_head
returns-else-is_head c =
    agrees_no_head c.args.tree.now c.args.i c.field-span.ensures c.if-i-eq0.false c.if-i-span.false c.in-0.is c.is_head.ensures c.if-is_head.false

pub returns-in-1 : goal.returns-in-1
returns-in-1 c =
    agrees_name c.args.tree.now c.args.i c.field-span.ensures c.if-i-eq0.false c.if-i-span.false c.in-1.is c.is_head-in-1.ensures

pub returns-then-is_head-2 : goal.returns-then-is_head-2
returns-then-is_head-2 c =
    agrees_integer c.args.tree.now c.args.i c.field-span.ensures c.if-i-eq0.false c.if-i-span.false (omega arith)
    c.is_head-in_default.ensures c.if-is_head-2.true

pub returns-else-is_head-2 : goal.returns-else-is_head-2
returns-else-is_head-2 c =
    agrees_float c.args.tree.now c.args.i c.field-span.ensures c.if-i-eq0.false c.if-i-span.false (omega arith)
    c.is_head-in_default.ensures c.if-is_head-2.false c.is_head-else-is_head-2.ensures
