-- `write_constants` meets its contract. Assumes nothing.
use Rattle.std.proofs.Common.{arith}
use Rattle.constant_tables.proofs.Converting.{constants_begun, constants_more, constants_all}
use Rattle.constant_tables.proofs.write_constants.Goals as goal

pub loop-i-init : goal.loop-i-init
loop-i-init c = constants_begun c.args.tree.now c.args.out.now

pub write_constant-requires : goal.write_constant-requires
write_constant-requires c = omega (arith, c.requires, c.loop-i-test.true, c.loop-i.auto.out)

pub loop-i-preserved : goal.loop-i-preserved
loop-i-preserved c = constants_more c.args.tree.now c.args.out.now c.loop-i.out _ c.loop-i.i c.loop-i.invariant c.write_constant.ensures

pub returns : goal.returns
returns c = constants_all c.args.tree.now c.args.out.now c.loop-i.out c.loop-i.i c.args.lines c.loop-i.invariant (omega arith)
