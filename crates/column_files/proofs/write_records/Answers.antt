-- `write_records` meets its contract. Assumes nothing.
use Rattle.std.proofs.Common.{arith}
use Rattle.column_files.proofs.Converting.{records_begun, records_more, records_all}
use Rattle.column_files.proofs.write_records.Goals as goal

pub loop-i-init : goal.loop-i-init
loop-i-init c = records_begun c.args.tree.now c.args.out.now

pub write_record-requires : goal.write_record-requires
write_record-requires c = record {
  at_in_bounds = omega (arith, c.requires, c.loop-i-test.true);
  line_length_in_bounds = omega (arith, c.requires, c.loop-i-test.true, c.loop-i.auto.out);
}

pub loop-i-preserved : goal.loop-i-preserved
loop-i-preserved c = records_more c.args.tree.now c.args.out.now c.loop-i.out _ c.loop-i.i c.loop-i.invariant c.write_record.ensures

pub returns : goal.returns
returns c = records_all c.args.tree.now c.args.out.now c.loop-i.out c.loop-i.i c.args.records c.loop-i.invariant (omega arith)
