-- `write_definitions` meets its contract. Assumes nothing.
use Rattle.std.proofs.Common.{arith, ◌∙◌}
use Rattle.constant_tables.specs.Table.{bad_at, line_count}
use Rattle.constant_tables.proofs.Search.{first_start, first_next}
use Rattle.constant_tables.proofs.Converting.{begins, begins_next, good_is, lines_bad, lines_good}
use Rattle.constant_tables.proofs.write_definitions.Goals as goal

pub loop-i-init : goal.loop-i-init
loop-i-init c = record {
  off = first_start (bad_at c.args.table.now) (line_count c.args.table.now) 0;
  written = begins c.args.table.now c.args.out.now;
}

pub loop-i-preserved : goal.loop-i-preserved
loop-i-preserved c = record {
  off = c.loop-i.invariant.off ∙ first_next (bad_at c.args.table.now) (line_count c.args.table.now) c.loop-i.i
      (omega (arith, c.loop-i-test.true, c.requires)) (good_is c.args.table.now c.loop-i.i c.line_at.ensures c.in-Some.is);
  written = begins_next c.args.table.now c.args.out.now c.loop-i.out _ c.loop-i.i (omega (arith, c.loop-i-test.true, c.requires))
      c.loop-i.invariant.written c.loop-i.auto.out c.line_at.ensures c.in-Some.is c.write_definition.ensures;
}

pub returns-in_default : goal.returns-in_default
returns-in_default c =
    rw c.at.ensures (lines_bad c.args.table.now c.args.out.now c.loop-i.out c.loop-i.i c.loop-i.invariant.off (omega (arith, c.loop-i-test.true, c.requires))
    c.line_at.ensures c.in_default.is)

pub returns : goal.returns
returns c =
    lines_good c.args.table.now c.args.out.now c.loop-i.out c.loop-i.i c.loop-i.invariant.off (omega (arith, c.loop-i-test.false, c.requires))
    (omega (arith, c.loop-i.auto.i-end, c.requires)) c.loop-i.invariant.written
