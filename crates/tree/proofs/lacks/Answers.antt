-- `lacks` meets its contract. The invariant: what is lacking from the entry is what is lacking from here on. The measure: the records left.
-- Assumes nothing.
use mathlib.Core.Path.{sym, ap, ◌∙◌}
use mathlib.Core.Bool.{not}
use native.Mathlib.Omega.{arith}
use Rattle.words.specs.declared.node.Record.{Record}
use Rattle.tree.proofs.Spans.{span_in_lem}
use Rattle.tree.proofs.Walks.{lacks_done}
use Rattle.tree.proofs.Ways.{lacks_out, lacks_more}
use Rattle.tree.proofs.lacks.Goals as goal

pub returns-then-not-within : goal.returns-then-not-within
returns-then-not-within g c =
    lacks_out (g.R.Records.words c.args.records) c.loop-j.s c.loop-j.j c.args.end c.loop-j-test.true
    (ap (λ (r : Record). r.span) c.read-child.ensures) c.within.ensures (ap not c.if-not-within.true)
    ∙ sym c.loop-j.invariant

pub overflow_add-j : goal.overflow_add-j
overflow_add-j g c =
    omega (
      arith,
      span_in_lem c.loop-j.j c.read-child.result.span c.args.end c.within.ensures (ap not c.if-not-within.false),
      c.ranges.end,
    )

pub loop-j-smaller : goal.loop-j-smaller
loop-j-smaller g c =
    omega (
      arith,
      span_in_lem c.loop-j.j c.read-child.result.span c.args.end c.within.ensures (ap not c.if-not-within.false),
      c.loop-j-test.true,
    )

pub loop-j-preserved : goal.loop-j-preserved
loop-j-preserved g c =
    c.loop-j.invariant
    ∙ lacks_more (g.R.Records.words c.args.records) c.loop-j.s c.loop-j.j c.args.end c.loop-j-test.true
    (ap (λ (r : Record). r.kind) c.read-child.ensures) (ap (λ (r : Record). r.span) c.read-child.ensures)
    c.within.ensures (ap not c.if-not-within.false)
    c.slot_after-s.ensures

pub returns : goal.returns
returns g c =
    c.is_due.ensures
    ∙ sym (lacks_done (g.R.Records.words c.args.records) c.loop-j.s c.loop-j.j c.args.end c.loop-j-test.false)
    ∙ sym c.loop-j.invariant
