-- `inside` and `walk` meet their contracts. The invariant: what the pass gives from the entry is what it gives from here on. The measure, of the loop and
-- of the calls: the records left; `walk` counts one more than `inside`. Assumes nothing.
use mathlib.Core.Path.{refl, sym, ◌∙◌}
use Prim.Native.Nat.{◌+◌}
use Rattle.tree.proofs.Lacking.{blame_done, inside_low, inside_on, walk_fails, walk_span, walk_found, walk_past}
use native.Mathlib.Omega.{arith}
use mathlib.Core.Path.{ap}
use mathlib.Core.Bool.{not}
use Rattle.std.specs.Prelude.{Err}
use Rattle.tree.specs.Children.{blamed}
use Rattle.tree.proofs.+inside_walk.Goals as goal

pub inside-returns-then-level-gt-MOST_LEVELS : goal.inside-returns-then-level-gt-MOST_LEVELS
inside-returns-then-level-gt-MOST_LEVELS g t c = c.blame.ensures
    ∙ ap (λ found. blamed (g.R.Records.words c.args.records) c.args.slot c.args.at (c.args.at + 1) c.args.end (Err found)) c.at-found.ensures
    ∙ inside_low (g.R.Records.words c.args.records) c.args.slot
    c.args.level c.args.this c.args.at
    c.args.end c.if-level-gt-MOST_LEVELS.true

pub inside-returns-then-from-end : goal.inside-returns-then-from-end
inside-returns-then-from-end g t c = c.settle.ensures ∙ blame_done (g.R.Records.words c.args.records) c.args.slot
    (c.args.level + 1) c.args.this c.args.at
    (c.args.at + 1) c.args.end
    (omega (arith, c.if-from-end.true))
    ∙ inside_on (g.R.Records.words c.args.records) c.args.slot
    c.args.level c.args.this c.args.at
    c.args.end c.if-level-gt-MOST_LEVELS.false

pub inside-returns : goal.inside-returns
inside-returns g t c = c.walk.ensures ∙ inside_on (g.R.Records.words c.args.records) c.args.slot
    c.args.level c.args.this c.args.at
    c.args.end c.if-level-gt-MOST_LEVELS.false

pub walk-loop-i-init : goal.walk-loop-i-init
walk-loop-i-init g t c = (omega arith, refl)

pub walk-returns-then-not-stands : goal.walk-returns-then-not-stands
walk-returns-then-not-stands g t c =
    c.blame.ensures
    ∙ ap (λ found. blamed (g.R.Records.words c.args.records) c.loop-i.s c.args.parent c.loop-i.i c.args.end (Err found)) c.at-found.ensures
    ∙ walk_fails (g.R.Records.words c.args.records) c.loop-i.s c.args.level c.loop-i.t c.loop-i.i c.args.end
    c.loop-i-test.true c.read-child.ensures c.slot_row-row.ensures c.rule_row-rule.ensures
    c.stands.ensures c.args.parent (ap not c.if-not-stands.true)
    ∙ sym c.loop-i.invariant.1

pub walk-overflow_add-i : goal.walk-overflow_add-i
walk-overflow_add-i g t c =
    omega (
      arith,
      walk_span (g.R.Records.words c.args.records) c.loop-i.s c.args.level c.loop-i.t c.loop-i.i c.args.end
          c.loop-i-test.true c.read-child.ensures c.slot_row-row.ensures c.rule_row-rule.ensures
          c.stands.ensures (ap not c.if-not-stands.false),
      c.ranges.end,
    )

pub walk-inside-inner-requires : goal.walk-inside-inner-requires
walk-inside-inner-requires g t c κs within =
    let spans = walk_span (g.R.Records.words c.args.records) c.loop-i.s c.args.level c.loop-i.t c.loop-i.i c.args.end c.loop-i-test.true
    c.read-child.ensures c.slot_row-row.ensures c.rule_row-rule.ensures c.stands.ensures (ap not c.if-not-stands.false) in
    (omega (arith, spans, c.loop-i.invariant.0), (within, (omega (arith, spans), omega (arith, spans, c.requires))))

pub walk-returns-in-Err : goal.walk-returns-in-Err
walk-returns-in-Err g t c =
    c.blame-in-Err.ensures
    ∙ walk_found (g.R.Records.words c.args.records) c.loop-i.s c.args.level c.loop-i.t c.loop-i.i c.args.end
    c.loop-i-test.true c.read-child.ensures c.slot_row-row.ensures c.rule_row-rule.ensures
    c.stands.ensures (ap not c.if-not-stands.false) c.this_after-met.ensures c.inside-inner.ensures
    c.args.parent c.in-Err.is
    ∙ sym c.loop-i.invariant.1

pub walk-overflow_add-i-in-loop-i : goal.walk-overflow_add-i-in-loop-i
walk-overflow_add-i-in-loop-i g t c =
    omega (
      arith,
      walk_span (g.R.Records.words c.args.records) c.loop-i.s c.args.level c.loop-i.t c.loop-i.i c.args.end
          c.loop-i-test.true c.read-child.ensures c.slot_row-row.ensures c.rule_row-rule.ensures
          c.stands.ensures (ap not c.if-not-stands.false),
      c.ranges.end,
    )

pub walk-loop-i-smaller : goal.walk-loop-i-smaller
walk-loop-i-smaller g t c =
    omega (
      arith,
      walk_span (g.R.Records.words c.args.records) c.loop-i.s c.args.level c.loop-i.t c.loop-i.i c.args.end
          c.loop-i-test.true c.read-child.ensures c.slot_row-row.ensures c.rule_row-rule.ensures
          c.stands.ensures (ap not c.if-not-stands.false),
    )

pub walk-loop-i-preserved : goal.walk-loop-i-preserved
walk-loop-i-preserved g t c = (
  omega (
    arith,
    walk_span (g.R.Records.words c.args.records) c.loop-i.s c.args.level c.loop-i.t c.loop-i.i c.args.end
        c.loop-i-test.true c.read-child.ensures c.slot_row-row.ensures c.rule_row-rule.ensures
        c.stands.ensures (ap not c.if-not-stands.false),
    c.loop-i.invariant.0,
  ),
  c.loop-i.invariant.1
      ∙ walk_past (g.R.Records.words c.args.records) c.loop-i.s c.args.level c.loop-i.t c.loop-i.i c.args.end
      c.loop-i-test.true c.read-child.ensures c.slot_row-row.ensures c.rule_row-rule.ensures
      c.stands.ensures (ap not c.if-not-stands.false) c.this_after-met.ensures c.inside-inner.ensures
      c.args.parent c.in-Ok.is c.row_after-s.ensures,
)

pub walk-returns : goal.walk-returns
walk-returns g t c = c.settle.ensures
    ∙ blame_done (g.R.Records.words c.args.records) c.loop-i.s c.args.level
    c.loop-i.t c.args.parent c.loop-i.i
    c.args.end c.loop-i-test.false ∙ sym c.loop-i.invariant.1
