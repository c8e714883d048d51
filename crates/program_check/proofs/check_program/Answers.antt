-- `check_program` meets its contract: the first area that fails, then the count of bundles. Assumes nothing.
use Rattle.std.proofs.Common.{ap, ◌∙◌, Err, rules}
use mathlib.Core.Logic.{inl, inr}
use Rattle.program_check.proofs.OneMemory.{area_passed, area_stops, count_small, count_great, count_fine}
use Rattle.program_check.proofs.check_program.Goals as goal

pub returns-then-not-area_passes : goal.returns-then-not-area_passes
returns-then-not-area_passes c =
    ap Err c.at.ensures
    ∙ area_stops c.args.lengths c.args.memory.now (search (rules, c.well_formed.1.0)) c.starts_of-starts.ensures c.args.totals c.loop-area.area-index
    c.loop-area-test.true c.loop-area.invariant c.area_passes.ensures c.if-not-area_passes.true

pub loop-area-preserved : goal.loop-area-preserved
loop-area-preserved c =
    area_passed c.args.lengths c.args.memory.now (search (rules, c.well_formed.1.0)) c.starts_of-starts.ensures c.args.totals c.loop-area.area-index
    c.loop-area-test.true c.loop-area.invariant c.area_passes.ensures c.if-not-area_passes.false

pub returns-then-totals-lt1 : goal.returns-then-totals-lt1
returns-then-totals-lt1 c =
    ap Err c.at-then-totals-lt1.ensures
    ∙ elim c.then-totals-lt1.either [
      | inl few ↦ count_small c.args.lengths c.args.memory.now (search (rules, c.well_formed.1.0)) c.starts_of-starts.ensures c.args.totals
          c.loop-area.area-index c.loop-area-test.false c.loop-area.invariant few
      | inr many ↦ count_great c.args.lengths c.args.memory.now (search (rules, c.well_formed.1.0)) c.starts_of-starts.ensures c.args.totals
          c.loop-area.area-index c.loop-area-test.false c.loop-area.invariant many.1
    ]

pub returns : goal.returns
returns c =
    count_fine c.args.lengths c.args.memory.now (search (rules, c.well_formed.1.0)) c.starts_of-starts.ensures c.args.totals c.loop-area.area-index
    c.loop-area-test.false c.loop-area.invariant c.if-totals-lt1.false c.if-totals-gt-MOST_BUNDLES.false
