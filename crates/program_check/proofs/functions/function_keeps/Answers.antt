-- `function_keeps` meets its contract: what a function has inside area 1. Assumes nothing.
use lib.ListN.{length}
use Rattle.program_check.proofs.FunctionTests.{range_fits, function_past, function_in}
use Rattle.program_check.proofs.functions.function_keeps.Goals as goal

pub returns-then-totals-start : goal.returns-then-totals-start
returns-then-totals-start c =
    function_past c.args.code.now c.args.functions.now c.args.totals c.args.j c.entry_word-start.ensures
    c.if-totals-start.true

pub range_keeps-requires : goal.range_keeps-requires
range_keeps-requires c =
    range_fits (length c.args.code.now) c.args.totals.code _ _ _ c.requires c.if-totals-start.false c.min-count.ensures

pub returns : goal.returns
returns c =
    function_in c.args.code.now c.args.functions.now c.args.totals c.args.j c.entry_word-locals.ensures c.entry_word-start.ensures
    c.entry_word-size.ensures c.if-totals-start.false
    c.min-count.ensures c.range_keeps.ensures
