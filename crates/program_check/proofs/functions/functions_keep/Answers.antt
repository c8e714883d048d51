-- `functions_keep` meets its contract. The invariant: the functions below j keep their bounds. Assumes nothing.
use Rattle.program_check.proofs.FunctionTests.{keep_turn, keep_no, keep_done}
use native.Mathlib.Omega.{arith}
use mathlib.Core.Path.{ap}
use mathlib.Core.Bool.{not}
use Rattle.program_check.proofs.functions.functions_keep.Goals as goal

pub loop-j-init : goal.loop-j-init
loop-j-init c = (omega arith, tt)

pub function_keeps-requires : goal.function_keeps-requires
function_keeps-requires c =
    c.requires

pub returns-then-not-function_keeps : goal.returns-then-not-function_keeps
returns-then-not-function_keeps c =
    keep_no c.args.code.now c.args.functions.now c.args.totals c.loop-j.j c.entries_in-held.ensures
    c.min-count.ensures c.loop-j-test.true
    c.function_keeps.ensures (ap not c.if-not-function_keeps.true)

pub loop-j-preserved : goal.loop-j-preserved
loop-j-preserved c = (
  omega arith,
  keep_turn c.args.code.now c.args.functions.now c.args.totals c.loop-j.j
      c.loop-j.invariant.1 c.function_keeps.ensures (ap not c.if-not-function_keeps.false),
)

pub returns : goal.returns
returns c =
    keep_done c.args.code.now c.args.functions.now c.args.totals c.loop-j.j c.entries_in-held.ensures
    c.min-count.ensures c.loop-j.invariant.0
    c.loop-j-test.false c.loop-j.invariant.1
