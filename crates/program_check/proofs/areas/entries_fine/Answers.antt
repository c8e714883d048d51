-- `entries_fine` meets its contract. The invariant: the entries below i are fine. Assumes nothing.
use Rattle.program_check.proofs.AreaTests.{fine_unfit, fine_turn, fine_entry, fine_all}
use native.Mathlib.Omega.{arith}
use mathlib.Core.Path.{ap}
use mathlib.Core.Bool.{not}
use Rattle.program_check.proofs.areas.entries_fine.Goals as goal

pub returns-then-not-lies_in : goal.returns-then-not-lies_in
returns-then-not-lies_in c = fine_unfit c.args.area c.args.words.now
    c.args.totals c.total_of-total.ensures c.lies_in.ensures (ap not c.if-not-lies_in.true)

pub loop-i-init : goal.loop-i-init
loop-i-init c = (omega arith, tt)

pub entry_fine-requires : goal.entry_fine-requires
entry_fine-requires c =
    c.requires

pub returns-then-not-entry_fine : goal.returns-then-not-entry_fine
returns-then-not-entry_fine c =
    fine_entry c.args.area c.args.words.now c.args.totals c.total_of-total.ensures c.loop-i.i
    c.loop-i-test.true c.entry_fine.ensures (ap not c.if-not-entry_fine.true)

pub loop-i-preserved : goal.loop-i-preserved
loop-i-preserved c = (
  omega arith,
  fine_turn c.args.area c.args.words.now c.args.totals c.total_of-total.ensures c.loop-i.i
      c.loop-i.invariant.1 c.entry_fine.ensures
      (ap not c.if-not-entry_fine.false),
)

pub returns : goal.returns
returns c =
    fine_all c.args.area c.args.words.now c.args.totals c.total_of-total.ensures c.loop-i.i
    c.lies_in.ensures (ap not c.if-not-lies_in.false) c.loop-i.invariant.0
    c.loop-i-test.false
    c.loop-i.invariant.1
