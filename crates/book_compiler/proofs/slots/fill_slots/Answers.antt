-- `book_compiler::slots::fill_slots` meets its contract. The invariant: the slots are what filling zeros with the constants so far gives. Assumes nothing.
use Rattle.std.proofs.Common.{arith}
use Rattle.book_compiler.proofs.SlotFilling.{fill_first, fill_more, fill_last, fill_all}
use Rattle.book_compiler.proofs.slots.fill_slots.Goals as goal

pub loop-i-init : goal.loop-i-init
loop-i-init c = fill_first

pub loop-i-preserved : goal.loop-i-preserved
loop-i-preserved c =
    fill_more (omega (arith, c.loop-i-test.true, c.min-i-end.ensures, c.ranges.count)) c.loop-i.invariant c.constant_word-kind.ensures
    c.constant_word-value.ensures c.put_slot.ensures

pub returns : goal.returns
returns c =
    fill_all c.clear_slots.ensures (fill_last c.loop-i.invariant c.part-size.ensures (omega (
      arith,
      c.loop-i-test.false,
      c.loop-i.auto.i-end,
      c.min-i-end.ensures,
    )))
