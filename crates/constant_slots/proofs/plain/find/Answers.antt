-- `constant_slots::plain::find` meets its contract: the entries passed over have another value. Assumes nothing.
use Rattle.std.proofs.Common.{arith}
use Rattle.constant_slots.proofs.PlainWays.{value_found, find_here, find_next, find_end}
use Rattle.constant_slots.proofs.plain.find.Goals as goal

pub returns-then-entry_word-wanted : goal.returns-then-entry_word-wanted
returns-then-entry_word-wanted c =
    find_here c.args.wanted.kind c.args.wanted.value c.args.constants.now c.args.count c.loop-there.from c.in-Some.ensures
    (rw c.entry_word.ensures at c.if-entry_word-wanted.true) c.loop-there.invariant

pub overflow_add-from : goal.overflow_add-from
overflow_add-from c =
    let p = value_found c.args.wanted.kind c.args.wanted.value c.args.constants.now c.args.count c.loop-there.from c.in-Some.ensures in
    omega (arith, p.last, c.ranges.count.fits)

pub loop-there-smaller : goal.loop-there-smaller
loop-there-smaller c =
    let p = value_found c.args.wanted.kind c.args.wanted.value c.args.constants.now c.args.count c.loop-there.from c.in-Some.ensures in
    omega (arith, p.on, p.last)

pub loop-there-preserved : goal.loop-there-preserved
loop-there-preserved c =
    find_next c.args.wanted.kind c.args.wanted.value c.args.constants.now c.args.count c.loop-there.from c.in-Some.ensures
    (rw c.entry_word.ensures at c.if-entry_word-wanted.false) c.loop-there.invariant

pub returns : goal.returns
returns c =
    find_end c.args.wanted.kind c.args.wanted.value c.args.constants.now c.args.count c.loop-there.from c.in_default.ensures c.loop-there.invariant
