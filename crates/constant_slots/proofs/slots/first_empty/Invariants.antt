-- `constant_slots::slots::first_empty` meets its contract. The invariant: the first empty slot from here on is the first from the home on. Assumes nothing.
use Rattle.std.proofs.Common.{◌≡◌, ◌-◌, ◌<◌, length}
use Rattle.constant_slots.specs.Slots.{first_empty}
use Rattle.constant_slots.proofs.slots.first_empty.Given as goal

abbrev pub invariant-loop-looked : goal.invariant-loop-looked
invariant-loop-looked l = (l.at < length l.slots) × (first_empty (length l.slots - l.looked) (length l.slots) l.slots l.at ≡ first_empty (length l.slots)
    (length l.slots) l.slots l.from)
