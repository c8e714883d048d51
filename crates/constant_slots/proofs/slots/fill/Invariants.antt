-- `constant_slots::slots::fill` meets its contract. The invariant: the table is what filling anew with the constants so far gives. Assumes nothing.
use Rattle.std.proofs.Common.{◌≡◌, length}
use Rattle.constant_slots.specs.Plain.{pool_of}
use Rattle.constant_slots.specs.Slots.{slots_of}
use Rattle.constant_slots.proofs.slots.fill.Given as goal

abbrev pub invariant-loop-i : goal.invariant-loop-i
invariant-loop-i l = (length l.slots ≡ length l.initial.slots) × (l.slots ≡ slots_of (length l.initial.slots) (pool_of l.i l.constants))
