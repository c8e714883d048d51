-- `constant_slots::slots::look` meets its contract. The invariant: what is answered from here on is what is answered from the home on. Assumes nothing.
use Rattle.std.proofs.Common.{◌≡◌, ◌-◌, ◌<◌, length}
use Rattle.words.specs.Object.{constant_of}
use Rattle.constant_slots.specs.Slots.{look, is_in_pool}
use Rattle.constant_slots.proofs.slots.look.Given as goal

abbrev pub invariant-loop-before : goal.invariant-loop-before
invariant-loop-before l = (l.at < length l.slots) × (look (is_in_pool l.count (constant_of l.constant.kind l.constant.value) l.constants)
    (length l.slots - l.before) (length l.slots) l.slots l.at l.before
    ≡ look (is_in_pool l.count (constant_of l.constant.kind l.constant.value) l.constants) (length l.slots) (length l.slots) l.slots l.from 0)
