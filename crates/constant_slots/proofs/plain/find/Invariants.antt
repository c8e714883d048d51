-- `constant_slots::plain::find` meets its contract. The invariant: what is found from the first constant on is what is found from here on.
-- The measure is what is left of the entries. Assumes nothing.
use Rattle.std.proofs.Common.{◌≡◌, ◌-◌}
use Rattle.words.specs.Object.{constant_of}
use Rattle.constant_slots.specs.Plain.{is_constant, first_from}
use Rattle.constant_slots.proofs.plain.find.Given as goal

abbrev pub invariant-loop-there : goal.invariant-loop-there
invariant-loop-there l = first_from (is_constant (constant_of l.wanted.kind l.wanted.value) l.constants) (l.count - l.from) l.from
    ≡ first_from (is_constant (constant_of l.wanted.kind l.wanted.value) l.constants) l.count 0

abbrev pub decreases-loop-there : goal.decreases-loop-there
decreases-loop-there l = l.count - l.from
