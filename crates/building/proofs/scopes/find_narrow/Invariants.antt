-- `building::scopes::find_narrow` meets its contract. The invariant: an entry ends at the word, in the area, and what is left to search answers what was
-- asked. The measure is how much is left. Assumes nothing.
use Rattle.std.proofs.Common.{◌≡◌, ◌-◌, ◌*◌, ◌/◌, ◌%◌, ◌≤◌}
use Rattle.building.specs.Found.{find_newest}
use Rattle.building.proofs.scopes.find_narrow.Given as goal

abbrev pub invariant-loop-at : goal.invariant-loop-at
invariant-loop-at l = (l.at ≤ l.end * 2) × (l.at % 2 ≡ 0) × (find_newest (l.end - l.from) l.from l.name l.names ≡ find_newest
    (l.at / 2 - l.from) l.from l.name l.names)

abbrev pub decreases-loop-at : goal.decreases-loop-at
decreases-loop-at l = l.at
