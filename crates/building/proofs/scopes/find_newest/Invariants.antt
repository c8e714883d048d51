-- `building::scopes::find_newest` meets its contract. The invariant: what is left to search answers what was asked.
-- Where the area holds every entry and nothing is past 32 bits, `find_narrow` answers. Assumes nothing.
use Rattle.std.proofs.Common.{◌≡◌, ◌-◌}
use Rattle.building.specs.Found.{find_newest}
use Rattle.building.proofs.scopes.find_newest.Given as goal

abbrev pub invariant-loop-i : goal.invariant-loop-i
invariant-loop-i l = find_newest (l.count - l.from) l.from l.name l.names ≡ find_newest (l.i - l.from) l.from l.name l.names
