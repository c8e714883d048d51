-- `find` answers the first place of its byte. The invariant: the place from here on is the place from the start on. Assumes nothing.
use Rattle.std.proofs.Common.{◌≡◌}
use Rattle.case_numbers.specs.Places.{place_from}
use Rattle.case_numbers.proofs.find.Given as goal

abbrev pub invariant-loop-i : goal.invariant-loop-i
invariant-loop-i l = place_from l.byte l.from l.text ≡ place_from l.byte l.i l.text
