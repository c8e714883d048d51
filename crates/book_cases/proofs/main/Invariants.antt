-- No more cases differ than were read.
use Rattle.std.proofs.Common.{◌≤◌}
use Rattle.book_cases.proofs.main.Given as goal

abbrev pub invariant-loop-cases : goal.invariant-loop-cases
invariant-loop-cases l = l.differ ≤ l.cases
