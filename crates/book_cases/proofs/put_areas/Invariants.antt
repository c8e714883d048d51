-- The next area starts within the memory.
use Rattle.std.proofs.Common.{◌≤◌, length}
use Rattle.book_cases.proofs.put_areas.Given as goal

abbrev pub invariant-loop-length : goal.invariant-loop-length
invariant-loop-length l = l.start ≤ length l.memory
