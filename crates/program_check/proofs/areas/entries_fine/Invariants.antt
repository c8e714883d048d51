-- `entries_fine` meets its contract. The invariant: the entries below i are fine. Assumes nothing.
use Prim.Native.Nat.{◌≤◌}
use lib.Dec.{T}
use Rattle.definition.specs.Within.{all_below}
use Rattle.program_check.specs.Parts.{alone, entry_fine}
use Rattle.program_check.proofs.areas.entries_fine.Given as goal

abbrev pub invariant-loop-i : goal.invariant-loop-i
invariant-loop-i l = (l.i ≤ l.total) × T (all_below l.i (entry_fine (alone l.area l.words l.totals) l.area))
