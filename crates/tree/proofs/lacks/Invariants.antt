-- `lacks` meets its contract. The invariant: what is lacking from the entry is what is lacking from here on. The measure: the records left.
-- Assumes nothing.
use mathlib.Core.Path.{◌≡◌}
use Prim.Native.Nat.{◌-◌}
use Rattle.tree.specs.Check.{lacks_of}
use Rattle.tree.proofs.lacks.Given as goal

abbrev pub invariant-loop-j : goal.invariant-loop-j
invariant-loop-j g l = lacks_of (g.R.Records.words l.records) l.slot l.at l.end ≡ lacks_of (g.R.Records.words l.records) l.s l.j l.end

abbrev pub decreases-loop-j : goal.decreases-loop-j
decreases-loop-j g l = l.end - l.j
