-- `inside` and `walk` meet their contracts. The invariant: what the pass gives from the entry is what it gives from here on. The measure, of the loop and
-- of the calls: the records left; `walk` counts one more than `inside`. Assumes nothing.
use mathlib.Core.Path.{◌≡◌}
use Prim.Native.Nat.{◌≤◌, ◌-◌, ◌+◌, ◌*◌}
use Rattle.tree.specs.Check.{walk_of}
use Rattle.tree.specs.Children.{blamed}
use Rattle.tree.proofs.+inside_walk.Given as goal

abbrev pub decreases-walk : goal.decreases-walk
decreases-walk g l = 2 * (l.end - l.at) + 1

abbrev pub decreases-inside : goal.decreases-inside
decreases-inside g l = 2 * (l.end - l.at)

abbrev pub invariant-walk-loop-i : goal.invariant-walk-loop-i
invariant-walk-loop-i g l = (l.at ≤ l.i) × (blamed (g.R.Records.words l.records) l.slot l.parent l.at l.end
    (walk_of (g.R.Records.words l.records) l.slot l.level l.this l.at l.end)
    ≡ blamed (g.R.Records.words l.records) l.s l.parent l.i l.end (walk_of (g.R.Records.words l.records) l.s l.level l.t l.i l.end))

abbrev pub decreases-walk-loop-i : goal.decreases-walk-loop-i
decreases-walk-loop-i g l = l.end - l.i
