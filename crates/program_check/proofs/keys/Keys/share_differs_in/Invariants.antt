-- `Keys::share_differs_in` meets its contract. The invariant: no entry of the share below i has the key of one before it, and the set has their places.
-- Assumes nothing.
use Prim.Native.Nat.{◌≤◌}
use mathlib.Core.Path.{◌≡◌}
use lib.ListN.{length}
use lib.Dec.{T}
use Rattle.definition.specs.Within.{all_below}
use Rattle.program_check.specs.Keys.{fresh_in}
use Rattle.program_check.specs.KeySets.{HasPlaces}
use Rattle.program_check.proofs.keys.Keys.share_differs_in.Given as goal

abbrev pub invariant-loop-i : goal.invariant-loop-i
invariant-loop-i l = (l.i ≤ l.total) × (length l.set ≡ length l.initial.set) × T (all_below l.i
    (fresh_in l.self.width l.self.group l.self.name l.self.words.now l.shares l.share))
    × HasPlaces l.self.width l.self.group l.self.name l.self.words.now l.shares l.share l.i l.set
