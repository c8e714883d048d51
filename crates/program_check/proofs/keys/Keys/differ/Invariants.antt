-- `Keys::differ` meets its contract. The invariant: no entry of the shares below has the key of one before it. Assumes nothing.
use Prim.Native.Nat.{◌≤◌}
use lib.Dec.{T}
use Rattle.definition.specs.Within.{all_below}
use Rattle.program_check.specs.Keys.{share_fresh}
use Rattle.program_check.proofs.keys.Keys.differ.Given as goal

abbrev pub invariant-loop-share : goal.invariant-loop-share
invariant-loop-share l = (l.share ≤ l.shares) × T (all_below l.share (share_fresh l.self.width l.self.group l.self.name l.self.words.now l.total l.shares))
