-- `Keys::is_fresh` meets its contract. The invariant: no entry below j has the key. Assumes nothing.
use Prim.Native.Nat.{◌≤◌}
use lib.Dec.{T}
use Rattle.definition.specs.Within.{all_below}
use Rattle.program_check.specs.Keys.{differs_from}
use Rattle.program_check.proofs.keys.Keys.is_fresh.Given as goal

abbrev pub invariant-loop-j : goal.invariant-loop-j
invariant-loop-j l = (l.j ≤ l.i) × T (all_below l.j (differs_from l.self.width l.self.group l.self.name l.self.words.now l.i))
