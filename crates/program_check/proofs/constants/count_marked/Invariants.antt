-- `count_marked` meets its contract. The invariant: the count is that of the first i, and no more than i. Assumes nothing.
use Prim.Native.Nat.{◌≤◌}
use mathlib.Core.Path.{◌≡◌}
use mathlib.Core.List.{[], ◌∷◌}
use Rattle.definition.specs.Within.{marked}
use Rattle.program_check.proofs.constants.count_marked.Given as goal

abbrev pub invariant-loop-i : goal.invariant-loop-i
invariant-loop-i l = (l.i ≤ l.total) × (l.count ≤ l.i) × (l.count ≡ marked ([] ∷ [] ∷ l.constants ∷ []) l.i)
