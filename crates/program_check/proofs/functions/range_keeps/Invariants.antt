-- `range_keeps` meets its contract. The invariant: the first k instructions keep the bounds. Assumes nothing.
use Prim.Native.Nat.{◌+◌, ◌≤◌}
use lib.Dec.{T}
use Rattle.definition.specs.Within.{all_below}
use Rattle.program_check.specs.Functions.{keeps_at}
use Rattle.program_check.proofs.functions.range_keeps.Given as goal

abbrev pub invariant-loop-k : goal.invariant-loop-k
invariant-loop-k l = (l.k ≤ l.count) × T (all_below l.k (λ i. keeps_at l.code l.size l.locals (l.from + i)))
