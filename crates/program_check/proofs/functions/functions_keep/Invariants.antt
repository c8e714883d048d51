-- `functions_keep` meets its contract. The invariant: the functions below j keep their bounds. Assumes nothing.
use Prim.Native.Nat.{◌≤◌}
use lib.Dec.{T}
use Rattle.definition.specs.Within.{all_below}
use Rattle.program_check.specs.Functions.{code_and, function_keeps}
use Rattle.program_check.proofs.functions.functions_keep.Given as goal

abbrev pub invariant-loop-j : goal.invariant-loop-j
invariant-loop-j l = (l.j ≤ l.count) × T (all_below l.j (function_keeps (code_and l.code l.functions l.totals)))
