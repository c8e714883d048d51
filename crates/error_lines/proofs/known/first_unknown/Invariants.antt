-- The first unknown error from entry i on is the first of all.
use Prim.Native.Nat.{◌/◌}
use mathlib.Core.Path.{◌≡◌}
use lib.ListN.{length}
use Rattle.error_lines.specs.Lines.{errors_in}
use Rattle.error_lines.specs.Words.{first_unknown}
use Rattle.error_lines.proofs.Walking.{searched}
use Rattle.error_lines.proofs.known.first_unknown.Given as goal

abbrev pub invariant-loop-i : goal.invariant-loop-i
invariant-loop-i l = searched l.errors (length l.errors / 4) l.i ≡ first_unknown 0 (errors_in l.errors)
