-- What all methods give is what those from i on give from here, and `method` is the one at place i.
use Prim.Native.Nat.{ℕ}
use mathlib.Core.Path.{◌≡◌}
use Rattle.line_writer.specs.Placed.{placed}
use Rattle.line_writer.specs.Written.{start_at}
use Rattle.listings.specs.Selecting.{method_lines, method_at}
use Rattle.listings.proofs.Walking.{Left}
use Rattle.listings.proofs.sections.write_methods.Given as goal

abbrev pub invariant-loop-i : goal.invariant-loop-i
invariant-loop-i l = record {
  left : Left (λ (k : ℕ). method_lines l.area (method_at l.area l.n k)) l.n (placed l.fn.place l.fn.out) (start_at l.at l.out) l.i;
  method : l.method ≡ method_at l.area l.n l.i;
}
