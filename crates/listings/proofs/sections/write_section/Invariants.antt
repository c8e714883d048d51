-- What all entries give is what those from i on give from here.
use Prim.Native.Nat.{ℕ}
use Rattle.line_writer.specs.Placed.{placed}
use Rattle.line_writer.specs.Written.{start_at}
use Rattle.listings.specs.Sections.{entry_lines}
use Rattle.listings.proofs.Walking.{Left}
use Rattle.listings.proofs.sections.write_section.Given as goal

abbrev pub invariant-loop-i : goal.invariant-loop-i
invariant-loop-i l = Left (λ (k : ℕ). entry_lines l.kind l.area k) l.n (placed l.fn.place l.fn.out) (start_at l.at l.out) l.i
