-- `write_section` meets its contract, entry by entry. Assumes nothing.
use Prim.Native.Nat.{ℕ}
use native.Mathlib.Omega.{arith}
use borrow.Author.Rules.{rules}
use Rattle.listings.specs.Sections.{entry_lines, section}
use Rattle.listings.proofs.Walking.{left_on, left_none, left_stopped, place_refused}
use Rattle.listings.proofs.sections.write_section.Goals as goal

pub returns-in_err-at : goal.returns-in_err-at
returns-in_err-at c = place_refused (section c.args.kind c.args.area.now c.args.n) c.args.place c.from_residual.result c.args.out.now c.in_err-at.was
    (search rules)

pub returns-in_err-at-2 : goal.returns-in_err-at-2
returns-in_err-at-2 c =
    left_stopped (λ (k : ℕ). entry_lines c.args.kind c.args.area.now k) c.args.n c.write_entry.result
    c.from_residual-in_err-at-2.result _ c.loop-i.invariant (omega arith) c.write_entry.ensures c.in_err-at-2.was (search rules)

pub loop-i-preserved : goal.loop-i-preserved
loop-i-preserved c =
    left_on (λ (k : ℕ). entry_lines c.args.kind c.args.area.now k) c.args.n c.write_entry.result c.loop-i.invariant (omega arith)
    c.write_entry.ensures c.in_ok-at-2.was

pub returns : goal.returns
returns c = left_none (λ (k : ℕ). entry_lines c.args.kind c.args.area.now k) c.args.n c.loop-i.invariant (omega arith)
