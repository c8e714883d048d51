-- `write_methods` meets its contract, method by method. Assumes nothing.
use Prim.Native.Nat.{ℕ}
use native.Mathlib.Omega.{arith}
use borrow.Author.Rules.{rules}
use Rattle.line_writer.specs.Written.{start_at}
use Rattle.listings.specs.Selecting.{method_lines, method_at, selected}
use Rattle.listings.proofs.Walking.{left_from, left_on, left_none, left_stopped, place_refused, method_written}
use Rattle.listings.proofs.Keys.{method_first, method_next}
use Rattle.listings.proofs.sections.write_methods.Goals as goal

pub returns-in_err-at : goal.returns-in_err-at
returns-in_err-at c =
    place_refused (selected c.args.area.now c.args.n) c.args.place c.from_residual.result c.args.out.now c.in_err-at.was (search rules)

pub loop-i-init : goal.loop-i-init
loop-i-init c = record {
  left = left_from (λ (k : ℕ). method_lines c.args.area.now (method_at c.args.area.now c.args.n k)) c.args.n c.args.place c.args.out.now c.in_ok-at.was;
  method = method_first c.args.area.now c.args.n c.least_above-method.ensures;
}

pub returns-in_err-at-2 : goal.returns-in_err-at-2
returns-in_err-at-2 c =
    left_stopped (λ (k : ℕ). method_lines c.args.area.now (method_at c.args.area.now c.args.n k)) c.args.n c.write_method.result
    c.from_residual-in_err-at-2.result _ c.loop-i.invariant.left (omega arith)
    (method_written c.args.area.now (start_at c.loop-i.at c.loop-i.out) c.loop-i.invariant.method c.write_method.ensures) c.in_err-at-2.was (search rules)

pub loop-i-preserved : goal.loop-i-preserved
loop-i-preserved c = record {
  left = left_on (λ (k : ℕ). method_lines c.args.area.now (method_at c.args.area.now c.args.n k)) c.args.n c.write_method.result
      c.loop-i.invariant.left (omega arith)
      (method_written c.args.area.now (start_at c.loop-i.at c.loop-i.out) c.loop-i.invariant.method c.write_method.ensures) c.in_ok-at-2.was;
  method = method_next c.args.area.now c.args.n c.loop-i.i c.loop-i.invariant.method c.method_after-method.ensures;
}

pub returns : goal.returns
returns c = left_none (λ (k : ℕ). method_lines c.args.area.now (method_at c.args.area.now c.args.n k)) c.args.n c.loop-i.invariant.left (omega arith)
