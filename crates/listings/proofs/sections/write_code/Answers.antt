-- `write_code` meets its contract, function by function. Assumes nothing.
use Prim.Native.Nat.{ℕ}
use native.Mathlib.Omega.{arith}
use borrow.Author.Rules.{rules}
use Rattle.line_writer.specs.Written.{start_at}
use Rattle.listings.specs.Sections.{each, function_code}
use Rattle.listings.proofs.Walking.{left_from, left_on, left_none, left_stopped, place_refused, code_written}
use Rattle.listings.proofs.sections.write_code.Goals as goal

pub returns-in_err-at : goal.returns-in_err-at
returns-in_err-at c =
    place_refused (each (λ (k : ℕ). function_code c.args.functions.now c.args.code.now k) c.args.n) c.args.place c.from_residual.result
    c.args.out.now c.in_err-at.was (search rules)

pub loop-i-init : goal.loop-i-init
loop-i-init c = left_from (λ (k : ℕ). function_code c.args.functions.now c.args.code.now k) c.args.n c.args.place c.args.out.now c.in_ok-at.was

pub returns-in_err-at-2 : goal.returns-in_err-at-2
returns-in_err-at-2 c =
    left_stopped (λ (k : ℕ). function_code c.args.functions.now c.args.code.now k) c.args.n c.write_section.result
    c.from_residual-in_err-at-2.result _ c.loop-i.invariant (omega arith)
    (code_written c.args.functions.now c.args.code.now c.loop-i.i (start_at c.loop-i.at c.loop-i.out) c.function_record-f.ensures c.code_of-part.ensures
    c.write_section.ensures)
    c.in_err-at-2.was (search rules)

pub loop-i-preserved : goal.loop-i-preserved
loop-i-preserved c =
    left_on (λ (k : ℕ). function_code c.args.functions.now c.args.code.now k) c.args.n c.write_section.result c.loop-i.invariant (omega arith)
    (code_written c.args.functions.now c.args.code.now c.loop-i.i (start_at c.loop-i.at c.loop-i.out) c.function_record-f.ensures c.code_of-part.ensures
    c.write_section.ensures)
    c.in_ok-at-2.was

pub returns : goal.returns
returns c = left_none (λ (k : ℕ). function_code c.args.functions.now c.args.code.now k) c.args.n c.loop-i.invariant (omega arith)
