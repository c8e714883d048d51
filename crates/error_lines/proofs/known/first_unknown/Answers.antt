-- `first_unknown` meets its contract, entry by entry. Assumes nothing.
use native.Mathlib.Omega.{arith}
use Rattle.error_lines.proofs.Walking.{search_start, search_turn, search_found, search_stop, search_done}
use Rattle.error_lines.proofs.known.first_unknown.Goals as goal

pub loop-i-init : goal.loop-i-init
loop-i-init c = search_start c.args.errors.now

pub returns-then-is_zeros : goal.returns-then-is_zeros
returns-then-is_zeros c =
    search_stop c.args.errors.now _ c.loop-i.i c.loop-i.invariant (omega arith) c.at-error.ensures c.is_zeros.ensures c.if-is_zeros.true

pub returns-then-not-is_known : goal.returns-then-not-is_known
returns-then-not-is_known c =
    search_found c.args.errors.now _ c.loop-i.i c.loop-i.invariant (omega arith) c.at-error.ensures c.is_zeros.ensures c.if-is_zeros.false
    c.is_known.ensures c.if-not-is_known.true

pub loop-i-preserved : goal.loop-i-preserved
loop-i-preserved c =
    search_turn c.args.errors.now _ c.loop-i.i c.loop-i.invariant (omega arith) c.at-error.ensures c.is_zeros.ensures c.if-is_zeros.false
    c.is_known.ensures c.if-not-is_known.false

pub returns : goal.returns
returns c = search_done c.args.errors.now _ c.loop-i.i c.loop-i.invariant (omega arith)
