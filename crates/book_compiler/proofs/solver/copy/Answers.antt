-- `book_compiler::solver::copy` meets its contract. Assumes nothing.
use Rattle.std.proofs.Common.{get_or, sym, arith, length-set}
use Rattle.compiler_laws.proofs.SetBits.{copy_more, copy_all}
use Rattle.book_compiler.proofs.solver.copy.Goals as goal

pub loop-i-init : goal.loop-i-init
loop-i-init c = (sym c.requires, λ k h. absurd (omega (arith, h)))

pub loop-i-preserved : goal.loop-i-preserved
loop-i-preserved c = (
  omega (arith, c.loop-i.invariant.0, length-set c.loop-i.to c.loop-i.i (get_or c.args.from.now c.loop-i.i 0)),
  copy_more c.args.from.now c.loop-i.to c.loop-i.i (omega (arith, c.loop-i.invariant.0, c.loop-i-test.true)) c.loop-i.invariant.1,
)

pub returns : goal.returns
returns c = copy_all c.args.from.now c.loop-i.to c.loop-i.i c.loop-i.invariant.0 c.loop-i-test.false c.loop-i.invariant.1
