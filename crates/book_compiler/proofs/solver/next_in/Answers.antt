-- `book_compiler::solver::next_in` meets its contract. The invariant: what is next from here is next from the start. Assumes nothing.
use Rattle.std.proofs.Common.{sym, ◌∙◌, arith}
use Rattle.compiler_laws.proofs.SetBits.{next_more, next_here}
use Rattle.book_compiler.proofs.SetMembers.{next_past}
use Rattle.book_compiler.proofs.solver.next_in.Goals as goal

pub returns-then-has-clause-finds : goal.returns-then-has-clause-finds
returns-then-has-clause-finds c =
    c.loop-n.invariant.1 _ (next_here c.args.set.now c.loop-n.n (omega (
      arith,
      c.loop-n-test.true,
    )) (λ l. sym c.has.ensures ∙ c.if-has.true))

pub loop-n-smaller : goal.loop-n-smaller
loop-n-smaller c = omega (arith, c.loop-n-test.true, c.after-n.ensures.on)

pub loop-n-preserved : goal.loop-n-preserved
loop-n-preserved c = (
  c.after-n.ensures.last,
  λ r h. c.loop-n.invariant.1 r (next_more c.args.set.now c.loop-n.n (sym
      c.if-has.false ∙ c.has.ensures) c.after-n.ensures h),
)

pub returns-clause-finds : goal.returns-clause-finds
returns-clause-finds c = c.loop-n.invariant.1 _ (next_past c.args.set.now c.loop-n.n c.loop-n-test.false c.loop-n.invariant.0)
