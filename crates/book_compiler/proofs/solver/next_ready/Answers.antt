-- `book_compiler::solver::next_ready` meets its contract. The invariant: what is ready from here is ready from the start. Assumes nothing.
use Rattle.std.proofs.Common.{refl, ◌∙◌}
use Rattle.std.proofs.Math.Nat.{le-max_right}
use Rattle.compiler_laws.proofs.WaitingBooks.{ready_end, ready_here, ready_more}
use Rattle.book_compiler.proofs.BookRounds.{none_ready}
use Rattle.book_compiler.proofs.solver.next_ready.Goals as goal

pub returns-in_default-clause-finds : goal.returns-in_default-clause-finds
returns-in_default-clause-finds c =
    c.loop-k.invariant.1 _ _ (ready_here c.args.tree.now c.args.end c.loop-k.k c.args.count c.args.compiled.now c.loop-k.books
    c.loop-k-test.true c.entry_word-entry.ensures
    refl refl c.skip-last.ensures c.in_default.ensures.finds (le-max_right _ _))

pub loop-k-preserved : goal.loop-k-preserved
loop-k-preserved c = (
  c.write_word.auto.area ∙ c.loop-k.invariant.0,
  λ r after h. c.loop-k.invariant.1 r after
      (ready_more c.args.tree.now c.args.end c.loop-k.k c.args.count c.args.compiled.now c.loop-k.books c.loop-k-test.true
      c.entry_word-entry.ensures refl refl
      c.skip-last.ensures c.in-Some.ensures.finds c.in-Some.ensures.inside refl refl c.write_word.ensures h),
)

pub returns-clause-finds : goal.returns-clause-finds
returns-clause-finds c =
    none_ready c.loop-k-test.false (c.loop-k.invariant.1 _ _ (ready_end c.args.tree.now c.args.end c.loop-k.k c.args.count c.args.compiled.now
    c.loop-k.books c.loop-k-test.false))
