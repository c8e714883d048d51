-- `book_compiler::solver::needed` meets its contract. The invariant: what is needed from here is needed from the start. Assumes nothing.
use Rattle.std.proofs.Common.{ℕ, ap, ◌∙◌}
use mathlib.Core.Bool.{not}
use Rattle.compiler_laws.proofs.DocumentsRead.{NeededFrom, needed_end, needed_stop, needed_more, needed_start}
use Rattle.book_compiler.proofs.Subtrees.{same_tree, same_end, over, past, back}
use Rattle.book_compiler.proofs.solver.needed.Goals as goal

pub returns-then-not-reach : goal.returns-then-not-reach
returns-then-not-reach c =
    needed_start c.args.tree.now c.args.end c.args.standing.now c.args.read.now c.args.set.now c.args.next.now
    c.field-root.ensures c.requires.1 c.add_absent.ensures
    c.add_absent-2.ensures
    (c.loop-document.invariant.5 _ (needed_stop c.args.tree.now c.loop-document._document-iterator.at c.args.end c.args.standing.now c.loop-document.read
    c.loop-document.set
    c.loop-document.next c.reach.ensures (ap not c.if-not-reach.true)))

pub loop-document-preserved : goal.loop-document-preserved
loop-document-preserved c =
    let O = over c.next.ensures.steps c.loop-document.invariant.0 c.loop-document.invariant.1 c.in-Some.is in (
      same_tree c.next.ensures.steps c.loop-document.invariant.0 c.loop-document.invariant.1,
      same_end c.next.ensures.steps c.loop-document.invariant.0 c.loop-document.invariant.1,
      c.copy.auto.to ∙ c.loop-document.invariant.2,
      c.copy-in-loop-document.auto.to ∙ c.loop-document.invariant.3,
      c.reach.auto.next ∙ c.loop-document.invariant.4,
      λ after h. c.loop-document.invariant.5 after
          (back O (λ (n : ℕ). NeededFrom c.args.tree.now n c.args.end c.args.standing.now c.loop-document.read c.loop-document.set c.loop-document.next after)
          (λ (n : ℕ). NeededFrom c.args.tree.now n c.args.end c.args.standing.now c.copy.new.to c.copy-in-loop-document.new.to
          c.reach.new.next after)
          (needed_more c.args.tree.now c.in-Some._document.at c.args.end c.args.standing.now c.loop-document.read c.loop-document.set c.loop-document.next
          c.reach.ensures O.inside O.next c.copy.ensures
          c.copy-in-loop-document.ensures) h),
    )

pub returns : goal.returns
returns c =
    needed_start c.args.tree.now c.args.end c.args.standing.now c.args.read.now c.args.set.now c.args.next.now
    c.field-root.ensures c.requires.1 c.add_absent.ensures
    c.add_absent-2.ensures
    (c.loop-document.invariant.5 _ (needed_end c.args.tree.now c.loop-document._document-iterator.at c.args.end c.args.standing.now c.loop-document.read
    c.loop-document.set c.loop-document.next (past c.next.ensures.steps c.loop-document.invariant.0 c.loop-document.invariant.1 c.in-None.is)))
