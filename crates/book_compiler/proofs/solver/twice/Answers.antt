-- `book_compiler::solver::twice` meets its contract. The invariant: what is found from here is found from the start. Assumes nothing.
use Rattle.std.proofs.Common.{ℕ, Some, ap, ◌∙◌}
use mathlib.Core.Bool.{not}
use Rattle.compiler_laws.proofs.DocumentsRead.{TwiceFrom, twice_end, twice_here, twice_more, twice_whole}
use Rattle.book_compiler.proofs.Subtrees.{same_tree, same_end, over, past, back, before}
use Rattle.book_compiler.proofs.solver.twice.Goals as goal

pub returns-then-not-add : goal.returns-then-not-add
returns-then-not-add c =
    let O = over c.next.ensures.steps c.loop-document.invariant.0 c.loop-document.invariant.1 c.in-Some.is in
    twice_whole c.args.tree.now c.args.end c.args.present.now (c.loop-document.invariant.3 _ _
    (before O (λ (n : ℕ). TwiceFrom c.args.tree.now n c.args.end c.loop-document.present (Some c.in-Some.document.at) c.add.new.set)
    (twice_here c.args.tree.now c.in-Some.document.at c.args.end c.loop-document.present O.inside c.field-file.ensures
    c.add.ensures (ap not c.if-not-add.true))))

pub loop-document-preserved : goal.loop-document-preserved
loop-document-preserved c =
    let O = over c.next.ensures.steps c.loop-document.invariant.0 c.loop-document.invariant.1 c.in-Some.is in (
      same_tree c.next.ensures.steps c.loop-document.invariant.0 c.loop-document.invariant.1,
      same_end c.next.ensures.steps c.loop-document.invariant.0 c.loop-document.invariant.1,
      c.add.auto.set ∙ c.loop-document.invariant.2,
      λ r after h. c.loop-document.invariant.3 r after
          (back O (λ (n : ℕ). TwiceFrom c.args.tree.now n c.args.end c.loop-document.present r after)
          (λ (n : ℕ). TwiceFrom c.args.tree.now n c.args.end c.add.new.set r after)
          (twice_more c.args.tree.now c.in-Some.document.at c.args.end c.loop-document.present O.inside c.field-file.ensures
          c.add.ensures (ap not c.if-not-add.false) O.next) h),
    )

pub returns : goal.returns
returns c = twice_whole c.args.tree.now c.args.end
    c.args.present.now (c.loop-document.invariant.3 _ _
    (twice_end c.args.tree.now c.loop-document.document-iterator.at c.args.end c.loop-document.present
    (past c.next.ensures.steps c.loop-document.invariant.0 c.loop-document.invariant.1 c.in-None.is)))
