-- `book_compiler::solver::narrow` meets its contract. The invariant: what is answered from here is answered from the start. Assumes nothing.
use Rattle.std.proofs.Common.{ℕ}
use Rattle.compiler_laws.specs.SolverSteps.{Narrows}
use Rattle.compiler_laws.proofs.DocumentsRead.{narrow_end, narrow_more}
use Rattle.book_compiler.proofs.Subtrees.{same_tree, same_end, over, past, back}
use Rattle.book_compiler.proofs.solver.narrow.Goals as goal

pub loop-document-preserved : goal.loop-document-preserved
loop-document-preserved c =
    let O = over c.next.ensures.steps c.loop-document.invariant.0 c.loop-document.invariant.1 c.in-Some.is in (
      same_tree c.next.ensures.steps c.loop-document.invariant.0 c.loop-document.invariant.1,
      same_end c.next.ensures.steps c.loop-document.invariant.0 c.loop-document.invariant.1,
      λ r. let P : ℕ → Type 0 = λ n. Narrows c.args.tree.now n c.args.end r in
          λ h. c.loop-document.invariant.2 r (back O P P
          (narrow_more c.args.tree.now c.in-Some.document.at c.args.end O.inside O.next c.field-file.ensures c.if-file-ge-NARROW.false
          c.narrow_includes.ensures c.if-not-narrow_includes.false) h),
    )

pub returns : goal.returns
returns c = c.loop-document.invariant.2 _ (narrow_end c.args.tree.now c.loop-document.document-iterator.at c.args.end
    (past c.next.ensures.steps c.loop-document.invariant.0 c.loop-document.invariant.1 c.in-None.is))
