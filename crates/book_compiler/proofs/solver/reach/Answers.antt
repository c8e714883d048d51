-- `book_compiler::solver::reach` meets its contract. The invariant: what is reached from here is reached from the start. Assumes nothing.
use Rattle.std.proofs.Common.{ℕ, sym, ◌∙◌}
use Rattle.compiler_laws.specs.SolverSteps.{Reaches}
use Rattle.compiler_laws.proofs.DocumentsRead.{reach_end, reach_past, reach_more}
use Rattle.book_compiler.proofs.Subtrees.{same_tree, same_end, over, past, back}
use Rattle.book_compiler.proofs.solver.reach.Goals as goal

pub loop-document-preserved-then-unread : goal.loop-document-preserved-then-unread
loop-document-preserved-then-unread c =
    let O = over c.next.ensures.steps c.loop-document.invariant.0 c.loop-document.invariant.1 c.in-Some.is in (
      same_tree c.next.ensures.steps c.loop-document.invariant.0 c.loop-document.invariant.1,
      same_end c.next.ensures.steps c.loop-document.invariant.0 c.loop-document.invariant.1,
      c.add_includes-grew.auto.set ∙ c.loop-document.invariant.2,
      λ after r h. c.loop-document.invariant.3 after r
          (back O (λ (n : ℕ). Reaches c.args.tree.now n c.args.end c.args.standing.now c.args.read.now c.args.set.now c.loop-document.grew
          c.loop-document.next after r)
          (λ (n : ℕ). Reaches c.args.tree.now n c.args.end c.args.standing.now c.args.read.now c.args.set.now c.add_includes-grew.result
          c.add_includes-grew.new.set after r)
          (reach_more c.args.tree.now c.in-Some.document.at c.args.end c.args.standing.now c.args.read.now c.args.set.now c.loop-document.grew
          c.loop-document.next O.inside O.next c.field-file.ensures
          (sym c.if-unread.true ∙ c.unread.ensures) c.add_includes-grew.ensures) h),
    )

pub loop-document-preserved : goal.loop-document-preserved
loop-document-preserved c =
    let O = over c.next.ensures.steps c.loop-document.invariant.0 c.loop-document.invariant.1 c.in-Some.is in (
      same_tree c.next.ensures.steps c.loop-document.invariant.0 c.loop-document.invariant.1,
      same_end c.next.ensures.steps c.loop-document.invariant.0 c.loop-document.invariant.1,
      c.loop-document.invariant.2,
      λ after r. let P : ℕ → Type 0 = λ n. Reaches c.args.tree.now n c.args.end c.args.standing.now c.args.read.now c.args.set.now c.loop-document.grew
          c.loop-document.next
          after r in
          λ h. c.loop-document.invariant.3 after r
          (back O P P
          (reach_past c.args.tree.now c.in-Some.document.at c.args.end c.args.standing.now c.args.read.now c.args.set.now c.loop-document.grew
          c.loop-document.next O.inside O.next c.field-file.ensures
          (sym c.if-unread.false ∙ c.unread.ensures)) h),
    )

pub returns : goal.returns
returns c =
    c.loop-document.invariant.3 _ _ (reach_end c.args.tree.now c.loop-document.document-iterator.at c.args.end c.args.standing.now c.args.read.now
    c.args.set.now c.loop-document.grew
    c.loop-document.next (past c.next.ensures.steps c.loop-document.invariant.0 c.loop-document.invariant.1 c.in-None.is))
