-- `book_compiler::solver::narrow_includes` meets its contract. The invariant: what is answered from here is answered from the start. Assumes nothing.
use Rattle.std.proofs.Common.{ℕ}
use Rattle.compiler_laws.specs.SolverSteps.{NarrowIncludes}
use Rattle.compiler_laws.proofs.DocumentsRead.{narrow_defs_end, narrow_defs_other, narrow_defs_more}
use Rattle.book_compiler.proofs.Subtrees.{same_tree, same_end, over, past, back}
use Rattle.book_compiler.proofs.solver.narrow_includes.Goals as goal

pub loop-definition-preserved-else-file-ge-NARROW : goal.loop-definition-preserved-else-file-ge-NARROW
loop-definition-preserved-else-file-ge-NARROW c =
    let O = over c.next.ensures.steps c.loop-definition.invariant.0 c.loop-definition.invariant.1 c.in-Some.is in (
      same_tree c.next.ensures.steps c.loop-definition.invariant.0 c.loop-definition.invariant.1,
      same_end c.next.ensures.steps c.loop-definition.invariant.0 c.loop-definition.invariant.1,
      λ r. let P : ℕ → Type 0 = λ n. NarrowIncludes c.args.tree.now n c.args.end r in
          λ h. c.loop-definition.invariant.2 r (back O P P
          (narrow_defs_more c.args.tree.now c.in-Some.definition.at c.args.end O.inside c.field-kind.ensures c.if-kind-eq-INCLUDE_DEFINITION.true
          c.field-file.ensures c.if-file-ge-NARROW.false O.next) h),
    )

pub loop-definition-preserved : goal.loop-definition-preserved
loop-definition-preserved c =
    let O = over c.next.ensures.steps c.loop-definition.invariant.0 c.loop-definition.invariant.1 c.in-Some.is in (
      same_tree c.next.ensures.steps c.loop-definition.invariant.0 c.loop-definition.invariant.1,
      same_end c.next.ensures.steps c.loop-definition.invariant.0 c.loop-definition.invariant.1,
      λ r. let P : ℕ → Type 0 = λ n. NarrowIncludes c.args.tree.now n c.args.end r in
          λ h. c.loop-definition.invariant.2 r (back O P P
          (narrow_defs_other c.args.tree.now c.in-Some.definition.at c.args.end O.inside c.field-kind.ensures c.if-kind-eq-INCLUDE_DEFINITION.false
          O.next) h),
    )

pub returns : goal.returns
returns c = c.loop-definition.invariant.2 _ (narrow_defs_end c.args.tree.now c.loop-definition.definition-iterator.at c.args.end
    (past c.next.ensures.steps c.loop-definition.invariant.0 c.loop-definition.invariant.1 c.in-None.is))
