-- `book_compiler::solver::add_includes` meets its contract. The invariant: what is added from here is added from the start. Assumes nothing.
use Rattle.std.proofs.Common.{◌≡◌, ℕ, true, false, cond, ◌||◌, refl, ◌∙◌}
use Rattle.compiler_laws.specs.SolverSteps.{Includes}
use Rattle.compiler_laws.proofs.DocumentsRead.{includes_end, includes_other, includes_more}
use Rattle.book_compiler.proofs.Subtrees.{same_tree, same_end, over, past, back}
use Rattle.book_compiler.proofs.solver.add_includes.Goals as goal

pub loop-definition-preserved-then-kind-eq-INCLUDE_DEFINITION : goal.loop-definition-preserved-then-kind-eq-INCLUDE_DEFINITION
loop-definition-preserved-then-kind-eq-INCLUDE_DEFINITION c =
    let O = over c.next.ensures.steps c.loop-definition.invariant.0 c.loop-definition.invariant.1 c.in-Some.is in (
      same_tree c.next.ensures.steps c.loop-definition.invariant.0 c.loop-definition.invariant.1,
      same_end c.next.ensures.steps c.loop-definition.invariant.0 c.loop-definition.invariant.1,
      c.add_absent-grew.auto.set ∙ c.loop-definition.invariant.2,
      λ after r h. c.loop-definition.invariant.3 after r
          (back O (λ (n : ℕ). Includes c.args.tree.now n c.args.end c.args.standing.now c.loop-definition.grew c.loop-definition.set after r)
          (λ (n : ℕ). Includes c.args.tree.now n c.args.end c.args.standing.now (c.loop-definition.grew || c.add_absent-grew.result)
          c.add_absent-grew.new.set after r)
          (includes_more c.args.tree.now c.in-Some.definition.at c.args.end c.args.standing.now c.loop-definition.grew c.loop-definition.set O.inside
          c.field-kind.ensures c.if-kind-eq-INCLUDE_DEFINITION.true
          c.field-file.ensures c.add_absent-grew.ensures O.next
          (elim c.loop-definition.grew as (λ t. t || c.add_absent-grew.result ≡ cond t true c.add_absent-grew.result) [ true ↦ refl | false ↦ refl ])) h),
    )

pub loop-definition-preserved : goal.loop-definition-preserved
loop-definition-preserved c =
    let O = over c.next.ensures.steps c.loop-definition.invariant.0 c.loop-definition.invariant.1 c.in-Some.is in (
      same_tree c.next.ensures.steps c.loop-definition.invariant.0 c.loop-definition.invariant.1,
      same_end c.next.ensures.steps c.loop-definition.invariant.0 c.loop-definition.invariant.1,
      c.loop-definition.invariant.2,
      λ after r. let P : ℕ → Type 0 = λ n. Includes c.args.tree.now n c.args.end c.args.standing.now c.loop-definition.grew c.loop-definition.set after r in
          λ h. c.loop-definition.invariant.3 after r
          (back O P P
          (includes_other c.args.tree.now c.in-Some.definition.at c.args.end c.args.standing.now c.loop-definition.grew c.loop-definition.set O.inside
          c.field-kind.ensures c.if-kind-eq-INCLUDE_DEFINITION.false O.next) h),
    )

pub returns : goal.returns
returns c =
    c.loop-definition.invariant.3 _ _ (includes_end c.args.tree.now c.loop-definition.definition-iterator.at c.args.end c.args.standing.now
    c.loop-definition.grew c.loop-definition.set (past c.next.ensures.steps c.loop-definition.invariant.0 c.loop-definition.invariant.1 c.in-None.is))
