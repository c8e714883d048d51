-- `book_compiler::solver::first_uncompiled` meets its contract. The invariant: the includes that were passed are compiled. Assumes nothing.
use Rattle.std.proofs.Common.{◌≤◌, ◌≡◌, ℕ, max, sym, ◌∙◌, subst, arith}
use Rattle.std.proofs.Math.Nat.{le-max_left, le-max_right}
use borrow.Author.Tests.{not-true, not-false}
use mathlib.Core.Path.{ap}
use mathlib.Core.Bool.{not}
use Rattle.compiler_laws.specs.SolverSteps.{ReadTo}
use Rattle.compiler_laws.proofs.Tokens.{skip_more}
use Rattle.compiler_laws.proofs.WaitingBooks.{read_other, read_include, uncompiled_end, uncompiled_here}
use Rattle.book_compiler.proofs.Subtrees.{same_tree, same_end, over, past}
use Rattle.book_compiler.proofs.solver.first_uncompiled.Goals as goal

pub returns-then-not-has-clause-finds : goal.returns-then-not-has-clause-finds
returns-then-not-has-clause-finds c =
    let O = over c.next.ensures.steps c.loop-definition.invariant.0 c.loop-definition.invariant.1 c.in-Some.is in
    uncompiled_here c.args.tree.now c.args.at c.in-Some.definition.at c.args.end c.args.compiled.now
    (subst (λ (n : ℕ). ReadTo c.args.tree.now c.args.at n c.args.end c.args.compiled.now) (sym O.here_is) c.loop-definition.invariant.4)
    O.inside c.field-kind.ensures c.if-kind-eq-INCLUDE_DEFINITION.true c.field-file.ensures
    (sym (not-true _ (ap not c.if-not-has.true)) ∙ c.has.ensures) (omega (arith, O.here_is, c.loop-definition.invariant.2))

pub loop-definition-preserved-else-not-has : goal.loop-definition-preserved-else-not-has
loop-definition-preserved-else-not-has c =
    let O = over c.next.ensures.steps c.loop-definition.invariant.0 c.loop-definition.invariant.1 c.in-Some.is in
    let on = skip_more c.args.tree.now c.in-Some.definition.at c.args.end O.inside O.next in (
      same_tree c.next.ensures.steps c.loop-definition.invariant.0 c.loop-definition.invariant.1,
      same_end c.next.ensures.steps c.loop-definition.invariant.0 c.loop-definition.invariant.1,
      omega (arith, on, O.here_is, O.goes_is, c.loop-definition.invariant.2),
      omega (arith, on, O.goes_is, le-max_right c.args.at c.args.end),
      subst (λ (n : ℕ). ReadTo c.args.tree.now c.args.at n c.args.end c.args.compiled.now) (sym O.goes_is)
          (read_include c.args.tree.now c.args.at c.in-Some.definition.at c.args.end c.args.compiled.now
          (subst (λ (n : ℕ). ReadTo c.args.tree.now c.args.at n c.args.end c.args.compiled.now) (sym O.here_is) c.loop-definition.invariant.4)
          O.inside c.field-kind.ensures c.if-kind-eq-INCLUDE_DEFINITION.true c.field-file.ensures
          (sym (not-false _ (ap not c.if-not-has.false)) ∙ c.has.ensures) O.next),
    )

pub loop-definition-preserved : goal.loop-definition-preserved
loop-definition-preserved c =
    let O = over c.next.ensures.steps c.loop-definition.invariant.0 c.loop-definition.invariant.1 c.in-Some.is in
    let on = skip_more c.args.tree.now c.in-Some.definition.at c.args.end O.inside O.next in (
      same_tree c.next.ensures.steps c.loop-definition.invariant.0 c.loop-definition.invariant.1,
      same_end c.next.ensures.steps c.loop-definition.invariant.0 c.loop-definition.invariant.1,
      omega (arith, on, O.here_is, O.goes_is, c.loop-definition.invariant.2),
      omega (arith, on, O.goes_is, le-max_right c.args.at c.args.end),
      subst (λ (n : ℕ). ReadTo c.args.tree.now c.args.at n c.args.end c.args.compiled.now) (sym O.goes_is)
          (read_other c.args.tree.now c.args.at c.in-Some.definition.at c.args.end c.args.compiled.now
          (subst (λ (n : ℕ). ReadTo c.args.tree.now c.args.at n c.args.end c.args.compiled.now) (sym O.here_is) c.loop-definition.invariant.4)
          O.inside c.field-kind.ensures c.if-kind-eq-INCLUDE_DEFINITION.false O.next),
    )

pub returns-clause-finds : goal.returns-clause-finds
returns-clause-finds c =
    let q : c.args.end ≤ c.loop-definition.definition-iterator.at =
    past c.next.ensures.steps c.loop-definition.invariant.0 c.loop-definition.invariant.1 c.in-None.is in
    let e : c.loop-definition.definition-iterator.at ≡ max c.args.at c.args.end =
    omega (arith, q, c.loop-definition.invariant.2, c.loop-definition.invariant.3) in
    uncompiled_end c.args.tree.now c.args.at (max c.args.at c.args.end) c.args.end c.args.compiled.now
    (subst (λ (n : ℕ). ReadTo c.args.tree.now c.args.at n c.args.end c.args.compiled.now) e c.loop-definition.invariant.4)
    (le-max_right c.args.at c.args.end) (le-max_left c.args.at c.args.end)
