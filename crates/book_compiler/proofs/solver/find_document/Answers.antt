-- `book_compiler::solver::find_document` meets its contract. The invariant: what is found from here, below the bound, is found from the start. Assumes nothing.
use Rattle.std.proofs.Common.{◌≤◌, ◌≡◌, ℕ, sym, subst, refl, arith}
use Rattle.compiler_laws.proofs.Tokens.{skip_more}
use Rattle.compiler_laws.specs.SolverSteps.{Skips}
use Rattle.compiler_laws.proofs.WaitingBooks.{place_end, place_here, place_more}
use Rattle.book_compiler.proofs.Subtrees.{same_tree, same_end, over, past}
use Rattle.book_compiler.proofs.solver.find_document.Goals as goal

pub loop-document-init : goal.loop-document-init
loop-document-init c =
    rw c.into_iter-document-iterator.ensures.into_iter_gives (
      refl,
      refl,
      c.resumed-start.ensures.below,
      c.resumed-start.ensures.from c.args.tree.now c.args.end,
    )

pub returns-then-there-file : goal.returns-then-there-file
returns-then-there-file c =
    let O = over c.next.ensures.steps c.loop-document.invariant.0 c.loop-document.invariant.1 c.in-Some.is in
    place_here c.args.tree.now c.in-Some.document.at c.args.end c.args.file c.loop-document.invariant.2
    (λ s. subst (λ (n : ℕ). Skips c.args.tree.now c.args.end n c.args.file c.loop-document.above) (sym O.here_is) (c.loop-document.invariant.3 s))
    O.inside c.field-there.ensures c.if-there-file.true

pub loop-document-preserved : goal.loop-document-preserved
loop-document-preserved c =
    let O = over c.next.ensures.steps c.loop-document.invariant.0 c.loop-document.invariant.1 c.in-Some.is in (
      same_tree c.next.ensures.steps c.loop-document.invariant.0 c.loop-document.invariant.1,
      same_end c.next.ensures.steps c.loop-document.invariant.0 c.loop-document.invariant.1,
      c.lower-above.ensures.more c.loop-document.invariant.2,
      λ s. subst (λ (n : ℕ). Skips c.args.tree.now c.args.end n c.args.file c.lower-above.result) (sym O.goes_is)
          (place_more c.args.tree.now c.in-Some.document.at c.args.end c.args.file c.loop-document.invariant.2
          (λ t. subst (λ (n : ℕ). Skips c.args.tree.now c.args.end n c.args.file c.loop-document.above) (sym O.here_is) (c.loop-document.invariant.3 t))
          O.inside c.field-there.ensures c.if-there-file.false c.lower-above.ensures O.next
          (skip_more c.args.tree.now c.in-Some.document.at c.args.end O.inside O.next).1 s),
    )

pub returns : goal.returns
returns c =
    let q : c.args.end ≤ c.loop-document.document-iterator.at = past c.next.ensures.steps c.loop-document.invariant.0 c.loop-document.invariant.1
    c.in-None.is in
    place_end c.args.tree.now c.args.end c.args.end c.args.file c.loop-document.invariant.2
    (λ s. let S = c.loop-document.invariant.3 s in
    let e : c.loop-document.document-iterator.at ≡ c.args.end = omega (arith, q, S.inside) in
    subst (λ (n : ℕ). Skips c.args.tree.now c.args.end n c.args.file c.loop-document.above) e S) (omega arith)
