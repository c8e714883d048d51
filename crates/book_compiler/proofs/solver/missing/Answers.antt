-- `book_compiler::solver::missing` meets its contract. The invariant: what is missing from here is missing from the start. Assumes nothing.
use Rattle.std.proofs.Common.{ℕ, sym, ◌∙◌, subst, arith}
use Rattle.compiler_laws.proofs.DocumentsRead.{MissesFrom, misses_here, misses_more, misses_none, misses_whole}
use Rattle.book_compiler.proofs.SetMembers.{same_set, next_some, next_none, on_size}
use Rattle.book_compiler.proofs.solver.missing.Goals as goal

pub returns-then-not-has : goal.returns-then-not-has
returns-then-not-has c =
    misses_whole c.args.needed.now c.args.present.now
    (c.loop-file.invariant.2 _ (misses_here c.args.needed.now c.args.present.now c.loop-file.file-iterator.from
    (next_some c.next.ensures.steps c.loop-file.invariant.0 c.loop-file.invariant.1 c.in-Some.is)
    (c.next.ensures.steps.inside _ c.in-Some.is) (sym c.if-not-has.true ∙ c.has.ensures)))

pub loop-file-preserved : goal.loop-file-preserved
loop-file-preserved c = (
  same_set c.next.ensures.steps c.loop-file.invariant.0 c.loop-file.invariant.1,
  on_size c.next.ensures.steps c.loop-file.invariant.0 c.loop-file.invariant.1 c.in-Some.is,
  λ r h. c.loop-file.invariant.2 r (misses_more c.args.needed.now c.args.present.now c.loop-file.file-iterator.from
      (next_some c.next.ensures.steps c.loop-file.invariant.0 c.loop-file.invariant.1 c.in-Some.is)
      (c.next.ensures.steps.inside _ c.in-Some.is) (sym c.if-not-has.false ∙ c.has.ensures)
      (subst (λ (k : ℕ). MissesFrom c.args.needed.now c.args.present.now k r) (c.next.ensures.steps.goes _ c.in-Some.is) h)),
)

pub returns : goal.returns
returns c =
    misses_whole c.args.needed.now c.args.present.now
    (c.loop-file.invariant.2 _ (misses_none c.args.needed.now c.args.present.now c.loop-file.file-iterator.from
    (next_none c.next.ensures.steps c.loop-file.invariant.0 c.loop-file.invariant.1 c.in-None.is) (omega arith)))
