-- `book_compiler::solver::take_books` meets its contract. The invariant: what is taken from here is taken from the start. Assumes nothing.
use Rattle.std.proofs.Common.{ℕ, ◌∙◌, subst, arith}
use Rattle.building.specs.Taking.{taken}
use Rattle.compiler_laws.proofs.WaitingBooks.{TakesFrom, takes_full, takes_none, takes_more, takes_whole, skips_on}
use Rattle.book_compiler.proofs.SetMembers.{same_set, next_some, next_none, on_size}
use Rattle.book_compiler.proofs.solver.take_books.Goals as goal

pub returns-then-full-ne0 : goal.returns-then-full-ne0
returns-then-full-ne0 c =
    takes_whole c.args.tree.now c.args.end c.args.needed.now c.args.full c.args.stand c.args.books.now
    (takes_full c.args.tree.now c.args.end c.args.needed.now 0 (taken c.args.full c.args.stand) c.args.books.now
    c.if-full-ne0.true)

pub returns-then-t-ne0 : goal.returns-then-t-ne0
returns-then-t-ne0 c =
    let N = next_some c.next.ensures.steps c.loop-file.invariant.1 c.loop-file.invariant.2 c.in-Some.is in
    takes_whole c.args.tree.now c.args.end c.args.needed.now c.args.full c.args.stand c.args.books.now
    (c.loop-file.invariant.4 _ _
    (takes_more c.args.tree.now c.args.end c.args.needed.now c.loop-file.file-iterator.from c.loop-file.t c.loop-file.books
    N (c.next.ensures.steps.inside _ c.in-Some.is)
    (c.find_document-place.ensures.finds (skips_on N.on c.loop-file.invariant.3))
    c.take.ensures
    (takes_full c.args.tree.now c.args.end c.args.needed.now _ (taken c.take.new.full c.take.new.count) c.take.new.area
    c.if-t-ne0.true)))

pub find_document-place-requires : goal.find_document-place-requires
find_document-place-requires c = c.next.ensures.steps.inside _ c.in-Some.is

pub overflow_mul-file : goal.overflow_mul-file
overflow_mul-file c = omega (arith, c.next.ensures.steps.inside _ c.in-Some.is)

pub overflow_add-file : goal.overflow_add-file
overflow_add-file c =
    let N = next_some c.next.ensures.steps c.loop-file.invariant.1 c.loop-file.invariant.2 c.in-Some.is in
    omega (
      arith,
      c.next.ensures.steps.inside _ c.in-Some.is,
      (c.find_document-place.ensures.finds (skips_on N.on c.loop-file.invariant.3)).inside,
      c.requires,
    )

pub loop-file-preserved : goal.loop-file-preserved
loop-file-preserved c =
    let N = next_some c.next.ensures.steps c.loop-file.invariant.1 c.loop-file.invariant.2 c.in-Some.is in
    let goes = c.next.ensures.steps.goes _ c.in-Some.is in (
      c.take.auto.area ∙ c.loop-file.invariant.0,
      same_set c.next.ensures.steps c.loop-file.invariant.1 c.loop-file.invariant.2,
      on_size c.next.ensures.steps c.loop-file.invariant.1 c.loop-file.invariant.2 c.in-Some.is,
      skips_on (omega (arith, goes)) (c.find_document-place.ensures.skips (skips_on N.on c.loop-file.invariant.3)),
      λ r after h. c.loop-file.invariant.4 r after
          (takes_more c.args.tree.now c.args.end c.args.needed.now c.loop-file.file-iterator.from c.loop-file.t c.loop-file.books
          N (c.next.ensures.steps.inside _ c.in-Some.is)
          (c.find_document-place.ensures.finds (skips_on N.on c.loop-file.invariant.3))
          c.take.ensures (subst (λ (k : ℕ). TakesFrom c.args.tree.now c.args.end c.args.needed.now k
          (taken c.take.new.full c.take.new.count) c.take.new.area r after) goes h)),
    )

pub returns : goal.returns
returns c =
    takes_whole c.args.tree.now c.args.end c.args.needed.now c.args.full c.args.stand c.args.books.now
    (c.loop-file.invariant.4 _ _
    (takes_none c.args.tree.now c.args.end c.args.needed.now c.loop-file.file-iterator.from c.loop-file.t c.loop-file.books
    (next_none c.next.ensures.steps c.loop-file.invariant.1 c.loop-file.invariant.2 c.in-None.is) (omega arith)))
