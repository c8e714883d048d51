-- `book_compiler::includes::all_public` meets its contract. The invariant: what is answered of the pairs from here on is answered of all. Assumes nothing.
use Rattle.compiler_laws.specs.IncludeSteps.{AsksNames}
use Rattle.compiler_laws.proofs.IncludedNames.{asks_end, asks_more, asks_lost}
use Rattle.std.proofs.Common.{ℕ, ◌+◌, false}
use mathlib.Core.Option.{some}
use Rattle.book_compiler.proofs.Subtrees.{same_last, two, no_two, back_two, before_two}
use Rattle.book_compiler.proofs.includes.all_public.Goals as goal

pub returns-then-not-is_public : goal.returns-then-not-is_public
returns-then-not-is_public c =
    let O = two c.next.ensures.steps c.loop-place.invariant.0 c.in-Some.is in
    c.loop-place.invariant.1 _
    (before_two O (λ (n : ℕ). AsksNames c.args.tree.now n c.args.end (some c.args.book) c.args.count c.args.publics.now false)
    (asks_lost c.args.tree.now c.in-Some.place c.args.end c.args.count (some c.args.book) c.args.publics.now O.inside
    c.field-name.ensures c.is_public.ensures c.if-not-is_public.true))

pub loop-place-preserved : goal.loop-place-preserved
loop-place-preserved c =
    let O = two c.next.ensures.steps c.loop-place.invariant.0 c.in-Some.is in (
      same_last c.next.ensures.steps c.loop-place.invariant.0,
      λ r. let P : ℕ → Type 0 = λ n. AsksNames c.args.tree.now n c.args.end (some c.args.book) c.args.count c.args.publics.now r in
          λ h. c.loop-place.invariant.1 r (back_two O P P
          (asks_more c.args.tree.now c.in-Some.place c.args.end c.args.count (some c.args.book) c.args.publics.now O.inside
          c.field-name.ensures c.is_public.ensures c.if-not-is_public.false) h),
    )

pub returns : goal.returns
returns c =
    c.loop-place.invariant.1 _ (asks_end c.args.tree.now (c.loop-place.place-iterator.at + 1) c.args.end c.args.count (some c.args.book)
    c.args.publics.now (no_two c.next.ensures.steps c.loop-place.invariant.0 c.in-None.is))
