-- `book_compiler::solver::move_to_front` meets its contract. The invariant: what is brought from here is brought from the start. Assumes nothing.
use Rattle.std.proofs.Common.{◌≡◌, ◌+◌, ◌-◌, ℕ, refl, subst, ◌∙◌, arith}
use Rattle.words.specs.Areas.{Patched}
use Rattle.compiler_laws.proofs.WaitingBooks.{bring_end, bring_more}
use Rattle.book_compiler.proofs.solver.move_to_front.Goals as goal

pub loop-i-preserved : goal.loop-i-preserved
loop-i-preserved c = (
  c.write_word.auto.area ∙ c.loop-i.invariant.0,
  λ after h. c.loop-i.invariant.1 after
      (bring_more c.loop-i.books c.args.done c.loop-i.i c.args.file c.loop-i-test.true refl c.entry_word-before.ensures
      (let next : c.loop-i.i - 1 + 1 ≡ c.loop-i.i = omega (arith, c.loop-i-test.true) in
      subst (λ (n : ℕ). Patched 1 n 0 c.entry_word-before.result c.loop-i.books c.write_word.new.area c.write_word.result) next c.write_word.ensures) h),
)

pub returns : goal.returns
returns c =
    c.loop-i.invariant.1 _ (bring_end c.loop-i.books c.args.done c.loop-i.i c.args.file c.loop-i-test.false
    c.write_word-2.ensures)
