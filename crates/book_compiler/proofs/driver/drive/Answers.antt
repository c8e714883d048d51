-- `book_compiler::driver::drive` meets its contract. The invariant: what finishes from here finishes the whole. Assumes nothing.
use Rattle.compiler_laws.proofs.DefinitionKinds.{unchanged_definition}
use Rattle.book_compiler.proofs.BookRounds.{drive_end, drive_ring, round_full, round_faulty, round_more}
use Rattle.std.proofs.Common.{refl, ◌∙◌, arith}
use Rattle.book_compiler.proofs.driver.drive.Goals as goal

pub loop-done-preserved : goal.loop-done-preserved
loop-done-preserved c = (
  c.if-book-ne0.false,
  c.compile_document.auto.memory ∙ c.next_book.auto.memory ∙ c.loop-done.invariant.1,
  c.add.auto.set ∙ c.loop-done.invariant.2,
  λ m' row place h. c.loop-done.invariant.3 m' row place
      (round_more c.next_book.ensures c.in-Some.is c.skip-last.ensures c.compile_document.ensures unchanged_definition c.if-book-ne0.false
      c.if-book-ne0-2.false c.add.ensures.words h),
)

pub returns-then-book-ne0 : goal.returns-then-book-ne0
returns-then-book-ne0 c =
    c.loop-done.invariant.3 _ 0 _ (round_full c.next_book.ensures c.in-Some.is c.skip-last.ensures
    c.compile_document.ensures unchanged_definition c.if-book-ne0.true 0 _)

pub returns-then-book-ne0-2 : goal.returns-then-book-ne0-2
returns-then-book-ne0-2 c =
    rw c.at-then-book-ne0-2.ensures
    (c.loop-done.invariant.3 _ 7 _ (round_faulty c.next_book.ensures c.in-Some.is c.skip-last.ensures c.compile_document.ensures
    unchanged_definition
    c.if-book-ne0.false c.if-book-ne0-2.true))

pub returns-in_default : goal.returns-in_default
returns-in_default c =
    rw c.at.ensures
    (c.loop-done.invariant.3 _ 8 _ (drive_ring c.loop-done.invariant.0 c.next_book.ensures c.loop-done-test.true c.in_default.is
    c.ring-errors.ensures refl refl
    (omega (arith, c.loop-done-test.true))))

pub returns : goal.returns
returns c = c.loop-done.invariant.3 _ 0 _ (drive_end unchanged_definition c.loop-done-test.false)
