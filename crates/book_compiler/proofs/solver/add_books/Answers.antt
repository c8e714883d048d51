-- `book_compiler::solver::add_books` meets its contract. The invariant: what is added from here is added from the start. Assumes nothing.
use Rattle.std.proofs.Common.{◌∙◌}
use Rattle.compiler_laws.proofs.StandingNumbers.{adds_numbers}
use Rattle.book_compiler.proofs.StandingBooks.{add_next, add_end}
use Rattle.book_compiler.proofs.solver.add_books.Goals as goal

pub loop-book-preserved : goal.loop-book-preserved
loop-book-preserved c = (
  c.add.auto.set ∙ c.loop-book.invariant.0,
  λ after h. c.loop-book.invariant.1 after (add_next c.args.books.now c.loop-book.book-index c.loop-book-test.true c.loop-book.set c.add.ensures.words h),
)

pub returns : goal.returns
returns c =
    adds_numbers c.args.books.now c.args.set.now
    (c.loop-book.invariant.1 _ (add_end c.args.books.now c.loop-book.book-index c.loop-book-test.false c.loop-book.set))
