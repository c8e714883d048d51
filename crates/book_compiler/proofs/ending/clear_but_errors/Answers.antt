-- `book_compiler::ending::clear_but_errors` meets its contract. The invariant: the parts so far are zeros, but for the errors. Assumes nothing.
use Rattle.std.proofs.Common.{◌∙◌}
use Rattle.book_compiler.proofs.PartsInTurn.{change_more}
use Rattle.book_compiler.proofs.BookEnding.{clear_end}
use Rattle.book_compiler.proofs.ending.clear_but_errors.Goals as goal

pub loop-i-preserved : goal.loop-i-preserved
loop-i-preserved c = (
  c.clear_part.auto.memory ∙ c.loop-i.invariant.0,
  change_more c.loop-i-test.true c.loop-i.invariant.1
      c.clear_part.ensures c.clear_part.auto.memory,
)

pub returns : goal.returns
returns c = clear_end c.loop-i-test.false c.loop-i.invariant.1
