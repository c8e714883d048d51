-- `book_compiler::ending::count_marked` meets its contract. The invariant: what is counted from here is counted from the start. Assumes nothing.
use Rattle.compiler_laws.proofs.CallEnd.{mark_small}
use Rattle.book_compiler.proofs.BookEnding.{marked_one}
use Rattle.std.proofs.Common.{arith}
use Rattle.book_compiler.proofs.ending.count_marked.Goals as goal

pub loop-i-preserved : goal.loop-i-preserved
loop-i-preserved c = (
  omega (arith, c.loop-i.invariant.0, mark_small c.entry_word-word.result c.one_if-n.ensures),
  λ r h. c.loop-i.invariant.1 r (marked_one _ c.loop-i-test.true c.entry_word-word.ensures
      c.one_if-n.ensures h),
)
