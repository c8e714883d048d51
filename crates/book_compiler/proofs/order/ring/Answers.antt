-- `book_compiler::order::ring` meets its contract. The invariant: what is rung from here is rung from the start. Assumes nothing.
use Rattle.book_compiler.proofs.BookRounds.{ring_done, ring_on}
use Rattle.std.proofs.Common.{◌∙◌}
use Rattle.book_compiler.proofs.order.ring.Goals as goal

pub loop-k-preserved : goal.loop-k-preserved
loop-k-preserved c = (
  c.push_ring_error-t.auto.memory ∙ c.loop-k.invariant.0,
  λ r after h. c.loop-k.invariant.1 r after (ring_on c.loop-k-test.true c.book_word-word.ensures
      c.push_ring_error-t.ensures h),
)

pub returns : goal.returns
returns c = c.loop-k.invariant.1 _ _ (ring_done c.loop-k-test.false)
