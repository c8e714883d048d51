-- `book_compiler::onto::give_back` meets its contract. The invariant: the parts so far are given back, but for the errors. Assumes nothing.
use Rattle.std.proofs.Common.{◌∙◌}
use Rattle.book_compiler.proofs.OntoParts.{back_more, gave_back}
use Rattle.book_compiler.proofs.onto.give_back.Goals as goal

pub loop-i-preserved : goal.loop-i-preserved
loop-i-preserved c = (
  c.give_back_part.auto.memory ∙ c.loop-i.invariant.0,
  back_more c.args.standing c.loop-i-test.true c.loop-i.invariant.1 c.total_of-total.ensures
      c.give_back_part.ensures c.give_back_part.auto.memory,
)

pub returns : goal.returns
returns c =
    gave_back c.args.standing c.loop-i-test.false c.loop-i.invariant.1 c.clear_slots.ensures
