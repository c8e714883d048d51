-- `book_compiler::lent::lend_with` meets its contract: where the starts fit, the part is what is lent. Assumes nothing.
use Rattle.std.proofs.Common.{refl}
use Rattle.book_compiler.proofs.Lending.{uncut, put_between}
use Rattle.book_compiler.proofs.lent.lend_with.Goals as goal

pub returns-clause-lends : goal.returns-clause-lends
returns-clause-lends g c = record {
  on = λ f. put_between {i = c.args.number} c.args.starts.now c.args.memory.now c.step.new.arg2
      (uncut f c.requires.numbered c.min-end.ensures c.min-start.ensures)
      (record { shown = _; shows = refl; beside = _; stands = refl; left = _; after = _; met = c.step.ensures; leaves = refl; becomes = refl })
      c.step.auto.arg2;
}

pub returns-clause-answers : goal.returns-clause-answers
returns-clause-answers g c =
    (_, _, record { shown = _; shows = refl; beside = _; stands = refl; left = _; after = _; met = c.step.ensures; leaves = refl; becomes = refl })
