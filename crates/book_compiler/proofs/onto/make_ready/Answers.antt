-- `book_compiler::onto::make_ready` meets its contract: parts 11, 2, 6 and 13, one after the other. Assumes nothing.
use Rattle.std.proofs.Common.{◌∙◌}
use Rattle.book_compiler.proofs.OntoParts.{made_ready}
use Rattle.book_compiler.proofs.onto.make_ready.Goals as goal

pub shape_of-memory : goal.shape_of-memory
shape_of-memory c =
    c.fill_slots.auto.memory ∙ c.note_methods.auto.memory ∙ c.note_constants.auto.memory ∙ c.clear_errors.auto.memory

pub returns : goal.returns
returns c =
    made_ready c.args.standing c.clear_errors.ensures c.note_constants.ensures c.note_methods.ensures
    c.fill_slots.ensures
