-- `book_compiler::models::place_model` meets its contract: with the mark set, and without. Assumes nothing.
use Rattle.book_compiler.proofs.ModelDefinitions.{place_full, place_model_lem}
use Rattle.book_compiler.proofs.models.place_model.Goals as goal

pub returns-then-book-ne0 : goal.returns-then-book-ne0
returns-then-book-ne0 c = place_full c.if-book-ne0.true

pub returns : goal.returns
returns c =
    place_model_lem c.if-book-ne0.false c.take_model.ensures c.add_constant-place.ensures c.define_local-found.ensures c.set_value.ensures
