-- `book_compiler::models::find_model_index_by_local_name` meets its contract: with the mark set, without a local of the name, with one that is no
-- model, and with a model. Assumes nothing.
use Rattle.book_compiler.proofs.ApplyDefinitions.{find_full, find_lost, find_other, find_there}
use Rattle.book_compiler.proofs.models.find_model_index_by_local_name.Goals as goal

pub returns-then-book-ne0 : goal.returns-then-book-ne0
returns-then-book-ne0 c = find_full c.if-book-ne0.true

pub returns-in-Some-model : goal.returns-in-Some-model
returns-in-Some-model c =
    find_there c.if-book-ne0.false c.field-name.ensures c.find_context_local-local.ensures c.in-Some.is c.find_local_model-model.ensures
    c.in-Some-model.is

pub returns-in-Some : goal.returns-in-Some
returns-in-Some c =
    find_other c.if-book-ne0.false c.field-name.ensures c.find_context_local-local.ensures c.in-Some.is c.find_local_model-model.ensures
    c.in_default-model.is
    c.push_error.ensures

pub returns : goal.returns
returns c =
    find_lost c.if-book-ne0.false c.field-name.ensures c.find_context_local-local.ensures c.in_default.is
    c.push_error-2.ensures
