-- `book_compiler::models::compile_model_definition` meets its contract: the properties, and then the model. Assumes nothing.
use Rattle.book_compiler.proofs.ModelDefinitions.{model_short, model_defined}
use Rattle.book_compiler.proofs.models.compile_model_definition.Goals as goal

pub returns-then-end-at : goal.returns-then-end-at
returns-then-end-at c = model_short c.if-end-at.true

pub returns : goal.returns
returns c =
    model_defined c.add_properties.ensures c.field-name.ensures c.place_model.ensures
