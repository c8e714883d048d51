-- `book_compiler::methods::copy_entry` meets its contract: with the mark set, with another model's method, and with one of the source. Assumes nothing.
use Rattle.book_compiler.proofs.NotedMethods.{copies_full, copies_other, copies_one}
use Rattle.book_compiler.proofs.methods.copy_entry.Goals as goal

pub returns-then-book-ne0 : goal.returns-then-book-ne0
returns-then-book-ne0 c = copies_full c.if-book-ne0.true

pub returns-then-model-source : goal.returns-then-model-source
returns-then-model-source c = copies_other c.if-book-ne0.false c.method_model-model.ensures c.if-model-source.true

pub returns : goal.returns
returns c =
    copies_one c.if-book-ne0.false c.method_model-model.ensures c.if-model-source.false c.method_name-name.ensures c.method_function-function.ensures
    c.insert_entry.ensures
