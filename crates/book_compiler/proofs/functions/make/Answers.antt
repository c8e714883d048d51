-- `book_compiler::functions::make` meets its contract: with the mark set, and a function from its begin to its end. Assumes nothing.
use Rattle.book_compiler.proofs.MakingFunctions.{make_full, make_meets}
use Rattle.book_compiler.proofs.functions.make.Goals as goal

pub returns-then-book-ne0 : goal.returns-then-book-ne0
returns-then-book-ne0 c = make_full c.working-state.ensures c.if-book-ne0.true

pub returns : goal.returns
returns c =
    make_meets c.working-state.ensures c.if-book-ne0.false c.compile_function_definition_base.ensures
    c.end_function.ensures
