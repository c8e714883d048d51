-- `book_compiler::functions::implement_function` meets its contract: the function, whether an instance's or not, is added. Assumes nothing.
use Rattle.book_compiler.proofs.ImplementDefinitions.{function_implemented}
use Rattle.book_compiler.proofs.functions.implement_function.Goals as goal

pub returns : goal.returns
returns c =
    function_implemented c.make-state.ensures c.field-name.ensures c.add_function.ensures
