-- `book_compiler::functions::drop_instance` meets its contract: the code is given back, and the error pushed. Assumes nothing.
use Rattle.book_compiler.proofs.MakingFunctions.{drop_meets}
use Rattle.book_compiler.proofs.functions.drop_instance.Goals as goal

pub returns : goal.returns
returns c =
    drop_meets c.drop_function.ensures c.resume.ensures c.push_error.ensures
