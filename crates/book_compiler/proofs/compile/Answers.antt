-- `book_compiler::compile` meets its contract: zeros everywhere, and the call from them. Assumes nothing.
use Rattle.book_compiler.proofs.BookEnding.{compile_into}
use Rattle.std.proofs.Common.{◌∙◌, rules}
use Rattle.book_compiler.proofs.compile.Goals as goal

pub shape_of-memory : goal.shape_of-memory
shape_of-memory c =
    c.run.auto.memory ∙ c.clear_from.auto.area

pub returns : goal.returns
returns c =
    compile_into c.args.lengths c.args.memory.now (search rules) c.starts_of-starts.ensures c.clear_from.ensures c.clear_from.auto.area
    (c.run.auto.memory ∙ c.clear_from.auto.area) c.run.ensures
