-- `book_compiler::locals::add_value` meets its contract: the number that was answered is the definition's where nothing is full. Assumes nothing.
use Rattle.book_compiler.proofs.LocalDefinitions.{adds_value}
use Rattle.book_compiler.proofs.locals.add_value.Goals as goal

pub returns : goal.returns
returns c =
    adds_value c.args.kind c.args.value c.add_constant-place.ensures c.set_value.ensures
