-- `book_compiler::functions::add_plain` meets its contract: the entry point, and any other function. Assumes nothing.
use Rattle.std.proofs.Common.{refl}
use Rattle.book_compiler.proofs.MakingFunctions.{plain_main, plain_other}
use Rattle.book_compiler.proofs.functions.add_plain.Goals as goal

pub returns-then-name-eq-MAIN : goal.returns-then-name-eq-MAIN
returns-then-name-eq-MAIN c =
    plain_main refl c.add_function.ensures c.add_constant-place.ensures c.set_value.ensures c.if-name-eq-MAIN.true

pub returns-else-name-eq-MAIN : goal.returns-else-name-eq-MAIN
returns-else-name-eq-MAIN c =
    plain_other refl c.add_function.ensures c.add_constant-place.ensures c.set_value.ensures c.if-name-eq-MAIN.false
