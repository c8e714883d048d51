-- `book_compiler::driver::run` meets its contract: sets of 16,384 words have a bit for every file number. Assumes nothing.
use Rattle.compiler_laws.proofs.RowsBeforeWork.{fresh_zeros}
use Rattle.book_compiler.proofs.driver.run.Goals as goal

pub run_with-requires-2-clause-fresh : goal.run_with-requires-2-clause-fresh
run_with-requires-2-clause-fresh c = fresh_zeros c.args.tree.now 16384 (λ ds b. b.numbers)
