-- `book_compiler::grown::run_onto` meets its contract: sets of 16,384 words have a bit for every file number. Assumes nothing.
use Rattle.compiler_laws.proofs.RowsBeforeWork.{fresh_zeros}
use Rattle.book_compiler.proofs.OntoMemory.{books_below}
use Rattle.book_compiler.proofs.grown.run_onto.Goals as goal

pub run_onto_with-requires-2-clause-fresh : goal.run_onto_with-requires-2-clause-fresh
run_onto_with-requires-2-clause-fresh c = fresh_zeros c.args.tree.now 16384 (λ ds b. b.numbers)

pub run_onto_with-requires-2-clause-below : goal.run_onto_with-requires-2-clause-below
run_onto_with-requires-2-clause-below c = books_below c.args.standing c.args.starts.now c.args.memory.now
