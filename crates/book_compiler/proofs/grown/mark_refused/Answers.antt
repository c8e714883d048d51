-- `book_compiler::grown::mark_refused` meets its contract. Assumes nothing.
use Rattle.compiler_laws.proofs.CallEnd.{refused_full, refused_name}
use Rattle.book_compiler.proofs.grown.mark_refused.Goals as goal

pub returns-then-full-lt-FIRST_NOT_PUBLIC : goal.returns-then-full-lt-FIRST_NOT_PUBLIC
returns-then-full-lt-FIRST_NOT_PUBLIC c = refused_full c.args.standing c.if-full-lt-FIRST_NOT_PUBLIC.true (rw c.at.ensures at c.refused_with.ensures)

pub returns : goal.returns
returns c = refused_name c.args.standing c.if-full-lt-FIRST_NOT_PUBLIC.false (rw c.at-2.ensures at c.refused_with-2.ensures)
