-- `book_compiler::ending::refused_by` meets its contract. Assumes nothing.
use Rattle.words.specs.Reply.{no_totals}
use Rattle.compiler_laws.proofs.CallEnd.{refused_full, refused_name}
use Rattle.book_compiler.proofs.ending.refused_by.Goals as goal

pub returns-then-full-lt-FIRST_NOT_PUBLIC : goal.returns-then-full-lt-FIRST_NOT_PUBLIC
returns-then-full-lt-FIRST_NOT_PUBLIC c = refused_full no_totals c.if-full-lt-FIRST_NOT_PUBLIC.true (rw c.at.ensures at c.refused_at.ensures)

pub returns : goal.returns
returns c = refused_name no_totals c.if-full-lt-FIRST_NOT_PUBLIC.false (rw c.at-2.ensures at c.refused_at-2.ensures)
