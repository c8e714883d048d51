-- `book_compiler::ending::finish` meets its contract: an area too short, errors, and a delivery. Assumes nothing.
use Rattle.book_compiler.proofs.BookEnding.{finish_full, finish_row, finish_whole}
use Rattle.book_compiler.proofs.Rows.{never_zero}
use Rattle.std.proofs.Common.{refl}
use Rattle.book_compiler.proofs.ending.finish.Goals as goal

pub returns-then-full-ne0 : goal.returns-then-full-ne0
returns-then-full-ne0 c =
    finish_full c.if-full-ne0.true c.clear_from.ensures c.refused_by.ensures

pub returns-in-Err : goal.returns-in-Err
returns-in-Err c =
    rw c.in-Err.is (finish_row c.if-full-ne0.false (never_zero _) c.clear_but_errors.ensures c.refused_at.ensures)

pub returns-in-Ok : goal.returns-in-Ok
returns-in-Ok c =
    rw c.in-Ok.is (finish_whole c.if-full-ne0.false refl c.settle.ensures c.count_global_dependencies-marked.ensures c.delivered.ensures)
