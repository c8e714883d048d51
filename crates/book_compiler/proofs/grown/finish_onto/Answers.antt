-- `book_compiler::grown::finish_onto` meets its contract: an area too short, errors, other totals than the trial's, a trial, and a delivery that is kept.
-- Assumes nothing.
use Rattle.book_compiler.proofs.OntoEnding.{finish_onto_full, finish_onto_row, finish_onto_differs, finish_onto_tried, finish_onto_kept}
use Rattle.book_compiler.proofs.Rows.{never_zero}
use Rattle.std.proofs.Common.{refl}
use Rattle.book_compiler.proofs.grown.finish_onto.Goals as goal

pub returns-then-full-ne0 : goal.returns-then-full-ne0
returns-then-full-ne0 c =
    finish_onto_full c.if-full-ne0.true c.undo.ensures c.mark_refused.ensures

pub returns-in-Err : goal.returns-in-Err
returns-in-Err c =
    rw c.in-Err.is (finish_onto_row c.if-full-ne0.false (never_zero _) c.give_back.ensures c.refused_with.ensures)

pub returns-then-differs : goal.returns-then-differs
returns-then-differs c =
    rw c.in-Ok.is
    (finish_onto_differs c.if-full-ne0.false refl c.count_global_dependencies-marked.ensures (rw c.delivered-tried.ensures at c.differs.ensures)
    c.if-differs.true
    c.undo-then-differs.ensures (rw c.at.ensures at c.refused_with-then-differs.ensures))

pub returns-then-is_trial : goal.returns-then-is_trial
returns-then-is_trial c =
    rw c.in-Ok.is
    (finish_onto_tried c.if-full-ne0.false refl c.count_global_dependencies-marked.ensures (rw c.delivered-tried.ensures at c.differs.ensures)
    c.if-differs.false
    c.is_trial.ensures c.if-is_trial.true c.undo-then-is_trial.ensures c.delivered-tried.ensures)

pub returns : goal.returns
returns c =
    rw c.in-Ok.is
    (finish_onto_kept c.if-full-ne0.false refl c.count_global_dependencies-marked.ensures (rw c.delivered-tried.ensures at c.differs.ensures)
    c.if-differs.false
    c.is_trial.ensures c.if-is_trial.false c.settle.ensures c.delivered.ensures)
