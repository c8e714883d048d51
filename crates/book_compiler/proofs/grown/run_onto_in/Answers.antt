-- `book_compiler::grown::run_onto_in` meets its contract: refused before the work, or the work and its end. Assumes nothing.
use Rattle.std.proofs.Common.{length, sym, refl, ap, ◌∙◌, subst}
use Rattle.compiler_laws.specs.BooksInOrder.{Zero}
use Rattle.book_compiler.proofs.OntoEnding.{onto_row, onto_runs}
use Rattle.book_compiler.proofs.OntoMemory.{books_held}
use Rattle.book_compiler.proofs.Rows.{never_zero}
use Rattle.book_compiler.proofs.grown.run_onto_in.Goals as goal

pub returns-in-Err : goal.returns-in-Err
returns-in-Err c =
    onto_row c.make_ready.ensures (books_held (subst Zero (sym c.requires.3) c.requires.0.empty) c.requires.4 c.add_standing.ensures)
    (rw c.in-Err.is at c.check_bundle.ensures)
    (never_zero _) c.give_back.ensures c.refused_with.ensures

pub returns : goal.returns
returns c =
    onto_runs c.make_ready.ensures (books_held (subst Zero (sym c.requires.3) c.requires.0.empty) c.requires.4 c.add_standing.ensures)
    (rw c.in_default.is at c.check_bundle.ensures)
    refl (c.add_standing.auto.set ∙ ap length c.requires.3 ∙ sym c.check_bundle.auto.chosen)
    c.compile_needed-outcome.auto.memory
    (rw c.begun_onto-book.ensures at c.compile_needed-outcome.ensures) c.finish_onto.ensures
