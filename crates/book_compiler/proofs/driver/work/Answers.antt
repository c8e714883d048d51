-- `book_compiler::driver::work` meets its contract: the first constants and their slots, then the books. Assumes nothing.
use Rattle.book_compiler.proofs.BookBeginning.{work_fresh}
use Rattle.std.proofs.Common.{◌∙◌}
use Rattle.book_compiler.proofs.driver.work.Goals as goal

pub shape_of-memory : goal.shape_of-memory
shape_of-memory c =
    c.compile_needed-outcome.auto.memory ∙ c.fill_slots.auto.memory ∙ c.begin_constants-x.auto.memory

pub shape_of-compiled : goal.shape_of-compiled
shape_of-compiled c = c.compile_needed-outcome.auto.compiled

pub returns : goal.returns
returns c =
    work_fresh _ c.begin_constants-x.ensures c.fill_slots.ensures c.begun-book.ensures c.requires
    c.compile_needed-outcome.ensures
