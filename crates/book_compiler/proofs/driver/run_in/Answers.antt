-- `book_compiler::driver::run_in` meets its contract: refused before the work, or the work and its end. Assumes nothing.
use Rattle.book_compiler.proofs.BookEnding.{run_refused, run_worked}
use Rattle.book_compiler.proofs.Rows.{never_zero}
use Rattle.compiler_laws.proofs.BooksNeeded.{set_empty}
use Rattle.std.proofs.Common.{ℕ, [], length, replicate, sym, refl, ap, ◌∙◌}
use Rattle.book_compiler.proofs.driver.run_in.Goals as goal

pub returns-in-Err : goal.returns-in-Err
returns-in-Err c =
    run_refused (rw c.in-Err.is at (c.check_bundle.ensures.rows [] (set_empty 1))) (never_zero _) c.refused_at.ensures

pub work-ended-requires : goal.work-ended-requires
work-ended-requires c =
    c.fill.ensures.after (λ y e. e) ∙ ap (λ (n : ℕ). replicate n 0)
    (c.check_bundle.auto.next ∙ ap length c.requires.2 ∙ sym c.check_bundle.auto.chosen)

pub returns : goal.returns
returns c =
    run_worked (rw c.in_default.is at (c.check_bundle.ensures.rows [] (set_empty 1))) refl c.work-ended.ensures c.finish.ensures
    c.work-ended.auto.memory
    (c.finish.auto.memory ∙ c.work-ended.auto.memory)
