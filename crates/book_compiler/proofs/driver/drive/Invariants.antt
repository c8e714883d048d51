-- `book_compiler::driver::drive` meets its contract. The invariant: what finishes from here finishes the whole. Assumes nothing.
use Rattle.book_compiler.specs.RepresentsBook.{BookMemory, book_laid}
use Rattle.book_compiler.specs.BookOrder.{Drives}
use Rattle.std.proofs.Common.{◌≡◌, ℕ, length}
use Rattle.book_compiler.proofs.driver.drive.Given as goal

abbrev pub invariant-loop-done : goal.invariant-loop-done
invariant-loop-done l = (l.book.full ≡ 0) × (length l.memory ≡ length l.initial.memory) ×
    (length l.compiled ≡ length l.initial.compiled)
    × ((m' : BookMemory) (row place : ℕ) → Drives l.tree l.end l.done l.count l.compiled (book_laid l.book l.starts l.memory) m' row place
    → Drives l.tree l.end l.from l.count l.initial.compiled (book_laid l.initial.book l.starts l.initial.memory) m' row place)
