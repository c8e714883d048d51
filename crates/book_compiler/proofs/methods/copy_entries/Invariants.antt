-- `book_compiler::methods::copy_entries` meets its contract. The invariant: whatever copies from here on copies all, and the methods that stood are the
-- first. Assumes nothing.
use Rattle.std.proofs.Common.{◌≡◌, ℕ, List, length}
use Rattle.compiler_laws.specs.declared.book.Book.{Book}
use Rattle.compiler_laws.proofs.CopiedMethods.{CopiesFrom}
use Rattle.book_compiler.specs.BookLeaves.{SparesMethods, SameCounts, StoodFirst, methods_said}
use Rattle.book_compiler.proofs.methods.copy_entries.Given as goal

abbrev pub invariant-loop-i : goal.invariant-loop-i
invariant-loop-i l = (length l.methods ≡ length l.initial.methods) × SameCounts l.initial.book l.book × (StoodFirst l.initial.book → (s' : Book)
    (t' : List ℕ) → CopiesFrom l.source l.target l.i l.count l.book (methods_said l.initial.book l.methods) s' t'
    → CopiesFrom l.source l.target 0 l.count l.initial.book (methods_said l.initial.book l.initial.methods) s' t')
    × SparesMethods l.initial.book l.initial.methods l.book
    l.methods
