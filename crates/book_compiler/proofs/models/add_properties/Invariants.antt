-- `book_compiler::models::add_properties` meets its contract. The invariant: whatever adds the properties from here on adds all of them.
-- Assumes nothing.
use Rattle.std.proofs.Common.{◌≡◌, length}
use Rattle.book_compiler.specs.RepresentsBook.{BookMemory, book_laid}
use Rattle.book_compiler.proofs.ModelDefinitions.{AddsPropertiesFrom}
use Rattle.book_compiler.proofs.models.add_properties.Given as goal

abbrev pub invariant-loop-i : goal.invariant-loop-i
invariant-loop-i l = (length l.memory ≡ length l.initial.memory) × ((m : BookMemory) → AddsPropertiesFrom l.tree l.i l.end l.first
    (book_laid l.book l.starts l.memory) m
    → AddsPropertiesFrom l.tree l.at l.end l.first (book_laid l.initial.book l.starts l.initial.memory) m)
