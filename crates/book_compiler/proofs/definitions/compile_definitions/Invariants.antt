-- `book_compiler::definitions::compile_definitions` meets its contract. The invariant: what finishes from here finishes the whole. Assumes nothing.
use Rattle.book_compiler.specs.RepresentsBook.{BookMemory, book_laid, CompilesDefinitions}
use Rattle.std.proofs.Common.{◌≡◌, length}
use Rattle.book_compiler.proofs.definitions.compile_definitions.Given as goal

abbrev pub invariant-loop-definition : goal.invariant-loop-definition
invariant-loop-definition l = (l.definition-iterator.tree.now ≡ l.tree) × (l.definition-iterator.end ≡ l.end) ×
    (length l.memory ≡ length l.initial.memory) × ((m : BookMemory) → CompilesDefinitions l.tree l.definition-iterator.at l.end
    (book_laid l.book l.starts l.memory) m
    → CompilesDefinitions l.tree l.at l.end (book_laid l.initial.book l.starts l.initial.memory) m)
