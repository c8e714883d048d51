-- `book_compiler::implements::implement_methods` meets its contract. The invariant: what finishes from here finishes the whole. Assumes nothing.
use Rattle.book_compiler.specs.RepresentsBook.{BookMemory, book_laid}
use Rattle.book_compiler.specs.DefinitionSteps.{ImplementsMethods}
use Rattle.std.proofs.Common.{◌≡◌, length}
use Rattle.book_compiler.proofs.implements.implement_methods.Given as goal

abbrev pub invariant-loop-function : goal.invariant-loop-function
invariant-loop-function l = (l.function-iterator.tree.now ≡ l.tree) × (l.function-iterator.end ≡ l.end) × (length l.memory ≡ length l.initial.memory)
    × ((m : BookMemory) → ImplementsMethods l.tree l.function-iterator.at l.end l.model l.number l.count (book_laid l.book l.starts l.memory) m
    → ImplementsMethods l.tree l.at l.end l.model l.first l.count (book_laid l.initial.book l.starts l.initial.memory) m)
