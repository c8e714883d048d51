-- `book_compiler::locals::compile_local_definition` meets its contract. The invariant: what defines the pairs from here defines all of them.
-- Assumes nothing.
use Rattle.book_compiler.specs.RepresentsBook.{BookMemory, book_laid}
use Rattle.book_compiler.specs.DefinitionSteps.{CompilesLocalDefinition}
use Rattle.std.proofs.Common.{◌≡◌, ◌+◌, length}
use Rattle.book_compiler.proofs.locals.compile_local_definition.Given as goal

abbrev pub invariant-loop-name : goal.invariant-loop-name
invariant-loop-name l = (l.name-iterator.end ≡ l.fn.end) × (length l.memory ≡ length l.initial.memory)
    × ((m : BookMemory) → CompilesLocalDefinition l.tree (l.name-iterator.at + 1) l.fn.end (book_laid l.book l.starts l.memory) m
    → CompilesLocalDefinition l.tree (l.fn.at + 1) l.fn.end (book_laid l.initial.book l.starts l.initial.memory) m)
