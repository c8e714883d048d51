-- `book_compiler::includes::compile_aliases` meets its contract. The invariant: what takes the names from here on takes all of them.
-- Assumes nothing.
use Rattle.book_compiler.specs.RepresentsBook.{BookMemory, book_laid}
use Rattle.book_compiler.specs.DefinitionSteps.{CompilesAliases}
use Rattle.std.proofs.Common.{◌≡◌, ◌+◌, length}
use Rattle.book_compiler.proofs.includes.compile_aliases.Given as goal

abbrev pub invariant-loop-name : goal.invariant-loop-name
invariant-loop-name l = (l.name-iterator.end ≡ l.fn.end) × (length l.memory ≡ length l.initial.memory)
    × ((m : BookMemory) → CompilesAliases l.tree (l.name-iterator.at + 1) l.fn.end l.file (book_laid l.book l.starts l.memory) m
    → CompilesAliases l.tree (l.fn.at + 1) l.fn.end l.file (book_laid l.initial.book l.starts l.initial.memory) m)
