-- `book_compiler::functions::compile_statements` meets its contract. The invariant: whatever finishes from here finishes the whole. Assumes nothing.
use Rattle.std.proofs.Common.{◌≡◌}
use Rattle.book_compiler.specs.Represents.{Memory, laid}
use Rattle.book_compiler.specs.Members.{CompilesStatements}
use Rattle.book_compiler.proofs.functions.compile_statements.Given as goal

abbrev pub invariant-loop-statement : goal.invariant-loop-statement
invariant-loop-statement l = (l.statement-iterator.tree.now ≡ l.tree) × (l.statement-iterator.end ≡ l.end)
    × ((m : Memory) → CompilesStatements l.tree l.statement-iterator.at l.end l.start l.count (laid l.state l.starts l.memory) m
    → CompilesStatements l.tree l.at l.end l.start l.count (laid l.initial.state l.starts l.initial.memory) m)
