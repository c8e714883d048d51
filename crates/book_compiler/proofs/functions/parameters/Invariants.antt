-- `book_compiler::functions::parameters` meets its contract. The invariant: what finishes from here finishes the whole. Assumes nothing.
use Rattle.book_compiler.specs.Represents.{Memory, laid}
use Rattle.book_compiler.specs.FunctionSteps.{CompilesParameters}
use Rattle.book_compiler.proofs.functions.parameters.Given as goal

abbrev pub invariant-loop-i : goal.invariant-loop-i
invariant-loop-i l = (m : Memory) → CompilesParameters l.tree l.i l.end (laid l.state l.starts l.memory) m
    → CompilesParameters l.tree l.at l.end (laid l.initial.state l.starts l.initial.memory) m
