-- `book_compiler::function_state::patch_breaks` meets its contract. The invariant: what is left to patch from i is what was to patch at first. Assumes nothing.
use Rattle.std.proofs.Common.{length}
use Rattle.memory.specs.Layout.{Fits}
use Rattle.words.specs.Codes.{code_word}
use Rattle.book_compiler.specs.Represents.{laid}
use Rattle.book_compiler.proofs.BothParts.{Patching}
use Rattle.book_compiler.proofs.function_state.patch_breaks.Given as goal

abbrev pub invariant-loop-i : goal.invariant-loop-i
invariant-loop-i l = Fits l.starts (length l.initial.memory) → Patching (code_word l.instruction) l.i (laid l.state l.starts l.initial.memory)
    (laid l.state l.starts l.memory)
