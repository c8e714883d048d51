-- `book_compiler::function_state::patch_breaks` meets its contract. The invariant: what is left to patch from i is what was to patch at first.
-- Assumes nothing.
use Rattle.std.proofs.Common.{ℕ, ap, ◌∙◌}
use Rattle.words.specs.Opcode.{to_instruction, word, Jump}
use Rattle.book_compiler.proofs.BothParts.{patching_first, patching_more, patching_end}
use Rattle.book_compiler.proofs.function_state.patch_breaks.Goals as goal

pub loop-i-init : goal.loop-i-init
loop-i-init c = λ f. patching_first f

pub loop-i-preserved : goal.loop-i-preserved
loop-i-preserved c = λ f. patching_more c.loop-i-test.true c.break_at-index.ensures c.replace_instruction.ensures (c.loop-i.invariant f)

pub returns : goal.returns
returns c = patching_end (c.to_instruction-instruction.ensures ∙ ap (λ (i : ℕ). word (to_instruction Jump i))
    c.get_next_instruction_index-next.ensures)
    c.loop-i-test.false c.loop-i.invariant
