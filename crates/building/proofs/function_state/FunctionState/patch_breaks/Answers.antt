-- `FunctionState::patch_breaks` meets its contract, by the invariant. Assumes nothing.
use Rattle.std.proofs.Common.{refl, sym, ◌∙◌}
use Rattle.words.specs.Codes.{code_word}
use Rattle.building.proofs.Emitting.{patch_turn, patch_end}
use Rattle.building.proofs.function_state.FunctionState.patch_breaks.Goals as goal

pub loop-i-init : goal.loop-i-init
loop-i-init c = refl

pub loop-i-preserved : goal.loop-i-preserved
loop-i-preserved c =
    sym (patch_turn (code_word c.to_instruction-instruction.result) c.loop-i.i c.args.self.now.breaks c.args.self.now c.args.breaks.now
    c.loop-i.code c.replace_instruction.new.code c.loop-i-test.true (rw c.entry_word-index.ensures at c.replace_instruction.ensures))
    ∙ c.loop-i.invariant

pub returns : goal.returns
returns c =
    sym (patch_end (code_word c.to_instruction-instruction.result) c.loop-i.i c.args.self.now.breaks c.args.self.now c.args.breaks.now c.loop-i.code
    c.loop-i-test.false)
    ∙ c.loop-i.invariant ∙ rw (c.to_instruction-instruction.ensures, c.get_next_instruction_index-next.ensures)
