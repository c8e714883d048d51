-- `FunctionState::patch_breaks`: what is left to patch from i is what was to patch at first.
use Rattle.std.proofs.Common.{◌≡◌, ◌-◌}
use Rattle.words.specs.Codes.{code_word}
use Rattle.building.specs.Emission.{patch_c}
use Rattle.building.proofs.function_state.FunctionState.patch_breaks.Given as goal

abbrev pub invariant-loop-i : goal.invariant-loop-i
invariant-loop-i l = patch_c (l.self.breaks - l.i) l.i (code_word l.instruction) l.self l.breaks l.code
    ≡ patch_c (l.self.breaks - l.self.break_base) l.self.break_base (code_word l.instruction) l.self l.breaks l.initial.code
