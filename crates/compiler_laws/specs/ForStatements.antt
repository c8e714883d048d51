-- The pieces of a for statement. The definition's step is cut where `compile_for_statement` calls: the start, the enumerable's expression, the head,
-- the name, the statements, the end. Numbers that were remembered matter only where nothing is full, and of a local's number the low 64 bits
-- Private contracts alone cite this file: whoever reads the promises need not believe it
use Rattle.std.specs.Prelude.{ℕ, ◌+◌, ◌%◌, ◌^◌, ◌≡◌}
use Rattle.words.specs.Ast.{Token}
use Rattle.words.specs.Object.{constant_of, integer_kind}
use Rattle.words.specs.Opcode.{to_instruction, Pop, PushConstant, LocalSet, Jump, JumpIf, ForNext, Iterate}
use Rattle.definition.specs.FunctionState as Emission
use Rattle.definition.specs.FunctionState.{get_last_position, define_local, tail}
use Rattle.definition.specs.Uses.{total}
use Rattle.definition.specs.Compiler.{Work, Step, with_function, doing, emit, emit_opcode_without_position, replace_instruction, next, emit_constant, found_or}
use Rattle.building.specs.declared.function_state.FunctionState.{FunctionState}
use Rattle.building.specs.Found.{Found}
use Rattle.std.specs.Prelude.{Some, None}
use Rattle.building.specs.RepresentsMachine.{is_open}

-- two anonymous locals, a scope and a break scope
abbrev pub loop_start : Step
loop_start = doing (λ f. Emission.enter_break_scope (Emission.enter_scope (Emission.define_anonymous_local (Emission.define_anonymous_local f))))

-- the enumerable into local x and the iterator, 0, into the next
abbrev pub loop_head : ℕ → ℕ → Step
loop_head x p w =
    let w₁ = emit_opcode_without_position Pop (emit (to_instruction LocalSet x) p w) in
    let w₂ = emit_constant PushConstant (constant_of integer_kind 0) p w₁ in
    emit_opcode_without_position Pop (emit (to_instruction LocalSet (x + 1)) p w₂)

-- the name n in the loop's scope
abbrev pub loop_defined : Token → Step
loop_defined n w = with_function (define_local n.value w.function).state w

-- the loop's first instruction, with the token t of the for
abbrev pub loop_next : ℕ → Token → Token → Step
loop_next x t n w = emit (to_instruction ForNext x) t.position (loop_defined n w)

-- its exit, and the element into the name's local
abbrev pub loop_name : ℕ → Token → Token → Step
loop_name x t n w =
    let w₁ = emit_opcode_without_position JumpIf (loop_next x t n w) in
    emit_opcode_without_position Pop (emit (to_instruction LocalSet (found_or 0 (define_local n.value w.function).found)) n.position w₁)

-- `found_or_zero`: a local's number, or 0
abbrev pub found_or_zero : Found → ℕ
found_or_zero (Some i) = i
found_or_zero None = 0

-- the next element, back to the first instruction, out of the loop
abbrev pub loop_end : ℕ → ℕ → ℕ → Step
loop_end iterator first exit w =
    let w₁ = emit (to_instruction Iterate iterator) (get_last_position w.function) w in
    let w₂ = emit (to_instruction Jump first) (get_last_position w₁.function) w₁ in
    let w₃ = replace_instruction exit (to_instruction JumpIf (next w₂)) w₂ in
    let w₄ = doing (Emission.exit_break_scope exit) w₃ in
    doing Emission.exit_scope w₄

-- the state around a loop, remembered until the loop's statements are done: x is its next local
pub record Around (around : FunctionState) (x : ℕ) (w : Work) : Type 0 where
  pub local : around.local_count ≡ x % 2 ^ 64
  pub scope : around.scope_base ≡ total (tail (tail w.function.scopes))
  pub loop : around.break_base ≡ total (tail (tail w.function.break_scopes))
  pub in_loop : around.in_loop ≡ is_open (tail w.function.break_scopes)
