-- The pieces of a for statement: what they leave as it was, and that scopes are balanced after them. Assumes nothing.
use Prim.Native.Nat.{ℕ, ◌+◌}
use mathlib.Core.Path.{refl}
use Rattle.words.specs.Ast.{Token}
use Rattle.words.specs.Object.{constant_of, integer_kind}
use Rattle.words.specs.Opcode.{to_instruction, Pop, PushConstant, LocalSet, JumpIf, ForNext}
use Rattle.definition.specs.FunctionState.{define_local}
use Rattle.definition.specs.Compiler.{emit, emit_opcode_without_position, emit_constant, found_or}
use Rattle.definition_laws.proofs.StepPreserves.{Steadily, preserves_trans, preserves_function, preserves_emit_constant, preserves_define}
use Rattle.compiler_laws.specs.ForStatements.{loop_start, loop_head, loop_defined, loop_next, loop_name}
use Rattle.compiler_laws.proofs.ScopesBalanced.{PreservesScopes, scopes_trans, scopes_function, scopes_emit_constant, scopes_define}

-- two emissions, the second at the last position
twice_preserves : (o x p o' : ℕ) → Steadily (λ w. emit_opcode_without_position o' (emit (to_instruction o x) p w))
twice_preserves o x p o' w =
    let u = emit (to_instruction o x) p w in
    preserves_trans {b = u} (preserves_function w _ refl) (preserves_function u _ refl)

twice_scopes : (o x p o' : ℕ) → PreservesScopes (λ w. emit_opcode_without_position o' (emit (to_instruction o x) p w))
twice_scopes o x p o' w =
    let u = emit (to_instruction o x) p w in
    scopes_trans {b = u} (scopes_function w _ refl refl refl) (scopes_function u _ refl refl refl)

pub preserves_start : Steadily loop_start
preserves_start w = preserves_function w _ refl

pub preserves_head : (x p : ℕ) → Steadily (loop_head x p)
preserves_head x p w =
    let w₁ = emit_opcode_without_position Pop (emit (to_instruction LocalSet x) p w) in
    let w₂ = emit_constant PushConstant (constant_of integer_kind 0) p w₁ in
    preserves_trans (twice_preserves LocalSet x p Pop w) (preserves_trans (preserves_emit_constant _ _ _ w₁) (twice_preserves LocalSet (x + 1) p Pop w₂))

pub scopes_head : (x p : ℕ) → PreservesScopes (loop_head x p)
scopes_head x p w =
    let w₁ = emit_opcode_without_position Pop (emit (to_instruction LocalSet x) p w) in
    let w₂ = emit_constant PushConstant (constant_of integer_kind 0) p w₁ in
    scopes_trans (twice_scopes LocalSet x p Pop w) (scopes_trans (scopes_emit_constant _ _ _ w₁) (twice_scopes LocalSet (x + 1) p Pop w₂))

pub preserves_name : (x : ℕ) (t n : Token) → Steadily (loop_name x t n)
preserves_name x t n w =
    let u = loop_defined n w in
    let w₁ = emit_opcode_without_position JumpIf (loop_next x t n w) in
    preserves_trans (preserves_define n.value w) (preserves_trans (twice_preserves ForNext x t.position JumpIf u)
    (twice_preserves LocalSet (found_or 0 (define_local n.value w.function).found) n.position Pop w₁))

pub scopes_name : (x : ℕ) (t n : Token) → PreservesScopes (loop_name x t n)
scopes_name x t n w =
    let u = loop_defined n w in
    let w₁ = emit_opcode_without_position JumpIf (loop_next x t n w) in
    scopes_trans (scopes_define n.value w) (scopes_trans (twice_scopes ForNext x t.position JumpIf u)
    (twice_scopes LocalSet (found_or 0 (define_local n.value w.function).found) n.position Pop w₁))
