-- What a function is compiled to is known to 2026-01's check: each opcode and operation that a step emits, each position, each constant that it adds. The
-- errors that it pushes satisfy any claim that tokens of the words satisfy, as does each constant, so that other claims of errors are cases of this.
-- One lemma for each combinator over arbitrary steps, and one induction on the tree (`function_known`). Assumes nothing.
use Prim.Native.Nat.{ℕ, zero, suc, ◌+◌, ◌-◌, ◌≤◌, ◌<◌}
use native.Mathlib.Omega.{arith}
use mathlib.Core.Path.{◌≡◌, refl, sym, subst}
use mathlib.Core.Option.{Option, none, some}
use mathlib.Core.List.{List, [], ◌∷◌}
use lib.ListN.{length, get_or}
use lib.Dec.{eqb, ltb, ltb→lt}
use Rattle.words.specs.Ast.{Token, Expression, Expressions, Variables, Statement, Statements, FunctionDefinition}
use Rattle.words.specs.Ast.{Identifier, This, Null, Integer, Float, Text, Boolean, Array, Prefix, Infix, If, IfElse, Call, InstanceGet, IndexGet}
use Rattle.words.specs.Ast.{∅ₑ, ◌∷ₑ◌, ∅ᵥ, Bare, Valued, Local, Return, For, Break, Rescue, Expr, ∅ₛ, ◌∷ₛ◌}
use Rattle.words.specs.Record.{span_at, token_at}
use Rattle.words.specs.Object.{Constant, constant_of, integer_kind, float_kind, text_kind, model_kind, function_kind}
use Rattle.words.specs.Opcode.{Instruction, to_instruction, Pop, PushConstant, ReturnOp, LocalSet, LocalGet, LocalInit, ContextSet, ContextGet, GlobalSet}
use Rattle.words.specs.Opcode.{GlobalGet, InstanceSet, InstanceGetOp, IndexSet, IndexGetOp, Operation, Not, Negative, CallOp, ArrayOp, Jump, JumpIf}
use Rattle.words.specs.Opcode.{ForNext, Iterate}
use Rattle.tree.specs.At.{Leaf, Headed, ExpressionAt, ExpressionsAt, VariablesAt, StatementAt, StatementsAt, ParametersAt, FunctionAt, size_e, size_s, size_ss}
use Rattle.definition.specs.FunctionState as Emission
use Rattle.definition.specs.FunctionState.{FunctionState, Code, innermost, remove_pop_or_push_null, emit_return, emit_break, exit_break_scope, define_local}
use Rattle.definition.specs.FunctionState.{find_name, last_opcode, get_last_position, with_depth, with_parameters, new_function_state}
use Rattle.definition.specs.Compiler
use Rattle.definition.specs.Compiler.{Error, Work, Step, Added, doing, with_function, emit, emit_opcode_without_position, replace_instruction, push_error, next}
use Rattle.definition.specs.Compiler.{add_constant, mark_global, emit_constant, emit_global, emit_name, found_or}
use Rattle.definition.specs.Compiler.{InfixKind, Assigning, Plain, Negated, Compound, Unknown, infix_kind, compile_infix_by}
use Rattle.definition.specs.Compiler.{compile_statement, compile_statements, compile_expression, compile_expressions, compile_variables}
use Rattle.definition.specs.Compiler.{compile_assign_expression_left_part, compile_parameter, compile_parameters, skip, and_then, deeper, compile_rescue}
use Rattle.definition.specs.Compiler.{compile_bare, compile_valued, compile_expression_statement, compile_for_statement, compile_if_expression, compile_part}
use Rattle.definition.specs.Compiler.{compile_no_part, compile_array_expression, compile_call_expression, compile_prefix_expression, compile_infix_expression}
use Rattle.definition.specs.Compiler.{compile_operation, compile_assign_expression, compile_pair, compile_assign_name, compile_this_expression}
use Rattle.definition.specs.Compiler.{compile_identifier_expression, compile_null_expression, compile_boolean_expression, compile_string_expression}
use Rattle.definition.specs.Compiler.{compile_float_expression, compile_integer_expression, compile_function_definition_base}
use Rattle.definition.specs.Within.{All, nil, ◌&◌}
use Rattle.definition.specs.ProgramCheck.{is_operation, instruction_known}
use Rattle.definition_laws.proofs.Defining.{define_cases}
use Rattle.definition_laws.proofs.Lists.{all_append, all_set, all_take, all_patch, cond_case}
use Rattle.definition_laws.proofs.Tests.{Test, or_first, less, passes}
use Rattle.definition_laws.proofs.Program.{added_case}
use Rattle.definition_laws.proofs.Ranges.{IsText, IsPosition, Ranged, no_position, ranged_position, ranged_text, leaf_kind}

abbrev pub KnownInstruction : Instruction → Type 0
KnownInstruction x = Test (instruction_known x)

-- a function's code
pub record KnownCode (c : Code) : Type 0 where
  pub instructions : All KnownInstruction c.instructions
  pub positions : All IsPosition c.positions

-- a claim of constants that what is compiled adds satisfies
pub record Admits (C : Constant → Type 0) : Type 0 where
  pub integer : (v : ℕ) → C (constant_of integer_kind v)
  pub float : (v : ℕ) → C (constant_of float_kind v)
  pub text : (v : ℕ) → IsText v → C (constant_of text_kind v)
  pub model : (v : ℕ) → C (constant_of model_kind v)
  pub function : (v : ℕ) → C (constant_of function_kind v)

-- a token in range, of which errors with the numbers 1 to 10 satisfy E
abbrev pub blaming : ℕ → Token → Error
blaming n t = record { number = n; token = t }

pub record KnownToken (E : Error → Type 0) (t : Token) : Type 0 where
  pub range : Ranged t
  pub blamed : (n : ℕ) → 1 ≤ n → n ≤ 10 → E (blaming n t)

-- what holds all through the compiling of a function, over claims of errors and of constants
pub record KnownWork (E : Error → Type 0) (C : Constant → Type 0) (w : Work) : Type 0 where
  pub code : KnownCode w.function.code
  pub constants : All C w.context.constants
  pub errors : All E w.compiler.errors

pub record KeepsKnown (E : Error → Type 0) (C : Constant → Type 0) (s : Step) : Type 0 where
  pub keeps : (w : Work) → KnownWork E C w → KnownWork E C (s w)

-- function_state.rs

all_or : {A : Type 0} {P : A → Type 0} {l : List A} {d : A} → All P l → P d → (i : ℕ) → P (get_or l i d)
all_or nil q i = q
all_or (p & ps) q zero = p
all_or (p & ps) q (suc i) = all_or ps q i

last_known : (f : FunctionState) → KnownCode f.code → IsPosition (get_last_position f)
last_known f k = all_or k.positions no_position (length f.code.positions - 1)

code_emit : (i : Instruction) (p : ℕ) (f : FunctionState) → KnownInstruction i → IsPosition p → KnownCode f.code → KnownCode (Emission.emit i p f).code
code_emit i p f h q k = record { instructions = all_append k.instructions (h & nil); positions = all_append k.positions (q & nil) }

code_close : (f : FunctionState) → KnownCode f.code → KnownCode (remove_pop_or_push_null f).code
unfolding remove_pop_or_push_null
code_close f k =
    cond_case (λ (g : FunctionState). KnownCode g.code) (eqb (last_opcode f) Pop)
    (λ t. record {
      instructions = all_take k.instructions (length f.code.instructions - 1);
      positions = all_take k.positions (length f.code.positions - 1);
    })
    (λ t. cond_case (λ (g : FunctionState). KnownCode g.code) (eqb (last_opcode f) ReturnOp) (λ u. k)
    (λ u. code_emit (to_instruction PushConstant 0) (get_last_position f) f passes (last_known f k) k))

code_return : (p : ℕ) (f : FunctionState) → IsPosition p → KnownCode f.code → KnownCode (emit_return p f).code
unfolding emit_return
code_return p f q k =
    cond_case (λ (g : FunctionState). KnownCode g.code) (eqb (last_opcode (remove_pop_or_push_null f)) ReturnOp) (λ t. code_close f k)
    (λ t. code_emit (to_instruction ReturnOp 0) p (remove_pop_or_push_null f) passes q (code_close f k))

code_define : (n : ℕ) (f : FunctionState) → KnownCode f.code → KnownCode (define_local n f).state.code
code_define n f k = define_cases (λ d. KnownCode d.state.code) n f go
  where
    go : (o : Option ℕ) → KnownCode (Emission.define_local_by o n f).state.code
    go none = k
    go (some i) = k

code_break : (p : ℕ) (f : FunctionState) → IsPosition p → KnownCode f.code → KnownCode (emit_break p f).code
unfolding emit_break
code_break p f q k = go f.break_scopes
  where
    go : (bs : List (List ℕ)) → KnownCode (Emission.emit_break_in bs p f).code
    go [] = k
    go (s ∷ ss) = code_emit (to_instruction Jump 0) p f passes q k

-- an operation is one of operations.rs
abbrev KnownInfix : InfixKind → Type 0
KnownInfix Assigning = Unit {0}
KnownInfix (Plain n) = Test (is_operation n)
KnownInfix (Negated n) = Test (is_operation n)
KnownInfix (Compound n) = Test (is_operation n)
KnownInfix Unknown = Unit {0}

small_operation : (n : ℕ) → n < 10 → Test (is_operation n)
small_operation n h = or_first (eqb n 258) (or_first (eqb n 257) (less n 10 h))

infix_known : (n : ℕ) → KnownInfix (infix_kind n)
infix_known n =
    cond_case KnownInfix (eqb n 0) (λ h. tt)
    (λ h. cond_case KnownInfix (ltb n 6) (λ h. small_operation (n - 1) (omega (arith, ltb→lt n 6 h)))
    (λ h. cond_case KnownInfix (ltb n 11) (λ h. small_operation (n - 6) (omega (arith, ltb→lt n 11 h)))
    (λ h. cond_case KnownInfix (eqb n 11) (λ h. passes)
    (λ h. cond_case KnownInfix (eqb n 12) (λ h. passes)
    (λ h. cond_case KnownInfix (ltb n 17) (λ h. small_operation (n - 7) (omega (arith, ltb→lt n 17 h)))
    (λ h. cond_case KnownInfix (eqb n 17) (λ h. passes)
    (λ h. cond_case KnownInfix (eqb n 18) (λ h. passes) (λ h. tt))))))))

-- compiler.rs: leaves

module _ {E : Error → Type 0} {C : Constant → Type 0} where
  known_function : (w : Work) (f : FunctionState) → KnownWork E C w → KnownCode f.code → KnownWork E C (with_function f w)
  known_function w f k c = record { code = c; constants = k.constants; errors = k.errors }

  known_error : (n : ℕ) (t : Token) (w : Work) → KnownToken E t → 1 ≤ n → n ≤ 10 → KnownWork E C w → KnownWork E C (push_error n t w)
  known_error n t w K a b k = record { code = k.code; constants = k.constants; errors = all_append k.errors (K.blamed n a b & nil) }

  known_emit : (w : Work) (i : Instruction) (p : ℕ) → KnownInstruction i → IsPosition p → KnownWork E C w → KnownWork E C (emit i p w)
  known_emit w i p h q k = known_function w _ k (code_emit i p w.function h q k.code)

  -- at the last position
  known_emit_last : (w : Work) (o : ℕ) → KnownInstruction (to_instruction o 0) → KnownWork E C w → KnownWork E C (emit_opcode_without_position o w)
  known_emit_last w o h k = known_emit w (to_instruction o 0) (get_last_position w.function) h (last_known w.function k.code) k

  known_replace : (w : Work) (j : ℕ) (i : Instruction) → KnownInstruction i → KnownWork E C w → KnownWork E C (replace_instruction j i w)
  known_replace w j i h k = known_function w _ k (record { instructions = all_set k.code.instructions h j; positions = k.code.positions })

  known_constant : (c : Constant) (w : Work) → C c → KnownWork E C w → KnownWork E C (add_constant c w).work
  known_constant c w h k = added_case (λ (a : Added). KnownWork E C a.work) c w
      (record { code = k.code; constants = all_append k.constants (h & nil); errors = k.errors }) (λ i l. k)

  emit_known : (i : Instruction) (p : ℕ) → KnownInstruction i → IsPosition p → KeepsKnown E C (emit i p)
  emit_known i p h q = record { keeps = λ w k. known_emit w i p h q k }

  error_known : (n : ℕ) (t : Token) → KnownToken E t → 1 ≤ n → n ≤ 10 → KeepsKnown E C (push_error n t)
  error_known n t K a b = record { keeps = λ w k. known_error n t w K a b k }

  return_known : (p : ℕ) → IsPosition p → KeepsKnown E C (doing (emit_return p))
  return_known p q = record { keeps = λ w k. known_function w _ k (code_return p w.function q k.code) }

  break_known : (p : ℕ) → IsPosition p → KeepsKnown E C (doing (emit_break p))
  break_known p q = record { keeps = λ w k. known_function w _ k (code_break p w.function q k.code) }

  rescue_known : (t : Token) → KnownToken E t → KeepsKnown E C (compile_rescue t)
  unfolding compile_rescue
  rescue_known t K = record {
    keeps = λ w k. cond_case (KnownWork E C) (ltb 1 w.function.depth) (λ h. known_error 4 t w K (omega arith) (omega arith) k)
        (λ h. known_function w _ k (code_return t.position w.function (ranged_position K.range) k.code));
  }

  emit_constant_known : (o : ℕ) (c : Constant) (p : ℕ) → ((n : ℕ) → KnownInstruction (to_instruction o n)) → C c → IsPosition p
      → KeepsKnown E C (emit_constant o c p)
  unfolding emit_constant
  emit_constant_known o c p h q l = record { keeps = λ w k. known_emit (add_constant c w).work _ p (h (add_constant c w).index) l (known_constant c w q k) }

  global_known : (o n p : ℕ) → ((i : ℕ) → KnownInstruction (to_instruction o i)) → C (constant_of text_kind n) → IsPosition p → KeepsKnown E C
      (emit_global o n p)
  unfolding emit_global
  global_known o n p h q l = record {
    keeps = λ w k.
        let a = add_constant (constant_of text_kind n) w in
        let j = known_constant (constant_of text_kind n) w q k in
        known_emit (mark_global a.index a.work) _ p (h a.index) l (record { code = j.code; constants = j.constants; errors = j.errors });
  }

  -- names: by the opcodes for a local, a context local, a global
  name_known : (l c g n p : ℕ) → ((i : ℕ) → KnownInstruction (to_instruction l i)) → ((i : ℕ) → KnownInstruction (to_instruction c i))
      → ((i : ℕ) → KnownInstruction (to_instruction g i)) → C (constant_of text_kind n) → IsPosition p → KeepsKnown E C (emit_name l c g n p)
  unfolding emit_name
  name_known l c g n p x y z q h = record { keeps = λ w k. go w k (Emission.find_local n w.function) }
    where
      inner : (w : Work) → KnownWork E C w → (o : Option ℕ) → KnownWork E C (Compiler.emit_name_in_context o c g n p w)
      inner w k none = (global_known g n p z q h).keeps w k
      inner w k (some i) = known_emit w (to_instruction c i) p (y i) h k

      go : (w : Work) → KnownWork E C w → (o : Option ℕ) → KnownWork E C (Compiler.emit_name_by o l c g n p w)
      go w k none = inner w k (find_name n w.compiler.locals)
      go w k (some i) = known_emit w (to_instruction l i) p (x i) h k

  this_known : (t : Token) → IsPosition t.position → KeepsKnown E C (compile_this_expression t)
  unfolding compile_this_expression
  this_known t q = record { keeps = λ w k. known_function w _ k (code_emit (to_instruction LocalGet 0) t.position w.function passes q k.code) }

  skip_known : KeepsKnown E C skip
  unfolding skip
  skip_known = record { keeps = λ w k. k }

  no_part_known : KeepsKnown E C compile_no_part
  unfolding compile_no_part
  no_part_known = record {
    keeps = λ w k. known_function w _ k (code_emit (to_instruction PushConstant 0) _ w.function passes (last_known w.function k.code) k.code);
  }

  bare_known : (n : ℕ) (t : Token) → KnownToken E t → 1 ≤ n → n ≤ 10 → KeepsKnown E C (compile_bare n t)
  unfolding compile_bare
  bare_known n t K a b = record {
    keeps = λ w k. go (define_local t.value w.function).found _ (known_function w _ k (code_define t.value w.function k.code));
  }
    where
      go : (o : Option ℕ) (v : Work) → KnownWork E C v → KnownWork E C (Compiler.bare_by o n t v)
      go none v k = known_error n t v K a b k
      go (some i) v k = k

  -- compiler.rs: compounds

  module _ {a : Step} (A : KeepsKnown E C a) where
    array_known : (t : Token) (n : ℕ) → IsPosition t.position → KeepsKnown E C (compile_array_expression t n a)
    unfolding compile_array_expression
    array_known t n q = record { keeps = λ w k. known_emit (a w) (to_instruction ArrayOp n) _ passes q (A.keeps w k) }

    prefix_known : (t : Token) → KnownToken E t → KeepsKnown E C (compile_prefix_expression t a)
    unfolding compile_prefix_expression
    prefix_known t K = record {
      keeps = λ w k.
          let j = A.keeps w k in
          let q = ranged_position K.range in
          cond_case (KnownWork E C) (eqb t.value 0) (λ h. known_emit (a w) (to_instruction Negative 0) _ passes q j)
          (λ h. cond_case (KnownWork E C) (eqb t.value 1) (λ h. known_emit (a w) (to_instruction Not 0) _ passes q j)
          (λ h. known_error 3 t (a w) K (omega arith) (omega arith) j));
    }

    part_known : KeepsKnown E C (compile_part a)
    unfolding compile_part
    part_known = record {
      keeps = λ w k.
          let w₁ = doing Emission.enter_scope w in
          let j = A.keeps w₁ (known_function w _ k k.code) in
          let g = Emission.exit_scope (a w₁).function in
          known_function _ _ (known_function (a w₁) g j j.code) (code_close g j.code);
    }

    deeper_known : KeepsKnown E C (deeper a)
    unfolding deeper
    deeper_known = record {
      keeps = λ w k.
          let w₁ = doing (λ f. with_depth (f.depth + 1) f) w in
          let j = A.keeps w₁ (known_function w _ k k.code) in
          known_function (a w₁) _ j j.code;
    }

    value_known_lem : KeepsKnown E C (compile_expression_statement a)
    unfolding compile_expression_statement
    value_known_lem = record { keeps = λ w k. known_emit_last (a w) Pop passes (A.keeps w k) }

    valued_known : (t : Token) → KnownToken E t → KeepsKnown E C (compile_valued t a)
    unfolding compile_valued
    valued_known t K = record {
      keeps = λ w k. go (define_local t.value w.function).found _ (known_function w _ k (code_define t.value w.function k.code));
    }
      where
        go : (o : Option ℕ) (v : Work) → KnownWork E C v → KnownWork E C (Compiler.valued_by o t a v)
        go none v k = known_error 1 t v K (omega arith) (omega arith) k
        go (some i) v k = known_emit (a v) (to_instruction LocalInit i) _ passes (ranged_position K.range) (A.keeps v k)

  module _ {a b : Step} (A : KeepsKnown E C a) (B : KeepsKnown E C b) where
    after_both : (w : Work) → KnownWork E C w → KnownWork E C (b (a w))
    after_both w k = B.keeps (a w) (A.keeps w k)

    then_known : KeepsKnown E C (and_then a b)
    unfolding and_then
    then_known = record { keeps = after_both }

    pair_known : (o : ℕ) (t : Token) → KnownInstruction (to_instruction o 0) → IsPosition t.position → KeepsKnown E C (compile_pair o t a b)
    unfolding compile_pair
    pair_known o t h q = record { keeps = λ w k. known_emit (b (a w)) (to_instruction o 0) _ h q (after_both w k) }

    call_known : (t : Token) (n : ℕ) → IsPosition t.position → KeepsKnown E C (compile_call_expression t n a b)
    unfolding compile_call_expression
    call_known t n q = record { keeps = λ w k. known_emit (b (a w)) (to_instruction CallOp n) _ passes q (after_both w k) }

    operation_known : (n : ℕ) (t : Token) → Test (is_operation n) → IsPosition t.position → KeepsKnown E C (compile_operation n t a b)
    unfolding compile_operation
    operation_known n t h q = record {
      keeps = λ w k. known_emit (b (a w)) (to_instruction Operation n) _ (record { holds = h.holds }) q (after_both w k);
    }

    -- the enumerable a, the statements b
    for_known : (t i : Token) → C (constant_of integer_kind 0) → IsPosition t.position → IsPosition i.position
        → KeepsKnown E C (compile_for_statement t i a b)
    unfolding compile_for_statement exit_break_scope
    for_known t i z q r = record {
      keeps = λ w k.
          let x = w.function.header.local_count in
          let w₁ = doing (λ f. Emission.enter_break_scope (Emission.enter_scope (Emission.define_anonymous_local (Emission.define_anonymous_local f)))) w in
          let k₂ : KnownWork E C (a w₁) = A.keeps w₁ (known_function w _ k k.code) in
          let u₃ = emit (to_instruction LocalSet x) t.position (a w₁) in
          let w₃ = emit_opcode_without_position Pop u₃ in
          let k₃ : KnownWork E C w₃ = known_emit_last u₃ Pop passes (known_emit (a w₁) (to_instruction LocalSet x) t.position passes q k₂) in
          let w₄ = emit_constant PushConstant (constant_of integer_kind 0) t.position w₃ in
          let k₄ : KnownWork E C w₄ = (emit_constant_known PushConstant (constant_of integer_kind 0) t.position (λ n. passes) z q).keeps w₃ k₃ in
          let u₅ = emit (to_instruction LocalSet (x + 1)) t.position w₄ in
          let w₅ = emit_opcode_without_position Pop u₅ in
          let k₅ : KnownWork E C w₅ = known_emit_last u₅ Pop passes (known_emit w₄ (to_instruction LocalSet (x + 1)) t.position passes q k₄) in
          let d = define_local i.value w₅.function in
          let w₆ = with_function d.state w₅ in
          let k₆ : KnownWork E C w₆ = known_function w₅ d.state k₅ (code_define i.value w₅.function k₅.code) in
          let w₇ = emit (to_instruction ForNext x) t.position w₆ in
          let w₈ = emit_opcode_without_position JumpIf w₇ in
          let k₈ : KnownWork E C w₈ = known_emit_last w₇ JumpIf passes (known_emit w₆ (to_instruction ForNext x) t.position passes q k₆) in
          let n = found_or 0 d.found in
          let u₉ = emit (to_instruction LocalSet n) i.position w₈ in
          let w₉ = emit_opcode_without_position Pop u₉ in
          let k₉ : KnownWork E C w₉ = known_emit_last u₉ Pop passes (known_emit w₈ (to_instruction LocalSet n) i.position passes r k₈) in
          let v₁ = b w₉ in
          let j₁ : KnownWork E C v₁ = B.keeps w₉ k₉ in
          let v₂ = emit (to_instruction Iterate (x + 1)) (get_last_position v₁.function) v₁ in
          let j₂ : KnownWork E C v₂ = known_emit v₁ (to_instruction Iterate (x + 1)) _ passes (last_known v₁.function j₁.code) j₁ in
          let v₃ = emit (to_instruction Jump (next w₆)) (get_last_position v₂.function) v₂ in
          let j₃ : KnownWork E C v₃ = known_emit v₂ (to_instruction Jump (next w₆)) _ passes (last_known v₂.function j₂.code) j₂ in
          close (next w₇) v₃ j₃;
    }
      where
        close : (exit : ℕ) (v : Work) → KnownWork E C v
            → KnownWork E C (doing Emission.exit_scope (doing (exit_break_scope exit) (replace_instruction exit (to_instruction JumpIf (next v)) v)))
        close exit v k =
            let v₄ = replace_instruction exit (to_instruction JumpIf (next v)) v in
            let k₄ : KnownWork E C v₄ = known_replace v exit (to_instruction JumpIf (next v)) passes k in
            let s₅ = all_patch (innermost v₄.function.break_scopes) k₄.code.instructions passes in
            let k₅ : KnownWork E C (doing (exit_break_scope exit) v₄) =
            known_function v₄ _ k₄ (record { instructions = s₅; positions = k₄.code.positions }) in
            known_function _ _ k₅ k₅.code

  module _ {l r g : Step} (X : KeepsKnown E C l) (Y : KeepsKnown E C r) (Z : KeepsKnown E C g) where
    infix_expression_known : (t : Token) → KnownToken E t → KeepsKnown E C (compile_infix_expression t l r g)
    unfolding compile_infix_expression compile_assign_expression
    infix_expression_known t K = record { keeps = λ w k. go w k (infix_kind t.value) (infix_known t.value) }
      where
        place : IsPosition t.position
        place = ranged_position K.range

        go : (w : Work) → KnownWork E C w → (i : InfixKind) → KnownInfix i → KnownWork E C (compile_infix_by i t l r g w)
        go w k Assigning h = after_both Y Z w k
        go w k (Plain n) h = (operation_known X Y n t h place).keeps w k
        go w k (Negated n) h = known_emit (compile_operation n t l r w) (to_instruction Not 0) _ passes place ((operation_known X Y n t h place).keeps w k)
        go w k (Compound n) h = Z.keeps _ ((operation_known X Y n t h place).keeps w k)
        go w k Unknown h = known_error 3 t w K (omega arith) (omega arith) k

    -- the condition l, the true part r, the false part g
    if_known : KeepsKnown E C (compile_if_expression l r g)
    unfolding compile_if_expression
    if_known = record {
      keeps = λ w k.
          let w₁ = l w in
          let w₂ = emit_opcode_without_position JumpIf w₁ in
          let w₃ = g w₂ in
          let k₃ : KnownWork E C w₃ = Z.keeps w₂ (known_emit_last w₁ JumpIf passes (X.keeps w k)) in
          let w₄ = emit_opcode_without_position Jump w₃ in
          let w₅ = replace_instruction (next w₁) (to_instruction JumpIf (next w₄)) w₄ in
          let k₅ : KnownWork E C w₅ = known_replace w₄ (next w₁) (to_instruction JumpIf (next w₄)) passes (known_emit_last w₃ Jump passes k₃) in
          known_replace (r w₅) (next w₃) (to_instruction Jump (next (r w₅))) passes (Y.keeps w₅ k₅);
    }

-- the tree that stands in words whose tokens are known

module _ {E : Error → Type 0} {C : Constant → Type 0} (w : List ℕ) (here : (i : ℕ) → 0 < span_at w i → KnownToken E (token_at w i)) (admits : Admits C) where
  token_is : (i : ℕ) (t : Token) → 0 < span_at w i → t ≡ token_at w i → KnownToken E t
  token_is i t l e = subst (KnownToken E) (sym e) (here i l)

  pub leaf : {i k : ℕ} {t : Token} → Leaf w i k t → KnownToken E t
  leaf {i} {k} {t} L = token_is i t (let q = L.head.span_is in omega (arith, q)) L.token

  pub headed : {i k s : ℕ} {t : Token} → Headed w i k s t → 0 < s → KnownToken E t
  headed {i} {k} {s} {t} L l = token_is i t (let q = L.head.span_is in omega (arith, q, l)) L.token

  leaf_at : {i k : ℕ} {t : Token} → Leaf w i k t → IsPosition t.position
  leaf_at L = ranged_position (leaf L).range

  headed_at : {i k s : ℕ} {t : Token} → Headed w i k s t → 0 < s → IsPosition t.position
  headed_at L l = ranged_position (headed L l).range

  mutual
    unfolding ExpressionAt compile_expression compile_integer_expression compile_float_expression compile_string_expression compile_boolean_expression
        compile_null_expression compile_identifier_expression compile_assign_name

    expression : (e : Expression) (i : ℕ) → ExpressionAt e w i → KeepsKnown E C (compile_expression e)
    expression (Identifier t) i x =
        name_known LocalGet ContextGet GlobalGet _ _ (λ n. passes) (λ n. passes) (λ n. passes)
        (admits.text _ (ranged_text 30 (leaf x).range (leaf_kind x) refl refl)) (leaf_at x)
    expression (This t) i x = this_known t (leaf_at x)
    expression (Null t) i x = emit_known (to_instruction PushConstant 0) _ passes (leaf_at x)
    expression (Integer t) i x = emit_constant_known PushConstant _ _ (λ n. passes) (admits.integer _) (leaf_at x)
    expression (Float t) i x = emit_constant_known PushConstant _ _ (λ n. passes) (admits.float _) (leaf_at x)
    expression (Text t) i x =
        emit_constant_known PushConstant _ _ (λ n. passes) (admits.text _ (ranged_text 35 (leaf x).range (leaf_kind x) refl refl)) (leaf_at x)
    expression (Boolean t) i x = emit_known _ _ passes (leaf_at x)
    expression (Array t values) i x = array_known (expressions values (i + 1) x.1) t _ (headed_at x.0 (omega arith))
    expression (Prefix t right) i x = prefix_known (expression right (i + 1) x.1) t (headed x.0 (omega arith))
    expression (Infix left t right) i x =
        infix_expression_known (expression left (i + 1) x.1) (expression right (i + 1 + size_e left) x.2)
        (target left (i + 1) x.1 t (headed x.0 (omega arith))) t (headed x.0 (omega arith))
    expression (If c t) i x = if_known (expression c (i + 1) x.1) (part_known (statements t (i + 1 + size_e c + 1) x.3)) no_part_known
    expression (IfElse c t f) i x =
        if_known (expression c (i + 1) x.1) (part_known (statements t (i + 1 + size_e c + 1) x.3))
        (part_known (statements f (i + 1 + size_e c + (1 + size_ss t) + 1) x.5))
    expression (Call t f ps) i x =
        call_known (expression f (i + 1) x.1) (expressions ps (i + 1 + size_e f) x.2) t _ (headed_at x.0 (omega arith))
    expression (InstanceGet t a b) i x =
        pair_known (expression a (i + 1) x.1) (expression b (i + 1 + size_e a) x.2) InstanceGetOp t passes (headed_at x.0 (omega arith))
    expression (IndexGet t a b) i x =
        pair_known (expression a (i + 1) x.1) (expression b (i + 1 + size_e a) x.2) IndexGetOp t passes (headed_at x.0 (omega arith))

    target : (e : Expression) (i : ℕ) → ExpressionAt e w i → (a : Token) → KnownToken E a → KeepsKnown E C (compile_assign_expression_left_part e a)
    target (Identifier t) i x a K =
        name_known LocalSet ContextSet GlobalSet _ _ (λ n. passes) (λ n. passes) (λ n. passes)
        (admits.text _ (ranged_text 30 (leaf x).range (leaf_kind x) refl refl)) (ranged_position K.range)
    target (This t) i x a K = error_known 2 a K (omega arith) (omega arith)
    target (Null t) i x a K = error_known 2 a K (omega arith) (omega arith)
    target (Integer t) i x a K = error_known 2 a K (omega arith) (omega arith)
    target (Float t) i x a K = error_known 2 a K (omega arith) (omega arith)
    target (Text t) i x a K = error_known 2 a K (omega arith) (omega arith)
    target (Boolean t) i x a K = error_known 2 a K (omega arith) (omega arith)
    target (Array t values) i x a K = error_known 2 a K (omega arith) (omega arith)
    target (Prefix t right) i x a K = error_known 2 a K (omega arith) (omega arith)
    target (Infix left t right) i x a K = error_known 2 a K (omega arith) (omega arith)
    target (If c t) i x a K = error_known 2 a K (omega arith) (omega arith)
    target (IfElse c t f) i x a K = error_known 2 a K (omega arith) (omega arith)
    target (Call t f ps) i x a K = error_known 2 a K (omega arith) (omega arith)
    target (InstanceGet t c d) i x a K =
        pair_known (expression c (i + 1) x.1) (expression d (i + 1 + size_e c) x.2) InstanceSet t passes (headed_at x.0 (omega arith))
    target (IndexGet t c d) i x a K =
        pair_known (expression c (i + 1) x.1) (expression d (i + 1 + size_e c) x.2) IndexSet t passes (headed_at x.0 (omega arith))

    expressions : (es : Expressions) (i : ℕ) → ExpressionsAt es w i → KeepsKnown E C (compile_expressions es)
    expressions ∅ₑ i x = skip_known
    expressions (e ∷ₑ es) i x = then_known (expression e i x.0) (expressions es (i + size_e e) x.1)

    variables : (vs : Variables) (i : ℕ) → VariablesAt vs w i → KeepsKnown E C (compile_variables vs)
    variables ∅ᵥ i x = skip_known
    variables (Bare t vs) i x = then_known (bare_known 1 t (leaf x.0) (omega arith) (omega arith)) (variables vs (i + 2) x.2)
    variables (Valued t e vs) i x = then_known (valued_known (expression e (i + 1) x.1) t (leaf x.0)) (variables vs (i + 1 + size_e e) x.2)

    statement : (s : Statement) (i : ℕ) → StatementAt s w i → KeepsKnown E C (compile_statement s)
    statement (Local vs) i x = deeper_known (variables vs (i + 1) x.1)
    statement (Return t) i x = deeper_known (return_known _ (leaf_at x))
    statement (For t n e ss) i x =
        deeper_known (for_known (expression e (i + 2) x.2) (statements ss (i + 2 + size_e e) x.3) t n (admits.integer 0)
        (headed_at x.0 (omega arith)) (leaf_at x.1))
    statement (Break t) i x = deeper_known (break_known _ (leaf_at x))
    statement (Rescue t) i x = deeper_known (rescue_known t (leaf x))
    statement (Expr e) i x = deeper_known (value_known_lem (expression e (i + 1) x.1))

    statements : (ss : Statements) (i : ℕ) → StatementsAt ss w i → KeepsKnown E C (compile_statements ss)
    statements ∅ₛ i x = skip_known
    statements (s ∷ₛ ss) i x = then_known (statement s i x.0) (statements ss (i + size_s s) x.1)

  -- functions

  parameter_known : (t : Token) → KnownToken E t → KeepsKnown E C (compile_parameter t)
  unfolding compile_parameter
  parameter_known t K = record { keeps = λ v k. (bare_known 7 t K (omega arith) (omega arith)).keeps _ (known_function v _ k k.code) }

  parameters : (ts : List Token) (i : ℕ) → ParametersAt ts w i → KeepsKnown E C (compile_parameters ts)
  unfolding ParametersAt compile_parameters
  parameters [] i x = skip_known
  parameters (t ∷ ts) i x = then_known (parameter_known t (leaf x.0)) (parameters ts (i + 1) x.2)

  -- whatever stood in the function state before
  pub function_known : (f : FunctionDefinition) (k i : ℕ) → FunctionAt k f w i → (v : Work) → All C v.context.constants → All E v.compiler.errors
      → KnownWork E C (compile_function_definition_base f.parameters f.body v)
  unfolding compile_function_definition_base
  function_known f k i x v cs es =
      let v₁ = compile_parameters f.parameters (with_function new_function_state v) in
      let k₀ : KnownWork E C (with_function new_function_state v) =
      record { code = record { instructions = nil; positions = nil }; constants = cs; errors = es } in
      let k₁ : KnownWork E C v₁ = (parameters f.parameters (i + 1) x.parameters).keeps (with_function new_function_state v) k₀ in
      let v₂ = doing (λ g. with_parameters g.header.is_instance (length f.parameters) g) v₁ in
      let v₃ = compile_statements f.body v₂ in
      let k₃ : KnownWork E C v₃ =
      (statements f.body (i + 1 + length f.parameters) x.body).keeps v₂ (known_function v₁ _ k₁ k₁.code) in
      known_function v₃ _ k₃ (code_return (get_last_position v₃.function) v₃.function (last_known v₃.function k₃.code) k₃.code)
