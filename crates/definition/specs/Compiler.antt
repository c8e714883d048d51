-- `backend/compiler.rs`: expressions, statements and function bodies. A step takes the states that the Rust passes on and gives them back.
-- What the Rust calls back into is passed to a step as a step: `condition`, `truePart`
use Rattle.std.specs.Prelude.{ℕ, suc, ◌+◌, ◌-◌, true, cond, List, [], ◌∷◌, ◌++◌, length, eqb, ltb}
use Rattle.std.proofs.Math.Option.{Option, none, some}
use Rattle.words.specs.Ast.{Token, Expression, Expressions, Variables, Statement, Statements}
use Rattle.words.specs.Ast.{Identifier, This, Null, Integer, Float, Text, Boolean, Array, Prefix, Infix, If, IfElse, Call, InstanceGet, IndexGet}
use Rattle.words.specs.Ast.{∅ₑ, ◌∷ₑ◌, ∅ᵥ, Bare, Valued, Local, Return, For, Break, Rescue, Expr, ∅ₛ, ◌∷ₛ◌}
use Rattle.words.specs.Areas.{code_area, constants_area, scope_names_area, breaks_area, errors_area}
use Rattle.words.specs.Object.{Constant, constant_of, NULL, TRUE, FALSE, integer_kind, float_kind, text_kind, is_shared, same_constant}
use Rattle.words.specs.Opcode.{Instruction, to_instruction, Pop, PushConstant, LocalSet, LocalGet, LocalInit, ContextSet, ContextGet, GlobalSet, GlobalGet}
use Rattle.words.specs.Opcode.{InstanceSet, InstanceGetOp, IndexSet, IndexGetOp, Operation, Not, Negative, CallOp, ArrayOp, Jump, JumpIf, ForNext, Iterate}
use Rattle.words.specs.Opcode.{OPERATION_EQUAL, OPERATION_AND, OPERATION_OR}
use Rattle.definition.specs.FunctionState as Emission
use Rattle.definition.specs.FunctionState.{Entry, FunctionState, new_function_state, with_depth, with_rescue, with_parameters}
use Rattle.definition.specs.FunctionState.{get_last_position, get_next_instruction_index, find_name}
use Rattle.definition.specs.Uses.{Use, using', total}

-- `CompileError`: its number in 01 stands for its message
pub record Error : Type 0 where
  pub number : ℕ
  pub token : Token

-- what functions need of the Rust's `CompilerContext`. `globals`: its global_dependencies, the latest first
pub record CompilerContext : Type 0 where
  pub constants : List Constant
  pub globals : List ℕ
  pub local_count : ℕ

-- what functions need of the Rust's `CompilerState`
pub record CompilerState : Type 0 where
  pub locals : List Entry
  pub errors : List Error

-- the three states; `before`: how many instructions the functions before this one have; `uses`: the entries in use so far, the newest note first
pub record Work : Type 0 where
  pub compiler : CompilerState
  pub context : CompilerContext
  pub function : FunctionState
  pub before : ℕ
  pub uses : List Use

abbrev pub Step : Type 0
Step = Work → Work

-- the function's state anew, with the entries that it then has in use: code, scope names, breaks (a break's Jump comes before its entry)
abbrev pub with_function : FunctionState → Step
with_function f w = record {
  compiler = w.compiler;
  context = w.context;
  function = f;
  before = w.before;
  uses = using' breaks_area (total f.break_scopes) ∷ using' scope_names_area (total f.scopes) ∷ using' code_area
      (w.before + length f.code.instructions) ∷ w.uses;
}

-- a method of the function's state as a step
abbrev pub doing : (FunctionState → FunctionState) → Step
doing m w = with_function (m w.function) w

-- `emit`, `emit_opcode`, `emit_opcode_without_position`, `replace_instruction`
abbrev pub emit : Instruction → ℕ → Step
emit i p = doing (Emission.emit i p)

abbrev pub emit_opcode : ℕ → ℕ → Step
emit_opcode o p = doing (Emission.emit_opcode o p)

abbrev pub emit_opcode_without_position : ℕ → Step
emit_opcode_without_position o = doing (Emission.emit_opcode_without_position o)

abbrev pub replace_instruction : ℕ → Instruction → Step
replace_instruction j i = doing (Emission.replace_instruction j i)

-- `get_next_instruction_index`
abbrev pub next : Work → ℕ
next w = get_next_instruction_index w.function

-- `push_error`
abbrev pub with_error : ℕ → Token → CompilerState → CompilerState
with_error n t s = record { locals = s.locals; errors = s.errors ++ (record { number = n; token = t } ∷ []) }

abbrev pub push_error : ℕ → Token → Step
push_error n t w = record {
  compiler = with_error n t w.compiler;
  context = w.context;
  function = w.function;
  before = w.before;
  uses = using' errors_area (length w.compiler.errors + 1) ∷ w.uses;
}

-- constants

-- the first of the constants that is the same as `c`, counted from `i`
abbrev pub find_constant : Constant → List Constant → ℕ → Option ℕ
find_constant c [] i = none
find_constant c (d ∷ ds) i = cond (same_constant c d) (some i) (find_constant c ds (i + 1))

-- a constant's number, with the states
pub record Added : Type 0 where
  pub index : ℕ
  pub work : Work

-- constants and marks anew, with the entries of area 2 then in use
abbrev pub with_constants : List Constant → List ℕ → Step
with_constants cs gs w = record {
  compiler = w.compiler;
  context = record { constants = cs; globals = gs; local_count = w.context.local_count };
  function = w.function;
  before = w.before;
  uses = using' constants_area (length cs) ∷ w.uses;
}

-- `add_constant_no_check`
abbrev pub add_constant_no_check : Constant → Work → Added
add_constant_no_check c w = record {
  index = length w.context.constants;
  work = with_constants (w.context.constants ++ (c ∷ [])) w.context.globals w;
}

abbrev pub add_constant_by : Option ℕ → Constant → Work → Added
add_constant_by (some i) c w = record { index = i; work = w }
add_constant_by none c w = add_constant_no_check c w

-- `add_constant`
unfoldable pub add_constant : Constant → Work → Added
add_constant c w = cond (is_shared c.kind) (add_constant_by (find_constant c w.context.constants 0) c w) (add_constant_no_check c w)

-- `global_dependencies.insert`
abbrev pub mark_global : ℕ → Step
mark_global i w = with_constants w.context.constants (i ∷ w.context.globals) w

-- an instruction over a new or an old constant
unfoldable pub emit_constant : ℕ → Constant → ℕ → Step
emit_constant o c p w =
    let a = add_constant c w in
    emit (to_instruction o a.index) p a.work

-- a global's name is a text constant with a mark
unfoldable pub emit_global : ℕ → ℕ → ℕ → Step
emit_global o name p w =
    let a = add_constant (constant_of text_kind name) w in
    emit (to_instruction o a.index) p (mark_global a.index a.work)

-- expressions

-- `compile_integer_expression`, `compile_float_expression`, `compile_string_expression`
unfoldable pub compile_integer_expression : Token → Step
compile_integer_expression t = emit_constant PushConstant (constant_of integer_kind t.value) t.position

unfoldable pub compile_float_expression : Token → Step
compile_float_expression t = emit_constant PushConstant (constant_of float_kind t.value) t.position

unfoldable pub compile_string_expression : Token → Step
compile_string_expression t = emit_constant PushConstant (constant_of text_kind t.value) t.position

-- `compile_boolean_expression`
unfoldable pub compile_boolean_expression : Token → Step
compile_boolean_expression t = emit (to_instruction PushConstant (cond (eqb t.value 1) TRUE FALSE)) t.position

-- the arm for null in `compile_expression`
unfoldable pub compile_null_expression : Token → Step
compile_null_expression t = emit (to_instruction PushConstant NULL) t.position

abbrev pub emit_name_in_context : Option ℕ → ℕ → ℕ → ℕ → ℕ → Step
emit_name_in_context (some i) context global name p = emit (to_instruction context i) p
emit_name_in_context none context global name p = emit_global global name p

abbrev pub emit_name_by : Option ℕ → ℕ → ℕ → ℕ → ℕ → ℕ → Step
emit_name_by (some i) local context global name p w = emit (to_instruction local i) p w
emit_name_by none local context global name p w = emit_name_in_context (find_name name w.compiler.locals) context global name p w

-- a name, read or set: by the opcode for a local, a context local or a global
unfoldable pub emit_name : ℕ → ℕ → ℕ → ℕ → ℕ → Step
emit_name local context global name p w = emit_name_by (Emission.find_local name w.function) local context global name p w

-- `compile_identifier_expression`
unfoldable pub compile_identifier_expression : Token → Step
compile_identifier_expression t = emit_name LocalGet ContextGet GlobalGet t.value t.position

-- `compile_this_expression`, with the ghost log of `this` reads
unfoldable pub compile_this_expression : Token → Step
compile_this_expression t =
    doing (λ f. Emission.with_this_reads (f.log.this_reads ++ (get_next_instruction_index f ∷ [])) (Emission.emit (to_instruction LocalGet 0) t.position f))

-- the identifier's arm of `compile_assign_expression_left_part`: `infix'` is the token of the assignment
unfoldable pub compile_assign_name : Token → Token → Step
compile_assign_name t infix' = emit_name LocalSet ContextSet GlobalSet t.value infix'.position

-- `compile_instance_get_expression`, `compile_index_get_expression`, and the two arms for them of `compile_assign_expression_left_part`
unfoldable pub compile_pair : ℕ → Token → Step → Step → Step
compile_pair o t instance index w =
    let w₁ = instance w in
    let w₂ = index w₁ in
    emit_opcode o t.position w₂

-- what an infix value of 01 asks for: `get_operation_instruction_by_token`, and the tests beside it in `compile_infix_expression`
pub data InfixKind : Type 0 where
  Assigning : InfixKind
  Plain : ℕ → InfixKind
  Negated : ℕ → InfixKind
  Compound : ℕ → InfixKind
  Unknown : InfixKind

-- by 01's infix values: 0 Assign; 1 to 5 plus, minus, star, slash, percent; 6 to 10 the same with assign; 11 Equal, 12 NotEqual, 13 Greater, 14 Less,
-- 15 GreaterEqual, 16 LessEqual, 17 And, 18 Or, 19 other. Each value beside its operation: `infix_operations` of `Kinds` in `Bench`
abbrev pub infix_kind : ℕ → InfixKind
infix_kind n =
    cond (eqb n 0) Assigning
    (cond (ltb n 6) (Plain (n - 1))
    (cond (ltb n 11) (Compound (n - 6))
    (cond (eqb n 11) (Plain OPERATION_EQUAL)
    (cond (eqb n 12) (Negated OPERATION_EQUAL)
    (cond (ltb n 17) (Plain (n - 7))
    (cond (eqb n 17) (Plain OPERATION_AND)
    (cond (eqb n 18) (Plain OPERATION_OR) Unknown)))))))

-- `compile_assign_expression`: right before left
unfoldable pub compile_assign_expression : Step → Step → Step
compile_assign_expression right target w =
    let w₁ = right w in
    target w₁

-- left, right, and the operation: what `compile_infix_expression` does where there is an operation
unfoldable pub compile_operation : ℕ → Token → Step → Step → Step
compile_operation n t left right w =
    let w₁ = left w in
    let w₂ = right w₁ in
    emit (to_instruction Operation n) t.position w₂

abbrev pub compile_infix_by : InfixKind → Token → Step → Step → Step → Step
compile_infix_by Assigning t left right target w = compile_assign_expression right target w
compile_infix_by (Plain n) t left right target w = compile_operation n t left right w
compile_infix_by (Negated n) t left right target w = let w₁ = compile_operation n t left right w in emit_opcode Not t.position w₁
compile_infix_by (Compound n) t left right target w = let w₁ = compile_operation n t left right w in target w₁
compile_infix_by Unknown t left right target w = push_error 3 t w

-- `compile_infix_expression`
unfoldable pub compile_infix_expression : Token → Step → Step → Step → Step
compile_infix_expression t left right target w = compile_infix_by (infix_kind t.value) t left right target w

-- `compile_prefix_expression`: 0 Minus, 1 Not, 2 other
unfoldable pub compile_prefix_expression : Token → Step → Step
compile_prefix_expression t right w =
    let w₁ = right w in
    cond (eqb t.value 0) (emit_opcode Negative t.position w₁) (cond (eqb t.value 1) (emit_opcode Not t.position w₁) (push_error 3 t w₁))

-- `compile_call_expression`
unfoldable pub compile_call_expression : Token → ℕ → Step → Step → Step
compile_call_expression t count function parameters w =
    let w₁ = function w in
    let w₂ = parameters w₁ in
    emit (to_instruction CallOp count) t.position w₂

-- `compile_array_expression`
unfoldable pub compile_array_expression : Token → ℕ → Step → Step
compile_array_expression t count values w =
    let w₁ = values w in
    emit (to_instruction ArrayOp count) t.position w₁

-- a part of an if: its statements in a scope, then their value
unfoldable pub compile_part : Step → Step
compile_part statements w =
    let w₁ = doing Emission.enter_scope w in
    let w₂ = statements w₁ in
    let w₃ = doing Emission.exit_scope w₂ in
    doing Emission.remove_pop_or_push_null w₃

-- no false part
unfoldable pub compile_no_part : Step
compile_no_part = doing Emission.emit_null

-- `compile_if_expression`: the false part before the true part
unfoldable pub compile_if_expression : Step → Step → Step → Step
compile_if_expression condition truePart falsePart w =
    let w₁ = condition w in
    let truePartIndex = next w₁ in
    let w₂ = emit_opcode_without_position JumpIf w₁ in
    let w₃ = falsePart w₂ in
    let jumpToEndIndex = next w₃ in
    let w₄ = emit_opcode_without_position Jump w₃ in
    let w₅ = replace_instruction truePartIndex (to_instruction JumpIf (next w₄)) w₄ in
    let w₆ = truePart w₅ in
    replace_instruction jumpToEndIndex (to_instruction Jump (next w₆)) w₆

-- statements

-- `unwrap`, with a number for none
abbrev pub found_or : ℕ → Option ℕ → ℕ
found_or d none = d
found_or d (some i) = i

-- `compile_for_statement`. The name is in a scope just entered, so it is never there before: the Rust unwraps, and here a 0 stands for none
unfoldable pub compile_for_statement : Token → Token → Step → Step → Step
compile_for_statement t identifier enumerable statements w =
    let enumerableIndex = w.function.header.local_count in
    let iteratorIndex = w.function.header.local_count + 1 in
    let w₁ = doing (λ f. Emission.enter_break_scope (Emission.enter_scope (Emission.define_anonymous_local (Emission.define_anonymous_local f)))) w in
    let w₂ = enumerable w₁ in
    let w₃ = emit_opcode_without_position Pop (emit (to_instruction LocalSet enumerableIndex) t.position w₂) in
    let w₄ = emit_constant PushConstant (constant_of integer_kind 0) t.position w₃ in
    let w₅ = emit_opcode_without_position Pop (emit (to_instruction LocalSet iteratorIndex) t.position w₄) in
    let d = Emission.define_local identifier.value w₅.function in
    let w₆ = with_function d.state w₅ in
    let startLoopPosition = next w₆ in
    let w₇ = emit (to_instruction ForNext enumerableIndex) t.position w₆ in
    let exit = next w₇ in
    let w₈ = emit_opcode_without_position JumpIf w₇ in
    let w₉ = emit_opcode_without_position Pop (emit (to_instruction LocalSet (found_or 0 d.found)) identifier.position w₈) in
    let v₁ = statements w₉ in
    let v₂ = emit (to_instruction Iterate iteratorIndex) (get_last_position v₁.function) v₁ in
    let v₃ = emit (to_instruction Jump startLoopPosition) (get_last_position v₂.function) v₂ in
    let v₄ = replace_instruction exit (to_instruction JumpIf (next v₃)) v₃ in
    let v₅ = doing (Emission.exit_break_scope exit) v₄ in
    doing Emission.exit_scope v₅

-- the expression's arm of `compile_statement`
unfoldable pub compile_expression_statement : Step → Step
compile_expression_statement expression w =
    let w₁ = expression w in
    emit_opcode_without_position Pop w₁

abbrev pub valued_by : Option ℕ → Token → Step → Step
valued_by none t expression w = push_error 1 t w
valued_by (some i) t expression w = let w₁ = expression w in emit (to_instruction LocalInit i) t.position w₁

-- a variable with its value: the local's arm of `compile_statement`
unfoldable pub compile_valued : Token → Step → Step
compile_valued t expression w =
    let d = Emission.define_local t.value w.function in
    valued_by d.found t expression (with_function d.state w)

abbrev pub bare_by : Option ℕ → ℕ → Token → Step
bare_by none n t w = push_error n t w
bare_by (some i) n t w = w

-- a variable without a value, or a parameter: `n` is the error where the name is there already
unfoldable pub compile_bare : ℕ → Token → Step
compile_bare n t w =
    let d = Emission.define_local t.value w.function in
    bare_by d.found n t (with_function d.state w)

-- the rescue's arm of `compile_statement`
unfoldable pub compile_rescue : Token → Step
compile_rescue t w =
    cond (ltb 1 w.function.depth) (push_error 4 t w)
    (doing (λ f. let g = Emission.emit_return t.position f in with_rescue (get_next_instruction_index g) g) w)

-- `compile_statement` around its `match`: one deeper, and back
unfoldable pub deeper : Step → Step
deeper statement w =
    let w₁ = doing (λ f. with_depth (f.depth + 1) f) w in
    let w₂ = statement w₁ in
    doing (λ f. with_depth (f.depth - 1) f) w₂

-- nothing, and one step after the other: the Rust's loops over lists
unfoldable pub skip : Step
skip w = w

unfoldable pub and_then : Step → Step → Step
and_then s t w = let w₁ = s w in t w₁

-- the recursion only dispatches
unfoldable mutual
  -- `compile_expression`
  pub compile_expression : Expression → Step
  compile_expression (Identifier t) = compile_identifier_expression t
  compile_expression (This t) = compile_this_expression t
  compile_expression (Null t) = compile_null_expression t
  compile_expression (Integer t) = compile_integer_expression t
  compile_expression (Float t) = compile_float_expression t
  compile_expression (Text t) = compile_string_expression t
  compile_expression (Boolean t) = compile_boolean_expression t
  compile_expression (Array t values) = compile_array_expression t (count values) (compile_expressions values)
  compile_expression (Prefix t right) = compile_prefix_expression t (compile_expression right)
  compile_expression (Infix left t right) =
      compile_infix_expression t (compile_expression left) (compile_expression right) (compile_assign_expression_left_part left t)
  compile_expression (If condition truePart) = compile_if_expression (compile_expression condition) (compile_part (compile_statements truePart)) compile_no_part
  compile_expression (IfElse condition truePart falsePart) =
      compile_if_expression (compile_expression condition) (compile_part (compile_statements truePart)) (compile_part (compile_statements falsePart))
  compile_expression (Call t function parameters) = compile_call_expression t (count parameters) (compile_expression function) (compile_expressions parameters)
  compile_expression (InstanceGet t instance index) = compile_pair InstanceGetOp t (compile_expression instance) (compile_expression index)
  compile_expression (IndexGet t instance index) = compile_pair IndexGetOp t (compile_expression instance) (compile_expression index)

  -- `compile_assign_expression_left_part`: `a` is the token of the assignment
  pub compile_assign_expression_left_part : Expression → Token → Step
  compile_assign_expression_left_part (Identifier t) a = compile_assign_name t a
  compile_assign_expression_left_part (This t) a = push_error 2 a
  compile_assign_expression_left_part (Null t) a = push_error 2 a
  compile_assign_expression_left_part (Integer t) a = push_error 2 a
  compile_assign_expression_left_part (Float t) a = push_error 2 a
  compile_assign_expression_left_part (Text t) a = push_error 2 a
  compile_assign_expression_left_part (Boolean t) a = push_error 2 a
  compile_assign_expression_left_part (Array t values) a = push_error 2 a
  compile_assign_expression_left_part (Prefix t right) a = push_error 2 a
  compile_assign_expression_left_part (Infix left t right) a = push_error 2 a
  compile_assign_expression_left_part (If condition truePart) a = push_error 2 a
  compile_assign_expression_left_part (IfElse condition truePart falsePart) a = push_error 2 a
  compile_assign_expression_left_part (Call t function parameters) a = push_error 2 a
  compile_assign_expression_left_part (InstanceGet t instance index) a = compile_pair InstanceSet t (compile_expression instance) (compile_expression index)
  compile_assign_expression_left_part (IndexGet t instance index) a = compile_pair IndexSet t (compile_expression instance) (compile_expression index)

  -- `len`
  pub count : Expressions → ℕ
  count ∅ₑ = 0
  count (e ∷ₑ es) = suc (count es)

  pub compile_expressions : Expressions → Step
  compile_expressions ∅ₑ = skip
  compile_expressions (e ∷ₑ es) = and_then (compile_expression e) (compile_expressions es)

  pub compile_variables : Variables → Step
  compile_variables ∅ᵥ = skip
  compile_variables (Bare t vs) = and_then (compile_bare 1 t) (compile_variables vs)
  compile_variables (Valued t e vs) = and_then (compile_valued t (compile_expression e)) (compile_variables vs)

  -- `compile_statement`
  pub compile_statement : Statement → Step
  compile_statement (Local vs) = deeper (compile_variables vs)
  compile_statement (Return t) = deeper (doing (Emission.emit_return t.position))
  compile_statement (For t identifier enumerable statements) =
      deeper (compile_for_statement t identifier (compile_expression enumerable) (compile_statements statements))
  compile_statement (Break t) = deeper (doing (Emission.emit_break t.position))
  compile_statement (Rescue t) = deeper (compile_rescue t)
  compile_statement (Expr e) = deeper (compile_expression_statement (compile_expression e))

  pub compile_statements : Statements → Step
  compile_statements ∅ₛ = skip
  compile_statements (s ∷ₛ ss) = and_then (compile_statement s) (compile_statements ss)

-- functions

-- a parameter: kind 41 is `this`
unfoldable pub compile_parameter : Token → Step
compile_parameter t w =
    let w₁ = doing (λ f. with_parameters (cond (eqb t.kind 41) true f.header.is_instance) f.header.parameter_count f) w in
    compile_bare 7 t w₁

unfoldable pub compile_parameters : List Token → Step
compile_parameters [] = skip
compile_parameters (t ∷ ts) = and_then (compile_parameter t) (compile_parameters ts)

-- `compile_function_definition_base`
unfoldable pub compile_function_definition_base : List Token → Statements → Step
compile_function_definition_base parameters body w =
    let w₁ = compile_parameters parameters (with_function new_function_state w) in
    let w₂ = doing (λ f. with_parameters f.header.is_instance (length parameters) f) w₁ in
    let w₃ = compile_statements body w₂ in
    doing (λ f. Emission.emit_return (get_last_position f) f) w₃
