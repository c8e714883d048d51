-- What every piece of compiling leaves as it was: the depth, the book's names, the code before the function; notes are only added, and constants are added to
-- the pool as `add_constant` does (`PoolGrows`), marks in front (`MarksGrow`). By one lemma for each combinator over arbitrary steps, and one induction on
-- the tree. Assumes nothing.
use Prim.Native.Nat.{ℕ, ◌+◌, ◌-◌}
use native.Mathlib.Omega.{arith}
use mathlib.Core.Path.{◌≡◌, refl, ap, ◌∙◌}
use mathlib.Core.Bool.{not}
use mathlib.Core.Option.{Option, none, some}
use mathlib.Core.List.{List, [], ◌∷◌, ◌++◌}
use lib.ListN.{length}
use lib.Dec.{T, eqb, ltb}
use Rattle.words.specs.Ast.{Token, Expression, Expressions, Variables, Statement, Statements, FunctionDefinition}
use Rattle.words.specs.Ast.{Identifier, This, Null, Integer, Float, Text, Boolean, Array, Prefix, Infix, If, IfElse, Call, InstanceGet, IndexGet}
use Rattle.words.specs.Ast.{∅ₑ, ◌∷ₑ◌, ∅ᵥ, Bare, Valued, Local, Return, For, Break, Rescue, Expr, ∅ₛ, ◌∷ₛ◌}
use Rattle.words.specs.Object.{Constant, constant_of, is_shared, integer_kind}
use Rattle.words.specs.Opcode.{Instruction, to_instruction, Pop, PushConstant, ReturnOp, Jump, JumpIf, LocalSet, ForNext, Iterate}
use Rattle.definition.specs.FunctionState as Emission
use Rattle.definition.specs.FunctionState.{FunctionState, remove_pop_or_push_null, emit_return, emit_break, exit_break_scope, define_local, last_opcode}
use Rattle.definition.specs.FunctionState.{find_name, get_next_instruction_index, new_function_state}
use Rattle.definition.specs.Uses.{Use}
use Rattle.definition.specs.Compiler
use Rattle.definition.specs.Compiler.{Work, Step, Added, with_function, doing, emit, emit_opcode, push_error, add_constant, add_constant_no_check}
use Rattle.definition.specs.Compiler.{find_constant}
use Rattle.definition.specs.Compiler.{emit_constant, emit_global, emit_name, InfixKind, Assigning, Plain, Negated, Compound, Unknown, infix_kind}
use Rattle.definition.specs.Compiler.{compile_infix_by}
use Rattle.definition.specs.Compiler.{compile_statement, compile_statements, compile_expression, compile_expressions, compile_variables}
use Rattle.definition.specs.Compiler.{compile_assign_expression_left_part, compile_parameter, compile_parameters, skip, and_then, deeper, compile_rescue}
use Rattle.definition.specs.Compiler.{compile_bare}
use Rattle.definition.specs.Compiler.{compile_valued, compile_expression_statement, compile_for_statement, compile_if_expression, compile_part, compile_no_part}
use Rattle.definition.specs.Compiler.{compile_array_expression, compile_call_expression, compile_prefix_expression, compile_infix_expression, compile_operation}
use Rattle.definition.specs.Compiler.{compile_assign_expression, compile_pair, compile_assign_name, compile_this_expression, compile_identifier_expression}
use Rattle.definition.specs.Compiler.{compile_null_expression, compile_boolean_expression, compile_string_expression, compile_float_expression}
use Rattle.definition.specs.Compiler.{compile_integer_expression, compile_function_definition_base}
use Rattle.definition_laws.proofs.Defining.{define_cases}
use Rattle.definition_laws.proofs.Lists.{cond_case}

-- notes are added in front
pub data NotesGrow (us : List Use) : List Use → Type 0 where
  same : NotesGrow us us
  more : {vs : List Use} {v : Use} → NotesGrow us vs → NotesGrow us (v ∷ vs)

pub longer_trans : {us vs ws : List Use} → NotesGrow us vs → NotesGrow vs ws → NotesGrow us ws
longer_trans l same = l
longer_trans l (more m) = more (longer_trans l m)

-- constants are added at the end: one that is not shared, or one that is not found
pub data PoolGrows (cs : List Constant) : List Constant → Type 0 where
  same_pool : PoolGrows cs cs
  not_shared : (ds : List Constant) (d : Constant) → PoolGrows cs ds → T (not (is_shared d.kind)) → PoolGrows cs (ds ++ (d ∷ []))
  not_found : (ds : List Constant) (d : Constant) → PoolGrows cs ds → find_constant d ds 0 ≡ none → PoolGrows cs (ds ++ (d ∷ []))

pub grows_trans : {bs cs ds : List Constant} → PoolGrows bs cs → PoolGrows cs ds → PoolGrows bs ds
grows_trans g same_pool = g
grows_trans g (not_shared ds d h t) = not_shared ds d (grows_trans g h) t
grows_trans g (not_found ds d h e) = not_found ds d (grows_trans g h) e

-- marks are added in front
pub data MarksGrow (gs : List ℕ) : List ℕ → Type 0 where
  same_marks : MarksGrow gs gs
  mark_more : {hs : List ℕ} (n : ℕ) → MarksGrow gs hs → MarksGrow gs (n ∷ hs)

pub marks_trans : {fs gs hs : List ℕ} → MarksGrow fs gs → MarksGrow gs hs → MarksGrow fs hs
marks_trans g same_marks = g
marks_trans g (mark_more n h) = mark_more n (marks_trans g h)

pub record StepPreserves (w w' : Work) : Type 0 where
  pub depth : w'.function.depth ≡ w.function.depth
  pub locals : w'.compiler.locals ≡ w.compiler.locals
  pub before : w'.before ≡ w.before
  pub uses : NotesGrow w.uses w'.uses
  pub pool : PoolGrows w.context.constants w'.context.constants
  pub marks : MarksGrow w.context.globals w'.context.globals

abbrev pub Steadily : Step → Type 0
Steadily s = (w : Work) → StepPreserves w (s w)

pub preserves_refl : (w : Work) → StepPreserves w w
preserves_refl w = record { depth = refl; locals = refl; before = refl; uses = same; pool = same_pool; marks = same_marks }

pub preserves_trans : {a b c : Work} → StepPreserves a b → StepPreserves b c → StepPreserves a c
preserves_trans m n = record {
  depth = n.depth ∙ m.depth;
  locals = n.locals ∙ m.locals;
  before = n.before ∙ m.before;
  uses = longer_trans m.uses n.uses;
  pool = grows_trans m.pool n.pool;
  marks = marks_trans m.marks n.marks;
}

-- a change of the function state alone that keeps the depth
pub preserves_function : (w : Work) (f : FunctionState) → f.depth ≡ w.function.depth → StepPreserves w (with_function f w)
preserves_function w f e = record { depth = e; locals = refl; before = refl; uses = more (more (more same)); pool = same_pool; marks = same_marks }

pub preserves_emit : (i : Instruction) (p : ℕ) → Steadily (emit i p)
preserves_emit i p w = preserves_function w _ refl

pub preserves_error : (n : ℕ) (t : Token) → Steadily (push_error n t)
preserves_error n t w = record { depth = refl; locals = refl; before = refl; uses = more same; pool = same_pool; marks = same_marks }

-- function_state.rs

close_depth : (f : FunctionState) → (remove_pop_or_push_null f).depth ≡ f.depth
unfolding remove_pop_or_push_null
close_depth f = cond_case (λ (g : FunctionState). g.depth ≡ f.depth) (eqb (last_opcode f) Pop) (λ t. refl)
    (λ t. cond_case (λ (g : FunctionState). g.depth ≡ f.depth) (eqb (last_opcode f) ReturnOp) (λ s. refl) (λ s. refl))

return_depth : (p : ℕ) (f : FunctionState) → (emit_return p f).depth ≡ f.depth
unfolding emit_return
return_depth p f = cond_case (λ (g : FunctionState). g.depth ≡ f.depth) (eqb (last_opcode (remove_pop_or_push_null f)) ReturnOp)
    (λ t. close_depth f) (λ t. close_depth f)

pub preserves_close : Steadily (doing remove_pop_or_push_null)
preserves_close w = preserves_function w _ (close_depth w.function)

pub preserves_return : (p : ℕ) → Steadily (doing (emit_return p))
preserves_return p w = preserves_function w _ (return_depth p w.function)

pub preserves_break : (p : ℕ) → Steadily (doing (emit_break p))
unfolding emit_break
preserves_break p w = go w.function.break_scopes
  where
    go : (bs : List (List ℕ)) → StepPreserves w (with_function (Emission.emit_break_in bs p w.function) w)
    go [] = preserves_function w _ refl
    go (s ∷ ss) = preserves_function w _ refl

pub preserves_define : (n : ℕ) (w : Work) → StepPreserves w (with_function (define_local n w.function).state w)
preserves_define n w = define_cases (λ d. StepPreserves w (with_function d.state w)) n w.function go
  where
    go : (o : Option ℕ) → StepPreserves w (with_function (Emission.define_local_by o n w.function).state w)
    go none = preserves_function w _ refl
    go (some i) = preserves_function w _ refl

-- compiler.rs: leaves

pub preserves_constant : (c : Constant) (w : Work) → StepPreserves w (add_constant c w).work
unfolding add_constant
preserves_constant c w =
    cond_case (λ (a : Added). StepPreserves w a.work) (is_shared c.kind) (λ t. go (find_constant c w.context.constants 0) refl)
    (λ t. new (not_shared w.context.constants c same_pool t))
  where
    new : PoolGrows w.context.constants (w.context.constants ++ (c ∷ [])) → StepPreserves w (add_constant_no_check c w).work
    new g = record { depth = refl; locals = refl; before = refl; uses = more same; pool = g; marks = same_marks }

    go : (o : Option ℕ) → find_constant c w.context.constants 0 ≡ o → StepPreserves w (Compiler.add_constant_by o c w).work
    go none e = new (not_found w.context.constants c same_pool e)
    go (some i) e = preserves_refl w

pub preserves_mark : (i : ℕ) → Steadily (Compiler.mark_global i)
preserves_mark i w = record { depth = refl; locals = refl; before = refl; uses = more same; pool = same_pool; marks = mark_more i same_marks }

pub preserves_emit_constant : (o : ℕ) (c : Constant) (p : ℕ) → Steadily (emit_constant o c p)
unfolding emit_constant
preserves_emit_constant o c p w = preserves_trans (preserves_constant c w) (preserves_emit _ p _)

pub preserves_global : (o n p : ℕ) → Steadily (emit_global o n p)
unfolding emit_global
preserves_global o n p w = preserves_trans (preserves_constant _ w) (preserves_trans (preserves_mark _ _) (preserves_emit _ p _))

pub preserves_name : (l c g n p : ℕ) → Steadily (emit_name l c g n p)
unfolding emit_name
preserves_name l c g n p w = go (Emission.find_local n w.function)
  where
    inner : (o : Option ℕ) → StepPreserves w (Compiler.emit_name_in_context o c g n p w)
    inner none = preserves_global g n p w
    inner (some i) = preserves_emit _ p w

    go : (o : Option ℕ) → StepPreserves w (Compiler.emit_name_by o l c g n p w)
    go none = inner (find_name n w.compiler.locals)
    go (some i) = preserves_emit _ p w

pub preserves_this : (t : Token) → Steadily (compile_this_expression t)
unfolding compile_this_expression
preserves_this t w = preserves_function w _ refl

-- compiler.rs: compounds

module _ {a b : Step} (A : Steadily a) (B : Steadily b) where
  pub preserves_then : Steadily (and_then a b)
  unfolding and_then
  preserves_then w = preserves_trans (A w) (B _)

  pub preserves_pair : (o : ℕ) (t : Token) → Steadily (compile_pair o t a b)
  unfolding compile_pair
  preserves_pair o t w = preserves_trans (A w) (preserves_trans (B _) (preserves_emit _ _ _))

  pub preserves_assign : Steadily (compile_assign_expression a b)
  unfolding compile_assign_expression
  preserves_assign w = preserves_trans (A w) (B _)

  pub preserves_operation : (n : ℕ) (t : Token) → Steadily (compile_operation n t a b)
  unfolding compile_operation
  preserves_operation n t w = preserves_trans (A w) (preserves_trans (B _) (preserves_emit _ _ _))

  pub preserves_call : (t : Token) (n : ℕ) → Steadily (compile_call_expression t n a b)
  unfolding compile_call_expression
  preserves_call t n w = preserves_trans (A w) (preserves_trans (B _) (preserves_emit _ _ _))

pub preserves_array : {a : Step} → Steadily a → (t : Token) (n : ℕ) → Steadily (compile_array_expression t n a)
unfolding compile_array_expression
preserves_array A t n w = preserves_trans (A w) (preserves_emit _ _ _)

pub preserves_prefix : {a : Step} → Steadily a → (t : Token) → Steadily (compile_prefix_expression t a)
unfolding compile_prefix_expression
preserves_prefix {a} A t w = preserves_trans (A w)
    (cond_case (StepPreserves (a w)) (eqb t.value 0) (λ h. preserves_emit _ _ _)
    (λ h. cond_case (StepPreserves (a w)) (eqb t.value 1) (λ k. preserves_emit _ _ _) (λ k. preserves_error 3 t _)))

pub preserves_infix : {l r g : Step} → Steadily l → Steadily r → Steadily g → (t : Token) → Steadily (compile_infix_expression t l r g)
unfolding compile_infix_expression
preserves_infix {l} {r} {g} L R G t w = go (infix_kind t.value)
  where
    go : (k : InfixKind) → StepPreserves w (compile_infix_by k t l r g w)
    go Assigning = preserves_assign R G w
    go (Plain n) = preserves_operation L R n t w
    go (Negated n) = preserves_trans (preserves_operation L R n t w) (preserves_emit _ _ _)
    go (Compound n) = preserves_trans (preserves_operation L R n t w) (G _)
    go Unknown = preserves_error 3 t w

pub preserves_skip : Steadily skip
unfolding skip
preserves_skip w = preserves_refl w

pub preserves_part : {a : Step} → Steadily a → Steadily (compile_part a)
unfolding compile_part
preserves_part A w = preserves_trans (preserves_function w _ refl) (preserves_trans (A _) (preserves_trans (preserves_function _ _ refl) (preserves_close _)))

pub preserves_no_part : Steadily compile_no_part
unfolding compile_no_part
preserves_no_part w = preserves_function w _ refl

pub preserves_if : {c t f : Step} → Steadily c → Steadily t → Steadily f → Steadily (compile_if_expression c t f)
unfolding compile_if_expression
preserves_if {c} {t} {f} C R F w =
    let w₁ = c w in
    let w₂ = Compiler.emit_opcode_without_position JumpIf w₁ in
    let w₃ = f w₂ in
    let w₄ = Compiler.emit_opcode_without_position Jump w₃ in
    let w₅ = Compiler.replace_instruction (Compiler.next w₁) (to_instruction JumpIf (Compiler.next w₄)) w₄ in
    let w₆ = t w₅ in
    let s₂ : StepPreserves w₁ w₂ = preserves_function w₁ _ refl in
    let s₄ : StepPreserves w₃ w₄ = preserves_function w₃ _ refl in
    let s₅ : StepPreserves w₄ w₅ = preserves_function w₄ _ refl in
    let s₇ : StepPreserves w₆ (Compiler.replace_instruction (Compiler.next w₃) (to_instruction Jump (Compiler.next w₆)) w₆) = preserves_function w₆ _ refl in
    preserves_trans (C w) (preserves_trans s₂ (preserves_trans (F w₂) (preserves_trans s₄ (preserves_trans s₅ (preserves_trans (R w₅) s₇)))))

pub preserves_for : {a b : Step} → Steadily a → Steadily b → (t i : Token) → Steadily (compile_for_statement t i a b)
unfolding compile_for_statement exit_break_scope
preserves_for {a} {b} A B t i w =
    let x = w.function.header.local_count in
    let p = t.position in
    let w₁ = doing (λ f. Emission.enter_break_scope (Emission.enter_scope (Emission.define_anonymous_local (Emission.define_anonymous_local f)))) w in
    let w₂ = a w₁ in
    let u₃ = emit (to_instruction LocalSet x) p w₂ in
    let w₃ = Compiler.emit_opcode_without_position Pop u₃ in
    let w₄ = emit_constant PushConstant (constant_of integer_kind 0) p w₃ in
    let u₅ = emit (to_instruction LocalSet (x + 1)) p w₄ in
    let w₅ = Compiler.emit_opcode_without_position Pop u₅ in
    let d = define_local i.value w₅.function in
    let w₆ = with_function d.state w₅ in
    let w₇ = emit (to_instruction ForNext x) p w₆ in
    let w₈ = Compiler.emit_opcode_without_position JumpIf w₇ in
    let u₉ = emit (to_instruction LocalSet (Compiler.found_or 0 d.found)) i.position w₈ in
    let w₉ = Compiler.emit_opcode_without_position Pop u₉ in
    let v₁ = b w₉ in
    let v₂ = emit (to_instruction Iterate (x + 1)) (Emission.get_last_position v₁.function) v₁ in
    let v₃ = emit (to_instruction Jump (Compiler.next w₆)) (Emission.get_last_position v₂.function) v₂ in
    let v₄ = Compiler.replace_instruction (Compiler.next w₇) (to_instruction JumpIf (Compiler.next v₃)) v₃ in
    let v₅ = doing (exit_break_scope (Compiler.next w₇)) v₄ in
    let s₁ : StepPreserves w w₁ = preserves_function w _ refl in
    let s₃ : StepPreserves w₂ w₃ = preserves_trans {b = u₃} (preserves_function w₂ _ refl) (preserves_function u₃ _ refl) in
    let s₄ : StepPreserves w₃ w₄ = preserves_emit_constant _ _ _ w₃ in
    let s₅ : StepPreserves w₄ w₅ = preserves_trans {b = u₅} (preserves_function w₄ _ refl) (preserves_function u₅ _ refl) in
    let s₆ : StepPreserves w₅ w₆ = preserves_define i.value w₅ in
    let s₈ : StepPreserves w₆ w₈ = preserves_trans {b = w₇} (preserves_function w₆ _ refl) (preserves_function w₇ _ refl) in
    let s₉ : StepPreserves w₈ w₉ = preserves_trans {b = u₉} (preserves_function w₈ _ refl) (preserves_function u₉ _ refl) in
    let r₃ : StepPreserves v₁ v₃ = preserves_trans {b = v₂} (preserves_function v₁ _ refl) (preserves_function v₂ _ refl) in
    let r₅ : StepPreserves v₃ v₅ = preserves_trans {b = v₄} (preserves_function v₃ _ refl) (preserves_function v₄ _ refl) in
    let r₆ : StepPreserves v₅ (doing Emission.exit_scope v₅) = preserves_function v₅ _ refl in
    preserves_trans s₁ (preserves_trans (A w₁) (preserves_trans s₃ (preserves_trans s₄ (preserves_trans s₅ (preserves_trans s₆ (preserves_trans s₈
    (preserves_trans s₉ (preserves_trans (B w₉) (preserves_trans r₃ (preserves_trans r₅ r₆))))))))))

pub preserves_expression_statement : {a : Step} → Steadily a → Steadily (compile_expression_statement a)
unfolding compile_expression_statement
preserves_expression_statement A w = preserves_trans (A w) (preserves_emit _ _ _)

pub preserves_valued : {a : Step} → Steadily a → (t : Token) → Steadily (compile_valued t a)
unfolding compile_valued
preserves_valued {a} A t w = preserves_trans (preserves_define t.value w) (go (define_local t.value w.function).found)
  where
    v : Work
    v = with_function (define_local t.value w.function).state w

    go : (o : Option ℕ) → StepPreserves v (Compiler.valued_by o t a v)
    go none = preserves_error 1 t v
    go (some i) = preserves_trans (A v) (preserves_emit _ _ _)

pub preserves_bare : (n : ℕ) (t : Token) → Steadily (compile_bare n t)
unfolding compile_bare
preserves_bare n t w = preserves_trans (preserves_define t.value w) (go (define_local t.value w.function).found)
  where
    v : Work
    v = with_function (define_local t.value w.function).state w

    go : (o : Option ℕ) → StepPreserves v (Compiler.bare_by o n t v)
    go none = preserves_error n t v
    go (some i) = preserves_refl v

pub preserves_rescue : (t : Token) → Steadily (compile_rescue t)
unfolding compile_rescue
preserves_rescue t w = cond_case (StepPreserves w) (ltb 1 w.function.depth) (λ h. preserves_error 4 t w)
    (λ h. preserves_function w _ (return_depth t.position w.function))

pub preserves_deeper : {a : Step} → Steadily a → Steadily (deeper a)
unfolding deeper
preserves_deeper {a} A w = record {
  depth = ap (λ n. n - 1) s.depth ∙ down w.function.depth;
  locals = s.locals;
  before = s.before;
  uses = more (more (more (longer_trans (more (more (more same))) s.uses)));
  pool = s.pool;
  marks = s.marks;
}
  where
    w₁ : Work
    w₁ = doing (λ f. Emission.with_depth (f.depth + 1) f) w

    s : StepPreserves w₁ (a w₁)
    s = A w₁

    down : (n : ℕ) → n + 1 - 1 ≡ n
    down n = omega arith

-- every piece

mutual
  unfolding compile_expression compile_integer_expression compile_float_expression compile_string_expression compile_boolean_expression compile_null_expression
      compile_identifier_expression compile_assign_name

  pub preserves_expression : (e : Expression) → Steadily (compile_expression e)
  preserves_expression (Identifier t) = preserves_name _ _ _ _ _
  preserves_expression (This t) = preserves_this t
  preserves_expression (Null t) = preserves_emit _ _
  preserves_expression (Integer t) = preserves_emit_constant _ _ _
  preserves_expression (Float t) = preserves_emit_constant _ _ _
  preserves_expression (Text t) = preserves_emit_constant _ _ _
  preserves_expression (Boolean t) = preserves_emit _ _
  preserves_expression (Array t values) = preserves_array (preserves_expressions values) _ _
  preserves_expression (Prefix t right) = preserves_prefix (preserves_expression right) t
  preserves_expression (Infix left t right) = preserves_infix (preserves_expression left) (preserves_expression right) (preserves_target left t) t
  preserves_expression (If condition truePart) =
      preserves_if (preserves_expression condition) (preserves_part (preserves_statements truePart)) preserves_no_part
  preserves_expression (IfElse condition truePart falsePart) =
      preserves_if (preserves_expression condition) (preserves_part (preserves_statements truePart)) (preserves_part (preserves_statements falsePart))
  preserves_expression (Call t function parameters) = preserves_call (preserves_expression function) (preserves_expressions parameters) _ _
  preserves_expression (InstanceGet t instance index) = preserves_pair (preserves_expression instance) (preserves_expression index) _ t
  preserves_expression (IndexGet t instance index) = preserves_pair (preserves_expression instance) (preserves_expression index) _ t

  pub preserves_target : (e : Expression) (a : Token) → Steadily (compile_assign_expression_left_part e a)
  preserves_target (Identifier t) a = preserves_name _ _ _ _ _
  preserves_target (This t) a = preserves_error _ _
  preserves_target (Null t) a = preserves_error _ _
  preserves_target (Integer t) a = preserves_error _ _
  preserves_target (Float t) a = preserves_error _ _
  preserves_target (Text t) a = preserves_error _ _
  preserves_target (Boolean t) a = preserves_error _ _
  preserves_target (Array t values) a = preserves_error _ _
  preserves_target (Prefix t right) a = preserves_error _ _
  preserves_target (Infix left t right) a = preserves_error _ _
  preserves_target (If condition truePart) a = preserves_error _ _
  preserves_target (IfElse condition truePart falsePart) a = preserves_error _ _
  preserves_target (Call t function parameters) a = preserves_error _ _
  preserves_target (InstanceGet t instance index) a = preserves_pair (preserves_expression instance) (preserves_expression index) _ t
  preserves_target (IndexGet t instance index) a = preserves_pair (preserves_expression instance) (preserves_expression index) _ t

  pub preserves_expressions : (es : Expressions) → Steadily (compile_expressions es)
  preserves_expressions ∅ₑ = preserves_skip
  preserves_expressions (e ∷ₑ es) = preserves_then (preserves_expression e) (preserves_expressions es)

  pub preserves_variables : (vs : Variables) → Steadily (compile_variables vs)
  preserves_variables ∅ᵥ = preserves_skip
  preserves_variables (Bare t vs) = preserves_then (preserves_bare 1 t) (preserves_variables vs)
  preserves_variables (Valued t e vs) = preserves_then (preserves_valued (preserves_expression e) t) (preserves_variables vs)

  pub preserves_statement : (s : Statement) → Steadily (compile_statement s)
  preserves_statement (Local vs) = preserves_deeper (preserves_variables vs)
  preserves_statement (Return t) = preserves_deeper (preserves_return _)
  preserves_statement (For t i e ss) = preserves_deeper (preserves_for (preserves_expression e) (preserves_statements ss) t i)
  preserves_statement (Break t) = preserves_deeper (preserves_break _)
  preserves_statement (Rescue t) = preserves_deeper (preserves_rescue t)
  preserves_statement (Expr e) = preserves_deeper (preserves_expression_statement (preserves_expression e))

  pub preserves_statements : (ss : Statements) → Steadily (compile_statements ss)
  preserves_statements ∅ₛ = preserves_skip
  preserves_statements (s ∷ₛ ss) = preserves_then (preserves_statement s) (preserves_statements ss)

-- a function

pub preserves_parameter : (t : Token) → Steadily (compile_parameter t)
unfolding compile_parameter
preserves_parameter t w = preserves_trans (preserves_function w _ refl) (preserves_bare 7 t _)

pub preserves_parameters : (ts : List Token) → Steadily (compile_parameters ts)
unfolding compile_parameters
preserves_parameters [] = preserves_skip
preserves_parameters (t ∷ ts) = preserves_then (preserves_parameter t) (preserves_parameters ts)

pub preserves_base : (f : FunctionDefinition) (w : Work)
    → StepPreserves (with_function new_function_state w) (compile_function_definition_base f.parameters f.body w)
unfolding compile_function_definition_base
preserves_base f w =
    let w₁ = compile_parameters f.parameters (with_function new_function_state w) in
    let w₂ = doing (λ g. Emission.with_parameters g.header.is_instance (length f.parameters) g) w₁ in
    let w₃ = compile_statements f.body w₂ in
    preserves_trans (preserves_parameters f.parameters (with_function new_function_state w)) (preserves_trans {b = w₂} (preserves_function w₁ _ refl)
    (preserves_trans (preserves_statements f.body w₂) (preserves_return (Emission.get_last_position w₃.function) w₃)))
