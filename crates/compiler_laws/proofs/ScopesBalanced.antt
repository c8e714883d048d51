-- Scopes are balanced: after every piece of compiling a scope is open where one was before, and the scopes around the innermost one are those before it;
-- the break scopes around the innermost one too. By one lemma for each combinator over arbitrary steps, and one induction on the tree. Assumes nothing.
use Prim.Native.Nat.{ℕ, ◌+◌}
use mathlib.Core.Path.{◌≡◌, refl, ap, ◌∙◌}
use mathlib.Core.Option.{Option, none, some}
use mathlib.Core.List.{List, [], ◌∷◌}
use lib.Dec.{eqb, ltb}
use Rattle.words.specs.Ast.{Token, Expression, Expressions, Variables, Statement, Statements}
use Rattle.words.specs.Ast.{Identifier, This, Null, Integer, Float, Text, Boolean, Array, Prefix, Infix, If, IfElse, Call, InstanceGet, IndexGet}
use Rattle.words.specs.Ast.{∅ₑ, ◌∷ₑ◌, ∅ᵥ, Bare, Valued, Local, Return, For, Break, Rescue, Expr, ∅ₛ, ◌∷ₛ◌}
use Rattle.words.specs.Object.{Constant, constant_of, is_shared, integer_kind}
use Rattle.words.specs.Opcode.{Instruction, to_instruction, Pop, PushConstant, ReturnOp, Jump, JumpIf, LocalSet, ForNext, Iterate}
use Rattle.definition.specs.FunctionState as Emission
use Rattle.definition.specs.FunctionState.{FunctionState, Entry, remove_pop_or_push_null, emit_return, emit_break, exit_break_scope, define_local, last_opcode}
use Rattle.definition.specs.FunctionState.{find_name, tail}
use Rattle.definition.specs.Compiler
use Rattle.definition.specs.Compiler.{Work, Step, Added, with_function, doing, emit, push_error, add_constant, add_constant_no_check, find_constant}
use Rattle.definition.specs.Compiler.{emit_constant, emit_global, emit_name, InfixKind, Assigning, Plain, Negated, Compound, Unknown, infix_kind}
use Rattle.definition.specs.Compiler.{compile_infix_by}
use Rattle.definition.specs.Compiler.{compile_statement, compile_statements, compile_expression, compile_expressions, compile_variables}
use Rattle.definition.specs.Compiler.{compile_assign_expression_left_part, skip, and_then, deeper, compile_rescue, compile_bare}
use Rattle.definition.specs.Compiler.{compile_valued, compile_expression_statement, compile_for_statement, compile_if_expression, compile_part, compile_no_part}
use Rattle.definition.specs.Compiler.{compile_array_expression, compile_call_expression, compile_prefix_expression, compile_infix_expression, compile_operation}
use Rattle.definition.specs.Compiler.{compile_assign_expression, compile_pair, compile_assign_name, compile_this_expression, compile_identifier_expression}
use Rattle.definition.specs.Compiler.{compile_null_expression, compile_boolean_expression, compile_string_expression, compile_float_expression}
use Rattle.definition.specs.Compiler.{compile_integer_expression}
use Rattle.definition_laws.proofs.Defining.{define_cases}
use Rattle.definition_laws.proofs.Lists.{cond_case}
use Rattle.building.specs.RepresentsMachine.{is_open}

pub record ScopesPreserved (w w' : Work) : Type 0 where
  pub is_open : is_open w'.function.scopes ≡ is_open w.function.scopes
  pub scopes : tail w'.function.scopes ≡ tail w.function.scopes
  pub breaks : tail w'.function.break_scopes ≡ tail w.function.break_scopes

abbrev pub PreservesScopes : Step → Type 0
PreservesScopes s = (w : Work) → ScopesPreserved w (s w)

pub scopes_refl : (w : Work) → ScopesPreserved w w
scopes_refl w = record { is_open = refl; scopes = refl; breaks = refl }

pub scopes_trans : {a b c : Work} → ScopesPreserved a b → ScopesPreserved b c → ScopesPreserved a c
scopes_trans m n = record { is_open = n.is_open ∙ m.is_open; scopes = n.scopes ∙ m.scopes; breaks = n.breaks ∙ m.breaks }

-- a change of the function state alone
pub scopes_function : (w : Work) (f : FunctionState) → is_open f.scopes ≡ is_open w.function.scopes → tail f.scopes ≡ tail w.function.scopes
    → tail f.break_scopes ≡ tail w.function.break_scopes → ScopesPreserved w (with_function f w)
scopes_function w f o s b = record { is_open = o; scopes = s; breaks = b }

pub scopes_emit : (i : Instruction) (p : ℕ) → PreservesScopes (emit i p)
scopes_emit i p w = scopes_function w _ refl refl refl

pub scopes_error : (n : ℕ) (t : Token) → PreservesScopes (push_error n t)
scopes_error n t w = record { is_open = refl; scopes = refl; breaks = refl }

-- function_state.rs

record Level (f g : FunctionState) : Type 0 where
  is_open : is_open g.scopes ≡ is_open f.scopes
  scopes : tail g.scopes ≡ tail f.scopes
  breaks : tail g.break_scopes ≡ tail f.break_scopes

level : (f : FunctionState) → Level f f
level f = record { is_open = refl; scopes = refl; breaks = refl }

close_scopes : (f : FunctionState) → Level f (remove_pop_or_push_null f)
unfolding remove_pop_or_push_null
close_scopes f = cond_case (Level f) (eqb (last_opcode f) Pop) (λ t. record { is_open = refl; scopes = refl; breaks = refl })
    (λ t. cond_case (Level f) (eqb (last_opcode f) ReturnOp) (λ s. level f) (λ s. record { is_open = refl; scopes = refl; breaks = refl }))

return_scopes : (p : ℕ) (f : FunctionState) → Level f (emit_return p f)
unfolding emit_return
return_scopes p f = cond_case (Level f) (eqb (last_opcode (remove_pop_or_push_null f)) ReturnOp) (λ t. close_scopes f)
    (λ t. record { is_open = (close_scopes f).is_open; scopes = (close_scopes f).scopes; breaks = (close_scopes f).breaks })

pub scopes_close : PreservesScopes (doing remove_pop_or_push_null)
scopes_close w = let b = close_scopes w.function in scopes_function w _ b.is_open b.scopes b.breaks

pub scopes_return : (p : ℕ) → PreservesScopes (doing (emit_return p))
scopes_return p w = let b = return_scopes p w.function in scopes_function w _ b.is_open b.scopes b.breaks

pub scopes_break : (p : ℕ) → PreservesScopes (doing (emit_break p))
unfolding emit_break
scopes_break p w = go w.function.break_scopes refl
  where
    pushed : (bs : List (List ℕ)) → tail (Emission.push_breaks (Compiler.next w ∷ []) bs) ≡ tail bs
    pushed [] = refl
    pushed (s ∷ ss) = refl

    go : (bs : List (List ℕ)) → bs ≡ w.function.break_scopes → ScopesPreserved w (with_function (Emission.emit_break_in bs p w.function) w)
    go [] e = scopes_function w _ refl refl refl
    go (s ∷ ss) e = scopes_function w _ refl refl (pushed w.function.break_scopes)

pub scopes_define : (n : ℕ) (w : Work) → ScopesPreserved w (with_function (define_local n w.function).state w)
scopes_define n w = define_cases (λ d. ScopesPreserved w (with_function d.state w)) n w.function go
  where
    opened : (e : Entry) (ss : List (List Entry)) → is_open (Emission.insert_name e ss) ≡ is_open ss
    opened e [] = refl
    opened e (s ∷ ss) = refl

    inserted : (e : Entry) (ss : List (List Entry)) → tail (Emission.insert_name e ss) ≡ tail ss
    inserted e [] = refl
    inserted e (s ∷ ss) = refl

    go : (o : Option ℕ) → ScopesPreserved w (with_function (Emission.define_local_by o n w.function).state w)
    go none = scopes_function w _ (opened _ w.function.scopes) (inserted _ w.function.scopes) refl
    go (some i) = scopes_function w _ refl refl refl

-- compiler.rs: leaves

pub scopes_constant : (c : Constant) (w : Work) → ScopesPreserved w (add_constant c w).work
unfolding add_constant
scopes_constant c w = cond_case (λ (a : Added). ScopesPreserved w a.work) (is_shared c.kind) (λ t. go (find_constant c w.context.constants 0)) (λ t. plain)
  where
    plain : ScopesPreserved w (add_constant_no_check c w).work
    plain = record { is_open = refl; scopes = refl; breaks = refl }

    go : (o : Option ℕ) → ScopesPreserved w (Compiler.add_constant_by o c w).work
    go none = plain
    go (some i) = scopes_refl w

pub scopes_mark : (i : ℕ) → PreservesScopes (Compiler.mark_global i)
scopes_mark i w = record { is_open = refl; scopes = refl; breaks = refl }

pub scopes_emit_constant : (o : ℕ) (c : Constant) (p : ℕ) → PreservesScopes (emit_constant o c p)
unfolding emit_constant
scopes_emit_constant o c p w = scopes_trans (scopes_constant c w) (scopes_emit _ p _)

pub scopes_global : (o n p : ℕ) → PreservesScopes (emit_global o n p)
unfolding emit_global
scopes_global o n p w = scopes_trans (scopes_constant _ w) (scopes_trans (scopes_mark _ _) (scopes_emit _ p _))

pub scopes_name : (l c g n p : ℕ) → PreservesScopes (emit_name l c g n p)
unfolding emit_name
scopes_name l c g n p w = go (Emission.find_local n w.function)
  where
    inner : (o : Option ℕ) → ScopesPreserved w (Compiler.emit_name_in_context o c g n p w)
    inner none = scopes_global g n p w
    inner (some i) = scopes_emit _ p w

    go : (o : Option ℕ) → ScopesPreserved w (Compiler.emit_name_by o l c g n p w)
    go none = inner (find_name n w.compiler.locals)
    go (some i) = scopes_emit _ p w

pub scopes_this : (t : Token) → PreservesScopes (compile_this_expression t)
unfolding compile_this_expression
scopes_this t w = scopes_function w _ refl refl refl

-- compiler.rs: compounds

module _ {a b : Step} (A : PreservesScopes a) (B : PreservesScopes b) where
  pub scopes_then : PreservesScopes (and_then a b)
  unfolding and_then
  scopes_then w = scopes_trans (A w) (B _)

  pub scopes_pair : (o : ℕ) (t : Token) → PreservesScopes (compile_pair o t a b)
  unfolding compile_pair
  scopes_pair o t w = scopes_trans (A w) (scopes_trans (B _) (scopes_emit _ _ _))

  pub scopes_assign : PreservesScopes (compile_assign_expression a b)
  unfolding compile_assign_expression
  scopes_assign w = scopes_trans (A w) (B _)

  pub scopes_operation : (n : ℕ) (t : Token) → PreservesScopes (compile_operation n t a b)
  unfolding compile_operation
  scopes_operation n t w = scopes_trans (A w) (scopes_trans (B _) (scopes_emit _ _ _))

  pub scopes_call : (t : Token) (n : ℕ) → PreservesScopes (compile_call_expression t n a b)
  unfolding compile_call_expression
  scopes_call t n w = scopes_trans (A w) (scopes_trans (B _) (scopes_emit _ _ _))

pub scopes_array : {a : Step} → PreservesScopes a → (t : Token) (n : ℕ) → PreservesScopes (compile_array_expression t n a)
unfolding compile_array_expression
scopes_array A t n w = scopes_trans (A w) (scopes_emit _ _ _)

pub scopes_prefix : {a : Step} → PreservesScopes a → (t : Token) → PreservesScopes (compile_prefix_expression t a)
unfolding compile_prefix_expression
scopes_prefix {a} A t w = scopes_trans (A w)
    (cond_case (ScopesPreserved (a w)) (eqb t.value 0) (λ h. scopes_emit _ _ _)
    (λ h. cond_case (ScopesPreserved (a w)) (eqb t.value 1) (λ k. scopes_emit _ _ _) (λ k. scopes_error 3 t _)))

pub scopes_infix : {l r g : Step} → PreservesScopes l → PreservesScopes r → PreservesScopes g → (t : Token) → PreservesScopes (compile_infix_expression t l r g)
unfolding compile_infix_expression
scopes_infix {l} {r} {g} L R G t w = go (infix_kind t.value)
  where
    go : (k : InfixKind) → ScopesPreserved w (compile_infix_by k t l r g w)
    go Assigning = scopes_assign R G w
    go (Plain n) = scopes_operation L R n t w
    go (Negated n) = scopes_trans (scopes_operation L R n t w) (scopes_emit _ _ _)
    go (Compound n) = scopes_trans (scopes_operation L R n t w) (G _)
    go Unknown = scopes_error 3 t w

pub scopes_skip : PreservesScopes skip
unfolding skip
scopes_skip w = scopes_refl w

pub scopes_part : {a : Step} → PreservesScopes a → PreservesScopes (compile_part a)
unfolding compile_part
scopes_part {a} A w =
    let w₁ = doing Emission.enter_scope w in
    let w₂ = a w₁ in
    let w₃ = doing Emission.exit_scope w₂ in
    let s : ScopesPreserved w₁ w₂ = A w₁ in
    let r : ScopesPreserved w w₃ = record { is_open = ap is_open s.scopes; scopes = ap tail s.scopes; breaks = s.breaks } in
    scopes_trans r (scopes_close w₃)

pub scopes_no_part : PreservesScopes compile_no_part
unfolding compile_no_part
scopes_no_part w = scopes_function w _ refl refl refl

pub scopes_if : {c t f : Step} → PreservesScopes c → PreservesScopes t → PreservesScopes f → PreservesScopes (compile_if_expression c t f)
unfolding compile_if_expression
scopes_if {c} {t} {f} C R F w =
    let w₁ = c w in
    let w₂ = Compiler.emit_opcode_without_position JumpIf w₁ in
    let w₃ = f w₂ in
    let w₄ = Compiler.emit_opcode_without_position Jump w₃ in
    let w₅ = Compiler.replace_instruction (Compiler.next w₁) (to_instruction JumpIf (Compiler.next w₄)) w₄ in
    let w₆ = t w₅ in
    let s₂ : ScopesPreserved w₁ w₂ = scopes_function w₁ _ refl refl refl in
    let s₄ : ScopesPreserved w₃ w₄ = scopes_function w₃ _ refl refl refl in
    let s₅ : ScopesPreserved w₄ w₅ = scopes_function w₄ _ refl refl refl in
    let s₇ : ScopesPreserved w₆ (Compiler.replace_instruction (Compiler.next w₃) (to_instruction Jump (Compiler.next w₆)) w₆) = scopes_function w₆ _ refl refl
    refl in
    scopes_trans (C w) (scopes_trans s₂ (scopes_trans (F w₂) (scopes_trans s₄ (scopes_trans s₅ (scopes_trans (R w₅) s₇)))))

pub scopes_for : {a b : Step} → PreservesScopes a → PreservesScopes b → (t i : Token) → PreservesScopes (compile_for_statement t i a b)
unfolding compile_for_statement exit_break_scope
scopes_for {a} {b} A B t i w =
    let x = w.function.header.local_count in
    let p = t.position in
    let w₁ = doing (λ f. Emission.enter_break_scope (Emission.enter_scope (Emission.define_anonymous_local (Emission.define_anonymous_local f)))) w in
    let w₂ = a w₁ in
    let u₃ = emit (to_instruction LocalSet x) p w₂ in
    let w₃ = Compiler.emit_opcode_without_position Pop u₃ in
    let w₄ = emit_constant PushConstant (constant_of integer_kind 0) p w₃ in
    let u₅ = emit (to_instruction LocalSet (x + 1)) p w₄ in
    let w₅ = Compiler.emit_opcode_without_position Pop u₅ in
    let d = define_local i.value w₅.function in
    let w₆ = with_function d.state w₅ in
    let w₇ = emit (to_instruction ForNext x) p w₆ in
    let w₈ = Compiler.emit_opcode_without_position JumpIf w₇ in
    let u₉ = emit (to_instruction LocalSet (Compiler.found_or 0 d.found)) i.position w₈ in
    let w₉ = Compiler.emit_opcode_without_position Pop u₉ in
    let v₁ = b w₉ in
    let v₂ = emit (to_instruction Iterate (x + 1)) (Emission.get_last_position v₁.function) v₁ in
    let v₃ = emit (to_instruction Jump (Compiler.next w₆)) (Emission.get_last_position v₂.function) v₂ in
    let v₄ = Compiler.replace_instruction (Compiler.next w₇) (to_instruction JumpIf (Compiler.next v₃)) v₃ in
    let s₃ : ScopesPreserved w₂ w₃ = scopes_trans {b = u₃} (scopes_function w₂ _ refl refl refl) (scopes_function u₃ _ refl refl refl) in
    let s₄ : ScopesPreserved w₃ w₄ = scopes_emit_constant _ _ _ w₃ in
    let s₅ : ScopesPreserved w₄ w₅ = scopes_trans {b = u₅} (scopes_function w₄ _ refl refl refl) (scopes_function u₅ _ refl refl refl) in
    let s₆ : ScopesPreserved w₅ w₆ = scopes_define i.value w₅ in
    let s₈ : ScopesPreserved w₆ w₈ = scopes_trans {b = w₇} (scopes_function w₆ _ refl refl refl) (scopes_function w₇ _ refl refl refl) in
    let s₉ : ScopesPreserved w₈ w₉ = scopes_trans {b = u₉} (scopes_function w₈ _ refl refl refl) (scopes_function u₉ _ refl refl refl) in
    let r₃ : ScopesPreserved v₁ v₃ = scopes_trans {b = v₂} (scopes_function v₁ _ refl refl refl) (scopes_function v₂ _ refl refl refl) in
    let r₄ : ScopesPreserved v₃ v₄ = scopes_function v₃ _ refl refl refl in
    let inner : ScopesPreserved w₁ v₄ = scopes_trans (A w₁) (scopes_trans s₃ (scopes_trans s₄ (scopes_trans s₅ (scopes_trans s₆ (scopes_trans s₈
    (scopes_trans s₉
    (scopes_trans (B w₉) (scopes_trans r₃ r₄)))))))) in
    record { is_open = ap is_open inner.scopes; scopes = ap tail inner.scopes; breaks = ap tail inner.breaks }

pub scopes_expression_statement : {a : Step} → PreservesScopes a → PreservesScopes (compile_expression_statement a)
unfolding compile_expression_statement
scopes_expression_statement A w = scopes_trans (A w) (scopes_emit _ _ _)

pub scopes_valued : {a : Step} → PreservesScopes a → (t : Token) → PreservesScopes (compile_valued t a)
unfolding compile_valued
scopes_valued {a} A t w = scopes_trans (scopes_define t.value w) (go (define_local t.value w.function).found)
  where
    v : Work
    v = with_function (define_local t.value w.function).state w

    go : (o : Option ℕ) → ScopesPreserved v (Compiler.valued_by o t a v)
    go none = scopes_error 1 t v
    go (some i) = scopes_trans (A v) (scopes_emit _ _ _)

pub scopes_bare : (n : ℕ) (t : Token) → PreservesScopes (compile_bare n t)
unfolding compile_bare
scopes_bare n t w = scopes_trans (scopes_define t.value w) (go (define_local t.value w.function).found)
  where
    v : Work
    v = with_function (define_local t.value w.function).state w

    go : (o : Option ℕ) → ScopesPreserved v (Compiler.bare_by o n t v)
    go none = scopes_error n t v
    go (some i) = scopes_refl v

pub scopes_rescue : (t : Token) → PreservesScopes (compile_rescue t)
unfolding compile_rescue
scopes_rescue t w = cond_case (ScopesPreserved w) (ltb 1 w.function.depth) (λ h. scopes_error 4 t w)
    (λ h. let b = return_scopes t.position w.function in scopes_function w _ b.is_open b.scopes b.breaks)

pub scopes_deeper : {a : Step} → PreservesScopes a → PreservesScopes (deeper a)
unfolding deeper
scopes_deeper {a} A w =
    let s = A (doing (λ f. Emission.with_depth (f.depth + 1) f) w) in
    record { is_open = s.is_open; scopes = s.scopes; breaks = s.breaks }

-- every piece

mutual
  unfolding compile_expression compile_integer_expression compile_float_expression compile_string_expression compile_boolean_expression compile_null_expression
      compile_identifier_expression compile_assign_name

  pub scopes_expression : (e : Expression) → PreservesScopes (compile_expression e)
  scopes_expression (Identifier t) = scopes_name _ _ _ _ _
  scopes_expression (This t) = scopes_this t
  scopes_expression (Null t) = scopes_emit _ _
  scopes_expression (Integer t) = scopes_emit_constant _ _ _
  scopes_expression (Float t) = scopes_emit_constant _ _ _
  scopes_expression (Text t) = scopes_emit_constant _ _ _
  scopes_expression (Boolean t) = scopes_emit _ _
  scopes_expression (Array t values) = scopes_array (scopes_expressions values) _ _
  scopes_expression (Prefix t right) = scopes_prefix (scopes_expression right) t
  scopes_expression (Infix left t right) = scopes_infix (scopes_expression left) (scopes_expression right) (scopes_target left t) t
  scopes_expression (If condition truePart) = scopes_if (scopes_expression condition) (scopes_part (scopes_statements truePart)) scopes_no_part
  scopes_expression (IfElse condition truePart falsePart) =
      scopes_if (scopes_expression condition) (scopes_part (scopes_statements truePart)) (scopes_part (scopes_statements falsePart))
  scopes_expression (Call t function parameters) = scopes_call (scopes_expression function) (scopes_expressions parameters) _ _
  scopes_expression (InstanceGet t instance index) = scopes_pair (scopes_expression instance) (scopes_expression index) _ t
  scopes_expression (IndexGet t instance index) = scopes_pair (scopes_expression instance) (scopes_expression index) _ t

  pub scopes_target : (e : Expression) (a : Token) → PreservesScopes (compile_assign_expression_left_part e a)
  scopes_target (Identifier t) a = scopes_name _ _ _ _ _
  scopes_target (This t) a = scopes_error _ _
  scopes_target (Null t) a = scopes_error _ _
  scopes_target (Integer t) a = scopes_error _ _
  scopes_target (Float t) a = scopes_error _ _
  scopes_target (Text t) a = scopes_error _ _
  scopes_target (Boolean t) a = scopes_error _ _
  scopes_target (Array t values) a = scopes_error _ _
  scopes_target (Prefix t right) a = scopes_error _ _
  scopes_target (Infix left t right) a = scopes_error _ _
  scopes_target (If condition truePart) a = scopes_error _ _
  scopes_target (IfElse condition truePart falsePart) a = scopes_error _ _
  scopes_target (Call t function parameters) a = scopes_error _ _
  scopes_target (InstanceGet t instance index) a = scopes_pair (scopes_expression instance) (scopes_expression index) _ t
  scopes_target (IndexGet t instance index) a = scopes_pair (scopes_expression instance) (scopes_expression index) _ t

  pub scopes_expressions : (es : Expressions) → PreservesScopes (compile_expressions es)
  scopes_expressions ∅ₑ = scopes_skip
  scopes_expressions (e ∷ₑ es) = scopes_then (scopes_expression e) (scopes_expressions es)

  pub scopes_variables : (vs : Variables) → PreservesScopes (compile_variables vs)
  scopes_variables ∅ᵥ = scopes_skip
  scopes_variables (Bare t vs) = scopes_then (scopes_bare 1 t) (scopes_variables vs)
  scopes_variables (Valued t e vs) = scopes_then (scopes_valued (scopes_expression e) t) (scopes_variables vs)

  pub scopes_statement : (s : Statement) → PreservesScopes (compile_statement s)
  scopes_statement (Local vs) = scopes_deeper (scopes_variables vs)
  scopes_statement (Return t) = scopes_deeper (scopes_return _)
  scopes_statement (For t i e ss) = scopes_deeper (scopes_for (scopes_expression e) (scopes_statements ss) t i)
  scopes_statement (Break t) = scopes_deeper (scopes_break _)
  scopes_statement (Rescue t) = scopes_deeper (scopes_rescue t)
  scopes_statement (Expr e) = scopes_deeper (scopes_expression_statement (scopes_expression e))

  pub scopes_statements : (ss : Statements) → PreservesScopes (compile_statements ss)
  scopes_statements ∅ₛ = scopes_skip
  scopes_statements (s ∷ₛ ss) = scopes_then (scopes_statement s) (scopes_statements ss)
