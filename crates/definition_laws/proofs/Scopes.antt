-- The unwrap of `compile_for_statement` never fails (`for_unwraps`): a loop's variable is always new. Expressions leave the scopes as they were, and
-- statements all but the innermost, so the scope that a loop enters is still empty where it defines its variable. Assumes nothing.
use Prim.Native.Nat.{ℕ, ◌+◌}
use mathlib.Core.Path.{◌≡◌, refl, ap, ◌∙◌}
use mathlib.Core.Option.{Option, none, some}
use mathlib.Core.List.{List, [], ◌∷◌}
use lib.Dec.{eqb, ltb}
use Rattle.words.specs.Ast.{Token, Expression, Expressions, Variables, Statement, Statements, Identifier, This, Null, Integer, Float, Text, Boolean}
use Rattle.words.specs.Ast.{Array, Prefix, Infix, If, IfElse, Call, InstanceGet, IndexGet, ∅ₑ, ◌∷ₑ◌, ∅ᵥ, Bare, Valued, Local, Return, For, Break}
use Rattle.words.specs.Ast.{Rescue, Expr, ∅ₛ, ◌∷ₛ◌}
use Rattle.words.specs.Opcode.{to_instruction, Pop, PushConstant, LocalSet}
use Rattle.definition.specs.FunctionState.{FunctionState, Entry, innermost, tail, emit_break, exit_break_scope, define_local, find_name}
use Rattle.definition.specs.Compiler.{Work, Step, doing, with_function, emit, Added, add_constant, find_constant, InfixKind, Assigning, Plain}
use Rattle.definition.specs.Compiler.{Negated, Compound, Unknown, infix_kind, compile_statement, compile_statements, compile_expression}
use Rattle.definition.specs.Compiler.{compile_expressions, compile_variables, compile_assign_expression_left_part, skip, and_then, deeper}
use Rattle.definition.specs.Compiler.{compile_rescue, compile_bare, compile_valued, compile_expression_statement, compile_for_statement}
use Rattle.definition.specs.Compiler.{compile_if_expression, compile_part, compile_no_part, compile_array_expression, compile_call_expression}
use Rattle.definition.specs.Compiler.{compile_prefix_expression, compile_infix_expression, compile_infix_by, compile_operation}
use Rattle.definition.specs.Compiler.{compile_assign_expression, compile_pair, compile_assign_name, compile_this_expression}
use Rattle.definition.specs.Compiler.{compile_identifier_expression, emit_name, compile_null_expression, compile_boolean_expression}
use Rattle.definition.specs.Compiler.{compile_string_expression, compile_float_expression, compile_integer_expression, emit_global, emit_constant}
use Rattle.words.specs.Object.{Constant, constant_of, is_shared}
use Rattle.definition_laws.proofs.Defining.{define_cases}
use Rattle.definition_laws.proofs.Lists.{cond_case}
use Rattle.definition_laws.proofs.Moves.{close_same, return_same}
use Rattle.definition.specs.FunctionState as Emission
use Rattle.definition.specs.Compiler

abbrev names : Work → List (List Entry)
names w = w.function.scopes

abbrev Still : Step → Type 0
Still s = (w : Work) → names (s w) ≡ names w

abbrev Inner : Step → Type 0
Inner s = (w : Work) → tail (names (s w)) ≡ tail (names w)

constant_still : (c : Constant) (w : Work) → names (add_constant c w).work ≡ names w
unfolding add_constant
constant_still c w = cond_case (λ (a : Added). names a.work ≡ names w) (is_shared c.kind) (λ t. go (find_constant c w.context.constants 0)) (λ t. refl)
  where
    go : (o : Option ℕ) → names (Compiler.add_constant_by o c w).work ≡ names w
    go none = refl
    go (some i) = refl

emit_constant_still : (o : ℕ) (c : Constant) (p : ℕ) → Still (emit_constant o c p)
unfolding emit_constant
emit_constant_still o c p w = constant_still c w

global_still : (o n p : ℕ) → Still (emit_global o n p)
unfolding emit_global
global_still o n p w = constant_still (constant_of 4 n) w

name_still : (l c g n p : ℕ) → Still (emit_name l c g n p)
unfolding emit_name
name_still l c g n p w = go (Emission.find_local n w.function)
  where
    inner : (o : Option ℕ) → names (Compiler.emit_name_in_context o c g n p w) ≡ names w
    inner none = global_still g n p w
    inner (some i) = refl

    go : (o : Option ℕ) → names (Compiler.emit_name_by o l c g n p w) ≡ names w
    go none = inner (find_name n w.compiler.locals)
    go (some i) = refl

define_inner : (n : ℕ) (f : FunctionState) → tail (define_local n f).state.scopes ≡ tail f.scopes
define_inner n f = define_cases (λ d. tail d.state.scopes ≡ tail f.scopes) n f go
  where
    insert : (e : Entry) (ss : List (List Entry)) → tail (Emission.insert_name e ss) ≡ tail ss
    insert e [] = refl
    insert e (s ∷ ss) = refl

    go : (o : Option ℕ) → tail (Emission.define_local_by o n f).state.scopes ≡ tail f.scopes
    go none = insert _ f.scopes
    go (some i) = refl

module _ (a b : Step) (A : Still a) (B : Still b) where
  pair_still : (o : ℕ) (t : Token) → Still (compile_pair o t a b)
  unfolding compile_pair
  pair_still o t w = B _ ∙ A w

  then_still : Still (and_then a b)
  unfolding and_then
  then_still w = B _ ∙ A w

  call_still : (t : Token) (n : ℕ) → Still (compile_call_expression t n a b)
  unfolding compile_call_expression
  call_still t n w = B _ ∙ A w

then_inner : (a b : Step) → Inner a → Inner b → Inner (and_then a b)
unfolding and_then
then_inner a b A B w = B _ ∙ A w

infix_still : (l r g : Step) → Still l → Still r → Still g → (t : Token) → Still (compile_infix_expression t l r g)
unfolding compile_infix_expression compile_assign_expression compile_operation
infix_still l r g L R G t w = go (infix_kind t.value)
  where
    go : (k : InfixKind) → names (compile_infix_by k t l r g w) ≡ names w
    go Assigning = G _ ∙ R w
    go (Plain n) = R _ ∙ L w
    go (Negated n) = R _ ∙ L w
    go (Compound n) = G _ ∙ (R _ ∙ L w)
    go Unknown = refl

prefix_still : (a : Step) → Still a → (t : Token) → Still (compile_prefix_expression t a)
unfolding compile_prefix_expression
prefix_still a A t w =
    cond_case (λ v. names v ≡ names w) (eqb t.value 0) (λ h. A w) (λ h. cond_case (λ v. names v ≡ names w) (eqb t.value 1) (λ k. A w) (λ k. A w))

array_still : (a : Step) → Still a → (t : Token) (n : ℕ) → Still (compile_array_expression t n a)
unfolding compile_array_expression
array_still a A t n w = A w

part_still : (a : Step) → Inner a → Still (compile_part a)
unfolding compile_part
part_still a A w = (close_same _).scopes ∙ A _

if_still : (l r g : Step) → Still l → Still r → Still g → Still (compile_if_expression l r g)
unfolding compile_if_expression
if_still l r g L R G w = R _ ∙ (G _ ∙ L w)

deeper_inner : (a : Step) → Inner a → Inner (deeper a)
unfolding deeper
deeper_inner a A w = A _

statement_inner : (a : Step) → Still a → Inner (compile_expression_statement a)
unfolding compile_expression_statement
statement_inner a A w = ap tail (A w)

valued_inner : (a : Step) → Still a → (t : Token) → Inner (compile_valued t a)
unfolding compile_valued
valued_inner a A t w = go (define_local t.value w.function).found ∙ define_inner t.value w.function
  where
    v : Work
    v = with_function (define_local t.value w.function).state w

    go : (o : Option ℕ) → tail (names (Compiler.valued_by o t a v)) ≡ tail (names v)
    go none = refl
    go (some i) = ap tail (A v)

bare_inner : (n : ℕ) (t : Token) → Inner (compile_bare n t)
unfolding compile_bare
bare_inner n t w = go (define_local t.value w.function).found ∙ define_inner t.value w.function
  where
    v : Work
    v = with_function (define_local t.value w.function).state w

    go : (o : Option ℕ) → tail (names (Compiler.bare_by o n t v)) ≡ tail (names v)
    go none = refl
    go (some i) = refl

rescue_inner : (t : Token) → Inner (compile_rescue t)
unfolding compile_rescue
rescue_inner t w =
    cond_case (λ v. tail (names v) ≡ tail (names w)) (ltb 1 w.function.depth) (λ h. refl) (λ h. ap tail (return_same t.position w.function).scopes)

break_inner : (p : ℕ) → Inner (doing (emit_break p))
unfolding emit_break
break_inner p w = go w.function.break_scopes
  where
    go : (bs : List (List ℕ)) → tail (Emission.emit_break_in bs p w.function).scopes ≡ tail (names w)
    go [] = refl
    go (s ∷ ss) = refl

-- the state in which a loop defines its variable: its scope is still empty
pub before_variable : (t : Token) → Step → Work → Work
before_variable t a w =
    let w₁ = doing (λ f. Emission.enter_break_scope (Emission.enter_scope (Emission.define_anonymous_local (Emission.define_anonymous_local f)))) w in
    let w₃ = Compiler.emit_opcode_without_position Pop (emit (to_instruction LocalSet w.function.header.local_count) t.position (a w₁)) in
    let w₄ = emit_constant PushConstant (constant_of 2 0) t.position w₃ in
    Compiler.emit_opcode_without_position Pop (emit (to_instruction LocalSet (w.function.header.local_count + 1)) t.position w₄)

before_names : (a : Step) → Still a → (t : Token) (w : Work) → names (before_variable t a w) ≡ [] ∷ names w
unfolding before_variable
before_names a A t w = emit_constant_still PushConstant (constant_of 2 0) t.position _ ∙ A _

for_inner : (a b : Step) → Still a → Inner b → (t i : Token) → Inner (compile_for_statement t i a b)
unfolding compile_for_statement exit_break_scope before_variable
for_inner a b A B t i w = ap tail (B _ ∙ (define_inner i.value (before_variable t a w).function ∙ ap tail (before_names a A t w)))

mutual
  unfolding compile_expression compile_identifier_expression compile_this_expression compile_null_expression compile_integer_expression compile_float_expression
      compile_string_expression compile_boolean_expression compile_assign_name compile_no_part skip

  pub expression_still : (e : Expression) → Still (compile_expression e)
  expression_still (Identifier t) = name_still _ _ _ _ _
  expression_still (This t) = λ w. refl
  expression_still (Null t) = λ w. refl
  expression_still (Integer t) = emit_constant_still _ _ _
  expression_still (Float t) = emit_constant_still _ _ _
  expression_still (Text t) = emit_constant_still _ _ _
  expression_still (Boolean t) = λ w. refl
  expression_still (Array t values) = array_still _ (expressions_still values) _ _
  expression_still (Prefix t right) = prefix_still _ (expression_still right) t
  expression_still (Infix left t right) = infix_still _ _ _ (expression_still left) (expression_still right) (target_still left t) t
  expression_still (If condition truePart) = if_still _ _ _ (expression_still condition) (part_still _ (statements_inner truePart)) (λ w. refl)
  expression_still (IfElse condition truePart falsePart) =
      if_still _ _ _ (expression_still condition) (part_still _ (statements_inner truePart)) (part_still _ (statements_inner falsePart))
  expression_still (Call t function parameters) = call_still _ _ (expression_still function) (expressions_still parameters) _ _
  expression_still (InstanceGet t instance index) = pair_still _ _ (expression_still instance) (expression_still index) _ _
  expression_still (IndexGet t instance index) = pair_still _ _ (expression_still instance) (expression_still index) _ _

  pub target_still : (e : Expression) (a : Token) → Still (compile_assign_expression_left_part e a)
  target_still (Identifier t) a = name_still _ _ _ _ _
  target_still (This t) a = λ w. refl
  target_still (Null t) a = λ w. refl
  target_still (Integer t) a = λ w. refl
  target_still (Float t) a = λ w. refl
  target_still (Text t) a = λ w. refl
  target_still (Boolean t) a = λ w. refl
  target_still (Array t values) a = λ w. refl
  target_still (Prefix t right) a = λ w. refl
  target_still (Infix left t right) a = λ w. refl
  target_still (If condition truePart) a = λ w. refl
  target_still (IfElse condition truePart falsePart) a = λ w. refl
  target_still (Call t function parameters) a = λ w. refl
  target_still (InstanceGet t instance index) a = pair_still _ _ (expression_still instance) (expression_still index) _ _
  target_still (IndexGet t instance index) a = pair_still _ _ (expression_still instance) (expression_still index) _ _

  pub expressions_still : (es : Expressions) → Still (compile_expressions es)
  expressions_still ∅ₑ = λ w. refl
  expressions_still (e ∷ₑ es) = then_still _ _ (expression_still e) (expressions_still es)

  pub variables_inner : (vs : Variables) → Inner (compile_variables vs)
  variables_inner ∅ᵥ = λ w. refl
  variables_inner (Bare t vs) = then_inner _ _ (bare_inner 1 t) (variables_inner vs)
  variables_inner (Valued t e vs) = then_inner _ _ (valued_inner _ (expression_still e) t) (variables_inner vs)

  pub statement_keeps : (s : Statement) → Inner (compile_statement s)
  statement_keeps (Local vs) = deeper_inner _ (variables_inner vs)
  statement_keeps (Return t) = deeper_inner _ (λ w. ap tail (return_same t.position w.function).scopes)
  statement_keeps (For t i e ss) = deeper_inner _ (for_inner _ _ (expression_still e) (statements_inner ss) t i)
  statement_keeps (Break t) = deeper_inner _ (break_inner _)
  statement_keeps (Rescue t) = deeper_inner _ (rescue_inner t)
  statement_keeps (Expr e) = deeper_inner _ (statement_inner _ (expression_still e))

  pub statements_inner : (ss : Statements) → Inner (compile_statements ss)
  statements_inner ∅ₛ = λ w. refl
  statements_inner (s ∷ₛ ss) = then_inner _ _ (statement_keeps s) (statements_inner ss)

-- the unwrap of compile_for_statement: the variable is new, whatever the enumerable
pub for_unwraps : (t i : Token) (e : Expression) (w : Work)
    → let f = (before_variable t (compile_expression e) w).function in (define_local i.value f).found ≡ some f.header.local_count
unfolding define_local
for_unwraps t i e w =
    let f = (before_variable t (compile_expression e) w).function in
    ap (λ ss. (Emission.define_local_in ss i.value f).found) (before_names _ (expression_still e) t w)
