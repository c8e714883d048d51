-- A node is the one that its kind says. Assumes nothing.
use mathlib.Core.Path.{◌≡◌, refl, sym, subst, ◌∙◌}
use mathlib.Core.List.{List}
use Prim.Native.Nat.{ℕ, ◌<◌}
use native.Mathlib.Omega.{arith}
use Rattle.words.specs.Ast.{Token, Expression, Expressions, Variables, Statement, Statements, Identifier, This, Null, Integer, Float, Text, Boolean}
use Rattle.words.specs.Ast.{Array, Prefix, Infix, If, IfElse, Call, InstanceGet, IndexGet, Local, Return, For, Break, Rescue, Expr, Binding, Alias}
use Rattle.words.specs.Ast.{FunctionDefinition, Definition, LocalDefinition, IncludeDefinition, ModelDefinition, PublicModelDefinition, PlainFunction}
use Rattle.words.specs.Ast.{PublicFunction, ImplementDefinition, ApplyDefinition}
use Rattle.tree.specs.Rules.{has, definitions, expressions, statements}
use Rattle.words.specs.Record.{kind_at}
use mathlib.Core.Bool.{true}
use Rattle.tree.specs.At.{Head, kind_e, kind_s, kind_d, size_e, size_s, size_d, ExpressionAt, StatementAt, DefinitionAt}

pub data ViewE : ℕ → Expression → Type 0 where
  v_Identifier : {t : Token} → ViewE 30 (Identifier t)
  v_This : {t : Token} → ViewE 31 (This t)
  v_Null : {t : Token} → ViewE 32 (Null t)
  v_Integer : {t : Token} → ViewE 33 (Integer t)
  v_Float : {t : Token} → ViewE 34 (Float t)
  v_Text : {t : Token} → ViewE 35 (Text t)
  v_Boolean : {t : Token} → ViewE 36 (Boolean t)
  v_Array : {t : Token} {es : Expressions} → ViewE 37 (Array t es)
  v_Prefix : {t : Token} {e : Expression} → ViewE 38 (Prefix t e)
  v_Infix : {a : Expression} {t : Token} {b : Expression} → ViewE 39 (Infix a t b)
  v_If : {c : Expression} {t : Statements} → ViewE 42 (If c t)
  v_If_else : {c : Expression} {t : Statements} {f : Statements} → ViewE 42 (IfElse c t f)
  v_Call : {t : Token} {f : Expression} {ps : Expressions} → ViewE 44 (Call t f ps)
  v_Instance_get : {t : Token} {a : Expression} {b : Expression} → ViewE 45 (InstanceGet t a b)
  v_Index_get : {t : Token} {a : Expression} {b : Expression} → ViewE 46 (IndexGet t a b)

pub view_e : (e : Expression) → ViewE (kind_e e) e
view_e (Identifier t) = v_Identifier
view_e (This t) = v_This
view_e (Null t) = v_Null
view_e (Integer t) = v_Integer
view_e (Float t) = v_Float
view_e (Text t) = v_Text
view_e (Boolean t) = v_Boolean
view_e (Array t es) = v_Array
view_e (Prefix t e) = v_Prefix
view_e (Infix a t b) = v_Infix
view_e (If c t) = v_If
view_e (IfElse c t f) = v_If_else
view_e (Call t f ps) = v_Call
view_e (InstanceGet t a b) = v_Instance_get
view_e (IndexGet t a b) = v_Index_get

pub head_e : (e : Expression) {w : List ℕ} {i : ℕ} → ExpressionAt e w i → Head w i (kind_e e) (size_e e)
unfolding ExpressionAt size_e
head_e (Identifier t) h = h.head
head_e (This t) h = h.head
head_e (Null t) h = h.head
head_e (Integer t) h = h.head
head_e (Float t) h = h.head
head_e (Text t) h = h.head
head_e (Boolean t) h = h.head
head_e (Array t es) h = h.0.head
head_e (Prefix t e) h = h.0.head
head_e (Infix a t b) h = h.0.head
head_e (If c t) h = h.0
head_e (IfElse c t f) h = h.0
head_e (Call t f ps) h = h.0.head
head_e (InstanceGet t a b) h = h.0.head
head_e (IndexGet t a b) h = h.0.head

-- what stands at a place where a kind was read
pub see_e : (e : Expression) (w : List ℕ) (i : ℕ) {k n : ℕ} → ExpressionAt e w i → k ≡ kind_at w i → k ≡ n → ViewE n e
see_e e w i h f q = subst (λ j. ViewE j e) (sym (head_e e h).kind_is ∙ sym f ∙ q) (view_e e)

pub size_e_pos : (e : Expression) → 0 < size_e e
unfolding size_e
size_e_pos (Identifier t) = omega arith
size_e_pos (This t) = omega arith
size_e_pos (Null t) = omega arith
size_e_pos (Integer t) = omega arith
size_e_pos (Float t) = omega arith
size_e_pos (Text t) = omega arith
size_e_pos (Boolean t) = omega arith
size_e_pos (Array t es) = omega arith
size_e_pos (Prefix t e) = omega arith
size_e_pos (Infix a t b) = omega arith
size_e_pos (If c t) = omega arith
size_e_pos (IfElse c t f) = omega arith
size_e_pos (Call t f ps) = omega arith
size_e_pos (InstanceGet t a b) = omega arith
size_e_pos (IndexGet t a b) = omega arith

pub data ViewS : ℕ → Statement → Type 0 where
  v_Local : {vs : Variables} → ViewS 20 (Local vs)
  v_Return : {t : Token} → ViewS 21 (Return t)
  v_Break : {t : Token} → ViewS 22 (Break t)
  v_Rescue : {t : Token} → ViewS 23 (Rescue t)
  v_For : {t : Token} {n : Token} {e : Expression} {ss : Statements} → ViewS 24 (For t n e ss)
  v_Expr : {e : Expression} → ViewS 25 (Expr e)

pub view_s : (s : Statement) → ViewS (kind_s s) s
view_s (Local vs) = v_Local
view_s (Return t) = v_Return
view_s (Break t) = v_Break
view_s (Rescue t) = v_Rescue
view_s (For t n e ss) = v_For
view_s (Expr e) = v_Expr

pub head_s : (s : Statement) {w : List ℕ} {i : ℕ} → StatementAt s w i → Head w i (kind_s s) (size_s s)
unfolding ExpressionAt size_e
head_s (Local vs) h = h.0
head_s (Return t) h = h.head
head_s (Break t) h = h.head
head_s (Rescue t) h = h.head
head_s (For t n e ss) h = h.0.head
head_s (Expr e) h = h.0

-- what stands at a place where a kind was read
pub see_s : (s : Statement) (w : List ℕ) (i : ℕ) {k n : ℕ} → StatementAt s w i → k ≡ kind_at w i → k ≡ n → ViewS n s
see_s s w i h f q = subst (λ j. ViewS j s) (sym (head_s s h).kind_is ∙ sym f ∙ q) (view_s s)

pub size_s_pos : (s : Statement) → 0 < size_s s
unfolding size_e
size_s_pos (Local vs) = omega arith
size_s_pos (Return t) = omega arith
size_s_pos (Break t) = omega arith
size_s_pos (Rescue t) = omega arith
size_s_pos (For t n e ss) = omega arith
size_s_pos (Expr e) = omega arith

pub data ViewD : ℕ → Definition → Type 0 where
  v_Local_definition : {bs : List Binding} → ViewD 10 (LocalDefinition bs)
  v_Include_definition : {n : ℕ} {t : Token} {l : List Alias} → ViewD 11 (IncludeDefinition n t l)
  v_Model_definition : {t : Token} {ns : List Token} → ViewD 12 (ModelDefinition t ns)
  v_Public_model_definition : {t : Token} {ns : List Token} → ViewD 13 (PublicModelDefinition t ns)
  v_Plain_function : {f : FunctionDefinition} → ViewD 14 (PlainFunction f)
  v_Public_function : {f : FunctionDefinition} → ViewD 15 (PublicFunction f)
  v_Implement_definition : {t : Token} {fs : List FunctionDefinition} → ViewD 16 (ImplementDefinition t fs)
  v_Apply_definition : {s : Token} {t : Token} → ViewD 17 (ApplyDefinition s t)

pub view_d : (d : Definition) → ViewD (kind_d d) d
view_d (LocalDefinition bs) = v_Local_definition
view_d (IncludeDefinition n t l) = v_Include_definition
view_d (ModelDefinition t ns) = v_Model_definition
view_d (PublicModelDefinition t ns) = v_Public_model_definition
view_d (PlainFunction f) = v_Plain_function
view_d (PublicFunction f) = v_Public_function
view_d (ImplementDefinition t fs) = v_Implement_definition
view_d (ApplyDefinition s t) = v_Apply_definition

pub head_d : (d : Definition) {w : List ℕ} {i : ℕ} → DefinitionAt d w i → Head w i (kind_d d) (size_d d)
unfolding DefinitionAt size_d
head_d (LocalDefinition bs) h = h.0
head_d (IncludeDefinition n t l) h = h.0.head
head_d (ModelDefinition t ns) h = h.0.head
head_d (PublicModelDefinition t ns) h = h.0.head
head_d (PlainFunction f) h = h.headed.head
head_d (PublicFunction f) h = h.headed.head
head_d (ImplementDefinition t fs) h = h.0.head
head_d (ApplyDefinition s t) h = h.0

-- what stands at a place where a kind was read
pub see_d : (d : Definition) (w : List ℕ) (i : ℕ) {k n : ℕ} → DefinitionAt d w i → k ≡ kind_at w i → k ≡ n → ViewD n d
see_d d w i h f q = subst (λ j. ViewD j d) (sym (head_d d h).kind_is ∙ sym f ∙ q) (view_d d)

pub size_d_pos : (d : Definition) → 0 < size_d d
unfolding size_d
size_d_pos (LocalDefinition bs) = omega arith
size_d_pos (IncludeDefinition n t l) = omega arith
size_d_pos (ModelDefinition t ns) = omega arith
size_d_pos (PublicModelDefinition t ns) = omega arith
size_d_pos (PlainFunction f) = omega arith
size_d_pos (PublicFunction f) = omega arith
size_d_pos (ImplementDefinition t fs) = omega arith
size_d_pos (ApplyDefinition s t) = omega arith

-- its kind is one of those that may stand there
pub kind_e_in : (e : Expression) → has (kind_e e) expressions ≡ true
kind_e_in (Identifier t) = refl
kind_e_in (This t) = refl
kind_e_in (Null t) = refl
kind_e_in (Integer t) = refl
kind_e_in (Float t) = refl
kind_e_in (Text t) = refl
kind_e_in (Boolean t) = refl
kind_e_in (Array t es) = refl
kind_e_in (Prefix t e) = refl
kind_e_in (Infix a t b) = refl
kind_e_in (If c t) = refl
kind_e_in (IfElse c t f) = refl
kind_e_in (Call t f ps) = refl
kind_e_in (InstanceGet t a b) = refl
kind_e_in (IndexGet t a b) = refl

-- its kind is one of those that may stand there
pub kind_s_in : (s : Statement) → has (kind_s s) statements ≡ true
kind_s_in (Local vs) = refl
kind_s_in (Return t) = refl
kind_s_in (Break t) = refl
kind_s_in (Rescue t) = refl
kind_s_in (For t n e ss) = refl
kind_s_in (Expr e) = refl

-- its kind is one of those that may stand there
pub kind_d_in : (d : Definition) → has (kind_d d) definitions ≡ true
kind_d_in (LocalDefinition bs) = refl
kind_d_in (IncludeDefinition n t l) = refl
kind_d_in (ModelDefinition t ns) = refl
kind_d_in (PublicModelDefinition t ns) = refl
kind_d_in (PlainFunction f) = refl
kind_d_in (PublicFunction f) = refl
kind_d_in (ImplementDefinition t fs) = refl
kind_d_in (ApplyDefinition s t) = refl

-- kind 42 is an if with or without a false part; the others stand alone at their kind
pub if_cases : {e : Expression} (P : Expression → Type 0) → ViewE 42 e → ((c : Expression) (t : Statements) → P (If c t))
    → ((c : Expression) (t f : Statements) → P (IfElse c t f)) → P e
if_cases P (v_If {c} {t}) a b = a c t
if_cases P (v_If_else {c} {t} {f}) a b = b c t f

pub infix_case : {e : Expression} (P : Expression → Type 0) → ViewE 39 e → ((a : Expression) (t : Token) (b : Expression) → P (Infix a t b)) → P e
infix_case P (v_Infix {a} {t} {b}) f = f a t b

pub function_case : {d : Definition} (P : Definition → Type 0) → ViewD 14 d → ((f : FunctionDefinition) → P (PlainFunction f)) → P d
function_case P (v_Plain_function {f}) g = g f

-- a value is absent exactly at kind 49
pub value_there : (e : Expression) (w : List ℕ) (i : ℕ) → ExpressionAt e w i → kind_at w i ≡ 49 → ⊥
value_there e w i h q =
    let k : has 49 expressions ≡ true = subst (λ j. has j expressions ≡ true) (sym (head_e e h).kind_is ∙ q) (kind_e_in e) in
    let z : ◌≡◌ {A = ℕ} 0 1 = cc in omega arith
