-- The tree that words spell, whatever they are: `documents_of` reads each record by its kind, children by spans (01, 'The tree'). On words that `shape_of`
-- finds fine it is the tree that stands there (`DocumentsAt`): `fine_spells`, proofs/Bundle.antt
use Rattle.std.specs.Prelude.{ℕ, zero, suc, ◌+◌, ◌*◌, Bool, true, false, cond, ◌||◌, List, [], ◌∷◌, length, eqb, ltb}
use Rattle.std.proofs.Math.Option.{none, some}
use Rattle.words.specs.Ast.{Token, Expression, Expressions, Variables, Statement, Statements, Identifier, This, Null, Integer, Float, Text, Boolean}
use Rattle.words.specs.Ast.{Array, Prefix, Infix, If, IfElse, Call, InstanceGet, IndexGet, ∅ₑ, ◌∷ₑ◌, ∅ᵥ, Bare, Valued, Local, Return, For, Break}
use Rattle.words.specs.Ast.{Rescue, Expr, ∅ₛ, ◌∷ₛ◌, Binding, Alias, FunctionDefinition, Definition, LocalDefinition, IncludeDefinition}
use Rattle.words.specs.Ast.{ModelDefinition, PublicModelDefinition, PlainFunction, PublicFunction, ImplementDefinition, ApplyDefinition, Document}
use Rattle.words.specs.Record.{kind_at, span_at, value_at, token_at}
use Rattle.tree.specs.Check.{records_of, only_if}

-- the record after the subtree at a place, by its span
abbrev pub next : List ℕ → ℕ → ℕ
next w i = i + span_at w i

-- the entry of a number in a table
abbrev pub look : {A : Type 0} → ℕ → List (ℕ × A) → A → A
look k [] other = other
look k (p ∷ ps) other = cond (eqb k p.0) p.1 (look k ps other)

-- what a kind of expression stands for, so that a clause may match it
pub data Form : Type 0 where
  f_identifier f_this f_null f_integer f_float f_text f_boolean f_array f_prefix f_infix f_if f_call f_instance f_index : Form

abbrev pub forms : List (ℕ × Form)
forms =
    (30, f_identifier) ∷ (31, f_this) ∷ (32, f_null) ∷ (33, f_integer) ∷ (34, f_float) ∷ (35, f_text) ∷ (36, f_boolean) ∷ (37, f_array) ∷ (38, f_prefix)
    ∷ (39, f_infix) ∷ (42, f_if) ∷ (44, f_call) ∷ (45, f_instance) ∷ (46, f_index) ∷ []

abbrev pub form_of : ℕ → Form
form_of k = look k forms f_null

-- an expression of the record at i, from readers of an expression, of expressions up to the record's end, and of a block's statements
abbrev pub expression_by : Form → List ℕ → ℕ → (ℕ → Expression) → (ℕ → Expressions) → (ℕ → Statements) → Expression
expression_by f_identifier w i one many block = Identifier (token_at w i)
expression_by f_this w i one many block = This (token_at w i)
expression_by f_null w i one many block = Null (token_at w i)
expression_by f_integer w i one many block = Integer (token_at w i)
expression_by f_float w i one many block = Float (token_at w i)
expression_by f_text w i one many block = Text (token_at w i)
expression_by f_boolean w i one many block = Boolean (token_at w i)
expression_by f_array w i one many block = Array (token_at w i) (many (i + 1))
expression_by f_prefix w i one many block = Prefix (token_at w i) (one (i + 1))
expression_by f_infix w i one many block = Infix (one (i + 1)) (token_at w i) (one (next w (i + 1)))
expression_by f_if w i one many block =
    only_if (ltb (next w (next w (i + 1))) (next w i)) (If (one (i + 1)) (block (next w (i + 1))))
    (λ j. IfElse (one (i + 1)) (block (next w (i + 1))) (block j)) (next w (next w (i + 1)))
expression_by f_call w i one many block = Call (token_at w i) (one (i + 1)) (many (next w (i + 1)))
expression_by f_instance w i one many block = InstanceGet (token_at w i) (one (i + 1)) (one (next w (i + 1)))
expression_by f_index w i one many block = IndexGet (token_at w i) (one (i + 1)) (one (next w (i + 1)))

-- and of statements
pub data Act : Type 0 where
  a_local a_return a_break a_rescue a_for a_expr : Act

abbrev pub acts : List (ℕ × Act)
acts = (20, a_local) ∷ (21, a_return) ∷ (22, a_break) ∷ (23, a_rescue) ∷ (24, a_for) ∷ (25, a_expr) ∷ []

abbrev pub act_of : ℕ → Act
act_of k = look k acts a_return

abbrev pub statement_by : Act → List ℕ → ℕ → (ℕ → Expression) → (ℕ → Variables) → (ℕ → Statements) → Statement
statement_by a_local w i one pairs many = Local (pairs (i + 1))
statement_by a_return w i one pairs many = Return (token_at w i)
statement_by a_break w i one pairs many = Break (token_at w i)
statement_by a_rescue w i one pairs many = Rescue (token_at w i)
statement_by a_for w i one pairs many = For (token_at w i) (token_at w (i + 1)) (one (i + 2)) (many (next w (i + 2)))
statement_by a_expr w i one pairs many = Expr (one (i + 1))

-- a pair of a 20: a name, and 49 or an expression
abbrev pub variable_by : Bool → List ℕ → ℕ → (ℕ → Expression) → (ℕ → Variables) → Variables
variable_by true w i one more = Bare (token_at w i) (more (i + 2))
variable_by false w i one more = Valued (token_at w i) (one (i + 1)) (more (next w (i + 1)))

-- by fuel: twice the number of records is enough
unfoldable mutual
  pub expression_of : ℕ → List ℕ → ℕ → Expression
  expression_of zero w i = Null (token_at w i)
  expression_of (suc n) w i =
      expression_by (form_of (kind_at w i)) w i (λ j. expression_of n w j) (λ j. expressions_of n w j (next w i)) (λ j. statements_of n w (j + 1) (next w j))

  pub expressions_of : ℕ → List ℕ → ℕ → ℕ → Expressions
  expressions_of zero w i e = ∅ₑ
  expressions_of (suc n) w i e = only_if (ltb i e) ∅ₑ (λ j. expression_of n w j ∷ₑ expressions_of n w (next w j) e) i

  pub variables_of : ℕ → List ℕ → ℕ → ℕ → Variables
  variables_of zero w i e = ∅ᵥ
  variables_of (suc n) w i e = only_if (ltb i e) ∅ᵥ (λ j. variable_by (eqb (kind_at w (j + 1)) 49) w j (λ k. expression_of n w k) (λ k. variables_of n w k e)) i

  pub statement_of : ℕ → List ℕ → ℕ → Statement
  statement_of zero w i = Return (token_at w i)
  statement_of (suc n) w i =
      statement_by (act_of (kind_at w i)) w i (λ j. expression_of n w j) (λ j. variables_of n w j (next w i)) (λ j. statements_of n w j (next w i))

  pub statements_of : ℕ → List ℕ → ℕ → ℕ → Statements
  statements_of zero w i e = ∅ₛ
  statements_of (suc n) w i e = only_if (ltb i e) ∅ₛ (λ j. statement_of n w j ∷ₛ statements_of n w (next w j) e) i

-- one of a list for each record from i to e
unfoldable pub list_of : {A : Type 0} → (ℕ → A) → ℕ → List ℕ → ℕ → ℕ → List A
list_of f zero w i e = []
list_of f (suc n) w i e = only_if (ltb i e) [] (λ j. f j ∷ list_of f n w (next w j) e) i

-- one for each two records
unfoldable pub pairs_of : {A : Type 0} → (ℕ → A) → ℕ → List ℕ → ℕ → ℕ → List A
pairs_of f zero w i e = []
pairs_of f (suc n) w i e = only_if (ltb i e) [] (λ j. f j ∷ pairs_of f n w (j + 2) e) i

-- a pair of a 10: a name, and 49 or a value
abbrev pub binding_of : List ℕ → ℕ → Binding
binding_of w i = record { variable = token_at w i; value = cond (eqb (kind_at w (i + 1)) 49) none (some (token_at w (i + 1))) }

-- a pair of an 11: 'public name then alias'
abbrev pub alias_of : List ℕ → ℕ → Alias
alias_of w i = record { public_name = token_at w i; alias = token_at w (i + 1) }

-- a function's parameters: names and `this` parameters while they last
unfoldable pub parameters_of : ℕ → List ℕ → ℕ → ℕ → List Token
parameters_of zero w i e = []
parameters_of (suc n) w i e =
    only_if (ltb i e) [] (only_if (eqb (kind_at w i) 40 || eqb (kind_at w i) 41) [] (λ j. token_at w j ∷ parameters_of n w (j + 1) e)) i

abbrev pub function_of : List ℕ → ℕ → FunctionDefinition
function_of w i =
    let ps = parameters_of (span_at w i) w (i + 1) (next w i) in
    record { name = token_at w i; parameters = ps; body = statements_of (2 * span_at w i) w (i + 1 + length ps) (next w i) }

-- what a kind of definition stands for
pub data Part : Type 0 where
  p_local p_include p_model p_public_model p_function p_public_function p_implement p_apply : Part

abbrev pub parts : List (ℕ × Part)
parts =
    (10, p_local) ∷ (11, p_include) ∷ (12, p_model) ∷ (13, p_public_model) ∷ (14, p_function) ∷ (15, p_public_function) ∷ (16, p_implement) ∷ (17, p_apply) ∷ []

abbrev pub part_of : ℕ → Part
part_of k = look k parts p_apply

abbrev pub definition_by : Part → List ℕ → ℕ → Definition
definition_by p_local w i = LocalDefinition (pairs_of (binding_of w) (span_at w i) w (i + 1) (next w i))
definition_by p_include w i = IncludeDefinition i (token_at w i) (pairs_of (alias_of w) (span_at w i) w (i + 1) (next w i))
definition_by p_model w i = ModelDefinition (token_at w i) (list_of (token_at w) (span_at w i) w (i + 1) (next w i))
definition_by p_public_model w i = PublicModelDefinition (token_at w i) (list_of (token_at w) (span_at w i) w (i + 1) (next w i))
definition_by p_function w i = PlainFunction (function_of w i)
definition_by p_public_function w i = PublicFunction (function_of w i)
definition_by p_implement w i = ImplementDefinition (token_at w i) (list_of (function_of w) (span_at w i) w (i + 1) (next w i))
definition_by p_apply w i = ApplyDefinition (token_at w (i + 1)) (token_at w (i + 2))

unfoldable pub definition_of : List ℕ → ℕ → Definition
definition_of w i = definition_by (part_of (kind_at w i)) w i

-- kind 1: the file is its value
unfoldable pub document_of : List ℕ → ℕ → Document
document_of w i = record { filename = value_at w i; definitions = list_of (definition_of w) (span_at w i) w (i + 1) (next w i) }

-- 'a bundle is one or more documents; the first is the root'
unfoldable pub documents_of : List ℕ → List Document
documents_of w = list_of (document_of w) (records_of w) w 0 (records_of w)
