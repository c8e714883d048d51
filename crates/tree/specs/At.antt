-- What the records from a place on spell, node by node: relations between the tree of `Ast` and the words. The kinds, the order of children, and that a
-- span counts 'records in its subtree, itself included' are 01's, 'The tree'
use Rattle.std.specs.Prelude.{ℕ, ◌+◌, max, ◌≡◌, List, [], ◌∷◌, Bool, true, ◌||◌, length, eqb}
use Rattle.std.proofs.Math.Option.{Option, none, some}
use Rattle.words.specs.Ast.{Token, Expression, Expressions, Variables, Statement, Statements, Identifier, This, Null, Integer, Float, Text, Boolean}
use Rattle.words.specs.Ast.{Array, Prefix, Infix, If, IfElse, Call, InstanceGet, IndexGet, ∅ₑ, ◌∷ₑ◌, ∅ᵥ, Bare, Valued, Local, Return, For, Break}
use Rattle.words.specs.Ast.{Rescue, Expr, ∅ₛ, ◌∷ₛ◌, Binding, Alias, FunctionDefinition, Definition, LocalDefinition, IncludeDefinition}
use Rattle.words.specs.Ast.{ModelDefinition, PublicModelDefinition, PlainFunction, PublicFunction, ImplementDefinition, ApplyDefinition, Document}
use Rattle.words.specs.Record.{token_at, kind_at, span_at, value_at}

-- what every record says of itself: its kind and its span (01, 'A record is four 64-bit words')
pub record Head (w : List ℕ) (i kind span : ℕ) : Type 0 where
  pub kind_is : kind_at w i ≡ kind
  pub span_is : span_at w i ≡ span

-- a record without children, and its token: position, kind and value
pub record Leaf (w : List ℕ) (i kind : ℕ) (t : Token) : Type 0 where
  pub head : Head w i kind 1
  pub token : t ≡ token_at w i

-- the kinds of expressions (01, 'The tree')
abbrev pub kind_e : Expression → ℕ
kind_e (Identifier t) = 30
kind_e (This t) = 31
kind_e (Null t) = 32
kind_e (Integer t) = 33
kind_e (Float t) = 34
kind_e (Text t) = 35
kind_e (Boolean t) = 36
kind_e (Array t es) = 37
kind_e (Prefix t e) = 38
kind_e (Infix a t b) = 39
kind_e (If c t) = 42
kind_e (IfElse c t f) = 42
kind_e (Call t f ps) = 44
kind_e (InstanceGet t a b) = 45
kind_e (IndexGet t a b) = 46

-- the kinds of statements
abbrev pub kind_s : Statement → ℕ
kind_s (Local vs) = 20
kind_s (Return t) = 21
kind_s (Break t) = 22
kind_s (Rescue t) = 23
kind_s (For t n e ss) = 24
kind_s (Expr e) = 25

-- the kinds of definitions
abbrev pub kind_d : Definition → ℕ
kind_d (LocalDefinition bs) = 10
kind_d (IncludeDefinition n t l) = 11
kind_d (ModelDefinition t ns) = 12
kind_d (PublicModelDefinition t ns) = 13
kind_d (PlainFunction f) = 14
kind_d (PublicFunction f) = 15
kind_d (ImplementDefinition t fs) = 16
kind_d (ApplyDefinition s t) = 17

-- how many records spell it: its span. Blocks (43), names (40) and absent values (49) are records too
unfoldable mutual
  pub size_e : Expression → ℕ
  size_e (Identifier t) = 1
  size_e (This t) = 1
  size_e (Null t) = 1
  size_e (Integer t) = 1
  size_e (Float t) = 1
  size_e (Text t) = 1
  size_e (Boolean t) = 1
  size_e (Array t es) = 1 + size_es es
  size_e (Prefix t e) = 1 + size_e e
  size_e (Infix a t b) = 1 + size_e a + size_e b
  size_e (If c t) = 1 + size_e c + (1 + size_ss t)
  size_e (IfElse c t f) = 1 + size_e c + (1 + size_ss t) + (1 + size_ss f)
  size_e (Call t f ps) = 1 + size_e f + size_es ps
  size_e (InstanceGet t a b) = 1 + size_e a + size_e b
  size_e (IndexGet t a b) = 1 + size_e a + size_e b

  pub size_es : Expressions → ℕ
  size_es ∅ₑ = 0
  size_es (e ∷ₑ es) = size_e e + size_es es

  pub size_vs : Variables → ℕ
  size_vs ∅ᵥ = 0
  size_vs (Bare t vs) = 2 + size_vs vs
  size_vs (Valued t e vs) = 1 + size_e e + size_vs vs

  pub size_s : Statement → ℕ
  size_s (Local vs) = 1 + size_vs vs
  size_s (Return t) = 1
  size_s (Break t) = 1
  size_s (Rescue t) = 1
  size_s (For t n e ss) = 2 + size_e e + size_ss ss
  size_s (Expr e) = 1 + size_e e

  pub size_ss : Statements → ℕ
  size_ss ∅ₛ = 0
  size_ss (s ∷ₛ ss) = size_s s + size_ss ss

-- how many levels it has, itself counted: a child is one level below (01, 'A document is level 1'). A name beside an expression is no deeper than it
unfoldable mutual
  pub depth_e : Expression → ℕ
  depth_e (Identifier t) = 1
  depth_e (This t) = 1
  depth_e (Null t) = 1
  depth_e (Integer t) = 1
  depth_e (Float t) = 1
  depth_e (Text t) = 1
  depth_e (Boolean t) = 1
  depth_e (Array t es) = 1 + depth_es es
  depth_e (Prefix t e) = 1 + depth_e e
  depth_e (Infix a t b) = 1 + max (depth_e a) (depth_e b)
  depth_e (If c t) = 1 + max (depth_e c) (1 + depth_ss t)
  depth_e (IfElse c t f) = 1 + max (depth_e c) (1 + max (depth_ss t) (depth_ss f))
  depth_e (Call t f ps) = 1 + max (depth_e f) (depth_es ps)
  depth_e (InstanceGet t a b) = 1 + max (depth_e a) (depth_e b)
  depth_e (IndexGet t a b) = 1 + max (depth_e a) (depth_e b)

  pub depth_es : Expressions → ℕ
  depth_es ∅ₑ = 0
  depth_es (e ∷ₑ es) = max (depth_e e) (depth_es es)

  pub depth_vs : Variables → ℕ
  depth_vs ∅ᵥ = 0
  depth_vs (Bare t vs) = max 1 (depth_vs vs)
  depth_vs (Valued t e vs) = max (depth_e e) (depth_vs vs)

  pub depth_s : Statement → ℕ
  depth_s (Local vs) = 1 + depth_vs vs
  depth_s (Return t) = 1
  depth_s (Break t) = 1
  depth_s (Rescue t) = 1
  depth_s (For t n e ss) = 1 + max (depth_e e) (depth_ss ss)
  depth_s (Expr e) = 1 + depth_e e

  pub depth_ss : Statements → ℕ
  depth_ss ∅ₛ = 0
  depth_ss (s ∷ₛ ss) = max (depth_s s) (depth_ss ss)

-- a record of a kind and a span with its token
pub record Headed (w : List ℕ) (i kind span : ℕ) (t : Token) : Type 0 where
  pub head : Head w i kind span
  pub token : t ≡ token_at w i

-- what stands at a place: the record of its kind and span, and its children from the next place on, each after the span of the one before. Kinds 20, 25,
-- 42 and 43 have no token (01: position and value 0), so a `Head` alone
unfoldable mutual
  pub ExpressionAt : Expression → List ℕ → ℕ → Type 0
  ExpressionAt (Identifier t) w i = Leaf w i 30 t
  ExpressionAt (This t) w i = Leaf w i 31 t
  ExpressionAt (Null t) w i = Leaf w i 32 t
  ExpressionAt (Integer t) w i = Leaf w i 33 t
  ExpressionAt (Float t) w i = Leaf w i 34 t
  ExpressionAt (Text t) w i = Leaf w i 35 t
  ExpressionAt (Boolean t) w i = Leaf w i 36 t
  ExpressionAt (Array t es) w i = Headed w i 37 (1 + size_es es) t × ExpressionsAt es w (i + 1)
  ExpressionAt (Prefix t e) w i = Headed w i 38 (1 + size_e e) t × ExpressionAt e w (i + 1)
  ExpressionAt (Infix a t b) w i = Headed w i 39 (1 + size_e a + size_e b) t × ExpressionAt a w (i + 1) × ExpressionAt b w (i + 1 + size_e a)
  ExpressionAt (If c t) w i = Head w i 42 (1 + size_e c + (1 + size_ss t)) × ExpressionAt c w (i + 1)
      × Head w (i + 1 + size_e c) 43 (1 + size_ss t) × StatementsAt t w (i + 1 + size_e c + 1)
  ExpressionAt (IfElse c t f) w i = Head w i 42 (1 + size_e c + (1 + size_ss t) + (1 + size_ss f)) × ExpressionAt c w (i + 1)
      × Head w (i + 1 + size_e c) 43 (1 + size_ss t) × StatementsAt t w (i + 1 + size_e c + 1)
      × Head w (i + 1 + size_e c + (1 + size_ss t)) 43 (1 + size_ss f) × StatementsAt f w (i + 1 + size_e c + (1 + size_ss t) + 1)
  ExpressionAt (Call t f ps) w i = Headed w i 44 (1 + size_e f + size_es ps) t × ExpressionAt f w (i + 1) × ExpressionsAt ps w (i + 1 + size_e f)
  ExpressionAt (InstanceGet t a b) w i = Headed w i 45 (1 + size_e a + size_e b) t × ExpressionAt a w (i + 1) × ExpressionAt b w (i + 1 + size_e a)
  ExpressionAt (IndexGet t a b) w i = Headed w i 46 (1 + size_e a + size_e b) t × ExpressionAt a w (i + 1) × ExpressionAt b w (i + 1 + size_e a)

  pub ExpressionsAt : Expressions → List ℕ → ℕ → Type 0
  ExpressionsAt ∅ₑ w i = Unit {0}
  ExpressionsAt (e ∷ₑ es) w i = ExpressionAt e w i × ExpressionsAt es w (i + size_e e)

  pub VariablesAt : Variables → List ℕ → ℕ → Type 0
  VariablesAt ∅ᵥ w i = Unit {0}
  VariablesAt (Bare t vs) w i = Leaf w i 40 t × Head w (i + 1) 49 1 × VariablesAt vs w (i + 2)
  VariablesAt (Valued t e vs) w i = Leaf w i 40 t × ExpressionAt e w (i + 1) × VariablesAt vs w (i + 1 + size_e e)

  pub StatementAt : Statement → List ℕ → ℕ → Type 0
  StatementAt (Local vs) w i = Head w i 20 (1 + size_vs vs) × VariablesAt vs w (i + 1)
  StatementAt (Return t) w i = Leaf w i 21 t
  StatementAt (Break t) w i = Leaf w i 22 t
  StatementAt (Rescue t) w i = Leaf w i 23 t
  StatementAt (For t n e ss) w i = Headed w i 24 (2 + size_e e + size_ss ss) t × Leaf w (i + 1) 40 n × ExpressionAt e w (i + 2)
      × StatementsAt ss w (i + 2 + size_e e)
  StatementAt (Expr e) w i = Head w i 25 (1 + size_e e) × ExpressionAt e w (i + 1)

  pub StatementsAt : Statements → List ℕ → ℕ → Type 0
  StatementsAt ∅ₛ w i = Unit {0}
  StatementsAt (s ∷ₛ ss) w i = StatementAt s w i × StatementsAt ss w (i + size_s s)

-- a list of things, one after the other; their records, and the most levels of one
unfoldable pub RunAt : {A : Type 0} → (A → List ℕ → ℕ → Type 0) → (A → ℕ) → List A → List ℕ → ℕ → Type 0
RunAt at size [] w i = Unit {0}
RunAt at size (x ∷ xs) w i = at x w i × RunAt at size xs w (i + size x)

unfoldable pub run_size : {A : Type 0} → (A → ℕ) → List A → ℕ
run_size size [] = 0
run_size size (x ∷ xs) = size x + run_size size xs

unfoldable pub run_depth : {A : Type 0} → (A → ℕ) → List A → ℕ
run_depth depth [] = 0
run_depth depth (x ∷ xs) = max (depth x) (run_depth depth xs)

-- kind 40
abbrev pub NameAt : Token → List ℕ → ℕ → Type 0
NameAt t w i = Leaf w i 40 t

-- a thing of one record, which is one level, or of two side by side
abbrev pub single : {A : Type 0} → A → ℕ
single x = 1

abbrev pub double : {A : Type 0} → A → ℕ
double x = 2

-- kinds 40 and 41
abbrev pub is_parameter : ℕ → Bool
is_parameter k = eqb k 40 || eqb k 41

-- the parameters of a 14 or 15: names, or `this` parameters
unfoldable pub ParametersAt : List Token → List ℕ → ℕ → Type 0
ParametersAt [] w i = Unit {0}
ParametersAt (t ∷ ts) w i = Leaf w i t.kind t × (is_parameter t.kind ≡ true) × ParametersAt ts w (i + 1)

-- the value of a local definition's pair; 49 where there is none
unfoldable pub ValueAt : Option Token → List ℕ → ℕ → Type 0
ValueAt none w i = Head w i 49 1
ValueAt (some t) w i = Leaf w i t.kind t × (t.kind ≡ 49 → ⊥)

-- the pairs of kinds 10 and 11
abbrev pub BindingAt : Binding → List ℕ → ℕ → Type 0
BindingAt b w i = Leaf w i 40 b.variable × ValueAt b.value w (i + 1)

abbrev pub AliasAt : Alias → List ℕ → ℕ → Type 0
AliasAt a w i = Leaf w i 40 a.public_name × Leaf w (i + 1) 40 a.alias

-- kinds 14 and 15
abbrev pub size_f : FunctionDefinition → ℕ
size_f f = 1 + length f.parameters + size_ss f.body

pub record FunctionAt (kind : ℕ) (f : FunctionDefinition) (w : List ℕ) (i : ℕ) : Type 0 where
  pub headed : Headed w i kind (size_f f) f.name
  pub parameters : ParametersAt f.parameters w (i + 1)
  pub body : StatementsAt f.body w (i + 1 + length f.parameters)

-- definitions, kinds 10 to 17
unfoldable pub size_d : Definition → ℕ
size_d (LocalDefinition bs) = 1 + run_size double bs
size_d (IncludeDefinition n t l) = 1 + run_size double l
size_d (ModelDefinition t ns) = 1 + run_size single ns
size_d (PublicModelDefinition t ns) = 1 + run_size single ns
size_d (PlainFunction f) = size_f f
size_d (PublicFunction f) = size_f f
size_d (ImplementDefinition t fs) = 1 + run_size size_f fs
size_d (ApplyDefinition s t) = 3

unfoldable pub DefinitionAt : Definition → List ℕ → ℕ → Type 0
DefinitionAt (LocalDefinition bs) w i = Head w i 10 (1 + run_size double bs) × RunAt BindingAt double bs w (i + 1)
DefinitionAt (IncludeDefinition n t l) w i = Headed w i 11 (1 + run_size double l) t × RunAt AliasAt double l w (i + 1) × (n ≡ i)
DefinitionAt (ModelDefinition t ns) w i = Headed w i 12 (1 + run_size single ns) t × RunAt NameAt single ns w (i + 1)
DefinitionAt (PublicModelDefinition t ns) w i = Headed w i 13 (1 + run_size single ns) t × RunAt NameAt single ns w (i + 1)
DefinitionAt (PlainFunction f) w i = FunctionAt 14 f w i
DefinitionAt (PublicFunction f) w i = FunctionAt 15 f w i
DefinitionAt (ImplementDefinition t fs) w i = Headed w i 16 (1 + run_size size_f fs) t × RunAt (FunctionAt 14) size_f fs w (i + 1)
DefinitionAt (ApplyDefinition s t) w i = Head w i 17 3 × Leaf w (i + 1) 40 s × Leaf w (i + 2) 40 t

-- documents, kind 1
abbrev pub size_doc : Document → ℕ
size_doc d = 1 + run_size size_d d.definitions

pub record DocumentAt (d : Document) (w : List ℕ) (i : ℕ) : Type 0 where
  pub head : Head w i 1 (size_doc d)
  pub file : d.filename ≡ value_at w i
  pub definitions : RunAt DefinitionAt size_d d.definitions w (i + 1)

abbrev pub DocumentsAt : List Document → List ℕ → ℕ → Type 0
DocumentsAt ds w i = RunAt DocumentAt size_doc ds w i

-- levels of definitions and documents
abbrev pub depth_f : FunctionDefinition → ℕ
depth_f f = 1 + max (run_depth single f.parameters) (depth_ss f.body)

unfoldable pub depth_d : Definition → ℕ
depth_d (LocalDefinition bs) = 1 + run_depth single bs
depth_d (IncludeDefinition n t l) = 1 + run_depth single l
depth_d (ModelDefinition t ns) = 1 + run_depth single ns
depth_d (PublicModelDefinition t ns) = 1 + run_depth single ns
depth_d (PlainFunction f) = depth_f f
depth_d (PublicFunction f) = depth_f f
depth_d (ImplementDefinition t fs) = 1 + run_depth depth_f fs
depth_d (ApplyDefinition s t) = 2

abbrev pub depth_doc : Document → ℕ
depth_doc d = 1 + run_depth depth_d d.definitions
