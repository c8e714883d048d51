-- The tree of `intermediate/ast.rs`. Texts are numbers (01, 'The tree'); a token has the position, the kind and the value of its record.
-- The Rust's `Vec`s and `Box`es become types of their own, and an optional part two constructors. Constructors have the Rust's names, but for `Text` (its
-- `String`), `Expr` (`Statement::Expression`) and `PlainFunction` (`Definition::Function`); those of other definitions end in `Definition`
use Rattle.std.specs.Prelude.{ℕ, List}
use Rattle.std.proofs.Math.Option.{Option}

-- `Token` of `intermediate/mod.rs`: what an error lists of it is its record's kind and value (01, 'Errors')
pub record Token : Type 0 where
  pub position : ℕ
  pub kind : ℕ
  pub value : ℕ

mutual
  -- `Expression`: kinds 30 to 39, 42, 44 to 46
  pub data Expression : Type 0 where
    Identifier : Token → Expression
    This : Token → Expression
    Null : Token → Expression
    Integer : Token → Expression
    Float : Token → Expression
    Text : Token → Expression
    Boolean : Token → Expression
    Array : Token → Expressions → Expression
    Prefix : Token → Expression → Expression
    Infix : Expression → Token → Expression → Expression
    If : Expression → Statements → Expression
    IfElse : Expression → Statements → Statements → Expression
    Call : Token → Expression → Expressions → Expression
    InstanceGet : Token → Expression → Expression → Expression
    IndexGet : Token → Expression → Expression → Expression

  pub data Expressions : Type 0 where
    ∅ₑ : Expressions
    ◌∷ₑ◌ : Expression → Expressions → Expressions

  -- the pairs of a `LocalStatement`: a variable with its value, or without
  pub data Variables : Type 0 where
    ∅ᵥ : Variables
    Bare : Token → Variables → Variables
    Valued : Token → Expression → Variables → Variables

  -- `Statement`: kinds 20 to 25
  pub data Statement : Type 0 where
    Local : Variables → Statement
    Return : Token → Statement
    For : Token → Token → Expression → Statements → Statement
    Break : Token → Statement
    Rescue : Token → Statement
    Expr : Expression → Statement

  pub data Statements : Type 0 where
    ∅ₛ : Statements
    ◌∷ₛ◌ : Statement → Statements → Statements

infixr 40 ◌∷ₑ◌
infixr 40 ◌∷ₛ◌
-- kinds 14 and 15; `name` is the token of the function's own record
pub record FunctionDefinition : Type 0 where
  pub name : Token
  pub parameters : List Token
  pub body : Statements

-- a pair of a `LocalDefinition`
pub record Binding : Type 0 where
  pub variable : Token
  pub value : Option Token

-- a pair of an `IncludeDefinition`
pub record Alias : Type 0 where
  pub public_name : Token
  pub alias : Token

-- `Definition`: kinds 10 to 17. An include has its record's index ahead, which only row 11 reads (2026-07: 'the include's record index')
pub data Definition : Type 0 where
  LocalDefinition : List Binding → Definition
  IncludeDefinition : ℕ → Token → List Alias → Definition
  ModelDefinition : Token → List Token → Definition
  PublicModelDefinition : Token → List Token → Definition
  PlainFunction : FunctionDefinition → Definition
  PublicFunction : FunctionDefinition → Definition
  ImplementDefinition : Token → List FunctionDefinition → Definition
  ApplyDefinition : Token → Token → Definition

-- `Document`: kind 1
pub record Document : Type 0 where
  pub filename : ℕ
  pub definitions : List Definition
