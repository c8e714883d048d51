-- The number of a case of an enum is read as that case again. Assumes nothing.
use Prim.Native.Nat.{ℕ}
use mathlib.Core.Path.{◌≡◌, refl, sym, ap, ◌∙◌}
use mathlib.Core.Bool.{cond}
use mathlib.Core.List.{List, [], ◌∷◌}
use lib.Dec.{eqb}
use Rattle.std.specs.Prelude.{Result, Ok, Err}
use Rattle.words.specs.declared.UnknownNumber.{UnknownNumber}
use Rattle.words.specs.Numbers.{ReadAs}
use Rattle.words.specs.Kinds.{number_of_record, number_of_prefix, number_of_infix}
use Rattle.words.specs.Areas.{number_of_area}
use Rattle.words.specs.Constants.{number_of_kind}
use Rattle.words.specs.declared.record.RecordKind.{RecordKind}
use Rattle.words.specs.declared.record.RecordKind.TheVariants as records
use Rattle.words.specs.declared.record.PrefixOperator.{PrefixOperator}
use Rattle.words.specs.declared.record.PrefixOperator.TheVariants as prefixes
use Rattle.words.specs.declared.record.InfixOperator.{InfixOperator}
use Rattle.words.specs.declared.record.InfixOperator.TheVariants as infixes
use Rattle.words.specs.declared.areas.Area.{Area}
use Rattle.words.specs.declared.areas.Area.TheVariants as areas
use Rattle.words.specs.declared.object.Kind.{Kind}
use Rattle.words.specs.declared.object.Kind.TheVariants as kinds

-- the first among some cases that has a number
abbrev pub first_of : {K : Type 0} → (K → ℕ) → K → List K → ℕ → K
first_of number k [] n = k
first_of number k (j ∷ js) n = cond (eqb n (number k)) k (first_of number j js n)

-- where each case is the first that has its number, one that is read from a case's number is that case
pub read_back : {K : Type 0} (number : K → ℕ) (of : ℕ → K) → ((k : K) → of (number k) ≡ k) → (k : K) (r : Result K UnknownNumber)
    → ReadAs number (number k) r → r ≡ Ok k
read_back number of back k (Ok j) e = ap (λ x. Ok x) (sym (back j) ∙ ap of e ∙ back k)
read_back number of back k (Err x) e = absurd (e.1 k refl)

pub record_back : (k : RecordKind) (r : Result RecordKind UnknownNumber) → ReadAs number_of_record (number_of_record k) r → r ≡ Ok k
record_back = read_back number_of_record of same
  where
    of : ℕ → RecordKind
    of = first_of number_of_record records.Document
        (records.LocalDefinition ∷ records.IncludeDefinition ∷ records.ModelDefinition ∷ records.PublicModelDefinition ∷ records.FunctionDefinition
        ∷ records.PublicFunctionDefinition ∷ records.ImplementDefinition ∷ records.ApplyDefinition ∷ records.LocalStatement ∷ records.ReturnStatement
        ∷ records.BreakStatement ∷ records.RescueStatement ∷ records.ForStatement ∷ records.ExpressionStatement ∷ records.Identifier ∷ records.This
        ∷ records.Null ∷ records.Integer ∷ records.Float ∷ records.String ∷ records.Boolean ∷ records.Array ∷ records.Prefix ∷ records.Infix
        ∷ records.Name ∷ records.ThisParameter ∷ records.If ∷ records.Block ∷ records.Call ∷ records.InstanceGet ∷ records.IndexGet ∷ records.OtherToken
        ∷ records.Absent ∷ [])

    same : (k : RecordKind) → of (number_of_record k) ≡ k
    same records.Document = refl
    same records.LocalDefinition = refl
    same records.IncludeDefinition = refl
    same records.ModelDefinition = refl
    same records.PublicModelDefinition = refl
    same records.FunctionDefinition = refl
    same records.PublicFunctionDefinition = refl
    same records.ImplementDefinition = refl
    same records.ApplyDefinition = refl
    same records.LocalStatement = refl
    same records.ReturnStatement = refl
    same records.BreakStatement = refl
    same records.RescueStatement = refl
    same records.ForStatement = refl
    same records.ExpressionStatement = refl
    same records.Identifier = refl
    same records.This = refl
    same records.Null = refl
    same records.Integer = refl
    same records.Float = refl
    same records.String = refl
    same records.Boolean = refl
    same records.Array = refl
    same records.Prefix = refl
    same records.Infix = refl
    same records.Name = refl
    same records.ThisParameter = refl
    same records.If = refl
    same records.Block = refl
    same records.Call = refl
    same records.InstanceGet = refl
    same records.IndexGet = refl
    same records.OtherToken = refl
    same records.Absent = refl

pub prefix_back : (k : PrefixOperator) (r : Result PrefixOperator UnknownNumber) → ReadAs number_of_prefix (number_of_prefix k) r → r ≡ Ok k
prefix_back = read_back number_of_prefix of same
  where
    of : ℕ → PrefixOperator
    of = first_of number_of_prefix prefixes.Minus (prefixes.Not ∷ prefixes.Other ∷ [])

    same : (k : PrefixOperator) → of (number_of_prefix k) ≡ k
    same prefixes.Minus = refl
    same prefixes.Not = refl
    same prefixes.Other = refl

pub infix_back : (k : InfixOperator) (r : Result InfixOperator UnknownNumber) → ReadAs number_of_infix (number_of_infix k) r → r ≡ Ok k
infix_back = read_back number_of_infix of same
  where
    of : ℕ → InfixOperator
    of = first_of number_of_infix infixes.Assign
        (infixes.Plus ∷ infixes.Minus ∷ infixes.Star ∷ infixes.Slash ∷ infixes.Percent ∷ infixes.PlusAssign ∷ infixes.MinusAssign ∷ infixes.StarAssign
        ∷ infixes.SlashAssign ∷ infixes.PercentAssign ∷ infixes.Equal ∷ infixes.NotEqual ∷ infixes.Greater ∷ infixes.Less ∷ infixes.GreaterEqual
        ∷ infixes.LessEqual ∷ infixes.And ∷ infixes.Or ∷ infixes.Other ∷ [])

    same : (k : InfixOperator) → of (number_of_infix k) ≡ k
    same infixes.Assign = refl
    same infixes.Plus = refl
    same infixes.Minus = refl
    same infixes.Star = refl
    same infixes.Slash = refl
    same infixes.Percent = refl
    same infixes.PlusAssign = refl
    same infixes.MinusAssign = refl
    same infixes.StarAssign = refl
    same infixes.SlashAssign = refl
    same infixes.PercentAssign = refl
    same infixes.Equal = refl
    same infixes.NotEqual = refl
    same infixes.Greater = refl
    same infixes.Less = refl
    same infixes.GreaterEqual = refl
    same infixes.LessEqual = refl
    same infixes.And = refl
    same infixes.Or = refl
    same infixes.Other = refl

pub area_back : (k : Area) (r : Result Area UnknownNumber) → ReadAs number_of_area (number_of_area k) r → r ≡ Ok k
area_back = read_back number_of_area of same
  where
    of : ℕ → Area
    of = first_of number_of_area areas.Code
        (areas.Constants ∷ areas.Functions ∷ areas.Models ∷ areas.Properties ∷ areas.Methods ∷ areas.ContextLocals ∷ areas.PublicNames
        ∷ areas.ScopeNames ∷ areas.Breaks ∷ areas.Errors ∷ areas.Books ∷ [])

    same : (k : Area) → of (number_of_area k) ≡ k
    same areas.Code = refl
    same areas.Constants = refl
    same areas.Functions = refl
    same areas.Models = refl
    same areas.Properties = refl
    same areas.Methods = refl
    same areas.ContextLocals = refl
    same areas.PublicNames = refl
    same areas.ScopeNames = refl
    same areas.Breaks = refl
    same areas.Errors = refl
    same areas.Books = refl

pub kind_back : (k : Kind) (r : Result Kind UnknownNumber) → ReadAs number_of_kind (number_of_kind k) r → r ≡ Ok k
kind_back = read_back number_of_kind of same
  where
    of : ℕ → Kind
    of = first_of number_of_kind kinds.Null (kinds.Boolean ∷ kinds.Integer ∷ kinds.Float ∷ kinds.Text ∷ kinds.Model ∷ kinds.Function ∷ [])

    same : (k : Kind) → of (number_of_kind k) ≡ k
    same kinds.Null = refl
    same kinds.Boolean = refl
    same kinds.Integer = refl
    same kinds.Float = refl
    same kinds.Text = refl
    same kinds.Model = refl
    same kinds.Function = refl
