-- The kinds of records and of operators that `src/record.rt` declares, and the number of each (01, 'The tree')
use Rattle.std.specs.Prelude.{ℕ}
use Rattle.words.specs.declared.record.RecordKind.{RecordKind}
use Rattle.words.specs.declared.record.RecordKind.TheVariants as kind
use Rattle.words.specs.declared.record.PrefixOperator.{PrefixOperator}
use Rattle.words.specs.declared.record.PrefixOperator.TheVariants as before
use Rattle.words.specs.declared.record.InfixOperator.{InfixOperator}
use Rattle.words.specs.declared.record.InfixOperator.TheVariants as between

abbrev pub number_of_record : RecordKind → ℕ
number_of_record kind.Document = 1
number_of_record kind.LocalDefinition = 10
number_of_record kind.IncludeDefinition = 11
number_of_record kind.ModelDefinition = 12
number_of_record kind.PublicModelDefinition = 13
number_of_record kind.FunctionDefinition = 14
number_of_record kind.PublicFunctionDefinition = 15
number_of_record kind.ImplementDefinition = 16
number_of_record kind.ApplyDefinition = 17
number_of_record kind.LocalStatement = 20
number_of_record kind.ReturnStatement = 21
number_of_record kind.BreakStatement = 22
number_of_record kind.RescueStatement = 23
number_of_record kind.ForStatement = 24
number_of_record kind.ExpressionStatement = 25
number_of_record kind.Identifier = 30
number_of_record kind.This = 31
number_of_record kind.Null = 32
number_of_record kind.Integer = 33
number_of_record kind.Float = 34
number_of_record kind.String = 35
number_of_record kind.Boolean = 36
number_of_record kind.Array = 37
number_of_record kind.Prefix = 38
number_of_record kind.Infix = 39
number_of_record kind.Name = 40
number_of_record kind.ThisParameter = 41
number_of_record kind.If = 42
number_of_record kind.Block = 43
number_of_record kind.Call = 44
number_of_record kind.InstanceGet = 45
number_of_record kind.IndexGet = 46
number_of_record kind.OtherToken = 47
number_of_record kind.Absent = 49

-- the number of each prefix operator
abbrev pub number_of_prefix : PrefixOperator → ℕ
number_of_prefix before.Minus = 0
number_of_prefix before.Not = 1
number_of_prefix before.Other = 2

-- the number of each infix operator
abbrev pub number_of_infix : InfixOperator → ℕ
number_of_infix between.Assign = 0
number_of_infix between.Plus = 1
number_of_infix between.Minus = 2
number_of_infix between.Star = 3
number_of_infix between.Slash = 4
number_of_infix between.Percent = 5
number_of_infix between.PlusAssign = 6
number_of_infix between.MinusAssign = 7
number_of_infix between.StarAssign = 8
number_of_infix between.SlashAssign = 9
number_of_infix between.PercentAssign = 10
number_of_infix between.Equal = 11
number_of_infix between.NotEqual = 12
number_of_infix between.Greater = 13
number_of_infix between.Less = 14
number_of_infix between.GreaterEqual = 15
number_of_infix between.LessEqual = 16
number_of_infix between.And = 17
number_of_infix between.Or = 18
number_of_infix between.Other = 19
