-- `book_compiler::expressions::leaf` meets its contract: a way for each kind. Assumes nothing.
use Rattle.std.proofs.Common.{refl}
use Rattle.words.specs.declared.record.RecordKind.TheVariants as records
use Rattle.book_compiler.proofs.ReadCases.{record_or, no_record}
use Rattle.book_compiler.proofs.Leaves as t
use Rattle.book_compiler.proofs.expressions.leaf.Goals as goal

pub returns-in-Identifier : goal.returns-in-Identifier
returns-in-Identifier c = t.leaf_name (record_or _ _ c.try_from.ensures c.unwrap_or.ensures c.in-Identifier.is refl) c.name.ensures

pub returns-in-This : goal.returns-in-This
returns-in-This c =
    t.leaf_this c.emit.ensures (record_or _ _ c.try_from.ensures c.unwrap_or.ensures c.in-This.is refl) c.to_instruction-read.ensures

pub returns-in-Integer : goal.returns-in-Integer
returns-in-Integer c = t.leaf_integer (record_or _ _ c.try_from.ensures c.unwrap_or.ensures c.in-Integer.is refl) c.constant.ensures

pub returns-in-Float : goal.returns-in-Float
returns-in-Float c = t.leaf_float (record_or _ _ c.try_from.ensures c.unwrap_or.ensures c.in-Float.is refl) c.constant-in-Float.ensures

pub returns-in-String : goal.returns-in-String
returns-in-String c = t.leaf_text (record_or _ _ c.try_from.ensures c.unwrap_or.ensures c.in-String.is refl) c.constant-in-String.ensures

pub returns-in_default : goal.returns-in_default
returns-in_default c =
    t.leaf_standing c.emit-in_default.ensures c.standing.ensures c.to_instruction-instruction.ensures
    (no_record _ _ records.Identifier c.try_from.ensures c.unwrap_or.ensures c.in_default.not-Identifier)
    (no_record _ _ records.This c.try_from.ensures c.unwrap_or.ensures c.in_default.not-This)
    (no_record _ _ records.Integer c.try_from.ensures c.unwrap_or.ensures c.in_default.not-Integer)
    (no_record _ _ records.Float c.try_from.ensures c.unwrap_or.ensures c.in_default.not-Float)
    (no_record _ _ records.String c.try_from.ensures c.unwrap_or.ensures c.in_default.not-String)
