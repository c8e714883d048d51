-- `book_compiler::operations::finish_expression` meets its contract: a way for each kind, and for each value of a prefix. Assumes nothing.
use Rattle.std.proofs.Common.{◌≡◌, ℕ, ap, sym, refl, ◌∙◌, arith}
use Rattle.words.specs.Opcode.{to_instruction, word, CallOp}
use Rattle.words.specs.Kinds.{number_of_prefix}
use Rattle.words.specs.declared.record.RecordKind.TheVariants as records
use Rattle.words.specs.declared.record.PrefixOperator.{PrefixOperator}
use Rattle.words.specs.declared.record.PrefixOperator.TheVariants as prefixes
use Rattle.book_compiler.proofs.ReadCases.{is_record, prefix_or, no_prefix}
use Rattle.book_compiler.proofs.Leaves as t
use Rattle.book_compiler.proofs.operations.finish_expression.Goals as goal

pub returns-in_default : goal.returns-in_default
returns-in_default c =
    let none = c.in_default.ensures.1 in
    t.finish_none (λ q. none records.Array (sym q)) (λ q. none records.Prefix (sym q)) (λ q. none records.Call (sym q))
    (λ q. none records.InstanceGet (sym q)) (λ q. none records.IndexGet (sym q))

pub returns-in-Array : goal.returns-in-Array
returns-in-Array c = t.finish_array (is_record c.in-Ok.ensures c.in-Array.is) c.to_instruction-instruction.ensures c.emit.ensures

pub returns-in-Call : goal.returns-in-Call
returns-in-Call c =
    t.finish_call (is_record c.in-Ok.ensures c.in-Call.is)
    (c.to_instruction-instruction-in-Call.ensures ∙ ap (λ (i : ℕ). word (to_instruction CallOp i)) c.saturating_sub.ensures)
    c.emit-in-Call.ensures

pub returns-in-InstanceGet : goal.returns-in-InstanceGet
returns-in-InstanceGet c = t.finish_instance (is_record c.in-Ok.ensures c.in-InstanceGet.is) c.emit_opcode.ensures

pub returns-in-IndexGet : goal.returns-in-IndexGet
returns-in-IndexGet c = t.finish_index (is_record c.in-Ok.ensures c.in-IndexGet.is) c.emit_opcode-in-IndexGet.ensures

pub returns-in-Minus : goal.returns-in-Minus
returns-in-Minus c =
    t.finish_minus (is_record c.in-Ok.ensures c.in-Prefix.is) (prefix_or _ _ c.try_from-in-Prefix.ensures c.unwrap_or.ensures c.in-Minus.is refl)
    c.emit_opcode-in-Minus.ensures

pub returns-in-Not : goal.returns-in-Not
returns-in-Not c =
    t.finish_not (is_record c.in-Ok.ensures c.in-Prefix.is) (prefix_or _ _ c.try_from-in-Prefix.ensures c.unwrap_or.ensures c.in-Not.is refl)
    c.emit_opcode-in-Not.ensures

pub returns-in-Other : goal.returns-in-Other
returns-in-Other c =
    let none = λ (k : PrefixOperator) (other : number_of_prefix prefixes.Other ≡ number_of_prefix k → ⊥). no_prefix _ _ k c.try_from-in-Prefix.ensures
    c.unwrap_or.ensures (λ q. other (ap number_of_prefix (sym c.in-Other.is ∙ q))) in
    t.finish_other (is_record c.in-Ok.ensures c.in-Prefix.is) (none prefixes.Minus (λ q. omega (arith, q)))
    (none prefixes.Not (λ q. omega (arith, q))) c.push_error.ensures
