-- `book_compiler::operations::operation` meets its contract: not equal is negated, every other value plain. Assumes nothing.
use Rattle.std.proofs.Common.{◌∙◌}
use Rattle.book_compiler.proofs.Infix.{operation_plain, operation_not}
use Rattle.book_compiler.proofs.operations.operation.Goals as goal

pub returns-then-value-eq-INFIX_NOT_EQUAL : goal.returns-then-value-eq-INFIX_NOT_EQUAL
returns-then-value-eq-INFIX_NOT_EQUAL c =
    operation_not c.args.value c.args.position (c.number-number.ensures ∙ c.operation_of.ensures) c.to_instruction-instruction.ensures
    c.emit.ensures c.if-value-eq-INFIX_NOT_EQUAL.true c.emit_opcode.ensures

pub returns-else-value-eq-INFIX_NOT_EQUAL : goal.returns-else-value-eq-INFIX_NOT_EQUAL
returns-else-value-eq-INFIX_NOT_EQUAL c =
    operation_plain c.args.value c.args.position (c.number-number.ensures ∙ c.operation_of.ensures) c.to_instruction-instruction.ensures
    c.emit.ensures c.if-value-eq-INFIX_NOT_EQUAL.false
