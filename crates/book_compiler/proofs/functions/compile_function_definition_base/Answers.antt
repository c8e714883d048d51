-- `book_compiler::functions::compile_function_definition_base` meets its contract: the parameters, the body, the return. Assumes nothing.
use Rattle.std.proofs.Common.{arith}
use Rattle.book_compiler.proofs.Parameters.{base_past, base_meets}
use Rattle.book_compiler.proofs.functions.compile_function_definition_base.Goals as goal

pub overflow_sub-many : goal.overflow_sub-many
overflow_sub-many c =
    omega (arith, c.parameters_end-first.ensures.from)

pub returns-then-at-end : goal.returns-then-at-end
returns-then-at-end c =
    base_meets _ c.parameters_end-first.ensures c.parameters.ensures (omega (arith, c.parameters_end-first.ensures.from))
    c.set_parameters.ensures
    c.compile_statements.ensures c.get_last_position-position.ensures c.emit_return.ensures

pub returns : goal.returns
returns c = base_past c.if-at-end.false
