-- `book_compiler::functions::parameters_end` meets its contract. The invariant: where they end from here they end from the start. Assumes nothing.
use Rattle.compiler_laws.proofs.FunctionParameters.{ends_past, ends_here, ends_later}
use Rattle.std.proofs.Common.{sym, ◌∙◌}
use Rattle.book_compiler.proofs.functions.parameters_end.Goals as goal

pub loop-i-init : goal.loop-i-init
loop-i-init c = λ r h. h

pub loop-i-preserved : goal.loop-i-preserved
loop-i-preserved c = λ r h. c.loop-i.invariant r (ends_later c.loop-i-test.true
    c.field.ensures (sym c.is_parameter.ensures ∙ c.if-is_parameter.true) h)

pub returns-else-is_parameter : goal.returns-else-is_parameter
returns-else-is_parameter c = c.loop-i.invariant _ (ends_here c.field.ensures (sym
    c.is_parameter.ensures ∙ c.if-is_parameter.false))

pub returns-after-loop-i : goal.returns-after-loop-i
returns-after-loop-i c = c.loop-i.invariant _ (ends_past c.loop-i-test.false)
