-- `book_compiler::functions::parameter` meets its contract: with the mark set, a new name, and one that is there. Assumes nothing.
use Rattle.std.proofs.Common.{sym, ◌∙◌}
use Rattle.book_compiler.proofs.Parameters.{some_is, none_is, parameter_full, parameter_new, parameter_there}
use Rattle.book_compiler.proofs.functions.parameter.Goals as goal

pub returns-then-state-ne0 : goal.returns-then-state-ne0
returns-then-state-ne0 c = parameter_full c.if-state-ne0.true

pub returns-then-is_some : goal.returns-then-is_some
returns-then-is_some c =
    let new = some_is _ (sym c.is_some.ensures ∙ c.if-is_some.true) in
    parameter_new c.if-state-ne0.false c.field-kind.ensures c.field-name.ensures c.instance_by-instance.ensures c.set_parameters.ensures
    c.define_local.ensures new.1

pub returns : goal.returns
returns c =
    parameter_there c.if-state-ne0.false c.field-kind.ensures c.field-name.ensures c.instance_by-instance.ensures c.set_parameters.ensures
    c.define_local.ensures (none_is _ (sym c.is_some.ensures ∙ c.if-is_some.false)) c.field-position.ensures c.push_error.ensures
