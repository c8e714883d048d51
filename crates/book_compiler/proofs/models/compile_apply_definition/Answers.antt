-- `book_compiler::models::compile_apply_definition` meets its contract: a way for each outcome of the searches. Assumes nothing.
use Rattle.book_compiler.proofs.ApplyDefinitions.{apply_short, apply_nothing, apply_nowhere, apply_copies}
use Rattle.std.proofs.Common.{arith}
use Rattle.book_compiler.proofs.models.compile_apply_definition.Goals as goal

pub returns-then-end-at : goal.returns-then-end-at
returns-then-end-at c = apply_short (omega (arith, c.if-end-at.true))

pub returns-then-end-at-lt3 : goal.returns-then-end-at-lt3
returns-then-end-at-lt3 c = apply_short (omega (arith, c.if-end-at.false, c.if-end-at-lt3.true))

pub returns-in-Some-to : goal.returns-in-Some-to
returns-in-Some-to c =
    apply_copies c.find_model_index_by_local_name-from.ensures c.find_model_index_by_local_name-to.ensures c.in-Some.is c.in-Some-to.is
    c.copy_methods.ensures

pub returns-in_default-to : goal.returns-in_default-to
returns-in_default-to c =
    apply_nowhere c.find_model_index_by_local_name-from.ensures c.find_model_index_by_local_name-to.ensures c.in_default-to.is

pub returns-in_default : goal.returns-in_default
returns-in_default c =
    apply_nothing c.find_model_index_by_local_name-from.ensures c.find_model_index_by_local_name-to.ensures c.in_default.is
