-- `book_compiler::implements::compile_implement_definition` meets its contract: with the mark set before or after, with no model, and with one.
-- Assumes nothing.
use Rattle.book_compiler.proofs.ImplementDefinitions.{implement_past, implement_full, implement_over, implement_none, implement_found}
use Rattle.book_compiler.proofs.implements.compile_implement_definition.Goals as goal

pub returns-then-book-ne0 : goal.returns-then-book-ne0
returns-then-book-ne0 c = implement_full c.if-book-ne0.true

pub returns-then-book-ne0-2 : goal.returns-then-book-ne0-2
returns-then-book-ne0-2 c =
    implement_over c.if-book-ne0.false c.implement_functions.ensures c.find_model_index_by_local_name-found.ensures c.if-book-ne0-2.true

pub returns-in-Some : goal.returns-in-Some
returns-in-Some c =
    implement_found c.if-book-ne0.false c.implement_functions.ensures c.find_model_index_by_local_name-found.ensures c.if-book-ne0-2.false c.in-Some.is
    c.implement_methods.ensures

pub returns-in_default : goal.returns-in_default
returns-in_default c =
    implement_none c.if-book-ne0.false c.implement_functions.ensures c.find_model_index_by_local_name-found.ensures c.if-book-ne0-2.false
    c.in_default.is

pub returns-else-at-end : goal.returns-else-at-end
returns-else-at-end c = implement_past c.if-at-end.false
