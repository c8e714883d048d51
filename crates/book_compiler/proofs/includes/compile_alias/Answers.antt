-- `book_compiler::includes::compile_alias` meets its contract: a way for each outcome of its tests. Assumes nothing.
use Rattle.book_compiler.proofs.IncludeDefinitions.{alias_full, alias_none, alias_value}
use Rattle.book_compiler.proofs.includes.compile_alias.Goals as goal

pub returns-then-book-ne0 : goal.returns-then-book-ne0
returns-then-book-ne0 c =
    alias_full c.args.tree.now c.args.at c.args.next c.args.file c.field-local.ensures c.define_local-found.ensures c.if-book-ne0.true

pub returns-in-Some : goal.returns-in-Some
returns-in-Some c =
    alias_value c.args.tree.now c.args.at c.args.next c.args.file c.field-local.ensures c.define_local-found.ensures c.if-book-ne0.false
    c.field-name.ensures c.find_constant_index_by_include-value.ensures c.in-Some.is c.set_value.ensures

pub returns-in_default : goal.returns-in_default
returns-in_default c =
    alias_none c.args.tree.now c.args.at c.args.next c.args.file c.field-local.ensures c.define_local-found.ensures c.if-book-ne0.false
    c.field-name.ensures c.find_constant_index_by_include-value.ensures c.in_default.is
