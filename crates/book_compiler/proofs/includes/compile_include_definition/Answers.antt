-- `book_compiler::includes::compile_include_definition` meets its contract: a way for each outcome of its tests. Assumes nothing.
use Rattle.book_compiler.proofs.IncludeDefinitions.{include_full, include_past, include_refused, include_given}
use borrow.Author.Tests.{not-true, not-false}
use Rattle.std.proofs.Common.{refl}
use mathlib.Core.Path.{ap}
use mathlib.Core.Bool.{not}
use Rattle.book_compiler.proofs.includes.compile_include_definition.Goals as goal

pub returns-then-book-ne0 : goal.returns-then-book-ne0
returns-then-book-ne0 c = include_full c.args.tree.now c.args.at
    c.args.end c.if-book-ne0.true

pub returns-then-tree-at : goal.returns-then-tree-at
returns-then-tree-at c =
    include_past c.args.tree.now c.args.at c.args.end c.if-tree-at.true

pub returns-then-not-include_gives_values : goal.returns-then-not-include_gives_values
returns-then-not-include_gives_values c =
    include_refused c.args.tree.now c.args.at c.args.end c.if-book-ne0.false
    c.include_gives_values.ensures (not-true c.include_gives_values.result (ap not c.if-not-include_gives_values.true)) refl

pub returns : goal.returns
returns c =
    include_given c.args.tree.now c.args.at c.args.end c.if-book-ne0.false
    c.include_gives_values.ensures (not-false c.include_gives_values.result (ap not c.if-not-include_gives_values.false))
    c.compile_aliases.ensures
