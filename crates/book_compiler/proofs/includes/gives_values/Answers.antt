-- `book_compiler::includes::gives_values` meets its contract: a way for each mode and each outcome of the search. Assumes nothing.
use Rattle.compiler_laws.proofs.IncludedNames.{gives_present, gives_known, gives_unknown, gives_past}
use Rattle.std.proofs.Common.{refl}
use Rattle.book_compiler.proofs.includes.gives_values.Goals as goal

pub returns-then-not-book : goal.returns-then-not-book
returns-then-not-book c =
    gives_present c.args.tree.now c.args.at c.args.end c.args.books.now c.args.publics.now c.args.book.now c.if-not-book.true

pub returns-in-Some : goal.returns-in-Some
returns-in-Some c =
    gives_known c.args.tree.now c.args.at c.args.end c.args.books.now c.args.publics.now c.args.book.now c.if-not-book.false c.field-file.ensures
    c.find_book-there.ensures c.in-Some.is c.all_public.ensures

pub returns-then-end-at : goal.returns-then-end-at
returns-then-end-at c =
    gives_past c.args.tree.now c.args.at c.args.end c.args.books.now c.args.publics.now c.args.book.now c.if-end-at.true

pub returns : goal.returns
returns c =
    gives_unknown c.args.tree.now c.args.at c.args.end c.args.books.now c.args.publics.now c.args.book.now c.if-not-book.false c.field-file.ensures
    c.find_book-there.ensures c.in_default.is refl
