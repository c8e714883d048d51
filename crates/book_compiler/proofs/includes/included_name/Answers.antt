-- `book_compiler::includes::included_name` meets its contract: a way for each outcome of its searches. Assumes nothing.
use Rattle.compiler_laws.proofs.IncludedNames.{included_unknown, included_none, included_some}
use Rattle.book_compiler.proofs.includes.included_name.Goals as goal

pub returns-in-Some-found : goal.returns-in-Some-found
returns-in-Some-found c =
    included_some c.args.book.now.file c.args.book.now.publics c.args.file c.args.name c.args.books.now c.args.publics.now
    c.find_book-there.ensures
    c.in-Some.is c.find_pair-found.ensures c.in-Some-found.is c.entry_word-constant.ensures

pub returns-in-Some : goal.returns-in-Some
returns-in-Some c =
    included_none c.args.book.now.file c.args.book.now.publics c.args.file c.args.name c.args.books.now c.args.publics.now
    c.find_book-there.ensures
    c.in-Some.is c.find_pair-found.ensures c.in_default-found.is

pub returns : goal.returns
returns c =
    included_unknown c.args.book.now.file c.args.book.now.publics c.args.file c.args.name c.args.books.now c.args.publics.now
    c.find_book-there.ensures
    c.in_default.is
