-- `book_compiler::methods::insert_entry` meets its contract: with the mark set, with an entry that is there, and with one more. Assumes nothing.
use Rattle.book_compiler.proofs.NotedMethods.{inserts_full, inserts_there, inserts_new}
use Rattle.book_compiler.proofs.methods.insert_entry.Goals as goal

pub returns-then-book-ne0 : goal.returns-then-book-ne0
returns-then-book-ne0 c = inserts_full c.args.model c.args.name c.args.function
    c.if-book-ne0.true

pub returns-in-Some : goal.returns-in-Some
returns-in-Some c =
    inserts_there c.args.model c.args.name c.args.function c.if-book-ne0.false c.find_method-found.ensures c.in-Some.is
    c.set_function.ensures

pub returns : goal.returns
returns c =
    inserts_new c.args.model c.args.name c.args.function c.if-book-ne0.false c.find_method-found.ensures
    c.in_default.is c.take.ensures
