-- `book_compiler::models::add_property` meets its contract: with the mark set, with a name that is there, and with one more. Assumes nothing.
use Rattle.book_compiler.proofs.ModelDefinitions.{property_marked, property_again, property_more}
use Rattle.book_compiler.proofs.models.add_property.Goals as goal

pub returns-then-book-ne0 : goal.returns-then-book-ne0
returns-then-book-ne0 c = property_marked c.if-book-ne0.true

pub returns-in-Some : goal.returns-in-Some
returns-in-Some c =
    property_again c.if-book-ne0.false c.field-name.ensures c.find_property-found.ensures c.in-Some.is
    c.push_error.ensures

pub returns : goal.returns
returns c =
    property_more c.if-book-ne0.false c.field-name.ensures c.find_property-found.ensures c.in_default.is
    c.take_property.ensures
