-- `book_compiler::models::publish_entry` meets its contract: with the mark set, with a name that is there, and with one more. Assumes nothing.
use Rattle.std.proofs.Common.{refl}
use Rattle.compiler_laws.proofs.PublishedNames.{publish_full, publish_there, publish_new}
use Rattle.book_compiler.proofs.StoodBooks.{publics_stay, public_replaced, public_more}
use Rattle.book_compiler.proofs.models.publish_entry.Goals as goal

pub returns-then-book-ne0 : goal.returns-then-book-ne0
returns-then-book-ne0 c = ((publish_full c.if-book-ne0.true, publics_stay), record { constants = refl; standing = refl })

pub returns-in-Some : goal.returns-in-Some
returns-in-Some c = (
  (
    publish_there c.if-book-ne0.false c.find_pair-found.ensures c.in-Some.is c.write_word.ensures,
    public_replaced c.args.name c.if-book-ne0.false c.find_pair-found.ensures c.in-Some.is
        c.write_word.ensures,
  ),
  record { constants = refl; standing = refl },
)

pub returns : goal.returns
returns c = (
  (
    publish_new c.if-book-ne0.false c.find_pair-found.ensures c.in_default.is c.take.ensures,
    public_more c.take.ensures,
  ),
  record { constants = refl; standing = refl },
)
