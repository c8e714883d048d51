-- `book_compiler::locals::define_entry` meets its contract: with the mark set nothing is done. Assumes nothing.
use Rattle.std.proofs.Common.{refl}
use Rattle.compiler_laws.proofs.BookLeaves.{define_full, define_seeks}
use Rattle.book_compiler.proofs.Stood.{spares_refl}
use Rattle.book_compiler.proofs.StoodBooks.{local_spares}
use Rattle.book_compiler.proofs.locals.define_entry.Goals as goal

pub returns-then-book-ne0 : goal.returns-then-book-ne0
returns-then-book-ne0 c = ((define_full c.args.name c.if-book-ne0.true, spares_refl _), record { constants = refl; standing = refl })

pub returns : goal.returns
returns c = (
  (
    define_seeks c.args.name c.if-book-ne0.false c.define_context_local.ensures,
    local_spares c.args.book.now c.args.name c.define_context_local.ensures,
  ),
  record { constants = refl; standing = refl },
)
