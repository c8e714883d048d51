-- `book_compiler::functions::add_entry` meets its contract: the function's code stands, and its entry is taken. Assumes nothing.
use Rattle.std.proofs.Common.{refl, ap}
use Rattle.compiler_laws.specs.declared.book.Book.{Book}
use Rattle.compiler_laws.proofs.BuiltFunctions.{add_meets}
use Rattle.book_compiler.proofs.StoodBooks.{function_spares}
use Rattle.book_compiler.proofs.functions.add_entry.Goals as goal

pub returns : goal.returns
returns c = (
  (
    add_meets c.args.name c.resume.ensures c.add_function.ensures,
    function_spares c.resume.ensures c.add_function.ensures refl,
  ),
  (
    ap (λ (b : Book). b.constants) c.resume.ensures,
    ap (λ (b : Book). b.standing_methods) c.resume.ensures,
  ),
)
