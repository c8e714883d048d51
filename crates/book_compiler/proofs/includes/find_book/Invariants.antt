-- `book_compiler::includes::find_book` meets its contract. The invariant: what is found from the first on is what is found from here on. Assumes nothing.
use Rattle.std.proofs.Common.{◌≡◌, ◌-◌}
use Rattle.building.specs.Found.{first_from}
use Rattle.compiler_laws.specs.IncludeSteps.{is_book}
use Rattle.book_compiler.proofs.includes.find_book.Given as goal

abbrev pub invariant-loop-i : goal.invariant-loop-i
invariant-loop-i l = first_from (is_book l.file l.books) (l.many - l.i) l.i ≡ first_from (is_book l.file l.books) l.many 0
