-- `book_compiler::includes::find_book` meets its contract. The invariant: what is found from the first on is what is found from here on. Assumes nothing.
use Rattle.std.proofs.Common.{sym, ◌∙◌, eq-eqb, ne_eqb}
use Rattle.words.specs.Areas.{entry_field}
use Rattle.words.proofs.Firsts.{first_here, first_next, first_end}
use Rattle.compiler_laws.specs.IncludeSteps.{is_book}
use Rattle.book_compiler.proofs.includes.find_book.Goals as goal

pub returns-then-entry_word-file : goal.returns-then-entry_word-file
returns-then-entry_word-file c =
    first_here (is_book c.args.file c.args.books.now) c.args.many c.loop-i.i c.args.many 0
    c.loop-i-test.true (eq-eqb (entry_field 1 c.loop-i.i 0 c.args.books.now) c.args.file (sym
    c.entry_word.ensures ∙ c.if-entry_word-file.true)) c.loop-i.invariant

pub loop-i-preserved : goal.loop-i-preserved
loop-i-preserved c =
    first_next (is_book c.args.file c.args.books.now) c.args.many c.loop-i.i c.args.many 0
    c.loop-i-test.true (ne_eqb (entry_field 1 c.loop-i.i 0 c.args.books.now) c.args.file
    (λ q. c.if-entry_word-file.false (c.entry_word.ensures ∙ q))) c.loop-i.invariant

pub returns : goal.returns
returns c = first_end (is_book c.args.file c.args.books.now) c.args.many
    c.loop-i.i c.args.many 0 c.loop-i-test.false c.loop-i.invariant
