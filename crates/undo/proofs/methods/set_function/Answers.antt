-- `undo::methods::set_function` meets its contract, by its test. Assumes nothing.
use borrow.Author.Tests.{eq-eqb, ne_eqb}
use Rattle.undo.proofs.methods.set_function.Goals as goal

pub returns-then-stood-eq0 : goal.returns-then-stood-eq0
returns-then-stood-eq0 c =
    rw (eq-eqb c.args.stood 0 c.if-stood-eq0.true) c.write_word.ensures.words

pub returns : goal.returns
returns c =
    rw (ne_eqb c.args.stood 0 c.if-stood-eq0.false, ← c.entry_word-old.ensures) c.write_word-2.ensures.words
