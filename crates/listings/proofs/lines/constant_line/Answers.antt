-- `constant_line` meets its contract: a constant by its case, other words as they stand. Assumes nothing.
use mathlib.Core.Path.{sym, ◌∙◌}
use Rattle.words.specs.Areas.{entry_field}
use Rattle.listings.proofs.Cases.{constant_listed, words_listed}
use native.Mathlib.Omega.{arith}
use Rattle.listings.proofs.lines.constant_line.Goals as goal

pub returns-in-Some : goal.returns-in-Some
unfolding entry_field
returns-in-Some c =
    constant_listed c.args.constants.now c.args.i c.entry_word-value.result (omega (arith, c.entry_word-value.type_inv)) c.entry_word-value.ensures _
    (sym c.in-Some.is ∙ c.constant_at.ensures) c.case_line.ensures

pub returns-in-None : goal.returns-in-None
unfolding entry_field
returns-in-None c =
    words_listed c.args.constants.now c.args.i c.entry_word-value.result (omega (
      arith,
      c.entry_word-value.type_inv,
    )) c.entry_word-value.ensures c.entry_word-kind.result
    c.entry_word-kind.ensures (sym c.in-None.is ∙ c.constant_at.ensures) c.short_line.ensures
