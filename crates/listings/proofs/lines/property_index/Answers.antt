-- `property_index` meets its contract: the model's entries are counted as they pass. Assumes nothing.
use Rattle.words.specs.Areas.{entry_field}
use Rattle.listings.proofs.Keys.{counted_begin, counted_more, counted_other, counted_all}
use native.Mathlib.Omega.{arith}
use Rattle.listings.proofs.lines.property_index.Goals as goal
use Rattle.listings.proofs.lines.property_index.Goals.{then-entry_word-model, else-entry_word-model}

pub loop-j-init : goal.loop-j-init
loop-j-init c = counted_begin c.args.properties.now c.entry_word-model.result

pub loop-j-preserved : goal.loop-j-preserved
unfolding entry_field
loop-j-preserved c =
    elim c.if-entry_word-model.branch [
      | then-entry_word-model w ↦ counted_more c.args.properties.now c.entry_word-model.result c.loop-j.invariant c.entry_word.ensures
          w.if-entry_word-model.true w.index-is
      | else-entry_word-model w ↦ counted_other c.args.properties.now c.entry_word-model.result c.loop-j.invariant c.entry_word.ensures
          w.if-entry_word-model.false w.index-is
    ]

pub returns : goal.returns
unfolding entry_field
returns c =
    counted_all c.args.properties.now c.entry_word-model.result c.args.i c.loop-j.j c.loop-j.invariant (omega arith) c.loop-j-test.false
    c.entry_word-model.ensures
