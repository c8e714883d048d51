-- `without_blanks` meets its contract: the place of the first byte that is no blank. Assumes nothing.
use mathlib.Core.Path.{◌∙◌}
use borrow.Author.Rules.{rules}
use borrow.Author.Tests.{tests}
use Rattle.std.proofs.lemmas.Iterator.{YieldsList-from_slice}
use Rattle.std.proofs.lemmas.Iterator.Search.{position_from_yields_List}
use Rattle.error_lines.proofs.Putting.{part_all}
use Rattle.error_lines.proofs.TextFields.{no_blank, place_or, blanks_passed}
use Rattle.error_lines.proofs.buffer.without_blanks.Goals as goal

pub returns : goal.returns
returns c =
    part_all c.args.field.now _ ∙ blanks_passed c.args.field.now _ (c.unwrap_or-first.ensures ∙ place_or no_blank c.args.field.now (position_from_yields_List
    no_blank _ _ c.position.result c.position.ensures.ran (YieldsList-from_slice c.args.field.now c.iter.ensures.rest) (λ x b q k. search (rules, tests))))
