-- `errors_in` meets its contract: the place of the first entry without a number. Assumes nothing.
use Prim.Native.Nat.{◌/◌}
use mathlib.Core.Path.{◌∙◌}
use lib.ListN.{length}
use native.Mathlib.Omega.{arith}
use borrow.Author.Rules.{rules}
use borrow.Author.Tests.{tests}
use Rattle.std.proofs.lemmas.Iterator.{YieldsList-from_range}
use Rattle.std.proofs.lemmas.Iterator.Search.{position_from_yields_List}
use Rattle.words.specs.Areas.{entry_field}
use Rattle.listings.proofs.Keys.{no_number, numbered}
use Rattle.listings.proofs.sections.errors_in.Goals as goal

pub returns : goal.returns
unfolding entry_field
returns c =
    c.unwrap_or.ensures ∙ numbered c.args.errors.now (length c.args.errors.now / 4) (position_from_yields_List (no_number c.args.errors.now) _ _
    c.position-first.result c.position-first.ensures.ran
    (YieldsList-from_range 0 (length c.args.errors.now / 4) (length c.args.errors.now / 4) (cc) (omega arith))
    (λ x b q k. search (rules, tests)))
