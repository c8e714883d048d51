-- `is_kind` meets its contract: it asks of each slot. Assumes nothing.
use Prim.Native.Nat.{ℕ}
use native.Mathlib.Omega.{arith}
use mathlib.Core.Path.{◌∙◌}
use borrow.Author.Rules.{rules}
use borrow.Author.Tests.{tests}
use Rattle.std.proofs.lemmas.Iterator.{YieldsList-from_range}
use Rattle.std.proofs.lemmas.Iterator.Search.{any_from_yields_List}
use Rattle.tree.specs.Rules.{may_stand}
use Rattle.error_lines.proofs.Lists.{kind_stands}
use Rattle.error_lines.proofs.known.is_kind.Goals as goal

pub returns : goal.returns
returns c =
    any_from_yields_List (λ (slot : ℕ). may_stand slot c.args.kind) _ _ _ c.any.ensures.ran (YieldsList-from_range 0 24 24 (cc) (omega arith))
    (λ x b q k. search (rules, tests)) ∙ kind_stands c.args.kind
