-- `blame` meets its contract: what is lacking decides. Assumes nothing.
use mathlib.Core.Path.{sym, ap, ◌∙◌}
use Rattle.std.specs.Prelude.{Err}
use Rattle.tree.proofs.Lacking.{blame_parent, blame_found}
use Rattle.tree.proofs.blame.Goals as goal

pub returns-then-lacks : goal.returns-then-lacks
returns-then-lacks g c =
    ap Err c.at.ensures
    ∙ sym (blame_parent (g.R.Records.words c.args.records) c.args.slot c.args.parent c.args.at c.args.end _ (sym c.lacks.ensures ∙ c.if-lacks.true))

pub returns-else-lacks : goal.returns-else-lacks
returns-else-lacks g c =
    sym (blame_found (g.R.Records.words c.args.records) c.args.slot c.args.parent c.args.at c.args.end _ (sym c.lacks.ensures ∙ c.if-lacks.false))
