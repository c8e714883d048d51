-- `check_records` meets its contract: rows 2 and 3 by their tests, then what the walk over the documents gives, of which none can be lacking. Assumes nothing.
use mathlib.Core.Path.{sym, ap, ◌∙◌}
use native.Mathlib.Omega.{arith}
use Rattle.std.specs.Prelude.{Err}
use Rattle.std.proofs.lemmas.Result.{err_from_is_err_and}
use Rattle.tree.specs.Check.{shape_by}
use Rattle.tree.proofs.Lacking.{shape_passed}
use Rattle.tree.proofs.Ways.{shape_long, shape_none}
use Rattle.tree.proofs.Ways.{shape_length}
use Rattle.std.proofs.Common.{eqb-true}
use Rattle.std.proofs.lemmas.Bool.{eqb-false}
use Rattle.tree.proofs.check_records.Goals as goal

pub returns-then-count-gt-MOST_RECORDS : goal.returns-then-count-gt-MOST_RECORDS
returns-then-count-gt-MOST_RECORDS g c =
    ap Err c.at-then-count-gt-MOST_RECORDS.ensures
    ∙ shape_long (g.R.Records.words c.args.records) (eqb-true _ _ (sym c.is_whole.ensures ∙ c.if-not-is_whole.false)) (omega (arith, c.count-count.ensures, c.if-count-gt-MOST_RECORDS.true))

pub returns-then-count-eq0 : goal.returns-then-count-eq0
returns-then-count-eq0 g c =
    ap Err c.at-then-count-eq0.ensures
    ∙ shape_none (g.R.Records.words c.args.records) (eqb-true _ _ (sym c.is_whole.ensures ∙ c.if-not-is_whole.false)) (omega (arith, c.count-count.ensures, c.if-count-gt-MOST_RECORDS.false))
    (sym c.count-count.ensures ∙ c.if-count-eq0.true)

pub returns-in_err-walk : goal.returns-in_err-walk
returns-in_err-walk g c =
    let p = err_from_is_err_and c.from_residual.result c.from_residual.ensures.1 in
    rw (p.1, p.2)
    (ap shape_by (sym c.in_err-walk.was) ∙ shape_passed (g.R.Records.words c.args.records) (eqb-true _ _ (sym c.is_whole.ensures ∙ c.if-not-is_whole.false)) c.count-count.ensures
    c.if-count-gt-MOST_RECORDS.false c.if-count-eq0.false c.walk.ensures)

pub returns : goal.returns
returns g c =
    ap shape_by (sym c.in_ok-walk.was) ∙ shape_passed (g.R.Records.words c.args.records) (eqb-true _ _ (sym c.is_whole.ensures ∙ c.if-not-is_whole.false)) c.count-count.ensures
    c.if-count-gt-MOST_RECORDS.false c.if-count-eq0.false c.walk.ensures

pub returns-then-not-is_whole : goal.returns-then-not-is_whole
returns-then-not-is_whole g c = ap Err c.at.ensures ∙ shape_length (g.R.Records.words c.args.records) (eqb-false _ _ (sym c.is_whole.ensures ∙ c.if-not-is_whole.true))
