-- `write_columns` meets its contract: rows 2 to 4 by the shape check, then the room. Assumes nothing.
use Rattle.std.proofs.Common.{◌∙◌, sym}
use Rattle.std.proofs.lemmas.Result.{err_from_is_err_and}
use Rattle.column_files.proofs.Converting.{columns_refused, columns_short, columns_done}
use Rattle.column_files.proofs.write_columns.Goals as goal

pub returns-in_err-check : goal.returns-in_err-check
returns-in_err-check c =
    let p = err_from_is_err_and c.from_residual.result c.from_residual.ensures.1 in
    rw (p.1, p.2) (columns_refused c.args.tree.now c.args.out.now (sym c.check.ensures ∙ c.in_err-check.was))

pub returns-then-out-records : goal.returns-then-out-records
returns-then-out-records c =
    columns_short c.args.tree.now c.args.out.now (sym c.check.ensures ∙ c.in_ok-check.was) c.if-out-records.true c.at.ensures

pub returns : goal.returns
returns c =
    columns_done c.args.tree.now c.args.out.now c.write_records.new.out (sym c.check.ensures
    ∙ c.in_ok-check.was) c.if-out-records.false c.write_records.auto.out
    c.write_records.ensures
