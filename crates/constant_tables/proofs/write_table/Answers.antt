-- `write_table` meets its contract: rows 2 to 4 and 10, then the room. Assumes nothing.
use Rattle.std.proofs.Common.{◌∙◌, sym, refl, length}
use Rattle.std.proofs.lemmas.Result.{err_from_is_err_and}
use Rattle.constant_tables.proofs.Converting.{document_refused, document_short, document_done}
use Rattle.constant_tables.proofs.write_table.Goals as goal

pub returns-in_err-check_document : goal.returns-in_err-check_document
returns-in_err-check_document c =
    let p = err_from_is_err_and c.from_residual.result c.from_residual.ensures.1 in
    rw (p.1, p.2) (document_refused c.args.tree.now c.args.out.now (length c.args.out.now) refl
    (sym c.check_document.ensures ∙ c.in_err-check_document.was))

pub returns-then-out-lines : goal.returns-then-out-lines
returns-then-out-lines c =
    document_short c.args.tree.now c.args.out.now (length c.args.out.now) refl (sym c.check_document.ensures ∙ c.in_ok-check_document.was) c.if-out-lines.true
    c.at.ensures

pub returns : goal.returns
returns c =
    document_done c.args.tree.now c.write_constants.new.out (length c.args.out.now) c.write_constants.auto.out
    (sym c.check_document.ensures ∙ c.in_ok-check_document.was) c.args.out.now c.if-out-lines.false c.write_constants.ensures
