-- `write_refusal` meets its contract: section 0, then the errors after rows 7 and 8. Assumes nothing.
use Rattle.listings.proofs.Whole.{refusal_written, refusal_alone}
use Rattle.listings.proofs.write_refusal.Goals as goal

pub returns-then-lists_errors : goal.returns-then-lists_errors
returns-then-lists_errors c =
    refusal_written c.args.reply c.args.errors.now c.args.out.now _ _ c.refusal_line-first.ensures c.write_line-place.ensures
    c.lists_errors.ensures _ c.if-lists_errors.true
    c.errors_in-count.ensures c.write_section.ensures

pub returns : goal.returns
returns c =
    refusal_alone c.args.reply c.args.errors.now c.args.out.now _ _ c.refusal_line-first.ensures
    c.write_line-place.ensures c.lists_errors.ensures c.if-lists_errors.false
