-- `write` meets its contract: a delivery or a refusal, then the end. Assumes nothing.
use mathlib.Core.Path.{◌∙◌}
use Rattle.line_writer.specs.Placed.{placed}
use Rattle.listings.specs.Listing.{areas_of}
use Rattle.listings.proofs.Whole.{listing_delivered, listing_refused, placed_long}
use Rattle.listings.proofs.write.Goals as goal
use Rattle.listings.proofs.write.Goals.{then-reply-eq0, else-reply-eq0}

pub returns : goal.returns
returns c =
    elim c.if-reply-eq0.branch [
      | then-reply-eq0 w ↦ listing_delivered c.args.reply (areas_of c.args.lent) c.args.lent.errors.now c.args.out.now
          (placed c.if-reply-eq0.place c.if-reply-eq0.out) c.finish.ensures (placed_long _ _ ∙ c.if-reply-eq0.auto.out)
          w.if-reply-eq0.true (rw (w.place-is, w.out-is) w.write_delivery-place.ensures)
      | else-reply-eq0 w ↦ listing_refused c.args.reply (areas_of c.args.lent) c.args.lent.errors.now c.args.out.now
          (placed c.if-reply-eq0.place c.if-reply-eq0.out) c.finish.ensures (placed_long _ _ ∙ c.if-reply-eq0.auto.out)
          w.if-reply-eq0.false (rw (w.place-is, w.out-is) w.write_refusal-place.ensures)
    ]
