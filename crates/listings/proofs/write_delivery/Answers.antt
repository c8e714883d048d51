-- `write_delivery` meets its contract: sections 1 to 10, each from where the one before it ended. Assumes nothing.
use Rattle.listings.specs.Listing.{areas_of}
use Rattle.listings.proofs.Whole.{delivery_written}
use Rattle.listings.proofs.write_delivery.Goals as goal

pub returns : goal.returns
returns c =
    delivery_written c.args.totals (areas_of c.args.lent) c.args.out.now _ _ _ _ _ _ _ _ _ _ _ c.totals_line-first.ensures c.write_line-at.ensures
    c.write_section-at.ensures c.write_code-at.ensures c.write_section-at-2.ensures c.write_section-at-3.ensures
    c.write_section-at-4.ensures c.write_methods-at.ensures c.write_section-at-5.ensures c.write_section-at-6.ensures c.write_section.ensures
