-- `constants_area` meets its contract: the entries, and the area as a whole. Assumes nothing.
use Rattle.std.proofs.Common.{refl, sym, ◌∙◌}
use Rattle.program_check.specs.Parts.{alone}
use Rattle.program_check.proofs.WholeTests.{area_no, area_yes}
use Rattle.program_check.proofs.whole.constants_area.Goals as goal

pub returns-then-entries_fine : goal.returns-then-entries_fine
returns-then-entries_fine c =
    area_yes (alone 2 c.args.constants.now c.args.totals) 2 refl (sym c.entries_fine.ensures ∙ c.if-entries_fine.true) c.constants_whole.ensures

pub returns-else-entries_fine : goal.returns-else-entries_fine
returns-else-entries_fine c =
    c.if-entries_fine.false ∙ area_no (alone 2 c.args.constants.now c.args.totals) 2 refl (sym c.entries_fine.ensures ∙ c.if-entries_fine.false)
