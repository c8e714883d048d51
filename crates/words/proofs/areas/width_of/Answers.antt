-- `words::areas::width_of` meets its contract: a number that no area has reads 0. Assumes nothing.
use mathlib.Core.Path.{refl}
use Rattle.words.specs.Areas.{widths}
use Rattle.words.proofs.NoArea.{no_area}
use Rattle.words.proofs.areas.width_of.Goals as goal

pub returns-in-Err : goal.returns-in-Err
returns-in-Err c = no_area widths c.args.area refl refl c.in-Err.ensures.1
