-- `words::reply::Totals::total_of` meets its contract: a number that no area has reads 0. Assumes nothing.
use mathlib.Core.Path.{refl}
use Rattle.words.specs.Reply.{area_totals}
use Rattle.words.proofs.NoArea.{no_area}
use Rattle.words.proofs.reply.Totals.total_of.Goals as goal

pub returns-in-Err : goal.returns-in-Err
returns-in-Err c = no_area (area_totals c.args.self) c.args.area refl refl c.in-Err.ensures.1
