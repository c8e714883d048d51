-- `empty_area` meets its contract. Assumes nothing.
use lib.Dec.{eqb}
use mathlib.Core.Path.{ap}
use mathlib.Core.Bool.{Bool, ◌&&◌}
use Rattle.program_check.proofs.whole.empty_area.Goals as goal

pub returns : goal.returns
returns c = ap (λ (x : Bool). x && eqb c.args.total 0) c.lies_in-zero.ensures
