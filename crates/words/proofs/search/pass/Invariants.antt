-- `words::search::pass`: none of the entries passed over has the value. The measure is what is left of the entries.
use Rattle.std.proofs.Common.{◌-◌}
use Rattle.words.specs.Search.{Passes}
use Rattle.words.proofs.search.pass.Given as goal

abbrev pub invariant-loop-i : goal.invariant-loop-i
invariant-loop-i g l = Passes l.area g.row.WIDTH g.row.WORD l.value l.from l.end l.i

abbrev pub decreases-loop-i : goal.decreases-loop-i
decreases-loop-i g l = l.end - l.i
