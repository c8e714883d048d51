-- The index is the number of the model's entries among the j passed.
use Rattle.listings.proofs.Keys.{Counted}
use Rattle.listings.proofs.lines.property_index.Given as goal

abbrev pub invariant-loop-j : goal.invariant-loop-j
invariant-loop-j l = Counted l.properties l.model l.index l.j
