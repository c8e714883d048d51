-- The least of all is the least of those from i on and the least so far, whose key is at hand; so is the key of the one that was listed last.
use mathlib.Core.Path.{◌≡◌}
use Rattle.listings.proofs.Keys.{Least, key_if_any}
use Rattle.listings.proofs.methods.least_above.Given as goal

abbrev pub invariant-loop-i : goal.invariant-loop-i
invariant-loop-i l = record {
  least : Least l.methods l.fn.last l.n l.least l.i;
  listed : l.listed ≡ key_if_any l.methods l.fn.last;
}
