-- Positions: of one in range both halves are (`in_place`). Assumes nothing.
use Prim.Native.Nat.{ℕ, ◌≤◌}
use native.Mathlib.Omega.{arith}
use mathlib.Core.Path.{◌≡◌, refl}
use mathlib.Core.Bool.{Bool, true, false, ◌&&◌}
use lib.Dec.{leb}
use borrow.Author.Tests.{leb-true}
use Rattle.words.specs.Record.{most_place, line_of, column_of, in_place}

and_both : (a b : Bool) → (a && b) ≡ true → (a ≡ true) × (b ≡ true)
and_both true b e = (refl, e)
and_both false b e = absurd (let z : ◌≡◌ {A = ℕ} 0 1 = cc in omega arith)

pub in_place_lem : (p : ℕ) → in_place p ≡ true → (line_of p ≤ most_place) × (column_of p ≤ most_place)
unfolding in_place
in_place_lem p e =
    let x = and_both (leb (line_of p) most_place) (leb (column_of p) most_place) e in
    (leb-true (line_of p) most_place x.0, leb-true (column_of p) most_place x.1)
