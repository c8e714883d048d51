-- What it says of a span that it is not 0 and does not pass the end, and one law for each way through `within`. Assumes nothing.
use mathlib.Core.Path.{◌≡◌, refl, sym, ◌∙◌}
use mathlib.Core.Bool.{Bool, true, false, not, ◌&&◌}
use Prim.Native.Nat.{ℕ, ◌+◌, ◌-◌, ◌≤◌, ◌<◌}
use native.Mathlib.Omega.{arith}
use native.Mathlib.Decide.{dec_le}
use lib.Dec.{eqb, leb}
use borrow.Author.Tests.{le-leb, lt-leb, leb-true, eq-eqb, ne_eqb, eqb-false, not-true, not-false}
use Rattle.tree.specs.Check.{within_of}

pub and_left : (a b : Bool) → (a && b) ≡ true → a ≡ true
and_left true b e = refl
and_left false b e = e

pub and_right : (a b : Bool) → (a && b) ≡ true → b ≡ true
and_right true b e = e
and_right false b e = let z : ◌≡◌ {A = ℕ} 0 1 = cc in absurd (omega arith)

pub within_true : (i s e : ℕ) → within_of i s e ≡ true → (0 < s) × (i + s ≤ e)
unfolding within_of
within_true i s e h =
    let n : (s ≡ 0) → ⊥ = eqb-false s 0 (not-true _ (and_left _ _ h)) in
    let l : i + s ≤ e = leb-true _ _ (and_right (not (eqb s 0)) _ h) in
    (omega arith, l)

-- the same of the code's test
pub span_in_lem : (j s e : ℕ) {b : Bool} → b ≡ within_of j s e → not b ≡ false → (0 < s) × (j + s ≤ e)
span_in_lem j s e {b} p q = within_true j s e (sym p ∙ not-false b q)

pub within_zero : (i e : ℕ) {s : ℕ} → s ≡ 0 → false ≡ within_of i s e
unfolding within_of
within_zero i e {s} h = simp (eq-eqb s 0 h)

pub within_past : (i s e : ℕ) → e < i → false ≡ within_of i s e
unfolding within_of
within_past i s e h = go (eqb s 0)
  where
    go : (b : Bool) → false ≡ (not b && leb (i + s) e)
    go true = refl
    go false = sym (lt-leb (i + s) e (omega arith))

pub within_span : (i s e : ℕ) → (s ≡ 0 → ⊥) → i ≤ e → leb s (e - i) ≡ within_of i s e
unfolding within_of
within_span i s e n h = go (dec_le (i + s) e)
  where
    go : Dec (i + s ≤ e) → leb s (e - i) ≡ (not (eqb s 0) && leb (i + s) e)
    go (yes l) = simp (le-leb s (e - i) (omega arith), le-leb (i + s) e l, ne_eqb s 0 n)
    go (no l) = simp (lt-leb s (e - i) (omega arith), lt-leb (i + s) e (omega arith), ne_eqb s 0 n)
