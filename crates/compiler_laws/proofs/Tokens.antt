-- Places in the tree: where the subtree at a place ends, by what stands there. Assumes nothing.
use Prim.Native.Nat.{ℕ, zero, suc, ◌+◌, ◌≤◌, ◌<◌, min, max}
use native.Mathlib.Omega.{arith}
use mathlib.Core.Path.{◌≡◌, refl, sym, ◌∙◌}
use mathlib.Core.Bool.{Bool, true, false}
use mathlib.Core.List.{List}
use lib.Dec.{eqb, ltb}
use borrow.Author.Tests.{eqb-false, eq-eqb, ne_eqb, lt-ltb, le-ltb, ltb-true}
use Rattle.words.specs.Record.{span_at}
use Rattle.tree.specs.At.{Head}
use Rattle.compiler_laws.specs.InsideFunction.{skip_c}

pub positive : (m : ℕ) → (m ≡ 0 → ⊥) → 0 < m
positive zero h = absurd (h refl)
positive (suc m) h = omega arith

-- `skip`
module _ (tree : List ℕ) (at end : ℕ) where
  pub skip_past : end ≤ at → at ≡ skip_c tree at end
  unfolding skip_c
  skip_past h = rw (le-ltb at end h)

  module _ (inside : at < end) {span : ℕ} (span_is : span ≡ span_at tree at) where
    pub skip_zero : span ≡ 0 → at + 1 ≡ skip_c tree at end
    unfolding skip_c
    skip_zero q = rw (lt-ltb at end inside, eq-eqb (span_at tree at) 0 (sym span_is ∙ q))

    held_to : (span ≡ 0 → ⊥) → min (at + span) end ≡ skip_c tree at end
    unfolding skip_c
    held_to q = rw (lt-ltb at end inside, ne_eqb (span_at tree at) 0 (λ y. q (span_is ∙ y)), ← span_is)

    pub skip_span : (span ≡ 0 → ⊥) → at + span < end → at + span ≡ skip_c tree at end
    skip_span q l = (omega arith) ∙ held_to q

    pub skip_end : (span ≡ 0 → ⊥) → end ≤ at + span → end ≡ skip_c tree at end
    skip_end q l = (omega arith) ∙ held_to q

  -- where a head of span n stands and ends by the end
  pub skip_law : {kind n : ℕ} → Head tree at kind n → 0 < n → at + n ≤ end → skip_c tree at end ≡ at + n
  skip_law {n = n} h pos l =
      let e : span_at tree at ≡ n = h.span_is in
      let held : min (at + n) end ≡ skip_c tree at end = held_to (omega arith) (sym e) (λ q. omega arith) in
      sym held ∙ omega arith

  -- it goes on, and not beyond the end
  pub skip_more : at < end → {next : ℕ} → next ≡ skip_c tree at end → (at < next) × (next ≤ end)
  unfolding skip_c
  skip_more l {next} q = go (eqb (span_at tree at) 0) refl
    where
      go : (t : Bool) → eqb (span_at tree at) 0 ≡ t → (at < next) × (next ≤ end)
      go true z = let v : next ≡ at + 1 = q ∙ rw (lt-ltb at end l, z) in (omega arith, omega arith)
      go false z =
          let ne = eqb-false (span_at tree at) 0 z in
          let v : next ≡ min (at + span_at tree at) end = q ∙ rw (lt-ltb at end l, z) in
          let pos : 0 < span_at tree at = positive (span_at tree at) ne in
          (omega arith, omega arith)

  -- wherever it stands: not back, and no more than up to the end
  pub skip_within : {next : ℕ} → next ≡ skip_c tree at end → (at ≤ next) × (next ≤ max at end)
  unfolding skip_c
  skip_within {next} q = go (ltb at end) refl
    where
      go : (t : Bool) → ltb at end ≡ t → (at ≤ next) × (next ≤ max at end)
      go true z = let m = skip_more (ltb-true at end z) q in (omega arith, omega arith)
      go false z = let v : next ≡ at = q ∙ rw z in (omega arith, omega arith)

  pub skip_inside : at ≤ end → {next : ℕ} → next ≡ skip_c tree at end → (at ≤ next) × (next ≤ end)
  skip_inside l q = let m = skip_within q in (omega (arith, m), omega (arith, m, l))
