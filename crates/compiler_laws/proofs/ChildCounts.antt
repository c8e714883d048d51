-- The count of children and the kinds of operations: whatever is counted from here is counted from the start. Assumes nothing.
use Prim.Native.Nat.{ℕ, zero, suc, ◌+◌, ◌-◌, ◌≤◌, ◌<◌}
use native.Mathlib.Omega.{arith}
use mathlib.Core.Path.{◌≡◌, refl, ◌∙◌}
use mathlib.Core.Bool.{Bool, true, false}
use mathlib.Core.List.{List}
use lib.Dec.{eqb, ltb}
use borrow.Author.Tests.{eqb-true, eqb-false, ltb-true, ltb-false, eq-eqb, ne_eqb, lt-ltb, le-ltb}
use Rattle.words.specs.Ast.{Expressions, ∅ₑ, ◌∷ₑ◌}
use Rattle.definition.specs.Compiler.{InfixKind, Plain, Compound, infix_kind, count}
use Rattle.tree.specs.At.{ExpressionsAt, size_es}
use Rattle.tree.proofs.View.{head_e, size_e_pos}
use Rattle.compiler_laws.specs.InsideFunction.{skip_c, Counted, operation_of}
use Rattle.compiler_laws.proofs.Tokens.{skip_law}

-- `count_children`
pub count_end : (tree : List ℕ) (i end n : ℕ) → end ≤ i → Counted tree i end n n
unfolding ExpressionsAt size_es count
count_end tree i end n past = record { counts = go }
  where
    go : (es : Expressions) → ExpressionsAt es tree i → i + size_es es ≡ end → n ≡ n + count es
    go ∅ₑ h q = omega arith
    go (e ∷ₑ es) h q = absurd (omega (arith, size_e_pos e))

pub count_more : (tree : List ℕ) (i end n : ℕ) {next r : ℕ} → i < end → next ≡ skip_c tree i end → Counted tree next end (n + 1) r → Counted tree i end n r
unfolding ExpressionsAt size_es count
count_more tree i end n {next} {r} inside skipped C = record { counts = go }
  where
    go : (es : Expressions) → ExpressionsAt es tree i → i + size_es es ≡ end → r ≡ n + count es
    go ∅ₑ h q = absurd (omega arith)
    go (e ∷ₑ es) h q =
        let at : next ≡ i + _ = skipped ∙ skip_law tree i end (head_e e h.0) (size_e_pos e) (omega arith) in
        C.counts es (rw at h.1) (omega arith) ∙ omega arith

-- `operation_of`: between 1 and 18, but for 12, it is the number in the kind
pub eighteen : (n : ℕ) → 17 ≤ n → n < 19 → (n ≡ 17 → ⊥) → n ≡ 18
eighteen n g l ne = pick (n - 17) (omega arith)
  where
    pick : (j : ℕ) → n ≡ 17 + j → n ≡ 18
    pick zero q = absurd (ne (omega arith))
    pick (suc zero) q = omega arith
    pick (suc (suc j)) q = absurd (omega arith)

module _ (n : ℕ) (pos : 0 < n) (most : n < 19) (P : InfixKind → Type 0) (a : (m : ℕ) → m ≡ operation_of n → P (Plain m))
    (b : (m : ℕ) → m ≡ operation_of n → P (Compound m)) where
  not_zero : eqb n 0 ≡ false
  not_zero = ne_eqb n 0 (λ q. omega arith)

  module _ (q6 : ltb n 6 ≡ false) (q11 : ltb n 11 ≡ false) where
    high : 13 ≤ n → (t : Bool) → ltb n 17 ≡ t → (u : Bool) → eqb n 17 ≡ u → P (infix_kind n)
    high g true q17 u r17 =
        rw (not_zero, q6, q11, ne_eqb n 11 (λ q. omega arith), ne_eqb n 12 (λ q. omega arith), q17)
        (a (n - 7) (rw (not_zero, q6, q11, le-ltb n 13 g, q17)))
    high g false q17 true r17 =
        rw (not_zero, q6, q11, ne_eqb n 11 (λ q. omega arith), ne_eqb n 12 (λ q. omega arith), q17, r17)
        (a 257 (rw (not_zero, q6, q11, le-ltb n 13 g, q17, r17)))
    high g false q17 false r17 =
        rw (
          not_zero,
          q6,
          q11,
          ne_eqb n 11 (λ q. omega arith),
          ne_eqb n 12 (λ q. omega arith),
          q17,
          r17,
          eq-eqb n 18 (eighteen n (ltb-false n 17 q17) most (eqb-false n 17 r17)),
        )
        (a 258 (rw (not_zero, q6, q11, le-ltb n 13 g, q17, r17)))

    middle : (n ≡ 12 → ⊥) → (t : Bool) → eqb n 11 ≡ t → (u : Bool) → ltb n 13 ≡ u → P (infix_kind n)
    middle n12 true e11 u q13 =
        rw (not_zero, q6, q11, e11) (a 5 (rw (not_zero, q6, q11, lt-ltb n 13 (omega (arith, eqb-true n 11 e11)))))
    middle n12 false e11 true q13 = absurd (n12 (twelve n (ltb-false n 11 q11) (ltb-true n 13 q13) (eqb-false n 11 e11)))
      where
        twelve : (m : ℕ) → 11 ≤ m → m < 13 → (m ≡ 11 → ⊥) → m ≡ 12
        twelve m g l ne = pick (m - 11) (omega arith)
          where
            pick : (j : ℕ) → m ≡ 11 + j → m ≡ 12
            pick zero q = absurd (ne (omega arith))
            pick (suc zero) q = omega arith
            pick (suc (suc j)) q = absurd (omega arith)
    middle n12 false e11 false q13 = high (ltb-false n 13 q13) (ltb n 17) refl (eqb n 17) refl

  pub kind_plain : (n ≡ 12 → ⊥) → P (infix_kind n)
  kind_plain n12 = go (ltb n 6) refl (ltb n 11) refl
    where
      go : (t : Bool) → ltb n 6 ≡ t → (u : Bool) → ltb n 11 ≡ u → P (infix_kind n)
      go true q6 u q11 = rw (not_zero, q6) (a (n - 1) (rw (not_zero, q6)))
      go false q6 true q11 = rw (not_zero, q6, q11) (b (n - 6) (rw (not_zero, q6, q11)))
      go false q6 false q11 = middle q6 q11 n12 (eqb n 11) refl (ltb n 13) refl
