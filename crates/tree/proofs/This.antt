-- All records of kind 41 that a walk went through have one number. Assumes nothing.
use mathlib.Core.Path.{◌≡◌, sym, subst, ◌∙◌}
use mathlib.Core.Bool.{true, false, cond}
use mathlib.Core.List.{List}
use Prim.Native.Nat.{ℕ, zero, suc, ◌+◌, ◌-◌, ◌≤◌, ◌<◌}
use native.Mathlib.Omega.{arith}
use native.Mathlib.Decide.{dec_lt, ℕ_discrete}
use lib.Dec.{eqb}
use borrow.Author.Tests.{eq-eqb, ne_eqb, leb-true}
use Rattle.std.specs.Prelude.{Ok}
use Rattle.tree.specs.Rules.{slot_after, first_slot, rule_of, may_be_at, in_range}
use Rattle.words.specs.Record.{kind_at, span_at, position_at, value_at}
use Rattle.tree.specs.Check.{same_this, this_after, head_at, walk_of}
use Rattle.tree.proofs.Spans.{and_left, and_right, within_true}
use Rattle.tree.proofs.Walks.{head_went, went_inj, walk_done, walk_on}
use Rattle.tree.proofs.Children.{Sound, sound_parts, then_went}

-- one record of a walk that went through: its parts, and the numbers of 41 before, inside and after
record Step (w : List ℕ) (s l t i e u : ℕ) : Type 0 where
  middle : ℕ
  sound : Sound w s t i e
  inner : walk_of w (first_slot (kind_at w i)) (l + 1) (this_after (kind_at w i) (value_at w i) t) (i + 1) (i + span_at w i) ≡ Ok middle
  rest : walk_of w (slot_after s (kind_at w i)) l middle (i + span_at w i) e ≡ Ok u

step : {w : List ℕ} {s l t i e u : ℕ} → walk_of w s l t i e ≡ Ok u → i < e → Step w s l t i e u
step {w} {s} {l} {t} {i} {e} {u} k h =
    let a = then_went (head_at w s l t i e) _ u (sym (walk_on w s l t i e h) ∙ k) in
    let b = then_went (walk_of w (first_slot (kind_at w i)) (l + 1) a.0 (i + 1) (i + span_at w i)) _ u a.2 in
    let g = head_went w s l t i e a.0 a.1 in
    record {
      middle = b.0;
      sound = sound_parts w s t i e g.sound;
      inner = subst (λ x. walk_of w (first_slot (kind_at w i)) (l + 1) x (i + 1) (i + span_at w i) ≡ Ok b.0) g.this b.1;
      rest = b.2;
    }

-- what a record does to the number
after_41 : (k v t : ℕ) → k ≡ 41 → this_after k v t ≡ v
unfolding this_after
after_41 k v t h = simp (eq-eqb k 41 h)

after_any : (k v t : ℕ) → same_this k v t ≡ true → (t ≡ 0 → ⊥) → this_after k v t ≡ t
unfolding this_after same_this
after_any k v t h n = go (ℕ_discrete k 41) (ℕ_discrete t v)
  where
    go : Dec (k ≡ 41) → Dec (t ≡ v) → cond (eqb k 41) v t ≡ t
    go (no a) b = simp (ne_eqb k 41 a)
    go (yes a) (yes b) = rw (eq-eqb k 41 a) (sym b)
    go (yes a) (no b) = let g : false ≡ true = simp (eq-eqb k 41 a, ne_eqb t 0 n, ne_eqb t v b) at h in let z : ◌≡◌ {A = ℕ} 0 1 = cc in absurd (omega arith)

some_41 : (k p v : ℕ) → k ≡ 41 → in_range k p v ≡ true → 0 < v
unfolding in_range
some_41 k p v q h =
    let g : in_range 41 p v ≡ true = subst (λ x. in_range x p v ≡ true) q h in
    leb-true 1 v (and_left _ _ (and_right (may_be_at (rule_of 41).position p) _ g))

record Threads (w : List ℕ) (t u i e : ℕ) : Type 0 where
  kept : (t ≡ 0 → ⊥) → u ≡ t
  each : (j : ℕ) → i ≤ j → j < e → kind_at w j ≡ 41 → (value_at w j ≡ u) × (0 < u)

threads : (w : List ℕ) (n s l t i e u : ℕ) → walk_of w s l t i e ≡ Ok u → e - i ≤ n → Threads w t u i e
threads w zero s l t i e u k b =
    let q : t ≡ u = went_inj (sym (walk_done w s l t i e (omega arith)) ∙ k) in
    record { kept = λ z. sym q; each = λ j a h c. absurd (omega arith) }
threads w (suc n) s l t i e u k b = go (dec_lt i e) (λ s l t i e u. threads w n s l t i e u)
  where
    go : Dec (i < e) → ((s l t i e u : ℕ) → walk_of w s l t i e ≡ Ok u → e - i ≤ n → Threads w t u i e) → Threads w t u i e
    go (no h) r =
        let q : t ≡ u = went_inj (sym (walk_done w s l t i e (omega arith)) ∙ k) in
        record { kept = λ z. sym q; each = λ j a g c. absurd (omega arith) }
    go (yes h) r =
        let x = step k h in
        let t₁ = this_after (kind_at w i) (value_at w i) t in
        let y = within_true i (span_at w i) e x.sound.within in
        let p = r (first_slot (kind_at w i)) (l + 1) t₁ (i + 1) (i + span_at w i) x.middle x.inner (omega arith) in
        let q = r (slot_after s (kind_at w i)) l x.middle (i + span_at w i) e u x.rest (omega arith) in
        record { kept = keep x p q; each = one x p q }
      where
        on : (x : Step w s l t i e u) (a : ℕ) → Threads w a x.middle (i + 1) (i + span_at w i) → Threads w x.middle u (i + span_at w i) e → 0 < a → u ≡ a
        on x a p q z =
            let m : x.middle ≡ a = p.kept (λ v. omega arith) in
            q.kept (λ v. omega arith) ∙ m

        keep : (x : Step w s l t i e u) → Threads w (this_after (kind_at w i) (value_at w i) t) x.middle (i + 1) (i + span_at w i)
            → Threads w x.middle u (i + span_at w i) e → (t ≡ 0 → ⊥) → u ≡ t
        keep x p q z =
            let a : this_after (kind_at w i) (value_at w i) t ≡ t = after_any (kind_at w i) (value_at w i) t x.sound.this z in
            on x (this_after (kind_at w i) (value_at w i) t) p q (omega arith) ∙ a

        one : (x : Step w s l t i e u) → Threads w (this_after (kind_at w i) (value_at w i) t) x.middle (i + 1) (i + span_at w i)
            → Threads w x.middle u (i + span_at w i) e → (j : ℕ) → i ≤ j → j < e → kind_at w j ≡ 41 → (value_at w j ≡ u) × (0 < u)
        one x p q j a g c = by (ℕ_discrete i j) (dec_lt j (i + span_at w i))
          where
            by : Dec (i ≡ j) → Dec (j < i + span_at w i) → (value_at w j ≡ u) × (0 < u)
            by (yes d) f =
                let k₁ : kind_at w i ≡ 41 = subst (λ m. kind_at w m ≡ 41) (sym d) c in
                let v : this_after (kind_at w i) (value_at w i) t ≡ value_at w i = after_41 (kind_at w i) (value_at w i) t k₁ in
                let z : 0 < value_at w i = some_41 (kind_at w i) (position_at w i) (value_at w i) k₁ x.sound.range in
                let o : u ≡ this_after (kind_at w i) (value_at w i) t = on x (this_after (kind_at w i) (value_at w i) t) p q (omega arith) in
                let m : value_at w i ≡ u = sym v ∙ sym o in
                (subst (λ m. value_at w m ≡ u) d m, omega arith)
            by (no d) (yes f) =
                let r₁ = p.each j (omega arith) f c in
                let z = r₁.1 in
                let o : u ≡ x.middle = q.kept (λ v. omega arith) in
                (r₁.0 ∙ sym o, omega arith)
            by (no d) (no f) = q.each j (omega arith) g c

pub same_number : (w : List ℕ) (s l t i e u : ℕ) → walk_of w s l t i e ≡ Ok u → (j : ℕ) → i ≤ j → j < e → kind_at w j ≡ 41 → value_at w j ≡ u
same_number w s l t i e u k j a h c = ((threads w (e - i) s l t i e u k (omega arith)).each j a h c).0
