-- Children of one sort, one after the other, are the list that is read of them: things each (`run_law`), and pairs of a name and a record without
-- children (`pairs_law`). By induction on the records left. Assumes nothing.
use mathlib.Core.Path.{◌≡◌, refl, sym, subst}
use mathlib.Core.Bool.{true}
use mathlib.Core.List.{List, [], ◌∷◌}
use Prim.Native.Nat.{ℕ, zero, suc, ◌+◌, ◌-◌, ◌≤◌, ◌<◌}
use native.Mathlib.Omega.{arith}
use native.Mathlib.Decide.{dec_lt}
use borrow.Author.Tests.{lt-ltb, le-ltb}
use Rattle.tree.specs.Rules.{has, is_due, first_slot}
use Rattle.words.specs.Record.{kind_at, span_at, token_at, most_levels}
use Rattle.tree.specs.At.{Head, Leaf, RunAt, run_size, run_depth, single, double}
use Rattle.tree.specs.Reading.{next, list_of, pairs_of}
use Rattle.tree.proofs.Children.{children_as, Takes, first, first_if, alone, leaf_first, Children, Node}

-- a thing that stands at i, on level l: it fills its record's span, and no level of it is past the last
pub record Item {A : Type 0} (at : A → List ℕ → ℕ → Type 0) (size depth : A → ℕ) (w : List ℕ) (l i : ℕ) (x : A) : Type 0 where
  pub is : at x w i
  pub fills : size x ≡ span_at w i
  pub deep : l + depth x ≤ most_levels + 1

-- things one after the other, that end at e
pub record Run {A : Type 0} (at : A → List ℕ → ℕ → Type 0) (size depth : A → ℕ) (w : List ℕ) (l i e : ℕ) (xs : List A) : Type 0 where
  pub is : RunAt at size xs w i
  pub fills : i + run_size size xs ≡ e
  pub deep : l + run_depth depth xs ≤ most_levels + 1

pub run_law : {A : Type 0} (f : ℕ → A) (at : A → List ℕ → ℕ → Type 0) (size depth : A → ℕ) (w : List ℕ) {s : ℕ} {ks : List ℕ} → Takes s ks s
    → ((l i : ℕ) → has (kind_at w i) ks ≡ true → Node w l i (kind_at w i) → Item at size depth w l i (f i))
    → (n l i e : ℕ) → l ≤ most_levels + 1 → Children w s l i e → e - i ≤ n → Run at size depth w l i e (list_of f n w i e)
unfolding RunAt run_size run_depth list_of
run_law f at size depth w t item zero l i e d k b = let o = k.ordered in record { is = tt; fills = omega arith; deep = omega arith }
run_law {A} f at size depth w {s} {ks} t item (suc n) l i e d k b = go (dec_lt i e) (run_law f at size depth w t item n l)
  where
    go : Dec (i < e) → ((i e : ℕ) → l ≤ most_levels + 1 → Children w s l i e → e - i ≤ n → Run at size depth w l i e (list_of f n w i e))
        → Run at size depth w l i e (list_of f (suc n) w i e)
    go (no h) r = let o = k.ordered in rw (le-ltb i e (omega arith)) (record { is = tt; fills = omega arith; deep = omega arith })
    go (yes h) r =
        let x = first_if t h k in
        let o = x.node.some in
        let g = x.fits in
        let p = item l i x.is x.node in
        let q = r (next w i) e d x.rest (omega arith) in
        let y = p.fills in
        let z = q.fills in
        let d₁ = p.deep in
        let d₂ = q.deep in
        rw (lt-ltb i e h) (record {
          is = (p.is, subst (λ j. RunAt at size (list_of f n w (next w i) e) w (i + j)) (sym y) q.is);
          fills = omega arith;
          deep = omega arith;
        })

-- pairs: a name, then a record without children
pub pairs_law : {A : Type 0} (f : ℕ → A) (at : A → List ℕ → ℕ → Type 0) (w : List ℕ) {s s' : ℕ} {ks : List ℕ}
    → Takes s (40 ∷ []) s' → Takes s' ks s → is_due s' ≡ true → ((k : ℕ) → has k ks ≡ true → first_slot k ≡ 0)
    → ((i : ℕ) → Leaf w i 40 (token_at w i) → has (kind_at w (i + 1)) ks ≡ true → Head w (i + 1) (kind_at w (i + 1)) 1 → at (f i) w i)
    → (n l i e : ℕ) → l ≤ most_levels + 1 → Children w s l i e → e - i ≤ n → Run at double single w l i e (pairs_of f n w i e)
unfolding RunAt run_size run_depth pairs_of first_slot
pairs_law f at w t u q bare item zero l i e d k b = let o = k.ordered in record { is = tt; fills = omega arith; deep = omega arith }
pairs_law {A} f at w {s} {s'} {ks} t u q bare item (suc n) l i e d k b = go (dec_lt i e) (pairs_law f at w t u q bare item n l)
  where
    go : Dec (i < e) → ((i e : ℕ) → l ≤ most_levels + 1 → Children w s l i e → e - i ≤ n → Run at double single w l i e (pairs_of f n w i e))
        → Run at double single w l i e (pairs_of f (suc n) w i e)
    go (no h) r = let o = k.ordered in rw (le-ltb i e (omega arith)) (record { is = tt; fills = omega arith; deep = omega arith })
    go (yes h) r =
        let x = first_if t h k in
        let a = leaf_first 40 refl x in
        let z = a.head.span_is in
        let j : next w i ≡ i + 1 = omega arith in
        let y = first u q (subst (λ m. Children w s' l m e) j x.rest) in
        let c = alone (bare (kind_at w (i + 1)) y.is) y.node in
        let v = c.span_is in
        let g = y.fits in
        let m : next w (i + 1) ≡ i + 2 = omega arith in
        let p = r (i + 2) e d (subst (λ m. Children w s l m e) m y.rest) (omega arith) in
        let o = p.fills in
        let d₁ = y.node.level in
        let d₂ = p.deep in
        rw (lt-ltb i e h) (record { is = (item i a y.is c, p.is); fills = omega arith; deep = omega arith })

-- the children of one record, all of one sort
pub run_of : {A : Type 0} (f : ℕ → A) (at : A → List ℕ → ℕ → Type 0) (size depth : A → ℕ) {w : List ℕ} {s l i k : ℕ} {ks : List ℕ} → Takes s ks s
    → ((l i : ℕ) → has (kind_at w i) ks ≡ true → Node w l i (kind_at w i) → Item at size depth w l i (f i)) → first_slot k ≡ s → Node w l i k
    → Run at size depth w (l + 1) (i + 1) (next w i) (list_of f (span_at w i) w (i + 1) (next w i))
run_of f at size depth {w} {s} {l} {i} t item q m =
    let o = m.some in
    let v = m.level in
    run_law f at size depth w t item (span_at w i) (l + 1) (i + 1) (next w i) (omega arith) (children_as q m) (omega arith)

pub pairs_of_lem : {A : Type 0} (f : ℕ → A) (at : A → List ℕ → ℕ → Type 0) {w : List ℕ} {s s' l i k : ℕ} {ks : List ℕ}
    → Takes s (40 ∷ []) s' → Takes s' ks s → is_due s' ≡ true → ((k : ℕ) → has k ks ≡ true → first_slot k ≡ 0)
    → ((i : ℕ) → Leaf w i 40 (token_at w i) → has (kind_at w (i + 1)) ks ≡ true → Head w (i + 1) (kind_at w (i + 1)) 1 → at (f i) w i)
    → first_slot k ≡ s → Node w l i k → Run at double single w (l + 1) (i + 1) (next w i) (pairs_of f (span_at w i) w (i + 1) (next w i))
pairs_of_lem f at {w} {s} {s'} {l} {i} t u d bare item q m =
    let o = m.some in
    let v = m.level in
    pairs_law f at w t u d bare item (span_at w i) (l + 1) (i + 1) (next w i) (omega arith) (children_as q m) (omega arith)
