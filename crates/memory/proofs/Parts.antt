-- What replacing one part of a memory does to the others: nothing. One law over the part's number. And the parts by the table of starts are the areas.
-- Assumes nothing.
use mathlib.Core.Path.{◌≡◌, refl, sym, ap, subst, ◌∙◌}
use mathlib.Core.List.{List, ◌++◌, append_assoc}
use mathlib.Core.Bool.{Bool, true, false, cond}
use Prim.Native.Nat.{ℕ, zero, suc, ◌+◌, ◌-◌, ◌≤◌, ◌<◌}
use native.Mathlib.Omega.{arith}
use lib.ListN.{length, take, drop, get_or, length-append, length-take, length-drop, take-append-drop}
use lib.Dec.{eqb, ltb}
use lib.Seq.{length-take-le, take-append-le, drop-append-le, take_at, drop_at, drop-drop}
use borrow.Author.Tests.{ltb-true, ltb-false, eqb-true, eqb-false}
use Rattle.memory.specs.Layout.{part, with_part, Fits}

-- a list's front alone says what stands in its front
front : (u q : List ℕ) (i j : ℕ) → i ≤ j → j ≤ length u → take (j - i) (drop i (u ++ q)) ≡ take (j - i) (drop i u)
front u q i j h g = rw (drop-append-le i u q (omega arith)) (take-append-le (j - i) (drop i u) q (simp length-drop (omega arith)))

module _ (w x : List ℕ) (s e : ℕ) (h : s ≤ e) (g : e ≤ length w) (l : length x ≡ e - s) where
  new : List ℕ
  new = take s w ++ (x ++ drop (e - s) (drop s w))

  new_same : take (e - s) (drop s new) ≡ x
  unfolding new
  new_same = rw (drop_at (take s w) (x ++ drop (e - s) (drop s w)) s (length-take-le s w (omega arith))) (take_at x (drop (e - s) (drop s w)) (e - s) l)

  new_before : (i j : ℕ) → i ≤ j → j ≤ s → take (j - i) (drop i new) ≡ take (j - i) (drop i w)
  unfolding new
  new_before i j p q =
      let n : j ≤ length (take s w) = simp length-take (omega arith) in
      front (take s w) (x ++ drop (e - s) (drop s w)) i j p n
      ∙ sym (front (take s w) (drop s w) i j p n)
      ∙ ap (λ t. take (j - i) (drop i t)) (take-append-drop s w)

  new_end : drop e new ≡ drop e w
  unfolding new
  new_end =
      let t : length (take s w ++ x) ≡ e = length-append (take s w) x ∙ omega (arith, length-take-le s w (omega arith)) in
      let z : s + (e - s) ≡ e = omega arith in
      ap (drop e) (sym (append_assoc (take s w) x (drop (e - s) (drop s w))))
      ∙ drop_at (take s w ++ x) (drop (e - s) (drop s w)) e t
      ∙ drop-drop (e - s) s w
      ∙ ap (λ n. drop n w) z

  new_after : (i : ℕ) → e ≤ i → drop i new ≡ drop i w
  new_after i p =
      let z : e + (i - e) ≡ i = omega arith in
      ap (λ n. drop n new) (sym z) ∙ sym (drop-drop (i - e) e new) ∙ ap (drop (i - e)) new_end ∙ drop-drop (i - e) e w ∙ ap (λ n. drop n w) z

  new_length : length new ≡ length w
  unfolding new
  new_length = simp (length-append, length-take, length-drop) (omega arith)

-- starts go up
rises : {a : List ℕ} {n : ℕ} → Fits a n → (i d : ℕ) → i + d ≤ 14 → get_or a i 0 ≤ get_or a (i + d) 0
rises {a} f i zero h = let z : i + 0 ≡ i = omega arith in rw z (omega arith)
rises {a} f i (suc d) h =
    let z : i + suc d ≡ suc (i + d) = omega arith in
    rw z (omega (arith, rises f i d (omega arith), f.ordered (i + d) (omega arith)))

pub up : {a : List ℕ} {n : ℕ} → Fits a n → (i j : ℕ) → i ≤ j → j ≤ 14 → get_or a i 0 ≤ get_or a j 0
up {a} f i j h g = let z : i + (j - i) ≡ j = omega arith in subst (λ k. get_or a i 0 ≤ get_or a k 0) z (rises f i (j - i) (omega arith))

-- every part lies in the memory
pub ends_within : {a : List ℕ} {n : ℕ} → Fits a n → (i : ℕ) → i < 14 → get_or a (suc i) 0 ≤ n
ends_within {a} f i h = omega (arith, up f (suc i) 14 h (omega arith), f.within)

pub part_length : {a : List ℕ} (w : List ℕ) → Fits a (length w) → (i : ℕ) → i < 14 → length (part a i w) ≡ get_or a (suc i) 0 - get_or a i 0
unfolding part
part_length {a} w f i h = simp (length-take, length-drop) (omega (arith, f.ordered i h, ends_within f i h))

module _ (a w x : List ℕ) (f : Fits a (length w)) (i : ℕ) (h : i < 14) (l : length x ≡ length (part a i w)) where
  size : length x ≡ get_or a (suc i) 0 - get_or a i 0
  size = l ∙ part_length w f i h

  pub put_length : length (with_part a i x w) ≡ length w
  unfolding with_part new
  put_length = new_length w x (get_or a i 0) (get_or a (suc i) 0) (f.ordered i h) (ends_within f i h) size

  pub put_same : part a i (with_part a i x w) ≡ x
  unfolding with_part part new
  put_same = new_same w x (get_or a i 0) (get_or a (suc i) 0) (f.ordered i h) (ends_within f i h) size

  -- the law of parts
  pub put_other : (j : ℕ) → j < 14 → (i ≡ j → ⊥) → part a j (with_part a i x w) ≡ part a j w
  unfolding with_part part new
  put_other j g n = go (ltb i j) refl
    where
      below : j ≤ i → (i ≡ j → ⊥) → suc j ≤ i
      below p q = next (ltb j i) refl
        where
          next : (t : Bool) → ltb j i ≡ t → suc j ≤ i
          next true e = omega (arith, ltb-true j i e)
          next false e = absurd (q (omega (arith, ltb-false j i e)))

      go : (t : Bool) → ltb i j ≡ t → part a j (with_part a i x w) ≡ part a j w
      go true e =
          ap (take (get_or a (suc j) 0 - get_or a j 0))
          (new_after w x (get_or a i 0) (get_or a (suc i) 0) (f.ordered i h) (ends_within f i h) size (get_or a j 0)
          (up f (suc i) j (omega (arith, ltb-true i j e)) (omega arith)))
      go false e =
          let m : suc j ≤ i = below (ltb-false i j e) n in
          new_before w x (get_or a i 0) (get_or a (suc i) 0) (f.ordered i h) (ends_within f i h) size (get_or a j 0) (get_or a (suc j) 0)
          (f.ordered j g) (up f (suc j) i m (omega arith))

  -- the law of parts in one line: any part of the memory with other words as part i
  pub put_part : (j : ℕ) → j < 14 → part a j (with_part a i x w) ≡ cond (eqb i j) x (part a j w)
  put_part j g = go (eqb i j) refl
    where
      go : (t : Bool) → eqb i j ≡ t → part a j (with_part a i x w) ≡ cond t x (part a j w)
      go true e = ap (λ n. part a n (with_part a i x w)) (sym (eqb-true i j e)) ∙ put_same
      go false e = put_other j g (eqb-false i j e)

  -- a part of other words fits as the old one did
  pub put_fits : Fits a (length (with_part a i x w))
  put_fits = rw put_length f
