-- The slots of one memory filled anew with the first constants, or cleared: the turns of `fill_slots`, and that the
-- slots are then as `Represents` wants them. By the constants so far. Assumes nothing.
use Rattle.std.proofs.Common.{◌≡◌, ℕ, suc, ◌+◌, ◌-◌, ◌<◌, ◌≤◌, min, Bool, true, false, ltb, ltb-true}
use Rattle.std.proofs.Common.{ltb-false, List, ◌++◌, length, get_or, take, drop, replicate, sym, refl, ap, ◌∙◌, subst, arith}
use Rattle.std.proofs.Common.{take-append-drop, length-take-le, take_at, drop_at}
use Rattle.memory.specs.Layout.{part, with_part, Fits}
use Rattle.memory.proofs.Parts.{put_part, put_fits, part_length, ends_within}
use Rattle.constant_slots.specs.Plain.{constants_from, pool_of}
use Rattle.constant_slots.specs.Slots.{fill, slots_of}
use Rattle.constant_slots.proofs.Filling.{filled_again, filled_early}
use Rattle.book_compiler.specs.Represents.{SlotsFilled, Replaced}
use Rattle.book_compiler.specs.BookOrder.{ReadsPart}
use Rattle.book_compiler.specs.Leaves.{PutsSlot, FillsSlots, ClearsSlots, ConstantWord}

-- of two parts of the same number the second counts
put_twice : (a w x y : List ℕ) → Fits a (length w) → (i : ℕ) → i < 14 → length y ≡ length (part a i w)
    → with_part a i x (with_part a i y w) ≡ with_part a i x w
unfolding with_part
put_twice a w x y f i h l =
    let s = get_or a i 0 in
    let e = get_or a (suc i) 0 in
    let d = drop (e - s) (drop s w) in
    let front : length (take s w) ≡ s = length-take-le s w (omega (arith, f.ordered i h, ends_within f i h)) in
    ap (λ (u : List ℕ). u ++ (x ++ drop (e - s) (drop s (take s w ++ (y ++ d))))) (take_at (take s w) (y ++ d) s front)
    ∙ ap (λ (u : List ℕ). take s w ++ (x ++ drop (e - s) u)) (drop_at (take s w) (y ++ d) s front)
    ∙ ap (λ (u : List ℕ). take s w ++ (x ++ u)) (drop_at y d (e - s) (l ∙ part_length w f i h))

-- a part's own words
put_own : (a w : List ℕ) (i : ℕ) → w ≡ with_part a i (part a i w) w
unfolding with_part part
put_own a w i =
    let s = get_or a i 0 in
    sym (ap (λ (u : List ℕ). take s w ++ u) (take-append-drop (get_or a (suc i) 0 - s) (drop s w)) ∙ take-append-drop s w)

-- zeros filled with the first constants
pub record FillsZeros (count : ℕ) (a w w₁ : List ℕ) : Type 0 where
  pub on : Fits a (length w) → part a 13 w ≡ replicate (length (part a 13 w)) 0
      → Replaced 13 (λ t t'. t' ≡ slots_of (length t) (pool_of count (part a 2 w))) a w w₁

module _ {a w : List ℕ} where
  -- `fill_slots`
  pub fill_first : FillsZeros 0 a w w
  unfolding fill constants_from
  fill_first = record { on = λ f z. record { words = part a 13 w; does = z; long = refl; is = put_own a w 13 } }

  pub fill_more : {i kind value : ℕ} {w₁ w₂ : List ℕ} → i < 18446744073709551615 → FillsZeros i a w w₁ → ConstantWord i 0 kind a w₁
      → ConstantWord i 1 value a w₁ → PutsSlot i kind value a w₁ w₂ → FillsZeros (i + 1) a w w₂
  fill_more {i} {kind} {value} {w₁} {w₂} small F kind_is value-is T = record {
    on = λ f z.
        let P = F.on f z in
        let f₁ : Fits a (length w₁) = rw P.is (put_fits a w P.words f 13 (omega arith) P.long) in
        let Q = T.on f₁ in
        let table : part a 13 w₁ ≡ P.words = ap (part a 13) P.is ∙ put_part a w P.words f 13 (omega arith) P.long 13 (omega arith) in
        let pool : part a 2 w₁ ≡ part a 2 w = ap (part a 2) P.is ∙ put_part a w P.words f 13 (omega arith) P.long 2 (omega arith) in
        record {
          words = Q.words;
          does = filled_again (length (part a 13 w)) i (part a 2 w) (part a 13 w₁) (table ∙ P.does) small (rw pool at (kind_is.on f₁))
              (rw pool at (value-is.on f₁)) Q.does;
          long = Q.long ∙ ap length table ∙ P.long;
          is = Q.is ∙ ap (with_part a 13 Q.words) P.is ∙ put_twice a w Q.words P.words f 13 (omega arith) P.long;
        };
  }

  -- up to the last constant, or to the last slot
  pub fill_last : {i count : ℕ} {w₁ x : List ℕ} → FillsZeros i a w w₁ → ReadsPart 13 (λ (y : List ℕ). x ≡ y) a w → i ≡ min count (length x)
      → FillsZeros count a w w₁
  fill_last {i} {count} {w₁} {x} F R q = record {
    on = λ f z.
        let P = F.on f z in
        let n = length (part a 13 w) in
        let size : length x ≡ n = ap length (R.on f) in
        let full : n ≤ count → P.words ≡ slots_of n (pool_of count (part a 2 w)) =
        λ h. filled_early n n i count (part a 2 w) P.does refl (omega (arith, q, size, h)) (omega (arith, q)) in
        let all : count ≤ n → P.words ≡ slots_of n (pool_of count (part a 2 w)) =
        λ h. subst (λ (k : ℕ). P.words ≡ slots_of n (pool_of k (part a 2 w))) (omega (arith, q, size, h)) P.does in
        record { words = P.words; does = either n count full all; long = P.long; is = P.is };
  }
    where
      either : {A : Type 0} (n k : ℕ) → (n ≤ k → A) → (k ≤ n → A) → A
      either {A} n k f g = go (ltb n k) refl
        where
          go : (t : Bool) → ltb n k ≡ t → A
          go true e = f (omega (arith, ltb-true n k e))
          go false e = g (ltb-false n k e)

  pub fill_all : {count : ℕ} {w₁ w₂ : List ℕ} → ClearsSlots a w w₁ → FillsZeros count a w₁ w₂ → FillsSlots count a w w₂
  fill_all {count} {w₁} {w₂} C Z = record {
    on = λ f.
        let P = C.on f in
        let f₁ : Fits a (length w₁) = rw P.is (put_fits a w P.words f 13 (omega arith) P.long) in
        let table : part a 13 w₁ ≡ P.words = ap (part a 13) P.is ∙ put_part a w P.words f 13 (omega arith) P.long 13 (omega arith) in
        let pool : part a 2 w₁ ≡ part a 2 w = ap (part a 2) P.is ∙ put_part a w P.words f 13 (omega arith) P.long 2 (omega arith) in
        let long : length (part a 13 w₁) ≡ length (part a 13 w) = ap length table ∙ P.long in
        let Q = Z.on f₁ (table ∙ P.does ∙ ap (λ (n : ℕ). replicate n 0) (sym long)) in
        record {
          words = Q.words;
          does = Q.does ∙ ap (λ (n : ℕ). slots_of n (pool_of count (part a 2 w₁))) long
              ∙ ap (λ (k : List ℕ). slots_of (length (part a 13 w)) (pool_of count k)) pool;
          long = Q.long ∙ long;
          is = Q.is ∙ ap (with_part a 13 Q.words) P.is ∙ put_twice a w Q.words P.words f 13 (omega arith) P.long;
        };
  }

module _ {a w : List ℕ} where
  -- the memory's slots are then what filling anew with its constants gives
  pub slots_filled : {count : ℕ} {w₁ : List ℕ} → FillsSlots count a w w₁ → Fits a (length w) → SlotsFilled count a w₁
  slots_filled {count} {w₁} F f =
      let P = F.on f in
      let table : part a 13 w₁ ≡ P.words = ap (part a 13) P.is ∙ put_part a w P.words f 13 (omega arith) P.long 13 (omega arith) in
      let pool : part a 2 w₁ ≡ part a 2 w = ap (part a 2) P.is ∙ put_part a w P.words f 13 (omega arith) P.long 2 (omega arith) in
      record {
        filled = table ∙ P.does
            ∙ ap (λ (n : ℕ). slots_of n (pool_of count (part a 2 w))) (sym (ap length table ∙ P.long))
            ∙ ap (λ (k : List ℕ). slots_of (length (part a 13 w₁)) (pool_of count k)) (sym pool);
      }
