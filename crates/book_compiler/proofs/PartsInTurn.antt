-- Routines that are lent part after part, but for that of the errors: the turns of a loop over the parts, whatever it makes of each; and the slots cleared.
-- By the law of parts. Assumes nothing.
use Rattle.std.proofs.Common.{◌≡◌, ℕ, ◌+◌, ◌<◌, ◌≤◌, List, length, replicate, sym, ap, ◌∙◌, subst, arith}
use native.Mathlib.Decide.{ℕ_discrete}
use lib.ListN.{length-replicate}
use Rattle.memory.specs.Layout.{part, part_count, Fits}
use Rattle.words.specs.Areas.{errors_area}
use Rattle.compiler_laws.specs.BooksInOrder.{Zero}
use Rattle.book_compiler.specs.Leaves.{ClearsSlots}
use Rattle.book_compiler.specs.BookOrder.{LentPart, LentButErrors}
use Rattle.book_compiler.proofs.LentParts.{lent_does, lent_other}

-- the parts from one up to another were changed, each by its number, but for that of the errors
pub record ChangedUpTo (F : ℕ → List ℕ → List ℕ) (from i : ℕ) (starts before after : List ℕ) : Type 0 where
  pub long : length after ≡ length before
  pub errors : Fits starts (length before) → part starts errors_area after ≡ part starts errors_area before
  pub done : Fits starts (length before) → (j : ℕ) → from ≤ j → j < i → (j ≡ errors_area → ⊥) → part starts j after ≡ F j (part starts j before)
  pub left : Fits starts (length before) → (j : ℕ) → i ≤ j → j < part_count → part starts j after ≡ part starts j before

-- a part more
pub change_more : {F : ℕ → List ℕ → List ℕ} {from i : ℕ} {a w w₁ w₂ : List ℕ} → i < part_count → ChangedUpTo F from i a w w₁
    → LentButErrors i (λ x y. y ≡ F i x) a w₁ w₂ → length w₂ ≡ length w₁ → ChangedUpTo F from (i + 1) a w w₂
change_more {F} {from} {i} {a} {w} {w₁} {w₂} h K L q = record {
  long = q ∙ K.long;
  errors = λ f. errors f (ℕ_discrete i errors_area);
  done = λ f j lo hi n. done f j lo hi n (ℕ_discrete i j);
  left = λ f j lo hi. other f j hi (λ e. omega arith) (ℕ_discrete i errors_area) ∙ K.left f j (omega arith) hi;
}
  where
    fits : Fits a (length w) → Fits a (length w₁)
    fits f = rw K.long f

    other : Fits a (length w) → (j : ℕ) → j < 14 → (i ≡ j → ⊥) → Dec (i ≡ errors_area) → part a j w₂ ≡ part a j w₁
    other f j g n (yes e) = ap (part a j) (L.errors e)
    other f j g n (no e) = lent_other h (fits f) (L.others e h) j g n

    errors : Fits a (length w) → Dec (i ≡ errors_area) → part a errors_area w₂ ≡ part a errors_area w
    errors f (yes e) = ap (part a errors_area) (L.errors e) ∙ K.errors f
    errors f (no e) = lent_other h (fits f) (L.others e h) errors_area (omega arith) e ∙ K.errors f

    done : Fits a (length w) → (j : ℕ) → from ≤ j → j < i + 1 → (j ≡ errors_area → ⊥) → Dec (i ≡ j) → part a j w₂ ≡ F j (part a j w)
    done f j lo hi n (yes e) =
        subst (λ (k : ℕ). part a k w₂ ≡ F k (part a k w)) e
        (lent_does h (fits f) (L.others (λ x. n (sym e ∙ x)) h) ∙ ap (F i) (K.left f i (omega arith) h))
    done f j lo hi n (no e) = other f j (omega arith) e (ℕ_discrete i errors_area) ∙ K.done f j lo (omega (arith, e)) n

-- the slots cleared: they are zeros
module _ {a w w' : List ℕ} (f : Fits a (length w)) (C : ClearsSlots a w w') where
  pub slots_lent : LentPart 13 (λ t t'. t' ≡ replicate (length t) 0) a w w'
  slots_lent = record { on = C.on }

  pub slots_zero : Zero (part a 13 w')
  slots_zero =
      let q : part a 13 w' ≡ replicate (length (part a 13 w)) 0 = lent_does (omega arith) f slots_lent in
      q ∙ ap (λ (n : ℕ). replicate n 0) (sym (ap (λ (l : List ℕ). length l) q ∙ length-replicate (length (part a 13 w)) 0))
