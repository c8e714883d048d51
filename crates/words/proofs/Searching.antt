-- Entries that a search by one of their words passes over, one or four at a time. Assumes nothing.
use Rattle.std.proofs.Common.{◌≡◌, ℕ, ◌+◌, ◌-◌, ◌*◌, ◌<◌, ◌≤◌, List, get_or, refl, ap, ◌∙◌, subst, mul-le-mul_right, add-mul, arith}
use native.Mathlib.Decide.{dec_lt}
use Rattle.words.specs.Areas.{entry_word}
use Rattle.words.specs.Search.{Passes}

-- the words of four entries lie in an area that holds the entries up to the end
pub turn : (i end width word : ℕ) {n : ℕ} → 4 ≤ end - i → word < width → end * width ≤ n → i * width + word + 3 * width < n
turn i end width word h k l = omega (arith, mul-le-mul_right {m = i + 4} {n = end} width (omega arith), add-mul i 4 width)

pub pass_start : (w : List ℕ) (width word value from end : ℕ) → from ≤ end → Passes w width word value from end from
pass_start w width word value from end h = record { on = omega arith; last = h; others = λ i a b q. omega arith }

module _ (w : List ℕ) (width word value from end : ℕ) where
  pass_next : (i : ℕ) → Passes w width word value from end i → i < end → (entry_word width i word w ≡ value → ⊥)
      → Passes w width word value from end (i + 1)
  pass_next i p h ne = record { on = omega (arith, p.on); last = omega arith; others = λ j a b. go j a b (dec_lt j i) }
    where
      go : (j : ℕ) → from ≤ j → j < i + 1 → Dec (j < i) → entry_word width j word w ≡ value → ⊥
      go j a b (yes l) q = p.others j a l q
      go j a b (no g) q = let same : j ≡ i = omega arith in ne (subst (λ (k : ℕ). entry_word width k word w ≡ value) same q)

  -- the word of the entry k after entry i
  beside : (i k : ℕ) {at : ℕ} → at ≡ i * width + word + k * width → (get_or w at 0 ≡ value → ⊥) → entry_word width (i + k) word w ≡ value → ⊥
  beside i k {at} e ne q = ne (ap (λ (a : ℕ). get_or w a 0) (e ∙ omega (arith, add-mul i k width)) ∙ q)

  pub pass_four : (i : ℕ) → Passes w width word value from end i → 4 ≤ end - i
      → (get_or w (i * width + word) 0 ≡ value → ⊥) → (get_or w (i * width + word + width) 0 ≡ value → ⊥)
      → (get_or w (i * width + word + 2 * width) 0 ≡ value → ⊥) → (get_or w (i * width + word + 3 * width) 0 ≡ value → ⊥)
      → Passes w width word value from end (i + 4)
  pass_four i p h a b c d =
      let one = pass_next i p (omega arith) a in
      let two = pass_next (i + 1) one (omega arith) (beside i 1 (omega arith) b) in
      let three = pass_next (i + 2) (subst (λ (k : ℕ). Passes w width word value from end k) (omega arith) two) (omega arith) (beside i 2 refl c) in
      subst (λ (k : ℕ). Passes w width word value from end k) (omega arith)
      (pass_next (i + 3) (subst (λ (k : ℕ). Passes w width word value from end k) (omega arith) three) (omega arith) (beside i 3 refl d))

pub ruleset four_steps = (turn, pass_start, pass_four)
