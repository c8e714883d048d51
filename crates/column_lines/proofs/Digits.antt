-- A number in base ten, right-justified, and its spelling from the last digit on are the same bytes (`numeral_spelled`), and fit in the same fields
-- (`fits_spelled`). Assumes nothing.
use Prim.Native.Nat.{ℕ, zero, suc, ◌+◌, ◌-◌, ◌/◌, ◌≤◌, ◌<◌}
use native.Mathlib.Omega.{arith}
use mathlib.Core.Path.{◌≡◌, refl, sym, ap, ◌∙◌}
use mathlib.Core.Bool.{Bool, true, false, cond}
use mathlib.Core.List.{List, [], ◌∷◌, ◌++◌, append_assoc, append-nil}
use lib.ListN.{length, drop, replicate, length-append, drop_of_length-le}
use lib.Dec.{leb, ltb}
use borrow.Author.Tests.{eq-eqb, ne_eqb, lt-ltb, ltb-true, ltb-false, le-leb, lt-leb, leb-true, leb-false}
use Rattle.column_lines.specs.Numeral.{blank, minus_sign, digit_of, word_end, negative_of, digits_by, digits, written, right_justified, numeral, numeral_fits}
use Rattle.column_lines.specs.Spelling.{magnitude_of, lead_of, rest_of, spelled, lead_fits, rest_fits, spell_fits}

-- the spelling at 0 and elsewhere

pub rest_lead : (w : ℕ) (g : Bool) (m : ℕ) → m ≡ 0 → rest_of w g m ≡ lead_of w g
unfolding rest_of lead_of
rest_lead zero true m z = refl
rest_lead zero false m z = refl
rest_lead (suc w) g m z = simp (eq-eqb m 0 z)

pub spelled_rest : (w : ℕ) (g : Bool) (m : ℕ) → (m ≡ 0 → ⊥) → spelled w g m ≡ rest_of w g m
unfolding spelled rest_of
spelled_rest zero g m n = refl
spelled_rest (suc w) g m n = simp (ne_eqb m 0 n)

pub rest_lead_fits : (w : ℕ) (g : Bool) (m : ℕ) → m ≡ 0 → rest_fits w g m ≡ lead_fits w g
unfolding rest_fits lead_fits
rest_lead_fits zero g m z = simp (eq-eqb m 0 z)
rest_lead_fits (suc w) g m z = simp (eq-eqb m 0 z)

pub spelled_rest_fits : (w : ℕ) (g : Bool) (m : ℕ) → (m ≡ 0 → ⊥) → spell_fits w g m ≡ rest_fits w g m
unfolding spell_fits rest_fits
spelled_rest_fits zero g m n = simp (ne_eqb m 0 n)
spelled_rest_fits (suc w) g m n = simp (ne_eqb m 0 n)

-- a text with one byte more behind, in a field with one byte more

pub snoc_length : (pre : List ℕ) (b : ℕ) → length (pre ++ (b ∷ [])) ≡ suc (length pre)
snoc_length pre b = length-append pre (b ∷ []) ∙ omega arith

drop_snoc : (n : ℕ) (l : List ℕ) (b : ℕ) → n ≤ length l → drop n (l ++ (b ∷ [])) ≡ drop n l ++ (b ∷ [])
drop_snoc zero l b h = refl
drop_snoc (suc n) [] b h = absurd (omega arith)
drop_snoc (suc n) (x ∷ l) b h = drop_snoc n l b (omega arith)

right_none : (t : List ℕ) → right_justified 0 t ≡ []
unfolding right_justified
right_none t = drop_of_length-le t {i = length t} (omega arith)

right_blanks : (w : ℕ) → right_justified w [] ≡ replicate w blank
unfolding right_justified
right_blanks w = append-nil (replicate w blank)

right_more : (w : ℕ) (t : List ℕ) (b : ℕ) → right_justified (suc w) (t ++ (b ∷ [])) ≡ right_justified w t ++ (b ∷ [])
unfolding right_justified
right_more w t b =
    let l : length (replicate w blank ++ t) ≡ length (replicate w blank) + length t = length-append (replicate w blank) t in
    ap (λ (k : ℕ). drop k (replicate (suc w) blank ++ (t ++ (b ∷ [])))) (snoc_length t b)
    ∙ ap (λ (y : List ℕ). drop (length t) y) (sym (append_assoc (replicate w blank) t (b ∷ [])))
    ∙ drop_snoc (length t) (replicate w blank ++ t) b (omega (arith, l))

leb_suc : (a b : ℕ) → leb a b ≡ leb (suc a) (suc b)
leb_suc a b = go (leb a b) refl
  where
    go : (t : Bool) → leb a b ≡ t → leb a b ≡ leb (suc a) (suc b)
    go true e = let l : a ≤ b = leb-true a b e in e ∙ sym (le-leb (suc a) (suc b) (omega arith))
    go false e = let l : b < a = leb-false a b e in e ∙ sym (lt-leb (suc a) (suc b) (omega arith))

fits_more : (w : ℕ) (t : List ℕ) (b : ℕ) → leb (length t) w ≡ leb (length (t ++ (b ∷ []))) (suc w)
fits_more w t b = leb_suc (length t) w ∙ ap (λ (n : ℕ). leb n (suc w)) (sym (snoc_length t b))

-- the sign

abbrev sign_of : Bool → List ℕ
sign_of g = cond g (minus_sign ∷ []) []

right_lead : (w : ℕ) (g : Bool) → lead_of w g ≡ right_justified w (sign_of g)
unfolding lead_of
right_lead w false = sym (right_blanks w)
right_lead zero true = sym (right_none (minus_sign ∷ []))
right_lead (suc w) true = ap (λ (l : List ℕ). l ++ (minus_sign ∷ [])) (sym (right_blanks w)) ∙ sym (right_more w [] minus_sign)

fits_lead : (w : ℕ) (g : Bool) → lead_fits w g ≡ leb (length (sign_of g)) w
unfolding lead_fits
fits_lead zero true = sym (lt-leb 1 0 (omega arith))
fits_lead zero false = sym (le-leb 0 0 (omega arith))
fits_lead (suc w) true = sym (le-leb 1 (suc w) (omega arith))
fits_lead (suc w) false = sym (le-leb 0 (suc w) (omega arith))

-- the digits

single : (k m : ℕ) → digits_by k true m ≡ digit_of m ∷ []
unfolding digits_by
single zero m = refl
single (suc k) m = refl

module _ (w k : ℕ) (g : Bool) (m : ℕ) where
  one_digit : m < 10 → rest_of w g (m / 10) ++ (digit_of m ∷ []) ≡ right_justified (suc w) (sign_of g ++ digits_by k true m)
  one_digit h =
      ap (λ (l : List ℕ). l ++ (digit_of m ∷ [])) (rest_lead w g (m / 10) (omega arith) ∙ right_lead w g) ∙ sym (right_more w (sign_of g) (digit_of m))
      ∙ ap (λ (l : List ℕ). right_justified (suc w) (sign_of g ++ l)) (sym (single k m))

  one_fits : m < 10 → rest_fits w g (m / 10) ≡ leb (length (sign_of g ++ digits_by k true m)) (suc w)
  one_fits h =
      rest_lead_fits w g (m / 10) (omega arith) ∙ fits_lead w g ∙ fits_more w (sign_of g) (digit_of m)
      ∙ ap (λ (l : List ℕ). leb (length (sign_of g ++ l)) (suc w)) (sym (single k m))

  abbrev front : List ℕ
  front = digits_by k (ltb (m / 10) 10) (m / 10)

  more_digits : 10 ≤ m → spelled w g (m / 10) ≡ right_justified w (sign_of g ++ front)
      → rest_of w g (m / 10) ++ (digit_of m ∷ []) ≡ right_justified (suc w) (sign_of g ++ digits_by (suc k) false m)
  unfolding digits_by
  more_digits h e =
      ap (λ (l : List ℕ). l ++ (digit_of m ∷ [])) (sym (spelled_rest w g (m / 10) (λ z. omega arith)) ∙ e)
      ∙ sym (right_more w (sign_of g ++ front) (digit_of m)) ∙ ap (right_justified (suc w)) (append_assoc (sign_of g) front (digit_of m ∷ []))

  more_fits : 10 ≤ m → spell_fits w g (m / 10) ≡ leb (length (sign_of g ++ front)) w
      → rest_fits w g (m / 10) ≡ leb (length (sign_of g ++ digits_by (suc k) false m)) (suc w)
  unfolding digits_by
  more_fits h e =
      sym (spelled_rest_fits w g (m / 10) (λ z. omega arith)) ∙ e ∙ fits_more w (sign_of g ++ front) (digit_of m)
      ∙ ap (λ (l : List ℕ). leb (length l) (suc w)) (append_assoc (sign_of g) front (digit_of m ∷ []))

spelled_digits : (w k : ℕ) (g : Bool) (m : ℕ) → m ≤ k → spelled w g m ≡ right_justified w (sign_of g ++ digits_by k (ltb m 10) m)
unfolding spelled
spelled_digits zero k g m h = sym (right_none (sign_of g ++ digits_by k (ltb m 10) m))
spelled_digits (suc w) zero g m h = let z : m < 10 = omega arith in rw (lt-ltb m 10 z) (one_digit w 0 g m z)
spelled_digits (suc w) (suc k) g m h = go (ltb m 10) refl (λ x. spelled_digits w k g (m / 10) x)
  where
    go : (t : Bool) → ltb m 10 ≡ t → (m / 10 ≤ k → spelled w g (m / 10) ≡ right_justified w (sign_of g ++ front w k g m))
        → rest_of w g (m / 10) ++ (digit_of m ∷ []) ≡ right_justified (suc w) (sign_of g ++ digits_by (suc k) (ltb m 10) m)
    go true e more = rw e (one_digit w (suc k) g m (ltb-true m 10 e))
    go false e more = let l : 10 ≤ m = ltb-false m 10 e in rw e (more_digits w k g m l (more (omega arith)))

digits_some : (k : ℕ) (t : Bool) (m : ℕ) → 0 < length (digits_by k t m)
unfolding digits_by
digits_some zero t m = omega arith
digits_some (suc k) true m = omega arith
digits_some (suc k) false m = let n = snoc_length (digits_by k (ltb (m / 10) 10) (m / 10)) (digit_of m) in omega (arith, n)

fits_digits : (w k : ℕ) (g : Bool) (m : ℕ) → m ≤ k → spell_fits w g m ≡ leb (length (sign_of g ++ digits_by k (ltb m 10) m)) w
unfolding spell_fits
fits_digits zero k g m h =
    let s = digits_some k (ltb m 10) m in
    let n = length-append (sign_of g) (digits_by k (ltb m 10) m) in
    sym (lt-leb (length (sign_of g ++ digits_by k (ltb m 10) m)) 0 (omega (arith, n, s)))
fits_digits (suc w) zero g m h = let z : m < 10 = omega arith in rw (lt-ltb m 10 z) (one_fits w 0 g m z)
fits_digits (suc w) (suc k) g m h = go (ltb m 10) refl (λ x. fits_digits w k g (m / 10) x)
  where
    go : (t : Bool) → ltb m 10 ≡ t → (m / 10 ≤ k → spell_fits w g (m / 10) ≡ leb (length (sign_of g ++ front w k g m)) w)
        → rest_fits w g (m / 10) ≡ leb (length (sign_of g ++ digits_by (suc k) (ltb m 10) m)) (suc w)
    go true e more = rw e (one_fits w (suc k) g m (ltb-true m 10 e))
    go false e more = let l : 10 ≤ m = ltb-false m 10 e in rw e (more_fits w k g m l (more (omega arith)))

-- words

module _ (s : Bool) (word : ℕ) where
  written_signed : written s word ≡ sign_of (negative_of s word) ++ digits (magnitude_of s word)
  unfolding written
  written_signed = go (negative_of s word)
    where
      go : (t : Bool) → cond t (minus_sign ∷ digits (word_end - word)) (digits word) ≡ sign_of t ++ digits (cond t (word_end - word) word)
      go true = refl
      go false = refl

  same : (m : ℕ) → m ≤ m
  same m = omega arith

  pub numeral_spelled : (w : ℕ) → numeral w s word ≡ spelled w (negative_of s word) (magnitude_of s word)
  numeral_spelled w =
      ap (right_justified w) written_signed ∙ sym (spelled_digits w (magnitude_of s word) (negative_of s word) (magnitude_of s word)
      (same (magnitude_of s word)))

  pub fits_spelled : (w : ℕ) → numeral_fits w s word ≡ spell_fits w (negative_of s word) (magnitude_of s word)
  fits_spelled w =
      ap (λ (l : List ℕ). leb (length l) w) written_signed
      ∙ sym (fits_digits w (magnitude_of s word) (negative_of s word) (magnitude_of s word) (same (magnitude_of s word)))
