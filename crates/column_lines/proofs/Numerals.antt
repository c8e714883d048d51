-- The law of right-justified numbers, over width and sign: reading a written number gives the number (`read_written`), and writing a number that was
-- read gives the bytes (`written_read`); a number of n digits is below 10^n (`read_below`). Assumes nothing.
use Prim.Native.Nat.{ℕ, zero, suc, ◌+◌, ◌-◌, ◌*◌, ◌/◌, ◌%◌, ◌^◌, ◌≤◌, ◌<◌}
use native.Mathlib.Nat.{mul_assoc, pow-suc, pow-succ'}
use native.Mathlib.Omega.{arith}
use mathlib.Core.Path.{◌≡◌, refl, sym, ap, subst, ◌∙◌}
use mathlib.Core.Bool.{Bool, true, false, cond, ◌&&◌}
use mathlib.Core.List.{List, [], ◌∷◌, ◌++◌, append-nil}
use lib.ListN.{length, replicate, length-replicate}
use lib.Seq.{append_snoc}
use lib.Dec.{leb, eqb}
use borrow.Author.Tests.{eq-eqb, ne_eqb, le-leb, lt-leb, leb-true, leb-false, eqb-true, eqb-false}
use Rattle.column_lines.specs.Numeral.{blank, minus_sign, digit_of, is_digit, least_size, word_end}
use Rattle.column_lines.specs.Numeral.{most_of, negative_of, numeral, numeral_fits, word_of, digits_from}
use Rattle.column_lines.specs.Numeral.{zero_from, number_from, sign_at, sign_from, read_numeral}
use Rattle.column_lines.specs.Spelling.{magnitude_of, lead_of, rest_of, spelled, lead_fits, rest_fits, spell_fits}
use Rattle.std.specs.Prelude.{Option, Some, None}
use Rattle.std.proofs.lemmas.Option.{same_Some}
use Rattle.column_lines.proofs.Reading.{digit_yes}
use Rattle.column_lines.proofs.Digits.{rest_lead, spelled_rest, snoc_length, numeral_spelled, fits_spelled}

-- a digit is read
read_digit : (s g : Bool) (m : ℕ) (bs : List ℕ) → digits_from s g (m / 10) (digit_of m ∷ bs) ≡ digits_from s g m bs
unfolding digits_from
read_digit s g m bs =
    let y : is_digit (digit_of m) ≡ true = digit_yes (digit_of m) (omega arith) (omega arith) in
    let e : m / 10 * 10 + (digit_of m - 48) ≡ m = omega arith in
    simp y (ap (λ (k : ℕ). digits_from s g k bs) e)

-- the first digit, which is not 0, after what leads
read_first : (s g : Bool) (m : ℕ) (bs : List ℕ) → (m ≡ 0 → ⊥) → m / 10 ≡ 0 → number_from s g (digit_of m ∷ bs) ≡ digits_from s g m bs
unfolding number_from
read_first s g m bs n z =
    let t : eqb (digit_of m) 48 ≡ false = ne_eqb (digit_of m) 48 (λ e. n (omega arith)) in
    let e : digits_from s g 0 (digit_of m ∷ bs) ≡ digits_from s g m bs = ap (λ (k : ℕ). digits_from s g k (digit_of m ∷ bs)) (sym z) ∙ read_digit s g m bs in
    simp t e

read_blanks : (s : Bool) (w : ℕ) (bs : List ℕ) → read_numeral s (replicate w blank ++ bs) ≡ read_numeral s bs
unfolding read_numeral
read_blanks s zero bs = refl
read_blanks s (suc w) bs = read_blanks s w bs

-- a sign, where one may be
read_minus : (bs : List ℕ) → read_numeral true (minus_sign ∷ bs) ≡ number_from true true bs
unfolding read_numeral sign_from sign_at
read_minus bs = refl

read_plain : (s : Bool) (m : ℕ) (bs : List ℕ) → read_numeral s (digit_of m ∷ bs) ≡ number_from s false (digit_of m ∷ bs)
unfolding read_numeral sign_from sign_at
read_plain s m bs =
    let b : eqb (digit_of m) 32 ≡ false = ne_eqb (digit_of m) 32 (λ e. omega arith) in
    let c : eqb (digit_of m) 45 ≡ false = ne_eqb (digit_of m) 45 (λ e. omega arith) in
    simp b (go s c)
  where
    go : (s : Bool) → eqb (digit_of m) 45 ≡ false
        → cond (s && eqb (digit_of m) 45) (number_from s true bs) (number_from s false (digit_of m ∷ bs)) ≡ number_from s false (digit_of m ∷ bs)
    go true c = simp c
    go false c = refl

-- a negative number is read where a sign may be
abbrev MaySign : Bool → Bool → Type 0
MaySign s g = g ≡ true → s ≡ true

read_lead : (s g : Bool) (w m : ℕ) (bs : List ℕ) → MaySign s g → lead_fits w g ≡ true
    → read_numeral s (lead_of w g ++ (digit_of m ∷ bs)) ≡ number_from s g (digit_of m ∷ bs)
unfolding lead_of lead_fits
read_lead s false w m bs y f = read_blanks s w (digit_of m ∷ bs) ∙ read_plain s m bs
read_lead s true zero m bs y f = cc
read_lead s true (suc w) m bs y f =
    let e : s ≡ true = y refl in
    rw (e, append_snoc) (read_blanks true w (minus_sign ∷ (digit_of m ∷ bs)) ∙ read_minus (digit_of m ∷ bs))

lead_fits_lem : (w : ℕ) (g : Bool) (m : ℕ) → m ≡ 0 → rest_fits w g m ≡ true → lead_fits w g ≡ true
unfolding rest_fits lead_fits
lead_fits_lem zero g m z f = simp (eq-eqb m 0 z) at f
lead_fits_lem (suc w) g m z f = refl

-- 0 has no sign
read_zero : (s g : Bool) (m : ℕ) → g ≡ false → m ≡ 0 → number_from s g (digit_of m ∷ []) ≡ word_of s g m
unfolding number_from zero_from word_of
read_zero s true m v z = cc
read_zero s false m v z =
    let e : eqb (digit_of m) 48 ≡ true = eq-eqb (digit_of m) 48 (omega arith) in
    let l : leb m (most_of s) ≡ true = le-leb m (most_of s) (omega arith) in
    simp (e, l) (ap Some (sym z))

-- what stands before a digit, read: with the digits before it, or as the first
read_step : (s g : Bool) (w m : ℕ) (bs : List ℕ) → MaySign s g → (m ≡ 0 → ⊥) → rest_fits w g (m / 10) ≡ true
    → ((m / 10 ≡ 0 → ⊥) → read_numeral s (rest_of w g (m / 10) ++ (digit_of m ∷ bs)) ≡ digits_from s g (m / 10) (digit_of m ∷ bs))
    → read_numeral s (rest_of w g (m / 10) ++ (digit_of m ∷ bs)) ≡ digits_from s g m bs
read_step s g w m bs y n f more = go (eqb (m / 10) 0) refl
  where
    go : (t : Bool) → eqb (m / 10) 0 ≡ t → read_numeral s (rest_of w g (m / 10) ++ (digit_of m ∷ bs)) ≡ digits_from s g m bs
    go true e =
        let z : m / 10 ≡ 0 = eqb-true (m / 10) 0 e in
        ap (λ (l : List ℕ). read_numeral s (l ++ (digit_of m ∷ bs))) (rest_lead w g (m / 10) z)
        ∙ read_lead s g w m bs y (lead_fits_lem w g (m / 10) z f) ∙ read_first s g m bs n z
    go false e = more (eqb-false (m / 10) 0 e) ∙ read_digit s g m bs

read_rest : (s g : Bool) (w m : ℕ) (bs : List ℕ) → MaySign s g → (m ≡ 0 → ⊥) → rest_fits w g m ≡ true
    → read_numeral s (rest_of w g m ++ bs) ≡ digits_from s g m bs
unfolding rest_of rest_fits
read_rest s g zero m bs y n f =
    absurd (let t : eqb m 0 ≡ false = ne_eqb m 0 n in let x : false ≡ true = simp t at f in let z : ◌≡◌ {A = ℕ} 0 1 = cc in omega arith)
read_rest s g (suc w) m bs y n f =
    let t : eqb m 0 ≡ false = ne_eqb m 0 n in
    let h : rest_fits w g (m / 10) ≡ true = simp t at f in
    simp (t, append_snoc) (read_step s g w m bs y n h (λ k. read_rest s g w (m / 10) (digit_of m ∷ bs) y k h))

-- a number in a field, read
read_spelled : (s g : Bool) (w m : ℕ) → MaySign s g → (g ≡ true → m ≡ 0 → ⊥) → spell_fits w g m ≡ true
    → m ≤ cond g least_size (most_of s) → read_numeral s (spelled w g m) ≡ word_of s g m
unfolding spelled spell_fits digits_from
read_spelled s g zero m y n f l = cc
read_spelled s g (suc w) m y n f l = go (eqb m 0) refl
  where
    nought : (g : Bool) → (g ≡ true → m ≡ 0 → ⊥) → m ≡ 0 → g ≡ false
    nought true h z = absurd (h refl z)
    nought false h z = refl

    go : (t : Bool) → eqb m 0 ≡ t → read_numeral s (rest_of w g (m / 10) ++ (digit_of m ∷ [])) ≡ word_of s g m
    go true e =
        let z : m ≡ 0 = eqb-true m 0 e in
        let u : m / 10 ≡ 0 = omega arith in
        let v : g ≡ false = nought g n z in
        ap (λ (l : List ℕ). read_numeral s (l ++ (digit_of m ∷ []))) (rest_lead w g (m / 10) u)
        ∙ read_lead s g w m [] y (lead_fits_lem w g (m / 10) u f) ∙ read_zero s g m v z
    go false e =
        let k : m ≡ 0 → ⊥ = eqb-false m 0 e in
        read_step s g w m [] y k f (λ x. read_rest s g w (m / 10) (digit_of m ∷ []) y x f)

-- reading a written number gives the number

word_natural : (s : Bool) (word : ℕ) → word ≤ most_of s → word_of s false word ≡ Some word
unfolding word_of
word_natural s word l = simp (le-leb word (most_of s) l)

word_negative : (s : Bool) (word : ℕ) → least_size ≤ word → word < word_end → word_of s true (word_end - word) ≡ Some word
unfolding word_of
word_negative s word l h =
    let e : word_end - (word_end - word) ≡ word = omega arith in
    simp (le-leb (word_end - word) least_size (omega arith)) (ap Some e)

read_word_lem : (width : ℕ) (signed : Bool) (word : ℕ) → word < word_end → spell_fits width (negative_of signed word) (magnitude_of signed word) ≡ true
    → read_numeral signed (spelled width (negative_of signed word) (magnitude_of signed word)) ≡ Some word
read_word_lem width false word h f =
    read_spelled false false width word (λ e. e) (λ e. cc) f (omega arith) ∙ word_natural false word (omega arith)
read_word_lem width true word h f = go (leb least_size word) refl f
  where
    go : (t : Bool) → leb least_size word ≡ t → spell_fits width t (cond t (word_end - word) word) ≡ true
        → read_numeral true (spelled width (leb least_size word) (cond (leb least_size word) (word_end - word) word)) ≡ Some word
    go true e g =
        let l : least_size ≤ word = leb-true least_size word e in
        rw e (read_spelled true true width (word_end - word) (λ x. refl) (λ x z. omega arith) g (omega arith) ∙ word_negative true word l h)
    go false e g =
        let l : word < least_size = leb-false least_size word e in
        rw e (read_spelled true false width word (λ x. refl) (λ x. cc) g (omega arith) ∙ word_natural true word (omega arith))

pub read_written : (width : ℕ) (signed : Bool) (word : ℕ) → word < word_end → numeral_fits width signed word ≡ true
    → read_numeral signed (numeral width signed word) ≡ Some word
read_written width signed word h f =
    ap (read_numeral signed) (numeral_spelled signed word width) ∙ read_word_lem width signed word h (sym (fits_spelled signed word width) ∙ f)

-- writing a number that was read gives the bytes

if_word : (t : Bool) {n : Option ℕ} {x : ℕ} → cond t n None ≡ Some x → (t ≡ true) × (n ≡ Some x)
if_word true e = (refl, e)
if_word false e = cc

pub record Parts (s g : Bool) (m word : ℕ) : Type 0 where
  pub sign : negative_of s word ≡ g
  pub size : magnitude_of s word ≡ m
  pub small : word < word_end

natural_parts : (s : Bool) (m : ℕ) → m ≤ most_of s → Parts s false m m
natural_parts true m l =
    let n : negative_of true m ≡ false = lt-leb least_size m (omega arith) in
    record { sign = n; size = simp n; small = omega arith }
natural_parts false m l = record { sign = refl; size = refl; small = omega arith }

negative_parts : (m : ℕ) → 0 < m → m ≤ least_size → Parts true true m (word_end - m)
negative_parts m p l =
    let n : negative_of true (word_end - m) ≡ true = le-leb least_size (word_end - m) (omega arith) in
    record { sign = n; size = simp n (omega arith); small = omega arith }

word_parts : (s g : Bool) (m word : ℕ) → MaySign s g → (g ≡ true → 0 < m) → word_of s g m ≡ Some word → Parts s g m word
unfolding word_of
word_parts s true m word y p e =
    let h = if_word (leb m least_size) e in
    let u : word_end - m ≡ word = same_Some _ _ h.1 in
    let v : s ≡ true = y refl in
    rw (← u, v) (negative_parts m (p refl) (leb-true m least_size h.0))
word_parts s false m word y p e =
    let h = if_word (leb m (most_of s)) e in
    let u : m ≡ word = same_Some _ _ h.1 in
    rw (← u) (natural_parts s m (leb-true m (most_of s) h.0))

-- what is read of a field, and written again
abbrev Again : Bool → ℕ → List ℕ → Type 0
Again s word bs = (numeral (length bs) s word ≡ bs) × (word < word_end)

digit_range : (b : ℕ) → is_digit b ≡ true → (48 ≤ b) × (b ≤ 57)
digit_range b e = go (leb 48 b) refl e
  where
    go : (t : Bool) → leb 48 b ≡ t → (t && leb b 57) ≡ true → (48 ≤ b) × (b ≤ 57)
    go true x y = (leb-true 48 b x, leb-true b 57 y)
    go false x y = cc

-- one digit more
grow : (g : Bool) (pre : List ℕ) (m b : ℕ) → rest_of (length pre) g m ≡ pre → 48 ≤ b → b ≤ 57 → (m * 10 + (b - 48) ≡ 0 → ⊥)
    → rest_of (length (pre ++ (b ∷ []))) g (m * 10 + (b - 48)) ≡ pre ++ (b ∷ [])
unfolding rest_of
grow g pre m b e l h n =
    let q : (m * 10 + (b - 48)) / 10 ≡ m = omega arith in
    let r : 48 + (m * 10 + (b - 48)) % 10 ≡ b = omega arith in
    rw (snoc_length pre b) (simp (ne_eqb (m * 10 + (b - 48)) 0 n, q, r, e))

numeral_parts : (w : ℕ) (s g : Bool) (m word : ℕ) → Parts s g m word → numeral w s word ≡ spelled w g m
numeral_parts w s g m word p =
    numeral_spelled s word w ∙ ap (λ (t : Bool). spelled w t (magnitude_of s word)) p.sign ∙ ap (spelled w g) p.size

from_digits : (s g : Bool) (m : ℕ) (pre bs : List ℕ) (word : ℕ) → MaySign s g → rest_of (length pre) g m ≡ pre → (m ≡ 0 → ⊥)
    → digits_from s g m bs ≡ Some word → Again s word (pre ++ bs)
unfolding digits_from
from_digits s g m pre [] word y e n w =
    let p = word_parts s g m word y (λ x. omega arith) w in
    (rw append-nil (numeral_parts (length pre) s g m word p ∙ spelled_rest (length pre) g m n ∙ e), p.small)
from_digits s g m pre (b ∷ bs) word y e n w =
    let h = if_word (is_digit b) w in
    let d = digit_range b h.0 in
    let k : m * 10 + (b - 48) ≡ 0 → ⊥ = λ x. n (omega arith) in
    rw (← append_snoc) (from_digits s g (m * 10 + (b - 48)) (pre ++ (b ∷ [])) bs word y (grow g pre m b e d.0 d.1 k) k h.1)

-- after what leads
from_zero : (s g : Bool) (pre bs : List ℕ) (word : ℕ) → lead_of (length pre) g ≡ pre → zero_from g bs ≡ Some word → Again s word (pre ++ (48 ∷ bs))
unfolding zero_from spelled
from_zero s true pre bs word l w = cc
from_zero s false pre (b ∷ bs) word l w = cc
from_zero s false pre [] word l w =
    let z : word ≡ 0 = sym (same_Some _ _ w) in
    let p : Parts s false 0 0 = natural_parts s 0 (omega arith) in (
      rw (z, snoc_length pre 48) (numeral_parts (suc (length pre)) s false 0 0 p
          ∙ ap (λ (l : List ℕ). l ++ (48 ∷ [])) (rest_lead (length pre) false 0 refl ∙ l)),
      omega arith,
    )

first_lead : (g : Bool) (pre : List ℕ) → lead_of (length pre) g ≡ pre → rest_of (length pre) g 0 ≡ pre
first_lead g pre l = rest_lead (length pre) g 0 refl ∙ l

from_number : (s g : Bool) (pre bs : List ℕ) (word : ℕ) → MaySign s g → lead_of (length pre) g ≡ pre → number_from s g bs ≡ Some word
    → Again s word (pre ++ bs)
unfolding number_from digits_from
from_number s g pre [] word y l w = cc
from_number s g pre (b ∷ bs) word y l w = go (eqb b 48) refl w
  where
    go : (t : Bool) → eqb b 48 ≡ t → cond t (zero_from g bs) (digits_from s g 0 (b ∷ bs)) ≡ Some word → Again s word (pre ++ (b ∷ bs))
    go true e w = let z : b ≡ 48 = eqb-true b 48 e in rw z (from_zero s g pre bs word l w)
    go false e w =
        let h = if_word (is_digit b) w in
        let d = digit_range b h.0 in
        let n : b ≡ 48 → ⊥ = eqb-false b 48 e in
        let k : 0 * 10 + (b - 48) ≡ 0 → ⊥ = λ x. n (omega arith) in
        rw (← append_snoc)
        (from_digits s g (0 * 10 + (b - 48)) (pre ++ (b ∷ [])) bs word y (grow g pre 0 b (first_lead g pre l) d.0 d.1 k) k h.1)

blank_snoc : (j : ℕ) (bs : List ℕ) → replicate j blank ++ (blank ∷ bs) ≡ replicate (suc j) blank ++ bs
blank_snoc zero bs = refl
blank_snoc (suc j) bs = ap (λ (l : List ℕ). blank ∷ l) (blank_snoc j bs)

blank_lead : (j : ℕ) → lead_of (length (replicate j blank)) false ≡ replicate j blank
unfolding lead_of
blank_lead j = ap (λ (k : ℕ). replicate k blank) (length-replicate j blank)

minus_lead : (j : ℕ) → lead_of (length (replicate j blank ++ (minus_sign ∷ []))) true ≡ replicate j blank ++ (minus_sign ∷ [])
unfolding lead_of
minus_lead j = rw (snoc_length (replicate j blank) minus_sign) (ap (λ (k : ℕ). replicate k blank ++ (minus_sign ∷ [])) (length-replicate j blank))

from_sign : (s : Bool) (j : ℕ) (b : ℕ) (bs : List ℕ) (word : ℕ) → sign_from s (b ∷ bs) ≡ Some word → Again s word (replicate j blank ++ (b ∷ bs))
unfolding sign_from sign_at
from_sign false j b bs word w = from_number false false (replicate j blank) (b ∷ bs) word (λ e. e) (blank_lead j) w
from_sign true j b bs word w = go (eqb b 45) refl w
  where
    go : (t : Bool) → eqb b 45 ≡ t → cond t (number_from true true bs) (number_from true false (b ∷ bs)) ≡ Some word
        → Again true word (replicate j blank ++ (b ∷ bs))
    go true e w =
        let z : b ≡ 45 = eqb-true b 45 e in
        rw (z, ← append_snoc) (from_number true true (replicate j blank ++ (minus_sign ∷ [])) bs word (λ e. refl) (minus_lead j) w)
    go false e w = from_number true false (replicate j blank) (b ∷ bs) word (λ e. refl) (blank_lead j) w

from_field : (s : Bool) (j : ℕ) (bs : List ℕ) (word : ℕ) → read_numeral s bs ≡ Some word → Again s word (replicate j blank ++ bs)
unfolding read_numeral
from_field s j [] word w = cc
from_field s j (b ∷ bs) word w = by (eqb b 32) refl w (λ x. from_field s (suc j) bs word x)
  where
    by : (t : Bool) → eqb b 32 ≡ t → cond t (read_numeral s bs) (sign_from s (b ∷ bs)) ≡ Some word
        → (read_numeral s bs ≡ Some word → Again s word (replicate (suc j) blank ++ bs)) → Again s word (replicate j blank ++ (b ∷ bs))
    by true e w more = let z : b ≡ 32 = eqb-true b 32 e in rw (z, blank_snoc) (more w)
    by false e w more = from_sign s j b bs word w

pub written_read : (signed : Bool) (bs : List ℕ) (word : ℕ) → read_numeral signed bs ≡ Some word → numeral (length bs) signed word ≡ bs
written_read signed bs word w = (from_field signed 0 bs word w).0

pub read_small : (signed : Bool) (bs : List ℕ) (word : ℕ) → read_numeral signed bs ≡ Some word → word < word_end
read_small signed bs word w = (from_field signed 0 bs word w).1

-- a number of n digits without a sign is below 10^n

digits_below : (m u : ℕ) (bs : List ℕ) (word : ℕ) → m < u → digits_from false false m bs ≡ Some word → word < u * 10 ^ length bs
unfolding digits_from word_of
digits_below m u [] word h w =
    let e : m ≡ word = same_Some _ _ (if_word (leb m (most_of false)) w).1 in
    omega (arith, e, h)
digits_below m u (b ∷ bs) word h w =
    let g = if_word (is_digit b) w in
    let d = digit_range b g.0 in
    let r = digits_below (m * 10 + (b - 48)) (u * 10) bs word (omega (arith, d.0, d.1, h)) g.1 in
    let e : u * 10 * 10 ^ length bs ≡ u * 10 ^ suc (length bs) = mul_assoc u 10 (10 ^ length bs) ∙ ap (λ (x : ℕ). u * x) (sym (pow-succ' 10 (length bs))) in
    subst (λ (x : ℕ). word < x) e r

number_below : (bs : List ℕ) (word : ℕ) → number_from false false bs ≡ Some word → word < 10 ^ length bs
unfolding number_from zero_from
number_below [] word w = cc
number_below (b ∷ bs) word w = go (eqb b 48) w
  where
    small : (bs : List ℕ) → zero_from false bs ≡ Some word → word < 10 ^ suc (length bs)
    small [] e = let z : 0 ≡ word = same_Some _ _ e in omega (arith, z)
    small (c ∷ cs) e = cc

    go : (t : Bool) → cond t (zero_from false bs) (digits_from false false 0 (b ∷ bs)) ≡ Some word → word < 10 ^ suc (length bs)
    go true e = small bs e
    go false e = let r = digits_below 0 1 (b ∷ bs) word (omega arith) e in omega (arith, r)

pub read_below : (bs : List ℕ) (word : ℕ) → read_numeral false bs ≡ Some word → word < 10 ^ length bs
unfolding read_numeral sign_from sign_at
read_below [] word w = cc
read_below (b ∷ bs) word w = go (eqb b blank) w (λ x. read_below bs word x)
  where
    go : (t : Bool) → cond t (read_numeral false bs) (sign_from false (b ∷ bs)) ≡ Some word → (read_numeral false bs ≡ Some word → word < 10 ^ length bs)
        → word < 10 ^ suc (length bs)
    go true e more = let p = pow-suc 10 (length bs) in let q = more e in omega (arith, p, q)
    go false e more = number_below (b ∷ bs) word e
