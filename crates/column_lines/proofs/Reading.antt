-- Reading a number from a field, byte by byte: one law for each way through the code. Assumes nothing.
use Prim.Native.Nat.{ℕ, zero, suc, ◌+◌, ◌-◌, ◌*◌, ◌≤◌, ◌<◌}
use native.Mathlib.Numerals.{add-one}
use native.Mathlib.Omega.{arith}
use mathlib.Core.Path.{◌≡◌, refl, sym, ◌∙◌}
use mathlib.Core.Bool.{Bool, true, false, cond, not, ◌&&◌}
use mathlib.Core.List.{List, [], ◌∷◌}
use lib.ListN.{length, drop, get_or, drop_of_length-le}
use lib.Seq.{drop-cons}
use lib.Dec.{leb, eqb}
use borrow.Author.Tests.{le-leb, lt-leb, eq-eqb, ne_eqb, eqb-true, eqb-false, leb-true, not-false}
use Rattle.column_lines.specs.Numeral.{blank, minus_sign, is_digit, least_size, most_of, word_end, word_of, digits_from, zero_from, number_from, sign_at}
use Rattle.column_lines.specs.Numeral.{sign_from, read_numeral}
use Rattle.column_lines.specs.Spelling.{size_of}
use Rattle.std.specs.Prelude.{Option, Some, None}
use Rattle.std.specs.Bool.{then_some}
use Rattle.std.specs.List.{position, position_from}
use Rattle.std.proofs.lemmas.Option.{cond_some}
use Rattle.std.proofs.lemmas.List.Quantifiers.{position-Some}
use Rattle.std.proofs.lemmas.Iterator.Adapters.{position_from-zero}

-- a number that has grown too large stays so
pub over : (s g : Bool) (m : ℕ) (bs : List ℕ) → size_of s g < m → digits_from s g m bs ≡ None
unfolding digits_from word_of
over s true m [] h = simp (lt-leb m least_size h)
over s false m [] h = simp (lt-leb m (most_of s) h)
over s g m (b ∷ bs) h = both (is_digit b) (over s g (m * 10 + (b - 48)) bs (omega arith))
  where
    both : (t : Bool) {x : Option ℕ} → x ≡ None → cond t x None ≡ None
    both true e = e
    both false e = refl

pub digit_yes : (b : ℕ) → 48 ≤ b → b ≤ 57 → is_digit b ≡ true
digit_yes b l h = simp (le-leb 48 b l, le-leb b 57 h)

module _ (bytes : List ℕ) (i : ℕ) (h : i < length bytes) where
  pub cut : drop i bytes ≡ get_or bytes i 0 ∷ drop (i + 1) bytes
  cut = rw (add-one, drop-cons bytes i 0)

  module _ (s g : Bool) where
    module _ (m : ℕ) where
      pub digit_off : is_digit (get_or bytes i 0) ≡ false → digits_from s g m (drop i bytes) ≡ None
      unfolding digits_from
      digit_off e = rw cut (simp e)

      pub digit_next : is_digit (get_or bytes i 0) ≡ true
          → digits_from s g m (drop i bytes) ≡ digits_from s g (m * 10 + (get_or bytes i 0 - 48)) (drop (i + 1) bytes)
      unfolding digits_from
      digit_next e = rw cut (simp e)

      pub digit_over : is_digit (get_or bytes i 0) ≡ true → size_of s g < m * 10 + (get_or bytes i 0 - 48) → digits_from s g m (drop i bytes) ≡ None
      digit_over e o = digit_next e ∙ over s g (m * 10 + (get_or bytes i 0 - 48)) (drop (i + 1) bytes) o

  -- a field's blanks, and what follows them

  pub blank_next : (s : Bool) → get_or bytes i 0 ≡ blank → read_numeral s (drop i bytes) ≡ read_numeral s (drop (i + 1) bytes)
  unfolding read_numeral
  blank_next s e = rw cut (simp (eq-eqb (get_or bytes i 0) blank e))

  pub blanks_end : (s : Bool) → (get_or bytes i 0 ≡ blank → ⊥) → read_numeral s (drop i bytes) ≡ sign_from s (drop i bytes)
  unfolding read_numeral
  blanks_end s e = rw cut (simp (ne_eqb (get_or bytes i 0) blank e))

module _ (bytes : List ℕ) (i : ℕ) (h : length bytes ≤ i) where
  pub gone : drop i bytes ≡ []
  gone = drop_of_length-le bytes {i = i} h

  pub digits_end : (s g : Bool) (m : ℕ) → digits_from s g m (drop i bytes) ≡ word_of s g m
  unfolding digits_from
  digits_end s g m = rw gone

-- the first digit

pub some_bytes : (bytes : List ℕ) {r : Bool} → r ≡ eqb (length bytes) 0 → r ≡ false → 0 < length bytes
some_bytes bytes e f = let n = eqb-false (length bytes) 0 (sym e ∙ f) in omega (arith, n)

pub number_none : (s g : Bool) (bytes : List ℕ) → length bytes ≡ 0 → None ≡ number_from s g bytes
unfolding number_from
number_none s g [] e = refl
number_none s g (b ∷ bs) e = absurd (omega arith)

pub digits_start : (s g : Bool) (bytes : List ℕ) → 0 < length bytes → (get_or bytes 0 0 ≡ 48 → ⊥) → number_from s g bytes ≡ digits_from s g 0 bytes
unfolding number_from
digits_start s g [] h n = absurd (omega arith)
digits_start s g (b ∷ bs) h n = simp (ne_eqb b 48 n)

pub zero_alone : (s : Bool) (bytes : List ℕ) → get_or bytes 0 0 ≡ 48 → length bytes ≡ 1 → Some 0 ≡ number_from s false bytes
unfolding number_from zero_from
zero_alone s [] e l = absurd (omega arith)
zero_alone s (b ∷ []) e l = simp (eq-eqb b 48 e)
zero_alone s (b ∷ (d ∷ bs)) e l = absurd (omega arith)

pub zero_more : (s : Bool) (bytes : List ℕ) → 0 < length bytes → get_or bytes 0 0 ≡ 48 → (length bytes ≡ 1 → ⊥) → None ≡ number_from s false bytes
unfolding number_from zero_from
zero_more s [] h e n = absurd (omega arith)
zero_more s (b ∷ []) h e n = absurd (n refl)
zero_more s (b ∷ (d ∷ bs)) h e n = simp (eq-eqb b 48 e)

pub zero_signed : (s : Bool) (bytes : List ℕ) → 0 < length bytes → get_or bytes 0 0 ≡ 48 → None ≡ number_from s true bytes
unfolding number_from zero_from
zero_signed s [] h e = absurd (omega arith)
zero_signed s (b ∷ bs) h e = simp (eq-eqb b 48 e)

-- what is left at the end is a word

pub natural_end : (s : Bool) (m : ℕ) → m ≤ most_of s → word_of s false m ≡ Some m
unfolding word_of
natural_end s m h = simp (le-leb m (most_of s) h)

pub negative_end : (s : Bool) (m : ℕ) → m ≤ least_size → word_of s true m ≡ Some (word_end - m)
unfolding word_of
negative_end s m h = simp (le-leb m least_size h)

pub natural_word : (s : Bool) (m most : ℕ) → most ≡ most_of s → then_some (leb m most) m ≡ word_of s false m
unfolding word_of
natural_word s m most e = rw e (go (leb m (most_of s)))
  where
    go : (t : Bool) → then_some t m ≡ cond t (Some m) None
    go true = refl
    go false = refl

-- a number that is not 0 in its first digit is not 0

digits_grow : (m : ℕ) (bs : List ℕ) (word : ℕ) → digits_from false false m bs ≡ Some word → m ≤ word
unfolding digits_from word_of
digits_grow m [] word e = let x = cond_some (leb m (most_of false)) m word e in omega (arith, x.1)
digits_grow m (b ∷ bs) word e = go (is_digit b) e (λ x. digits_grow (m * 10 + (b - 48)) bs word x)
  where
    go : (t : Bool) → cond t (digits_from false false (m * 10 + (b - 48)) bs) None ≡ Some word
        → (digits_from false false (m * 10 + (b - 48)) bs ≡ Some word → m * 10 + (b - 48) ≤ word) → m ≤ word
    go true e more = let x = more e in omega (arith, x)
    go false e more = cc

pub not_zero : (bytes : List ℕ) (m : ℕ) → 0 < length bytes → (get_or bytes 0 0 ≡ 48 → ⊥) → digits_from false false 0 bytes ≡ word_of false false m
    → m ≤ least_size → 0 < m
unfolding digits_from
not_zero [] m h n e l = absurd (omega arith)
not_zero (b ∷ bs) m h n e l = go (leb 48 b) (leb b 57) refl (e ∙ natural_end false m (omega arith))
  where
    go : (t u : Bool) → leb 48 b ≡ t → cond (t && u) (digits_from false false (0 + (b - 48)) bs) None ≡ Some m → 0 < m
    go true true f e = let x = digits_grow (0 + (b - 48)) bs m e in let y = leb-true 48 b f in omega (arith, x, y, n)
    go true false f e = cc
    go false u f e = cc

-- a field after its blanks

skip_blanks : (s : Bool) (bytes : List ℕ) (i : ℕ) → ((k : ℕ) → k < i → get_or bytes k 0 ≡ blank) → i ≤ length bytes
    → read_numeral s bytes ≡ read_numeral s (drop i bytes)
skip_blanks s bytes zero b l = refl
skip_blanks s bytes (suc i) b l =
    skip_blanks s bytes i (λ k h. b k (omega arith)) (omega arith)
    ∙ (let x = blank_next bytes i (omega arith) s (b i (omega arith)) in rw add-one at x)

pub field_some : (s : Bool) (bytes : List ℕ) (i : ℕ) → Some i ≡ position (λ b. not (eqb b blank)) bytes
    → (i < length bytes) × (read_numeral s bytes ≡ sign_from s (drop i bytes))
field_some s bytes i e =
    let p = position-Some (λ b. not (eqb b blank)) bytes i 0 (sym e) in
    let n : get_or bytes i 0 ≡ blank → ⊥ = λ z. (let x = p.1 in let y = rw z at x in cc) in
    (p.0, skip_blanks s bytes i (λ k h. eqb-true (get_or bytes k 0) blank (not-false _ (p.2 k h))) (omega (arith, p.0)) ∙ blanks_end bytes i p.0 s n)

blank_all : (s : Bool) (i : ℕ) (bytes : List ℕ) → position_from (λ b. not (eqb b blank)) i bytes ≡ None → None ≡ read_numeral s bytes
unfolding read_numeral
blank_all s i [] e = refl
blank_all s i (b ∷ bs) e = go (eqb b blank) e (λ x. blank_all s (i + 1) bs x)
  where
    go : (t : Bool) → cond (not t) (Some i) (position_from (λ b. not (eqb b blank)) (i + 1) bs) ≡ None
        → (position_from (λ b. not (eqb b blank)) (i + 1) bs ≡ None → None ≡ read_numeral s bs)
        → None ≡ cond t (read_numeral s bs) (sign_from s (b ∷ bs))
    go true e more = more e
    go false e more = cc

pub field_none : (s : Bool) (bytes : List ℕ) → None ≡ position (λ b. not (eqb b blank)) bytes → None ≡ read_numeral s bytes
field_none s bytes e = blank_all s 0 bytes (sym (e ∙ position_from-zero (λ b. not (eqb b blank)) bytes))

-- and its sign, where one may be

module _ (s : Bool) (bytes : List ℕ) (i : ℕ) (h : i < length bytes) where
  pub sign_yes : s ≡ true → get_or bytes i 0 ≡ minus_sign → sign_from s (drop i bytes) ≡ number_from true true (drop (i + 1) bytes)
  unfolding sign_from sign_at
  sign_yes e m = rw (e, cut bytes i h) (simp (eq-eqb (get_or bytes i 0) minus_sign m))

  pub sign_other : (get_or bytes i 0 ≡ minus_sign → ⊥) → sign_from s (drop i bytes) ≡ number_from s false (drop i bytes)
  unfolding sign_from sign_at
  sign_other n = rw (cut bytes i h) (go s)
    where
      go : (s : Bool) → cond (s && eqb (get_or bytes i 0) minus_sign) (number_from s true (drop 1 (get_or bytes i 0 ∷ drop (i + 1) bytes)))
          (number_from s false (get_or bytes i 0 ∷ drop (i + 1) bytes)) ≡ number_from s false (get_or bytes i 0 ∷ drop (i + 1) bytes)
      go true = simp (ne_eqb (get_or bytes i 0) minus_sign n)
      go false = refl

pub sign_never : (s : Bool) (bs : List ℕ) → s ≡ false → sign_from s bs ≡ number_from s false bs
unfolding sign_from sign_at
sign_never true bs e = cc
sign_never false [] e = refl
sign_never false (b ∷ bs) e = refl

pub most_small : (s : Bool) → most_of s < word_end
most_small true = omega arith
most_small false = omega arith
