-- Bits of a set: what `has`, `add` and `next_in` find and make, and that `add` adds a number to the set and changes no other. Assumes nothing.
use Prim.Native.Nat.{ℕ, zero, suc, ◌+◌, ◌-◌, ◌*◌, ◌/◌, ◌%◌, ◌^◌, ◌≤◌, ◌<◌}
use native.Mathlib.Omega.{arith}
use native.Mathlib.Decide.{dec_lt, ℕ_discrete}
use native.Mathlib.Nat.{zero-div, div_self, div-eq_of_lt, mul-mod_left, pow-suc, mod-lt, div-add-mod', lt-div-mul-add, one-mul}
use mathlib.Core.Path.{◌≡◌, refl, sym, ap, ◌∙◌}
use mathlib.Core.Bool.{Bool, true, false, cond}
use mathlib.Core.List.{List}
use lib.ListN.{length, get_or, set, get_or-eq_default}
use lib.Seq.{get_or-set_same, get_or-set_other, set_out, ext_get_or}
use lib.Dec.{eqb}
use lib.Pow.{pow_pos, pow-lt, pow-add, shl-shr, shl_exact}
use lib.Bits.{bit_or, or_shr, or_mod, or_zero_r}
use borrow.Author.Tests.{eq-eqb, ne_eqb}
use Rattle.compiler_laws.specs.FileSets.{bit_of, add_bit, Added, AddedAbsent, NextIn, NoneBetween, Zeros, set_size}

-- powers of two have one bit
pow_other : (j k : ℕ) → (j ≡ k → ⊥) → 2 ^ k / 2 ^ j % 2 ≡ 0
pow_other j k ne = go (dec_lt k j)
  where
    high : (d : ℕ) → k ≡ suc d + j → 2 ^ k / 2 ^ j % 2 ≡ 0
    high d q = rw (q, pow-add 2 (suc d) j, shl-shr (2 ^ suc d) j, pow-suc 2 d) (mul-mod_left (2 ^ d) 2)

    go : Dec (k < j) → 2 ^ k / 2 ^ j % 2 ≡ 0
    go (yes l) = rw (div-eq_of_lt (pow-lt l))
    go (no l) = at (ℕ_discrete j k)
      where
        at : Dec (j ≡ k) → 2 ^ k / 2 ^ j % 2 ≡ 0
        at (yes q) = absurd (ne q)
        at (no q) = high (k - j - 1) (omega arith)

or_one : (y : ℕ) → y < 2 → bit_or y 1 ≡ 1
or_one zero h = refl
or_one (suc zero) h = refl
or_one (suc (suc y)) h = absurd (omega arith)

bit_same : (x k : ℕ) → bit_or x (2 ^ k) / 2 ^ k % 2 ≡ 1
bit_same x k =
    ap (λ (y : ℕ). y % 2) (or_shr x (2 ^ k) k ∙ ap (λ (y : ℕ). bit_or (x / 2 ^ k) y) (div_self (pow_pos k)))
    ∙ or_mod (x / 2 ^ k) 1 1
    ∙ or_one (x / 2 ^ k % 2) (mod-lt (x / 2 ^ k) (omega arith))

bit_other : (x j k : ℕ) → (j ≡ k → ⊥) → bit_or x (2 ^ k) / 2 ^ j % 2 ≡ x / 2 ^ j % 2
bit_other x j k ne =
    ap (λ (y : ℕ). y % 2) (or_shr x (2 ^ k) j)
    ∙ or_mod (x / 2 ^ j) (2 ^ k / 2 ^ j) 1
    ∙ ap (λ (y : ℕ). bit_or (x / 2 ^ j % 2) y) (pow_other j k ne)
    ∙ or_zero_r (x / 2 ^ j % 2)

-- `has`
pub bit_out : (bits : List ℕ) (n : ℕ) → length bits ≤ n / 64 → false ≡ bit_of bits n
unfolding bit_of
bit_out bits n h = rw (get_or-eq_default bits 0 h, zero-div)

-- `add`
pub add_there : (bits : List ℕ) (n : ℕ) → true ≡ bit_of bits n → Added bits n bits false
unfolding add_bit
add_there bits n h = record { words = rw (← h); is_new = rw (← h) }

pub add_out : (bits : List ℕ) (n : ℕ) → false ≡ bit_of bits n → length bits ≤ n / 64 → Added bits n bits true
unfolding add_bit
add_out bits n h l = record { words = rw (← h) (sym (set_out bits (n / 64) _ l)); is_new = rw (← h) }

pub add_new : (bits : List ℕ) (n : ℕ) → false ≡ bit_of bits n
    → Added bits n (set bits (n / 64) (bit_or (get_or bits (n / 64) 0) (1 * 2 ^ (n % 64) % 2 ^ 64))) true
unfolding add_bit
add_new bits n h =
    let l : n % 64 < 64 = mod-lt n (omega arith) in
    let e : 1 * 2 ^ (n % 64) % 2 ^ 64 ≡ 1 * 2 ^ (n % 64) = shl_exact 1 (n % 64) 64 (omega arith) (omega arith) in
    record {
      words = rw (← h) (ap (λ (y : ℕ). set bits (n / 64) (bit_or (get_or bits (n / 64) 0) y)) (e ∙ one-mul (2 ^ (n % 64))));
      is_new = rw (← h);
    }

-- `add_absent`
pub absent_stands : (standing bits : List ℕ) (n : ℕ) → true ≡ bit_of standing n → AddedAbsent standing bits n bits false
absent_stands standing bits n h = record { words = rw (← h); is_new = rw (← h) }

pub absent_added : {standing bits : List ℕ} {n : ℕ} {after : List ℕ} {fresh : Bool} → false ≡ bit_of standing n → Added bits n after fresh
    → AddedAbsent standing bits n after fresh
absent_added h a = record { words = a.words ∙ rw (← h) refl; is_new = a.is_new ∙ rw (← h) refl }

same_place : (n m : ℕ) → n / 64 ≡ m / 64 → n % 64 ≡ m % 64 → n ≡ m
same_place n m q r = omega (arith, div-add-mod' n 64, div-add-mod' m 64)

-- `add` adds the number and no other
pub add_bit_lem : (bits : List ℕ) (n m : ℕ) → n / 64 < length bits → bit_of (add_bit bits n) m ≡ cond (eqb n m) true (bit_of bits m)
unfolding add_bit bit_of
add_bit_lem bits n m l = go (bit_of bits n) refl (ℕ_discrete n m)
  where
    x : ℕ
    x = get_or bits (n / 64) 0

    new : List ℕ
    new = set bits (n / 64) (bit_or x (2 ^ (n % 64)))

    other : (n ≡ m → ⊥) → Dec (m / 64 ≡ n / 64) → bit_of new m ≡ bit_of bits m
    other ne (yes q) =
        let b : bit_or x (2 ^ (n % 64)) / 2 ^ (m % 64) % 2 ≡ x / 2 ^ (m % 64) % 2 = bit_other x (m % 64) (n % 64) (λ r. ne (same_place n m (sym q) (sym r))) in
        ap (λ (i : ℕ). eqb (get_or new i 0 / 2 ^ (m % 64) % 2) 1) q
        ∙ ap (λ (y : ℕ). eqb (y / 2 ^ (m % 64) % 2) 1) (get_or-set_same bits (n / 64) (bit_or x (2 ^ (n % 64))) 0 l)
        ∙ ap (λ (y : ℕ). eqb y 1) b
        ∙ ap (λ (i : ℕ). eqb (get_or bits i 0 / 2 ^ (m % 64) % 2) 1) (sym q)
    other ne (no q) = ap (λ (y : ℕ). eqb (y / 2 ^ (m % 64) % 2) 1) (get_or-set_other bits (n / 64) (m / 64) (bit_or x (2 ^ (n % 64))) 0 q)

    go : (t : Bool) → bit_of bits n ≡ t → Dec (n ≡ m) → bit_of (cond (bit_of bits n) bits new) m ≡ cond (eqb n m) true (bit_of bits m)
    go true q (yes e) = rw (q, eq-eqb n m e) (ap (λ (i : ℕ). bit_of bits i) (sym e) ∙ q)
    go true q (no ne) = rw (q, ne_eqb n m ne)
    go false q (yes e) =
        rw (q, eq-eqb n m e)
        (ap (λ (i : ℕ). bit_of new i) (sym e)
        ∙ ap (λ (y : ℕ). eqb (y / 2 ^ (n % 64) % 2) 1) (get_or-set_same bits (n / 64) (bit_or x (2 ^ (n % 64))) 0 l)
        ∙ ap (λ (y : ℕ). eqb y 1) (bit_same x (n % 64)))
    go false q (no ne) = rw (q, ne_eqb n m ne) (other ne (ℕ_discrete (m / 64) (n / 64)))

-- `zeros_end`
pub zeros_none : (bits : List ℕ) (at : ℕ) → Zeros bits at at
zeros_none bits at = record { zero_word = λ i a b. absurd (omega arith) }

pub zeros_more : (bits : List ℕ) (at k : ℕ) → get_or bits k 0 ≡ 0 → Zeros bits at k → Zeros bits at (k + 1)
zeros_more bits at k z s = record { zero_word = λ i a b. go i a b (ℕ_discrete i k) }
  where
    go : (i : ℕ) → at ≤ i → i < k + 1 → Dec (i ≡ k) → get_or bits i 0 ≡ 0
    go i a b (yes q) = ap (λ (j : ℕ). get_or bits j 0) q ∙ z
    go i a b (no q) = s.zero_word i a (omega arith)

-- `after`
pub after_one : (bits : List ℕ) (n : ℕ) → n < set_size → NoneBetween bits n (n + 1)
after_one bits n l = record { on = omega arith; last = omega arith; between = λ m a b. absurd (omega arith) }

-- a number further on whose word is in the run of zero words
zero_bit : (bits : List ℕ) (n m : ℕ) {end : ℕ} → Zeros bits (n / 64) end → n < m → m / 64 < end → bit_of bits m ≡ false
unfolding bit_of
zero_bit bits n m s on inside =
    let w : m < m / 64 * 64 + 64 = lt-div-mul-add (omega arith) in
    let from = div-add-mod' n 64 in
    ap (λ (y : ℕ). eqb (y / 2 ^ (m % 64) % 2) 1) (s.zero_word (m / 64) (omega arith) inside)
    ∙ ap (λ (y : ℕ). eqb (y % 2) 1) (zero-div (2 ^ (m % 64)))

pub after_zeros : (bits : List ℕ) (n r : ℕ) {end : ℕ} → Zeros bits (n / 64) end → n < r → r ≤ end * 64 → r ≤ set_size → NoneBetween bits n r
after_zeros bits n r {end} s on far last = record {
  on = on;
  last = last;
  between = λ m a b. zero_bit bits n m s a (omega (arith, a, b, far, div-add-mod' m 64));
}

-- past the words no bit is set
pub after_out : (bits : List ℕ) (n : ℕ) {end : ℕ} → Zeros bits (n / 64) end → length bits ≤ end → n < set_size → NoneBetween bits n set_size
after_out bits n {end} s short on = record { on = on; last = omega arith; between = λ m a b. clear m a (dec_lt (m / 64) end) }
  where
    clear : (m : ℕ) → n < m → Dec (m / 64 < end) → bit_of bits m ≡ false
    clear m a (yes h) = zero_bit bits n m s a h
    clear m a (no h) = sym (bit_out bits m (omega arith))

-- the end of a run of zero words that has the number's word is further on than the number
pub word_past : (n : ℕ) {end : ℕ} → n / 64 < end → n < end * 64
word_past n h = let w : n < n / 64 * 64 + 64 = lt-div-mul-add (omega arith) in omega arith

-- `next_in`: whatever is the next from here is the next from the start
pub next_more : (bits : List ℕ) (n : ℕ) {m r : ℕ} → false ≡ bit_of bits n → NoneBetween bits n m → NextIn bits m r → NextIn bits n r
next_more bits n {m} {r} here p q = record {
  on = omega (arith, p.on, q.on);
  last = q.last;
  between = λ k a b. by k a b (ℕ_discrete n k) (dec_lt k m);
  here = q.here;
}
  where
    by : (k : ℕ) → n ≤ k → k < r → Dec (n ≡ k) → Dec (k < m) → bit_of bits k ≡ false
    by k a b (yes e) d = ap (λ (i : ℕ). bit_of bits i) (sym e) ∙ sym here
    by k a b (no e) (yes d) = p.between k (omega arith) d
    by k a b (no e) (no d) = q.between k (omega arith) b

pub next_here : (bits : List ℕ) (n : ℕ) → n ≤ set_size → (n < set_size → bit_of bits n ≡ true) → NextIn bits n n
next_here bits n l h = record { on = omega arith; last = l; between = λ k a b. absurd (omega arith); here = h }

-- `copy`
abbrev pub Copied : List ℕ → List ℕ → ℕ → Type 0
Copied from to i = (k : ℕ) → k < i → get_or to k 0 ≡ get_or from k 0

pub copy_more : (from to : List ℕ) (i : ℕ) → i < length to → Copied from to i → Copied from (set to i (get_or from i 0)) (i + 1)
copy_more from to i l h k g = go (ℕ_discrete k i)
  where
    go : Dec (k ≡ i) → get_or (set to i (get_or from i 0)) k 0 ≡ get_or from k 0
    go (yes q) = rw q (get_or-set_same to i (get_or from i 0) 0 l)
    go (no q) = get_or-set_other to i k (get_or from i 0) 0 q ∙ h k (omega arith)

pub copy_all : (from to : List ℕ) (i : ℕ) → length to ≡ length from → length from ≤ i → Copied from to i → to ≡ from
copy_all from to i e l h = ext_get_or 0 to from e (λ k g. h k (omega arith))
