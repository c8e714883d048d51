-- Homes: a home is a slot, the same constant has the same one, and rows of integers and of round floats have different ones. By the remainders. Assumes
-- nothing.
use Prim.Native.Nat.{ℕ, zero, suc, ◌+◌, ◌-◌, ◌*◌, ◌/◌, ◌%◌, ◌≤◌, ◌<◌}
use native.Mathlib.Nat.{mod-lt, mod-add-mod, mul-mod_left, mod-eq_of_lt, mod-eq-sub-mod, div-add-mod', add-mul, mul_comm, mul-le-mul_right}
use native.Mathlib.Decide.{dec_lt, ℕ_discrete}
use native.Mathlib.Omega.{arith}
use mathlib.Core.Path.{◌≡◌, refl, sym, ap, ◌∙◌}
use mathlib.Core.Logic.{◌≢◌}
use mathlib.Core.Bool.{true, true≢false}
use lib.Pow.{shl-shr}
use borrow.Author.Tests.{eq-eqb, ne_eqb}
use Rattle.words.specs.Object.{Constant, constant_of, integer_kind, float_kind, same_constant}
use Rattle.constant_slots.specs.Home.{round_zeros, grain, float_value, float_slots, spread_value, stride, home}

pub home_below : (n : ℕ) (c : Constant) → 0 < n → home n c < n
unfolding home
home_below n c h = mod-lt (spread_value n c * stride n + c.kind % 8 * (n / 8)) h

-- what a number below n adds to a number that it leaves in its place among n
stays : (n k d : ℕ) → d < n → (k + d) % n ≡ k % n → d ≡ 0
stays n k d h e = go (dec_lt (k % n + d) n)
  where
    below : k % n < n
    below = mod-lt k (omega arith)

    moved : (k % n + d) % n ≡ k % n
    moved = mod-add-mod k n d ∙ e

    go : Dec (k % n + d < n) → d ≡ 0
    go (yes l) = omega (arith, mod-eq_of_lt l, moved)
    go (no g) =
        let past : (k % n + d) % n ≡ (k % n + d - n) % n = mod-eq-sub-mod (omega arith) in
        let there : (k % n + d - n) % n ≡ k % n + d - n = mod-eq_of_lt (omega (arith, below)) in
        omega (arith, below, past, there, moved)

-- what it adds is a multiple of n
record Multiple (n x : ℕ) : Type 0 where
  times : ℕ
  is : x ≡ times * n

multiple : (n k x : ℕ) → (k + x) % n ≡ k % n → Multiple n x
multiple n k x e = go (dec_lt ((k + x) / n) (k / n))
  where
    whole : (k + x) / n * n + (k + x) % n ≡ k + x
    whole = div-add-mod' (k + x) n

    before : k / n * n + k % n ≡ k
    before = div-add-mod' k n

    go : Dec ((k + x) / n < k / n) → Multiple n x
    go (yes l) = record { times = 0; is = omega (arith, whole, before, e, mul-le-mul_right n l) }
    go (no g) =
        let q : ℕ = (k + x) / n - k / n in
        let sum : (k + x) / n ≡ k / n + q = omega arith in
        let parts : (k + x) / n * n ≡ k / n * n + q * n = ap (λ m. m * n) sum ∙ add-mul (k / n) q n in
        record { times = q; is = omega (arith, whole, before, e, parts) }

divides : (n m p : ℕ) → n ≡ m * p → n % p ≡ 0
divides n m p e = ap (λ k. k % p) e ∙ mul-mod_left m p

-- a prime that does not divide n leaves no number below n in its place
share13 : (n d q : ℕ) → n % 13 ≢ 0 → q < 13 → d * 13 ≡ q * n → d ≡ 0
share13 n d zero a b e = omega arith
share13 n d (suc zero) a b e = absurd (a (omega arith))
share13 n d (suc (suc zero)) a b e = absurd (a (divides n (7 * d - 1 * n) 13 (omega arith)))
share13 n d (suc (suc (suc zero))) a b e = absurd (a (divides n (9 * d - 2 * n) 13 (omega arith)))
share13 n d (suc (suc (suc (suc zero)))) a b e = absurd (a (divides n (10 * d - 3 * n) 13 (omega arith)))
share13 n d (suc (suc (suc (suc (suc zero))))) a b e = absurd (a (divides n (8 * d - 3 * n) 13 (omega arith)))
share13 n d (suc (suc (suc (suc (suc (suc zero)))))) a b e = absurd (a (divides n (11 * d - 5 * n) 13 (omega arith)))
share13 n d (suc (suc (suc (suc (suc (suc (suc zero))))))) a b e = absurd (a (divides n (2 * d - 1 * n) 13 (omega arith)))
share13 n d (suc (suc (suc (suc (suc (suc (suc (suc zero)))))))) a b e = absurd (a (divides n (5 * d - 3 * n) 13 (omega arith)))
share13 n d (suc (suc (suc (suc (suc (suc (suc (suc (suc zero))))))))) a b e = absurd (a (divides n (3 * d - 2 * n) 13 (omega arith)))
share13 n d (suc (suc (suc (suc (suc (suc (suc (suc (suc (suc zero)))))))))) a b e = absurd (a (divides n (4 * d - 3 * n) 13 (omega arith)))
share13 n d (suc (suc (suc (suc (suc (suc (suc (suc (suc (suc (suc zero))))))))))) a b e = absurd (a (divides n (6 * d - 5 * n) 13 (omega arith)))
share13 n d (suc (suc (suc (suc (suc (suc (suc (suc (suc (suc (suc (suc zero)))))))))))) a b e = absurd (a (divides n (12 * d - 11 * n) 13 (omega arith)))
share13 n d (suc (suc (suc (suc (suc (suc (suc (suc (suc (suc (suc (suc (suc q))))))))))))) a b e = absurd (omega arith)

share11 : (n d q : ℕ) → n % 11 ≢ 0 → q < 11 → d * 11 ≡ q * n → d ≡ 0
share11 n d zero a b e = omega arith
share11 n d (suc zero) a b e = absurd (a (omega arith))
share11 n d (suc (suc zero)) a b e = absurd (a (divides n (6 * d - 1 * n) 11 (omega arith)))
share11 n d (suc (suc (suc zero))) a b e = absurd (a (divides n (4 * d - 1 * n) 11 (omega arith)))
share11 n d (suc (suc (suc (suc zero)))) a b e = absurd (a (divides n (3 * d - 1 * n) 11 (omega arith)))
share11 n d (suc (suc (suc (suc (suc zero))))) a b e = absurd (a (divides n (9 * d - 4 * n) 11 (omega arith)))
share11 n d (suc (suc (suc (suc (suc (suc zero)))))) a b e = absurd (a (divides n (2 * d - 1 * n) 11 (omega arith)))
share11 n d (suc (suc (suc (suc (suc (suc (suc zero))))))) a b e = absurd (a (divides n (8 * d - 5 * n) 11 (omega arith)))
share11 n d (suc (suc (suc (suc (suc (suc (suc (suc zero)))))))) a b e = absurd (a (divides n (7 * d - 5 * n) 11 (omega arith)))
share11 n d (suc (suc (suc (suc (suc (suc (suc (suc (suc zero))))))))) a b e = absurd (a (divides n (5 * d - 4 * n) 11 (omega arith)))
share11 n d (suc (suc (suc (suc (suc (suc (suc (suc (suc (suc zero)))))))))) a b e = absurd (a (divides n (10 * d - 9 * n) 11 (omega arith)))
share11 n d (suc (suc (suc (suc (suc (suc (suc (suc (suc (suc (suc q))))))))))) a b e = absurd (omega arith)

share7 : (n d q : ℕ) → n % 7 ≢ 0 → q < 7 → d * 7 ≡ q * n → d ≡ 0
share7 n d zero a b e = omega arith
share7 n d (suc zero) a b e = absurd (a (omega arith))
share7 n d (suc (suc zero)) a b e = absurd (a (divides n (4 * d - 1 * n) 7 (omega arith)))
share7 n d (suc (suc (suc zero))) a b e = absurd (a (divides n (5 * d - 2 * n) 7 (omega arith)))
share7 n d (suc (suc (suc (suc zero)))) a b e = absurd (a (divides n (2 * d - 1 * n) 7 (omega arith)))
share7 n d (suc (suc (suc (suc (suc zero))))) a b e = absurd (a (divides n (3 * d - 2 * n) 7 (omega arith)))
share7 n d (suc (suc (suc (suc (suc (suc zero)))))) a b e = absurd (a (divides n (6 * d - 5 * n) 7 (omega arith)))
share7 n d (suc (suc (suc (suc (suc (suc (suc q))))))) a b e = absurd (omega arith)

share5 : (n d q : ℕ) → n % 5 ≢ 0 → q < 5 → d * 5 ≡ q * n → d ≡ 0
share5 n d zero a b e = omega arith
share5 n d (suc zero) a b e = absurd (a (omega arith))
share5 n d (suc (suc zero)) a b e = absurd (a (divides n (3 * d - 1 * n) 5 (omega arith)))
share5 n d (suc (suc (suc zero))) a b e = absurd (a (divides n (2 * d - 1 * n) 5 (omega arith)))
share5 n d (suc (suc (suc (suc zero)))) a b e = absurd (a (divides n (4 * d - 3 * n) 5 (omega arith)))
share5 n d (suc (suc (suc (suc (suc q))))) a b e = absurd (omega arith)

share3 : (n d q : ℕ) → n % 3 ≢ 0 → q < 3 → d * 3 ≡ q * n → d ≡ 0
share3 n d zero a b e = omega arith
share3 n d (suc zero) a b e = absurd (a (omega arith))
share3 n d (suc (suc zero)) a b e = absurd (a (divides n (2 * d - 1 * n) 3 (omega arith)))
share3 n d (suc (suc (suc q))) a b e = absurd (omega arith)

module _ (n k d : ℕ) (h : d < n) where
  fewer : (s q : ℕ) → d * s ≡ q * n → 0 < s → q < s
  fewer s q e z = go (dec_lt q s)
    where
      go : Dec (q < s) → q < s
      go (yes l) = l
      go (no g) = absurd (omega (
        arith,
        mul-le-mul_right {m = s} {n = q} n (omega arith),
        mul-le-mul_right {m = d + 1} {n = n} s (omega arith),
        add-mul d 1 s,
        mul_comm n s,
      ))

  strides : (k + d * stride n) % n ≡ k % n → d ≡ 0
  strides e = go (ℕ_discrete (n % 13) 0) (ℕ_discrete (n % 11) 0) (ℕ_discrete (n % 7) 0) (ℕ_discrete (n % 5) 0) (ℕ_discrete (n % 3) 0)
    where
      by : (s : ℕ) → stride n ≡ s → Multiple n (d * s)
      by s q = multiple n k (d * s) (ap (λ m. (k + d * m) % n) (sym q) ∙ e)

      go : Dec (n % 13 ≡ 0) → Dec (n % 11 ≡ 0) → Dec (n % 7 ≡ 0) → Dec (n % 5 ≡ 0) → Dec (n % 3 ≡ 0) → d ≡ 0
      go (no a) b c f g = let m = by 13 (rw (ne_eqb (n % 13) 0 a)) in share13 n d m.times a (fewer 13 m.times m.is (omega arith)) m.is
      go (yes a) (no b) c f g = let m = by 11 (rw (eq-eqb (n % 13) 0 a, ne_eqb (n % 11) 0 b)) in
          share11 n d m.times b (fewer 11 m.times m.is (omega arith)) m.is
      go (yes a) (yes b) (no c) f g = let m = by 7 (rw (eq-eqb (n % 13) 0 a, eq-eqb (n % 11) 0 b, ne_eqb (n % 7) 0 c)) in
          share7 n d m.times c (fewer 7 m.times m.is (omega arith)) m.is
      go (yes a) (yes b) (yes c) (no f) g =
          let m = by 5 (rw (eq-eqb (n % 13) 0 a, eq-eqb (n % 11) 0 b, eq-eqb (n % 7) 0 c, ne_eqb (n % 5) 0 f)) in
          share5 n d m.times f (fewer 5 m.times m.is (omega arith)) m.is
      go (yes a) (yes b) (yes c) (yes f) (no g) =
          let m = by 3 (rw (eq-eqb (n % 13) 0 a, eq-eqb (n % 11) 0 b, eq-eqb (n % 7) 0 c, eq-eqb (n % 5) 0 f, ne_eqb (n % 3) 0 g)) in
          share3 n d m.times g (fewer 3 m.times m.is (omega arith)) m.is
      go (yes a) (yes b) (yes c) (yes f) (yes g) =
          let one : stride n ≡ 1 = rw (eq-eqb (n % 13) 0 a, eq-eqb (n % 11) 0 b, eq-eqb (n % 7) 0 c, eq-eqb (n % 5) 0 f, eq-eqb (n % 3) 0 g) in
          let plain : d * stride n ≡ d = ap (λ m. d * m) one ∙ omega arith in
          stays n k d h (ap (λ m. (k + m) % n) (sym plain) ∙ e)

-- numbers below n that are equally far from a place
below_differ : (n t a b : ℕ) → a < n → b < n → (a * stride n + t) % n ≡ (b * stride n + t) % n → a ≡ b
below_differ n t a b h l e = go (dec_lt a b)
  where
    side : (a b : ℕ) → a < n → a ≤ b → b < n → (b * stride n + t) % n ≡ (a * stride n + t) % n → a ≡ b
    side a b h le l e =
        let sum : b ≡ a + (b - a) = omega arith in
        let parts : b * stride n ≡ a * stride n + (b - a) * stride n = ap (λ m. m * stride n) sum ∙ add-mul a (b - a) (stride n) in
        let split : b * stride n + t ≡ a * stride n + t + (b - a) * stride n = omega (arith, parts) in
        omega (arith, strides n (a * stride n + t) (b - a) (omega arith) (ap (λ m. m % n) (sym split) ∙ e))

    go : Dec (a < b) → a ≡ b
    go (yes q) = side a b h (omega arith) l (sym e)
    go (no q) = sym (side b a l (omega arith) h e)

-- m numbers in a row, from k on, leave different remainders by m
row_differs : (m k i j : ℕ) → i < m → j < m → (k + i) % m ≡ (k + j) % m → i ≡ j
row_differs m k i j a b e = go (dec_lt i j)
  where
    side : (i j : ℕ) → i ≤ j → j < m → (k + j) % m ≡ (k + i) % m → i ≡ j
    side i j le l e =
        let sum : k + j ≡ k + i + (j - i) = omega arith in
        omega (arith, stays m (k + i) (j - i) (omega arith) (ap (λ x. x % m) (sym sum) ∙ e))

    go : Dec (i < j) → i ≡ j
    go (yes q) = side i j (omega arith) b (sym e)
    go (no q) = sym (side j i (omega arith) a e)

-- 'In n slots, n non-negative integers in a row have different home slots': those from k on
pub row_of_homes : (n k i j : ℕ) → i < n → j < n → home n (constant_of integer_kind (k + i)) ≡ home n (constant_of integer_kind (k + j)) → i ≡ j
unfolding home
row_of_homes n k i j a b e = row_differs n k i j a b
    (below_differ n (2 * (n / 8)) ((k + i) % n) ((k + j) % n) (mod-lt (k + i) (omega arith)) (mod-lt (k + j) (omega arith)) e)

-- a float that is round among n slots is spread by its number in the row
round_value : (n x : ℕ) → float_value n (x * grain n) ≡ x
round_value n x =
    let number : x * grain n / grain n ≡ x = shl-shr x (round_zeros n) in
    rw (number, eq-eqb (x * grain n) (x * grain n) refl)

-- the same of floats that are round among n slots, of as many as floats are spread over
pub row_of_floats : (n k i j : ℕ) → 0 < n → i < float_slots n → j < float_slots n
    → home n (constant_of float_kind ((k + i) * grain n)) ≡ home n (constant_of float_kind ((k + j) * grain n)) → i ≡ j
unfolding home
row_of_floats n k i j h a b e =
    let first : (k + i) % float_slots n < float_slots n = mod-lt (k + i) (omega arith) in
    let second : (k + j) % float_slots n < float_slots n = mod-lt (k + j) (omega arith) in
    row_differs (float_slots n) k i j a b
    (below_differ n (3 * (n / 8)) ((k + i) % float_slots n) ((k + j) % float_slots n) (omega arith) (omega arith)
    (rw (round_value n (k + i), round_value n (k + j)) at e))

-- what is the same has the same home
pub same_home : (n : ℕ) (c d : Constant) → same_constant c d ≡ true → home n d ≡ home n c
same_home n c d e = ap (home n) (alike (ℕ_discrete c.kind d.kind) (ℕ_discrete c.value d.value))
  where
    alike : Dec (c.kind ≡ d.kind) → Dec (c.value ≡ d.value) → d ≡ c
    alike (yes k) (yes v) = rw (k, v) refl
    alike (yes k) (no v) = absurd (true≢false (sym (rw (eq-eqb c.kind d.kind k, ne_eqb c.value d.value v) at e)))
    alike (no k) v = absurd (true≢false (sym (rw (ne_eqb c.kind d.kind k) at e)))
