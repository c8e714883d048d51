-- The slots in the order in which they are looked at, round the end: which one is d slots from a slot on, that each is among them, how many are empty, and
-- the first empty one. By induction over the slots looked at. Assumes nothing.
use Prim.Native.Nat.{ℕ, zero, suc, ◌+◌, ◌-◌, ◌≤◌, ◌<◌}
use native.Mathlib.Omega.{arith}
use native.Mathlib.Decide.{dec_lt, ℕ_discrete}
use mathlib.Core.Path.{◌≡◌, refl, sym, ap, subst}
use mathlib.Core.Logic.{◌≢◌}
use mathlib.Core.Bool.{Bool, true, false, cond, not}
use mathlib.Core.List.{List, [], ◌∷◌}
use lib.ListN.{length, get_or, set, replicate}
use lib.Dec.{T, eqb, ltb, eqb→eq, ltb→lt, nltb→le}
use borrow.Author.Tests.{ne_eqb}
use Rattle.constant_slots.specs.Slots.{after, first_empty}

module _ {A : Type 0} where
  pub cond_case : (P : A → Type 0) (b : Bool) {x y : A} → (T b → P x) → (T (not b) → P y) → P (cond b x y)
  cond_case P true f g = f tt
  cond_case P false f g = g tt

-- slot d of those that are looked at from h on
abbrev pub slot_at : ℕ → ℕ → ℕ → ℕ
slot_at n h zero = h
slot_at n h (suc d) = after n (slot_at n h d)

-- it is d further on, round the end
pub record Round (n h d s : ℕ) : Type 0 where
  pub ahead : h + d < n → s ≡ h + d
  pub round : n ≤ h + d → s + n ≡ h + d

round_of : (n h d : ℕ) → h < n → d < n → Round n h d (slot_at n h d)
round_of n h zero a b = record { ahead = λ q. omega arith; round = λ q. omega arith }
round_of n h (suc d) a b = go (round_of n h d a (omega arith))
  where
    s : ℕ
    s = slot_at n h d

    go : Round n h d s → Round n h (suc d) (after n s)
    go r = cond_case (Round n h (suc d)) (ltb (s + 1) n)
        (λ t. record { ahead = λ q. omega (arith, r.ahead (omega arith), ltb→lt (s + 1) n t); round = λ q. further t (dec_lt (h + d) n) q })
        (λ t. record { ahead = λ q. omega (arith, r.ahead (omega arith), nltb→le (s + 1) n t); round = λ q. turned t (dec_lt (h + d) n) q })
      where
        further : T (ltb (s + 1) n) → Dec (h + d < n) → n ≤ h + suc d → s + 1 + n ≡ h + suc d
        further t (yes k) q = omega (arith, r.ahead k, ltb→lt (s + 1) n t)
        further t (no k) q = omega (arith, r.round (omega arith))

        turned : T (not (ltb (s + 1) n)) → Dec (h + d < n) → n ≤ h + suc d → 0 + n ≡ h + suc d
        turned t (yes k) q = omega (arith, r.ahead k, nltb→le (s + 1) n t)
        turned t (no k) q = omega (arith, r.round (omega arith), nltb→le (s + 1) n t)

pub slot_below : (n h d : ℕ) → h < n → d < n → slot_at n h d < n
slot_below n h d a b = go (dec_lt (h + d) n) (round_of n h d a b)
  where
    go : Dec (h + d < n) → Round n h d (slot_at n h d) → slot_at n h d < n
    go (yes k) r = omega (arith, r.ahead k)
    go (no k) r = omega (arith, r.round (omega arith))

pub after_below : (n p : ℕ) → p < n → after n p < n
after_below n p h = cond_case (λ s. s < n) (ltb (p + 1) n) (λ t. ltb→lt (p + 1) n t) (λ t. omega arith)

-- every slot is looked at
pub record Reached (n h p : ℕ) : Type 0 where
  pub far : ℕ
  pub near : far < n
  pub here : slot_at n h far ≡ p

pub reached : (n h p : ℕ) → h < n → p < n → Reached n h p
reached n h p a b = go (dec_lt p h)
  where
    go : Dec (p < h) → Reached n h p
    go (yes k) = record { far = p + n - h; near = omega arith; here = omega (arith, (round_of n h (p + n - h) a (omega arith)).round (omega arith)) }
    go (no k) = record { far = p - h; near = omega arith; here = omega (arith, (round_of n h (p - h) a (omega arith)).ahead (omega arith)) }

-- how many slots are empty
abbrev pub one_if_empty : ℕ → ℕ
one_if_empty x = cond (eqb x 0) 1 0

abbrev pub empty_slots : List ℕ → ℕ
empty_slots [] = 0
empty_slots (x ∷ xs) = one_if_empty x + empty_slots xs

pub all_empty : (n : ℕ) → empty_slots (replicate n 0) ≡ n
all_empty zero = refl
all_empty (suc n) = omega (arith, all_empty n)

taken_slot : (v : ℕ) → one_if_empty (v + 1) ≡ 0
taken_slot v = cond_case (λ n. n ≡ 0) (eqb (v + 1) 0) (λ t. let e : v + 1 ≡ 0 = eqb→eq (v + 1) 0 t in absurd (omega arith)) (λ t. refl)

pub one_taken : (l : List ℕ) (p v : ℕ) → p < length l → get_or l p 0 ≡ 0 → empty_slots (set l p (v + 1)) + 1 ≡ empty_slots l
one_taken [] p v h e = absurd (omega arith)
one_taken (x ∷ l) zero v h e = rw e (omega (arith, taken_slot v))
one_taken (x ∷ l) (suc p) v h e = omega (arith, one_taken l p v (omega arith) e)

pub record EmptySlot (l : List ℕ) : Type 0 where
  pub at : ℕ
  pub inside : at < length l
  pub empty : get_or l at 0 ≡ 0

pub empty_slot : (l : List ℕ) → 0 < empty_slots l → EmptySlot l
empty_slot [] h = absurd (omega arith)
empty_slot (x ∷ l) h = go (ℕ_discrete x 0) (λ k. empty_slot l k)
  where
    go : Dec (x ≡ 0) → (0 < empty_slots l → EmptySlot l) → EmptySlot (x ∷ l)
    go (yes e) f = record { at = 0; inside = omega arith; empty = e }
    go (no e) f = let z = f (other (eqb x 0) (λ t. eqb→eq x 0 t) h) in record { at = suc z.at; inside = omega (arith, z.inside); empty = z.empty }
      where
        other : (b : Bool) → (T b → x ≡ 0) → 0 < cond b 1 0 + empty_slots l → 0 < empty_slots l
        other true q k = absurd (e (q tt))
        other false q k = omega arith

-- where none is empty
pub all_taken : (l : List ℕ) (p : ℕ) → empty_slots l ≡ 0 → p < length l → get_or l p 0 ≢ 0
all_taken [] p e h z = omega arith
all_taken (x ∷ l) zero e h z = omega (arith, ap one_if_empty z)
all_taken (x ∷ l) (suc p) e h z = all_taken l p (omega arith) (omega arith) z

pub none_empty : (slots : List ℕ) (n : ℕ) → empty_slots slots ≡ 0 → length slots ≡ n → (k p : ℕ) → p < n → first_empty k n slots p ≡ n
unfolding first_empty
none_empty slots n e l zero p h = refl
none_empty slots n e l (suc k) p h =
    rw (ne_eqb (get_or slots p 0) 0 (all_taken slots p e (omega arith))) (none_empty slots n e l k (after n p) (after_below n p h))

-- the first empty slot
pub record First (slots : List ℕ) (n h d q : ℕ) : Type 0 where
  pub far : ℕ
  pub from : d ≤ far
  pub near : far < n
  pub is : q ≡ slot_at n h far
  pub empty : get_or slots (slot_at n h far) 0 ≡ 0
  pub before : (j : ℕ) → d ≤ j → j < far → get_or slots (slot_at n h j) 0 ≢ 0

pub first : (slots : List ℕ) (n h k d e : ℕ) → d + k ≡ n → d ≤ e → e < n → get_or slots (slot_at n h e) 0 ≡ 0
    → First slots n h d (first_empty k n slots (slot_at n h d))
unfolding first_empty
first slots n h zero d e a b c z = absurd (omega arith)
first slots n h (suc k) d e a b c z = go (ℕ_discrete (get_or slots (slot_at n h d) 0) 0) (λ x. first slots n h k (suc d) e (omega arith) x c z)
  where
    there : ℕ
    there = get_or slots (slot_at n h d) 0

    go : Dec (there ≡ 0) → (suc d ≤ e → First slots n h (suc d) (first_empty k n slots (slot_at n h (suc d))))
        → First slots n h d (cond (eqb there 0) (slot_at n h d) (first_empty k n slots (slot_at n h (suc d))))
    go (yes q) f = rw q (record { far = d; from = omega arith; near = omega arith; is = refl; empty = q; before = λ j x y. absurd (omega arith) })
    go (no q) f = cond_case (First slots n h d) (eqb there 0) (λ t. absurd (q (eqb→eq _ _ t))) (λ t. next (f (later (ℕ_discrete d e))))
      where
        later : Dec (d ≡ e) → suc d ≤ e
        later (yes w) = absurd (q (subst (λ y. get_or slots (slot_at n h y) 0 ≡ 0) (sym w) z))
        later (no w) = omega arith

        next : {r : ℕ} → First slots n h (suc d) r → First slots n h d r
        next m = record {
          far = m.far;
          from = omega (arith, m.from);
          near = m.near;
          is = m.is;
          empty = m.empty;
          before = λ j x y. meet j x y (ℕ_discrete j d);
        }
          where
            meet : (j : ℕ) → d ≤ j → j < m.far → Dec (j ≡ d) → get_or slots (slot_at n h j) 0 ≢ 0
            meet j x y (yes w) = subst (λ v. get_or slots (slot_at n h v) 0 ≢ 0) (sym w) q
            meet j x y (no w) = m.before j (omega arith) y

-- one is empty, so there is a first from h on
pub first_from_lem : (slots : List ℕ) (n h : ℕ) → length slots ≡ n → h < n → 0 < empty_slots slots → First slots n h 0 (first_empty n n slots h)
first_from_lem slots n h l b z =
    let o = empty_slot slots z in
    let m = reached n h o.at b (omega (arith, o.inside)) in
    first slots n h n 0 m.far (omega arith) (omega arith) m.near (subst (λ p. get_or slots p 0 ≡ 0) (sym m.here) o.empty)
