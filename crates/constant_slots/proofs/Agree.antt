-- 'For every pool, table so filled and constant both answer the same': `slots_agree`. By the places of the constants in the table. Assumes nothing.
use Prim.Native.Nat.{ℕ, zero, suc, ◌+◌, ◌-◌, ◌≤◌, ◌<◌}
use native.Mathlib.Nat.{zero-add}
use native.Mathlib.Omega.{arith}
use native.Mathlib.Decide.{dec_lt, ℕ_discrete}
use mathlib.Core.Path.{◌≡◌, refl, sym, ap, ◌∙◌, subst}
use mathlib.Core.Bool.{Bool, true, false, cond}
use mathlib.Core.Option.{Option, none, some}
use mathlib.Core.List.{List}
use lib.ListN.{length, get_or, replicate, length-replicate}
use lib.Dec.{eqb, leb, eqb→eq}
use borrow.Author.Tests.{lt-ltb, le-leb, lt-leb}
use Rattle.words.specs.Object.{Constant, same_constant}
use Rattle.constant_slots.specs.Home.{home}
use Rattle.constant_slots.specs.Plain.{first_from, pool_of, constant_at, is_constant, find_plain}
use Rattle.constant_slots.specs.Slots.{Search, searched, look, is_in_pool, slots_of, search_slots}
use Rattle.constant_slots.proofs.Homes.{home_below, same_home}
use Rattle.constant_slots.proofs.Rounds.{cond_case, slot_at, slot_below}
use Rattle.constant_slots.proofs.Filling.{no_constant, Placed, Fills, fills, fill_length, pool_length, pool_at}

-- the plain search: none of them, or the first
data Plain (test : ℕ → Bool) (k : ℕ) : Option ℕ → Type 0 where
  nothing : ((i : ℕ) → i < k → test i ≡ false) → Plain test k none
  at_first : (i : ℕ) → i < k → test i ≡ true → ((j : ℕ) → j < i → test j ≡ false) → Plain test k (some i)

plain_is : (test : ℕ → Bool) (k i : ℕ) → ((j : ℕ) → j < i → test j ≡ false) → Plain test (i + k) (first_from test k i)
unfolding first_from
plain_is test zero i f = nothing (λ j h. f j (omega arith))
plain_is test (suc k) i f = go (test i) refl (λ g. plain_is test k (i + 1) g)
  where
    more : test i ≡ false → (j : ℕ) → j < i + 1 → Dec (j ≡ i) → test j ≡ false
    more e j h (yes q) = rw q e
    more e j h (no q) = f j (omega arith)

    go : (b : Bool) → test i ≡ b → (((j : ℕ) → j < i + 1 → test j ≡ false) → Plain test (i + 1 + k) (first_from test k (i + 1)))
        → Plain test (i + suc k) (cond b (some i) (first_from test k (i + 1)))
    go true e r = at_first i (omega arith) e f
    go false e r = let z : i + 1 + k ≡ i + suc k = omega arith in
        subst (λ m. Plain test m (first_from test k (i + 1))) z (r (λ j h. more e j h (ℕ_discrete j i)))

-- a table that is so filled, and a test that takes constants of one home alone
module _ (n : ℕ) (slots : List ℕ) (l : List Constant) (f : Fills n slots l) (c : Constant) (is : ℕ → Bool)
    (agree : (i : ℕ) → i < length l → is i ≡ true → home n (get_or l i no_constant) ≡ home n c) where
  absent : 0 < n → ((i : ℕ) → i < length l → is i ≡ false) → (k d m : ℕ) → d + k ≡ n → (look is k n slots (slot_at n (home n c) d) m).found ≡ none
  unfolding look
  absent z h zero d m e = refl
  absent z h (suc k) d m e = go (ℕ_discrete there 0) (absent z h k (suc d) (m + 1) (omega arith))
    where
      there : ℕ
      there = get_or slots (slot_at n (home n c) d) 0

      inside : there ≤ length l
      inside = f.range (slot_at n (home n c) d) (slot_below n (home n c) d (home_below n c z) (omega arith))

      go : Dec (there ≡ 0) → (look is k n slots (slot_at n (home n c) (suc d)) (m + 1)).found ≡ none
          → (cond (eqb there 0) (searched none (m + 1))
          (cond (is (there - 1)) (searched (some (there - 1)) (m + 1)) (look is k n slots (slot_at n (home n c) (suc d)) (m + 1)))).found ≡ none
      go (yes q) r = rw q refl
      go (no q) r = cond_case (λ (x : Search). x.found ≡ none) (eqb there 0) (λ t. refl)
          (λ t. let u : there - 1 < length l = omega (arith, inside) in rw (h (there - 1) u) r)

  present : (i : ℕ) → i < length l → is i ≡ true → ((j : ℕ) → j < i → is j ≡ false) → (p : Placed n slots i (get_or l i no_constant))
      → home n (get_or l i no_constant) ≡ home n c → (k d m : ℕ) → d + k ≡ n → d ≤ p.far → (look is k n slots (slot_at n (home n c) d) m).found ≡ some i
  unfolding look
  present i a b lower p same zero d m e h = absurd (omega (arith, p.near))
  present i a b lower p same (suc k) d m e h = go (ℕ_discrete d p.far) (λ q. present i a b lower p same k (suc d) (m + 1) (omega arith) q)
    where
      there : ℕ
      there = get_or slots (slot_at n (home n c) d) 0

      go : Dec (d ≡ p.far) → (suc d ≤ p.far → (look is k n slots (slot_at n (home n c) (suc d)) (m + 1)).found ≡ some i)
          → (cond (eqb there 0) (searched none (m + 1))
          (cond (is (there - 1)) (searched (some (there - 1)) (m + 1)) (look is k n slots (slot_at n (home n c) (suc d)) (m + 1)))).found ≡ some i
      go (yes q) r =
          let z : there ≡ i + 1 = subst (λ v. get_or slots (slot_at n v d) 0 ≡ i + 1) same
          (subst (λ v. get_or slots (slot_at n (home n (get_or l i no_constant)) v) 0 ≡ i + 1) (sym q) p.holds) in
          let y : i + 1 - 1 ≡ i = omega arith in
          rw z (cond_case (λ (x : Search). x.found ≡ some i) (eqb (i + 1) 0)
          (λ t. let w : i + 1 ≡ 0 = eqb→eq (i + 1) 0 t in absurd (omega arith)) (λ t. rw (y, b) refl))
      go (no q) r =
          let z = p.before d (omega arith) in
          let u : 0 < there = subst (λ v. 0 < get_or slots (slot_at n v d) 0) same z.0 in
          let w : there ≤ i = subst (λ v. get_or slots (slot_at n v d) 0 ≤ i) same z.1 in
          cond_case (λ (x : Search). x.found ≡ some i) (eqb there 0) (λ t. let v : there ≡ 0 = eqb→eq there 0 t in absurd (omega arith))
          (λ t. rw (lower (there - 1) (omega arith)) (r (omega arith)))

  found_alike : length l < n → {o : Option ℕ} → Plain is (length l) o → (look is n n slots (home n c) 0).found ≡ o
  found_alike h (nothing x) = absent (omega arith) x n 0 0 (omega arith)
  found_alike h (at_first i a b lower) = present i a b lower (f.places i a) (agree i a b) n 0 0 (omega arith) (omega arith)

-- a test and one that agrees with it below k
alike_below : (test is : ℕ → Bool) (k : ℕ) → ((i : ℕ) → i < k → is i ≡ test i) → {o : Option ℕ} → Plain test k o → Plain is k o
alike_below test is k f (nothing x) = nothing (λ i h. f i h ∙ x i h)
alike_below test is k f (at_first i a b lower) = at_first i a (f i a ∙ b) (λ j h. f j (omega arith) ∙ lower j h)

-- of every pool, as area 2's words and count, number of slots and constant
pub slots_agree : (n count : ℕ) (w : List ℕ) (c : Constant) → (search_slots count c w (slots_of n (pool_of count w))).found ≡ find_plain count c w
slots_agree n count w c = go (dec_lt count n)
  where
    l : List Constant
    l = pool_of count w

    long : length l ≡ count
    long = pool_length count 0 w

    slots : List ℕ
    slots = slots_of n l

    in-pool : (i : ℕ) → i < count → is_in_pool count c w i ≡ is_constant c w i
    in-pool i h = rw (lt-ltb i count h)

    go : Dec (count < n) → (search_slots count c w slots).found ≡ find_plain count c w
    go (yes h) =
        let f : Fills n slots l = fills n l (omega (arith, long)) in
        let here : leb (length slots) count ≡ false = lt-leb (length slots) count (omega (arith, f.long)) in
        let plain : Plain (is_in_pool count c w) count (find_plain count c w) =
        alike_below (is_constant c w) (is_in_pool count c w) count in-pool
        (subst (λ m. Plain (is_constant c w) m (find_plain count c w)) (zero-add count) (plain_is (is_constant c w) count 0 (λ j q. absurd (omega arith)))) in
        let both : (look (is_in_pool count c w) n n slots (home n c) 0).found ≡ find_plain count c w =
        found_alike n slots l f c (is_in_pool count c w)
        (λ i a b. let k : i < count = omega (arith, long) in
        same_home n c (get_or l i no_constant) (ap (λ d. same_constant c d) (pool_at count 0 i w k ∙ ap (constant_at w) (zero-add i)) ∙ sym (in-pool i k) ∙ b))
        (omega (arith, long)) (subst (λ m. Plain (is_in_pool count c w) m (find_plain count c w)) (sym long) plain) in
        rw here (subst (λ m. (look (is_in_pool count c w) m m slots (home m c) 0).found ≡ find_plain count c w) (sym f.long) both)
    go (no h) = fallen_back (fill_length l 0 (replicate n 0) ∙ length-replicate n 0)
      where
        fallen_back : length slots ≡ n → (search_slots count c w slots).found ≡ find_plain count c w
        fallen_back e = rw (le-leb (length slots) count (omega arith)) refl
