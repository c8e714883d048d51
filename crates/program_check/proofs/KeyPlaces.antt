-- Places of keys in a set of bits: `note` loses no place; a key whose place is not in the set has not come before; every key is of a share.
-- Assumes nothing.
use Prim.Native.Nat.{ℕ, zero, suc, ◌+◌, ◌*◌, ◌/◌, ◌%◌, ◌^◌, ◌≤◌, ◌<◌}
use native.Mathlib.Omega.{arith}
use native.Mathlib.Decide.{ℕ_discrete}
use native.Mathlib.Nat.{div_self, mod-lt, one-mul}
use mathlib.Core.Path.{◌≡◌, refl, sym, ap, subst, ◌∙◌}
use mathlib.Core.Bool.{Bool, true, false, cond, not}
use mathlib.Core.List.{List}
use lib.ListN.{length, get_or, set}
use lib.Seq.{get_or-set_same, get_or-set_other}
use lib.Dec.{T, eqb}
use lib.Pow.{pow_pos, shl_exact}
use lib.Bits.{bit_or, or_shr, or_mod}
use borrow.Author.Tests.{eq-eqb, ne_eqb, eqb-true, not-true, not-false}
use Rattle.words.specs.Areas.{entry_field}
use Rattle.definition.specs.Within.{all_below, where'}
use Rattle.definition_laws.proofs.Tests.{first_of, second_of, below_at}
use Rattle.program_check.specs.Keys.{same_by, differs_from, fresh_by, keys_by, set_size, set_words, hash_of, hash_at, place_at, share_at, fresh_in, share_fresh}
use Rattle.program_check.specs.KeySets.{has_bit, Notes, HasPlaces, Looked}
use Rattle.program_check.proofs.Below.{true_by, false_by, holds, fails, every, where_in, where_out, below_turn, below_no, below_done}

-- the bits of `x | y`
or_left : (a b : ℕ) → a ≡ 1 → b < 2 → bit_or a b ≡ 1
or_left a zero e l = rw e
or_left a (suc zero) e l = rw e
or_left a (suc (suc b)) e l = absurd (omega arith)

or_right : (a b : ℕ) → a < 2 → b ≡ 1 → bit_or a b ≡ 1
or_right zero b l e = rw e
or_right (suc zero) b l e = rw e
or_right (suc (suc a)) b l e = absurd (omega arith)

bits_or : (x y j : ℕ) → bit_or x y / 2 ^ j % 2 ≡ bit_or (x / 2 ^ j % 2) (y / 2 ^ j % 2)
bits_or x y j = ap (λ (z : ℕ). z % 2) (or_shr x y j) ∙ or_mod (x / 2 ^ j) (y / 2 ^ j) 1

-- `note`
module _ (bits : List ℕ) (n : ℕ) (l : n / 64 < length bits) where
  abbrev word : ℕ
  word = get_or bits (n / 64) 0

  abbrev after : List ℕ
  after = set bits (n / 64) (bit_or word (2 ^ (n % 64)))

  at_there : has_bit after n ≡ true
  unfolding has_bit
  at_there =
      ap (λ (y : ℕ). eqb (y / 2 ^ (n % 64) % 2) 1) (get_or-set_same bits (n / 64) (bit_or word (2 ^ (n % 64))) 0 l)
      ∙ ap (λ (y : ℕ). eqb y 1) (bits_or word (2 ^ (n % 64)) (n % 64)
      ∙ or_right (word / 2 ^ (n % 64) % 2) (2 ^ (n % 64) / 2 ^ (n % 64) % 2) (mod-lt (word / 2 ^ (n % 64)) (omega arith))
      (ap (λ (y : ℕ). y % 2) (div_self (pow_pos (n % 64)))))

  at_kept : (m : ℕ) → has_bit bits m ≡ true → has_bit after m ≡ true
  unfolding has_bit
  at_kept m h = go (ℕ_discrete (m / 64) (n / 64))
    where
      go : Dec (m / 64 ≡ n / 64) → has_bit after m ≡ true
      go (no q) = ap (λ (y : ℕ). eqb (y / 2 ^ (m % 64) % 2) 1) (get_or-set_other bits (n / 64) (m / 64) (bit_or word (2 ^ (n % 64))) 0 q) ∙ h
      go (yes q) =
          let b : word / 2 ^ (m % 64) % 2 ≡ 1 =
          ap (λ (i : ℕ). get_or bits i 0 / 2 ^ (m % 64) % 2) (sym q) ∙ eqb-true (get_or bits (m / 64) 0 / 2 ^ (m % 64) % 2) 1 h in
          ap (λ (i : ℕ). eqb (get_or after i 0 / 2 ^ (m % 64) % 2) 1) q
          ∙ ap (λ (y : ℕ). eqb (y / 2 ^ (m % 64) % 2) 1) (get_or-set_same bits (n / 64) (bit_or word (2 ^ (n % 64))) 0 l)
          ∙ ap (λ (y : ℕ). eqb y 1) (bits_or word (2 ^ (n % 64)) (m % 64)
          ∙ or_left (word / 2 ^ (m % 64) % 2) (2 ^ (n % 64) / 2 ^ (m % 64) % 2) b (mod-lt (2 ^ (n % 64) / 2 ^ (m % 64)) (omega arith)))

  pub noted : Notes bits n (set bits (n / 64) (bit_or word (1 * 2 ^ (n % 64) % 2 ^ 64))) (eqb (word / 2 ^ (n % 64) % 2) 1)
  unfolding has_bit
  noted =
      let s : n % 64 < 64 = mod-lt n (omega arith) in
      let e : 1 * 2 ^ (n % 64) % 2 ^ 64 ≡ 2 ^ (n % 64) = shl_exact 1 (n % 64) 64 (omega arith) (omega arith) ∙ one-mul (2 ^ (n % 64)) in
      subst (λ (y : ℕ). Notes bits n (set bits (n / 64) (bit_or word y)) (eqb (word / 2 ^ (n % 64) % 2) 1)) (sym e)
      (record { was = refl; there = at_there; kept = at_kept })

pub in_set : (n : ℕ) {size : ℕ} → size ≡ set_words → n % set_size / 64 < size
in_set n {size} e =
    let m : n % set_size < set_size = mod-lt n (omega arith) in
    omega arith

-- `entry_differs`
module _ (width g n : ℕ) (w : List ℕ) (shares share i : ℕ) where
  pub none_yet : (bits : List ℕ) → HasPlaces width g n w shares share 0 bits
  none_yet bits = record { place = λ j l. absurd (omega arith) }

  module _ {group name hash : ℕ} (a : group ≡ entry_field width i g w) (b : name ≡ entry_field width i n w) (c : hash ≡ hash_of group name) where
    hash_is : hash ≡ hash_at width g n w i
    hash_is = c ∙ rw (a, b)

    share_is : hash / set_size % shares ≡ share_at width g n w shares i
    share_is = ap (λ (x : ℕ). x / set_size % shares) hash_is

    place_is : hash % set_size ≡ place_at width g n w i
    place_is = ap (λ (x : ℕ). x % set_size) hash_is

    -- of another share
    pub look_other : {bits : List ℕ} → HasPlaces width g n w shares share i bits → (hash / set_size % shares ≡ share → ⊥)
        → Looked width g n w shares share i bits true
    look_other {bits} h ne = record {
      fresh = true_by (fresh_in width g n w shares share i)
          (where_in (eqb (share_at width g n w shares i) share) (fresh_by width g n w i)
          (λ t. absurd (fails (ne_eqb (share_at width g n w shares i) share (λ q. ne (share_is ∙ q))) t)));
      places = record { place = λ j l q. go j l q (ℕ_discrete j i) };
    }
      where
        go : (j : ℕ) → j < suc i → share_at width g n w shares j ≡ share → Dec (j ≡ i) → has_bit bits (place_at width g n w j) ≡ true
        go j l q (yes e) = absurd (ne (share_is ∙ ap (λ (k : ℕ). share_at width g n w shares k) (sym e) ∙ q))
        go j l q (no e) = h.place j (omega (arith, e)) q

    module _ {bits later : List ℕ} {taken : Bool} (h : HasPlaces width g n w shares share i bits) (o : Notes bits (hash % set_size) later taken)
        (is : hash / set_size % shares ≡ share) where
      more : HasPlaces width g n w shares share (suc i) later
      more = record { place = λ j l q. go j l q (ℕ_discrete j i) }
        where
          go : (j : ℕ) → j < suc i → share_at width g n w shares j ≡ share → Dec (j ≡ i) → has_bit later (place_at width g n w j) ≡ true
          go j l q (yes e) = ap (λ (k : ℕ). has_bit later k) (ap (λ (k : ℕ). place_at width g n w k) e ∙ sym place_is) ∙ o.there
          go j l q (no e) = o.kept (place_at width g n w j) (h.place j (omega (arith, e)) q)

      -- its place is taken: by the search
      pub look_search : {r : Bool} → r ≡ fresh_by width g n w i → Looked width g n w shares share i later r
      look_search {r} e = record {
        fresh = e ∙ ap (λ (t : Bool). where' t (fresh_by width g n w i)) (sym (eq-eqb (share_at width g n w shares i) share (sym share_is ∙ is)));
        places = more;
      }

      -- its place is free: an entry with the same key would have taken it
      same_place : (j : ℕ) → j < i → T (same_by width g n w i j) → has_bit bits (hash % set_size) ≡ true
      same_place j l t =
          let x : entry_field width i g w ≡ entry_field width j g w = eqb-true (entry_field width i g w) (entry_field width j g w) (sym (true_by _ (first_of
          (eqb (entry_field width i g w) (entry_field width j g w)) (eqb (entry_field width i n w) (entry_field width j n w)) t))) in
          let y : entry_field width i n w ≡ entry_field width j n w = eqb-true (entry_field width i n w) (entry_field width j n w) (sym (true_by _ (second_of
          (eqb (entry_field width i g w) (entry_field width j g w)) (eqb (entry_field width i n w) (entry_field width j n w)) t))) in
          let z : hash_at width g n w i ≡ hash_at width g n w j = rw (x, y) in
          let s : share_at width g n w shares j ≡ share = ap (λ (k : ℕ). k / set_size % shares) (sym z) ∙ (sym share_is ∙ is) in
          ap (λ (k : ℕ). has_bit bits k) (place_is ∙ ap (λ (k : ℕ). k % set_size) z) ∙ h.place j l s

      differs : taken ≡ false → (j : ℕ) → j < i → T (differs_from width g n w i j)
      differs free j l = go (same_by width g n w i j) (same_place j l)
        where
          go : (s : Bool) → (T s → has_bit bits (hash % set_size) ≡ true) → T (cond s false true)
          go true f = fails (sym o.was ∙ free) (holds (f tt))
          go false f = tt

      pub look_free : not taken ≡ true → Looked width g n w shares share i later true
      unfolding fresh_by
      look_free f = look_search (true_by (fresh_by width g n w i) (every i (differs_from width g n w i) (differs (not-true taken f))))

-- `share_differs_in`
module _ (width g n : ℕ) (w : List ℕ) (total shares share i : ℕ) where
  pub share_turn : {bits : List ℕ} {r : Bool} → T (all_below i (fresh_in width g n w shares share)) → Looked width g n w shares share i bits r → not r ≡ false
      → T (all_below (i + 1) (fresh_in width g n w shares share)) × HasPlaces width g n w shares share (i + 1) bits
  share_turn {bits} {r} h o s =
      let z : suc i ≡ i + 1 = omega arith in (
        below_turn (fresh_in width g n w shares share) i h (sym o.fresh ∙ not-false r s),
        subst (λ (k : ℕ). HasPlaces width g n w shares share k bits) z o.places,
      )

  pub share_no : {bits : List ℕ} {r : Bool} → i < total → Looked width g n w shares share i bits r → not r ≡ true
      → false ≡ share_fresh width g n w total shares share
  unfolding share_fresh
  share_no {bits} {r} l o s = below_no (fresh_in width g n w shares share) total i l (sym o.fresh ∙ not-true r s)

  pub share_done : i ≤ total → total ≤ i → T (all_below i (fresh_in width g n w shares share)) → true ≡ share_fresh width g n w total shares share
  unfolding share_fresh
  share_done l m h = below_done (fresh_in width g n w shares share) total i l m h

-- `keys_differ`: every key is of one of the shares
module _ (width g n : ℕ) (w : List ℕ) (total shares share : ℕ) where
  pub shares_turn : {r : Bool} → T (all_below share (share_fresh width g n w total shares)) → r ≡ share_fresh width g n w total shares share → not r ≡ false
      → T (all_below (share + 1) (share_fresh width g n w total shares))
  shares_turn {r} h e s = below_turn (share_fresh width g n w total shares) share h (sym e ∙ not-false r s)

  pub shares_no : {r : Bool} → r ≡ share_fresh width g n w total shares share → not r ≡ true → false ≡ keys_by width g n w total
  unfolding keys_by share_fresh
  shares_no {r} e s =
      false_by (keys_by width g n w total) (λ t. fails (sym e ∙ not-true r s)
      (every total (fresh_in width g n w shares share) (λ i l.
      where_in (eqb (share_at width g n w shares i) share) (fresh_by width g n w i) (λ u. below_at total (fresh_by width g n w) t i l))))

  pub shares_done : 0 < shares → share ≤ shares → shares ≤ share → T (all_below share (share_fresh width g n w total shares)) → true ≡ keys_by width g n w total
  unfolding keys_by share_fresh
  shares_done p l m h =
      true_by (keys_by width g n w total) (every total (fresh_by width g n w) (λ i k.
      let s : share_at width g n w shares i < shares = mod-lt (hash_at width g n w i / set_size) p in
      where_out (eqb (share_at width g n w shares i) (share_at width g n w shares i)) (fresh_by width g n w i)
      (below_at total (fresh_in width g n w shares (share_at width g n w shares i))
      (below_at share (share_fresh width g n w total shares) h (share_at width g n w shares i) (omega arith)) i k)
      (holds (eq-eqb (share_at width g n w shares i) (share_at width g n w shares i) refl))))
