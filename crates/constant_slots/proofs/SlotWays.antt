-- The ways through the routines of `slots.rt`: what a turn makes of `look` and of `first_empty`, and the arithmetic of a home. Assumes nothing.
use Prim.Native.Nat.{ℕ, suc, ◌+◌, ◌-◌, ◌*◌, ◌/◌, ◌%◌, ◌^◌, ◌≤◌, ◌<◌}
use native.Mathlib.Nat.{mod-lt, mod-eq_of_lt, div-mul-le_self, lt_of_le_of_lt, mul-le-mul}
use native.Mathlib.Omega.{arith}
use mathlib.Core.Path.{◌≡◌, refl, sym, ap, ◌∙◌}
use mathlib.Core.Logic.{◌≢◌}
use mathlib.Core.Bool.{Bool, true, false, cond}
use mathlib.Core.Option.{none, some}
use mathlib.Core.List.{List}
use lib.ListN.{length, get_or, set}
use lib.Dec.{eqb, ltb}
use borrow.Author.Tests.{eq-eqb, ne_eqb, lt-ltb}
use Rattle.words.specs.Object.{Constant, constant_of, float_kind}
use Rattle.std.specs.Prelude.{Some, None}
use Rattle.constant_slots.specs.Home.{folded, round_zeros, grain, float_value, float_slots, spread_value, stride, home}
use Rattle.constant_slots.proofs.Filling.{set_past}
use Rattle.constant_slots.proofs.Rounds.{after_below}
use Rattle.constant_slots.specs.Slots.{after, first_empty, put_slot, put_number, Search, searched, look, looked_of}

-- the arithmetic of a home
pub product_fits : (v a b : ℕ) → 0 < a → a ≤ 4294967296 → 0 < b → b ≤ 4294967296 → v % a * (v % b) < 2 ^ 64
product_fits v a b h k l m =
    let first : v % a ≤ 4294967295 = omega (arith, mod-lt v h) in
    let second : v % b ≤ 4294967295 = omega (arith, mod-lt v l) in
    omega (arith, mul-le-mul first second)

module _ (n bits z : ℕ) (zeros : z ≡ round_zeros n) where
  pub zeros_small : z < 64
  zeros_small = omega arith

  module _ (fits : bits < 2 ^ 64) where
    -- shifted to the right and back
    back : bits / 2 ^ z * 2 ^ z % 2 ^ 64 ≡ bits / grain n * grain n
    back = mod-eq_of_lt (lt_of_le_of_lt (div-mul-le_self bits (2 ^ z)) fits) ∙ rw zeros

    pub value_of_round : bits / 2 ^ z * 2 ^ z % 2 ^ 64 ≡ bits → bits / 2 ^ z ≡ float_value n bits
    value_of_round e = rw (zeros, eq-eqb (bits / grain n * grain n) bits (sym back ∙ e))

    pub value_of_other : bits / 2 ^ z * 2 ^ z % 2 ^ 64 ≢ bits → folded bits ≡ float_value n bits
    value_of_other e = rw (ne_eqb (bits / grain n * grain n) bits (λ q. e (back ∙ q)))

pub spread_below : (n : ℕ) (c : Constant) → 0 < n → spread_value n c < n
spread_below n c h = go (eqb c.kind float_kind)
  where
    go : (b : Bool) → cond b (float_value n c.value % float_slots n) (c.value % n) < n
    go true = omega (arith, mod-lt (float_value n c.value) (let z : 0 < float_slots n = omega arith in z))
    go false = mod-lt c.value h

pub stride_small : (n : ℕ) → stride n ≤ 13
stride_small n = go (eqb (n % 13) 0) (eqb (n % 11) 0) (eqb (n % 7) 0) (eqb (n % 5) 0) (eqb (n % 3) 0)
  where
    go : (a b c d e : Bool) → cond a (cond b (cond c (cond d (cond e 1 3) 5) 7) 11) 13 ≤ 13
    go true true true true true = omega arith
    go true true true true false = omega arith
    go true true true false e = omega arith
    go true true false d e = omega arith
    go true false c d e = omega arith
    go false b c d e = omega arith

pub spread_fits : (x s : ℕ) {n : ℕ} → x < n → n ≤ 1152921504606846976 → s ≤ 13 → x * s ≤ 14987979559889010688
spread_fits x s h l k = omega (arith, mul-le-mul (let z : x ≤ 1152921504606846976 = omega arith in z) k)

pub kind_fits : (k n : ℕ) → n ≤ 1152921504606846976 → k % 8 * (n / 8) ≤ 1008806316530991104
kind_fits k n l =
    let a : k % 8 ≤ 7 = omega arith in
    let b : n / 8 ≤ 144115188075855872 = omega arith in
    omega (arith, mul-le-mul a b)

-- `look`, k slots from slot p on, m looked at before; the whole began with n slots from slot h on
module _ (is : ℕ → Bool) (n : ℕ) (slots : List ℕ) (p m : ℕ) {start : Search} (e : look is (n - m) n slots p m ≡ start) where
  look_more : m < n → n - m ≡ suc (n - (m + 1))
  look_more h = omega arith

  pub look_empty : m < n → get_or slots p 0 ≡ 0 → record { found = None; looked = m + 1 } ≡ looked_of start
  unfolding look
  look_empty h z =
      let here : look is (n - m) n slots p m ≡ searched none (m + 1) = rw (look_more h, z) in
      ap looked_of (sym here ∙ e)

  pub look_here : m < n → get_or slots p 0 ≢ 0 → is (get_or slots p 0 - 1) ≡ true
      → record { found = Some (get_or slots p 0 - 1); looked = m + 1 } ≡ looked_of start
  unfolding look
  look_here h z t =
      let here : look is (n - m) n slots p m ≡ searched (some (get_or slots p 0 - 1)) (m + 1) = rw (look_more h, ne_eqb (get_or slots p 0) 0 z, t) in
      ap looked_of (sym here ∙ e)

  pub look_next : m < n → get_or slots p 0 ≢ 0 → is (get_or slots p 0 - 1) ≡ false → look is (n - (m + 1)) n slots (after n p) (m + 1) ≡ start
  unfolding look
  look_next h z t =
      let past : look is (n - m) n slots p m ≡ look is (n - (m + 1)) n slots (after n p) (m + 1) = rw (look_more h, ne_eqb (get_or slots p 0) 0 z, t) in
      sym past ∙ e

  pub look_end : n ≤ m → record { found = None; looked = m } ≡ looked_of start
  unfolding look
  look_end h =
      let done : n - m ≡ 0 = omega arith in
      let end : look is (n - m) n slots p m ≡ searched none m = rw done in
      ap looked_of (sym end ∙ e)

-- `first_empty`, in the same way
module _ (n : ℕ) (slots : List ℕ) (p m : ℕ) {start : ℕ} (e : first_empty (n - m) n slots p ≡ start) where
  empty_more : m < n → n - m ≡ suc (n - (m + 1))
  empty_more h = omega arith

  pub empty_here : m < n → get_or slots p 0 ≡ 0 → p ≡ start
  unfolding first_empty
  empty_here h z =
      let here : first_empty (n - m) n slots p ≡ p = rw (empty_more h, z) in
      sym here ∙ e

  pub empty_next : m < n → get_or slots p 0 ≢ 0 → first_empty (n - (m + 1)) n slots (after n p) ≡ start
  unfolding first_empty
  empty_next h z =
      let past : first_empty (n - m) n slots p ≡ first_empty (n - (m + 1)) n slots (after n p) = rw (empty_more h, ne_eqb (get_or slots p 0) 0 z) in
      sym past ∙ e

  pub empty_end : n ≤ m → n ≡ start
  unfolding first_empty
  empty_end h =
      let done : n - m ≡ 0 = omega arith in
      let end : first_empty (n - m) n slots p ≡ n = rw done in
      sym end ∙ e

-- what the proofs of `home`, `look` and `first_empty` go by
pub ruleset home_steps = (spread_below, stride_small, spread_fits, kind_fits)

pub ruleset look_steps = (after_below, look_empty, look_here, look_next, look_end)

pub ruleset empty_steps = (after_below, empty_here, empty_next, empty_end)

-- `put`
module _ (slots : List ℕ) (number kind value : ℕ) where
  pub put_nowhere : length slots ≡ 0 → slots ≡ put_number slots number (constant_of kind value)
  unfolding put_slot
  put_nowhere e = go (ltb number 18446744073709551615)
    where
      go : (b : Bool) → slots ≡ cond b (put_slot slots number (constant_of kind value)) slots
      go true = sym (set_past slots _ (number + 1) (omega arith))
      go false = refl

  module _ (p : ℕ) (below : number < 18446744073709551615)
      (first : p ≡ first_empty (length slots) (length slots) slots (home (length slots) (constant_of kind value))) where
    pub put_in : set slots p (number + 1) ≡ put_number slots number (constant_of kind value)
    unfolding put_slot
    put_in = rw (lt-ltb number 18446744073709551615 below, first) refl

    pub put_past : length slots ≤ p → slots ≡ put_number slots number (constant_of kind value)
    put_past h = sym (set_past slots p (number + 1) h) ∙ put_in
