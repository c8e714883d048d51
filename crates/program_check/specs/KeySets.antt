-- Places of keys in a set of bits, 64 to a word: no key whose place is not in the set has come before
use Rattle.std.specs.Prelude.{ℕ, suc, ◌/◌, ◌%◌, ◌^◌, ◌<◌, ◌≡◌, Bool, true, List, get_or, eqb}
use Rattle.program_check.specs.Keys.{place_at, share_at, fresh_in}

-- number n is in the set
unfoldable pub has_bit : List ℕ → ℕ → Bool
has_bit bits n = eqb (get_or bits (n / 64) 0 / 2 ^ (n % 64) % 2) 1

-- `note`: whether the number was in the set; it is in it afterwards, with all that were
pub record Notes (bits : List ℕ) (n : ℕ) (after : List ℕ) (taken : Bool) : Type 0 where
  pub was : taken ≡ has_bit bits n
  pub there : has_bit after n ≡ true
  pub kept : (m : ℕ) → has_bit bits m ≡ true → has_bit after m ≡ true

-- the set has the place of each key of a share before entry i
pub record HasPlaces (width group name : ℕ) (w : List ℕ) (shares share i : ℕ) (bits : List ℕ) : Type 0 where
  pub place : (j : ℕ) → j < i → share_at width group name w shares j ≡ share → has_bit bits (place_at width group name w j) ≡ true

-- `entry_differs`
pub record Looked (width group name : ℕ) (w : List ℕ) (shares share i : ℕ) (after : List ℕ) (answer : Bool) : Type 0 where
  pub fresh : answer ≡ fresh_in width group name w shares share i
  pub places : HasPlaces width group name w shares share (suc i) after
