-- Sets of file numbers in words: one bit for each number, 64 to a word
-- Private contracts alone cite this file: whoever reads the promises need not believe it
use Rattle.std.specs.Prelude.{ℕ, ◌+◌, ◌/◌, ◌%◌, ◌^◌, ◌≤◌, ◌<◌, ◌≡◌, Bool, true, false, cond, not, List, [], ◌∷◌, get_or, set, eqb}
use Rattle.std.specs.Int.Bits.{bit_or}
use Rattle.definition.specs.Book.{has_text}

-- numbers in sets are below this: file numbers are texts, 1 to 1,048,575 (01, 'The tree')
abbrev pub set_size : ℕ
set_size = 1048576

-- a set of 64 words has a bit for every number below this
abbrev pub narrow_size : ℕ
narrow_size = 4096

-- `has`
unfoldable pub bit_of : List ℕ → ℕ → Bool
bit_of bits n = eqb (get_or bits (n / 64) 0 / 2 ^ (n % 64) % 2) 1

unfoldable pub add_bit : List ℕ → ℕ → List ℕ
add_bit bits n = cond (bit_of bits n) bits (set bits (n / 64) (bit_or (get_or bits (n / 64) 0) (2 ^ (n % 64))))

-- `add`: what it does, and answers: whether the number is new
pub record Added (bits : List ℕ) (n : ℕ) (after : List ℕ) (fresh : Bool) : Type 0 where
  pub words : after ≡ add_bit bits n
  pub is_new : fresh ≡ not (bit_of bits n)

-- words hold the set of a list's numbers; a number past the words is not in it
pub record SetIs (bits l : List ℕ) : Type 0 where
  pub has : (n : ℕ) → n < set_size → bit_of bits n ≡ has_text n l

-- `zeros_end`: the words from a place up to another are 0
pub record Zeros (bits : List ℕ) (at r : ℕ) : Type 0 where
  pub zero_word : (i : ℕ) → at ≤ i → i < r → get_or bits i 0 ≡ 0

-- `after`: a number further on, with none of the set between
pub record NoneBetween (bits : List ℕ) (n r : ℕ) : Type 0 where
  pub on : n < r
  pub last : r ≤ set_size
  pub between : (m : ℕ) → n < m → m < r → bit_of bits m ≡ false

-- `next_in`: the first number from a place on that is in the set, else `set_size`
pub record NextIn (bits : List ℕ) (from r : ℕ) : Type 0 where
  pub on : from ≤ r
  pub last : r ≤ set_size
  pub between : (n : ℕ) → from ≤ n → n < r → bit_of bits n ≡ false
  pub here : r < set_size → bit_of bits r ≡ true

-- numbers below a size
abbrev pub Below : ℕ → List ℕ → Type 0
Below size [] = Unit {0}
Below size (n ∷ ns) = (n < size) × Below size ns

-- numbers that ascend from one on, without repeats
abbrev pub Ascends : ℕ → List ℕ → Type 0
Ascends k [] = Unit {0}
Ascends k (x ∷ xs) = (k ≤ x) × Ascends (x + 1) xs

-- `add_absent`: a number into a set, where the set of the books that stand does not have it; and whether it is new
abbrev pub add_absent : List ℕ → List ℕ → ℕ → List ℕ
add_absent standing bits n = cond (bit_of standing n) bits (add_bit bits n)

pub record AddedAbsent (standing bits : List ℕ) (n : ℕ) (after : List ℕ) (fresh : Bool) : Type 0 where
  pub words : after ≡ add_absent standing bits n
  pub is_new : fresh ≡ cond (bit_of standing n) false (not (bit_of bits n))

-- numbers into a set, one after the other, but for those that stand
abbrev pub add_bits : List ℕ → List ℕ → List ℕ → List ℕ
add_bits standing bits [] = bits
add_bits standing bits (n ∷ ns) = add_bits standing (add_absent standing bits n) ns

-- whether numbers are all in a set
abbrev pub all_bits : List ℕ → List ℕ → Bool
all_bits bits [] = true
all_bits bits (n ∷ ns) = cond (bit_of bits n) (all_bits bits ns) false

-- or stand
abbrev pub all_known : List ℕ → List ℕ → List ℕ → Bool
all_known standing bits [] = true
all_known standing bits (n ∷ ns) = cond (cond (bit_of standing n) true (bit_of bits n)) (all_known standing bits ns) false
