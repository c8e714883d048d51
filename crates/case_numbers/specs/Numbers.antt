-- The numbers of a text: each is a run of digits, in base ten, and every other byte stands between numbers. A number past 64 bits is read as the
-- greatest word
use Rattle.std.specs.Prelude.{ℕ, ◌+◌, ◌-◌, ◌*◌, min, ◌≡◌, Bool, true, false, ◌&&◌, List, [], ◌∷◌, length, leb}

abbrev pub greatest : ℕ
greatest = 18446744073709551615

abbrev pub zero_digit : ℕ
zero_digit = 48

abbrev pub is_digit : ℕ → Bool
is_digit b = leb zero_digit b && leb b 57

-- a number with one digit more
abbrev pub longer_by : ℕ → ℕ → ℕ
longer_by n digit = min (n * 10 + digit) greatest

-- numbers behind the one that has begun, where one has
abbrev pub ended : Bool → ℕ → List ℕ → List ℕ
ended true n ns = n ∷ ns
ended false n ns = ns

-- the numbers from a byte on: `begun` says whether a number has begun before it, `n` which, and `rest` gives the numbers of the bytes behind it
abbrev pub numbers_at : (digit begun : Bool) → ℕ → ℕ → (Bool → ℕ → List ℕ) → List ℕ
numbers_at true begun n b rest = rest true (longer_by n (b - zero_digit))
numbers_at false begun n b rest = ended begun n (rest false 0)

unfoldable pub numbers_from : Bool → ℕ → List ℕ → List ℕ
numbers_from begun n [] = ended begun n []
numbers_from begun n (b ∷ bs) = numbers_at (is_digit b) begun n b (λ begun' n'. numbers_from begun' n' bs)

abbrev pub numbers_in : List ℕ → List ℕ
numbers_in text = numbers_from false 0 text

-- numbers over words, from the first on, as far as both reach
unfoldable pub overwritten : List ℕ → List ℕ → List ℕ
overwritten [] words = words
overwritten (n ∷ ns) [] = []
overwritten (n ∷ ns) (w ∷ ws) = n ∷ overwritten ns ws

-- what `parse` leaves of a text and of the words lent, and its answer
pub record Parsed (text before after : List ℕ) (r : ℕ) : Type 0 where
  pub words : after ≡ overwritten (numbers_in text) before
  pub count : r ≡ min (length (numbers_in text)) (length before)
