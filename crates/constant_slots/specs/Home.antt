-- 2026-12: the home slot of a constant among n slots, from which it is looked for and put. 'In n slots, n non-negative integers in a row have different
-- home slots' is `row_of_homes` of proofs/Homes.antt, and `row_of_floats` says it of floats that are round; what else is asked of it is that pools as they are
-- written do not crowd (docs/DECISIONS.md, 89, 90 and 121)
use Rattle.std.specs.Prelude.{ℕ, ◌+◌, ◌-◌, ◌*◌, ◌/◌, ◌%◌, ◌^◌, cond, eqb}
use Rattle.std.specs.Int.Count.{count_leading_zeros}
use Rattle.words.specs.Object.{Constant, float_kind}

-- the primes of a float's home: the first from 3162277660 and from 2718281828 on, and the last below 2^32
abbrev pub first_prime : ℕ
first_prime = 3162277669

abbrev pub second_prime : ℕ
second_prime = 2718281831

abbrev pub last_prime : ℕ
last_prime = 4294967291

-- a float's 64 bits, as if by chance: floats that are close to each other differ in few bits, so the product of two remainders is taken
abbrev pub folded : ℕ → ℕ
folded bits = bits % first_prime * (bits % second_prime) % last_prime

-- among n slots a float is round whose bits end with so many zeros: ten fewer than n begins with, as a word, for n below 2^54. Then there are, from a power
-- of two to the next, between a quarter and half as many round floats as slots
abbrev pub round_zeros : ℕ → ℕ
round_zeros n = (count_leading_zeros 64 n + 54) % 64

abbrev pub grain : ℕ → ℕ
grain n = 2 ^ round_zeros n

-- round floats are numbered in a row, the others are folded
abbrev pub float_value : ℕ → ℕ → ℕ
float_value n bits = cond (eqb (bits / grain n * grain n) bits) (bits / grain n) (folded bits)

-- the slots that floats are spread over, the greatest odd number of the n: powers of two are a power of two apart in the row
abbrev pub float_slots : ℕ → ℕ
float_slots n = (n - 1) / 2 * 2 + 1

-- what is spread: numbers and texts as they are, since they are mostly small and close to each other
abbrev pub spread_value : ℕ → Constant → ℕ
spread_value n c = cond (eqb c.kind float_kind) (float_value n c.value % float_slots n) (c.value % n)

-- how far apart the homes of neighbours are: a prime that does not divide n, so that a row leaves empty slots between its own, and what falls into it finds
-- one near
abbrev pub stride : ℕ → ℕ
stride n = cond (eqb (n % 13) 0) (cond (eqb (n % 11) 0) (cond (eqb (n % 7) 0) (cond (eqb (n % 5) 0) (cond (eqb (n % 3) 0) 1 3) 5) 7) 11) 13

-- the home slot of a constant among n slots, n above 0. Each kind begins elsewhere
unfoldable pub home : ℕ → Constant → ℕ
home n c = (spread_value n c * stride n + c.kind % 8 * (n / 8)) % n
