-- 2026-12, 'A quicker constant search': a table of slots over the pool. A slot holds 0, or a constant's number and one
use Rattle.std.specs.Prelude.{ℕ, zero, suc, ◌+◌, ◌-◌, ◌^◌, Bool, cond, false, List, [], ◌∷◌, length, get_or, set, replicate, eqb, ltb, leb}
use Rattle.std.proofs.Math.Option.{Option, none, some}
use Rattle.words.specs.Object.{Constant}
use Rattle.constant_slots.specs.Home.{home}
use Rattle.constant_slots.specs.Plain.{is_constant, find_plain, found_of}
use Rattle.constant_slots.specs.declared.slots.Looked.{Looked}

-- the slot after slot p of n: 'round the end'
abbrev pub after : ℕ → ℕ → ℕ
after n p = cond (ltb (p + 1) n) (p + 1) 0

-- the first empty slot of k from slot p on; n where there is none
unfoldable pub first_empty : ℕ → ℕ → List ℕ → ℕ → ℕ
first_empty zero n slots p = n
first_empty (suc k) n slots p = cond (eqb (get_or slots p 0) 0) p (first_empty k n slots (after n p))

-- constant number i 'takes the first empty slot from its home slot on'; none where all are taken
unfoldable pub put_slot : List ℕ → ℕ → Constant → List ℕ
put_slot slots i c = set slots (first_empty (length slots) (length slots) slots (home (length slots) c)) (i + 1)

-- the same of any number that is a word: 2^64 - 1 and one is none, so it takes no slot
abbrev pub put_number : List ℕ → ℕ → Constant → List ℕ
put_number slots i c = cond (ltb i (2 ^ 64 - 1)) (put_slot slots i c) slots

-- the constants of a list in order, repeats too, numbered from i
unfoldable pub fill : ℕ → List Constant → List ℕ → List ℕ
fill i [] slots = slots
fill i (c ∷ cs) slots = fill (i + 1) cs (put_slot slots i c)

-- n slots 'filled anew'
abbrev pub slots_of : ℕ → List Constant → List ℕ
slots_of n cs = fill 0 cs (replicate n 0)

-- what a search answers: the constant's number, and how many slots it looked at
pub record Search : Type 0 where
  pub found : Option ℕ
  pub looked : ℕ

abbrev pub searched : Option ℕ → ℕ → Search
searched o m = record { found = o; looked = m }

-- 'how many slots it looked at, from the constant's home slot to the first empty or with it': at most k slots from slot p on, m were looked at before.
-- `is` says whether the constant of a number is the one looked for
unfoldable pub look : (ℕ → Bool) → ℕ → ℕ → List ℕ → ℕ → ℕ → Search
look is zero n slots p m = searched none m
look is (suc k) n slots p m =
    cond (eqb (get_or slots p 0) 0) (searched none (m + 1))
    (cond (is (get_or slots p 0 - 1)) (searched (some (get_or slots p 0 - 1)) (m + 1)) (look is k n slots (after n p) (m + 1)))

-- a number that is in the pool and has the constant: a slot that names no entry is passed
abbrev pub is_in_pool : ℕ → Constant → List ℕ → ℕ → Bool
is_in_pool count c w i = cond (ltb i count) (is_constant c w i) false

-- 'A slot table with no more slots than the pool has entries, and no other, falls back to the plain search': then 0 slots are looked at
abbrev pub search_slots : ℕ → Constant → List ℕ → List ℕ → Search
search_slots count c w slots =
    cond (leb (length slots) count) (searched (find_plain count c w) 0)
    (look (is_in_pool count c w) (length slots) (length slots) slots (home (length slots) c) 0)

-- how the code answers
abbrev pub looked_of : Search → Looked
looked_of s = record { found = found_of s.found; looked = s.looked }
