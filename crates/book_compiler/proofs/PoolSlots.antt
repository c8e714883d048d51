-- The constants' pool as a list, and its table of slots: an entry more is a constant more at the end, a mark changes no constant, and the search through a
-- table that filling anew gives is the search of `building`. By the words of the entries. Assumes nothing.
use Rattle.std.proofs.Common.{◌≡◌, ℕ, zero, suc, ◌+◌, ◌*◌, ◌<◌, ◌≤◌, Bool, true, false, cond, eqb, ltb, ◌≢◌, List, [], ◌∷◌, ◌++◌, length, get_or, take, drop}
use Rattle.std.proofs.Common.{set, sym, refl, ap, ◌∙◌, arith, length-take-le, get_or-set_other, get_or-take, get_or-append-add, ltb-true, lt-ltb}
use lib.ListN.{get_or-append}
use Rattle.words.specs.Areas.{entries_in, entry_field, set_entry, word_fits}
use Rattle.words.specs.Object.{Constant, constant_of}
use Rattle.words.proofs.Entries.{field_in}
use Rattle.constant_slots.specs.Plain.{constant_at, constants_from, pool_of}
use Rattle.constant_slots.specs.Slots.{slots_of, search_slots, put_slot, put_number}
use Rattle.constant_slots.proofs.Filling.{slots_grow, pool_grows, pool_length}
use Rattle.constant_slots.proofs.Agree.{slots_agree}
use Rattle.building.specs.declared.function_state.FunctionState.{FunctionState}
use Rattle.building.specs.Found.{find_constant_c}
use Rattle.building.specs.Found as building
use Rattle.constant_slots.specs.Plain as plain
use Rattle.building.specs.Taking.{taken}
use Rattle.building.specs.Pool.{add_no_check_c, mark_global_c}
use Rattle.building.proofs.Filling.{room_fits}
use Rattle.book_compiler.specs.Leaves.{mark_unmarked_c}

-- the plain search of `constant_slots` is that of `building`: both are the one of `words`
first_same : (test : ℕ → Bool) (k i : ℕ) → plain.first_from test k i ≡ building.first_from test k i
first_same test k i = refl

-- the search through a table so filled
pub search_same : (n count : ℕ) (c : Constant) (w slots : List ℕ) → slots ≡ slots_of n (pool_of count w)
    → (search_slots count c w slots).found ≡ find_constant_c count c w
search_same n count c w slots q =
    ap (λ (t : List ℕ). (search_slots count c w t).found) q ∙ slots_agree n count w c

-- the pool by its constants
pool_alike : (k i : ℕ) (w v : List ℕ) → ((j : ℕ) → j < i + k → constant_at v j ≡ constant_at w j) → constants_from k i v ≡ constants_from k i w
unfolding constants_from
pool_alike zero i w v f = refl
pool_alike (suc k) i w v f = rw (f i (omega arith), pool_alike k (i + 1) w v (λ j h. f j (omega arith))) refl

constant_alike : (w v : List ℕ) (j : ℕ) → get_or v (j * 3 + 0) 0 ≡ get_or w (j * 3 + 0) 0 → get_or v (j * 3 + 1) 0 ≡ get_or w (j * 3 + 1) 0
    → constant_at v j ≡ constant_at w j
constant_alike w v j a b =
    let x : entry_field 3 j 0 v ≡ entry_field 3 j 0 w = sym (field_in v 3 j 0 (omega arith) (omega arith)) ∙ a ∙ field_in w 3 j 0 (omega arith) (omega arith) in
    let y : entry_field 3 j 1 v ≡ entry_field 3 j 1 w = sym (field_in v 3 j 1 (omega arith) (omega arith)) ∙ b ∙ field_in w 3 j 1 (omega arith) (omega arith) in
    ap (λ (k : ℕ). constant_of k (entry_field 3 j 1 v)) x ∙ ap (λ (k : ℕ). constant_of (entry_field 3 j 0 w) k) y

-- an entry more
module _ (n kind value : ℕ) (w : List ℕ) (room : n < entries_in 3 (length w)) where
  new : List ℕ
  new = set_entry 3 n (kind ∷ value ∷ 0 ∷ []) w

  front : length (take (n * 3) w) ≡ n * 3
  front = length-take-le (n * 3) w (omega (arith, room_fits 3 n (length w) room))

  before : (p : ℕ) → p < n * 3 → get_or new p 0 ≡ get_or w p 0
  unfolding new
  before p h =
      get_or-append (take (n * 3) w) ((kind ∷ value ∷ 0 ∷ []) ++ drop (n * 3 + 3) w) 0 p (omega (arith, front)) ∙ get_or-take (n * 3) w p 0 h

  here : (k : ℕ) → get_or new (n * 3 + k) 0 ≡ get_or ((kind ∷ value ∷ 0 ∷ []) ++ drop (n * 3 + 3) w) k 0
  unfolding new
  here k = ap (λ (p : ℕ). get_or new (p + k) 0) (sym front) ∙ get_or-append-add (take (n * 3) w) ((kind ∷ value ∷ 0 ∷ []) ++ drop (n * 3 + 3) w) k 0

  last : constant_at new n ≡ constant_of kind value
  last =
      let x : entry_field 3 n 0 new ≡ kind = sym (field_in new 3 n 0 (omega arith) (omega arith)) ∙ here 0 in
      let y : entry_field 3 n 1 new ≡ value = sym (field_in new 3 n 1 (omega arith) (omega arith)) ∙ here 1 in
      ap (λ (k : ℕ). constant_of k (entry_field 3 n 1 new)) x ∙ ap (λ (k : ℕ). constant_of kind k) y

  pub pool_more : pool_of (n + 1) (set_entry 3 n (kind ∷ value ∷ 0 ∷ []) w) ≡ pool_of n w ++ (constant_of kind value ∷ [])
  unfolding new
  pool_more =
      pool_grows n new
      ∙ ap (λ (l : List Constant). l ++ (constant_at new n ∷ []))
      (pool_alike n 0 w new (λ j h. constant_alike w new j (before (j * 3 + 0) (omega arith)) (before (j * 3 + 1) (omega arith))))
      ∙ ap (λ (c : Constant). pool_of n w ++ (c ∷ [])) last

  -- and its slot
  pub slots_more : (size : ℕ) {slots after : List ℕ} → slots ≡ slots_of size (pool_of n w) → after ≡ put_number slots n (constant_of kind value)
      → after ≡ slots_of size (pool_of (n + 1) (set_entry 3 n (kind ∷ value ∷ 0 ∷ []) w))
  slots_more size {slots} {after} q p =
      let small : n < 18446744073709551615 = omega arith in
      let put : put_number slots n (constant_of kind value) ≡ put_slot slots n (constant_of kind value) = rw (lt-ltb n 18446744073709551615 small) refl in
      p ∙ put ∙ ap (λ (t : List ℕ). put_slot t n (constant_of kind value)) q
      ∙ ap (λ (k : ℕ). put_slot (slots_of size (pool_of n w)) k (constant_of kind value)) (sym (pool_length n 0 w))
      ∙ sym (slots_grow size (pool_of n w) (constant_of kind value)) ∙ ap (slots_of size) (sym pool_more)

-- `add_constant_no_check`: the count goes up by an entry more, or count and words stay
pub record MoreConstants (kind value n : ℕ) (w : List ℕ) (count : ℕ) (after : List ℕ) : Type 0 where
  pub room : n < entries_in 3 (length w)
  pub counted : count ≡ n + 1
  pub words : after ≡ set_entry 3 n (kind ∷ value ∷ 0 ∷ []) w

pub record SameConstants (n : ℕ) (w : List ℕ) (count : ℕ) (after : List ℕ) : Type 0 where
  pub counted : count ≡ n
  pub words : after ≡ w

module _ (kind value : ℕ) (s : FunctionState) (w : List ℕ) where
  pub more_constants : s.constants < (add_no_check_c kind value s w).state.constants
      → MoreConstants kind value s.constants w (add_no_check_c kind value s w).state.constants (add_no_check_c kind value s w).constants
  more_constants = go (eqb s.full 0) (ltb s.constants (entries_in 3 (length w))) refl
    where
      n : ℕ
      n = s.constants

      go : (a b : Bool) → ltb n (entries_in 3 (length w)) ≡ b
          → n < (cond a (cond b (taken s.full (n + 1)) (taken 2 n)) (taken s.full n)).count
          → MoreConstants kind value n w (cond a (cond b (taken s.full (n + 1)) (taken 2 n)) (taken s.full n)).count
          (cond a (cond b (set_entry 3 n (kind ∷ value ∷ 0 ∷ []) w) w) w)
      go true true q h = record { room = ltb-true n (entries_in 3 (length w)) q; counted = refl; words = refl }
      go true false q h = absurd (omega arith)
      go false b q h = absurd (omega arith)

  pub same_constants : (add_no_check_c kind value s w).state.constants ≤ s.constants
      → SameConstants s.constants w (add_no_check_c kind value s w).state.constants (add_no_check_c kind value s w).constants
  same_constants = go (eqb s.full 0) (ltb s.constants (entries_in 3 (length w)))
    where
      n : ℕ
      n = s.constants

      go : (a b : Bool) → (cond a (cond b (taken s.full (n + 1)) (taken 2 n)) (taken s.full n)).count ≤ n
          → SameConstants n w (cond a (cond b (taken s.full (n + 1)) (taken 2 n)) (taken s.full n)).count
          (cond a (cond b (set_entry 3 n (kind ∷ value ∷ 0 ∷ []) w) w) w)
      go true true h = absurd (omega arith)
      go true false h = record { counted = refl; words = refl }
      go false b h = record { counted = refl; words = refl }

-- `mark_global`: third words alone
mark_apart : (i j k : ℕ) → k < 2 → j * 3 + k ≢ i * 3 + 2
mark_apart i j k h e = omega arith

pub pool_marked : (n i : ℕ) (s : FunctionState) (w : List ℕ) → pool_of n (mark_unmarked_c i s w) ≡ pool_of n w
unfolding mark_global_c entry_field
pool_marked n i s w = go (eqb (entry_field 3 i 2 w) 0) (eqb s.full 0) (ltb i s.constants) (word_fits 3 i 2 (length w))
  where
    go : (u a b c : Bool) → pool_of n (cond u (cond a (cond b (cond c (set w (i * 3 + 2) 1) w) w) w) w) ≡ pool_of n w
    go false a b c = refl
    go true true true true = pool_alike n 0 w (set w (i * 3 + 2) 1) (λ j h. constant_alike w (set w (i * 3 + 2) 1) j
        (get_or-set_other w (i * 3 + 2) (j * 3 + 0) 1 0 (mark_apart i j 0 (omega arith)))
        (get_or-set_other w (i * 3 + 2) (j * 3 + 1) 1 0 (mark_apart i j 1 (omega arith))))
    go true true true false = refl
    go true true false c = refl
    go true false b c = refl
