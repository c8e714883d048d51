-- What area 2 says, whatever is noted of its marks: nothing but the marks differs, so that constants are found and added as in the plain area; a mark set where
-- none is is a mark set there; and what is noted or settled says the same. By the words of each entry. Assumes nothing.
use Prim.Native.Nat.{ℕ, zero, suc, ◌+◌, ◌*◌, ◌%◌, ◌≤◌, ◌<◌}
use native.Mathlib.Omega.{arith}
use native.Mathlib.Decide.{dec_le, ℕ_discrete}
use mathlib.Core.Path.{◌≡◌, refl, sym, ap, ◌∙◌}
use mathlib.Core.Bool.{Bool, true, false, cond}
use mathlib.Core.Option.{Option, none, some}
use mathlib.Core.List.{List, [], ◌∷◌}
use lib.ListN.{length, get_or, set, replicate, get_or-eq_default}
use lib.Seq.{get_or-set_same, get_or-set_other, set-get_or}
use lib.Dec.{eqb, ltb}
use borrow.Author.Tests.{eqb-true, eqb-false, ne_eqb, ltb-true, ltb-false}
use Rattle.words.specs.Areas.{constants_area, entry_word, entry_field, write_word}
use Rattle.words.specs.Object.{Constant, constant_of, is_shared}
use Rattle.building.specs.declared.function_state.FunctionState.{FunctionState}
use Rattle.building.specs.State.{with_constants}
use Rattle.building.specs.Taking.{taken_of, took_words}
use Rattle.building.specs.Found.{first_from, is_constant, find_constant_c}
use Rattle.building.specs.Pool.{pooling, add_no_check_c, add_by, add_constant_c, mark_global_c}
use Rattle.constant_slots.specs.Plain.{constants_from, pool_of}
use Rattle.undo.specs.Notes.{Words, words, plain_mark, plain_marks, noted_mark, noted_marks, settled_mark, settled_marks}
use Rattle.undo.specs.Stood.{kept_of, Spares}
use Rattle.undo.specs.Turns.{words_at, made}
use Rattle.undo.proofs.EntriesAnew.{anew_length, anew_at, word_zero, anew_beyond, anew_is, anew_took, anew_write, Aside}

pub plain_marks_length : (l : List ℕ) → length (plain_marks l) ≡ length l
unfolding plain_marks
plain_marks_length l = anew_length plain_mark 0 l

-- an entry more
pub plain_marks_took : (full count kind value : ℕ) (l : List ℕ)
    → plain_marks (took_words full count (kind ∷ value ∷ 0 ∷ []) l) ≡ took_words full count (kind ∷ value ∷ 0 ∷ []) (plain_marks l)
unfolding plain_marks
plain_marks_took full count kind value l = anew_took plain_mark full count kind value 0 l (λ z. refl)

-- the words beside the mark
pub plain_marks_kind : (i : ℕ) (l : List ℕ) → entry_field 3 i 0 (plain_marks l) ≡ entry_field 3 i 0 l
unfolding entry_field plain_marks
plain_marks_kind i l = go (dec_le (i * 3 + 3) (length l))
  where
    go : Dec (i * 3 + 3 ≤ length l) → entry_word 3 i 0 (plain_marks l) ≡ entry_word 3 i 0 l
    go (yes h) = ap (λ (x : Words). x.first) (anew_at plain_mark l i h)
    go (no h) = anew_beyond plain_mark 0 l i 0 (omega arith)

pub plain_marks_value : (i : ℕ) (l : List ℕ) → entry_field 3 i 1 (plain_marks l) ≡ entry_field 3 i 1 l
unfolding entry_field plain_marks
plain_marks_value i l = go (dec_le (i * 3 + 3) (length l))
  where
    go : Dec (i * 3 + 3 ≤ length l) → entry_word 3 i 1 (plain_marks l) ≡ entry_word 3 i 1 l
    go (yes h) = ap (λ (x : Words). x.second) (anew_at plain_mark l i h)
    go (no h) = anew_beyond plain_mark 0 l i 1 (omega arith)

-- the mark
pub plain_marks_third : (i : ℕ) (l : List ℕ) → entry_field 3 i 2 (plain_marks l) ≡ cond (eqb (entry_field 3 i 2 l) 0) 0 1
unfolding entry_field plain_marks
plain_marks_third i l = go (dec_le (i * 3 + 3) (length l))
  where
    go : Dec (i * 3 + 3 ≤ length l) → entry_word 3 i 2 (plain_marks l) ≡ cond (eqb (entry_word 3 i 2 l) 0) 0 1
    go (yes h) = ap (λ (x : Words). x.third) (anew_at plain_mark l i h)
    go (no h) = anew_beyond plain_mark 0 l i 2 (omega arith) ∙ rw (get_or-eq_default l 0 {n = i * 3 + 2} (omega arith))

-- the pool
pool_from : (k i : ℕ) (l : List ℕ) → constants_from k i (plain_marks l) ≡ constants_from k i l
unfolding constants_from plain_marks
pool_from zero i l = refl
pool_from (suc k) i l = rw (plain_marks_kind i l, plain_marks_value i l, pool_from k (i + 1) l)

pub plain_marks_pool : (n : ℕ) (l : List ℕ) → pool_of n (plain_marks l) ≡ pool_of n l
unfolding plain_marks
plain_marks_pool n l = pool_from n 0 l

same_first : (test other : ℕ → Bool) (k i : ℕ) → ((j : ℕ) → test j ≡ other j) → first_from test k i ≡ first_from other k i
unfolding first_from
same_first test other zero i each = refl
same_first test other (suc k) i each = rw (each i, same_first test other k (i + 1) each)

pub plain_marks_found : (n : ℕ) (c : Constant) (l : List ℕ) → find_constant_c n c (plain_marks l) ≡ find_constant_c n c l
unfolding plain_marks
plain_marks_found n c l =
    same_first (is_constant c (plain_marks l)) (is_constant c l) n 0 (λ j. rw (plain_marks_kind j l, plain_marks_value j l))

-- a constant more
pub add_no_check_plain : (kind value : ℕ) (s : FunctionState) (l : List ℕ)
    → pooling (add_no_check_c kind value s l).index (add_no_check_c kind value s l).state (plain_marks (add_no_check_c kind value s l).constants)
    ≡ add_no_check_c kind value s (plain_marks l)
unfolding plain_marks
add_no_check_plain kind value s l =
    ap (λ (w : List ℕ). pooling s.constants (with_constants (taken_of constants_area 3 s.full s.constants (length l)) s) w)
    (plain_marks_took s.full s.constants kind value l)
    ∙ ap (λ (n : ℕ). pooling s.constants (with_constants (taken_of constants_area 3 s.full s.constants n) s)
    (took_words s.full s.constants (kind ∷ value ∷ 0 ∷ []) (plain_marks l))) (sym (plain_marks_length l))

pub add_plain : (kind value : ℕ) (s : FunctionState) (l : List ℕ)
    → pooling (add_constant_c kind value s l).index (add_constant_c kind value s l).state (plain_marks (add_constant_c kind value s l).constants)
    ≡ add_constant_c kind value s (plain_marks l)
unfolding add_constant_c plain_marks
add_plain kind value s l =
    rw (plain_marks_found s.constants (constant_of kind value) l)
    (go (eqb s.full 0) (is_shared kind) (find_constant_c s.constants (constant_of kind value) l))
  where
    by : (o : Option ℕ)
        → pooling (add_by o kind value s l).index (add_by o kind value s l).state (plain_marks (add_by o kind value s l).constants)
        ≡ add_by o kind value s (plain_marks l)
    by (some i) = refl
    by none = add_no_check_plain kind value s l

    go : (x y : Bool) (o : Option ℕ)
        → pooling (cond x (cond y (add_by o kind value s l) (add_no_check_c kind value s l)) (pooling 0 s l)).index
        (cond x (cond y (add_by o kind value s l) (add_no_check_c kind value s l)) (pooling 0 s l)).state
        (plain_marks (cond x (cond y (add_by o kind value s l) (add_no_check_c kind value s l)) (pooling 0 s l)).constants)
        ≡ cond x (cond y (add_by o kind value s (plain_marks l)) (add_no_check_c kind value s (plain_marks l))) (pooling 0 s (plain_marks l))
    go true true o = by o
    go true false o = add_no_check_plain kind value s l
    go false y o = refl

-- a mark set
mark_aside : Aside plain_mark
mark_aside = record { first = λ i a b c d. refl; second = λ i a b c d. refl }

mark_stands : (i : ℕ) (l : List ℕ) → (entry_word 3 i 2 l ≡ 0 → ⊥) → plain_marks l ≡ write_word 3 i 2 1 (plain_marks l)
unfolding plain_marks
mark_stands i l h = rw (plain_marks_length l) (go (ltb (i * 3 + 2) (length l)) refl)
  where
    go : (x : Bool) → ltb (i * 3 + 2) (length l) ≡ x → plain_marks l ≡ cond x (set (plain_marks l) (i * 3 + 2) 1) (plain_marks l)
    go true q =
        let inside : i * 3 + 2 < length l = ltb-true (i * 3 + 2) (length l) q in
        let mark : entry_word 3 i 2 (plain_marks l) ≡ 1 =
        ap (λ (x : Words). x.third) (anew_at plain_mark l i (omega arith)) ∙ rw (ne_eqb (entry_word 3 i 2 l) 0 h) in
        sym (set-get_or (plain_marks l) (i * 3 + 2) 0) ∙ ap (λ (v : ℕ). set (plain_marks l) (i * 3 + 2) v) mark
    go false q = refl

pub plain_marks_mark : (i : ℕ) (s : FunctionState) (l : List ℕ)
    → plain_marks (cond (eqb (entry_field 3 i 2 l) 0) (mark_global_c i s l) l) ≡ mark_global_c i s (plain_marks l)
unfolding mark_global_c entry_field plain_marks
plain_marks_mark i s l = go (eqb (entry_word 3 i 2 l) 0) refl (eqb s.full 0) (ltb i s.constants)
  where
    go : (x : Bool) → eqb (entry_word 3 i 2 l) 0 ≡ x → (y z : Bool)
        → plain_marks (cond x (cond y (cond z (write_word 3 i 2 1 l) l) l) l) ≡ cond y (cond z (write_word 3 i 2 1 (plain_marks l)) (plain_marks l))
        (plain_marks l)
    go true p true true = anew_write plain_mark mark_aside i 1 1 l (λ h. refl)
    go true p true false = refl
    go true p false z = refl
    go false p true true = mark_stands i l (eqb-false (entry_word 3 i 2 l) 0 p)
    go false p true false = refl
    go false p false z = refl

-- what stood stays: neither 0 nor 1 is the note
pub marks_spare : (i : ℕ) (s : FunctionState) (full below : ℕ) (l : List ℕ)
    → Spares constants_area full below l (cond (eqb (entry_field 3 i 2 l) 0) (mark_global_c i s l) l)
unfolding mark_global_c entry_field
marks_spare i s full below l = record { kept = λ k h. go k (eqb (entry_word 3 i 2 l) 0) refl (eqb s.full 0) (ltb i s.constants) }
  where
    place : (k : ℕ) → entry_word 3 i 2 l ≡ 0 → i * 3 + 2 < length l → Dec (k ≡ i * 3 + 2)
        → kept_of constants_area k (get_or (set l (i * 3 + 2) 1) k 0) ≡ kept_of constants_area k (get_or l k 0)
    place k z h (yes e) =
        let third : (i * 3 + 2) % 3 ≡ 2 = omega arith in
        rw (e, third, get_or-set_same l (i * 3 + 2) 1 0 h, z)
    place k z h (no e) = rw (get_or-set_other l (i * 3 + 2) k 1 0 e)

    written : (k : ℕ) → entry_word 3 i 2 l ≡ 0 → (x : Bool) → ltb (i * 3 + 2) (length l) ≡ x
        → kept_of constants_area k (get_or (cond x (set l (i * 3 + 2) 1) l) k 0) ≡ kept_of constants_area k (get_or l k 0)
    written k z true q = place k z (ltb-true (i * 3 + 2) (length l) q) (ℕ_discrete k (i * 3 + 2))
    written k z false q = refl

    go : (k : ℕ) (x : Bool) → eqb (entry_word 3 i 2 l) 0 ≡ x → (y z : Bool)
        → kept_of constants_area k (get_or (cond x (cond y (cond z (write_word 3 i 2 1 l) l) l) l) k 0) ≡ kept_of constants_area k (get_or l k 0)
    go k true p true true = written k (eqb-true (entry_word 3 i 2 l) 0 p) (ltb (i * 3 + 2) (length l)) refl
    go k true p true false = refl
    go k true p false z = refl
    go k false p y z = refl

-- settled marks say what the area says, where nothing is marked behind them
pub settled_plain : (n : ℕ) (l : List ℕ) → ((k : ℕ) → n * 3 ≤ k → get_or (plain_marks l) k 0 ≡ 0) → settled_marks n l ≡ plain_marks l
unfolding plain_marks
settled_plain n l zeros =
    anew_is (settled_mark n) l (plain_marks l) (sym (plain_marks_length l)) (λ j h. whole j h (ltb j n) refl)
    (λ j r h. sym (anew_beyond plain_mark 0 l j r h))
  where
    mark : (c : ℕ) (x : Bool) → eqb c 0 ≡ x → ◌≡◌ {A = ℕ} (cond x 0 1) 0 → c ≡ cond x 0 1
    mark c true p e = eqb-true c 0 p
    mark c false p e = absurd (omega arith)

    whole : (j : ℕ) → j * 3 + 3 ≤ length l → (x : Bool) → ltb j n ≡ x → made (settled_mark n) j (words_at j l) ≡ words_at j (plain_marks l)
    whole j h true p = rw p (sym (anew_at plain_mark l j h))
    whole j h false p =
        let behind : n ≤ j = ltb-false j n p in
        let there : words_at j (plain_marks l) ≡ made plain_mark j (words_at j l) = anew_at plain_mark l j h in
        let none : ◌≡◌ {A = ℕ} (cond (eqb (entry_word 3 j 2 l) 0) 0 1) 0 = sym (ap (λ (x : Words). x.third) there) ∙ zeros (j * 3 + 2) (omega arith) in
        rw p (ap (λ (c : ℕ). words (entry_word 3 j 0 l) (entry_word 3 j 1 l) c) (mark (entry_word 3 j 2 l) (eqb (entry_word 3 j 2 l) 0) refl none) ∙ sym there)

-- noted marks say what the area said
pub noted_plain : (n : ℕ) (l : List ℕ) → ((i : ℕ) → entry_word 3 i 2 l < 2) → plain_marks (noted_marks n l) ≡ l
unfolding plain_marks
noted_plain n l marks =
    let long : length (noted_marks n l) ≡ length l = anew_length (noted_mark n) 0 l in
    anew_is plain_mark (noted_marks n l) l long (λ j h. whole j (omega arith)) (λ j r h. anew_beyond (noted_mark n) 0 l j r (omega arith))
  where
    mark : (c : ℕ) → c < 2 → (x : Bool) → cond (eqb (cond x (cond (eqb c 1) 2 c) c) 0) 0 1 ≡ c
    mark zero h true = refl
    mark zero h false = refl
    mark (suc zero) h true = refl
    mark (suc zero) h false = refl
    mark (suc (suc c)) h x = absurd (omega arith)

    whole : (j : ℕ) → j * 3 + 3 ≤ length l → made plain_mark j (words_at j (noted_marks n l)) ≡ words_at j l
    whole j h =
        ap (λ (x : Words). made plain_mark j x) (anew_at (noted_mark n) l j h)
        ∙ ap (λ (c : ℕ). words (entry_word 3 j 0 l) (entry_word 3 j 1 l) c) (mark (entry_word 3 j 2 l) (marks j) (ltb j n))

-- an area without constants
pub plain_marks_zero : (n : ℕ) → plain_marks (replicate n 0) ≡ replicate n 0
unfolding plain_marks
plain_marks_zero n =
    anew_is plain_mark (replicate n 0) (replicate n 0) refl (λ j h. rw (word_zero n (j * 3 + 2)) refl) (λ j r h. refl)
