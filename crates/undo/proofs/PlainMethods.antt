-- What area 6 says where the first n methods stood, whatever is noted of their functions: a method more and another function are the same as in the plain area,
-- a function is below 2^56, and what stood stays. By the words of each entry. Assumes nothing.
use Prim.Native.Nat.{ℕ, ◌+◌, ◌*◌, ◌/◌, ◌%◌, ◌^◌, ◌≤◌, ◌<◌}
use native.Mathlib.Omega.{arith}
use native.Mathlib.Decide.{dec_le, ℕ_discrete}
use mathlib.Core.Path.{◌≡◌, refl, ap, ◌∙◌}
use mathlib.Core.Bool.{Bool, true, false, cond}
use mathlib.Core.List.{List, [], ◌∷◌}
use lib.ListN.{length, get_or, set, get_or-eq_default}
use lib.Seq.{get_or-set_same, get_or-set_other}
use lib.Dec.{eqb, ltb}
use borrow.Author.Tests.{eqb-true, eq-eqb, ne_eqb, le-ltb, ltb-true}
use Rattle.words.specs.Areas.{methods_area, entry_word, entry_field, write_word}
use Rattle.building.specs.Taking.{took_words}
use Rattle.undo.specs.Notes.{Words, words, entries_anew, plain_method, plain_methods, with_function_word}
use Rattle.undo.specs.Stood.{kept_of, Spares}
use Rattle.undo.proofs.EntriesAnew.{anew_length, anew_at, anew_took, anew_write, Aside}

pub plain_methods_none : (n : ℕ) (l : List ℕ) → n ≡ 0 → plain_methods n l ≡ l
unfolding plain_methods
plain_methods_none n l z = rw (eq-eqb n 0 z)

pub plain_methods_some : (n : ℕ) (l : List ℕ) → (n ≡ 0 → ⊥) → plain_methods n l ≡ entries_anew (plain_method n) 0 l
unfolding plain_methods
plain_methods_some n l h = rw (ne_eqb n 0 h)

pub plain_methods_length : (n : ℕ) (l : List ℕ) → length (plain_methods n l) ≡ length l
unfolding plain_methods
plain_methods_length n l = go (eqb n 0)
  where
    go : (x : Bool) → length (cond x l (entries_anew (plain_method n) 0 l)) ≡ length l
    go true = refl
    go false = anew_length (plain_method n) 0 l

-- a method more
pub plain_methods_took : (n full count model name function : ℕ) (l : List ℕ) → (full ≡ 0 → n ≤ count) → function < 2 ^ 56
    → plain_methods n (took_words full count (model ∷ name ∷ function ∷ []) l) ≡ took_words full count (model ∷ name ∷ function ∷ []) (plain_methods n l)
unfolding plain_methods
plain_methods_took n full count model name function l behind h = go (eqb n 0)
  where
    same : full ≡ 0 → plain_method n count model name function ≡ words model name function
    same z =
        let small : function % 2 ^ 56 ≡ function = omega arith in
        rw (le-ltb count n (behind z), small)

    go : (x : Bool)
        → cond x (took_words full count (model ∷ name ∷ function ∷ []) l)
        (entries_anew (plain_method n) 0 (took_words full count (model ∷ name ∷ function ∷ []) l))
        ≡ took_words full count (model ∷ name ∷ function ∷ []) (cond x l (entries_anew (plain_method n) 0 l))
    go true = refl
    go false = anew_took (plain_method n) full count model name function l same

-- another function
abbrev beside_note : ℕ → ℕ → List ℕ → ℕ
beside_note i function l = entry_field 3 i 2 l / 2 ^ 56 * 2 ^ 56 + function % 2 ^ 56

method_aside : (n : ℕ) → Aside (plain_method n)
method_aside n = record { first = λ i a b c d. one a b c d (ltb i n); second = λ i a b c d. two a b c d (ltb i n) }
  where
    one : (a b c d : ℕ) (x : Bool)
        → (cond x (words (a % 2 ^ 56) (b % 2 ^ 20) (c % 2 ^ 56)) (words a b (c % 2 ^ 56))).first
        ≡ (cond x (words (a % 2 ^ 56) (b % 2 ^ 20) (d % 2 ^ 56)) (words a b (d % 2 ^ 56))).first
    one a b c d true = refl
    one a b c d false = refl

    two : (a b c d : ℕ) (x : Bool)
        → (cond x (words (a % 2 ^ 56) (b % 2 ^ 20) (c % 2 ^ 56)) (words a b (c % 2 ^ 56))).second
        ≡ (cond x (words (a % 2 ^ 56) (b % 2 ^ 20) (d % 2 ^ 56)) (words a b (d % 2 ^ 56))).second
    two a b c d true = refl
    two a b c d false = refl

pub plain_third : (n i a b c : ℕ) → (plain_method n i a b c).third ≡ c % 2 ^ 56
plain_third n i a b c = go (ltb i n)
  where
    go : (x : Bool) → (cond x (words (a % 2 ^ 56) (b % 2 ^ 20) (c % 2 ^ 56)) (words a b (c % 2 ^ 56))).third ≡ c % 2 ^ 56
    go true = refl
    go false = refl

pub plain_methods_function : (n i function : ℕ) (l : List ℕ) → function < 2 ^ 56
    → plain_methods n (with_function_word n i function l) ≡ write_word 3 i 2 function (plain_methods n l)
unfolding plain_methods
plain_methods_function n i function l h = go (eqb n 0)
  where
    go : (x : Bool)
        → cond x (cond x (write_word 3 i 2 function l) (write_word 3 i 2 (beside_note i function l) l))
        (entries_anew (plain_method n) 0 (cond x (write_word 3 i 2 function l) (write_word 3 i 2 (beside_note i function l) l)))
        ≡ write_word 3 i 2 function (cond x l (entries_anew (plain_method n) 0 l))
    go true = refl
    go false =
        anew_write (plain_method n) (method_aside n) i (beside_note i function l) function l
        (λ k. plain_third n i (entry_word 3 i 0 l) (entry_word 3 i 1 l) (beside_note i function l) ∙ omega arith)

-- the word of a function
pub plain_methods_fields : (n i : ℕ) (l : List ℕ) → 0 < n → entry_field 3 i 2 (plain_methods n l) < 2 ^ 56
unfolding entry_field plain_methods
plain_methods_fields n i l h = rw (ne_eqb n 0 (λ z. omega arith)) (go (dec_le (i * 3 + 3) (length l)))
  where
    go : Dec (i * 3 + 3 ≤ length l) → entry_word 3 i 2 (entries_anew (plain_method n) 0 l) < 2 ^ 56
    go (yes k) =
        let there : entry_word 3 i 2 (entries_anew (plain_method n) 0 l) ≡ entry_word 3 i 2 l % 2 ^ 56 =
        ap (λ (x : Words). x.third) (anew_at (plain_method n) l i k) ∙ plain_third n i (entry_word 3 i 0 l) (entry_word 3 i 1 l) (entry_word 3 i 2 l) in
        omega arith
    go (no k) =
        let past : length (entries_anew (plain_method n) 0 l) ≤ i * 3 + 2 = omega (arith, anew_length (plain_method n) 0 l) in
        omega (arith, get_or-eq_default (entries_anew (plain_method n) 0 l) 0 {n = i * 3 + 2} past)

-- what stood stays
spare_word : (i v k : ℕ) (l : List ℕ) → v / 2 ^ 56 ≡ entry_field 3 i 2 l / 2 ^ 56
    → kept_of methods_area k (get_or (write_word 3 i 2 v l) k 0) ≡ kept_of methods_area k (get_or l k 0)
unfolding entry_field
spare_word i v k l e = written (ltb (i * 3 + 2) (length l)) refl
  where
    place : i * 3 + 2 < length l → Dec (k ≡ i * 3 + 2) → kept_of methods_area k (get_or (set l (i * 3 + 2) v) k 0) ≡ kept_of methods_area k (get_or l k 0)
    place h (yes q) =
        let third : (i * 3 + 2) % 3 ≡ 2 = omega arith in
        rw (q, third, get_or-set_same l (i * 3 + 2) v 0 h) e
    place h (no q) = rw (get_or-set_other l (i * 3 + 2) k v 0 q)

    written : (x : Bool) → ltb (i * 3 + 2) (length l) ≡ x
        → kept_of methods_area k (get_or (cond x (set l (i * 3 + 2) v) l) k 0) ≡ kept_of methods_area k (get_or l k 0)
    written true q = place (ltb-true (i * 3 + 2) (length l) q) (ℕ_discrete k (i * 3 + 2))
    written false q = refl

pub function_spares : (n i function full below : ℕ) (l : List ℕ) → (n ≡ 0 → full ≡ 0) → (n ≡ 0 → below ≡ 0)
    → Spares methods_area full below l (with_function_word n i function l)
function_spares n i function full below l a b = record { kept = λ k h. go k h (eqb n 0) refl }
  where
    go : (k : ℕ) → (full ≡ 0 → k < below) → (x : Bool) → eqb n 0 ≡ x
        → kept_of methods_area k (get_or (cond x (write_word 3 i 2 function l) (write_word 3 i 2 (beside_note i function l) l)) k 0)
        ≡ kept_of methods_area k (get_or l k 0)
    go k h true q =
        let z : n ≡ 0 = eqb-true n 0 q in
        absurd (omega (arith, h (a z), b z))
    go k h false q = spare_word i (beside_note i function l) k l (omega arith)

-- the same of a step that leaves the area as it is where the mark is set
pub set_function_spares : (n i function full below : ℕ) (l : List ℕ) → (n ≡ 0 → full ≡ 0 → below ≡ 0)
    → Spares methods_area full below l (cond (eqb full 0) (with_function_word n i function l) l)
set_function_spares n i function full below l b = go (eqb full 0) refl
  where
    go : (x : Bool) → eqb full 0 ≡ x → Spares methods_area full below l (cond x (with_function_word n i function l) l)
    go true q = function_spares n i function full below l (λ z. eqb-true full 0 q) (λ z. b z (eqb-true full 0 q))
    go false q = record { kept = λ k h. refl }
