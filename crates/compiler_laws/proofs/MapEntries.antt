-- A map's insert, in the definition and in an area: the first entry with the key has the new value, or one entry more stands behind the others.
-- By induction over the list; the area is entries of a list's elements, one each, behind others. Assumes nothing.
use Prim.Native.Nat.{ℕ, zero, suc, ◌+◌, ◌-◌, ◌*◌, ◌≤◌, ◌<◌}
use native.Mathlib.Nat.{mul-le-mul_right}
use native.Mathlib.Omega.{arith}
use mathlib.Core.Path.{◌≡◌, refl, sym, ap, ◌∙◌}
use mathlib.Core.Bool.{Bool, true, false, cond}
use mathlib.Core.Option.{Option, none, some}
use mathlib.Core.List.{List, [], ◌∷◌, ◌++◌}
use lib.ListN.{length, get_or, set, replicate, length-append}
use lib.Seq.{get_or-append-add}
use lib.Dec.{eqb}
use borrow.Author.Tests.{eq-eqb, ne_eqb, lt-ltb, le-leb}
use Rattle.words.specs.Areas.{entry_field, Patched}
use Rattle.definition.specs.Program.{Entries, flat, entries_from}
use Rattle.words.proofs.Entries.{field_in}
use Rattle.definition_laws.proofs.Cells.{single_length, single_at}
use Rattle.std.specs.Prelude.{Some, None}
use Rattle.building.specs.Found.{Found, found_of, first_from}
use Rattle.building.specs.RepresentsMachine.{Filled}
use Rattle.compiler_laws.specs.IncludeSteps.{is_pair}
use Rattle.building.proofs.Filling.{room_fits, filled_at, set_append_add, filled_set, filled_field}

-- an answer of the code, and the definition's
pub found_at : (o : Option ℕ) {f : Found} {i : ℕ} → f ≡ found_of o → f ≡ Some i → o ≡ some i
found_at none p q = absurd (let z : ◌≡◌ {A = ℕ} 0 1 = cc in omega arith)
found_at (some j) p q = cc

pub found_none : (o : Option ℕ) {f : Found} → f ≡ found_of o → f ≡ None → o ≡ none
found_none none p q = refl
found_none (some j) p q = absurd (let z : ◌≡◌ {A = ℕ} 0 1 = cc in omega arith)

-- one that has the key has the new element in its place
abbrev pub insert_by : {A : Type 0} → (A → Bool) → A → List A → List A
insert_by t e [] = e ∷ []
insert_by t e (x ∷ xs) = cond (t x) (e ∷ xs) (x ∷ insert_by t e xs)

pub data Inserting {A : Type 0} (d : A) (t : A → Bool) (e : A) (xs : List A) (from : ℕ) : Option ℕ → Type 0 where
  there : {i : ℕ} (j : ℕ) → i ≡ from + j → j < length xs → t (get_or xs j d) ≡ true → insert_by t e xs ≡ set xs j e
      → ((k : ℕ) → k < j → t (get_or xs k d) ≡ false) → Inserting d t e xs from (some i)
  new : insert_by t e xs ≡ xs ++ (e ∷ []) → Inserting d t e xs from none

module _ {A : Type 0} (d : A) (t : A → Bool) (e : A) where
  next : (x : A) (xs : List A) (from : ℕ) → t x ≡ false → {o : Option ℕ} → Inserting d t e xs (from + 1) o → Inserting d t e (x ∷ xs) from o
  next x xs from q (there {i = i} j p h r s first) = there {i = i} (suc j) (omega arith) (omega arith) r (rw q (ap (λ (l : List A). x ∷ l) s)) earlier
    where
      earlier : (k : ℕ) → k < suc j → t (get_or (x ∷ xs) k d) ≡ false
      earlier zero l = q
      earlier (suc k) l = first k (omega arith)
  next x xs from q (new s) = new (rw q (ap (λ (l : List A). x ∷ l) s))

  -- what the search finds is where the insert puts it
  pub inserting : (test : ℕ → Bool) (xs : List A) (from : ℕ) → ((j : ℕ) → j < length xs → test (from + j) ≡ t (get_or xs j d))
      → Inserting d t e xs from (first_from test (length xs) from)
  unfolding first_from
  inserting test [] from each = new refl
  inserting test (x ∷ xs) from each =
      go (t x) refl (inserting test xs (from + 1)
      (λ j h. let step : from + suc j ≡ from + 1 + j = omega arith in rw step at (each (suc j) (omega arith))))
    where
      here : test from ≡ t x
      here = let same : from + 0 ≡ from = omega arith in rw same at (each 0 (omega arith))

      go : (b : Bool) → t x ≡ b → Inserting d t e xs (from + 1) (first_from test (length xs) (from + 1))
          → Inserting d t e (x ∷ xs) from (cond (test from) (some from) (first_from test (length xs) (from + 1)))
      go true q r = rw (here, q) (there {i = from} 0 (omega arith) (omega arith) q (rw q) (λ k l. absurd (omega arith)))
      go false q r = rw (here, q) (next x xs from q r)

-- a word of an entry in use is there
pub patch_there : {width : ℕ} {l l' : List ℕ} {es : Entries} {n : ℕ} {answer : Bool} (i k v : ℕ) → width ≤ 8 → i < n → k < width → Filled width l es n
    → Patched width i k v l l' answer → l' ≡ set l (i * width + k) v
patch_there {width} {l} {n = n} i k v narrow h q f P =
    let whole : i * width + width ≤ length l = room_fits width i (length l) (less h f.room) in
    P.words ∙ rw (le-leb width 8 narrow, lt-ltb k width q, lt-ltb (i * width + k) (length l) (omega arith))
  where
    less : {a b c : ℕ} → a < b → b ≤ c → a < c
    less p r = omega arith

-- behind the entries stand zeros
zero_at : (z j : ℕ) → get_or {A = ℕ} (replicate z 0) j 0 ≡ 0
zero_at zero j = refl
zero_at (suc z) zero = refl
zero_at (suc z) (suc j) = zero_at z j

pub filled_past : {width : ℕ} {l : List ℕ} {es : Entries} {n : ℕ} → Filled width l es n → (i k : ℕ) → width ≤ 8 → k < width → n ≤ i
    → entry_field width i k l ≡ 0
filled_past {width} {l} {es} {n} f i k narrow q past =
    let more : n * width ≤ i * width = mul-le-mul_right width past in
    let place : i * width + k ≡ length (flat es) + (i * width + k - n * width) = omega (arith, filled_at f) in
    sym (field_in l width i k narrow q) ∙ rw (f.is, place, get_or-append-add (flat es) (replicate f.zeros 0) (i * width + k - n * width) 0)
    (zero_at f.zeros (i * width + k - n * width))

-- entries of elements, one each
module _ {A : Type 0} (g : A → List ℕ) where
  abbrev pub rows_from : ℕ → List A → Entries
  rows_from i xs = entries_from (λ _ x. g x ∷ []) i xs

  pub rows_more : (i : ℕ) (xs : List A) (e : A) → rows_from i (xs ++ (e ∷ [])) ≡ rows_from i xs ++ (g e ∷ [])
  rows_more i [] e = refl
  rows_more i (x ∷ xs) e = ap (λ (l : Entries). g x ∷ l) (rows_more (i + 1) xs e)

  pub rows_set : (i : ℕ) (xs : List A) (j : ℕ) (e : A) → rows_from i (set xs j e) ≡ set (rows_from i xs) j (g e)
  rows_set i [] j e = refl
  rows_set i (x ∷ xs) zero e = refl
  rows_set i (x ∷ xs) (suc j) e = ap (λ (l : Entries). g x ∷ l) (rows_set (i + 1) xs j e)

  rows_length : (i : ℕ) (xs : List A) → length (rows_from i xs) ≡ length xs
  rows_length i xs = single_length (λ _ x. g x) i xs

  module _ (front : Entries) (xs : List A) (d : A) {width : ℕ} {l : List ℕ} {n : ℕ} (narrow : width ≤ 8)
      (f : Filled width l (front ++ rows_from 0 xs) n) where
    pub rows_count : n ≡ length front + length xs
    rows_count = f.count ∙ length-append front (rows_from 0 xs) ∙ ap (λ (k : ℕ). length front + k) (rows_length 0 xs)

    at : (j : ℕ) → j < length xs → get_or (front ++ rows_from 0 xs) (length front + j) [] ≡ g (get_or xs j d)
    at j h = get_or-append-add front (rows_from 0 xs) j [] ∙ single_at (λ _ x. g x) 0 xs j d h

    -- a word of an element's entry
    pub row_word : (j k : ℕ) → j < length xs → k < width → entry_field width (length front + j) k l ≡ get_or (g (get_or xs j d)) k 0
    row_word j k h q =
        filled_field (length front + j) k narrow (omega (arith, rows_count)) q f ∙ ap (λ (e : List ℕ). get_or e k 0) (at j h)

    -- a word of it anew
    pub row_set : (j k v : ℕ) (e : A) → j < length xs → k < width → set (g (get_or xs j d)) k v ≡ g e
        → Filled width (set l ((length front + j) * width + k) v) (front ++ rows_from 0 (set xs j e)) n
    row_set j k v e h q same =
        rw (rows_set 0 xs j e, ← same, ← at j h, ← set_append_add front (rows_from 0 xs) j (set (get_or (front ++ rows_from 0 xs) (length front + j) []) k v))
        (filled_set (length front + j) k v (omega (arith, rows_count)) q f)

-- a pair's test, as the code makes it
module _ (width a b : ℕ) (w : List ℕ) (i : ℕ) {x : ℕ} (first : x ≡ entry_field width i 0 w) where
  pub pair_here : x ≡ a → {y : ℕ} → y ≡ entry_field width i 1 w → eqb y b ≡ is_pair width a b w i
  pair_here q {y} second = rw (← first, ← second, eq-eqb x a q)

  pub pair_other : (x ≡ a → ⊥) → false ≡ is_pair width a b w i
  pair_other ne = rw (← first, ne_eqb x a ne)
