-- The words of flat entries: word k of entry i of an area is word k of the i-th of the entries that fill it, whatever the width; and what stands in
-- the entries that a list's elements give, one after the other. By induction over the entries, each of which has the width. Assumes nothing.
use Prim.Native.Nat.{ℕ, zero, suc, ◌+◌, ◌-◌, ◌*◌, ◌≤◌, ◌<◌}
use native.Mathlib.Nat.{zero-mul, suc-mul, zero-add}
use native.Mathlib.Omega.{arith}
use native.Mathlib.Decide.{dec_lt}
use mathlib.Core.Path.{◌≡◌, refl, sym, ap, ◌∙◌}
use mathlib.Core.List.{List, [], ◌∷◌, ◌++◌, append_assoc}
use lib.ListN.{length, get_or, take, replicate, length-append, get_or-append, get_or-eq_default}
use lib.Seq.{get_or-append-add}
use Rattle.words.specs.Areas.{entry_word}
use Rattle.definition.specs.Uses.{sum_of}
use Rattle.definition.specs.Program.{Entries, flat, filled, filled_all, entries_from}
use Rattle.definition.specs.Within.{All, nil, ◌&◌}
use Rattle.definition_laws.proofs.Lists.{all_append}

pub all_at : {A : Type 0} {P : A → Type 0} {l : List A} → All P l → (i : ℕ) (d : A) → i < length l → P (get_or l i d)
all_at nil i d h = absurd (omega arith)
all_at (p & ps) zero d h = p
all_at (p & ps) (suc i) d h = all_at ps i d (omega arith)

pub all_any : {A : Type 0} (l : List A) → All (λ (x : A). Unit {0}) l
all_any [] = nil
all_any (x ∷ l) = tt & all_any l

-- entries of one width

abbrev pub Wide : ℕ → Entries → Type 0
Wide width es = All (λ (e : List ℕ). length e ≡ width) es

pub flat_length : (width : ℕ) {es : Entries} → Wide width es → length (flat es) ≡ length es * width
flat_length width nil = sym (zero-mul width)
flat_length width (◌&◌ {x = e} {xs = es} h hs) = rw (length-append e (flat es), suc-mul (length es) width) (omega (arith, flat_length width hs))

-- the words after the entries do not matter
flat_word : (width : ℕ) {es : Entries} → Wide width es → (rest : List ℕ) (i k : ℕ) → i < length es → k < width
    → get_or (flat es ++ rest) (i * width + k) 0 ≡ get_or (get_or es i []) k 0
flat_word width nil rest i k h q = absurd (omega arith)
flat_word width (◌&◌ {x = e} {xs = es} w ws) rest zero k h q =
    rw (append_assoc e (flat es) rest, zero-mul width, zero-add k) (get_or-append e (flat es ++ rest) 0 k (omega arith))
flat_word width (◌&◌ {x = e} {xs = es} w ws) rest (suc i) k h q =
    let next : suc i * width + k ≡ length e + (i * width + k) = rw (suc-mul i width) (omega arith) in
    rw (append_assoc e (flat es) rest, next, get_or-append-add e (flat es ++ rest) (i * width + k) 0) (flat_word width ws rest i k (omega arith) q)

-- word k of entry i
pub filled_word : (width : ℕ) {es : Entries} → Wide width es → (n i k : ℕ) → i < length es → k < width
    → entry_word width i k (filled n es) ≡ get_or (get_or es i []) k 0
filled_word width {es} ws n i k h q = flat_word width ws (replicate (n - length (flat es)) 0) i k h q

pub filled_holds : (n : ℕ) (es : Entries) → length (flat es) ≤ length (filled n es)
filled_holds n es = omega (arith, length-append (flat es) (replicate (n - length (flat es)) 0))

pub filled_at : (lengths : List ℕ) (tables : List Entries) (area : ℕ) → area < length lengths → area < length tables
    → get_or (filled_all lengths tables) area [] ≡ filled (get_or lengths area 0) (get_or tables area [])
filled_at [] ts area h k = absurd (omega arith)
filled_at (n ∷ ns) [] area h k = absurd (omega arith)
filled_at (n ∷ ns) (t ∷ ts) zero h k = refl
filled_at (n ∷ ns) (t ∷ ts) (suc area) h k = filled_at ns ts area (omega arith) (omega arith)

-- tables, each of its width
pub data Wides : List ℕ → List Entries → Type 0 where
  end : Wides [] []
  ◌then◌ : {w : ℕ} {ws : List ℕ} {t : Entries} {ts : List Entries} → Wide w t → Wides ws ts → Wides (w ∷ ws) (t ∷ ts)

infixr 30 ◌then◌
-- the table of an area
pub wide_at : {ws : List ℕ} {ts : List Entries} → Wides ws ts → (area : ℕ) → Wide (get_or ws area 0) (get_or ts area [])
wide_at end area = nil
wide_at (w then ws) zero = w
wide_at (w then ws) (suc area) = wide_at ws area

pub wides_length : {ws : List ℕ} {ts : List Entries} → Wides ws ts → length ws ≡ length ts
wides_length end = refl
wides_length (w then ws) = ap suc (wides_length ws)

module _ (lengths : List ℕ) {ws : List ℕ} {tables : List Entries} (wides : Wides ws tables) (enough : length ws ≤ length lengths) where
  pub table_word : (area i k : ℕ) → i < length (get_or tables area []) → k < get_or ws area 0
      → entry_word (get_or ws area 0) i k (get_or (filled_all lengths tables) area []) ≡ get_or (get_or (get_or tables area []) i []) k 0
  table_word area i k h q = go (dec_lt area (length tables))
    where
      go : Dec (area < length tables)
          → entry_word (get_or ws area 0) i k (get_or (filled_all lengths tables) area []) ≡ get_or (get_or (get_or tables area []) i []) k 0
      go (yes in') =
          rw (filled_at lengths tables area (omega (arith, wides_length wides)) in')
          (filled_word (get_or ws area 0) (wide_at wides area) (get_or lengths area 0) i k h q)
      go (no out) = absurd (omega (arith, ap (λ (t : Entries). length t) (get_or-eq_default tables [] {n = area} (omega arith))))

  pub table_whole : (area : ℕ) → length (get_or tables area []) * get_or ws area 0 ≤ length (get_or (filled_all lengths tables) area [])
  table_whole area = go (dec_lt area (length tables))
    where
      go : Dec (area < length tables) → length (get_or tables area []) * get_or ws area 0 ≤ length (get_or (filled_all lengths tables) area [])
      go (yes in') =
          rw (filled_at lengths tables area (omega (arith, wides_length wides)) in', ← flat_length (get_or ws area 0) (wide_at wides area))
          (filled_holds (get_or lengths area 0) (get_or tables area []))
      go (no out) = rw (get_or-eq_default tables [] {n = area} (omega arith), zero-mul (get_or ws area 0)) (omega arith)

-- the entries that a list's elements give

module _ {A : Type 0} where
  -- what holds of each entry, where the indices are below n
  pub entries_all : (f : ℕ → A → Entries) {P : A → Type 0} {Q : List ℕ → Type 0} {xs : List A} (n i : ℕ)
      → ((j : ℕ) (x : A) → j < n → P x → All Q (f j x)) → i + length xs ≤ n → All P xs → All Q (entries_from f i xs)
  entries_all f n i each h nil = nil
  entries_all f n i each h (◌&◌ {x = x} p ps) = all_append (each i x (omega arith) p) (entries_all f n (i + 1) each (omega arith) ps)

  pub entries_wide : (f : ℕ → A → Entries) (width i : ℕ) → ((j : ℕ) (x : A) → Wide width (f j x)) → (xs : List A) → Wide width (entries_from f i xs)
  entries_wide f width i each xs = entries_all f (i + length xs) i (λ j x h u. each j x) (omega arith) (all_any xs)

  -- how many: the sum of what each gives
  pub entries_length : (f : ℕ → A → Entries) (g : A → ℕ) {P : A → Type 0} {xs : List A} (i : ℕ)
      → ((j : ℕ) (x : A) → P x → length (f j x) ≡ g x) → All P xs → length (entries_from f i xs) ≡ sum_of g xs
  entries_length f g i each nil = refl
  entries_length f g i each (◌&◌ {x = x} {xs = xs} p ps) =
      length-append (f i x) (entries_from f (i + 1) xs) ∙ omega (arith, each i x p, entries_length f g (i + 1) each ps)

  -- where each gives one entry
  pub single_length : (g : ℕ → A → List ℕ) (i : ℕ) (xs : List A) → length (entries_from (λ j x. g j x ∷ []) i xs) ≡ length xs
  single_length g i [] = refl
  single_length g i (x ∷ xs) = ap suc (single_length g (i + 1) xs)

  pub single_at : (g : ℕ → A → List ℕ) (i : ℕ) (xs : List A) (j : ℕ) (d : A) → j < length xs
      → get_or (entries_from (λ k x. g k x ∷ []) i xs) j [] ≡ g (i + j) (get_or xs j d)
  single_at g i [] j d h = absurd (omega arith)
  single_at g i (x ∷ xs) zero d h = let same : i + 0 ≡ i = omega arith in rw same
  single_at g i (x ∷ xs) (suc j) d h =
      let next : i + suc j ≡ i + 1 + j = omega arith in rw next (single_at g (i + 1) xs j d (omega arith))

  -- entry p of what element j gives stands after all that the elements before it give
  pub entries_at : (f : ℕ → A → Entries) (g : A → ℕ) {P : A → Type 0} {xs : List A} (i : ℕ)
      → ((j : ℕ) (x : A) → P x → length (f j x) ≡ g x) → All P xs → (j p : ℕ) (d : A) → j < length xs → p < g (get_or xs j d)
      → get_or (entries_from f i xs) (sum_of g (take j xs) + p) [] ≡ get_or (f (i + j) (get_or xs j d)) p []
  entries_at f g i each nil j p d h q = absurd (omega arith)
  entries_at f g i each (◌&◌ {x = x} {xs = xs} a as') zero p d h q =
      let same : i + 0 ≡ i = omega arith in
      rw (zero-add p, same) (get_or-append (f i x) (entries_from f (i + 1) xs) [] p (omega (arith, each i x a)))
  entries_at f g i each (◌&◌ {x = x} {xs = xs} a as') (suc j) p d h q =
      let next : i + suc j ≡ i + 1 + j = omega arith in
      let past : g x + sum_of g (take j xs) + p ≡ length (f i x) + (sum_of g (take j xs) + p) = omega (arith, each i x a) in
      rw (next, past, get_or-append-add (f i x) (entries_from f (i + 1) xs) (sum_of g (take j xs) + p) [])
      (entries_at f g (i + 1) each as' j p d (omega arith) q)

  -- and it is one of all
  pub sum_inside : (g : A → ℕ) (xs : List A) (j : ℕ) (d : A) → j < length xs → sum_of g (take j xs) + g (get_or xs j d) ≤ sum_of g xs
  sum_inside g [] j d h = absurd (omega arith)
  sum_inside g (x ∷ xs) zero d h = omega arith
  sum_inside g (x ∷ xs) (suc j) d h = omega (arith, sum_inside g xs j d (omega arith))
