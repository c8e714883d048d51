-- The first number that a test holds of, and entries by their numbers. Assumes nothing.
use Prim.Native.Nat.{ℕ, zero, suc, ◌+◌, ◌-◌, ◌≤◌, ◌<◌}
use native.Mathlib.Omega.{arith}
use native.Mathlib.Decide.{ℕ_discrete}
use mathlib.Core.Path.{◌≡◌, refl, ap, subst, ◌∙◌}
use mathlib.Core.Bool.{Bool, true, false, cond}
use mathlib.Core.List.{List, [], ◌∷◌, ◌++◌}
use lib.ListN.{length, get_or}
use lib.Seq.{ext_get_or}
use Rattle.constant_tables.specs.Entry.{Entry}
use Rattle.constant_tables.specs.Table.{first_where, list_from}

-- a search of c numbers, of which i are left behind
module _ (f : ℕ → Bool) (c i : ℕ) where
  pub first_start : first_where f 0 c ≡ first_where f 0 (c - 0)
  first_start = ap (λ (n : ℕ). first_where f 0 n) (let e : c ≡ c - 0 = omega arith in e)

  pub first_end : c ≤ i → first_where f i (c - i) ≡ i
  unfolding first_where
  first_end h = let e : c - i ≡ 0 = omega arith in rw e

  pub first_here : i < c → f i ≡ true → first_where f i (c - i) ≡ i
  unfolding first_where
  first_here h t = let e : c - i ≡ suc (c - (i + 1)) = omega arith in rw (e, t)

  pub first_next : i < c → f i ≡ false → first_where f i (c - i) ≡ first_where f (i + 1) (c - (i + 1))
  unfolding first_where
  first_next h t = let e : c - i ≡ suc (c - (i + 1)) = omega arith in rw (e, t)

bool_case : {x y : ℕ} (P : ℕ → Type 0) (t : Bool) → (t ≡ true → P x) → (t ≡ false → P y) → P (cond t x y)
bool_case P true a b = a refl
bool_case P false a b = b refl

pub first_bound : (f : ℕ → Bool) (k n : ℕ) → first_where f k n ≤ k + n
unfolding first_where
first_bound f k zero = omega arith
first_bound f k (suc n) =
    let r = first_bound f (k + 1) n in
    bool_case (λ x. x ≤ k + suc n) (f k) (λ e. omega arith) (λ e. omega (arith, r))

-- none before it
pub first_least : (f : ℕ → Bool) (k n j : ℕ) → k ≤ j → j < first_where f k n → f j ≡ false
unfolding first_where
first_least f k zero j a h = absurd (omega arith)
first_least f k (suc n) j a h = go (f k) refl (first_least f (k + 1) n j) h
  where
    after : f k ≡ false → Dec (k ≡ j) → (k + 1 ≤ j → f j ≡ false) → f j ≡ false
    after e (yes x) r = subst (λ (m : ℕ). f m ≡ false) x e
    after e (no x) r = r (omega arith)

    go : (t : Bool) → f k ≡ t → (k + 1 ≤ j → j < first_where f (k + 1) n → f j ≡ false) → j < cond t k (first_where f (k + 1) n) → f j ≡ false
    go true e r l = absurd (omega arith)
    go false e r l = after e (ℕ_discrete k j) (λ x. r x l)

-- and it is one
pub first_holds : (f : ℕ → Bool) (k n : ℕ) → first_where f k n < k + n → f (first_where f k n) ≡ true
unfolding first_where
first_holds f k zero h = absurd (omega arith)
first_holds f k (suc n) h = go (f k) refl (first_holds f (k + 1) n) h
  where
    go : (t : Bool) → f k ≡ t → (first_where f (k + 1) n < k + 1 + n → f (first_where f (k + 1) n) ≡ true)
        → cond t k (first_where f (k + 1) n) < k + suc n → f (cond t k (first_where f (k + 1) n)) ≡ true
    go true e r l = e
    go false e r l = r (omega arith)

pub first_none : (f : ℕ → Bool) (k n : ℕ) → ((j : ℕ) → k ≤ j → j < k + n → f j ≡ false) → first_where f k n ≡ k + n
unfolding first_where
first_none f k zero h = omega arith
first_none f k (suc n) h =
    rw (h k (omega arith) (omega arith)) (first_none f (k + 1) n (λ j a l. h j (omega arith) (omega arith)) ∙ omega arith)

-- entries by their numbers

pub list_length : (f : ℕ → Entry) (k n : ℕ) → length (list_from f k n) ≡ n
unfolding list_from
list_length f k zero = refl
list_length f k (suc n) = ap suc (list_length f (k + 1) n)

pub list_more : (f : ℕ → Entry) (k n : ℕ) → list_from f k (n + 1) ≡ list_from f k n ++ (f (k + n) ∷ [])
unfolding list_from
list_more f k zero = let e : k ≡ k + 0 = omega arith in ap (λ (m : ℕ). f m ∷ []) e
list_more f k (suc n) =
    let e : suc n + 1 ≡ suc (n + 1) = omega arith in
    let m : k + 1 + n ≡ k + suc n = omega arith in
    rw e (ap (λ (l : List Entry). f k ∷ l) (list_more f (k + 1) n ∙ ap (λ (x : ℕ). list_from f (k + 1) n ++ (f x ∷ [])) m))

pub list_get : (f : ℕ → Entry) (k n j : ℕ) (d : Entry) → j < n → get_or (list_from f k n) j d ≡ f (k + j)
unfolding list_from
list_get f k zero j d h = absurd (omega arith)
list_get f k (suc n) zero d h = ap f (let e : k ≡ k + 0 = omega arith in e)
list_get f k (suc n) (suc j) d h = list_get f (k + 1) n j d (omega arith) ∙ ap f (let e : k + 1 + j ≡ k + suc j = omega arith in e)

-- entries that are those of a list
pub list_is : (f : ℕ → Entry) (es : List Entry) (d : Entry) → ((j : ℕ) → j < length es → f j ≡ get_or es j d) → list_from f 0 (length es) ≡ es
list_is f es d h =
    let n = list_length f 0 (length es) in
    ext_get_or d (list_from f 0 (length es)) es n
    (λ j l. list_get f 0 (length es) j d (omega (arith, n, l)) ∙ ap f (let e : 0 + j ≡ j = omega arith in e) ∙ h j (omega (arith, n, l)))
