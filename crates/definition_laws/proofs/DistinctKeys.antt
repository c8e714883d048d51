-- Lists of which no two have a key in common (`Distinct`): kept by the insertions of the definition, which replace an entry of the same key, and by taking
-- numbers out; ascending lists are distinct. Assumes nothing.
use Prim.Native.Nat.{ℕ, zero, suc, ◌+◌, ◌≤◌, ◌<◌}
use native.Mathlib.Omega.{arith}
use native.Mathlib.Decide.{dec_lt}
use mathlib.Core.Path.{◌≡◌, sym, subst, ◌∙◌}
use mathlib.Core.Bool.{Bool, true, false, cond, not}
use mathlib.Core.List.{List, [], ◌∷◌, ◌++◌}
use lib.ListN.{length, get_or}
use lib.Dec.{T, eqb, ltb, eqb→eq, ltb→lt, nltb→le}
use Rattle.definition.specs.FunctionState.{Entry}
use Rattle.definition.specs.Book.{Method, insert_entry, same_method, insert_method, insert_methods}
use Rattle.definition.specs.Program.{entries_from}
use Rattle.definition.specs.DependencySolver.{insert_number, without}
use Rattle.definition.specs.Within.{All, nil, ◌&◌}
use Rattle.definition_laws.proofs.Lists.{all_map, all_append, cond_case, ne_of_test}
use Rattle.definition_laws.proofs.Cells.{all_at}

-- each differs from each after it
pub data Distinct {A : Type 0} (R : A → A → Type 0) : List A → Type 0 where
  none_left : Distinct R []
  ◌before◌ : {x : A} {xs : List A} → All (R x) xs → Distinct R xs → Distinct R (x ∷ xs)

infixr 30 ◌before◌
module _ {A : Type 0} {R : A → A → Type 0} where
  pub distinct_append : {xs ys : List A} → Distinct R xs → Distinct R ys → All (λ (x : A). All (R x) ys) xs → Distinct R (xs ++ ys)
  distinct_append none_left e nil = e
  distinct_append (h before d) e (p & ps) = all_append h p before distinct_append d e ps

  -- two of them, by their places
  pub distinct_at : {l : List A} → Distinct R l → (j i : ℕ) (d : A) → j < i → i < length l → R (get_or l j d) (get_or l i d)
  distinct_at none_left j i d h k = absurd (omega arith)
  distinct_at (p before q) zero zero d h k = absurd (omega arith)
  distinct_at (p before q) zero (suc i) d h k = all_at p i d (omega arith)
  distinct_at (p before q) (suc j) zero d h k = absurd (omega arith)
  distinct_at (p before q) (suc j) (suc i) d h k = distinct_at q j i d (omega arith) (omega arith)

  pub distinct_map : {S : A → A → Type 0} {l : List A} → ((x y : A) → R x y → S x y) → Distinct R l → Distinct S l
  distinct_map f none_left = none_left
  distinct_map f (p before q) = all_map (f _) p before distinct_map f q

  -- where each gives one entry
  single_all : (S : List ℕ → List ℕ → Type 0) (g : ℕ → A → List ℕ) (x : A) (k i : ℕ) {xs : List A}
      → ((i j : ℕ) (x y : A) → R x y → S (g i x) (g j y)) → All (R x) xs → All (S (g k x)) (entries_from (λ n y. g n y ∷ []) i xs)
  single_all S g x k i f nil = nil
  single_all S g x k i f (p & ps) = f k i x _ p & single_all S g x k (i + 1) f ps

  pub distinct_single : (S : List ℕ → List ℕ → Type 0) (g : ℕ → A → List ℕ) (i : ℕ) {xs : List A}
      → ((i j : ℕ) (x y : A) → R x y → S (g i x) (g j y)) → Distinct R xs → Distinct S (entries_from (λ n y. g n y ∷ []) i xs)
  distinct_single S g i f none_left = none_left
  distinct_single S g i f (◌before◌ {x = x} p q) = single_all S g x i (i + 1) f p before distinct_single S g (i + 1) f q

-- entries: of areas 6 and 8 the first two words are the key, of area 12 the first
pub record OtherKey (d e : List ℕ) : Type 0 where
  pub differ : get_or d 0 0 ≡ get_or e 0 0 → get_or d 1 0 ≡ get_or e 1 0 → ⊥

pub record OtherFile (d e : List ℕ) : Type 0 where
  pub differ : get_or d 0 0 ≡ get_or e 0 0 → ⊥

-- names of a map, as of a book's public names

pub record OtherName (d e : Entry) : Type 0 where
  pub differ : d.name ≡ e.name → ⊥

pub all_insert_entry : {P : Entry → Type 0} {l : List Entry} (e : Entry) → P e → All P l → All P (insert_entry e l)
all_insert_entry e p nil = p & nil
all_insert_entry {P} e p (◌&◌ {x = x} {xs = xs} q qs) =
    cond_case (All P) (eqb x.name e.name) (λ t. p & qs) (λ t. q & all_insert_entry e p qs)

pub distinct_insert_entry : {l : List Entry} (e : Entry) → Distinct OtherName l → Distinct OtherName (insert_entry e l)
distinct_insert_entry e none_left = nil before none_left
distinct_insert_entry e (◌before◌ {x = x} {xs = xs} p d) =
    cond_case (Distinct OtherName) (eqb x.name e.name)
    (λ t. let s = eqb→eq x.name e.name t in all_map (λ y h. record { differ = λ q. h.differ (s ∙ q) }) p before d)
    (λ t. all_insert_entry e (record { differ = ne_of_test t }) p before distinct_insert_entry e d)

-- methods: one for a model and a name

pub record OtherMethod (d e : Method) : Type 0 where
  pub differ : d.model ≡ e.model → d.name ≡ e.name → ⊥

same_method_lem : (x y : Method) → T (same_method x y) → (x.model ≡ y.model) × (x.name ≡ y.name)
same_method_lem x y t = go (eqb x.model y.model) (λ q. eqb→eq x.model y.model q) t
  where
    go : (b : Bool) → (T b → x.model ≡ y.model) → T (cond b (eqb x.name y.name) false) → (x.model ≡ y.model) × (x.name ≡ y.name)
    go true f t = (f tt, eqb→eq x.name y.name t)
    go false f t = absurd t

other_method : (x y : Method) → T (not (same_method x y)) → OtherMethod x y
other_method x y t = record { differ = go (eqb x.model y.model) (λ q. ne_of_test q) t }
  where
    go : (b : Bool) → (T (not b) → x.model ≡ y.model → ⊥) → T (not (cond b (eqb x.name y.name) false)) → x.model ≡ y.model → x.name ≡ y.name → ⊥
    go true f t a = ne_of_test t
    go false f t a = absurd (f tt a)

pub all_insert_method : {P : Method → Type 0} {l : List Method} (e : Method) → P e → All P l → All P (insert_method e l)
all_insert_method e p nil = p & nil
all_insert_method {P} e p (◌&◌ {x = x} {xs = xs} q qs) = cond_case (All P) (same_method x e) (λ t. p & qs) (λ t. q & all_insert_method e p qs)

pub distinct_insert_method : {l : List Method} (e : Method) → Distinct OtherMethod l → Distinct OtherMethod (insert_method e l)
distinct_insert_method e none_left = nil before none_left
distinct_insert_method e (◌before◌ {x = x} {xs = xs} p d) =
    cond_case (Distinct OtherMethod) (same_method x e)
    (λ t. let s = same_method_lem x e t in all_map (λ y h. record { differ = λ a b. h.differ (s.0 ∙ a) (s.1 ∙ b) }) p before d)
    (λ t. all_insert_method e (other_method x e t) p before distinct_insert_method e d)

pub distinct_insert_methods : (m : ℕ) (es : List Entry) {l : List Method} → Distinct OtherMethod l → Distinct OtherMethod (insert_methods m es l)
distinct_insert_methods m [] d = d
distinct_insert_methods m (e ∷ es) d =
    distinct_insert_methods m es (distinct_insert_method (record { model = m; name = e.name; function = e.index }) d)

-- numbers

pub record OtherNumber (m n : ℕ) : Type 0 where
  pub differ : m ≡ n → ⊥

pub record LessThan (m n : ℕ) : Type 0 where
  pub less : m < n

pub all_insert_number : {P : ℕ → Type 0} {l : List ℕ} (n : ℕ) → P n → All P l → All P (insert_number n l)
all_insert_number n p nil = p & nil
all_insert_number {P} n p (◌&◌ {x = x} {xs = xs} q qs) =
    cond_case (All P) (ltb n x) (λ t. p & q & qs) (λ t. cond_case (All P) (eqb n x) (λ u. q & qs) (λ u. q & all_insert_number n p qs))

above : (x n : ℕ) → x ≤ n → (n ≡ x → ⊥) → x < n
above x n h q = go (dec_lt x n)
  where
    go : Dec (x < n) → x < n
    go (yes l) = l
    go (no l) = absurd (q (omega arith))

-- an ascending list stays one
pub ascending_insert : {l : List ℕ} (n : ℕ) → Distinct LessThan l → Distinct LessThan (insert_number n l)
ascending_insert n none_left = nil before none_left
ascending_insert n (◌before◌ {x = x} {xs = xs} p d) =
    cond_case (Distinct LessThan) (ltb n x)
    (λ t. (record { less = ltb→lt n x t } & all_map (λ y h. record { less = omega (arith, h.less, ltb→lt n x t) }) p) before p before d)
    (λ t. cond_case (Distinct LessThan) (eqb n x) (λ u. p before d)
    (λ u. all_insert_number n (record { less = above x n (nltb→le n x t) (ne_of_test u) }) p before ascending_insert n d))

pub ascending_distinct : {l : List ℕ} → Distinct LessThan l → Distinct OtherNumber l
ascending_distinct d = distinct_map (λ x y h. record { differ = λ e. omega (arith, h.less, e) }) d

-- a number taken out is no more among them
pub all_without : {P : ℕ → Type 0} (n : ℕ) {l : List ℕ} → All P l → All P (without n l)
all_without n nil = nil
all_without {P} n (◌&◌ {x = x} {xs = xs} p ps) = cond_case (All P) (eqb x n) (λ t. ps) (λ t. p & all_without n ps)

pub distinct_without : (n : ℕ) {l : List ℕ} → Distinct OtherNumber l → Distinct OtherNumber (without n l)
distinct_without n none_left = none_left
distinct_without n (◌before◌ {x = x} {xs = xs} p d) =
    cond_case (Distinct OtherNumber) (eqb x n) (λ t. d) (λ t. all_without n p before distinct_without n d)

pub none_without : (n : ℕ) {l : List ℕ} → Distinct OtherNumber l → All (OtherNumber n) (without n l)
none_without n none_left = nil
none_without n (◌before◌ {x = x} {xs = xs} p d) =
    cond_case (All (OtherNumber n)) (eqb x n) (λ t. subst (λ k. All (OtherNumber k) xs) (eqb→eq x n t) p)
    (λ t. record { differ = λ e. ne_of_test t (sym e) } & none_without n d)
