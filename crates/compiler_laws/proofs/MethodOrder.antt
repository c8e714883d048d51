-- Methods whose names were first made distinct, the last of each name in its first one's place, are inserted as all of them one by one: for
-- `implement`, which makes them distinct. By induction over the names and over the methods. Assumes nothing.
use Prim.Native.Nat.{ℕ}
use native.Mathlib.Omega.{arith}
use mathlib.Core.Path.{◌≡◌, refl, sym, ap, ◌∙◌}
use mathlib.Core.Bool.{Bool, true, false, cond}
use mathlib.Core.List.{List, [], ◌∷◌, ◌++◌}
use lib.Dec.{eqb}
use borrow.Author.Tests.{eqb-true, eqb-false, eq-eqb, ne_eqb}
use Rattle.definition.specs.FunctionState.{Entry}
use Rattle.definition.specs.Book.{Method, insert_entry, same_method, insert_method, insert_methods}
use Rattle.definition.specs.Within.{All, nil, ◌&◌}
use Rattle.compiler_laws.proofs.InsertedMethods.{method_of}
use Rattle.compiler_laws.proofs.MethodsTogether.{inserts_append}

-- no name twice
pub data Distinct : List Entry → Type 0 where
  nobody : Distinct []
  also : {e : Entry} {es : List Entry} → All (λ (x : Entry). x.name ≡ e.name → ⊥) es → Distinct es → Distinct (e ∷ es)

insert_all : {P : Entry → Type 0} (e : Entry) {es : List Entry} → P e → All P es → All P (insert_entry e es)
insert_all e p nil = p & nil
insert_all {P} e p (◌&◌ {x = x} {xs = xs} q qs) = go (insert_all e p qs) (eqb x.name e.name)
  where
    go : All P (insert_entry e xs) → (b : Bool) → All P (cond b (e ∷ xs) (x ∷ insert_entry e xs))
    go rest true = p & qs
    go rest false = q & rest

pub distinct_insert : (e : Entry) {es : List Entry} → Distinct es → Distinct (insert_entry e es)
distinct_insert e nobody = also nil nobody
distinct_insert e (also {e = x} {es = xs} apart d) = go (distinct_insert e d) (eqb x.name e.name) refl
  where
    moved : (ys : List Entry) → x.name ≡ e.name → All (λ (y : Entry). y.name ≡ x.name → ⊥) ys → All (λ (y : Entry). y.name ≡ e.name → ⊥) ys
    moved ys q nil = nil
    moved ys q (◌&◌ {xs = ys'} p ps) = (λ r. p (r ∙ sym q)) & moved ys' q ps

    go : Distinct (insert_entry e xs) → (b : Bool) → eqb x.name e.name ≡ b → Distinct (cond b (e ∷ xs) (x ∷ insert_entry e xs))
    go rest true q = also (moved xs (eqb-true x.name e.name q) apart) d
    go rest false q = also (insert_all e (λ r. eqb-false x.name e.name q (sym r)) apart) rest

-- the methods of one model
module _ (m : ℕ) where
  abbrev own : Entry → Method
  own e = method_of m e.name e.index

  -- a name is there
  data Has (n : ℕ) : List Method → Type 0 where
    here : {x : Method} {l : List Method} → x.model ≡ m → x.name ≡ n → Has n (x ∷ l)
    later : {x : Method} {l : List Method} → Has n l → Has n (x ∷ l)

  same_own : (e : Entry) (x : Method) → x.model ≡ m → x.name ≡ e.name → same_method x (own e) ≡ true
  same_own e x p q = rw (eq-eqb x.model m p, eq-eqb x.name e.name q)

  other_own : (e y : Entry) → (y.name ≡ e.name → ⊥) → same_method (own y) (own e) ≡ false
  other_own e y ne = rw (eq-eqb m m refl, ne_eqb y.name e.name ne)

  -- what the test says
  key : (e : Entry) (x : Method) → same_method x (own e) ≡ true → (x.model ≡ m) × (x.name ≡ e.name)
  key e x q = go (eqb x.model m) refl q
    where
      go : (b : Bool) → eqb x.model m ≡ b → cond b (eqb x.name e.name) false ≡ true → (x.model ≡ m) × (x.name ≡ e.name)
      go true p r = (eqb-true x.model m p, eqb-true x.name e.name r)
      go false p r = absurd (let z : ◌≡◌ {A = ℕ} 0 1 = cc in omega arith)

  has_insert : (n : ℕ) (e : Entry) → e.name ≡ n → (l : List Method) → Has n (insert_method (own e) l)
  has_insert n e q [] = here refl q
  has_insert n e q (x ∷ xs) = go (has_insert n e q xs) (same_method x (own e))
    where
      go : Has n (insert_method (own e) xs) → (b : Bool) → Has n (cond b (own e ∷ xs) (x ∷ insert_method (own e) xs))
      go rest true = here refl q
      go rest false = later rest

  has_stays : (n : ℕ) (y : Entry) {l : List Method} → Has n l → Has n (insert_method (own y) l)
  has_stays n y (here {x = x} {l = l} p q) = go (same_method x (own y)) refl
    where
      go : (b : Bool) → same_method x (own y) ≡ b → Has n (cond b (own y ∷ l) (x ∷ insert_method (own y) l))
      go true r = here refl (sym (key y x r).1 ∙ q)
      go false r = here p q
  has_stays n y (later {x = x} {l = l} h) = go (has_stays n y h) (same_method x (own y))
    where
      go : Has n (insert_method (own y) l) → (b : Bool) → Has n (cond b (own y ∷ l) (x ∷ insert_method (own y) l))
      go rest true = later h
      go rest false = later rest

  -- the same name again
  insert_again : (e x : Entry) → x.name ≡ e.name → (l : List Method) → insert_method (own e) (insert_method (own x) l) ≡ insert_method (own e) l
  insert_again e x q [] = rw (same_own e (own x) refl q)
  insert_again e x q (z ∷ zs) = go (insert_again e x q zs) (same_method z (own x)) refl
    where
      go : insert_method (own e) (insert_method (own x) zs) ≡ insert_method (own e) zs → (b : Bool) → same_method z (own x) ≡ b
          → insert_method (own e) (cond b (own x ∷ zs) (z ∷ insert_method (own x) zs)) ≡ insert_method (own e) (z ∷ zs)
      go rest true r = rw (same_own e (own x) refl q, same_own e z (key x z r).0 ((key x z r).1 ∙ q))
      go rest false r =
          let other : same_method z (own e) ≡ false = rw (← q) r in
          rw other (ap (λ (l : List Method). z ∷ l) rest)

  -- another name: one that is there is set, whatever is inserted before
  insert_swap : (e y : Entry) → (y.name ≡ e.name → ⊥) → {l : List Method} → Has e.name l
      → insert_method (own e) (insert_method (own y) l) ≡ insert_method (own y) (insert_method (own e) l)
  insert_swap e y ne (here {x = z} {l = zs} p q) =
      let found : same_method z (own e) ≡ true = same_own e z p q in
      let passed : same_method z (own y) ≡ false = rw (eq-eqb z.model m p, ne_eqb z.name y.name (λ r. ne (sym r ∙ q))) in
      let past : same_method (own e) (own y) ≡ false = other_own y e (λ r. ne (sym r)) in
      rw (passed, found, past)
  insert_swap e y ne (later {x = z} {l = zs} h) = go (insert_swap e y ne h) (same_method z (own e)) refl (same_method z (own y)) refl
    where
      go : insert_method (own e) (insert_method (own y) zs) ≡ insert_method (own y) (insert_method (own e) zs)
          → (a : Bool) → same_method z (own e) ≡ a → (b : Bool) → same_method z (own y) ≡ b
          → insert_method (own e) (insert_method (own y) (z ∷ zs)) ≡ insert_method (own y) (insert_method (own e) (z ∷ zs))
      go rest true p true q = absurd (ne (sym (key y z q).1 ∙ (key e z p).1))
      go rest true p false q = rw (q, p, other_own y e (λ r. ne (sym r)))
      go rest false p true q = rw (q, p, q, other_own e y ne)
      go rest false p false q = rw (q, p, q) (ap (λ (l : List Method). z ∷ l) rest)

  inserts_swap : (e : Entry) {es : List Entry} → All (λ (y : Entry). y.name ≡ e.name → ⊥) es → {l : List Method} → Has e.name l
      → insert_method (own e) (insert_methods m es l) ≡ insert_methods m es (insert_method (own e) l)
  inserts_swap e nil h = refl
  inserts_swap e (◌&◌ {x = y} {xs = ys} ne nes) {l} h =
      inserts_swap e nes (has_stays e.name y h) ∙ ap (λ (k : List Method). insert_methods m ys k) (insert_swap e y ne h)

  inserts_last : (e : Entry) {es : List Entry} → Distinct es → (l : List Method)
      → insert_methods m (insert_entry e es) l ≡ insert_method (own e) (insert_methods m es l)
  inserts_last e nobody l = refl
  inserts_last e (also {e = x} {es = xs} apart d) l = go (λ k. inserts_last e d k) (eqb x.name e.name) refl
    where
      renamed : x.name ≡ e.name → (ys : List Entry) → All (λ (y : Entry). y.name ≡ x.name → ⊥) ys → All (λ (y : Entry). y.name ≡ e.name → ⊥) ys
      renamed q ys nil = nil
      renamed q ys (◌&◌ {xs = ys'} p ps) = (λ r. p (r ∙ sym q)) & renamed q ys' ps

      go : ((k : List Method) → insert_methods m (insert_entry e xs) k ≡ insert_method (own e) (insert_methods m xs k))
          → (b : Bool) → eqb x.name e.name ≡ b
          → insert_methods m (cond b (e ∷ xs) (x ∷ insert_entry e xs)) l ≡ insert_method (own e) (insert_methods m xs (insert_method (own x) l))
      go rest true q =
          let same = eqb-true x.name e.name q in
          sym (inserts_swap e (renamed same xs apart) (has_insert e.name x same l)
          ∙ ap (λ (k : List Method). insert_methods m xs k) (insert_again e x same l))
      go rest false q = rest (insert_method (own x) l)

  -- a name made distinct, or one more at the end
  pub inserts_entry : (e : Entry) {es : List Entry} → Distinct es → (l : List Method)
      → insert_methods m (insert_entry e es) l ≡ insert_methods m (es ++ (e ∷ [])) l
  inserts_entry e {es} d l = inserts_last e d l ∙ sym (inserts_append m es (e ∷ []) l)
