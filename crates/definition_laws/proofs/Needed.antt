-- `needed` is the least set that holds the root and is closed under includes, whatever the bundle. Least: a round adds only what a closed set holds. Closed:
-- after a round that finds no further document of the bundle no round adds a number, and every other finds one at least, so as many rounds as there are
-- documents are enough. Assumes nothing.
use Prim.Native.Nat.{ℕ, zero, suc, ◌+◌, ◌≤◌, ◌<◌}
use native.Mathlib.Omega.{arith}
use native.Mathlib.Decide.{dec_lt}
use mathlib.Core.Path.{◌≡◌, refl, ap, subst}
use mathlib.Core.Bool.{Bool, true, false, cond}
use mathlib.Core.Option.{some}
use mathlib.Core.List.{List, [], ◌∷◌}
use lib.ListN.{length}
use lib.Dec.{T, eqb, ltb, eqb→eq, eqb_refl}
use Rattle.words.specs.Ast.{Document, IncludeDefinition}
use Rattle.definition.specs.Book.{has_text}
use Rattle.definition.specs.DependencySolver.{find_document, dependencies_of, insert_number, insert_numbers, reached_from, needed_in, needed}
use Rattle.definition.specs.Needed.{Closed, LeastClosed}

abbrev Has : List ℕ → ℕ → Type 0
Has l n = has_text n l ≡ true

never : {A : Type 0} → false ≡ true → A
never h = let z : ◌≡◌ {A = ℕ} 0 1 = cc in absurd (omega arith)

-- one number, whose test is known
has_here : (n x : ℕ) (l : List ℕ) → eqb x n ≡ true → Has (x ∷ l) n
has_here n x l e = rw e

has_later : (n x : ℕ) (l : List ℕ) → Has l n → Has (x ∷ l) n
has_later n x l h = go (eqb x n)
  where
    go : (b : Bool) → cond b true (has_text n l) ≡ true
    go true = refl
    go false = h

same_test : (n : ℕ) → eqb n n ≡ true
same_test n = go (eqb n n) (eqb_refl n)
  where
    go : (b : Bool) → T b → b ≡ true
    go true t = refl
    go false t = absurd t

same_number : (m n : ℕ) → eqb m n ≡ true → m ≡ n
same_number m n e = eqb→eq m n (rw e tt)

-- what holds of the first and of the members of the rest holds of all members
module _ (S : ℕ → Type 0) where
  each_cons : (x : ℕ) (l : List ℕ) → S x → ((m : ℕ) → Has l m → S m) → (m : ℕ) → Has (x ∷ l) m → S m
  each_cons x l s f m h = go (eqb x m) refl h
    where
      go : (b : Bool) → eqb x m ≡ b → cond b true (has_text m l) ≡ true → S m
      go true e k = subst S (same_number x m e) s
      go false e k = f m k

  insert_each : (n : ℕ) (l : List ℕ) → S n → ((m : ℕ) → Has l m → S m) → (m : ℕ) → Has (insert_number n l) m → S m
  insert_each n [] s f = each_cons n [] s f
  insert_each n (x ∷ xs) s f = go (ltb n x) (eqb n x) (insert_each n xs s (λ m h. f m (has_later m x xs h)))
    where
      go : (less same : Bool) → ((m : ℕ) → Has (insert_number n xs) m → S m) → (m : ℕ)
          → Has (cond less (n ∷ x ∷ xs) (cond same (x ∷ xs) (x ∷ insert_number n xs))) m → S m
      go true same ih = each_cons n (x ∷ xs) s f
      go false true ih = f
      go false false ih = each_cons x (insert_number n xs) (f x (has_here x x xs (same_test x))) ih

  inserts_each : (standing ns l : List ℕ) → ((m : ℕ) → Has ns m → has_text m standing ≡ false → S m) → ((m : ℕ) → Has l m → S m)
      → (m : ℕ) → Has (insert_numbers standing ns l) m → S m
  inserts_each standing [] l g f = f
  inserts_each standing (n ∷ ns) l g f = inserts_each standing ns _ (λ m h. g m (has_later m n ns h)) (go (has_text n standing) refl)
    where
      go : (b : Bool) → has_text n standing ≡ b → (m : ℕ) → Has (cond b l (insert_number n l)) m → S m
      go true e = f
      go false e = insert_each n l (g n (has_here n n ns (same_test n)) e) f

  reached_each : (standing : List ℕ) (ds : List Document) (ns l : List ℕ)
      → ((n m : ℕ) → Has ns n → Has (dependencies_of (find_document n ds)) m → has_text m standing ≡ false → S m) → ((m : ℕ) → Has l m → S m)
      → (m : ℕ) → Has (reached_from standing ds ns l) m → S m
  reached_each standing ds [] l g f = f
  reached_each standing ds (n ∷ ns) l g f =
      reached_each standing ds ns _ (λ k m h. g k m (has_later k n ns h))
      (inserts_each standing (dependencies_of (find_document n ds)) l (λ m. g n m (has_here n n ns (same_test n))) f)

-- what a list has stays, and what is asked for comes
insert_keeps : (m n : ℕ) (l : List ℕ) → Has l m → Has (insert_number n l) m
insert_keeps m n [] h = never h
insert_keeps m n (x ∷ xs) h = go (ltb n x) (eqb n x) (eqb x m) refl h (insert_keeps m n xs)
  where
    go : (less same here : Bool) → eqb x m ≡ here → cond here true (has_text m xs) ≡ true → (Has xs m → Has (insert_number n xs) m)
        → Has (cond less (n ∷ x ∷ xs) (cond same (x ∷ xs) (x ∷ insert_number n xs))) m
    go true same here e k ih = has_later m n (x ∷ xs) h
    go false true here e k ih = h
    go false false true e k ih = has_here m x (insert_number n xs) e
    go false false false e k ih = has_later m x (insert_number n xs) (ih k)

insert_has : (n : ℕ) (l : List ℕ) → Has (insert_number n l) n
insert_has n [] = has_here n n [] (same_test n)
insert_has n (x ∷ xs) = go (ltb n x) (eqb n x) refl (insert_has n xs)
  where
    go : (less same : Bool) → eqb n x ≡ same → Has (insert_number n xs) n
        → Has (cond less (n ∷ x ∷ xs) (cond same (x ∷ xs) (x ∷ insert_number n xs))) n
    go true same e ih = has_here n n (x ∷ xs) (same_test n)
    go false true e ih = has_here n x xs (rw (same_number n x e) (same_test x))
    go false false e ih = has_later n x (insert_number n xs) ih

inserts_keep : (standing : List ℕ) (m : ℕ) (ns l : List ℕ) → Has l m → Has (insert_numbers standing ns l) m
inserts_keep standing m [] l h = h
inserts_keep standing m (n ∷ ns) l h = inserts_keep standing m ns _ (go (has_text n standing))
  where
    go : (b : Bool) → Has (cond b l (insert_number n l)) m
    go true = h
    go false = insert_keeps m n l h

inserts_have : (standing : List ℕ) (m : ℕ) (ns l : List ℕ) → has_text m standing ≡ false → Has ns m → Has (insert_numbers standing ns l) m
inserts_have standing m [] l a h = never h
inserts_have standing m (n ∷ ns) l a h = go (eqb n m) refl h (inserts_have standing m ns _ a)
  where
    here : (k : ℕ) → k ≡ m → Has (cond (has_text k standing) l (insert_number k l)) m
    here k e = rw (e, a) (insert_has m l)

    go : (b : Bool) → eqb n m ≡ b → cond b true (has_text m ns) ≡ true → (Has ns m → Has (insert_numbers standing (n ∷ ns) l) m)
        → Has (insert_numbers standing (n ∷ ns) l) m
    go true e k ih = inserts_keep standing m ns _ (here n (same_number n m e))
    go false e k ih = ih k

reached_keeps : (standing : List ℕ) (ds : List Document) (m : ℕ) (ns l : List ℕ) → Has l m → Has (reached_from standing ds ns l) m
reached_keeps standing ds m [] l h = h
reached_keeps standing ds m (n ∷ ns) l h = reached_keeps standing ds m ns _ (inserts_keep standing m (dependencies_of (find_document n ds)) l h)

reached_has : (standing : List ℕ) (ds : List Document) (n m : ℕ) (ns l : List ℕ) → Has ns n → Has (dependencies_of (find_document n ds)) m
    → has_text m standing ≡ false → Has (reached_from standing ds ns l) m
reached_has standing ds n m [] l h d a = never h
reached_has standing ds n m (x ∷ ns) l h d a = go (eqb x n) refl h (λ k. reached_has standing ds n m ns _ k d a)
  where
    here : (k : ℕ) → k ≡ n → Has (insert_numbers standing (dependencies_of (find_document k ds)) l) m
    here k e = rw e (inserts_have standing m (dependencies_of (find_document n ds)) l a d)

    go : (b : Bool) → eqb x n ≡ b → cond b true (has_text n ns) ≡ true → (Has ns n → Has (reached_from standing ds (x ∷ ns) l) m)
        → Has (reached_from standing ds (x ∷ ns) l) m
    go true e k ih = reached_keeps standing ds m ns _ (here x (same_number x n e))
    go false e k ih = ih k

-- how many documents of the bundle a list has
abbrev count : Bool → ℕ
count true = 1
count false = 0

abbrev present : List ℕ → List Document → ℕ
present l [] = 0
present l (d ∷ ds) = count (has_text d.filename l) + present l ds

count_most : (b : Bool) → count b ≤ 1
count_most true = omega arith
count_most false = omega arith

present_most : (l : List ℕ) (ds : List Document) → present l ds ≤ length ds
present_most l [] = omega arith
present_most l (d ∷ ds) = omega (arith, present_most l ds, count_most (has_text d.filename l))

-- of two lists, one of which has what the other has
module _ (l l' : List ℕ) (more : (n : ℕ) → Has l n → Has l' n) where
  count_less : (n : ℕ) → count (has_text n l) ≤ count (has_text n l')
  count_less n = go (has_text n l) refl
    where
      go : (b : Bool) → has_text n l ≡ b → count b ≤ count (has_text n l')
      go true e = rw (more n e) (omega arith)
      go false e = omega arith

  present_less : (ds : List Document) → present l ds ≤ present l' ds
  present_less [] = omega arith
  present_less (d ∷ ds) = omega (arith, present_less ds, count_less d.filename)

  -- where the longer has no more documents, each that it has is in the other
  present_same : (ds : List Document) → present l' ds ≤ present l ds → (n m : ℕ) → Has l' n → Has (dependencies_of (find_document n ds)) m → Has l n
  present_same [] c n m h k = never k
  present_same (d ∷ ds) c n m h k = go (eqb d.filename n) refl k (present_same ds (omega (arith, c, count_less d.filename)) n m h)
    where
      held : (a b : Bool) → count b ≤ count a → b ≡ true → a ≡ true
      held true b q e = refl
      held false true q e = absurd (omega (arith, q))
      held false false q e = e

      go : (b : Bool) → eqb d.filename n ≡ b → Has (dependencies_of (cond b (some d) (find_document n ds))) m
          → (Has (dependencies_of (find_document n ds)) m → Has l n) → Has l n
      go true e r ih =
          let q : d.filename ≡ n = same_number d.filename n e in
          let c' : count (has_text d.filename l') ≤ count (has_text d.filename l) = omega (arith, c, present_less ds) in
          held (has_text n l) (has_text n l') (subst (λ (x : ℕ). count (has_text x l') ≤ count (has_text x l)) q c') h
      go false e r ih = ih r

-- the rounds
module _ (standing : List ℕ) (ds : List Document) where
  -- closed under includes
  Closing : List ℕ → Type 0
  Closing l = (n m : ℕ) → Has l n → Has (dependencies_of (find_document n ds)) m → has_text m standing ≡ false → Has l m

  round : List ℕ → List ℕ
  round l = reached_from standing ds l l

  round_keeps : (l : List ℕ) (n : ℕ) → Has l n → Has (round l) n
  unfolding round
  round_keeps l n = reached_keeps standing ds n l l

  -- a closed list stays closed
  closing_round : (l : List ℕ) → Closing l → Closing (round l)
  unfolding Closing round
  closing_round l c n m h d a = round_keeps l m (c n m (reached_each (Has l) standing ds l l c (λ k q. q) n h) d a)

  closing_rounds : (k : ℕ) (l : List ℕ) → Closing l → Closing (needed_in k standing ds l)
  unfolding needed_in round
  closing_rounds zero l c = c
  closing_rounds (suc k) l c = closing_rounds k (round l) (closing_round l c)

  -- a round that finds no further document closes the list
  quiet_round : (l : List ℕ) → present (round l) ds ≤ present l ds → Closing (round l)
  unfolding Closing round
  quiet_round l q n m h d a = reached_has standing ds n m l l (present_same l (round l) (round_keeps l) ds q n m h d) d a

  enough_rounds : (k : ℕ) (l : List ℕ) → length ds < k + present l ds → Closing (needed_in k standing ds l)
  unfolding needed_in round
  enough_rounds zero l h = absurd (omega (arith, h, present_most l ds))
  enough_rounds (suc k) l h = go (dec_lt (present l ds) (present (round l) ds)) (enough_rounds k (round l))
    where
      go : Dec (present l ds < present (round l) ds) → (length ds < k + present (round l) ds → Closing (needed_in k standing ds (round l)))
          → Closing (needed_in k standing ds (round l))
      go (yes q) ih = ih (omega (arith, h, q))
      go (no q) ih = closing_rounds k (round l) (quiet_round l (omega (arith, q)))

  rounds_keep : (k : ℕ) (l : List ℕ) (n : ℕ) → Has l n → Has (needed_in k standing ds l) n
  unfolding needed_in round
  rounds_keep zero l n h = h
  rounds_keep (suc k) l n h = rounds_keep k (round l) n (round_keeps l n h)

  rounds_each : (S : ℕ → Type 0) → ((n m : ℕ) → S n → Has (dependencies_of (find_document n ds)) m → has_text m standing ≡ false → S m)
      → (k : ℕ) (l : List ℕ) → ((n : ℕ) → Has l n → S n) → (n : ℕ) → Has (needed_in k standing ds l) n → S n
  unfolding needed_in round
  rounds_each S c zero l f = f
  rounds_each S c (suc k) l f = rounds_each S c k (round l) (reached_each S standing ds l l (λ n m h. c n m (f n h)) f)

-- the root
module _ (standing : List ℕ) (root : Document) (others : List Document) where
  first : List ℕ
  first = insert_numbers standing (root.filename ∷ []) []

  first_root : has_text root.filename standing ≡ false → Has first root.filename
  unfolding first
  first_root a = let n = root.filename in inserts_have standing n (n ∷ []) [] a (has_here n n [] (same_test n))

  first_none : has_text root.filename standing ≡ true → first ≡ []
  unfolding first
  first_none e = rw e

  pub needed_root : has_text root.filename standing ≡ false → Has (needed standing root others) root.filename
  unfolding first
  needed_root a = rounds_keep standing (root ∷ others) _ first root.filename (first_root a)

  pub needed_closed : (file include : ℕ) → Has (needed standing root others) file → Has (dependencies_of (find_document file (root ∷ others))) include
      → has_text include standing ≡ false → Has (needed standing root others) include
  unfolding first Closing
  needed_closed = go (has_text root.filename standing) refl
    where
      go : (b : Bool) → has_text root.filename standing ≡ b → Closing standing (root ∷ others) (needed standing root others)
      go true e = closing_rounds standing (root ∷ others) _ first (λ n m h. never (subst (λ (l : List ℕ). Has l n) (first_none e) h))
      go false e =
          let one : count (has_text root.filename first) ≡ 1 = ap count (first_root e) in
          enough_rounds standing (root ∷ others) _ first (omega (arith, one))

  pub needed_least : (S : ℕ → Type 0) → Closed standing root others S → (file : ℕ) → Has (needed standing root others) file → S file
  unfolding first
  needed_least S c = rounds_each standing (root ∷ others) S c.holds_includes _ first
      (inserts_each S standing (root.filename ∷ []) [] holds (λ m h. never h))
    where
      holds : (m : ℕ) → Has (root.filename ∷ []) m → has_text m standing ≡ false → S m
      holds m h a = each_cons (λ (k : ℕ). has_text k standing ≡ false → S k) root.filename [] c.holds_root (λ k q. never q) m h a

  pub needed_is_least : LeastClosed standing root others (needed standing root others)
  needed_is_least = record {
    closed = record { holds_root = needed_root; holds_includes = needed_closed };
    least = needed_least;
  }

-- Facts that fail of other lists. Book 2 includes 3, which the bundle lacks
abbrev includer : Document
includer = record { filename = 2; definitions = IncludeDefinition 1 (record { position = 0; kind = 11; value = 3 }) [] ∷ [] }

includer_needs : needed [] includer [] ≡ 2 ∷ 3 ∷ []
unfolding needed_in
includer_needs = refl

-- the root is held, its include is, and nothing else is
root_held : LeastClosed [] includer [] [] → ⊥
root_held c = never (c.closed.holds_root refl)

include_held : LeastClosed [] includer [] (2 ∷ []) → ⊥
include_held c = never (c.closed.holds_includes 2 3 refl refl refl)

no_other_held : LeastClosed [] includer [] (2 ∷ 3 ∷ 4 ∷ []) → ⊥
no_other_held c =
    let held : Has (needed [] includer []) 4 = c.least (Has (needed [] includer [])) (needed_is_least [] includer []).closed 4 refl in
    never (subst (λ (l : List ℕ). Has l 4) includer_needs held)

-- what stands is passed over
includer_onto : needed (3 ∷ []) includer [] ≡ 2 ∷ []
unfolding needed_in
includer_onto = refl
