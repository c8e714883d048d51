-- What the compile loop needs of the solver's promises: zeros are an empty set, the books needed ascend and are in the range of texts, and those that
-- are left without one ascend, are there and wait as before. Assumes nothing.
use Prim.Native.Nat.{ℕ, zero, suc, ◌+◌, ◌/◌, ◌%◌, ◌^◌, ◌≤◌}
use native.Mathlib.Omega.{arith}
use native.Mathlib.Nat.{zero-div}
use mathlib.Core.Path.{◌≡◌, refl, ap, ◌∙◌}
use mathlib.Core.Bool.{Bool, true, false}
use mathlib.Core.Option.{Option, none, some}
use mathlib.Core.List.{List, [], ◌∷◌, ◌++◌}
use lib.ListN.{length, get_or, replicate}
use lib.Dec.{eqb}
use borrow.Author.Tests.{eq-eqb}
use Rattle.words.specs.Ast.{Document}
use Rattle.definition.specs.DependencySolver.{find_document, insert_numbers, missing, missing_by, needed, needed_in, reached_from, without}
use Rattle.compiler_laws.specs.FileSets.{set_size, bit_of, SetIs, Below, Ascends}
use Rattle.compiler_laws.specs.SolverSteps.{InSets, Grows, AllWait}
use Rattle.compiler_laws.proofs.FileLists.{inserts_ascend, inserts_below, reached_ascends, reached_below}
use Rattle.compiler_laws.proofs.WaitingBooks.{read_grows}

-- zeros are the empty set
zero_at : (k i : ℕ) → get_or (replicate {A = ℕ} k 0) i 0 ≡ 0
zero_at zero i = refl
zero_at (suc k) zero = refl
zero_at (suc k) (suc i) = zero_at k i

pub set_empty : (k : ℕ) → SetIs (replicate k 0) []
unfolding bit_of
set_empty k = record {
  has = λ n h. ap (λ (x : ℕ). eqb (x / 2 ^ (n % 64) % 2) 1) (zero_at k (n / 64)) ∙ ap (λ (x : ℕ). eqb (x % 2) 1) (zero-div (2 ^ (n % 64)));
}

-- the books needed
module _ (files : List ℕ) where
  rounds_ascend : (k : ℕ) (ds : List Document) (l : List ℕ) → Ascends 0 l → Ascends 0 (needed_in k files ds l)
  unfolding needed_in
  rounds_ascend zero ds l a = a
  rounds_ascend (suc k) ds l a = rounds_ascend k ds (reached_from files ds l l) (reached_ascends files ds l l a)

  rounds_below : (k : ℕ) (ds : List Document) (l : List ℕ) → InSets set_size ds → Below set_size l → Below set_size (needed_in k files ds l)
  unfolding needed_in
  rounds_below zero ds l s b = b
  rounds_below (suc k) ds l s b = rounds_below k ds (reached_from files ds l l) s (reached_below files ds l l s b)

  pub needed_ascends : (root : Document) (others : List Document) → Ascends 0 (needed files root others)
  needed_ascends root others =
      rounds_ascend (length (root ∷ others)) (root ∷ others) (insert_numbers files (root.filename ∷ []) [])
      (inserts_ascend files (root.filename ∷ []) [] tt)

  pub needed_below : (root : Document) (others : List Document) → InSets set_size (root ∷ others) → Below set_size (needed files root others)
  needed_below root others s =
      rounds_below (length (root ∷ others)) (root ∷ others) (insert_numbers files (root.filename ∷ []) []) s
      (inserts_below files (root.filename ∷ []) [] tt (s.0, tt))

-- those left without one
ascends_from : (j k : ℕ) (l : List ℕ) → j ≤ k → Ascends k l → Ascends j l
ascends_from j k [] h a = tt
ascends_from j k (x ∷ xs) h a = (omega (arith, a.0), a.1)

pub without_ascends : (k n : ℕ) (l : List ℕ) → Ascends k l → Ascends k (without n l)
without_ascends k n [] a = tt
without_ascends k n (x ∷ xs) a = go (eqb x n) refl (without_ascends (x + 1) n xs a.1)
  where
    go : (t : Bool) → eqb x n ≡ t → Ascends (x + 1) (without n xs) → Ascends k (without n (x ∷ xs))
    go true q r = rw q (ascends_from k (x + 1) xs (omega (arith, a.0)) a.1)
    go false q r = rw q (a.0, r)

pub without_missing : (ds : List Document) (n : ℕ) (l : List ℕ) → missing ds l ≡ none → missing ds (without n l) ≡ none
without_missing ds n [] m = refl
without_missing ds n (x ∷ xs) m = go (find_document x ds) refl m (eqb x n) refl (without_missing ds n xs)
  where
    go : (o : Option Document) → find_document x ds ≡ o → missing_by o x (missing ds xs) ≡ none → (t : Bool) → eqb x n ≡ t
        → (missing ds xs ≡ none → missing ds (without n xs) ≡ none) → missing ds (without n (x ∷ xs)) ≡ none
    go none q h t e r = let z : ◌≡◌ {A = ℕ} 0 1 = cc in absurd (omega arith)
    go (some d) q h true e r = rw e h
    go (some d) q h false e r = rw (e, q) (r h)

-- the words of those that wait, without that of one
pub record WaitSplit (ds : List Document) (tree : List ℕ) (end : ℕ) (set before later ws : List ℕ) : Type 0 where
  pub front : List ℕ
  pub word : ℕ
  pub back : List ℕ
  pub is : ws ≡ front ++ (word ∷ back)
  pub long : length front ≡ length before
  pub others : AllWait ds tree end set (before ++ later) (front ++ back)

pub wait_split : (ds : List Document) (tree : List ℕ) (end : ℕ) (set before : List ℕ) (n : ℕ) (later ws : List ℕ)
    → AllWait ds tree end set (before ++ (n ∷ later)) ws → WaitSplit ds tree end set before later ws
wait_split ds tree end set [] n later [] h = absurd h
wait_split ds tree end set [] n later (w ∷ ws) h = record { front = []; word = w; back = ws; is = refl; long = refl; others = h.1 }
wait_split ds tree end set (x ∷ before) n later [] h = absurd h
wait_split ds tree end set (x ∷ before) n later (w ∷ ws) h =
    let t = wait_split ds tree end set before n later ws h.1 in
    record {
      front = w ∷ t.front;
      word = t.word;
      back = t.back;
      is = ap (λ (l : List ℕ). w ∷ l) t.is;
      long = ap suc t.long;
      others = (h.0, t.others);
    }

-- where no book is left none waits
pub none_waits : (ds : List Document) (tree : List ℕ) (end : ℕ) (set ws : List ℕ) → AllWait ds tree end set [] ws → ws ≡ []
none_waits ds tree end set [] h = refl
none_waits ds tree end set (w ∷ ws) h = absurd h

-- more books are compiled
pub waits_grow : (ds : List Document) (tree : List ℕ) (end : ℕ) {set larger : List ℕ} (ns ws : List ℕ) → Grows set larger → AllWait ds tree end set ns ws
    → AllWait ds tree end larger ns ws
waits_grow ds tree end [] [] g h = tt
waits_grow ds tree end [] (w ∷ ws) g h = absurd h
waits_grow ds tree end (n ∷ ns) [] g h = absurd h
waits_grow ds tree end (n ∷ ns) (w ∷ ws) g h =
    (record { number = h.0.number; place = h.0.place; read = read_grows g h.0.read }, waits_grow ds tree end ns ws g h.1)

-- one fewer where it is there
pub without_length : (n : ℕ) (before later : List ℕ) → length (without n (before ++ (n ∷ later))) + 1 ≡ length (before ++ (n ∷ later))
without_length n [] later = rw (eq-eqb n n refl) (omega arith)
without_length n (x ∷ before) later = go (eqb x n) refl (without_length n before later)
  where
    go : (t : Bool) → eqb x n ≡ t → length (without n (before ++ (n ∷ later))) + 1 ≡ length (before ++ (n ∷ later))
        → length (without n (x ∷ (before ++ (n ∷ later)))) + 1 ≡ length (x ∷ (before ++ (n ∷ later)))
    go true q r = rw q (omega arith)
    go false q r = rw q (omega arith)
