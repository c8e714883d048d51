-- Ascending lists of file numbers: their members, that members determine them, and what is inserted and reached. Then the same by the bits of sets.
-- Assumes nothing.
use Prim.Native.Nat.{ℕ, zero, suc, ◌+◌, ◌*◌, ◌/◌, ◌≤◌, ◌<◌}
use native.Mathlib.Omega.{arith}
use native.Mathlib.Decide.{dec_lt, ℕ_discrete}
use native.Mathlib.Nat.{div-add-mod'}
use mathlib.Core.Path.{◌≡◌, refl, sym, ap, ◌∙◌}
use mathlib.Core.Bool.{Bool, true, false, cond}
use mathlib.Core.Option.{Option, none, some}
use mathlib.Core.List.{List, [], ◌∷◌}
use lib.ListN.{length, length-set}
use lib.Dec.{eqb}
use borrow.Author.Tests.{eq-eqb, ne_eqb, eqb-true, lt-ltb, le-ltb}
use Rattle.words.specs.Ast.{Document}
use Rattle.definition.specs.Book.{has_text}
use Rattle.definition.specs.DependencySolver.{dependencies, dependencies_of, find_document, insert_number, insert_numbers, reached_from, needed_in}
use Rattle.definition.specs.DependencySolver.{missing_by, all_in}
use Rattle.compiler_laws.specs.FileSets.{set_size, bit_of, add_bit, add_absent, add_bits, all_bits, all_known, SetIs, Below, Ascends}
use Rattle.compiler_laws.specs.SolverSteps.{InSets, Room, Distinct, files, reach_bits, Covers, Grows}
use Rattle.compiler_laws.proofs.SetBits.{add_bit_lem}

-- three cases of two numbers
pub data Order (a b : ℕ) : Type 0 where
  less : a < b → Order a b
  same : a ≡ b → Order a b
  more : b < a → Order a b

pub order : (a b : ℕ) → Order a b
order a b = go (dec_lt a b) (ℕ_discrete a b)
  where
    go : Dec (a < b) → Dec (a ≡ b) → Order a b
    go (yes l) d = less l
    go (no l) (yes q) = same q
    go (no l) (no q) = more (omega arith)

pub never : {A : Type 0} → true ≡ false → A
never h = let z : ◌≡◌ {A = ℕ} 0 1 = cc in absurd (omega arith)

-- members
pub has_head : (n : ℕ) (l : List ℕ) → has_text n (n ∷ l) ≡ true
has_head n l = rw (eq-eqb n n refl)

pub has_tail : (n x : ℕ) (l : List ℕ) → (x ≡ n → ⊥) → has_text n (x ∷ l) ≡ has_text n l
has_tail n x l ne = rw (ne_eqb x n ne)

pub has_not : (k : ℕ) (l : List ℕ) → Ascends k l → (m : ℕ) → m < k → has_text m l ≡ false
has_not k [] a m h = refl
has_not k (x ∷ xs) a m h = rw (ne_eqb x m (λ q. omega (arith, a.0))) (has_not (x + 1) xs a.1 m (omega (arith, a.0)))

pub has_insert : (m n : ℕ) (l : List ℕ) → has_text m (insert_number n l) ≡ cond (eqb n m) true (has_text m l)
has_insert m n [] = refl
has_insert m n (x ∷ xs) = go (order n x) (has_insert m n xs)
  where
    swap : (a b c : Bool) → cond a true (cond b true c) ≡ cond b true (cond a true c)
    swap true true c = refl
    swap true false c = refl
    swap false b c = refl

    twin : (a c : Bool) → cond a true c ≡ cond a true (cond a true c)
    twin true c = refl
    twin false c = refl

    go : Order n x → has_text m (insert_number n xs) ≡ cond (eqb n m) true (has_text m xs)
        → has_text m (insert_number n (x ∷ xs)) ≡ cond (eqb n m) true (has_text m (x ∷ xs))
    go (less l) ih = rw (lt-ltb n x l)
    go (same q) ih = rw (le-ltb n x (omega arith), eq-eqb n x q) (rw q (twin (eqb x m) (has_text m xs)))
    go (more l) ih = rw (le-ltb n x (omega arith), ne_eqb n x (λ q. omega arith), ih) (swap (eqb x m) (eqb n m) (has_text m xs))

-- a choice of two that is made twice
pub join : (a b c : Bool) → cond b true (cond a true c) ≡ cond (cond a true b) true c
join true true c = refl
join true false c = refl
join false b c = refl

-- s: whether a number stands. What is there of those that do not stand, and of others
or_new : (s a b c : Bool) → cond (cond s false b) true (cond (cond s false a) true c) ≡ cond (cond s false (cond a true b)) true c
or_new true a b c = refl
or_new false a b c = join a b c

-- one more: e, whether it is the number
one_stands : (s e b c : Bool) → (e ≡ true → s ≡ true) → cond (cond s false b) true c ≡ cond (cond s false (cond e true b)) true c
one_stands true e b c h = refl
one_stands false true b c h = never (sym (h refl))
one_stands false false b c h = refl

one_new : (s e b c : Bool) → (e ≡ true → s ≡ false) → cond (cond s false b) true (cond e true c) ≡ cond (cond s false (cond e true b)) true c
one_new true true b c h = never (h refl)
one_new true false b c h = refl
one_new false true true c h = refl
one_new false true false c h = refl
one_new false false b c h = refl

is_same : (n m : ℕ) (f : ℕ → Bool) {t : Bool} → f n ≡ t → eqb n m ≡ true → f m ≡ t
is_same n m f q e = ap f (sym (eqb-true n m e)) ∙ q

pub has_inserts : (stand : List ℕ) (m : ℕ) (ns l : List ℕ)
    → has_text m (insert_numbers stand ns l) ≡ cond (cond (has_text m stand) false (has_text m ns)) true (has_text m l)
has_inserts stand m [] l = go (has_text m stand)
  where
    go : (t : Bool) → has_text m l ≡ cond (cond t false false) true (has_text m l)
    go true = refl
    go false = refl
has_inserts stand m (n ∷ ns) l = go (has_text n stand) refl (has_inserts stand m ns)
  where
    go : (t : Bool) → has_text n stand ≡ t
        → ((k : List ℕ) → has_text m (insert_numbers stand ns k) ≡ cond (cond (has_text m stand) false (has_text m ns)) true (has_text m k))
        → has_text m (insert_numbers stand (n ∷ ns) l) ≡ cond (cond (has_text m stand) false (has_text m (n ∷ ns))) true (has_text m l)
    go true q ih =
        rw q (ih l ∙ one_stands (has_text m stand) (eqb n m) (has_text m ns) (has_text m l) (is_same n m (λ k. has_text k stand) q))
    go false q ih =
        rw q (ih (insert_number n l) ∙ ap (λ (t : Bool). cond (cond (has_text m stand) false (has_text m ns)) true t) (has_insert m n l)
        ∙ one_new (has_text m stand) (eqb n m) (has_text m ns) (has_text m l) (is_same n m (λ k. has_text k stand) q))

-- inserting keeps the order
pub insert_ascends : (k n : ℕ) (l : List ℕ) → Ascends k l → k ≤ n → Ascends k (insert_number n l)
insert_ascends k n [] a h = (h, tt)
insert_ascends k n (x ∷ xs) a h = go (order n x) (insert_ascends (x + 1) n xs a.1)
  where
    go : Order n x → (x + 1 ≤ n → Ascends (x + 1) (insert_number n xs)) → Ascends k (insert_number n (x ∷ xs))
    go (less l) ih = rw (lt-ltb n x l) (h, (omega arith, a.1))
    go (same q) ih = rw (le-ltb n x (omega arith), eq-eqb n x q) a
    go (more l) ih = rw (le-ltb n x (omega arith), ne_eqb n x (λ q. omega arith)) (a.0, ih (omega arith))

pub inserts_ascend : (stand ns l : List ℕ) → Ascends 0 l → Ascends 0 (insert_numbers stand ns l)
inserts_ascend stand [] l a = a
inserts_ascend stand (n ∷ ns) l a = inserts_ascend stand ns _ (go (has_text n stand))
  where
    go : (t : Bool) → Ascends 0 (cond t l (insert_number n l))
    go true = a
    go false = insert_ascends 0 n l a (omega arith)

pub reached_ascends : (stand : List ℕ) (ds : List Document) (ns l : List ℕ) → Ascends 0 l → Ascends 0 (reached_from stand ds ns l)
reached_ascends stand ds [] l a = a
reached_ascends stand ds (n ∷ ns) l a = reached_ascends stand ds ns _ (inserts_ascend stand (dependencies_of (find_document n ds)) l a)

-- and the range
pub insert_below : (n : ℕ) (l : List ℕ) → Below set_size l → n < set_size → Below set_size (insert_number n l)
insert_below n [] b h = (h, tt)
insert_below n (x ∷ xs) b h = go (order n x) (insert_below n xs b.1 h)
  where
    go : Order n x → Below set_size (insert_number n xs) → Below set_size (insert_number n (x ∷ xs))
    go (less l) ih = rw (lt-ltb n x l) (h, b)
    go (same q) ih = rw (le-ltb n x (omega arith), eq-eqb n x q) b
    go (more l) ih = rw (le-ltb n x (omega arith), ne_eqb n x (λ q. omega arith)) (b.0, ih)

pub inserts_below : (stand ns l : List ℕ) → Below set_size l → Below set_size ns → Below set_size (insert_numbers stand ns l)
inserts_below stand [] l b h = b
inserts_below stand (n ∷ ns) l b h = inserts_below stand ns _ (go (has_text n stand)) h.1
  where
    go : (t : Bool) → Below set_size (cond t l (insert_number n l))
    go true = b
    go false = insert_below n l b h.0

pub found_below : (n : ℕ) (ds : List Document) → InSets set_size ds → Below set_size (dependencies_of (find_document n ds))
found_below n [] s = tt
found_below n (d ∷ ds) s = go (eqb d.filename n) refl (found_below n ds s.2)
  where
    go : (t : Bool) → eqb d.filename n ≡ t → Below set_size (dependencies_of (find_document n ds)) → Below set_size (dependencies_of (find_document n (d ∷ ds)))
    go true q ih = rw q s.1
    go false q ih = rw q ih

pub reached_below : (stand : List ℕ) (ds : List Document) (ns l : List ℕ) → InSets set_size ds → Below set_size l
    → Below set_size (reached_from stand ds ns l)
reached_below stand ds [] l s b = b
reached_below stand ds (n ∷ ns) l s b =
    reached_below stand ds ns _ s (inserts_below stand (dependencies_of (find_document n ds)) l b (found_below n ds s))

-- ascending lists with the same members are the same
pub same_members : (k : ℕ) (a b : List ℕ) → Ascends k a → Ascends k b → Below set_size a → Below set_size b
    → ((m : ℕ) → m < set_size → has_text m a ≡ has_text m b) → a ≡ b
same_members k [] [] p q s t h = refl
same_members k [] (y ∷ ys) p q s t h = never (sym (has_head y ys) ∙ sym (h y t.0))
same_members k (x ∷ xs) [] p q s t h = never (sym (has_head x xs) ∙ h x s.0)
same_members k (x ∷ xs) (y ∷ ys) p q s t h = go (order x y) (same_members (x + 1) xs ys p.1)
  where
    Rest : Type 0
    Rest = Ascends (x + 1) ys → Below set_size xs → Below set_size ys → ((m : ℕ) → m < set_size → has_text m xs ≡ has_text m ys) → xs ≡ ys

    tails : x ≡ y → (m : ℕ) → m < set_size → Dec (x ≡ m) → has_text m xs ≡ has_text m ys
    tails e m l (yes r) =
        has_not (x + 1) xs p.1 m (omega arith) ∙ sym (has_not (y + 1) ys q.1 m (omega arith))
    tails e m l (no r) = sym (has_tail m x xs r) ∙ h m l ∙ has_tail m y ys (λ z. r (e ∙ z))

    go : Order x y → Rest → x ∷ xs ≡ y ∷ ys
    go (less l) ih = never (sym (has_head x xs) ∙ h x s.0 ∙ has_not y (y ∷ ys) (omega arith, q.1) x l)
    go (same e) ih =
        let r : xs ≡ ys = ih (rw e q.1) s.1 t.1 (λ m l. tails e m l (ℕ_discrete x m)) in
        cc
    go (more l) ih = never (sym (has_head y ys) ∙ sym (h y t.0) ∙ has_not x (x ∷ xs) (omega arith, p.1) y l)

-- whether one of the books of a list asks for a number: by the list, and by the documents
asks : List Document → List ℕ → ℕ → Bool
asks ds [] n = false
asks ds (m ∷ ms) n = cond (has_text n (dependencies_of (find_document m ds))) true (asks ds ms n)

asked : List Document → List ℕ → ℕ → Bool
asked [] l n = false
asked (d ∷ ds) l n = cond (has_text d.filename l) (cond (has_text n (dependencies d.definitions)) true (asked ds l n)) (asked ds l n)

has_reached : (stand : List ℕ) (ds : List Document) (ns l : List ℕ) (n : ℕ)
    → has_text n (reached_from stand ds ns l) ≡ cond (cond (has_text n stand) false (asks ds ns n)) true (has_text n l)
unfolding asks
has_reached stand ds [] l n = go (has_text n stand)
  where
    go : (t : Bool) → has_text n l ≡ cond (cond t false false) true (has_text n l)
    go true = refl
    go false = refl
has_reached stand ds (m ∷ ms) l n =
    let deps = dependencies_of (find_document m ds) in
    has_reached stand ds ms (insert_numbers stand deps l) n
    ∙ ap (λ (t : Bool). cond (cond (has_text n stand) false (asks ds ms n)) true t) (has_inserts stand n deps l)
    ∙ or_new (has_text n stand) (has_text n deps) (asks ds ms n) (has_text n l)

asks_none : (l : List ℕ) (n : ℕ) → asks [] l n ≡ false
unfolding asks
asks_none [] n = refl
asks_none (m ∷ ms) n = asks_none ms n

-- a document more, of a file number that no other has
asks_one : (d : Document) (ds : List Document) (l : List ℕ) (n : ℕ) → find_document d.filename ds ≡ none
    → asks (d ∷ ds) l n ≡ cond (has_text d.filename l) (cond (has_text n (dependencies d.definitions)) true (asks ds l n)) (asks ds l n)
unfolding asks
asks_one d ds [] n u = refl
asks_one d ds (m ∷ ms) n u = go (ℕ_discrete d.filename m) (asks_one d ds ms n u)
  where
    D : Bool
    D = has_text n (dependencies d.definitions)

    H : Bool
    H = has_text d.filename ms

    A : Bool
    A = asks ds ms n

    F : Bool
    F = has_text n (dependencies_of (find_document m ds))

    once : (e h a : Bool) → cond e true (cond h (cond e true a) a) ≡ cond e true a
    once true h a = refl
    once false true a = refl
    once false false a = refl

    aside : (f h e a : Bool) → cond f true (cond h (cond e true a) a) ≡ cond h (cond e true (cond f true a)) (cond f true a)
    aside true true true a = refl
    aside true true false a = refl
    aside true false e a = refl
    aside false h e a = refl

    go : Dec (d.filename ≡ m) → asks (d ∷ ds) ms n ≡ cond H (cond D true A) A
        → cond (has_text n (dependencies_of (find_document m (d ∷ ds)))) true (asks (d ∷ ds) ms n)
        ≡ cond (has_text d.filename (m ∷ ms)) (cond D true (cond F true A)) (cond F true A)
    go (yes q) ih =
        let z : find_document m ds ≡ none = ap (λ (k : ℕ). find_document k ds) (sym q) ∙ u in
        rw (eq-eqb d.filename m q, eq-eqb m d.filename (sym q), z, ih) (once D H A)
    go (no ne) ih = rw (ne_eqb d.filename m ne, ne_eqb m d.filename (λ q. ne (sym q)), ih) (aside F H D A)

asks_asked : (ds : List Document) (l : List ℕ) (n : ℕ) → Distinct ds → asks ds l n ≡ asked ds l n
unfolding asked
asks_asked [] l n u = asks_none l n
asks_asked (d ∷ ds) l n u = asks_one d ds l n u.0 ∙ rw (asks_asked ds l n u.1)

-- numbers into sets
word_in_lem : (bits : List ℕ) (n : ℕ) → n < length bits * 64 → n / 64 < length bits
word_in_lem bits n h = omega (arith, div-add-mod' n 64)

pub add_bit_length : (bits : List ℕ) (n : ℕ) → length (add_bit bits n) ≡ length bits
unfolding add_bit
add_bit_length bits n = go (bit_of bits n) refl
  where
    go : (t : Bool) → bit_of bits n ≡ t → length (add_bit bits n) ≡ length bits
    go true q = rw q
    go false q = rw q (length-set bits (n / 64) _)

absent_length : (standing bits : List ℕ) (n : ℕ) → length (add_absent standing bits n) ≡ length bits
absent_length standing bits n = go (bit_of standing n)
  where
    go : (t : Bool) → length (cond t bits (add_bit bits n)) ≡ length bits
    go true = refl
    go false = add_bit_length bits n

pub add_bits_length : (standing bits ns : List ℕ) → length (add_bits standing bits ns) ≡ length bits
add_bits_length standing bits [] = refl
add_bits_length standing bits (n ∷ ns) = add_bits_length standing (add_absent standing bits n) ns ∙ absent_length standing bits n

add_bits_lem : (standing bits ns : List ℕ) (m : ℕ) → Below (length bits * 64) ns
    → bit_of (add_bits standing bits ns) m ≡ cond (cond (bit_of standing m) false (has_text m ns)) true (bit_of bits m)
add_bits_lem standing bits [] m b = go (bit_of standing m)
  where
    go : (t : Bool) → bit_of bits m ≡ cond (cond t false false) true (bit_of bits m)
    go true = refl
    go false = refl
add_bits_lem standing bits (n ∷ ns) m b = go (bit_of standing n) refl (λ k w. add_bits_lem standing k ns m w)
  where
    go : (t : Bool) → bit_of standing n ≡ t
        → ((k : List ℕ) → Below (length k * 64) ns → bit_of (add_bits standing k ns) m ≡ cond (cond (bit_of standing m) false (has_text m ns)) true
        (bit_of k m))
        → bit_of (add_bits standing bits (n ∷ ns)) m ≡ cond (cond (bit_of standing m) false (has_text m (n ∷ ns))) true (bit_of bits m)
    go true q ih =
        rw q (ih bits b.1 ∙ one_stands (bit_of standing m) (eqb n m) (has_text m ns) (bit_of bits m) (is_same n m (λ k. bit_of standing k) q))
    go false q ih =
        rw q (ih (add_bit bits n) (rw (add_bit_length bits n) b.1)
        ∙ ap (λ (t : Bool). cond (cond (bit_of standing m) false (has_text m ns)) true t) (add_bit_lem bits n m (word_in_lem bits n b.0))
        ∙ one_new (bit_of standing m) (eqb n m) (has_text m ns) (bit_of bits m) (is_same n m (λ k. bit_of standing k) q))

pub reach_length : (standing set : List ℕ) (ds : List Document) (next : List ℕ) → length (reach_bits standing set ds next) ≡ length next
reach_length standing set [] next = refl
reach_length standing set (d ∷ ds) next = reach_length standing set ds _ ∙ go (bit_of set d.filename)
  where
    go : (t : Bool) → length (cond t (add_bits standing next (dependencies d.definitions)) next) ≡ length next
    go true = add_bits_length standing next (dependencies d.definitions)
    go false = refl

reach_bits_lem : (standing set l : List ℕ) (ds : List Document) (next : List ℕ) (m : ℕ) → SetIs set l → InSets set_size ds → Room next ds
    → bit_of (reach_bits standing set ds next) m ≡ cond (cond (bit_of standing m) false (asked ds l m)) true (bit_of next m)
unfolding asked
reach_bits_lem standing set l [] next m i r w = go (bit_of standing m)
  where
    go : (t : Bool) → bit_of next m ≡ cond (cond t false false) true (bit_of next m)
    go true = refl
    go false = refl
reach_bits_lem standing set l (d ∷ ds) next m i r w =
    go (bit_of set d.filename) refl (reach_bits_lem standing set l ds (add_bits standing next deps) m i r.2 (rw (add_bits_length standing next deps) w.2))
    (reach_bits_lem standing set l ds next m i r.2 w.2)
  where
    deps : List ℕ
    deps = dependencies d.definitions

    s : Bool
    s = bit_of standing m

    go : (t : Bool) → bit_of set d.filename ≡ t
        → bit_of (reach_bits standing set ds (add_bits standing next deps)) m ≡ cond (cond s false (asked ds l m)) true (bit_of (add_bits standing next deps) m)
        → bit_of (reach_bits standing set ds next) m ≡ cond (cond s false (asked ds l m)) true (bit_of next m)
        → bit_of (reach_bits standing set ds (cond (bit_of set d.filename) (add_bits standing next deps) next)) m
        ≡ cond (cond s false (cond (has_text d.filename l) (cond (has_text m deps) true (asked ds l m)) (asked ds l m))) true (bit_of next m)
    go true q a b =
        rw (q, sym (i.has d.filename r.0) ∙ q)
        (a ∙ ap (λ (t : Bool). cond (cond s false (asked ds l m)) true t) (add_bits_lem standing next deps m w.1)
        ∙ or_new s (has_text m deps) (asked ds l m) (bit_of next m))
    go false q a b = rw (q, sym (i.has d.filename r.0) ∙ q) b

-- `add`, `add_includes` and `reach` on sets
pub set_add : (bits l : List ℕ) (n : ℕ) → SetIs bits l → n < length bits * 64 → SetIs (add_bit bits n) (n ∷ l)
set_add bits l n i h = record { has = λ m g. add_bit_lem bits n m (word_in_lem bits n h) ∙ rw (i.has m g) }

pub set_adds : {standing stand : List ℕ} (bits l ns : List ℕ) → SetIs standing stand → SetIs bits l → Below (length bits * 64) ns
    → SetIs (add_bits standing bits ns) (insert_numbers stand ns l)
set_adds {standing} {stand} bits l ns s i b = record {
  has = λ m g. add_bits_lem standing bits ns m b ∙ rw (s.has m g, i.has m g) (sym (has_inserts stand m ns l));
}

pub set_reached : {standing stand : List ℕ} (set l next l' : List ℕ) (ds : List Document) → SetIs standing stand → SetIs set l → SetIs next l' → Distinct ds
    → InSets set_size ds → Room next ds → SetIs (reach_bits standing set ds next) (reached_from stand ds l l')
set_reached {standing} {stand} set l next l' ds s i j u r w = record {
  has = λ m g. reach_bits_lem standing set l ds next m i r w ∙ rw (s.has m g, j.has m g, ← asks_asked ds l m u) (sym (has_reached stand ds l l' m));
}

-- numbers that are added leave the others in
or_true : (b : Bool) {x : Bool} → x ≡ true → cond b true x ≡ true
or_true true h = refl
or_true false h = h

pub grows_same : (bits : List ℕ) → Grows bits bits
grows_same bits = record { stays = λ n h. h }

pub add_grows : (bits : List ℕ) (n : ℕ) → n < length bits * 64 → Grows bits (add_bit bits n)
add_grows bits n l = record { stays = λ m h. add_bit_lem bits n m (word_in_lem bits n l) ∙ or_true (eqb n m) h }

adds_grow : (standing bits ns : List ℕ) → Below (length bits * 64) ns → Grows bits (add_bits standing bits ns)
adds_grow standing bits ns b = record {
  stays = λ m h. add_bits_lem standing bits ns m b ∙ or_true (cond (bit_of standing m) false (has_text m ns)) h;
}

reach_grows : (standing set : List ℕ) (ds : List Document) (next : List ℕ) → Room next ds → Grows next (reach_bits standing set ds next)
reach_grows standing set [] next w = grows_same next
reach_grows standing set (d ∷ ds) next w =
    go (bit_of set d.filename) (reach_grows standing set ds (add_bits standing next deps) (rw (add_bits_length standing next deps) w.2))
    (reach_grows standing set ds next w.2)
  where
    deps : List ℕ
    deps = dependencies d.definitions

    go : (t : Bool) → Grows (add_bits standing next deps) (reach_bits standing set ds (add_bits standing next deps)) → Grows next
        (reach_bits standing set ds next)
        → Grows next (reach_bits standing set ds (cond t (add_bits standing next deps) next))
    go true a b = record { stays = λ m h. a.stays m ((adds_grow standing next deps w.1).stays m h) }
    go false a b = b

-- numbers that stand or are in a set
all_of : (standing bits ns : List ℕ) → ((m : ℕ) → has_text m ns ≡ true → cond (bit_of standing m) true (bit_of bits m) ≡ true) → all_known standing bits ns ≡
    true
all_of standing bits [] h = refl
all_of standing bits (n ∷ ns) h = rw (h n (has_head n ns)) (all_of standing bits ns (λ m e. h m (or_true (eqb n m) e)))

all_stay : (standing : List ℕ) {bits larger : List ℕ} (ns : List ℕ) → Grows bits larger → all_known standing bits ns ≡ true → all_known standing larger ns ≡
    true
all_stay standing [] g h = refl
all_stay standing {bits} {larger} (n ∷ ns) g h = go (bit_of standing n) (bit_of bits n) refl h (λ e. all_stay standing ns g e)
  where
    go : (s t : Bool) → bit_of bits n ≡ t → cond (cond s true t) (all_known standing bits ns) false ≡ true
        → (all_known standing bits ns ≡ true → all_known standing larger ns ≡ true)
        → cond (cond s true (bit_of larger n)) (all_known standing larger ns) false ≡ true
    go true t q e r = r e
    go false true q e r = rw (g.stays n q) (r e)
    go false false q e r = never (sym e)

pub added_already : (standing bits ns : List ℕ) → all_known standing bits ns ≡ true → add_bits standing bits ns ≡ bits
unfolding add_bit
added_already standing bits [] h = refl
added_already standing bits (n ∷ ns) h = go (bit_of standing n) (bit_of bits n) refl refl h (λ e. added_already standing bits ns e)
  where
    go : (s t : Bool) → bit_of standing n ≡ s → bit_of bits n ≡ t → cond (cond s true t) (all_known standing bits ns) false ≡ true
        → (all_known standing bits ns ≡ true → add_bits standing bits ns ≡ bits) → add_bits standing (add_absent standing bits n) ns ≡ bits
    go true t p q e r = rw p (r e)
    go false true p q e r = rw (p, q) (r e)
    go false false p q e r = never (sym e)

-- documents that were read: none at first; what they include stays in; and those of a set, once what they include is reached
pub covers_none : (standing read next : List ℕ) (ds : List Document) → SetIs read [] → InSets set_size ds → Covers standing read next ds
covers_none standing read next [] i s = tt
covers_none standing read next (d ∷ ds) i s = (λ h. never (sym h ∙ i.has d.filename s.0), covers_none standing read next ds i s.2)

covers_stay : (standing read next larger : List ℕ) (ds : List Document) → Grows next larger → Covers standing read next ds → Covers standing read larger ds
covers_stay standing read next larger [] g c = tt
covers_stay standing read next larger (d ∷ ds) g c =
    (λ h. all_stay standing (dependencies d.definitions) g (c.0 h), covers_stay standing read next larger ds g c.1)

pub covers_added : (standing read next ns : List ℕ) (ds : List Document) → Below (length next * 64) ns → Covers standing read next ds
    → Covers standing read (add_bits standing next ns) ds
covers_added standing read next ns ds b c = covers_stay standing read next (add_bits standing next ns) ds (adds_grow standing next ns b) c

pub covers_reached : (standing set : List ℕ) (ds : List Document) (next : List ℕ) → Room next ds → Covers standing set (reach_bits standing set ds next) ds
covers_reached standing set [] next w = tt
covers_reached standing set (d ∷ ds) next w = go (bit_of set d.filename) refl (λ next' w'. covers_reached standing set ds next' w')
  where
    deps : List ℕ
    deps = dependencies d.definitions

    added : Room (add_bits standing next deps) ds
    added = rw (add_bits_length standing next deps) w.2

    known : (s h b : Bool) → h ≡ true → cond s true (cond (cond s false h) true b) ≡ true
    known true h b e = refl
    known false h b e = ap (λ (t : Bool). cond t true b) e

    there : (m : ℕ) → has_text m deps ≡ true → cond (bit_of standing m) true (bit_of (add_bits standing next deps) m) ≡ true
    there m e =
        ap (λ (t : Bool). cond (bit_of standing m) true t) (add_bits_lem standing next deps m w.1) ∙ known (bit_of standing m) (has_text m deps) (bit_of next m)
        e

    go : (t : Bool) → bit_of set d.filename ≡ t
        → ((next' : List ℕ) → Room next' ds → Covers standing set (reach_bits standing set ds next') ds)
        → Covers standing set (reach_bits standing set ds (cond t (add_bits standing next deps) next)) (d ∷ ds)
    go true q r = (
      λ h. all_stay standing deps (reach_grows standing set ds (add_bits standing next deps) added) (all_of standing (add_bits standing next deps) deps there),
      r (add_bits standing next deps) added,
    )
    go false q r = (λ h. never (sym h ∙ q), r next w.2)

-- nothing new is reached: no further round finds more
pub needed_still : (stand : List ℕ) (k : ℕ) (ds : List Document) (l : List ℕ) → reached_from stand ds l l ≡ l → needed_in k stand ds l ≡ l
unfolding needed_in
needed_still stand zero ds l h = refl
needed_still stand (suc k) ds l h = ap (λ (x : List ℕ). needed_in k stand ds x) h ∙ needed_still stand k ds l h

-- numbers that are all in a set, by its words
pub all_bits_lem : (bits l ns : List ℕ) → SetIs bits l → Below set_size ns → all_bits bits ns ≡ all_in ns l
all_bits_lem bits l [] i b = refl
all_bits_lem bits l (n ∷ ns) i b = rw (i.has n b.0, all_bits_lem bits l ns i b.1)

-- whether a document is there, by the file numbers
pub missing_by_lem : (n : ℕ) (ds : List Document) (o : Option ℕ) → missing_by (find_document n ds) n o ≡ cond (has_text n (files ds)) o (some n)
missing_by_lem n [] o = refl
missing_by_lem n (d ∷ ds) o = go (eqb d.filename n) refl (missing_by_lem n ds o)
  where
    go : (t : Bool) → eqb d.filename n ≡ t → missing_by (find_document n ds) n o ≡ cond (has_text n (files ds)) o (some n)
        → missing_by (find_document n (d ∷ ds)) n o ≡ cond (has_text n (files (d ∷ ds))) o (some n)
    go true q ih = rw q
    go false q ih = rw q ih
