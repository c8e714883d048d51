-- A table that is filled anew: constant i stands some slots from its home on and the slots before it hold earlier ones; as many slots are empty as there are
-- more than constants; one more constant in the pool is one more put; and a full table takes nothing. By induction over the constants. Assumes nothing.
use Prim.Native.Nat.{ℕ, zero, suc, ◌+◌, ◌-◌, ◌≤◌, ◌<◌, min}
use native.Mathlib.Nat.{zero-add}
use native.Mathlib.Omega.{arith}
use native.Mathlib.Decide.{dec_lt, ℕ_discrete}
use mathlib.Core.Path.{◌≡◌, refl, sym, ap, ◌∙◌, subst}
use mathlib.Core.Logic.{◌≢◌}
use mathlib.Core.List.{List, [], ◌∷◌, ◌++◌, append_assoc, append-nil}
use lib.ListN.{length, get_or, set, replicate, length-append, length-set, length-replicate, get_or-replicate, get_or-append}
use lib.Seq.{get_or-set_same, get_or-set_other, get_or-append_seam}
use borrow.Author.Tests.{lt-ltb}
use Rattle.words.specs.Areas.{entry_field}
use Rattle.words.specs.Object.{Constant, constant_of}
use Rattle.constant_slots.specs.Home.{home}
use Rattle.constant_slots.specs.Plain.{constant_at, constants_from, pool_of}
use Rattle.constant_slots.specs.Slots.{first_empty, put_slot, put_number, fill, slots_of}
use Rattle.constant_slots.proofs.Homes.{home_below}
use Rattle.constant_slots.proofs.Rounds.{slot_at, slot_below, empty_slots, all_empty, one_taken, First, first_from_lem, none_empty}

-- a constant that stands in no list
abbrev pub no_constant : Constant
no_constant = constant_of 0 0

-- constant i stands `far` slots from its home on, and those before it hold earlier ones
pub record Placed (n : ℕ) (slots : List ℕ) (i : ℕ) (c : Constant) : Type 0 where
  pub far : ℕ
  pub near : far < n
  pub holds : get_or slots (slot_at n (home n c) far) 0 ≡ i + 1
  pub before : (j : ℕ) → j < far → (0 < get_or slots (slot_at n (home n c) j) 0) × (get_or slots (slot_at n (home n c) j) 0 ≤ i)

pub record Fills (n : ℕ) (slots : List ℕ) (l : List Constant) : Type 0 where
  pub long : length slots ≡ n
  pub range : (p : ℕ) → p < n → get_or slots p 0 ≤ length l
  pub empty : empty_slots slots + length l ≡ n
  pub places : (i : ℕ) → i < length l → Placed n slots i (get_or l i no_constant)

fills_none : (n : ℕ) → Fills n (replicate n 0) []
fills_none n = record {
  long = length-replicate n 0;
  range = λ p h. omega (arith, get_or-replicate {A = ℕ} n p 0 0 h);
  empty = omega (arith, all_empty n);
  places = λ i h. absurd (omega arith);
}

fills_put : (n : ℕ) (slots : List ℕ) (l : List Constant) (c : Constant) → Fills n slots l → length l < n
    → Fills n (put_slot slots (length l) c) (l ++ (c ∷ []))
unfolding put_slot
fills_put n slots l c f h = subst (λ m. Fills n (set slots (first_empty m m slots (home m c)) (length l + 1)) (l ++ (c ∷ []))) (sym f.long) whole
  where
    b : home n c < n
    b = home_below n c (omega arith)

    q : First slots n (home n c) 0 (first_empty n n slots (home n c))
    q = first_from_lem slots n (home n c) f.long b (omega (arith, f.empty))

    p : ℕ
    p = slot_at n (home n c) q.far

    inside : p < length slots
    inside = omega (arith, slot_below n (home n c) q.far b q.near, f.long)

    after' : List ℕ
    after' = set slots p (length l + 1)

    longer : length (l ++ (c ∷ [])) ≡ length l + 1
    longer = length-append l (c ∷ [])

    same : get_or after' p 0 ≡ length l + 1
    same = get_or-set_same slots p (length l + 1) 0 inside

    other : (r : ℕ) → get_or slots r 0 ≢ 0 → get_or after' r 0 ≡ get_or slots r 0
    other r k = get_or-set_other slots p r (length l + 1) 0 (λ e. k (subst (λ v. get_or slots v 0 ≡ 0) (sym e) q.empty))

    old : (i : ℕ) → i < length l → Placed n after' i (get_or l i no_constant)
    old i k = let z = f.places i k in record {
      far = z.far;
      near = z.near;
      holds = other _ (λ e. omega (arith, z.holds)) ∙ z.holds;
      before = λ j y. let w = z.before j y in
          let e : get_or after' (slot_at n (home n (get_or l i no_constant)) j) 0 ≡ get_or slots (slot_at n (home n (get_or l i no_constant)) j) 0 =
          other _ (λ e. omega (arith, w.0)) in
          (omega (arith, w.0), omega (arith, w.1));
    }

    new : Placed n after' (length l) c
    new = record {
      far = q.far;
      near = q.near;
      holds = same;
      before = λ j y.
          let k : get_or slots (slot_at n (home n c) j) 0 ≢ 0 = q.before j (omega arith) y in
          let e : get_or after' (slot_at n (home n c) j) 0 ≡ get_or slots (slot_at n (home n c) j) 0 = other _ k in
          let r = f.range (slot_at n (home n c) j) (slot_below n (home n c) j b (omega (arith, q.near))) in
          (omega arith, omega arith);
    }

    place : (i : ℕ) → i < length (l ++ (c ∷ [])) → Dec (i < length l) → Placed n after' i (get_or (l ++ (c ∷ [])) i no_constant)
    place i k (yes y) = rw (get_or-append l (c ∷ []) no_constant i y) (old i y)
    place i k (no y) = let e : i ≡ length l = omega (arith, longer) in rw (e, get_or-append_seam l c [] no_constant) new

    in-range : (r : ℕ) → r < n → Dec (r ≡ p) → get_or after' r 0 ≤ length l + 1
    in-range r k (yes e) = rw e (omega (arith, same))
    in-range r k (no e) = omega (arith, get_or-set_other slots p r (length l + 1) 0 e, f.range r k)

    whole : Fills n (set slots (first_empty n n slots (home n c)) (length l + 1)) (l ++ (c ∷ []))
    whole = rw q.is (record {
      long = length-set slots p (length l + 1) ∙ f.long;
      range = λ r k. omega (arith, in-range r k (ℕ_discrete r p), longer);
      empty = omega (arith, longer, f.empty, one_taken slots p (length l) inside q.empty);
      places = λ i k. place i k (dec_lt i (length l));
    })

fills_all : (n : ℕ) (slots : List ℕ) (l cs : List Constant) (i : ℕ) → Fills n slots l → i ≡ length l → length l + length cs ≤ n
    → Fills n (fill i cs slots) (l ++ cs)
unfolding fill
fills_all n slots l [] i f e h = rw append-nil f
fills_all n slots l (c ∷ cs) i f e h =
    let g : Fills n (put_slot slots i c) (l ++ (c ∷ [])) = rw e (fills_put n slots l c f (omega arith)) in
    rw append_assoc at (fills_all n (put_slot slots i c) (l ++ (c ∷ [])) cs (i + 1) g (omega (arith, length-append l (c ∷ [])))
    (omega (arith, length-append l (c ∷ []))))

pub fills : (n : ℕ) (l : List Constant) → length l ≤ n → Fills n (slots_of n l) l
fills n l h = fills_all n (replicate n 0) [] l 0 (fills_none n) refl (omega arith)

-- filling keeps the number of slots
pub put_length : (slots : List ℕ) (i : ℕ) (c : Constant) → length (put_slot slots i c) ≡ length slots
unfolding put_slot
put_length slots i c = length-set slots (first_empty (length slots) (length slots) slots (home (length slots) c)) (i + 1)

pub fill_length : (cs : List Constant) (i : ℕ) (slots : List ℕ) → length (fill i cs slots) ≡ length slots
unfolding fill
fill_length [] i slots = refl
fill_length (c ∷ cs) i slots = fill_length cs (i + 1) (put_slot slots i c) ∙ put_length slots i c

-- one more constant takes its slot as in filling anew (reading 5.3): the table is at any time what filling anew gives
fill_grow : (cs : List Constant) (c : Constant) (i : ℕ) (slots : List ℕ) → fill i (cs ++ (c ∷ [])) slots ≡ put_slot (fill i cs slots) (i + length cs) c
unfolding fill
fill_grow [] c i slots = let z : i + 0 ≡ i = omega arith in rw z
fill_grow (d ∷ cs) c i slots =
    let z : i + 1 + length cs ≡ i + suc (length cs) = omega arith in
    fill_grow cs c (i + 1) (put_slot slots i d) ∙ ap (λ m. put_slot (fill (i + 1) cs (put_slot slots i d)) m c) z

pub slots_grow : (n : ℕ) (l : List Constant) (c : Constant) → slots_of n (l ++ (c ∷ [])) ≡ put_slot (slots_of n l) (length l) c
slots_grow n l c = fill_grow l c 0 (replicate n 0) ∙ ap (λ m. put_slot (slots_of n l) m c) (zero-add (length l))

-- the pool as a list
pub pool_length : (k i : ℕ) (w : List ℕ) → length (constants_from k i w) ≡ k
unfolding constants_from
pool_length zero i w = refl
pool_length (suc k) i w = ap suc (pool_length k (i + 1) w)

pub pool_at : (k i j : ℕ) (w : List ℕ) → j < k → get_or (constants_from k i w) j no_constant ≡ constant_at w (i + j)
unfolding constants_from
pool_at zero i j w h = absurd (omega arith)
pool_at (suc k) i zero w h = let z : i ≡ i + 0 = omega arith in ap (constant_at w) z
pool_at (suc k) i (suc j) w h = let z : i + 1 + j ≡ i + suc j = omega arith in pool_at k (i + 1) j w (omega arith) ∙ ap (constant_at w) z

pool_grows_from : (k i : ℕ) (w : List ℕ) → constants_from (suc k) i w ≡ constants_from k i w ++ (constant_at w (i + k) ∷ [])
unfolding constants_from
pool_grows_from zero i w = let z : i + 0 ≡ i = omega arith in rw z
pool_grows_from (suc k) i w =
    let z : i + 1 + k ≡ i + suc k = omega arith in
    ap (λ l. constant_at w i ∷ l) (pool_grows_from k (i + 1) w ∙ ap (λ m. constants_from k (i + 1) w ++ (constant_at w m ∷ [])) z)

pub pool_grows : (k : ℕ) (w : List ℕ) → pool_of (k + 1) w ≡ pool_of k w ++ (constant_at w k ∷ [])
pool_grows k w = let z : k + 1 ≡ suc k = omega arith in
    ap (λ m. pool_of m w) z ∙ pool_grows_from k 0 w ∙ ap (λ m. pool_of k w ++ (constant_at w m ∷ [])) (zero-add k)

pub filled_next : (n k : ℕ) (w : List ℕ) → put_slot (slots_of n (pool_of k w)) k (constant_at w k) ≡ slots_of n (pool_of (k + 1) w)
filled_next n k w =
    sym (ap (slots_of n) (pool_grows k w) ∙ slots_grow n (pool_of k w) (constant_at w k)
    ∙ ap (λ m. put_slot (slots_of n (pool_of k w)) m (constant_at w k)) (pool_length k 0 w))

-- a full table takes nothing
pub set_past : (l : List ℕ) (p v : ℕ) → length l ≤ p → set l p v ≡ l
set_past [] p v h = refl
set_past (x ∷ l) zero v h = absurd (omega arith)
set_past (x ∷ l) (suc p) v h = ap (λ (m : List ℕ). x ∷ m) (set_past l p v (omega arith))

pub full_put : (slots : List ℕ) (i : ℕ) (c : Constant) → empty_slots slots ≡ 0 → put_slot slots i c ≡ slots
unfolding put_slot
full_put [] i c e = refl
full_put (x ∷ l) i c e =
    let n : ℕ = length (x ∷ l) in
    let q : first_empty (length (x ∷ l)) (length (x ∷ l)) (x ∷ l) (home (length (x ∷ l)) c) ≡ length (x ∷ l) =
    none_empty (x ∷ l) (length (x ∷ l)) e refl (length (x ∷ l)) (home (length (x ∷ l)) c) (home_below (length (x ∷ l)) c (omega arith)) in
    ap (λ p. set (x ∷ l) p (i + 1)) q ∙ set_past (x ∷ l) (length (x ∷ l)) (i + 1) (omega arith)

pub filled_full : (n d : ℕ) (w : List ℕ) → slots_of n (pool_of n w) ≡ slots_of n (pool_of (n + d) w)
filled_full n zero w = let z : n + 0 ≡ n = omega arith in rw z
filled_full n (suc d) w =
    let before : slots_of n (pool_of n w) ≡ slots_of n (pool_of (n + d) w) = filled_full n d w in
    let f = fills n (pool_of n w) (omega (arith, pool_length n 0 w)) in
    let full : empty_slots (slots_of n (pool_of n w)) ≡ 0 = omega (arith, f.empty, pool_length n 0 w) in
    let z : n + d + 1 ≡ n + suc d = omega arith in
    sym (full_put (slots_of n (pool_of n w)) (n + d) (constant_at w (n + d)) full)
    ∙ ap (λ s. put_slot s (n + d) (constant_at w (n + d))) before ∙ filled_next n (n + d) w ∙ ap (λ m. slots_of n (pool_of m w)) z

-- the turns of `fill`: the table is what filling anew with the constants so far gives
pub filled_start : (n : ℕ) (slots w : List ℕ) → slots ≡ replicate n 0 → slots ≡ slots_of (length slots) (pool_of 0 w)
unfolding fill constants_from
filled_start n slots w e = e ∙ ap (λ m. replicate m 0) (sym (ap length e ∙ length-replicate n 0))

pub filled_again : (n k : ℕ) (w slots : List ℕ) {after : List ℕ} {kind value : ℕ} → slots ≡ slots_of n (pool_of k w) → k < 18446744073709551615
    → kind ≡ entry_field 3 k 0 w → value ≡ entry_field 3 k 1 w → after ≡ put_number slots k (constant_of kind value)
    → after ≡ slots_of n (pool_of (k + 1) w)
filled_again n k w slots {after} {kind} {value} e h a b p =
    let put : put_number slots k (constant_of kind value) ≡ put_slot slots k (constant_at w k) = rw (lt-ltb k 18446744073709551615 h, a, b) refl in
    p ∙ put ∙ ap (λ s. put_slot s k (constant_at w k)) e ∙ filled_next n k w

pub filled_early : (n m k count : ℕ) (w : List ℕ) {slots : List ℕ} → slots ≡ slots_of n (pool_of k w) → n ≡ m → k ≡ n → k ≤ count
    → slots ≡ slots_of m (pool_of count w)
filled_early n m k count w e a b h =
    let all : n + (count - n) ≡ count = omega arith in
    e ∙ ap (λ i. slots_of n (pool_of i w)) b ∙ filled_full n (count - n) w ∙ ap (λ i. slots_of n (pool_of i w)) all ∙ ap (λ i. slots_of i (pool_of count w)) a

-- all the constants, or as many as there are slots
pub filled_last : (n m k count : ℕ) (w : List ℕ) {slots : List ℕ} → slots ≡ slots_of n (pool_of k w) → n ≡ m → k ≡ min count n
    → slots ≡ slots_of m (pool_of count w)
filled_last n m k count w {slots} e a b = go (dec_lt n count)
  where
    go : Dec (n < count) → slots ≡ slots_of m (pool_of count w)
    go (yes h) = filled_early n m k count w e a (omega arith) (omega arith)
    go (no h) = let all : k ≡ count = omega arith in e ∙ ap (λ i. slots_of n (pool_of i w)) all ∙ ap (λ i. slots_of i (pool_of count w)) a
