-- The table of starts: step by step as `starts_of` makes it; it suits its memory; and the parts that it gives are the areas. Assumes nothing.
use mathlib.Core.Path.{◌≡◌, refl, sym, ap, subst, ◌∙◌}
use mathlib.Core.List.{List, [], ◌∷◌}
use mathlib.Core.Bool.{Bool, true, false}
use Prim.Native.Nat.{ℕ, zero, suc, ◌+◌, ◌-◌, ◌≤◌, ◌<◌, min}
use native.Mathlib.Omega.{arith}
use lib.ListN.{length, take, drop, get_or, set, length-drop, length-set, drop_of_length-le}
use native.Mathlib.Decide.{dec_lt}
use lib.Seq.{take_all, drop-drop, get_or-set_same, get_or-set_other}
use Rattle.std.proofs.lemmas.Grind.{same_number_lists}
use lib.Dec.{leb}
use borrow.Author.Tests.{leb-true, leb-false}
use Rattle.memory.specs.Layout.{areas_of, starts_from, starts_of, part, Fits}

-- the table's numbers: there is no area 0, the first part starts at 0, each further one where the one before it ends, and the memory's end is the last
pub starts_length : (size at : ℕ) (ns : List ℕ) → length (starts_from size at ns) ≡ length ns + 2
unfolding starts_from
starts_length size at [] = refl
starts_length size at (n ∷ ns) = omega (arith, starts_length size (min size (at + n)) ns)

pub next_start : (size at : ℕ) (ns : List ℕ) (i : ℕ) → i < length ns
    → get_or (starts_from size at ns) (suc i) 0 ≡ min size (get_or (starts_from size at ns) i 0 + get_or ns i 0)
unfolding starts_from
next_start size at [] i h = absurd (omega arith)
next_start size at (n ∷ []) zero h = refl
next_start size at (n ∷ (m ∷ ns)) zero h = refl
next_start size at (n ∷ ns) (suc i) h = next_start size (min size (at + n)) ns i (omega arith)

first_start : (size at : ℕ) (ns : List ℕ) → get_or (starts_from size at ns) 0 0 ≡ at
unfolding starts_from
first_start size at [] = refl
first_start size at (n ∷ ns) = refl

pub from_ends : (size at : ℕ) (ns : List ℕ) → get_or (starts_from size at ns) (suc (length ns)) 0 ≡ size
unfolding starts_from
from_ends size at [] = refl
from_ends size at (n ∷ ns) = from_ends size (min size (at + n)) ns

pub starts_begin : (l s : List ℕ) (size k : ℕ) → k < 2 → get_or (0 ∷ 0 ∷ s) k 0 ≡ get_or (starts_of l size) k 0
starts_begin l s size zero h = refl
starts_begin l s size (suc zero) h = sym (first_start size 0 l)
starts_begin l s size (suc (suc k)) h = absurd (omega arith)

pub starts_turn : (l s : List ℕ) (size i : ℕ) {v : ℕ} → i < length l → i + 2 < length s
    → ((k : ℕ) → k < i + 2 → get_or s k 0 ≡ get_or (starts_of l size) k 0) → v ≡ min size (get_or s (i + 1) 0 + get_or l i 0)
    → (k : ℕ) → k < i + 1 + 2 → get_or (set s (i + 2) v) k 0 ≡ get_or (starts_of l size) k 0
starts_turn l s size i {v} h inside same e k below = go (dec_lt k (i + 2))
  where
    there : get_or s (i + 1) 0 ≡ get_or (starts_from size 0 l) i 0
    there = let next : i + 1 ≡ suc i = omega arith in same (i + 1) (omega arith) ∙ ap (λ n. get_or (starts_of l size) n 0) next

    go : Dec (k < i + 2) → get_or (set s (i + 2) v) k 0 ≡ get_or (starts_of l size) k 0
    go (yes b) = get_or-set_other s (i + 2) k v 0 (λ q. omega arith) ∙ same k b
    go (no n) =
        let here : i + 2 ≡ k = omega arith in
        let next : suc (suc i) ≡ k = omega arith in
        subst (λ n. get_or (set s (i + 2) v) n 0 ≡ get_or (starts_of l size) k 0) here
        (get_or-set_same s (i + 2) v 0 inside ∙ e ∙ ap (λ n. min size (n + get_or l i 0)) there ∙ sym (next_start size 0 l i h)
        ∙ ap (λ n. get_or (starts_of l size) n 0) next)

pub starts_end : (l s : List ℕ) (size : ℕ) → length l ≡ 12 → length s ≡ 15
    → ((k : ℕ) → k < 14 → get_or s k 0 ≡ get_or (starts_of l size) k 0) → set s 14 size ≡ starts_of l size
starts_end l s size h long same =
    same_number_lists (set s 14 size) (starts_of l size) (length-set s 14 size ∙ omega (arith, starts_length size 0 l))
    (λ k b. go k (omega (arith, length-set s 14 size)) (dec_lt k 14))
  where
    go : (k : ℕ) → k < 15 → Dec (k < 14) → get_or (set s 14 size) k 0 ≡ get_or (starts_of l size) k 0
    go k b (yes below) = get_or-set_other s 14 k size 0 (λ q. omega arith) ∙ same k below
    go k b (no n) =
        let here : 14 ≡ k = omega arith in
        let end : suc (suc (length l)) ≡ k = omega arith in
        subst (λ n. get_or (set s 14 size) n 0 ≡ get_or (starts_of l size) k 0) here
        (get_or-set_same s 14 size 0 (omega arith) ∙ sym (from_ends size 0 l) ∙ ap (λ n. get_or (starts_of l size) n 0) end)

-- a table of starts as long as its lengths suits the memory: the starts ascend, and the last part ends at the memory's end
pub from_ascend : (size at : ℕ) (ns : List ℕ) → at ≤ size → (i : ℕ) → i < suc (length ns)
    → get_or (starts_from size at ns) i 0 ≤ get_or (starts_from size at ns) (suc i) 0
unfolding starts_from
from_ascend size at [] h zero g = h
from_ascend size at [] h (suc i) g = absurd (omega arith)
from_ascend size at (n ∷ []) h zero g = omega arith
from_ascend size at (n ∷ m ∷ ns) h zero g = omega arith
from_ascend size at (n ∷ ns) h (suc i) g = from_ascend size (min size (at + n)) ns (omega arith) i (omega arith)

pub starts_fit : (lengths : List ℕ) (size : ℕ) → length lengths ≡ 12 → Fits (starts_of lengths size) size
starts_fit lengths size h = record {
  ordered = λ i g. ascends i g;
  within = let q = from_ends size 0 lengths in let e = rw h at q in omega (arith, e);
}
  where
    ascends : (i : ℕ) → i < 14 → get_or (starts_of lengths size) i 0 ≤ get_or (starts_of lengths size) (suc i) 0
    ascends zero g = omega arith
    ascends (suc i) g = from_ascend size 0 lengths (omega arith) i (omega arith)

-- a length that passes the end is cut there
take_cut : (l : List ℕ) (at n size : ℕ) → at ≤ size → length l ≡ size - at → take (min size (at + n) - at) l ≡ take n l
take_cut l at n size h q = go (leb (at + n) size) refl
  where
    go : (t : Bool) → leb (at + n) size ≡ t → take (min size (at + n) - at) l ≡ take n l
    go true e =
        let z : min size (at + n) - at ≡ n = let e = leb-true (at + n) size e in omega (arith, e) in
        rw z refl
    go false e =
        let e = leb-false (at + n) size e in
        take_all (min size (at + n) - at) l (omega (arith, e, q)) ∙ sym (take_all n l (omega (arith, e, q)))

drop_cut : (l : List ℕ) (at n size : ℕ) → at ≤ size → length l ≡ size → drop (min size (at + n)) l ≡ drop n (drop at l)
drop_cut l at n size h q = go (leb (at + n) size) refl
  where
    go : (t : Bool) → leb (at + n) size ≡ t → drop (min size (at + n)) l ≡ drop n (drop at l)
    go true e =
        let z : min size (at + n) ≡ at + n = let e = leb-true (at + n) size e in omega (arith, e) in
        rw z (sym (drop-drop n at l))
    go false e =
        let e = leb-false (at + n) size e in
        drop_of_length-le l {i = min size (at + n)} (omega (arith, e, q)) ∙ sym (drop_of_length-le l {i = at + n} (omega (arith, e, q)))
        ∙ sym (drop-drop n at l)

from_areas : (m : List ℕ) (size at : ℕ) (ns : List ℕ) → length m ≡ size → at ≤ size → (i : ℕ) → i ≤ length ns
    → part (starts_from size at ns) i m ≡ get_or (areas_of ns (drop at m)) i []
unfolding starts_from areas_of part
from_areas m size at [] q h zero g = take_all (size - at) (drop at m) (simp length-drop (omega (arith, q)))
from_areas m size at [] q h (suc i) g = absurd (omega arith)
from_areas m size at (n ∷ ns) q h zero g =
    let l : length (drop at m) ≡ size - at = simp length-drop (omega (arith, q)) in
    rw (first_start size (min size (at + n)) ns) (take_cut (drop at m) at n size h l)
from_areas m size at (n ∷ ns) q h (suc i) g =
    let there = from_areas m size (min size (at + n)) ns q (omega arith) i (omega arith) in
    there ∙ ap (λ (l : List ℕ). get_or (areas_of ns l) i []) (drop_cut m at n size h q)

-- the part that the table gives for a number is the area of that number; the one behind the lengths is what is left over
pub part_is_area : (lengths memory : List ℕ) (i : ℕ) → i ≤ length lengths
    → part (starts_of lengths (length memory)) (suc i) memory ≡ get_or (areas_of lengths memory) i []
unfolding part
part_is_area lengths memory i h = from_areas memory (length memory) 0 lengths refl (omega arith) i h
