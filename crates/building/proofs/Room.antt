-- Entries given up: what the code clears. Assumes nothing.
use Rattle.std.proofs.Common.{◌≡◌, ℕ, suc, ◌+◌, ◌-◌, ◌*◌, ◌<◌, ◌≤◌, min, Bool, true, false, cond, leb, List, [], ◌∷◌, ◌++◌, length, set, replicate, sym, refl}
use Rattle.std.proofs.Common.{◌∙◌, append_assoc, arith}
use native.Mathlib.Decide.{dec_le}
use lib.ListN.{length-replicate, replicate-append-replicate}
use lib.Seq.{sets, length-sets, set_out}
use Rattle.std.proofs.lemmas.List.Edits.{sets-eq}
use Rattle.building.specs.Taking.{start_of, zeroed, given_up}
use borrow.Rule.Slice.PartMut.{mid_of, put_mid, mid_len, Post-is}

pub start_inside : (width i n : ℕ) → start_of width i n ≤ n
start_inside width i n = go (leb width 8)
  where
    go : (t : Bool) → cond t (min (i * width) n) 0 ≤ n
    go true = omega arith
    go false = omega arith

-- stores behind the end
sets_past : (w : List ℕ) (a : ℕ) (vs : List ℕ) → length w ≤ a → sets w a vs ≡ w
sets_past w a [] h = refl
sets_past w a (v ∷ vs) h = rw (set_out w a v h) (sets_past w (suc a) vs (omega arith))

sets_append : (w : List ℕ) (a : ℕ) (xs ys : List ℕ) → sets w a (xs ++ ys) ≡ sets (sets w a xs) (a + length xs) ys
sets_append w a [] ys = let e : a + 0 ≡ a = omega arith in rw e
sets_append w a (x ∷ xs) ys =
    let e : a + suc (length xs) ≡ suc a + length xs = omega arith in
    rw e (sets_append (set w a x) (suc a) xs ys)

-- a place behind the end is as good as the end
zeroed_end : (w : List ℕ) (a b : ℕ) → zeroed (min a (length w)) (min b (length w)) w ≡ zeroed a b w
zeroed_end w a b = go (dec_le a (length w)) (dec_le b (length w))
  where
    n : ℕ
    n = length w

    go : Dec (a ≤ n) → Dec (b ≤ n) → zeroed (min a n) (min b n) w ≡ zeroed a b w
    go (yes h) (yes k) =
        let e : min a n ≡ a = omega arith in
        let d : min b n ≡ b = omega arith in
        rw (e, d)
    go (yes h) (no k) =
        let e : min a n ≡ a = omega arith in
        let d : min b n ≡ n = omega arith in
        let s : b - a ≡ (n - a) + (b - n) = omega arith in
        rw (e, d, s, ← replicate-append-replicate {A = ℕ} (n - a) (b - n) 0, sets_append w a (replicate (n - a) 0) (replicate (b - n) 0))
        (sym (sets_past (sets w a (replicate (n - a) 0)) (a + length (replicate {A = ℕ} (n - a) 0)) (replicate (b - n) 0)
        (omega (arith, length-sets w a (replicate (n - a) 0), length-replicate {A = ℕ} (n - a) 0))))
    go (no h) k =
        let d : min b n - min a n ≡ 0 = omega arith in
        rw d (sym (sets_past w a (replicate (b - a) 0) (omega arith)))

-- what the code clears is what is given up
pub given_up_lem : (w : List ℕ) (width i count : ℕ) → zeroed (start_of width i (length w)) (start_of width count (length w)) w ≡ given_up width i count w
given_up_lem w width i count = go (leb width 8)
  where
    go : (t : Bool) → zeroed (cond t (min (i * width) (length w)) 0) (cond t (min (count * width) (length w)) 0) w
        ≡ cond t (zeroed (i * width) (count * width) w) w
    go true = zeroed_end w (i * width) (count * width)
    go false = refl

-- the part that the code fills, and where it fills none
pub cleared : (w : List ℕ) (a e : ℕ) {part : List ℕ} → a < e → e ≤ length w → part ≡ replicate (length (mid_of a (e - a) w)) 0
    → put_mid a (e - a) w part ≡ zeroed a e w
cleared w a e h l p =
    let n : length (replicate {A = ℕ} (e - a) 0) ≡ e - a = length-replicate {A = ℕ} (e - a) 0 in
    let k : a + (e - a) ≡ e = omega arith in
    let same : sets w a (replicate (e - a) 0) ≡ put_mid a (e - a) w (replicate (e - a) 0) =
    sets-eq (replicate (e - a) 0) w a (omega (arith, n)) ∙ rw (n, k, Post-is a e w (omega arith), append_assoc) in
    rw (p, mid_len a e w l) (sym same)

pub zero_end : (w : List ℕ) (i end : ℕ) → end ≤ i → zeroed i end w ≡ w
zero_end w i end h = let e : end - i ≡ 0 = omega arith in rw e
