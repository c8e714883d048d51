-- Words below a place stay: by what each write leaves of the other words. Assumes nothing.
use Rattle.std.proofs.Common.{◌≡◌, ℕ, zero, suc, ◌+◌, ◌-◌, ◌*◌, ◌<◌, ◌≤◌, Bool, true, false, cond, eqb, leb, List, [], ◌∷◌, ◌++◌, length, get_or, take, set}
use Rattle.std.proofs.Common.{replicate, sym, refl, ap, ◌∙◌, subst, arith, get_or-set_other, ltb-true, eqb-true, leb-true}
use lib.Seq.{sets}
use Rattle.words.specs.Areas.{set_entry, write_entry, write_word, word_fits, most_width}
use Rattle.building.specs.declared.taking.Taken.{Taken}
use Rattle.building.specs.Taking.{Took, has_room, taken_of, taken, took_words, zeroed, given_up}
use Rattle.building.proofs.Filling.{room_fits}
use Rattle.undo.specs.Stood.{kept_of, Stood, Spares}

pub spares_refl : {area full below : ℕ} (w : List ℕ) → Spares area full below w w
spares_refl w = record { kept = λ k h. refl }

pub spares_then : {area full full' below : ℕ} {w w₁ w₂ : List ℕ} → (full' ≡ 0 → full ≡ 0) → Spares area full below w w₁ → Spares area full' below w₁ w₂
    → Spares area full below w w₂
spares_then back a b = record { kept = λ k h. b.kept k (λ z. h (back z)) ∙ a.kept k h }

-- so what stood stays, where it stood below that place
pub stood_spared : {area full below : ℕ} {before w w' : List ℕ} → Stood area before w → (full ≡ 0 → length before ≤ below) → Spares area full below w w'
    → Stood area before w'
stood_spared s h p = record { kept = λ k l. p.kept k (λ z. let y = h z in omega arith) ∙ s.kept k l }

-- nothing stood
pub stood_nothing : {area : ℕ} {before : List ℕ} (w : List ℕ) → length before ≡ 0 → Stood area before w
stood_nothing w e = record { kept = λ k l. absurd (omega arith) }

-- one area anew
pub stood_put : (others : ℕ → List ℕ) (i j : ℕ) {x y : List ℕ} (t : Bool) → eqb i j ≡ t → Stood i (others i) x → Stood j (others j) y
    → Stood j (others j) (cond t x y)
stood_put others i j {x} true e new old = subst (λ (n : ℕ). Stood n (others n) x) (eqb-true i j e) new
stood_put others i j false e new old = old

-- the constants and their slots anew: nothing stood in the slots
pub stood_added : (others before after : ℕ → List ℕ) (j : ℕ) → Stood 2 (others 2) (after 2) → length (others 13) ≡ 0
    → (eqb j 2 ≡ false → eqb j 13 ≡ false → after j ≡ before j) → Stood j (others j) (before j) → Stood j (others j) (after j)
stood_added others before after j new none_stood same old = go (eqb j 2) refl (eqb j 13) refl
  where
    go : (s : Bool) → eqb j 2 ≡ s → (t : Bool) → eqb j 13 ≡ t → Stood j (others j) (after j)
    go true e t p = subst (λ (n : ℕ). Stood n (others n) (after n)) (sym (eqb-true j 2 e)) new
    go false e true p = stood_nothing (after j) (ap (λ (n : ℕ). length (others n)) (eqb-true j 13 p) ∙ none_stood)
    go false e false p = subst (Stood j (others j)) (sym (same e p)) old

-- an entry
take_below : (n k : ℕ) (w r : List ℕ) → k < n → n ≤ length w → get_or (take n w ++ r) k 0 ≡ get_or w k 0
take_below zero k w r h l = absurd (omega arith)
take_below (suc n) k [] r h l = absurd (omega arith)
take_below (suc n) zero (x ∷ w) r h l = refl
take_below (suc n) (suc k) (x ∷ w) r h l = take_below n k w r (omega arith) (omega arith)

pub spares_took : (area full count below : ℕ) (entry w : List ℕ) → (full ≡ 0 → below ≤ count * length entry)
    → Spares area full below w (took_words full count entry w)
spares_took area full count below entry w h =
    record { kept = λ k l. ap (kept_of area k) (go k l (eqb full 0) refl (has_room (length entry) count (length w)) refl) }
  where
    go : (k : ℕ) → (full ≡ 0 → k < below) → (t : Bool) → eqb full 0 ≡ t → (r : Bool) → has_room (length entry) count (length w) ≡ r
        → get_or (cond t (cond r (set_entry (length entry) count entry w) w) w) k 0 ≡ get_or w k 0
    go k l false e r p = refl
    go k l true e false p = refl
    go k l true e true p =
        let z : full ≡ 0 = eqb-true full 0 e in
        let room = room_fits (length entry) count (length w) (ltb-true count _ p) in
        let low : k < below = l z in
        let far : below ≤ count * length entry = h z in
        take_below (count * length entry) k w _ (omega (arith, low, far)) (omega (arith, room))

pub took_spares : {area full count : ℕ} {entry w w' : List ℕ} {r : Taken} → Took area full count entry w r w' → Spares area full (count * length entry) w w'
took_spares {area} {full} {count} {entry} {w} T = rw T.words (spares_took area full count (count * length entry) entry w (λ z. omega arith))

-- the mark and the count after it
pub taken_back : (area width full count n : ℕ) → (taken_of area width full count n).full ≡ 0 → full ≡ 0
taken_back area width full count n = go (eqb full 0) refl (has_room width count n)
  where
    go : (t : Bool) → eqb full 0 ≡ t → (r : Bool) → (cond t (cond r (taken full (count + 1)) (taken area count)) (taken full count)).full ≡ 0 → full ≡ 0
    go false e r z = z
    go true e r z = eqb-true full 0 e

pub taken_on : (area width full count n : ℕ) → count ≤ (taken_of area width full count n).count
taken_on area width full count n = go (eqb full 0) (has_room width count n)
  where
    go : (t r : Bool) → count ≤ (cond t (cond r (taken full (count + 1)) (taken area count)) (taken full count)).count
    go false r = omega arith
    go true false = omega arith
    go true true = omega arith

-- an entry anew, at a width of 2
pub spares_entry : (area full i below : ℕ) (entry w : List ℕ) → full ≡ 0 → below ≤ i * 2 → Spares area full below w (write_entry 2 i entry w)
spares_entry area full i below entry w z h = record { kept = λ k l. ap (kept_of area k) (go k (l z) (leb (i * 2 + 2) (length w)) refl) }
  where
    go : (k : ℕ) → k < below → (t : Bool) → leb (i * 2 + 2) (length w) ≡ t → get_or (cond t (set_entry 2 i entry w) w) k 0 ≡ get_or w k 0
    go k l false e = refl
    go k l true e =
        let fits : i * 2 + 2 ≤ length w = leb-true (i * 2 + 2) (length w) e in
        take_below (i * 2) k w _ (omega (arith, l, h)) (omega (arith, fits))

-- a word anew, from a place on
pub spares_word : (area full below width i j value : ℕ) (w : List ℕ)
    → ((k : ℕ) → (full ≡ 0 → k < below) → k ≡ i * width + j → ⊥) → Spares area full below w (write_word width i j value w)
spares_word area full below width i j value w h = record { kept = λ k l. ap (kept_of area k) (go k (h k l) (word_fits width i j (length w))) }
  where
    go : (k : ℕ) → (k ≡ i * width + j → ⊥) → (t : Bool) → get_or (cond t (set w (i * width + j) value) w) k 0 ≡ get_or w k 0
    go k n false = refl
    go k n true = get_or-set_other w (i * width + j) k value 0 n

-- entries given up
sets_below : (vs w : List ℕ) (a k : ℕ) → k < a → get_or (sets w a vs) k 0 ≡ get_or w k 0
sets_below [] w a k h = refl
sets_below (v ∷ vs) w a k h = sets_below vs (set w a v) (suc a) k (omega arith) ∙ get_or-set_other w a k v 0 (λ e. omega arith)

pub spares_given : (area full below width i count : ℕ) (w : List ℕ) → full ≡ 0 → below ≤ i * width → Spares area full below w (given_up width i count w)
spares_given area full below width i count w z h = record { kept = λ k l. ap (kept_of area k) (go k (l z) (leb width most_width)) }
  where
    go : (k : ℕ) → k < below → (t : Bool) → get_or (cond t (zeroed (i * width) (count * width) w) w) k 0 ≡ get_or w k 0
    go k l false = refl
    go k l true = sets_below (replicate (count * width - i * width) 0) w (i * width) k (omega (arith, l, h))
