-- The passes of `Check`, step by step, with no fuel. Assumes nothing.
use mathlib.Core.Path.{◌≡◌, refl, sym, ap, ◌∙◌}
use mathlib.Core.Bool.{Bool, true, false}
use mathlib.Core.List.{List}
use Prim.Native.Nat.{ℕ, zero, suc, ◌+◌, ◌-◌, ◌≤◌, ◌<◌}
use native.Mathlib.Omega.{arith}
use native.Mathlib.Decide.{dec_lt, dec_le}
use borrow.Author.Tests.{lt-ltb, le-ltb, le-leb, lt-leb}
use Rattle.std.specs.Prelude.{Result, Ok, Err}
use Rattle.words.specs.declared.row.Row.TheVariants.{BadShape, TooDeep}
use Rattle.words.specs.declared.row.Refused.{Refused}
use Rattle.tree.specs.Rules.{may_stand, slot_after, is_due, first_slot}
use Rattle.words.specs.Record.{kind_at, span_at, value_at, most_levels}
use Rattle.tree.specs.Check.{within_of, lacks_by, lacks_of, this_after, sound_at, head_at, then_on, walk_by, walk_of, refused}
use Rattle.tree.proofs.Spans.{and_left, and_right, within_true}

-- children, span after span

lacks_by_done : (n : ℕ) (w : List ℕ) (s j e : ℕ) → e ≤ j → lacks_by n w s j e ≡ is_due s
unfolding lacks_by
lacks_by_done zero w s j e h = refl
lacks_by_done (suc n) w s j e h = simp (le-ltb j e h)

lacks_by_stop : (n : ℕ) (w : List ℕ) (s j e : ℕ) → j < e → within_of j (span_at w j) e ≡ false → lacks_by (suc n) w s j e ≡ false
unfolding lacks_by
lacks_by_stop n w s j e h f = simp (lt-ltb j e h, f)

lacks_by_on : (n : ℕ) (w : List ℕ) (s j e : ℕ) → j < e → within_of j (span_at w j) e ≡ true
    → lacks_by (suc n) w s j e ≡ lacks_by n w (slot_after s (kind_at w j)) (j + span_at w j) e
unfolding lacks_by
lacks_by_on n w s j e h f = simp (lt-ltb j e h, f)

lacks_fuel : (n m : ℕ) (w : List ℕ) (s j e : ℕ) → e - j ≤ n → e - j ≤ m → lacks_by n w s j e ≡ lacks_by m w s j e
lacks_fuel zero m w s j e a b = lacks_by_done zero w s j e (omega arith) ∙ sym (lacks_by_done m w s j e (omega arith))
lacks_fuel (suc n) zero w s j e a b = lacks_by_done (suc n) w s j e (omega arith) ∙ sym (lacks_by_done zero w s j e (omega arith))
lacks_fuel (suc n) (suc m) w s j e a b = go (dec_lt j e) (within_of j (span_at w j) e) refl
    (λ h x. lacks_fuel n m w (slot_after s (kind_at w j)) (j + span_at w j) e)
  where
    go : Dec (j < e) → (t : Bool) → within_of j (span_at w j) e ≡ t
        → (j < e → within_of j (span_at w j) e ≡ true → e - (j + span_at w j) ≤ n → e - (j + span_at w j) ≤ m
        → lacks_by n w (slot_after s (kind_at w j)) (j + span_at w j) e ≡ lacks_by m w (slot_after s (kind_at w j)) (j + span_at w j) e)
        → lacks_by (suc n) w s j e ≡ lacks_by (suc m) w s j e
    go (no h) t f r = lacks_by_done (suc n) w s j e (omega arith) ∙ sym (lacks_by_done (suc m) w s j e (omega arith))
    go (yes h) false f r = lacks_by_stop n w s j e h f ∙ sym (lacks_by_stop m w s j e h f)
    go (yes h) true f r =
        let x = within_true j (span_at w j) e f in
        lacks_by_on n w s j e h f ∙ r h f (omega arith) (omega arith) ∙ sym (lacks_by_on m w s j e h f)

pub lacks_done : (w : List ℕ) (s j e : ℕ) → e ≤ j → lacks_of w s j e ≡ is_due s
lacks_done w s j e h = lacks_by_done (e - j) w s j e h

pub lacks_stop : (w : List ℕ) (s j e : ℕ) → j < e → within_of j (span_at w j) e ≡ false → lacks_of w s j e ≡ false
lacks_stop w s j e h f = lacks_fuel (e - j) (suc (e - j)) w s j e (omega arith) (omega arith) ∙ lacks_by_stop (e - j) w s j e h f

pub lacks_on : (w : List ℕ) (s j e : ℕ) → j < e → within_of j (span_at w j) e ≡ true → lacks_of w s j e ≡ lacks_of w (slot_after s (kind_at w j))
    (j + span_at w j) e
lacks_on w s j e h f =
    let x = within_true j (span_at w j) e f in
    lacks_fuel (e - j) (suc (e - j)) w s j e (omega arith) (omega arith) ∙ lacks_by_on (e - j) w s j e h f
    ∙ lacks_fuel (e - j) (e - (j + span_at w j)) w (slot_after s (kind_at w j)) (j + span_at w j) e (omega arith) (omega arith)

-- a record by itself

pub sound_within : (w : List ℕ) (s t i e : ℕ) → sound_at w s t i e ≡ true → within_of i (span_at w i) e ≡ true
unfolding sound_at
sound_within w s t i e h = and_left _ _ (and_right (may_stand s (kind_at w i)) _ h)

pub head_unsound : (w : List ℕ) (s l t i e : ℕ) → sound_at w s t i e ≡ false → head_at w s l t i e ≡ refused BadShape i
unfolding head_at
head_unsound w s l t i e h = simp h

pub head_deep : (w : List ℕ) (s l t i e : ℕ) → sound_at w s t i e ≡ true → most_levels < l → head_at w s l t i e ≡ refused TooDeep i
unfolding head_at
head_deep w s l t i e h d = simp (h, lt-leb l most_levels d)

pub head_fine : (w : List ℕ) (s l t i e : ℕ) → sound_at w s t i e ≡ true → l ≤ most_levels → head_at w s l t i e ≡ Ok
    (this_after (kind_at w i) (value_at w i) t)
unfolding head_at
head_fine w s l t i e h d = simp (h, le-leb l most_levels d)

-- what is known where a record is not at fault
pub record Stands (w : List ℕ) (s l t i e u : ℕ) : Type 0 where
  pub sound : sound_at w s t i e ≡ true
  pub level : l ≤ most_levels
  pub this : u ≡ this_after (kind_at w i) (value_at w i) t

pub went_inj : {a b : ℕ} → ◌≡◌ {A = Result ℕ Refused} (Ok a) (Ok b) → a ≡ b
went_inj e = cc

pub head_went : (w : List ℕ) (s l t i e u : ℕ) → head_at w s l t i e ≡ Ok u → Stands w s l t i e u
head_went w s l t i e u h = go (sound_at w s t i e) refl (dec_le l most_levels)
  where
    go : (b : Bool) → sound_at w s t i e ≡ b → Dec (l ≤ most_levels) → Stands w s l t i e u
    go false f d = let g : head_at w s l t i e ≡ refused BadShape i = head_unsound w s l t i e f in let z : ◌≡◌ {A = ℕ} 0 1 = cc in absurd (omega arith)
    go true f (no d) = let g : head_at w s l t i e ≡ refused TooDeep i = head_deep w s l t i e f (omega arith) in let z : ◌≡◌ {A = ℕ} 0 1 = cc in absurd (omega arith)
    go true f (yes d) = record { sound = f; level = d; this = went_inj (sym h ∙ head_fine w s l t i e f d) }

-- a run of records

then_same : (h : Result ℕ Refused) (F G : ℕ → Result ℕ Refused) → ((t : ℕ) → h ≡ Ok t → F t ≡ G t) → then_on h F ≡ then_on h G
then_same (Ok t) F G f = f t refl
then_same (Err found) F G f = refl

walk_by_done : (n : ℕ) (w : List ℕ) (s l t i e : ℕ) → e ≤ i → walk_by n w s l t i e ≡ Ok t
unfolding walk_by
walk_by_done zero w s l t i e h = refl
walk_by_done (suc n) w s l t i e h = simp (le-ltb i e h)

abbrev on : ℕ → List ℕ → ℕ → ℕ → ℕ → ℕ → ℕ → Result ℕ Refused
on n w s l t i e =
    then_on (walk_by n w (first_slot (kind_at w i)) (l + 1) t (i + 1) (i + span_at w i))
    (λ t₂. walk_by n w (slot_after s (kind_at w i)) l t₂ (i + span_at w i) e)

walk_by_on : (n : ℕ) (w : List ℕ) (s l t i e : ℕ) → i < e → walk_by (suc n) w s l t i e ≡ then_on (head_at w s l t i e) (λ t₁. on n w s l t₁ i e)
unfolding walk_by
walk_by_on n w s l t i e h = simp (lt-ltb i e h)

walk_fuel : (n m : ℕ) (w : List ℕ) (s l t i e : ℕ) → e - i ≤ n → e - i ≤ m → walk_by n w s l t i e ≡ walk_by m w s l t i e
walk_fuel zero m w s l t i e a b = walk_by_done zero w s l t i e (omega arith) ∙ sym (walk_by_done m w s l t i e (omega arith))
walk_fuel (suc n) zero w s l t i e a b = walk_by_done (suc n) w s l t i e (omega arith) ∙ sym (walk_by_done zero w s l t i e (omega arith))
walk_fuel (suc n) (suc m) w s l t i e a b = go (dec_lt i e) (walk_fuel n m w)
  where
    go : Dec (i < e) → ((s l t i e : ℕ) → e - i ≤ n → e - i ≤ m → walk_by n w s l t i e ≡ walk_by m w s l t i e)
        → walk_by (suc n) w s l t i e ≡ walk_by (suc m) w s l t i e
    go (no h) r = walk_by_done (suc n) w s l t i e (omega arith) ∙ sym (walk_by_done (suc m) w s l t i e (omega arith))
    go (yes h) r = walk_by_on n w s l t i e h ∙ then_same (head_at w s l t i e) (λ t₁. on n w s l t₁ i e) (λ t₁. on m w s l t₁ i e)
        (λ t₁ g.
        let x = within_true i (span_at w i) e (sound_within w s t i e (head_went w s l t i e t₁ g).sound) in
        let p = r (first_slot (kind_at w i)) (l + 1) t₁ (i + 1) (i + span_at w i) (omega arith) (omega arith) in
        ap (λ o. then_on o (λ t₂. walk_by n w (slot_after s (kind_at w i)) l t₂ (i + span_at w i) e)) p
        ∙ then_same (walk_by m w (first_slot (kind_at w i)) (l + 1) t₁ (i + 1) (i + span_at w i))
        (λ t₂. walk_by n w (slot_after s (kind_at w i)) l t₂ (i + span_at w i) e) (λ t₂. walk_by m w (slot_after s (kind_at w i)) l t₂ (i + span_at w i) e)
        (λ t₂ k. r (slot_after s (kind_at w i)) l t₂ (i + span_at w i) e (omega arith) (omega arith)))
        ∙ sym (walk_by_on m w s l t i e h)

pub walk_done : (w : List ℕ) (s l t i e : ℕ) → e ≤ i → walk_of w s l t i e ≡ Ok t
walk_done w s l t i e h = walk_by_done (e - i) w s l t i e h

pub walk_on : (w : List ℕ) (s l t i e : ℕ) → i < e → walk_of w s l t i e ≡ then_on (head_at w s l t i e)
    (λ t₁. then_on (walk_of w (first_slot (kind_at w i)) (l + 1) t₁ (i + 1) (i + span_at w i))
    (λ t₂. walk_of w (slot_after s (kind_at w i)) l t₂ (i + span_at w i) e))
walk_on w s l t i e h = walk_fuel (e - i) (suc (e - i)) w s l t i e (omega arith) (omega arith) ∙ walk_by_on (e - i) w s l t i e h
    ∙ then_same (head_at w s l t i e) (λ t₁. on (e - i) w s l t₁ i e) _
    (λ t₁ g.
    let x = within_true i (span_at w i) e (sound_within w s t i e (head_went w s l t i e t₁ g).sound) in
    let p = walk_fuel (e - i) (i + span_at w i - (i + 1)) w (first_slot (kind_at w i)) (l + 1) t₁ (i + 1) (i + span_at w i) (omega arith) (omega arith) in
    ap (λ o. then_on o (λ t₂. walk_by (e - i) w (slot_after s (kind_at w i)) l t₂ (i + span_at w i) e)) p
    ∙ then_same (walk_of w (first_slot (kind_at w i)) (l + 1) t₁ (i + 1) (i + span_at w i))
    (λ t₂. walk_by (e - i) w (slot_after s (kind_at w i)) l t₂ (i + span_at w i) e) (λ t₂. walk_of w (slot_after s (kind_at w i)) l t₂ (i + span_at w i) e)
    (λ t₂ k. walk_fuel (e - i) (e - (i + span_at w i)) w (slot_after s (kind_at w i)) l t₂ (i + span_at w i) e (omega arith) (omega arith)))

pub walk_unsound : (w : List ℕ) (s l t i e : ℕ) → i < e → sound_at w s t i e ≡ false → walk_of w s l t i e ≡ refused BadShape i
walk_unsound w s l t i e h f = walk_on w s l t i e h ∙ rw (head_unsound w s l t i e f)

pub walk_deep : (w : List ℕ) (s l t i e : ℕ) → i < e → sound_at w s t i e ≡ true → most_levels < l → walk_of w s l t i e ≡ refused TooDeep i
walk_deep w s l t i e h f d = walk_on w s l t i e h ∙ rw (head_deep w s l t i e f d)

pub walk_inner : (w : List ℕ) (s l t i e : ℕ) (found : Refused) → i < e → sound_at w s t i e ≡ true → l ≤ most_levels
    → walk_of w (first_slot (kind_at w i)) (l + 1) (this_after (kind_at w i) (value_at w i) t) (i + 1) (i + span_at w i) ≡ Err found
    → walk_of w s l t i e ≡ Err found
walk_inner w s l t i e found h f d g = walk_on w s l t i e h ∙ rw (head_fine w s l t i e f d) (rw g)

pub walk_next : (w : List ℕ) (s l t i e u : ℕ) → i < e → sound_at w s t i e ≡ true → l ≤ most_levels
    → walk_of w (first_slot (kind_at w i)) (l + 1) (this_after (kind_at w i) (value_at w i) t) (i + 1) (i + span_at w i) ≡ Ok u
    → walk_of w s l t i e ≡ walk_of w (slot_after s (kind_at w i)) l u (i + span_at w i) e
walk_next w s l t i e u h f d g = walk_on w s l t i e h ∙ rw (head_fine w s l t i e f d) (rw g)
