-- A routine that is lent one part of the memory does to the machine that the memory is what it does to its area. One law over the part's number.
-- Assumes nothing.
use Rattle.std.proofs.Common.{◌≡◌, ℕ, ◌<◌, Bool, true, false, cond, eqb, List, length, sym, refl, ap, ◌∙◌, subst, arith, ne_eqb, eqb-true}
use borrow.Author.Tests.{eqb-false}
use Rattle.memory.specs.Layout.{part, with_part, Fits}
use Rattle.memory.proofs.Parts.{put_part, put_fits}
use Rattle.constant_slots.specs.Plain.{pool_of}
use Rattle.constant_slots.specs.Slots.{slots_of}
use Rattle.definition.specs.Uses.{Limits}
use Rattle.definition.specs.Compiler.{Work}
use Rattle.definition.specs.Program.{Entries}
use Rattle.building.specs.declared.function_state.FunctionState.{FunctionState}
use Rattle.building.specs.RepresentsMachine.{Machine, machine, RepresentsMachine}
use Rattle.undo.specs.Notes.{plain_marks}
use Rattle.undo.specs.Stood.{Stood}
use Rattle.book_compiler.specs.Represents.{Memory, laid, part_of, view, is_built, Behind, Preserves, SlotsFilled, Represents, On}
use Rattle.book_compiler.proofs.Stood.{stood_put}

-- the machine that a memory is with another state and another part i
abbrev pub with_area : ℕ → FunctionState → List ℕ → Memory → Machine
with_area i s x m =
    machine s (cond (eqb i 1) x (part_of m 1)) (plain_marks (cond (eqb i 2) x (part_of m 2))) (cond (eqb i 9) x (part_of m 9))
    (cond (eqb i 10) x (part_of m 10)) (cond (eqb i 11) x (part_of m 11))

put_view : (a w x : List ℕ) (s s' : FunctionState) (f : Fits a (length w)) (i : ℕ) → i < 14 → length x ≡ length (part a i w)
    → view (laid s' a (with_part a i x w)) ≡ with_area i s' x (laid s a w)
put_view a w x s s' f i h l =
    rw (
      put_part a w x f i h l 1 (omega arith),
      put_part a w x f i h l 2 (omega arith),
      put_part a w x f i h l 9 (omega arith),
      put_part a w x f i h l 10 (omega arith),
      put_part a w x f i h l 11 (omega arith),
    ) refl

apart : (i j : ℕ) → is_built i ≡ true → is_built j ≡ false → eqb i j ≡ false
apart i j p q = go (eqb i j) refl
  where
    go : (t : Bool) → eqb i j ≡ t → t ≡ false
    go false e = refl
    go true e = sym (sym q ∙ ap is_built (sym (eqb-true i j e)) ∙ p)

-- a part that no function changes is none of those
pub record Unbuilt (j : ℕ) : Type 0 where
  pub code : eqb j 1 ≡ false
  pub constants : eqb j 2 ≡ false
  pub breaks : eqb j 10 ≡ false
  pub slots : eqb j 13 ≡ false

pub unbuilt : (j : ℕ) → is_built j ≡ false → Unbuilt j
unbuilt j q = record { code = flip 1 refl; constants = flip 2 refl; breaks = flip 10 refl; slots = flip 13 refl }
  where
    flip : (i : ℕ) → is_built i ≡ true → eqb j i ≡ false
    flip i p = ne_eqb j i (λ r. eqb-false i j (apart i j p q) (sym r))

-- the same slots over the same constants
pub slots_same : {n n' : ℕ} {a a' l l' : List ℕ} → part a' 13 l' ≡ part a 13 l → pool_of n' (part a' 2 l') ≡ pool_of n (part a 2 l)
    → SlotsFilled n a l → SlotsFilled n' a' l'
slots_same {n} {n'} {a} {a'} {l} {l'} t q S = record {
  filled = t ∙ S.filled ∙ ap (slots_of (length (part a 13 l))) (sym q) ∙ ap (λ (u : List ℕ). slots_of (length u) (pool_of n' (part a' 2 l'))) (sym t);
}

-- as many constants
pub slots_count : {n n' : ℕ} {a l : List ℕ} → n' ≡ n → SlotsFilled n a l → SlotsFilled n' a l
slots_count {a = a} {l = l} q S = subst (λ (k : ℕ). SlotsFilled k a l) (sym q) S

-- part i with other words, beside a state: what stood is in place
pub record Spared (others : ℕ → List ℕ) (i : ℕ) (s : FunctionState) (x : List ℕ) : Type 0 where
  pub stood : Stood i (others i) x
  pub behind : s.full ≡ 0 → Behind others s

-- a routine on one part, not the slots: what it does to the machine; and of the constants it leaves kinds and values as they were
pub on_law : {κ : Limits} {E : Entries} {others : ℕ → List ℕ} {i : ℕ} {R : List ℕ → List ℕ → Type 0} {m m' : Memory} {w w' : Work}
    → i < 14 → is_built i ≡ true → eqb i 13 ≡ false → On i R m m' → Represents κ E others m w
    → ((x : List ℕ) → R (part_of m i) x → Spared others i m'.state x)
    → ((x : List ℕ) → R (part_of m i) x → pool_of m'.state.constants (cond (eqb i 2) x (part_of m 2)) ≡ pool_of m.state.constants (part_of m 2))
    → ((x : List ℕ) → R (part_of m i) x → RepresentsMachine κ E (with_area i m'.state x m) w') → Represents κ E others m' w'
on_law {κ} {E} {others} {i} {R} {m} {m'} {w} {w'} lt built not_slots o H spared pool law =
    let p = o.on H.fits in
    let a = m.starts in
    let here : RepresentsMachine κ E (view (laid m'.state a m'.words)) w' =
    rw (p.is, put_view a m.words p.words m.state m'.state H.fits i lt p.long) (law p.words p.does) in
    let fits : Fits a (length m'.words) = rw p.is (put_fits a m.words p.words H.fits i lt p.long) in
    let kept : Preserves others (laid m'.state a m'.words) =
    record {
      same = λ j g q.
          ap (part a j) p.is ∙ put_part a m.words p.words H.fits i lt p.long j g
          ∙ ap (λ (t : Bool). cond t p.words (part_of m j)) (apart i j built q) ∙ H.preserves.same j g q;
      stood = λ j g q.
          subst (Stood j (others j)) (sym (ap (part a j) p.is ∙ put_part a m.words p.words H.fits i lt p.long j g))
          (stood_put others i j (eqb i j) refl (spared p.words p.does).stood (H.preserves.stood j g q));
      nothing = H.preserves.nothing;
      behind = (spared p.words p.does).behind;
    } in
    let slots : SlotsFilled m'.state.constants a m'.words =
    slots_same
    (ap (part a 13) p.is ∙ put_part a m.words p.words H.fits i lt p.long 13 (omega arith)
    ∙ ap (λ (t : Bool). cond t p.words (part_of m 13)) not_slots)
    (ap (λ (l : List ℕ). pool_of m'.state.constants l)
    (ap (part a 2) p.is ∙ put_part a m.words p.words H.fits i lt p.long 2 (omega arith)) ∙ pool p.words p.does) H.slots in
    record {
      fits = rw o.same fits;
      preserves = subst (λ (b : List ℕ). Preserves others (laid m'.state b m'.words)) (sym o.same) kept;
      held = rw o.same here;
      slots = subst (λ (b : List ℕ). SlotsFilled m'.state.constants b m'.words) (sym o.same) slots;
    }

-- a routine on a part without constants: it keeps their count
pub on_other : {κ : Limits} {E : Entries} {others : ℕ → List ℕ} {i : ℕ} {R : List ℕ → List ℕ → Type 0} {m m' : Memory} {w w' : Work}
    → i < 14 → is_built i ≡ true → eqb i 13 ≡ false → eqb i 2 ≡ false → On i R m m' → Represents κ E others m w
    → ((x : List ℕ) → R (part_of m i) x → Spared others i m'.state x) → ((x : List ℕ) → R (part_of m i) x → m'.state.constants ≡ m.state.constants)
    → ((x : List ℕ) → R (part_of m i) x → RepresentsMachine κ E (with_area i m'.state x m) w') → Represents κ E others m' w'
on_other {m = m} {m' = m'} lt built not_slots not_constants o H spared count law = on_law lt built not_slots o H spared
    (λ x r. ap (λ (t : Bool). pool_of m'.state.constants (cond t x (part_of m 2))) not_constants ∙ ap (λ (n : ℕ). pool_of n (part_of m 2)) (count x r)) law
