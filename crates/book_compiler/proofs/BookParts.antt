-- A routine that is lent one part of the memory does to the book what it does to its area. One law over the part's number. Assumes nothing.
use Rattle.building.specs.Found.{Found}
use Rattle.std.proofs.Common.{◌≡◌, ℕ, ◌*◌, ◌<◌, Bool, true, false, cond, not, ◌&&◌, eqb, List, length, sym, refl, ap, ◌∙◌, subst, arith, ne_eqb}
use Rattle.std.proofs.Common.{eqb-true}
use borrow.Author.Tests.{eqb-false}
use Rattle.memory.specs.Layout.{part, with_part, Fits}
use Rattle.memory.proofs.Parts.{put_part, put_fits}
use Rattle.definition.specs.Uses.{Limits}
use Rattle.definition.specs.Book.{Book, BookStep, MaybePlaced}
use Rattle.definition_laws.proofs.StepPreserves.{NotesGrow}
use Rattle.compiler_laws.specs.declared.book.Book as struct
use Rattle.compiler_laws.specs.BookAreas.{BookAreas, book_areas, RepresentsAreas, SimulatesAreas, Seeks}
use Rattle.compiler_laws.proofs.UnchangedByBooks.{Unchanged}
use Rattle.compiler_laws.proofs.BookStepsInOrder.{keeping_longer, unfilled}
use Rattle.constant_slots.specs.Plain.{pool_of}
use Rattle.undo.specs.Notes.{plain_marks, plain_methods}
use Rattle.undo.specs.Stood.{Stood}
use Rattle.book_compiler.specs.Represents.{SlotsFilled}
use Rattle.book_compiler.specs.RepresentsBook.{BookMemory, book_laid, area_of, book_view, is_book_area, BehindContext, PreservesParts, RepresentsBook}
use Rattle.book_compiler.specs.RepresentsBook.{OnArea, SimulatesBook, SimulatesSought}
use Rattle.book_compiler.specs.BookLeaves.{SameCounts}
use Rattle.book_compiler.proofs.Stood.{stood_put}
use Rattle.book_compiler.proofs.StoodBooks.{Grows, behind_grown}
use Rattle.book_compiler.proofs.Parts.{slots_same}

-- the counts and areas that a memory is with other counts and another part i
abbrev pub with_book_area : ℕ → struct.Book → List ℕ → BookMemory → BookAreas
with_book_area i s x m =
    book_areas s (cond (eqb i 1) x (area_of m 1)) (plain_marks (cond (eqb i 2) x (area_of m 2))) (cond (eqb i 3) x (area_of m 3))
    (cond (eqb i 4) x (area_of m 4))
    (cond (eqb i 5) x (area_of m 5)) (plain_methods m.book.standing_methods (cond (eqb i 6) x (area_of m 6))) (cond (eqb i 7) x (area_of m 7))
    (cond (eqb i 8) x (area_of m 8)) (cond (eqb i 9) x (area_of m 9)) (cond (eqb i 10) x (area_of m 10)) (cond (eqb i 11) x (area_of m 11))

put_view : (a w x : List ℕ) (s s' : struct.Book) (f : Fits a (length w)) (i : ℕ) → i < 14 → length x ≡ length (part a i w)
    → s'.standing_methods ≡ s.standing_methods → book_view (book_laid s' a (with_part a i x w)) ≡ with_book_area i s' x (book_laid s a w)
put_view a w x s s' f i h l standing =
    rw (
      standing,
      put_part a w x f i h l 1 (omega arith),
      put_part a w x f i h l 2 (omega arith),
      put_part a w x f i h l 3 (omega arith),
      put_part a w x f i h l 4 (omega arith),
      put_part a w x f i h l 5 (omega arith),
      put_part a w x f i h l 6 (omega arith),
      put_part a w x f i h l 7 (omega arith),
      put_part a w x f i h l 8 (omega arith),
      put_part a w x f i h l 9 (omega arith),
      put_part a w x f i h l 10 (omega arith),
      put_part a w x f i h l 11 (omega arith),
    ) refl

-- the areas that a book is compiled into, the constants and their slots apart
abbrev pub is_other_area : ℕ → Bool
is_other_area i = is_book_area i && (not (eqb i 2) && not (eqb i 13))

record Other (i : ℕ) : Type 0 where
  own : is_book_area i ≡ true
  constants : eqb i 2 ≡ false
  slots : eqb i 13 ≡ false

other : (i : ℕ) → is_other_area i ≡ true → Other i
other i q = go (is_book_area i) refl (eqb i 2) refl (eqb i 13) refl q
  where
    no' : ◌≡◌ {A = Bool} false true → ⊥
    no' q = let y : ◌≡◌ {A = ℕ} 1 0 = ap (λ (b : Bool). cond b 0 1) q in omega arith

    go : (a : Bool) → is_book_area i ≡ a → (b : Bool) → eqb i 2 ≡ b → (c : Bool) → eqb i 13 ≡ c → (a && (not b && not c)) ≡ true → Other i
    go true p false p₁ false p₂ q = record { own = p; constants = p₁; slots = p₂ }
    go true p false p₁ true p₂ q = absurd (no' q)
    go true p true p₁ c p₂ q = absurd (no' q)
    go false p b p₁ c p₂ q = absurd (no' q)

apart : (i j : ℕ) → is_book_area i ≡ true → is_book_area j ≡ false → eqb i j ≡ false
apart i j p q = go (eqb i j) refl
  where
    go : (t : Bool) → eqb i j ≡ t → t ≡ false
    go false e = refl
    go true e = sym (sym q ∙ ap is_book_area (sym (eqb-true i j e)) ∙ p)

-- a part that no definition changes is none that a book is compiled into
pub not_part : (j i : ℕ) → is_book_area i ≡ true → is_book_area j ≡ false → eqb j i ≡ false
not_part j i p q = ne_eqb j i (λ r. eqb-false i j (apart i j p q) (sym r))

-- a routine on one part, neither constants nor slots: what it does to the counts and areas, of a memory with its layout. As many constants are counted as
-- the slots were filled with
pub area_kept : {κ : Limits} {ps : List ℕ} {others : ℕ → List ℕ} {i n : ℕ} {R : List ℕ → List ℕ → Type 0} {m m' : BookMemory} {b : Book}
    → i < 14 → is_other_area i ≡ true → Fits m.starts (length m.words) → PreservesParts others m → SlotsFilled n m.starts m.words
    → OnArea i R m m' → ((x : List ℕ) → R (area_of m i) x → Stood i (others i) x) → (m'.book.full ≡ 0 → BehindContext others b.context)
    → length (others 6) ≡ m.book.standing_methods * 3
    → ((x : List ℕ) → R (area_of m i) x → (m'.book.constants ≡ n) × (m'.book.standing_methods ≡ m.book.standing_methods))
    → ((x : List ℕ) → R (area_of m i) x → RepresentsAreas κ ps (with_book_area i m'.book x m) b) → RepresentsBook κ ps others m' b
area_kept {κ} {ps} {others} {i} {n} {R} {m} {m'} {b} lt is-other suits same filled o spared behind stands count law =
    let e = other i is-other in
    let p = o.on suits in
    let a = m.starts in
    let here : RepresentsAreas κ ps (book_view (book_laid m'.book a m'.words)) b =
    rw (p.is, put_view a m.words p.words m.book m'.book suits i lt p.long (count p.words p.does).1) (law p.words p.does) in
    let fits : Fits a (length m'.words) = rw p.is (put_fits a m.words p.words suits i lt p.long) in
    let kept : PreservesParts others (book_laid m'.book a m'.words) =
    record {
      same = λ j g q.
          ap (part a j) p.is ∙ put_part a m.words p.words suits i lt p.long j g
          ∙ ap (λ (t : Bool). cond t p.words (area_of m j)) (apart i j e.own q) ∙ same.same j g q;
      stood = λ j g q.
          subst (Stood j (others j)) (sym (ap (part a j) p.is ∙ put_part a m.words p.words suits i lt p.long j g))
          (stood_put others i j (eqb i j) refl (spared p.words p.does) (same.stood j g q));
      nothing = same.nothing;
    } in
    let slots : SlotsFilled m'.book.constants a m'.words =
    slots_same
    (ap (part a 13) p.is ∙ put_part a m.words p.words suits i lt p.long 13 (omega arith)
    ∙ ap (λ (t : Bool). cond t p.words (area_of m 13)) e.slots)
    (ap (λ (l : List ℕ). pool_of m'.book.constants l)
    (ap (part a 2) p.is ∙ put_part a m.words p.words suits i lt p.long 2 (omega arith)
    ∙ ap (λ (t : Bool). cond t p.words (area_of m 2)) e.constants) ∙ ap (λ (k : ℕ). pool_of k (area_of m 2)) (count p.words p.does).0) filled in
    record {
      fits = rw o.same fits;
      preserves = subst (λ (w : List ℕ). PreservesParts others (book_laid m'.book w m'.words)) (sym o.same) kept;
      behind = behind;
      keeping = rw o.same here;
      standing = rw (count p.words p.does).1 stands;
      slots = subst (λ (w : List ℕ). SlotsFilled m'.book.constants w m'.words) (sym o.same) slots;
    }

-- and of one that stands for a book
pub area_law : {κ : Limits} {ps ps' : List ℕ} {others : ℕ → List ℕ} {i : ℕ} {R : List ℕ → List ℕ → Type 0} {m m' : BookMemory} {b b' : Book}
    → i < 14 → is_other_area i ≡ true → SameCounts m.book m'.book → OnArea i R m m' → RepresentsBook κ ps others m b
    → ((x : List ℕ) → R (area_of m i) x → Stood i (others i) x) → Grows b b'
    → ((x : List ℕ) → R (area_of m i) x → RepresentsAreas κ ps' (with_book_area i m'.book x m) b') → RepresentsBook κ ps' others m' b'
area_law lt own count o H spared grows law =
    let p = o.on H.fits in
    area_kept lt own H.fits H.preserves H.slots o spared
    (λ z. behind_grown grows.prior grows.constants grows.methods (H.behind (unfilled grows.uses H.keeping (law p.words p.does) z)))
    H.standing (λ x r. (count.constants, count.standing)) law

-- whatever memory stands for a book, what stood in part i is in place
abbrev pub Spared : (i : ℕ) (R : List ℕ → List ℕ → Type 0) (m : BookMemory) → Type 0
Spared i R m =
    (κ : Limits) (ps : List ℕ) (others : ℕ → List ℕ) (b : Book) → RepresentsBook κ ps others m b → (x : List ℕ) → R (area_of m i) x → Stood i (others i) x

-- so its step and what it finds on the counts and areas are those on the memory
module _ {i : ℕ} {R : List ℕ → List ℕ → Type 0} {m m' : BookMemory} (lt : i < 14) (own : is_other_area i ≡ true) (count : SameCounts m.book m'.book)
    (o : OnArea i R m m') (spared : Spared i R m) where
  pub area_simulates : {step : BookStep} → ((x : List ℕ) → R (area_of m i) x → SimulatesAreas (book_view m) (with_book_area i m'.book x m) step)
      → ((b : Book) → Grows b (step b)) → SimulatesBook m m' step
  area_simulates law grows = record {
    meets = λ κ ps others b H. area_law lt own count o H (spared κ ps others b H) (grows b) (λ x r. (law x r).meets κ ps b H.keeping);
  }

  pub area_seeks : {found : Found} {step : Book → MaybePlaced}
      → ((x : List ℕ) → R (area_of m i) x → Seeks (book_view m) (with_book_area i m'.book x m) found step)
      → ((b : Book) → Grows b (step b).book) → SimulatesSought m m' found step
  area_seeks law grows = record {
    meets = λ κ ps others b H. area_law lt own count o H (spared κ ps others b H) (grows b) (λ x r. (law x r).meets κ ps b H.keeping);
    sought = λ κ ps others b H z. let p = o.on H.fits in (law p.words p.does).sought κ ps b H.keeping z;
  }

-- with the mark set the memory stands for whatever is compiled further
pub represents_longer : {κ : Limits} {ps ps' : List ℕ} {others : ℕ → List ℕ} {m : BookMemory} {b b' : Book} → NotesGrow b.uses b'.uses
    → (m.book.full ≡ 0 → ⊥) → RepresentsBook κ ps others m b → RepresentsBook κ ps' others m b'
represents_longer l ne H = record {
  fits = H.fits;
  preserves = H.preserves;
  behind = λ z. absurd (ne z);
  keeping = keeping_longer l ne H.keeping;
  standing = H.standing;
  slots = H.slots;
}

-- not full after, not full before
pub represents_unfilled : {κ : Limits} {ps ps' : List ℕ} {others : ℕ → List ℕ} {m m' : BookMemory} {b b' : Book} → NotesGrow b.uses b'.uses
    → RepresentsBook κ ps others m b → RepresentsBook κ ps' others m' b' → m'.book.full ≡ 0 → m.book.full ≡ 0
represents_unfilled l H H' z = unfilled l H.keeping H'.keeping z

pub simulates_full : {m : BookMemory} {step : BookStep} → Unchanged step → (m.book.full ≡ 0 → ⊥) → SimulatesBook m m step
simulates_full C ne = record { meets = λ κ ps others b H. represents_longer (C b).uses ne H }

-- one after the other
pub simulates_then : {m m₁ m' : BookMemory} {d e : BookStep} → SimulatesBook m m₁ d → SimulatesBook m₁ m' e → SimulatesBook m m' (λ b. e (d b))
simulates_then {d = d} A B = record { meets = λ κ ps others b H. B.meets κ ps others (d b) (A.meets κ ps others b H) }

-- what a routine does to part i, said otherwise
pub area_map : {i : ℕ} {R R' : List ℕ → List ℕ → Type 0} {m m' : BookMemory}
    → (Fits m.starts (length m.words) → (x : List ℕ) → R (area_of m i) x → R' (area_of m i) x) → OnArea i R m m' → OnArea i R' m m'
area_map g o = record {
  same = o.same;
  on = λ f. let p = o.on f in record { words = p.words; does = g f p.words p.does; long = p.long; is = p.is };
}

-- the memory as it was stands for another book
pub represents_same : {κ : Limits} {ps ps' : List ℕ} {others : ℕ → List ℕ} {m : BookMemory} {b b' : Book} → RepresentsBook κ ps others m b
    → (m.book.full ≡ 0 → BehindContext others b'.context) → RepresentsAreas κ ps' (book_view m) b' → RepresentsBook κ ps' others m b'
represents_same H behind K = record {
  fits = H.fits;
  preserves = H.preserves;
  behind = behind;
  keeping = K;
  standing = H.standing;
  slots = H.slots;
}
