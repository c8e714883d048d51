-- SimulatesAreas one after the other, and with the mark set: doing nothing is doing any step. By the notes, which are only added. Assumes nothing.
use Prim.Native.Nat.{ℕ}
use mathlib.Core.Path.{◌≡◌, ◌∙◌}
use mathlib.Core.Bool.{Bool, true, false}
use mathlib.Core.List.{List}
use lib.Dec.{eqb}
use mathlib.Core.Path.{refl}
use borrow.Author.Tests.{eqb-true, eqb-false}
use Rattle.definition.specs.Uses.{Limits}
use Rattle.definition.specs.Book.{Book, BookStep}
use Rattle.definition_laws.proofs.StepPreserves.{NotesGrow}
use Rattle.building.proofs.Notes.{marks_same, over_longer}
use Rattle.compiler_laws.specs.BookAreas.{BookAreas, RepresentsAreas, NamesBooks, SimulatesAreas}
use Rattle.compiler_laws.proofs.UnchangedByBooks.{BookUnchanged, Unchanged}

pub keeping_longer : {κ : Limits} {ps ps' : List ℕ} {m : BookAreas} {b b' : Book} → NotesGrow b.uses b'.uses → (m.book.full ≡ 0 → ⊥)
    → RepresentsAreas κ ps m b → RepresentsAreas κ ps' m b'
keeping_longer {κ} l ne H = record { fitted = H.fitted; full = over_longer κ l H.full ne; rest = λ z. absurd (ne z) }

-- not full after, not full before
pub unfilled : {κ : Limits} {ps ps' : List ℕ} {m m' : BookAreas} {b b' : Book} → NotesGrow b.uses b'.uses → RepresentsAreas κ ps m b
    → RepresentsAreas κ ps' m' b'
    → m'.book.full ≡ 0 → m.book.full ≡ 0
unfilled {κ} {m = m} l H H' z = go (eqb m.book.full 0) refl
  where
    go : (t : Bool) → eqb m.book.full 0 ≡ t → m.book.full ≡ 0
    go true q = eqb-true m.book.full 0 q
    go false q = marks_same (over_longer κ l H.full (eqb-false m.book.full 0 q)) H'.full ∙ z

pub full_simulates : {m : BookAreas} {step : BookStep} → Unchanged step → (m.book.full ≡ 0 → ⊥) → SimulatesAreas m m step
full_simulates C ne = record { meets = λ κ ps b H. keeping_longer (C b).uses ne H }

-- area 12 names the books that it named before
pub books_named_unchanged : {books : List ℕ} {b b' : Book} → BookUnchanged b b' → NamesBooks books b.context → NamesBooks books b'.context
books_named_unchanged c B = record { stood = rw c.prior B.stood; each = rw (c.prior, c.assemblies) B.each }
