-- Steps one after the other: what holds inside a function holds after a step, and with the mark set doing nothing is doing any step. By the notes, which
-- are only added. Assumes nothing.
use Prim.Native.Nat.{ℕ}
use mathlib.Core.Path.{◌≡◌, ◌∙◌}
use mathlib.Core.List.{List}
use Rattle.definition.specs.Uses.{Limits}
use Rattle.definition.specs.Compiler.{Work, CompilerState}
use Rattle.definition.specs.Program.{Entries}
use Rattle.definition_laws.proofs.StepPreserves.{NotesGrow, StepPreserves}
use Rattle.building.specs.RepresentsMachine.{Machine, LocalsHeld, RepresentsMachine}
use Rattle.building.proofs.Notes.{marks_same, over_longer}
use Rattle.compiler_laws.specs.InsideFunction.{Inside}
use Rattle.compiler_laws.proofs.ScopesBalanced.{ScopesPreserved}

pub same_locals : {start count : ℕ} {l : List ℕ} {s s' : CompilerState} → s'.locals ≡ s.locals → LocalsHeld start count l s → LocalsHeld start count l s'
same_locals q L = record { up_to = rw q L.up_to; each = rw q L.each }

-- every piece stays inside
pub inside_after : {start count : ℕ} {l : List ℕ} {w w' : Work} → StepPreserves w w' → ScopesPreserved w w' → Inside start count l w → Inside start count l w'
inside_after S B I = record { is_open = B.is_open ∙ I.is_open; named = same_locals S.locals I.named }

-- with the mark set before, what stands for one step stands for any other
pub held_either : {κ : Limits} {E : Entries} {m m' : Machine} {w w₁ w₂ : Work} → NotesGrow w.uses w₁.uses → NotesGrow w.uses w₂.uses
    → (m.state.full ≡ 0 → ⊥) → RepresentsMachine κ E m w → RepresentsMachine κ E m' w₁ → RepresentsMachine κ E m' w₂
held_either {κ} {m = m} {m' = m'} l₁ l₂ ne H H₁ =
    let same : m.state.full ≡ m'.state.full = marks_same (over_longer κ l₁ H.full ne) H₁.full in
    record {
      code_cap = H₁.code_cap;
      constants_cap = H₁.constants_cap;
      names_cap = H₁.names_cap;
      breaks_cap = H₁.breaks_cap;
      errors_cap = H₁.errors_cap;
      full = rw (← same) (over_longer κ l₂ H.full ne);
      rest = λ z. absurd (ne (same ∙ z));
    }
