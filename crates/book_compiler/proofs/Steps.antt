-- Steps one after the other: what acts and then acts does both, and with the mark set doing nothing is doing any step. By the notes, which are only added.
-- Assumes nothing.
use Rattle.std.proofs.Common.{◌≡◌, ℕ, List}
use Rattle.definition.specs.Uses.{Limits}
use Rattle.definition.specs.Compiler.{Work, Step, and_then}
use Rattle.definition.specs.Program.{Entries}
use Rattle.definition_laws.proofs.StepPreserves.{NotesGrow, Steadily}
use Rattle.building.proofs.Notes.{held_longer}
use Rattle.building.proofs.Notes as notes
use Rattle.compiler_laws.proofs.ScopesBalanced.{PreservesScopes}
use Rattle.compiler_laws.proofs.StepsInOrder.{inside_after, held_either}
use Rattle.book_compiler.specs.Represents.{Memory, Represents, Simulates, SimulatesInside}

-- the mark was not set before where it is not set after
pub back : {κ : Limits} {E : Entries} {others : ℕ → List ℕ} {m m' : Memory} {w w' : Work} → NotesGrow w.uses w'.uses
    → Represents κ E others m w → Represents κ E others m' w' → m'.state.full ≡ 0 → m.state.full ≡ 0
back l H H' z = notes.back l H.held H'.held z

module _ {m m' : Memory} {s : Step} where
  pub acts_does : {start count : ℕ} → Simulates m m' s → SimulatesInside start count m m' s
  acts_does A = record { meets = λ κ E others w I H. A.meets κ E others w H }

module _ {m m₁ m' : Memory} {s t : Step} where
  pub does_then : {start count : ℕ} → Steadily s → PreservesScopes s → SimulatesInside start count m m₁ s → SimulatesInside start count m₁ m' t
      → SimulatesInside start count m m' (and_then s t)
  unfolding and_then
  does_then S B A T = record { meets = λ κ E others w I H. T.meets κ E others (s w) (inside_after (S w) (B w) I) (A.meets κ E others w I H) }

-- with the mark set
pub full_acts : {m : Memory} {s : Step} → Steadily s → (m.state.full ≡ 0 → ⊥) → Simulates m m s
full_acts S ne = record {
  meets = λ κ E others w H. record { fits = H.fits; preserves = H.preserves; held = held_longer (S w).uses ne H.held; slots = H.slots };
}

pub full_does : {start count : ℕ} {m : Memory} {s : Step} → Steadily s → (m.state.full ≡ 0 → ⊥) → SimulatesInside start count m m s
full_does S ne = acts_does (full_acts S ne)

-- with the mark set before, what stands for one step stands for any other
pub either : {κ : Limits} {E : Entries} {others : ℕ → List ℕ} {m m' : Memory} {w w₁ w₂ : Work} → NotesGrow w.uses w₁.uses → NotesGrow w.uses w₂.uses
    → (m.state.full ≡ 0 → ⊥) → Represents κ E others m w → Represents κ E others m' w₁ → Represents κ E others m' w₂
either l₁ l₂ ne H H₁ = record { fits = H₁.fits; preserves = H₁.preserves; held = held_either l₁ l₂ ne H.held H₁.held; slots = H₁.slots }
