-- One memory under compilation: the view of it as the machine of `building`, and the relation to the definition's `Work`
-- Private contracts alone cite this file: whoever reads the promises need not believe it
use Rattle.std.specs.Prelude.{◌≡◌, ℕ, ◌*◌, ◌<◌, ◌≤◌, Bool, true, false, ◌||◌, List, length, ◌==◌}
use Rattle.memory.specs.Layout.{part, with_part, part_count, Fits}
use Rattle.words.specs.Areas.{code_area, constants_area, context_locals_area, scope_names_area, breaks_area, errors_area}
use Rattle.constant_slots.specs.Plain.{pool_of}
use Rattle.constant_slots.specs.Slots.{slots_of}
use Rattle.definition.specs.Uses.{Limits}
use Rattle.definition.specs.Compiler.{Work, Step}
use Rattle.definition.specs.Program.{Entries}
use Rattle.building.specs.declared.function_state.FunctionState.{FunctionState}
use Rattle.building.specs.RepresentsMachine.{Machine, machine, RepresentsMachine}
use Rattle.compiler_laws.specs.InsideFunction.{Inside}
use Rattle.undo.specs.Notes.{plain_marks}
use Rattle.undo.specs.Stood.{Stood}

-- the state of a function, the table of starts, and the memory's words
pub record Memory : Type 0 where
  pub state : FunctionState
  pub starts : List ℕ
  pub words : List ℕ

abbrev pub laid : FunctionState → List ℕ → List ℕ → Memory
laid s a w = record { state = s; starts = a; words = w }

abbrev pub part_of : Memory → ℕ → List ℕ
part_of m i = part m.starts i m.words

-- the machine of `building` that a memory is: its constants without what is noted of their marks (2026-01)
abbrev pub view : Memory → Machine
view m =
    machine m.state (part_of m code_area) (plain_marks (part_of m constants_area)) (part_of m scope_names_area) (part_of m breaks_area) (part_of m errors_area)

-- what is left over of the memory is the table of slots (2026-12)
abbrev pub slots_part : ℕ
slots_part = 13

-- the parts that functions are built in
abbrev pub is_built : ℕ → Bool
is_built i = i == code_area || i == constants_area || i == scope_names_area || i == breaks_area || i == errors_area || i == slots_part

-- what stood in areas 1 and 2 ends where the function's code starts and at the count of the constants
pub record Behind (others : ℕ → List ℕ) (s : FunctionState) : Type 0 where
  pub code : length (others code_area) ≤ s.base * 2
  pub constants : length (others constants_area) ≤ s.constants * 3

-- nothing stood in areas 9 to 11, nor in the slots, which are written freely
pub record NothingStood (others : ℕ → List ℕ) : Type 0 where
  pub names : length (others scope_names_area) ≡ 0
  pub breaks : length (others breaks_area) ≡ 0
  pub errors : length (others errors_area) ≡ 0
  pub slots : length (others slots_part) ≡ 0

-- the parts that no function changes are these, and what stood in those that functions are built in is in place
pub record Preserves (others : ℕ → List ℕ) (m : Memory) : Type 0 where
  pub same : (i : ℕ) → i < part_count → is_built i ≡ false → part_of m i ≡ others i
  pub stood : (i : ℕ) → i < part_count → is_built i ≡ true → Stood i (others i) (part_of m i)
  pub nothing : NothingStood others
  pub behind : m.state.full ≡ 0 → Behind others m.state

-- the slots are what filling them anew with the constants in use gives (2026-12; reading 5.3), whether an area is full or not
pub record SlotsFilled (count : ℕ) (starts words : List ℕ) : Type 0 where
  pub filled : part starts slots_part words ≡ slots_of (length (part starts slots_part words)) (pool_of count (part starts constants_area words))

abbrev pub Slotted : Memory → Type 0
Slotted m = SlotsFilled m.state.constants m.starts m.words

-- within the limits κ, behind the code E of the functions before and beside the other parts, the memory stands for w
pub record Represents (κ : Limits) (E : Entries) (others : ℕ → List ℕ) (m : Memory) (w : Work) : Type 0 where
  pub fits : Fits m.starts (length m.words)
  pub preserves : Preserves others m
  pub held : RepresentsMachine κ E (view m) w
  pub slots : Slotted m

-- part i has other words, as many as before
pub record Replaced (i : ℕ) (R : List ℕ → List ℕ → Type 0) (starts before after : List ℕ) : Type 0 where
  pub words : List ℕ
  pub does : R (part starts i before) words
  pub long : length words ≡ length (part starts i before)
  pub is : after ≡ with_part starts i words before

-- a routine that is lent part i: R is what it does to the part
pub record On (i : ℕ) (R : List ℕ → List ℕ → Type 0) (m m' : Memory) : Type 0 where
  pub same : m'.starts ≡ m.starts
  pub on : Fits m.starts (length m.words) → Replaced i R m.starts m.words m'.words

-- whatever work the memory stands for before, it stands for the step's work after
pub record Simulates (m m' : Memory) (step : Step) : Type 0 where
  pub meets : (κ : Limits) (E : Entries) (others : ℕ → List ℕ) (w : Work) → Represents κ E others m w → Represents κ E others m' (step w)

-- the same inside a function: a scope is open, and area 7 names the book's context locals
pub record SimulatesInside (start count : ℕ) (m m' : Memory) (step : Step) : Type 0 where
  pub meets : (κ : Limits) (E : Entries) (others : ℕ → List ℕ) (w : Work) → Inside start count (others context_locals_area) w
      → Represents κ E others m w → Represents κ E others m' (step w)
