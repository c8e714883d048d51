-- The one relation between memory and the definition's states: what the state and the areas hold of a `Work`. Laws about the routines cite it alone
use Rattle.std.specs.Prelude.{◌≡◌, ℕ, ◌+◌, ◌%◌, ◌^◌, ◌<◌, ◌≤◌, min, Bool, true, false, List, [], ◌∷◌, ◌++◌, length, replicate, slice_index_or}
use Rattle.std.proofs.Math.Option.{Option, none, some}
use Rattle.words.specs.Areas.{entries_in, width_of, code_area, constants_area, scope_names_area, breaks_area, errors_area, entry_word}
use Rattle.definition.specs.FunctionState.{Entry, tail}
use Rattle.definition.specs.Uses.{Limits, limit_of, first_over, total}
use Rattle.definition.specs.Compiler.{Work, CompilerState}
use Rattle.definition.specs.Program.{Entries, flat, code_entries, constant_entry, error_entry, entries_from}
use Rattle.definition.specs.Within.{All}
use Rattle.building.specs.declared.function_state.FunctionState as struct
use Rattle.building.specs.State.{most_depth}

-- the state and the areas that functions are built in
pub record Machine : Type 0 where
  pub state : struct.FunctionState
  pub code : List ℕ
  pub constants : List ℕ
  pub names : List ℕ
  pub breaks : List ℕ
  pub errors : List ℕ

abbrev pub machine : struct.FunctionState → List ℕ → List ℕ → List ℕ → List ℕ → List ℕ → Machine
machine s c k n b e = record { state = s; code = c; constants = k; names = n; breaks = b; errors = e }

-- an area holds entries of a width and then zeros, n counts them, and they are not more than the area's length in entries
pub record Filled (width : ℕ) (l : List ℕ) (es : Entries) (n : ℕ) : Type 0 where
  pub zeros : ℕ
  pub is : l ≡ flat es ++ replicate zeros 0
  pub count : n ≡ length es
  pub wide : All (λ (e : List ℕ). length e ≡ width) es
  pub room : n ≤ entries_in width (length l)

-- scopes are nested in the definition, the innermost first and in each the newest name first; in area 9 they are flat, the oldest first.
-- A local's number stands in 64 bits
abbrev pub name_entry : Entry → List ℕ
name_entry e = e.name ∷ e.index % 2 ^ 64 ∷ []

abbrev pub oldest_first : List Entry → Entries
oldest_first [] = []
oldest_first (e ∷ es) = oldest_first es ++ (name_entry e ∷ [])

abbrev pub name_entries : List (List Entry) → Entries
name_entries [] = []
name_entries (s ∷ ss) = name_entries ss ++ oldest_first s

-- break scopes: the innermost first, and in each the oldest break first; in area 10 flat, the oldest first
abbrev pub break_entry : List ℕ → Entries
break_entry [] = []
break_entry (i ∷ is) = (i ∷ []) ∷ break_entry is

abbrev pub break_entries : List (List ℕ) → Entries
break_entries [] = []
break_entries (s ∷ ss) = break_entries ss ++ break_entry s

abbrev pub is_open : {A : Type 0} → List A → Bool
is_open [] = false
is_open (x ∷ xs) = true

-- where nothing is full: `earlier` is the code of the functions before this one
pub record Contents (earlier : Entries) (m : Machine) (w : Work) : Type 0 where
  pub before : w.before ≡ length earlier
  pub sized : length w.function.code.positions ≡ length w.function.code.instructions
  pub code : Filled (width_of code_area) m.code (earlier ++ code_entries w.function.code.instructions w.function.code.positions) m.state.code
  pub base : m.state.base ≡ length earlier
  pub constants : Filled (width_of constants_area) m.constants (entries_from (constant_entry w.context.globals) 0 w.context.constants)
      m.state.constants
  pub marks : All (λ (n : ℕ). n < length w.context.constants) w.context.globals
  pub names : Filled (width_of scope_names_area) m.names (name_entries w.function.scopes) m.state.names
  pub scope : m.state.scope_base ≡ total (tail w.function.scopes)
  pub breaks : Filled (width_of breaks_area) m.breaks (break_entries w.function.break_scopes) m.state.breaks
  pub loop : m.state.break_base ≡ total (tail w.function.break_scopes)
  pub in_loop : m.state.in_loop ≡ is_open w.function.break_scopes
  pub errors : Filled (width_of errors_area) m.errors (entries_from error_entry 0 w.compiler.errors) m.state.errors
  pub depth : m.state.depth ≡ min most_depth w.function.depth
  pub rescue : m.state.rescue_position ≡ w.function.header.rescue_position
  pub is_instance : m.state.is_instance ≡ w.function.header.is_instance
  pub parameters : m.state.parameter_count ≡ w.function.header.parameter_count
  pub locals : m.state.local_count ≡ w.function.header.local_count % 2 ^ 64

-- the mark for the first note beyond its area; no area is 0, so that 0 is no area's mark
pub data Marks : Option ℕ → ℕ → Type 0 where
  unmarked : Marks none 0
  marked : {area : ℕ} → 0 < area → Marks (some area) area

-- an area's length in entries is the limit
abbrev pub Sized : Limits → ℕ → List ℕ → Type 0
Sized κ area l = entries_in (width_of area) (length l) ≡ limit_of κ area

-- within the limits κ, the machine stands for w
pub record RepresentsMachine (κ : Limits) (earlier : Entries) (m : Machine) (w : Work) : Type 0 where
  pub code_cap : Sized κ code_area m.code
  pub constants_cap : Sized κ constants_area m.constants
  pub names_cap : Sized κ scope_names_area m.names
  pub breaks_cap : Sized κ breaks_area m.breaks
  pub errors_cap : Sized κ errors_area m.errors
  pub full : Marks (first_over κ w.uses) m.state.full
  pub rest : m.state.full ≡ 0 → Contents earlier m w

-- area 7 names the book's context locals from entry `start` up to the count, and those are the definition's `locals`
pub record LocalsHeld (start count : ℕ) (l : List ℕ) (s : CompilerState) : Type 0 where
  pub up_to : count ≡ start + length s.locals
  pub each : (i : ℕ) → i < length s.locals → slice_index_or s.locals i (record { name = 0; index = 0 })
      ≡ record { name = entry_word 4 (start + i) 1 l; index = start + i }
