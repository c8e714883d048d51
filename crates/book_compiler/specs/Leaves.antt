-- What a routine of `building` does where it is lent its part of the memory
-- Private contracts alone cite this file: whoever reads the promises need not believe it
use Rattle.std.specs.Prelude.{◌≡◌, ℕ, ◌-◌, ◌<◌, false, cond, List, [], ◌∷◌, length, replicate, ◌==◌}
use Rattle.memory.specs.Layout.{part_count, Fits}
use Rattle.words.specs.Areas.{code_area, constants_area, context_locals_area, scope_names_area, breaks_area, errors_area, entry_field}
use Rattle.words.specs.Object.{constant_of}
use Rattle.words.specs.Opcode.{to_instruction, word, Jump}
use Rattle.std.specs.Prelude as code
use Rattle.constant_slots.specs.Plain as plain
use Rattle.constant_slots.specs.Plain.{pool_of}
use Rattle.constant_slots.specs.Slots.{slots_of, put_number, search_slots}
use Rattle.building.specs.declared.function_state.FunctionState.{FunctionState}
use Rattle.building.specs.State.{with_breaks}
use Rattle.building.specs.Taking.{taken_of, took_words, given_up}
use Rattle.building.specs.Found.{Found, found_of, find_context_local_c}
use Rattle.building.specs.Emission.{Coded, coded, Breaking, breaking, last_position_c, next_c, patch_c}
use Rattle.building.specs.Scopes.{Naming, naming, find_local_c, Defines}
use Rattle.building.specs.Pool.{Pooling, pooling, add_no_check_c, add_constant_c, mark_global_c, erring, push_error_c}
use Rattle.building.specs.Scopes.{defined}
use Rattle.memory.specs.Layout.{part}
use Rattle.book_compiler.specs.Represents.{Memory, part_of, slots_part, Slotted, Replaced, On}

-- a method over the code alone
pub record OnCode (f : Coded → Coded) (m m' : Memory) : Type 0 where
  pub acts : On code_area (λ c c'. coded m'.state c' ≡ f (coded m.state c)) m m'

-- a method over the scopes' names alone
pub record OnNames (f : Naming → Naming) (m m' : Memory) : Type 0 where
  pub acts : On scope_names_area (λ n n'. naming m'.state n' ≡ f (naming m.state n)) m m'

-- `define_local`
pub record DefinesLocal (name : ℕ) (r : Found) (m m' : Memory) : Type 0 where
  pub acts : On scope_names_area (λ n n'. Defines name (naming m.state n) (defined r m'.state) n') m m'

-- the parts after a method over the constants and their slots, which are lent one after the other; the slots are again what filling anew gives
pub record ConstantAdded (f : FunctionState → List ℕ → Pooling) (index : ℕ) (m m' : Memory) : Type 0 where
  pub fits : Fits m'.starts (length m'.words)
  pub others : (i : ℕ) → i < part_count → (i == constants_area) ≡ false → (i == slots_part) ≡ false → part_of m' i ≡ part_of m i
  pub is : pooling index m'.state (part_of m' constants_area) ≡ f m.state (part_of m constants_area)
  pub slotted : Slotted m'

-- `add_constant`, which searches through the slots: on a memory whose slots are filled it answers as with the plain search
pub record AddsConstant (kind value index : ℕ) (m m' : Memory) : Type 0 where
  pub adds : Fits m.starts (length m.words) → Slotted m → ConstantAdded (add_constant_c kind value) index m m'

-- without the search, and with the constant's slot or without
pub record AddsNewConstant (kind value index : ℕ) (m m' : Memory) : Type 0 where
  pub adds : Fits m.starts (length m.words) → Slotted m → ConstantAdded (add_no_check_c kind value) index m m'

pub record AddsNoCheck (kind value index : ℕ) (m m' : Memory) : Type 0 where
  pub acts : On constants_area (λ k k'. pooling index m'.state k' ≡ add_no_check_c kind value m.state k) m m'

-- the search through the slots, of constants and slots as they are
pub record FindsConstant (kind value : ℕ) (r : code.Option ℕ) (m : Memory) : Type 0 where
  pub on : Fits m.starts (length m.words)
      → r ≡ plain.found_of (search_slots m.state.constants (constant_of kind value) (part_of m constants_area) (part_of m slots_part)).found

-- a constant of a number takes its slot; all slots filled anew with the first constants; all slots zero. These have no state
pub record PutsSlot (number kind value : ℕ) (starts before after : List ℕ) : Type 0 where
  pub on : Fits starts (length before) → Replaced slots_part (λ t t'. t' ≡ put_number t number (constant_of kind value)) starts before after

pub record FillsSlots (count : ℕ) (starts before after : List ℕ) : Type 0 where
  pub on : Fits starts (length before)
      → Replaced slots_part (λ t t'. t' ≡ slots_of (length t) (pool_of count (part starts constants_area before))) starts before after

pub record ClearsSlots (starts before after : List ℕ) : Type 0 where
  pub on : Fits starts (length before) → Replaced slots_part (λ t t'. t' ≡ replicate (length t) 0) starts before after

-- a word of a constant
pub record ConstantWord (i k r : ℕ) (starts words : List ℕ) : Type 0 where
  pub on : Fits starts (length words) → r ≡ entry_field 3 i k (part starts constants_area words)

-- `mark_global`: a mark that is set stays as it is, so that one that stood is told from one of the bundle (2026-01)
abbrev pub mark_unmarked_c : ℕ → FunctionState → List ℕ → List ℕ
mark_unmarked_c index s k = cond (entry_field 3 index 2 k == 0) (mark_global_c index s k) k

pub record MarksGlobal (index : ℕ) (m m' : Memory) : Type 0 where
  pub state : m'.state ≡ m.state
  pub acts : On constants_area (λ k k'. k' ≡ mark_unmarked_c index m.state k) m m'

-- `push_error`

pub record PushesError (number position kind value : ℕ) (m m' : Memory) : Type 0 where
  pub acts : On errors_area (λ e e'. erring m'.state e' ≡ push_error_c number position kind value m.state e) m m'

-- a routine that reads part i: R is what it answers of the part
pub record Reads (i : ℕ) (R : List ℕ → Type 0) (m : Memory) : Type 0 where
  pub on : Fits m.starts (length m.words) → R (part_of m i)

-- `get_last_position`, `find_local`, `find_context_local`
pub record LastPosition (r : ℕ) (m : Memory) : Type 0 where
  pub reads : Reads code_area (λ c. r ≡ last_position_c (coded m.state c)) m

pub record FindsLocal (name : ℕ) (r : Found) (m : Memory) : Type 0 where
  pub reads : Reads scope_names_area (λ n. r ≡ found_of (find_local_c name (naming m.state n))) m

pub record FindsContextLocal (start count name : ℕ) (r : Found) (m : Memory) : Type 0 where
  pub reads : Reads context_locals_area (λ l. r ≡ found_of (find_context_local_c start count name l)) m

-- a break's entry more
pub record PushesBreak (index : ℕ) (s : FunctionState) (b : List ℕ) (s' : FunctionState) (b' : List ℕ) : Type 0 where
  pub state : s' ≡ with_breaks (taken_of breaks_area 1 s.full s.breaks (length b)) s
  pub breaks : b' ≡ took_words s.full s.breaks (index ∷ []) b

-- the same on the memory
pub record OnBreaks (index : ℕ) (m m' : Memory) : Type 0 where
  pub acts : On breaks_area (λ b b'. PushesBreak index m.state b m'.state b') m m'

pub record GivesUpBreaks (m m' : Memory) : Type 0 where
  pub state : m'.state ≡ m.state
  pub acts : On breaks_area (λ b b'. b' ≡ given_up 1 m.state.break_base m.state.breaks b) m m'

pub record WaitingBreak (i r : ℕ) (m : Memory) : Type 0 where
  pub reads : Reads breaks_area (λ b. r ≡ entry_field 1 i 0 b) m

-- the parts after a method over the code and the breaks, which are lent one after the other
pub record Both (f : Breaking → Breaking) (m m' : Memory) : Type 0 where
  pub fits : Fits m'.starts (length m'.words)
  pub others : (i : ℕ) → i < part_count → (i == code_area) ≡ false → (i == breaks_area) ≡ false → part_of m' i ≡ part_of m i
  pub is : breaking m'.state (part_of m' code_area) (part_of m' breaks_area) ≡ f (breaking m.state (part_of m code_area) (part_of m breaks_area))

-- `emit_break`, `exit_break_scope`
pub record OnBoth (f : Breaking → Breaking) (m m' : Memory) : Type 0 where
  pub on : Fits m.starts (length m.words) → Both f m m'

-- the innermost loop's breaks jump to the next instruction
abbrev pub patched : Breaking → Breaking
patched x =
    let s = x.state in
    breaking s (patch_c (s.breaks - s.break_base) s.break_base (word (to_instruction Jump (next_c s))) s x.breaks x.code) x.breaks
