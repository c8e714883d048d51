-- `backend/function_state.rs`: the state of the function under compilation, and its methods under the Rust's names. A method takes the state and gives it back
use Rattle.std.specs.Prelude.{ℕ, ◌+◌, ◌-◌, Bool, false, cond, List, [], ◌∷◌, ◌++◌, length, get_or, take, set, eqb}
use Rattle.std.proofs.Math.Option.{Option, none, some}
use Rattle.words.specs.Opcode.{Instruction, to_instruction, nothing, Pop, PushConstant, ReturnOp, Jump}
use Rattle.words.specs.Object.{NULL}

-- a name and its number: an entry of the Rust's `Scope`
pub record Entry : Type 0 where
  pub name : ℕ
  pub index : ℕ

-- ghost: what happened to loops, for demand 3. A 24 was entered; a break's Jump was emitted at an index; the innermost 24 was left, with its exit's
-- index and the number just after it (01, 'Emission': loop, exit, just after it)
pub data Event : Type 0 where
  Entered : Event
  Broke : ℕ → Event
  Left : ℕ → ℕ → Event

-- what the Rust's `Function` keeps of it
pub record Header : Type 0 where
  pub is_instance : Bool
  pub parameter_count : ℕ
  pub local_count : ℕ
  pub rescue_position : ℕ

pub record Code : Type 0 where
  pub instructions : List Instruction
  pub positions : List ℕ

-- ghosts: `trace`, the newest event first; `this_reads`, the indices of the reads of `this`
pub record Log : Type 0 where
  pub trace : List Event
  pub this_reads : List ℕ

-- scopes and break_scopes: the innermost first, and in a scope the newest name first
pub record FunctionState : Type 0 where
  pub header : Header
  pub depth : ℕ
  pub scopes : List (List Entry)
  pub break_scopes : List (List ℕ)
  pub code : Code
  pub log : Log

abbrev pub new_header : Header
new_header = record { is_instance = false; parameter_count = 0; local_count = 0; rescue_position = 0 }

abbrev pub no_log : Log
no_log = record { trace = []; this_reads = [] }

-- `FunctionState::new`, with its first scope
abbrev pub new_function_state : FunctionState
new_function_state =
    record { header = new_header; depth = 0; scopes = [] ∷ []; break_scopes = []; code = record { instructions = []; positions = [] }; log = no_log }

-- one field anew
abbrev pub with_header : Header → FunctionState → FunctionState
with_header h f = record { header = h; depth = f.depth; scopes = f.scopes; break_scopes = f.break_scopes; code = f.code; log = f.log }

abbrev pub with_depth : ℕ → FunctionState → FunctionState
with_depth n f = record { header = f.header; depth = n; scopes = f.scopes; break_scopes = f.break_scopes; code = f.code; log = f.log }

abbrev pub with_scopes : List (List Entry) → FunctionState → FunctionState
with_scopes s f = record { header = f.header; depth = f.depth; scopes = s; break_scopes = f.break_scopes; code = f.code; log = f.log }

abbrev pub with_break_scopes : List (List ℕ) → FunctionState → FunctionState
with_break_scopes s f = record { header = f.header; depth = f.depth; scopes = f.scopes; break_scopes = s; code = f.code; log = f.log }

abbrev pub with_code : List Instruction → List ℕ → FunctionState → FunctionState
with_code is ps f =
    let code : Code = record { instructions = is; positions = ps } in
    record { header = f.header; depth = f.depth; scopes = f.scopes; break_scopes = f.break_scopes; code = code; log = f.log }

abbrev pub with_log : Log → FunctionState → FunctionState
with_log l f = record { header = f.header; depth = f.depth; scopes = f.scopes; break_scopes = f.break_scopes; code = f.code; log = l }

abbrev pub with_parameters : Bool → ℕ → FunctionState → FunctionState
with_parameters b n f =
    let h = f.header in
    with_header (record { is_instance = b; parameter_count = n; local_count = h.local_count; rescue_position = h.rescue_position }) f

abbrev pub with_local_count : ℕ → FunctionState → FunctionState
with_local_count n f =
    let h = f.header in
    with_header (record { is_instance = h.is_instance; parameter_count = h.parameter_count; local_count = n; rescue_position = h.rescue_position }) f

abbrev pub with_rescue : ℕ → FunctionState → FunctionState
with_rescue n f =
    let h = f.header in
    with_header (record { is_instance = h.is_instance; parameter_count = h.parameter_count; local_count = h.local_count; rescue_position = n }) f

abbrev pub with_trace : List Event → FunctionState → FunctionState
with_trace t f = with_log (record { trace = t; this_reads = f.log.this_reads }) f

abbrev pub with_this_reads : List ℕ → FunctionState → FunctionState
with_this_reads l f = with_log (record { trace = f.log.trace; this_reads = l }) f

-- the last of a list, and a list without its last
abbrev pub last : {A : Type 0} → List A → A → A
last l d = get_or l (length l - 1) d

abbrev pub init : {A : Type 0} → List A → List A
init l = take (length l - 1) l

-- `get_last_position`: `Position::none()` is 0
abbrev pub get_last_position : FunctionState → ℕ
get_last_position f = last f.code.positions 0

-- `get_next_instruction_index`
abbrev pub get_next_instruction_index : FunctionState → ℕ
get_next_instruction_index f = length f.code.instructions

-- `emit`, `emit_opcode`, `emit_opcode_without_position`
abbrev pub emit : Instruction → ℕ → FunctionState → FunctionState
emit i p f = with_code (f.code.instructions ++ (i ∷ [])) (f.code.positions ++ (p ∷ [])) f

abbrev pub emit_opcode : ℕ → ℕ → FunctionState → FunctionState
emit_opcode o p f = emit (to_instruction o 0) p f

abbrev pub emit_opcode_without_position : ℕ → FunctionState → FunctionState
emit_opcode_without_position o f = emit_opcode o (get_last_position f) f

-- null at the last position, as three places of the Rust emit it
abbrev pub emit_null : FunctionState → FunctionState
emit_null f = emit (to_instruction PushConstant NULL) (get_last_position f) f

-- the last instruction's opcode; 0, which none has, where there is no instruction
abbrev pub last_opcode : FunctionState → ℕ
last_opcode f = (last f.code.instructions nothing).opcode

-- the last instruction and its position taken off
abbrev pub pop_last : FunctionState → FunctionState
pop_last f = with_code (init f.code.instructions) (init f.code.positions) f

-- `remove_pop_or_push_null`: an empty list has no last opcode, and gets null too
unfoldable pub remove_pop_or_push_null : FunctionState → FunctionState
remove_pop_or_push_null f = cond (eqb (last_opcode f) Pop) (pop_last f) (cond (eqb (last_opcode f) ReturnOp) f (emit_null f))

-- `emit_return`: on a list emptied of its only Pop the Rust panics, and this emits Return (01, 'Emission'; docs/DIFFERENCES.md)
unfoldable pub emit_return : ℕ → FunctionState → FunctionState
emit_return p f = let g = remove_pop_or_push_null f in cond (eqb (last_opcode g) ReturnOp) g (emit_opcode ReturnOp p g)

-- indices pushed to the innermost break scope
abbrev pub push_breaks : List ℕ → List (List ℕ) → List (List ℕ)
push_breaks is [] = []
push_breaks is (s ∷ ss) = (s ++ is) ∷ ss

-- `emit_break`: outside of a loop nothing
abbrev pub emit_break_in : List (List ℕ) → ℕ → FunctionState → FunctionState
emit_break_in [] p f = f
emit_break_in (s ∷ ss) p f =
    let index = get_next_instruction_index f in
    with_trace (Broke index ∷ f.log.trace) (with_break_scopes (push_breaks (index ∷ []) f.break_scopes) (emit_opcode Jump p f))

unfoldable pub emit_break : ℕ → FunctionState → FunctionState
emit_break p f = emit_break_in f.break_scopes p f

-- `replace_instruction`
abbrev pub replace_instruction : ℕ → Instruction → FunctionState → FunctionState
replace_instruction j i f = with_code (set f.code.instructions j i) f.code.positions f

-- a scope's `get`
abbrev pub find_name : ℕ → List Entry → Option ℕ
find_name n [] = none
find_name n (e ∷ es) = cond (eqb e.name n) (some e.index) (find_name n es)

-- the first of two that is there
abbrev pub or_else : Option ℕ → Option ℕ → Option ℕ
or_else (some i) o = some i
or_else none o = o

-- `find_local`: from the innermost scope outwards
abbrev pub find_scopes : ℕ → List (List Entry) → Option ℕ
find_scopes n [] = none
find_scopes n (s ∷ ss) = or_else (find_name n s) (find_scopes n ss)

abbrev pub find_local : ℕ → FunctionState → Option ℕ
find_local n f = find_scopes n f.scopes

-- `enter_scope`, `exit_scope`
abbrev pub enter_scope : FunctionState → FunctionState
enter_scope f = with_scopes ([] ∷ f.scopes) f

abbrev pub tail : {A : Type 0} → List A → List A
tail [] = []
tail (x ∷ xs) = xs

abbrev pub exit_scope : FunctionState → FunctionState
exit_scope f = with_scopes (tail f.scopes) f

-- `enter_break_scope`: a loop is entered
abbrev pub enter_break_scope : FunctionState → FunctionState
enter_break_scope f = with_trace (Entered ∷ f.log.trace) (with_break_scopes ([] ∷ f.break_scopes) f)

-- `replace_instruction` of each break by a Jump to t
abbrev pub patch_all : List ℕ → ℕ → List Instruction → List Instruction
patch_all [] t is = is
patch_all (b ∷ bs) t is = patch_all bs t (set is b (to_instruction Jump t))

-- the innermost scope; none where there is no scope
abbrev pub innermost : {A : Type 0} → List (List A) → List A
innermost [] = []
innermost (s ∷ ss) = s

-- `exit_break_scope`: the loop whose exit is at `exit` is left. Without a break scope the Rust panics; a loop has entered its own
unfoldable pub exit_break_scope : ℕ → FunctionState → FunctionState
exit_break_scope exit f =
    let target = get_next_instruction_index f in
    with_trace (Left exit target ∷ f.log.trace)
    (with_break_scopes (tail f.break_scopes) (with_code (patch_all (innermost f.break_scopes) target f.code.instructions) f.code.positions f))

-- `insert` into the innermost scope
abbrev pub insert_name : Entry → List (List Entry) → List (List Entry)
insert_name e [] = []
insert_name e (s ∷ ss) = (e ∷ s) ∷ ss

-- what `define_local` returns, with the state
pub record Defined : Type 0 where
  pub found : Option ℕ
  pub state : FunctionState

abbrev pub define_local_by : Option ℕ → ℕ → FunctionState → Defined
define_local_by (some i) n f = record { found = none; state = f }
define_local_by none n f = record {
  found = some f.header.local_count;
  state = with_scopes (insert_name (record { name = n; index = f.header.local_count }) f.scopes) (with_local_count (f.header.local_count + 1) f);
}

abbrev pub define_local_in : List (List Entry) → ℕ → FunctionState → Defined
define_local_in [] n f = record { found = none; state = f }
define_local_in (s ∷ ss) n f = define_local_by (find_name n s) n f

-- `define_local`: a name that the innermost scope has is not defined again, and none without a scope
unfoldable pub define_local : ℕ → FunctionState → Defined
define_local n f = define_local_in f.scopes n f

-- `define_anonymous_local`
abbrev pub define_anonymous_local : FunctionState → FunctionState
define_anonymous_local f = with_local_count (f.header.local_count + 1) f
