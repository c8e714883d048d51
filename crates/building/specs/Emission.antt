-- What the routines of `function_state.rt` make of the state and of the code area, on any state and any words. Each is written as the definition's
-- method of the same name is, over memory
use Rattle.std.specs.Prelude.{ℕ, zero, suc, ◌+◌, ◌-◌, ◌/◌, ◌^◌, min, Bool, true, cond, List, [], ◌∷◌, length, ◌==◌, nat_lt}
use Rattle.words.specs.Areas.{code_area, breaks_area, entry_field, write_entry, write_word}
use Rattle.words.specs.Opcode.{to_instruction, word, Pop, PushConstant, ReturnOp, Jump}
use Rattle.words.specs.Object.{NULL}
use Rattle.building.specs.declared.function_state.FunctionState.{FunctionState}
use Rattle.building.specs.State.{with_code, with_code_count, with_breaks, with_loop, with_depth, with_rescue, with_parameters, most_depth}
use Rattle.building.specs.Taking.{taken_of, took_words, given_up}

-- the state and the code area
pub record Coded : Type 0 where
  pub state : FunctionState
  pub code : List ℕ

abbrev pub coded : FunctionState → List ℕ → Coded
coded s c = record { state = s; code = c }

-- `get_next_instruction_index`
abbrev pub next_c : FunctionState → ℕ
next_c s = s.code - s.base

-- word k of the function's last entry; 0 where it has none
abbrev pub last_c : ℕ → Coded → ℕ
last_c k m = cond (nat_lt m.state.base m.state.code) (entry_field 2 (m.state.code - 1) k m.code) 0

-- `get_last_position`
abbrev pub last_position_c : Coded → ℕ
last_position_c m = last_c 1 m

-- the last instruction's opcode
abbrev pub last_opcode_c : Coded → ℕ
last_opcode_c m = last_c 0 m / 2 ^ 56

-- `emit`, of an instruction's word
unfoldable pub emit_c : ℕ → ℕ → Coded → Coded
emit_c w p m =
    coded (with_code (taken_of code_area 2 m.state.full m.state.code (length m.code)) m.state)
    (took_words m.state.full m.state.code (w ∷ p ∷ []) m.code)

-- at the last position: `emit_opcode_without_position`, and null
abbrev pub emit_last_c : ℕ → Coded → Coded
emit_last_c w m = emit_c w (last_position_c m) m

abbrev pub emit_null_c : Coded → Coded
emit_null_c m = emit_last_c (word (to_instruction PushConstant NULL)) m

-- the last entry given up
abbrev pub pop_c : Coded → Coded
pop_c m = coded (with_code_count (m.state.code - 1) m.state) (write_entry 2 (m.state.code - 1) (0 ∷ 0 ∷ []) m.code)

-- with the mark set, the second
abbrev pub unless_full : FunctionState → {A : Type 0} → A → A → A
unless_full s x y = cond (s.full == 0) x y

-- `remove_pop_or_push_null`
unfoldable pub remove_pop_c : Coded → Coded
unfolding emit_c
remove_pop_c m =
    unless_full m.state (cond (last_opcode_c m == Pop) (pop_c m) (cond (last_opcode_c m == ReturnOp) m (emit_null_c m))) m

-- `emit_return`
unfoldable pub emit_return_c : ℕ → Coded → Coded
unfolding remove_pop_c emit_c
emit_return_c p m =
    let g = remove_pop_c m in
    cond (last_opcode_c g == ReturnOp) g (emit_c (word (to_instruction ReturnOp 0)) p g)

-- `replace_instruction`: an index of the function's own code
unfoldable pub replace_c : ℕ → ℕ → Coded → Coded
replace_c index w m =
    unless_full m.state
    (cond (nat_lt index (next_c m.state)) (coded m.state (write_word 2 (m.state.base + index) 0 w m.code)) m) m

-- the function's code given back (error 8)
unfoldable pub drop_c : Coded → Coded
drop_c m =
    unless_full m.state (coded (with_code_count m.state.base m.state) (given_up 2 m.state.base m.state.code m.code)) m

-- the state, the code area and the breaks
pub record Breaking : Type 0 where
  pub state : FunctionState
  pub code : List ℕ
  pub breaks : List ℕ

abbrev pub breaking : FunctionState → List ℕ → List ℕ → Breaking
breaking s c b = record { state = s; code = c; breaks = b }

-- a break's entry
abbrev pub mark_break_c : ℕ → FunctionState → List ℕ → List ℕ → Breaking
mark_break_c index s c b =
    breaking (with_breaks (taken_of breaks_area 1 s.full s.breaks (length b)) s) c (took_words s.full s.breaks (index ∷ []) b)

-- `emit_break`
unfoldable pub emit_break_c : ℕ → Breaking → Breaking
unfolding emit_c
emit_break_c p m =
    cond m.state.in_loop
    (let g = emit_c (word (to_instruction Jump 0)) p (coded m.state m.code) in mark_break_c (next_c m.state) g.state g.code m.breaks)
    m

-- `enter_break_scope`
abbrev pub enter_break_c : FunctionState → FunctionState
enter_break_c s = unless_full s (with_loop s.breaks s.breaks true s) s

-- the instructions that k breaks from entry i on name get a word
unfoldable pub patch_c : ℕ → ℕ → ℕ → FunctionState → List ℕ → List ℕ → List ℕ
unfolding replace_c
patch_c zero i w s b c = c
patch_c (suc k) i w s b c = patch_c k (i + 1) w s b (replace_c (entry_field 1 i 0 b) w (coded s c)).code

-- `exit_break_scope`: `start` and `inside` are those of the loop around
unfoldable pub exit_break_c : ℕ → Bool → Breaking → Breaking
unfolding patch_c
exit_break_c start inside m =
    unless_full m.state
    (let s = m.state in
    breaking (with_loop (min s.break_base s.breaks) start inside s)
    (patch_c (s.breaks - s.break_base) s.break_base (word (to_instruction Jump (next_c s))) s m.breaks m.code)
    (given_up 1 s.break_base s.breaks m.breaks)) m

-- a statement deeper, and back to a depth
abbrev pub deeper_c : FunctionState → FunctionState
deeper_c s = unless_full s (with_depth (min most_depth (s.depth + 1)) s) s

abbrev pub depth_c : ℕ → FunctionState → FunctionState
depth_c n s = unless_full s (with_depth n s) s

-- the rescue part starts at the next instruction
abbrev pub rescue_c : FunctionState → FunctionState
rescue_c s = unless_full s (with_rescue (next_c s) s) s

-- the parameters' two fields
abbrev pub parameters_c : Bool → ℕ → FunctionState → FunctionState
parameters_c b n s = unless_full s (with_parameters b n s) s
