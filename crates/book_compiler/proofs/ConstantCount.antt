-- Steps over other areas keep the count of constants. By the tests of each. Assumes nothing.
use Rattle.std.proofs.Common.{◌≡◌, ℕ, Bool, true, false, cond, eqb, List, length, refl, ap, ◌∙◌}
use mathlib.Core.Option.{Option, none, some}
use Rattle.words.specs.Areas.{scope_names_area}
use Rattle.words.specs.Opcode.{to_instruction, word, Pop, ReturnOp}
use Rattle.constant_slots.proofs.Rounds.{cond_case}
use Rattle.building.specs.declared.function_state.FunctionState.{FunctionState}
use Rattle.building.specs.State.{begun, with_names}
use Rattle.building.specs.Taking.{taken_of}
use Rattle.building.specs.Emission.{Coded, last_position_c, last_opcode_c, emit_c, emit_last_c, remove_pop_c, emit_return_c, drop_c}
use Rattle.building.specs.Emission.{Breaking, emit_break_c, enter_break_c, exit_break_c, deeper_c, depth_c, rescue_c, parameters_c}
use Rattle.building.specs.Scopes.{Naming, enter_scope_c, exit_scope_c, end_function_c, counted_c, find_in_scope_c, define_by, define_c}
use Rattle.building.specs.Pool.{Erring, erring, push_error_c}
use Rattle.compiler_laws.specs.declared.book.Book as struct
use Rattle.compiler_laws.specs.BookSteps.{resumed_book}

-- of two states or memories, each has n constants
abbrev Counts : ℕ → FunctionState → Type 0
Counts n s = s.constants ≡ n

abbrev CountsCoded : ℕ → Coded → Type 0
CountsCoded n g = g.state.constants ≡ n

abbrev CountsNaming : ℕ → Naming → Type 0
CountsNaming n g = g.state.constants ≡ n

abbrev CountsBreaking : ℕ → Breaking → Type 0
CountsBreaking n g = g.state.constants ≡ n

-- the code
pub emit_count : (x p : ℕ) (g : Coded) → (emit_c x p g).state.constants ≡ g.state.constants
unfolding emit_c
emit_count x p g = refl

pub last_count : (x : ℕ) (g : Coded) → (emit_last_c x g).state.constants ≡ g.state.constants
last_count x g = emit_count x (last_position_c g) g

pub remove_count : (g : Coded) → (remove_pop_c g).state.constants ≡ g.state.constants
unfolding remove_pop_c emit_c
remove_count g =
    cond_case (CountsCoded g.state.constants) (eqb g.state.full 0)
    (λ t. cond_case (CountsCoded g.state.constants) (eqb (last_opcode_c g) Pop) (λ t. refl)
    (λ t. cond_case (CountsCoded g.state.constants) (eqb (last_opcode_c g) ReturnOp) (λ t. refl) (λ t. refl))) (λ t. refl)

pub return_count : (p : ℕ) (g : Coded) → (emit_return_c p g).state.constants ≡ g.state.constants
unfolding emit_return_c
return_count p g =
    let h = remove_pop_c g in
    cond_case (CountsCoded g.state.constants) (eqb (last_opcode_c h) ReturnOp) (λ t. remove_count g)
    (λ t. emit_count (word (to_instruction ReturnOp 0)) p h ∙ remove_count g)

pub drop_count : (g : Coded) → (drop_c g).state.constants ≡ g.state.constants
unfolding drop_c
drop_count g = cond_case (CountsCoded g.state.constants) (eqb g.state.full 0) (λ t. refl) (λ t. refl)

-- the code and the breaks
pub break_count : (p : ℕ) (g : Breaking) → (emit_break_c p g).state.constants ≡ g.state.constants
unfolding emit_break_c emit_c
break_count p g = cond_case (CountsBreaking g.state.constants) g.state.in_loop (λ t. refl) (λ t. refl)

pub exit_break_count : (start : ℕ) (inside : Bool) (g : Breaking) → (exit_break_c start inside g).state.constants ≡ g.state.constants
unfolding exit_break_c
exit_break_count start inside g = cond_case (CountsBreaking g.state.constants) (eqb g.state.full 0) (λ t. refl) (λ t. refl)

-- the names
pub exit_scope_count : (start : ℕ) (g : Naming) → (exit_scope_c start g).state.constants ≡ g.state.constants
unfolding exit_scope_c
exit_scope_count start g = cond_case (CountsNaming g.state.constants) (eqb g.state.full 0) (λ t. refl) (λ t. refl)

pub end_function_count : (g : Naming) → (end_function_c g).state.constants ≡ g.state.constants
unfolding end_function_c
end_function_count g = cond_case (CountsNaming g.state.constants) (eqb g.state.full 0) (λ t. refl) (λ t. refl)

pub anonymous_count : (s : FunctionState) → (counted_c s).constants ≡ s.constants
anonymous_count s = cond_case (Counts s.constants) (eqb s.full 0) (λ t. refl) (λ t. refl)

define_by_count : (o : Option ℕ) (name : ℕ) (g : Naming) → (define_by o name g).memory.state.constants ≡ g.state.constants
define_by_count (some i) name g = refl
define_by_count none name g =
    let s = g.state in
    anonymous_count (with_names (taken_of scope_names_area 2 s.full s.names (length g.names)) s)

pub define_count : (name : ℕ) (g : Naming) → (define_c name g).memory.state.constants ≡ g.state.constants
unfolding define_c
define_count name g = go (eqb g.state.full 0)
  where
    go : (b : Bool) → (cond b (define_by (find_in_scope_c name g) name g) (record { found = none; memory = g })).memory.state.constants ≡ g.state.constants
    go true = define_by_count (find_in_scope_c name g) name g
    go false = refl

-- the errors
pub error_count : (number position kind value : ℕ) (s : FunctionState) (e : List ℕ) → (push_error_c number position kind value s e).state.constants ≡
    s.constants
unfolding push_error_c
error_count number position kind value s e = refl

-- the state alone
module _ (s : FunctionState) where
  pub enter_scope_count : (enter_scope_c s).constants ≡ s.constants
  enter_scope_count = cond_case (Counts s.constants) (eqb s.full 0) (λ t. refl) (λ t. refl)

  pub enter_break_count : (enter_break_c s).constants ≡ s.constants
  enter_break_count = cond_case (Counts s.constants) (eqb s.full 0) (λ t. refl) (λ t. refl)

  pub deeper_count : (deeper_c s).constants ≡ s.constants
  deeper_count = cond_case (Counts s.constants) (eqb s.full 0) (λ t. refl) (λ t. refl)

  pub depth_count : (n : ℕ) → (depth_c n s).constants ≡ s.constants
  depth_count n = cond_case (Counts s.constants) (eqb s.full 0) (λ t. refl) (λ t. refl)

  pub rescue_count : (rescue_c s).constants ≡ s.constants
  rescue_count = cond_case (Counts s.constants) (eqb s.full 0) (λ t. refl) (λ t. refl)

  pub parameters_count : (b : Bool) (n : ℕ) → (parameters_c b n s).constants ≡ s.constants
  parameters_count b n = cond_case (Counts s.constants) (eqb s.full 0) (λ t. refl) (λ t. refl)

-- `push_error` of a book
pub fault_constants : (number position kind value : ℕ) {s s' : struct.Book} {before r : FunctionState} (e : List ℕ) {e' : List ℕ}
    → before ≡ begun s.full s.code s.constants s.errors → erring r e' ≡ push_error_c number position kind value before e
    → s' ≡ resumed_book s r → s'.constants ≡ s.constants
fault_constants number position kind value {before = before} e worked pushed back =
    ap (λ (b : struct.Book). b.constants) back ∙ ap (λ (x : Erring). x.state.constants) pushed ∙ error_count number position kind value before e
    ∙ ap (λ (t : FunctionState). t.constants) worked
