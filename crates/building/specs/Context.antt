-- What the routines of `context.rt` make of the context locals (area 7) and the functions' records (area 3), on any words
use Rattle.std.specs.Prelude.{ℕ, cond, Some, None, List, [], ◌∷◌, length, ◌==◌, nat_lt}
use Rattle.std.proofs.Math.Option.{Option, none, some}
use Rattle.words.specs.Areas.{context_locals_area, write_word}
use Rattle.definition.specs.Program.{bit}
use Rattle.building.specs.declared.taking.Taken.{Taken}
use Rattle.building.specs.declared.function_state.FunctionState.{FunctionState}
use Rattle.building.specs.Found.{Found, find_context_local_c}
use Rattle.building.specs.Taking.{taken, taken_of, took_words}
use Rattle.building.specs.Emission.{next_c}

-- what `define_local` of the compiler's state answers, the mark and the count, and area 7
pub record Localing : Type 0 where
  pub found : Found
  pub taken : Taken
  pub locals : List ℕ

abbrev pub localing : Found → Taken → List ℕ → Localing
localing f t w = record { found = f; taken = t; locals = w }

abbrev pub define_context_by : Option ℕ → ℕ → ℕ → ℕ → ℕ → List ℕ → Localing
define_context_by (some i) full count file name w = localing None (taken full count) w
define_context_by none full count file name w =
    localing (Some count) (taken_of context_locals_area 4 full count (length w)) (took_words full count (file ∷ name ∷ 0 ∷ 0 ∷ []) w)

-- `define_local` of `CompilerState`: a name that is there keeps its local; with the mark set, no local
unfoldable pub define_context_c : ℕ → ℕ → ℕ → ℕ → ℕ → List ℕ → Localing
define_context_c full start count file name w =
    cond (full == 0) (define_context_by (find_context_local_c start count name w) full count file name w) (localing None (taken full count) w)

-- `local_values.insert`, of a context local in use: the mark and the constant
unfoldable pub set_value_c : ℕ → ℕ → ℕ → ℕ → List ℕ → List ℕ
set_value_c full count i constant w =
    cond (full == 0) (cond (nat_lt i count) (write_word 4 i 3 constant (write_word 4 i 2 1 w)) w) w

-- a function's entry: `add_function`
abbrev pub function_state_words : FunctionState → ℕ → ℕ → List ℕ
function_state_words s file name =
    s.parameter_count ∷ s.local_count ∷ s.rescue_position ∷ bit s.is_instance ∷ s.base ∷ next_c s ∷ file ∷ name ∷ []
