-- What the routines of `pool.rt` make of the state, the constants and the errors, on any state and any words
use Rattle.std.specs.Prelude.{ℕ, cond, List, [], ◌∷◌, length, nat_lt}
use Rattle.std.proofs.Math.Option.{Option, none, some}
use Rattle.words.specs.Areas.{constants_area, errors_area, write_word}
use Rattle.words.specs.Object.{constant_of, is_shared}
use Rattle.building.specs.declared.function_state.FunctionState.{FunctionState}
use Rattle.building.specs.Found.{find_constant_c}
use Rattle.building.specs.State.{with_constants, with_errors}
use Rattle.building.specs.Taking.{taken_of, took_words}
use Rattle.building.specs.Emission.{unless_full}

-- the state, the constants, and the constant's number
pub record Pooling : Type 0 where
  pub index : ℕ
  pub state : FunctionState
  pub constants : List ℕ

abbrev pub pooling : ℕ → FunctionState → List ℕ → Pooling
pooling i s k = record { index = i; state = s; constants = k }

-- `add_constant_no_check`
abbrev pub add_no_check_c : ℕ → ℕ → FunctionState → List ℕ → Pooling
add_no_check_c kind value s k =
    pooling s.constants (with_constants (taken_of constants_area 3 s.full s.constants (length k)) s)
    (took_words s.full s.constants (kind ∷ value ∷ 0 ∷ []) k)

abbrev pub add_by : Option ℕ → ℕ → ℕ → FunctionState → List ℕ → Pooling
add_by (some i) kind value s k = pooling i s k
add_by none kind value s k = add_no_check_c kind value s k

-- `add_constant`: with the mark set, number 0
unfoldable pub add_constant_c : ℕ → ℕ → FunctionState → List ℕ → Pooling
add_constant_c kind value s k =
    unless_full s
    (cond (is_shared kind) (add_by (find_constant_c s.constants (constant_of kind value) k) kind value s k) (add_no_check_c kind value s k))
    (pooling 0 s k)

-- `global_dependencies.insert`: the third word of a constant in use
unfoldable pub mark_global_c : ℕ → FunctionState → List ℕ → List ℕ
mark_global_c i s k = unless_full s (cond (nat_lt i s.constants) (write_word 3 i 2 1 k) k) k

-- the state and the errors
pub record Erring : Type 0 where
  pub state : FunctionState
  pub errors : List ℕ

abbrev pub erring : FunctionState → List ℕ → Erring
erring s e = record { state = s; errors = e }

-- `push_error`
unfoldable pub push_error_c : ℕ → ℕ → ℕ → ℕ → FunctionState → List ℕ → Erring
push_error_c number position kind value s e =
    erring (with_errors (taken_of errors_area 4 s.full s.errors (length e)) s)
    (took_words s.full s.errors (number ∷ position ∷ kind ∷ value ∷ []) e)
