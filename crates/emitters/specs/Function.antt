-- What `define_local` answers and leaves, as its by-value form hands it back; and a function of one parameter and one instruction
use Rattle.std.specs.Prelude.{ℕ, List}
use Rattle.building.specs.declared.function_state.FunctionState.{FunctionState}
use Rattle.building.specs.Emission.{Coded, coded, emit_c, emit_return_c}
use Rattle.building.specs.Scopes.{naming, define_c}
pub use Rattle.building.specs.Scopes.{defined}

-- the state, area 1 and area 9
pub record Function : Type 0 where
  pub state : FunctionState
  pub code : List ℕ
  pub names : List ℕ

abbrev pub function : FunctionState → List ℕ → List ℕ → Function
function s c n = record { state = s; code = c; names = n }

-- an instruction's word emitted, and the return
abbrev pub body_c : ℕ → ℕ → Coded → Coded
body_c w p m = emit_return_c p (emit_c w p m)

-- behind the parameter's name
abbrev pub function_c : ℕ → ℕ → ℕ → FunctionState → List ℕ → List ℕ → Function
function_c parameter w p s c n =
    let d = (define_c parameter (naming s n)).memory in
    let b = body_c w p (coded d.state c) in
    function b.state b.code d.names
