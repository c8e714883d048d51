-- What the routines of `scopes.rt` make of the state and of area 9, on any state and any words
use Rattle.std.specs.Prelude.{◌≡◌, ℕ, ◌+◌, ◌-◌, ◌%◌, ◌^◌, min, List, [], ◌∷◌, length}
use Rattle.std.proofs.Math.Option.{Option, none, some}
use Rattle.words.specs.Areas.{scope_names_area}
use Rattle.building.specs.declared.function_state.FunctionState.{FunctionState}
use Rattle.building.specs.Found.{Found, found_of, find_newest}
use Rattle.building.specs.State.{with_names, with_scope, with_local_count}
use Rattle.building.specs.Taking.{taken_of, took_words, given_up}
use Rattle.building.specs.Emission.{unless_full}

-- the state and area 9
pub record Naming : Type 0 where
  pub state : FunctionState
  pub names : List ℕ

abbrev pub naming : FunctionState → List ℕ → Naming
naming s n = record { state = s; names = n }

-- `find_local`: all live names, the newest first
abbrev pub find_local_c : ℕ → Naming → Option ℕ
find_local_c name m = find_newest m.state.names 0 name m.names

-- the innermost scope's alone
abbrev pub find_in_scope_c : ℕ → Naming → Option ℕ
find_in_scope_c name m = find_newest (m.state.names - m.state.scope_base) m.state.scope_base name m.names

-- `enter_scope`
abbrev pub enter_scope_c : FunctionState → FunctionState
enter_scope_c s = unless_full s (with_scope s.names s.names s) s

-- `exit_scope`: `start` is that of the scope around
unfoldable pub exit_scope_c : ℕ → Naming → Naming
exit_scope_c start m =
    unless_full m.state
    (naming (with_scope (min m.state.scope_base m.state.names) start m.state) (given_up 2 m.state.scope_base m.state.names m.names)) m

-- all names of the function given up: its outermost scope ends
unfoldable pub end_function_c : Naming → Naming
end_function_c m = unless_full m.state (naming (with_scope 0 0 m.state) (given_up 2 0 m.state.names m.names)) m

-- a local more, where an area was not full by it
abbrev pub counted_c : FunctionState → FunctionState
counted_c s = unless_full s (with_local_count ((s.local_count + 1) % 2 ^ 64) s) s

-- `define_anonymous_local`
abbrev pub define_anonymous_c : FunctionState → FunctionState
define_anonymous_c s = counted_c s

-- a name more, for the next local
abbrev pub insert_c : ℕ → Naming → Naming
insert_c name m =
    let s = m.state in
    naming (counted_c (with_names (taken_of scope_names_area 2 s.full s.names (length m.names)) s))
    (took_words s.full s.names (name ∷ s.local_count ∷ []) m.names)

-- what `define_local` answers
pub record Definition : Type 0 where
  pub found : Option ℕ
  pub memory : Naming

abbrev pub define_by : Option ℕ → ℕ → Naming → Definition
define_by (some i) name m = record { found = none; memory = m }
define_by none name m = record { found = some m.state.local_count; memory = insert_c name m }

-- `define_local`: with the mark set, no local
unfoldable pub define_c : ℕ → Naming → Definition
define_c name m = unless_full m.state (define_by (find_in_scope_c name m) name m) (record { found = none; memory = m })

-- what `define_local` answers, and the state that it leaves
pub record Defined : Type 0 where
  pub found : Found
  pub state : FunctionState

abbrev pub defined : Found → FunctionState → Defined
defined f s = record { found = f; state = s }

-- and the area that it leaves
pub record Defines (name : ℕ) (m : Naming) (r : Defined) (after : List ℕ) : Type 0 where
  pub found : r.found ≡ found_of (define_c name m).found
  pub memory : naming r.state after ≡ (define_c name m).memory
