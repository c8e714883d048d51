-- `define_local` by cases: nothing is defined, or a name that is new in the innermost scope. Assumes nothing.
use Prim.Native.Nat.{ℕ}
use mathlib.Core.Option.{Option, some}
use mathlib.Core.List.{List, [], ◌∷◌}
use Rattle.definition.specs.FunctionState.{Entry, FunctionState, Defined, find_name, define_local, define_local_in, define_local_by}

-- without a scope it goes as with a name that is there
pub define_cases : (P : Defined → Type 0) (n : ℕ) (f : FunctionState) → ((o : Option ℕ) → P (define_local_by o n f)) → P (define_local n f)
unfolding define_local
define_cases P n f by = go f.scopes
  where
    go : (ss : List (List Entry)) → P (define_local_in ss n f)
    go [] = by (some 0)
    go (s ∷ ss) = by (find_name n s)
