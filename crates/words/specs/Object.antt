-- `runtime/object.rs` and `Program::DEFAULT_CONSTANTS` of `runtime/program.rs`: a constant as the pool keeps it, its kind and its value
-- (01, 'Emission'; kinds in that order, from 0). An integer is its two's complement, a float its bits, a text, model or function its number
use Rattle.std.specs.Prelude.{ℕ, Bool, false, cond, ◌||◌, List, [], ◌∷◌, eqb}

pub record Constant : Type 0 where
  pub kind : ℕ
  pub value : ℕ

abbrev pub constant_of : ℕ → ℕ → Constant
constant_of k v = record { kind = k; value = v }

abbrev pub null_kind : ℕ
null_kind = 0

abbrev pub boolean_kind : ℕ
boolean_kind = 1

abbrev pub integer_kind : ℕ
integer_kind = 2

abbrev pub float_kind : ℕ
float_kind = 3

abbrev pub text_kind : ℕ
text_kind = 4

abbrev pub model_kind : ℕ
model_kind = 5

abbrev pub function_kind : ℕ
function_kind = 6

-- `Program::NULL_CONSTANT_INDEX` and its neighbours
abbrev pub NULL : ℕ
NULL = 0

abbrev pub TRUE : ℕ
TRUE = 1

abbrev pub FALSE : ℕ
FALSE = 2

-- `Program::DEFAULT_CONSTANTS`
abbrev pub default_constants : List Constant
default_constants = constant_of null_kind 0 ∷ constant_of boolean_kind 1 ∷ constant_of boolean_kind 0 ∷ []

-- which kinds `add_constant` looks for before it adds: integers and texts (01), and floats (2026-05: 'Adding a float whose 64 bits stand in the pool gives
-- the first number that has them')
abbrev pub is_shared : ℕ → Bool
is_shared kind = eqb kind integer_kind || (eqb kind float_kind || eqb kind text_kind)

-- whether two constants are the same: the kind and all 64 bits (2026-05: 'Plus and minus zero keep separate entries; not-a-number values share only when all
-- bits agree'; change point of 2026-12)
abbrev pub same_constant : Constant → Constant → Bool
same_constant c d = cond (eqb c.kind d.kind) (eqb c.value d.value) false
