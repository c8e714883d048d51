-- The searches that go from an entry on, the oldest first: what they find where entries are told by a list. By induction over the entries. Assumes nothing.
use Rattle.std.proofs.Common.{◌≡◌, ℕ, suc, ◌+◌, ◌<◌, Bool, cond, eqb, List, [], ◌∷◌, length, get_or, refl, ap, arith}
use mathlib.Core.Option.{some}
use Rattle.words.specs.Object.{Constant, constant_of, same_constant}
use Rattle.definition.specs.FunctionState.{Entry, find_name}
use Rattle.definition.specs.Compiler.{find_constant}
use Rattle.building.specs.Found.{first_from}

-- a list's constants, from entry i on
pub first_constant : (c : Constant) (test : ℕ → Bool) (ds : List Constant) (i : ℕ)
    → ((j : ℕ) → j < length ds → test (i + j) ≡ same_constant c (get_or ds j (constant_of 0 0)))
    → first_from test (length ds) i ≡ find_constant c ds i
unfolding first_from
first_constant c test [] i each = refl
first_constant c test (d ∷ ds) i each =
    let here : i + 0 ≡ i = omega arith in
    let same : test i ≡ same_constant c d = rw here at (each 0 (omega arith)) in
    let rest : first_from test (length ds) (i + 1) ≡ find_constant c ds (i + 1) =
    first_constant c test ds (i + 1) (λ j h. let next : i + suc j ≡ i + 1 + j = omega arith in rw next at (each (suc j) (omega arith))) in
    rw (same, rest)

-- a list's names, each of which has its entry's number
pub first_name : (name : ℕ) (test : ℕ → Bool) (es : List Entry) (i : ℕ)
    → ((j : ℕ) → j < length es
    → (test (i + j) ≡ eqb (get_or es j (record { name = 0; index = 0 })).name name) × ((get_or es j (record { name = 0; index = 0 })).index ≡ i + j))
    → first_from test (length es) i ≡ find_name name es
unfolding first_from
first_name name test [] i each = refl
first_name name test (e ∷ es) i each =
    let here : i + 0 ≡ i = omega arith in
    let same : test i ≡ eqb e.name name = rw here at (each 0 (omega arith)).0 in
    let number : i ≡ e.index = omega (arith, (each 0 (omega arith)).1) in
    let rest : first_from test (length es) (i + 1) ≡ find_name name es =
    first_name name test es (i + 1) (λ j h. let next : i + suc j ≡ i + 1 + j = omega arith in rw next at (each (suc j) (omega arith))) in
    rw (same, rest) (ap (λ (n : ℕ). cond (eqb e.name name) (some n) (find_name name es)) number)
