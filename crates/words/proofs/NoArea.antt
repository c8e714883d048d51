-- A number that no area has reads nothing of a list by area number. Assumes nothing.
use Prim.Native.Nat.{ℕ, zero, suc, ◌≤◌}
use native.Mathlib.Omega.{arith}
use mathlib.Core.Path.{◌≡◌, sym}
use mathlib.Core.List.{List}
use lib.ListN.{length, get_or, get_or-eq_default}
use Rattle.words.specs.Areas.{number_of_area}
use Rattle.words.specs.declared.areas.Area.{Area}
use Rattle.words.specs.declared.areas.Area.TheVariants as area

pub no_area : (ws : List ℕ) (n : ℕ) → length ws ≡ 13 → get_or ws 0 0 ≡ 0 → ((a : Area) → number_of_area a ≡ n → ⊥) → 0 ≡ get_or ws n 0
no_area ws zero l e h = sym e
no_area ws (suc n) l e h =
    let past : 12 ≤ n = omega (
      arith,
      h area.Code,
      h area.Constants,
      h area.Functions,
      h area.Models,
      h area.Properties,
      h area.Methods,
      h area.ContextLocals,
      h area.PublicNames,
      h area.ScopeNames,
      h area.Breaks,
      h area.Errors,
      h area.Books,
    ) in
    sym (get_or-eq_default ws 0 {n = suc n} (omega arith))
