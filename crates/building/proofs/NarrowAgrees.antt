-- The search of 32 bits finds what the search of 64 bits finds wherever names and locals fit, and sends its caller there where a local does not, or where
-- the area does not hold every entry (2026-03). Assumes nothing.
use Rattle.std.proofs.Common.{◌≡◌, ℕ, ◌-◌, ◌/◌, Bool, true, false, cond, leb, List, length, sym, refl, ap, ◌∙◌}
use mathlib.Core.Option.{Option, none, some}
use Rattle.building.specs.Found.{Found, found_of, narrow_of, widened, find_newest, find_narrow}
use Rattle.std.specs.Prelude.{Some, None}
use Rattle.building.specs.declared.scopes.Narrow.{Narrow}
use Rattle.building.specs.declared.scopes.Narrow.TheVariants as narrow

module _ (from end name : ℕ) (w : List ℕ) where
  -- what the search of 64 bits answers
  abbrev wide : Found
  wide = found_of (find_newest (end - from) from name w)

  pub narrow_agrees : widened (find_narrow from end name w) wide ≡ wide
  narrow_agrees = go (leb end (length w / 2)) (find_newest (end - from) from name w)
    where
      fits : (b : Bool) (i : ℕ) → widened (cond b (narrow.At i) narrow.Wide) (Some i) ≡ Some i
      fits true i = refl
      fits false i = refl

      go : (b : Bool) (o : Option ℕ) → widened (cond b (narrow_of o) narrow.Beyond) (found_of o) ≡ found_of o
      go false o = refl
      go true none = refl
      go true (some i) = fits (leb i 4294967295) i

  -- of an answer, by its case
  module _ (r : Narrow) (answered : r ≡ find_narrow from end name w) where
    pub narrow_at : (local : ℕ) → r ≡ narrow.At local → Some local ≡ wide
    narrow_at local q = ap (λ (m : Narrow). widened m wide) (sym q ∙ answered) ∙ narrow_agrees

    pub narrow_nothing : r ≡ narrow.Nothing → None ≡ wide
    narrow_nothing q = ap (λ (m : Narrow). widened m wide) (sym q ∙ answered) ∙ narrow_agrees

pub ruleset narrow_steps = (narrow_at, narrow_nothing)
