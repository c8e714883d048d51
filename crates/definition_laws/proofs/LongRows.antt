-- The rows of `Levels` and `ExactAreas`, each by computing: apart from the rows of crates/definition, since they take longest and each edit of a definition
-- would pay for them. Assumes nothing.
use mathlib.Core.Path.{refl}
use Rattle.definition.specs.Bench.{run, Levels, ExactAreas}

pub levels : Levels
unfolding run
levels = record {
  level_64 = refl;
  level_65 = refl;
}

pub exact_areas : ExactAreas
unfolding run
exact_areas = record {
  full = refl;
  short = refl;
  full_models = refl;
  short_models = refl;
}
