-- All rows of specs/TrialBench.antt, each by computing. Assumes nothing.
use mathlib.Core.Path.{refl}
use Rattle.definition.specs.TrialBench.{called, committing, freshly, TrialRows}

pub trial_rows : TrialRows
unfolding called committing freshly
trial_rows = record {
  fresh_counts = refl;
  fresh_refused = refl;
  trial_delivers = refl;
  lay_counts = refl;
  commit_delivers = refl;
  standing_root_counts = refl;
  trial_refused = refl;
  lay_refused = refl;
  stale_first = refl;
  stale_greater = refl;
  check_before_stale = refl;
  totals_differ = refl;
  row_9_first = refl;
  row_7_first = refl;
  row_2_first = refl;
  other_body = refl;
  commit_refused = refl;
  no_bundles = refl;
  too_many = refl;
  most = refl;
  areas_first = refl;
  other_mode = refl;
}
