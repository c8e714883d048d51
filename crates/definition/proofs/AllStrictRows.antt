-- All rows of specs/StrictBench.antt, each by computing. Assumes nothing.
use mathlib.Core.Path.{refl}
use Rattle.definition.specs.Bench.{run}
use Rattle.definition.specs.StrictBench.{strict_in, strictly, strict_table, strict_words, strict_totals, strictly_onto, StrictRows}

pub strict_rows : StrictRows
unfolding run strict_in strictly strict_table strict_words strict_totals strictly_onto
strict_rows = record {
  all_public = refl;
  no_names = refl;
  misspelt = refl;
  private_name = refl;
  of_another_book = refl;
  present_delivers = refl;
  last_of_three = refl;
  first_of_two = refl;
  repeated = refl;
  alias_there = refl;
  before_its_aliases = refl;
  after_earlier_steps = refl;
  aliases_need_room = refl;
  before_later_steps = refl;
  before_row_7 = refl;
  before_later_errors = refl;
  after_full_errors = refl;
  after_row_7 = refl;
  first_reached = refl;
  absent = refl;
  itself = refl;
  nothing_left = refl;
  no_totals = refl;
  onto_standing = refl;
}
