-- All rows of specs/OntoBench.antt, each by computing. Assumes nothing.
use mathlib.Core.Path.{refl}
use Rattle.definition.specs.OntoBench.{laid, OntoRows}

pub onto_rows : OntoRows
unfolding laid
onto_rows = record {
  check_first = refl;
  check_code = refl;
  check_books = refl;
  old_errors_pass = refl;
  row_2 = refl;
  row_3 = refl;
  row_5 = refl;
  row_6 = refl;
  row_7_mark = refl;
  row_7_method = refl;
  row_8 = refl;
  row_9 = refl;
  row_9_books = refl;
  row_11 = refl;
  old_errors_lem = refl;
  standing_root = refl;
  standing_root_full = refl;
  copy = refl;
  without_copy = refl;
  no_ring = refl;
  mark_set = refl;
  method_replaced = refl;
  entry_point = refl;
  not_seen = refl;
}
