-- All rows of specs/Bench.antt but `Levels` and `ExactAreas`, each by computing. The prover takes the files of proofs/ in the order of their names: a
-- definition that a row is against is refused here first, before a proof over it fails. Assumes nothing.
use Prim.Native.Nat.{ℕ}
use mathlib.Core.Path.{◌≡◌, refl}
use mathlib.Core.List.{List}
use Rattle.definition.specs.Bench.{run, table, words_in, totals_in, entry, example, example_lines, BenchPieces, Kinds, Errors, Cases}

-- (a) to (k), and (l) from where the listing is defined
pub pieces : (listing : List ℕ → List (List ℕ)) → listing example ≡ example_lines → BenchPieces listing
unfolding run
pieces listing l = record {
  a = refl;
  b = refl;
  c = refl;
  d = refl;
  e = refl;
  f = refl;
  f_floats = refl;
  g = refl;
  h = refl;
  i = refl;
  j = refl;
  k = refl;
  k_unknown = refl;
  l = l;
}

pub kinds : Kinds
unfolding run table words_in totals_in entry
kinds = record {
  local_definition = refl;
  include = refl;
  model = refl;
  property = refl;
  public_model = refl;
  model_constant = refl;
  two_functions = refl;
  public_function = refl;
  instance_function = refl;
  implement = refl;
  apply = refl;
  local_statement = refl;
  context_get = refl;
  context_set = refl;
  global_get = refl;
  global_set = refl;
  local_set = refl;
  literals = refl;
  array = refl;
  minus = refl;
  not = refl;
  infix_operations = refl;
  plus = refl;
  compound_twice = refl;
  if_else = refl;
  call = refl;
  instance_get = refl;
  instance_set = refl;
  index_get = refl;
  index_set = refl;
}

pub errors : Errors
unfolding run table words_in totals_in entry
errors = record {
  variable_exists = refl;
  can_not_assign = refl;
  unknown_infix = refl;
  unknown_prefix = refl;
  rescue_in_loop = refl;
  no_constant = refl;
  property_exists = refl;
  parameter_exists = refl;
  instance_outside = refl;
  not_a_model = refl;
  no_model = refl;
  self_include = refl;
  several = refl;
}

pub cases : Cases
unfolding run table words_in totals_in entry
cases = record {
  text_most = refl;
  text_over = refl;
  no_records = refl;
  full_errors = refl;
  short_errors = refl;
  all_empty = refl;
  missing_first = refl;
  twice_over = refl;
  late_include = refl;
  second_late_include = refl;
  include_chain = refl;
  late_self_include = refl;
  late_include_first = refl;
  include_not_needed = refl;
  smallest_first = refl;
  innermost_break = refl;
  repeated_name = refl;
  last_main = refl;
  last_public = refl;
  example_compiled = refl;
  example_words = refl;
  example_totals = refl;
}
