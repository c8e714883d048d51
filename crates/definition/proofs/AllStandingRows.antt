-- All rows of specs/PriorBench.antt, each by computing. Assumes nothing.
use mathlib.Core.Path.{refl}
use Rattle.definition.specs.PriorBench.{onto, refused_onto, OntoStanding}

pub onto_standing : OntoStanding
unfolding onto refused_onto
onto_standing = record {
  code_added = refl;
  constants_added = refl;
  functions_added = refl;
  models_added = refl;
  properties_added = refl;
  methods_added = refl;
  locals_added = refl;
  publics_added = refl;
  books_added = refl;
  passed_over = refl;
  full = refl;
}
