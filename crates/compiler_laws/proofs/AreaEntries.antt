-- An entry more of one area, or one anew: the rest of the stock stays, and the note fits or is the first that does not. Assumes nothing.
use Prim.Native.Nat.{ℕ, ◌+◌, ◌≤◌, ◌<◌}
use native.Mathlib.Omega.{arith}
use mathlib.Core.Path.{◌≡◌, refl}
use mathlib.Core.List.{List, [], ◌∷◌, ◌++◌}
use lib.ListN.{length}
use Rattle.words.specs.Areas.{width_of, entries_in}
use Rattle.definition.specs.Uses.{Use, using', Limits, limit_of}
use Rattle.definition.specs.FunctionState.{Entry}
use Rattle.definition.specs.Book.{Model, Method, Book, noted, model_count, with_models, with_methods}
use Rattle.definition.specs.Program.{Entries, entries_from, property_entries, method_entry, public_entries, model_table, property_table, public_table}
use Rattle.building.specs.declared.taking.Taken.{Taken}
use Rattle.building.specs.Taking.{taken}
use Rattle.building.specs.RepresentsMachine.{Filled, Sized}
use Rattle.building.proofs.Filling.{over_fits, over_here}
use Rattle.building.proofs.ContextLaws.{Grown, grown, over}
use Rattle.compiler_laws.specs.declared.book.Book as struct
use Rattle.compiler_laws.specs.BookAreas.{BookAreas, book_areas, BookContents, Fitted, RepresentsAreas}
use Rattle.compiler_laws.proofs.BookCounts.{with_model_count, with_property_count, with_method_count, with_public_count}

module _ {κ : Limits} {ps : List ℕ} {m : BookAreas} {b : Book} (H : RepresentsAreas κ ps m b) (z : m.book.full ≡ 0) {ps' : List ℕ} {m' : BookAreas}
    (area count : ℕ)
    (b' : Book) (same : b'.uses ≡ b.uses) where
  -- the note fits
  pub keeping_fits : Fitted κ m' → m'.book.full ≡ 0 → count ≤ limit_of κ area → BookContents ps' m' (noted area count b')
      → RepresentsAreas κ ps' m' (noted area count b')
  keeping_fits F z' h S = record {
    fitted = F;
    full = rw (same, z') (over_fits κ (using' area count) b.uses (rw z at H.full) refl h);
    rest = λ _. S;
  }

  -- it does not
  pub keeping_over : Fitted κ m' → m'.book.full ≡ area → 0 < area → limit_of κ area < count → RepresentsAreas κ ps' m' (noted area count b')
  keeping_over F mark pos h = record {
    fitted = F;
    full = rw (same, mark) (over_here κ (using' area count) b.uses H.full z h pos);
    rest = λ q. absurd (omega arith);
  }

  -- an entry more
  pub keeping_grown : {entry l : List ℕ} {es : Entries} {n : ℕ} {t : Taken} {l' : List ℕ} → Grown area n entry l es t l' → 0 < area
      → width_of area ≡ length entry → Sized κ area l → count ≡ n + 1 → m'.book.full ≡ t.full → (length l' ≡ length l → Fitted κ m')
      → (Filled (length entry) l' (es ++ (entry ∷ [])) (n + 1) → t ≡ taken 0 (n + 1) → BookContents ps' m' (noted area count b'))
      → RepresentsAreas κ ps' m' (noted area count b')
  keeping_grown {l = l} (grown {l' = l'} h f e) pos wide cap c mark F S =
      let room : entries_in (width_of area) (length l) ≡ limit_of κ area = cap in
      keeping_fits (F e) mark (omega (arith, rw wide at room)) (S f refl)
  keeping_grown {l = l} (over h) pos wide cap c mark F S =
      let room : entries_in (width_of area) (length l) ≡ limit_of κ area = cap in
      keeping_over (F refl) mark pos (omega (arith, rw wide at room))

-- area 6
pub contents_methods : {ps : List ℕ} {m : BookAreas} {b : Book} {l : List Method} {us : List Use} {t' : List ℕ} {full n : ℕ} → BookContents ps m b
    → Filled 3 t' (entries_from method_entry 0 l) n
    → BookContents ps (book_areas (with_method_count (taken full n) m.book) m.code m.constants m.functions m.models m.properties t' m.locals
    m.publics m.names m.breaks m.errors)
    (record { compiler = b.compiler; assembly = b.assembly; context = with_methods l b.context; uses = us })
contents_methods S f = record {
  code = S.code;
  sized = S.sized;
  constants = S.constants;
  marks = S.marks;
  functions = S.functions;
  models = S.models;
  properties = S.properties;
  methods = f;
  locals = S.locals;
  counted = S.counted;
  valued = S.valued;
  first_local = S.first_local;
  named = S.named;
  publics = S.publics;
  first_public = S.first_public;
  prior = S.prior;
  file = S.file;
  last_index = S.last_index;
  mode = S.mode;
  indexed = S.indexed;
  entry = S.entry;
  names = S.names;
  breaks = S.breaks;
  errors = S.errors;
}

pub fitted_methods : {κ : Limits} {m : BookAreas} {t' : List ℕ} {s : struct.Book} → length t' ≡ length m.methods → Fitted κ m
    → Fitted κ (book_areas s m.code m.constants m.functions m.models m.properties t' m.locals m.publics m.names m.breaks m.errors)
fitted_methods e F = record {
  code = F.code;
  constants = F.constants;
  functions = F.functions;
  models = F.models;
  properties = F.properties;
  methods = rw e F.methods;
  locals = F.locals;
  publics = F.publics;
  names = F.names;
  breaks = F.breaks;
  errors = F.errors;
  others = F.others;
}

-- area 8
pub contents_publics : {ps : List ℕ} {m : BookAreas} {b : Book} {l : List Entry} {us : List Use} {u' : List ℕ} {full n : ℕ} → BookContents ps m b
    → Filled 3 u' (public_table b.context ++ public_entries b.assembly.index l) n
    → BookContents ps (book_areas (with_public_count (taken full n) m.book) m.code m.constants m.functions m.models m.properties m.methods
    m.locals u' m.names m.breaks m.errors)
    (record {
      compiler = b.compiler;
      assembly = record { filename = b.assembly.filename; index = b.assembly.index; publics = l };
      context = b.context;
      uses = us;
    })
contents_publics S f = record {
  code = S.code;
  sized = S.sized;
  constants = S.constants;
  marks = S.marks;
  functions = S.functions;
  models = S.models;
  properties = S.properties;
  methods = S.methods;
  locals = S.locals;
  counted = S.counted;
  valued = S.valued;
  first_local = S.first_local;
  named = S.named;
  publics = f;
  first_public = S.first_public;
  prior = S.prior;
  file = S.file;
  last_index = S.last_index;
  mode = S.mode;
  indexed = S.indexed;
  entry = S.entry;
  names = S.names;
  breaks = S.breaks;
  errors = S.errors;
}

pub fitted_publics : {κ : Limits} {m : BookAreas} {u' : List ℕ} {s : struct.Book} → length u' ≡ length m.publics → Fitted κ m
    → Fitted κ (book_areas s m.code m.constants m.functions m.models m.properties m.methods m.locals u' m.names m.breaks m.errors)
fitted_publics e F = record {
  code = F.code;
  constants = F.constants;
  functions = F.functions;
  models = F.models;
  properties = F.properties;
  methods = F.methods;
  locals = F.locals;
  publics = rw e F.publics;
  names = F.names;
  breaks = F.breaks;
  errors = F.errors;
  others = F.others;
}

-- area 5: a property more of the model that is not there yet
pub contents_properties : {ps ps' : List ℕ} {m : BookAreas} {b : Book} {us : List Use} {p' : List ℕ} {full n : ℕ} → BookContents ps m b
    → Filled 2 p' (property_table b.context ++ property_entries (model_count b.context) ps') n
    → BookContents ps' (book_areas (with_property_count (taken full n) m.book) m.code m.constants m.functions m.models p' m.methods
    m.locals m.publics m.names m.breaks m.errors)
    (record { compiler = b.compiler; assembly = b.assembly; context = b.context; uses = us })
contents_properties S f = record {
  code = S.code;
  sized = S.sized;
  constants = S.constants;
  marks = S.marks;
  functions = S.functions;
  models = S.models;
  properties = f;
  methods = S.methods;
  locals = S.locals;
  counted = S.counted;
  valued = S.valued;
  first_local = S.first_local;
  named = S.named;
  publics = S.publics;
  first_public = S.first_public;
  prior = S.prior;
  file = S.file;
  last_index = S.last_index;
  mode = S.mode;
  indexed = S.indexed;
  entry = S.entry;
  names = S.names;
  breaks = S.breaks;
  errors = S.errors;
}

pub fitted_properties : {κ : Limits} {m : BookAreas} {p' : List ℕ} {s : struct.Book} → length p' ≡ length m.properties → Fitted κ m
    → Fitted κ (book_areas s m.code m.constants m.functions m.models p' m.methods m.locals m.publics m.names m.breaks m.errors)
fitted_properties e F = record {
  code = F.code;
  constants = F.constants;
  functions = F.functions;
  models = F.models;
  properties = rw e F.properties;
  methods = F.methods;
  locals = F.locals;
  publics = F.publics;
  names = F.names;
  breaks = F.breaks;
  errors = F.errors;
  others = F.others;
}

-- area 4: a model with the properties that were taken for it
pub contents_models : {ps : List ℕ} {m : BookAreas} {b : Book} {l : List Model} {us : List Use} {m' : List ℕ} {full n : ℕ} → BookContents ps m b
    → Filled 2 m' (model_table (with_models l b.context)) n
    → property_table b.context ++ property_entries (model_count b.context) ps
    ≡ property_table (with_models l b.context) ++ property_entries (model_count (with_models l b.context)) []
    → BookContents [] (book_areas (with_model_count (taken full n) m.book) m.code m.constants m.functions m' m.properties m.methods
    m.locals m.publics m.names m.breaks m.errors)
    (record { compiler = b.compiler; assembly = b.assembly; context = with_models l b.context; uses = us })
contents_models S f e = record {
  code = S.code;
  sized = S.sized;
  constants = S.constants;
  marks = S.marks;
  functions = S.functions;
  models = f;
  properties = rw (← e) S.properties;
  methods = S.methods;
  locals = S.locals;
  counted = S.counted;
  valued = S.valued;
  first_local = S.first_local;
  named = S.named;
  publics = S.publics;
  first_public = S.first_public;
  prior = S.prior;
  file = S.file;
  last_index = S.last_index;
  mode = S.mode;
  indexed = S.indexed;
  entry = S.entry;
  names = S.names;
  breaks = S.breaks;
  errors = S.errors;
}

pub fitted_models : {κ : Limits} {m : BookAreas} {m' : List ℕ} {s : struct.Book} → length m' ≡ length m.models → Fitted κ m
    → Fitted κ (book_areas s m.code m.constants m.functions m' m.properties m.methods m.locals m.publics m.names m.breaks m.errors)
fitted_models e F = record {
  code = F.code;
  constants = F.constants;
  functions = F.functions;
  models = rw e F.models;
  properties = F.properties;
  methods = F.methods;
  locals = F.locals;
  publics = F.publics;
  names = F.names;
  breaks = F.breaks;
  errors = F.errors;
  others = F.others;
}
