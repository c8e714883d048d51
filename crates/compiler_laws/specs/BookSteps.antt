-- What the routines of a book's errors, constants and context locals promise on their area: whatever the other areas hold, counts and areas
-- then stand for the step's book
-- Private contracts alone cite this file: whoever reads the promises need not believe it
use Rattle.std.specs.Prelude.{ℕ, ◌+◌, ◌≤◌, ◌<◌, ◌≡◌, List, length}
use Rattle.std.proofs.Math.Option.{Option, none, some}
use Rattle.definition.specs.Uses.{Limits}
use Rattle.definition.specs.Book.{Context, Book, BookStep, Placed, MaybePlaced, set_local_value}
use Rattle.building.specs.declared.function_state.FunctionState.{FunctionState}
use Rattle.building.specs.Found.{Found, found_of}
use Rattle.compiler_laws.specs.declared.book.Book as struct
use Rattle.compiler_laws.specs.BookAreas.{book_areas, RepresentsAreas, SimulatesAreas, Places, Seeks}

-- `resumed`: the counts after a function, a constant or an error
abbrev pub resumed_book : struct.Book → FunctionState → struct.Book
resumed_book s r = record {
  full = r.full;
  code = r.code;
  constants = r.constants;
  functions = s.functions;
  models = s.models;
  properties = s.properties;
  methods = s.methods;
  locals = s.locals;
  publics = s.publics;
  errors = r.errors;
  file = s.file;
  first_local = s.first_local;
  first_public = s.first_public;
  entry_point = s.entry_point;
  standing_methods = s.standing_methods;
  strict = s.strict;
}

-- `fault`: the errors
pub record ErrorsDo (s : struct.Book) (e : List ℕ) (s' : struct.Book) (e' : List ℕ) (step : BookStep) : Type 0 where
  pub simulates : (c k f m p t l u n b : List ℕ) → SimulatesAreas (book_areas s c k f m p t l u n b e) (book_areas s' c k f m p t l u n b e') step

-- `add_constant`: the constants
pub record ConstantsPlace (s : struct.Book) (k : List ℕ) (s' : struct.Book) (k' : List ℕ) (place : ℕ) (step : Book → Placed) : Type 0 where
  pub places : (c f m p t l u n b e : List ℕ) → Places (book_areas s c k f m p t l u n b e) (book_areas s' c k' f m p t l u n b e) place step

-- `define_local`: the context locals
pub record LocalsSeek (s : struct.Book) (l : List ℕ) (s' : struct.Book) (l' : List ℕ) (found : Found) (step : Book → MaybePlaced) : Type 0 where
  pub seeks : (c k f m p t u n b e : List ℕ) → Seeks (book_areas s c k f m p t l u n b e) (book_areas s' c k f m p t l' u n b e) found step

-- a number that may be there is one of n from the first on
abbrev pub OneOf : Option ℕ → ℕ → ℕ → Type 0
OneOf none first n = Unit {0}
OneOf (some i) first n = (first ≤ i) × (i < first + n)

-- a context local that may be there is one of those added
abbrev pub AddedLocal : Option ℕ → Context → Type 0
AddedLocal o c = OneOf o (length c.prior.locals) (length c.locals.names)

-- the local and the constant are the definition's, where nothing is full, and the local is one of the book's context
pub record Valuable (s : struct.Book) (found : Found) (constant : ℕ) (o : Option ℕ) (v : ℕ) (x : Book) : Type 0 where
  pub agrees : s.full ≡ 0 → (found ≡ found_of o) × (constant ≡ v) × AddedLocal o x.context

-- `set_value`: the context locals, of a local and a constant as above
pub record LocalsValue (s : struct.Book) (l l' : List ℕ) (found : Found) (constant : ℕ) : Type 0 where
  pub values : (c k f m p t u n b e : List ℕ) (κ : Limits) (ps : List ℕ) (x : Book) (o : Option ℕ) (v : ℕ) → Valuable s found constant o v x
      → RepresentsAreas κ ps (book_areas s c k f m p t l u n b e) x → RepresentsAreas κ ps (book_areas s c k f m p t l' u n b e) (set_local_value o v x)

-- the local is the definition's, where nothing is full, and one of the book's context
pub record Located (s : struct.Book) (found : Found) (o : Option ℕ) (x : Book) : Type 0 where
  pub agrees : s.full ≡ 0 → (found ≡ found_of o) × AddedLocal o x.context
