-- The areas between two books: they stand for a context, ready for the next book
-- Private contracts alone cite this file: whoever reads the promises need not believe it
use Rattle.std.specs.Prelude.{ℕ, List, []}
use Rattle.words.specs.Ast.{Document}
use Rattle.definition.specs.Uses.{Use, Limits}
use Rattle.definition.specs.Book.{Context, book_count, opened}
use Rattle.compiler_laws.specs.declared.book.Book as struct
use Rattle.compiler_laws.specs.BookAreas.{book_areas, RepresentsAreas}

-- the counts as a book finds them that is the next to be compiled
abbrev pub opened_book : struct.Book → ℕ → struct.Book
opened_book s index = record {
  full = s.full;
  code = s.code;
  constants = s.constants;
  functions = s.functions;
  models = s.models;
  properties = s.properties;
  methods = s.methods;
  locals = s.locals;
  publics = s.publics;
  errors = s.errors;
  file = index;
  first_local = s.locals;
  first_public = s.publics;
  entry_point = s.entry_point;
  standing_methods = s.standing_methods;
  strict = s.strict;
}

-- between two books it does not matter whose file is open
abbrev pub nobody : Document
nobody = record { filename = 0; definitions = [] }

-- between two books the areas stand for a context: they are ready for the next book, whichever it is
pub record Resting (κ : Limits) (s : struct.Book) (c k f m p t l u n b e : List ℕ) (context : Context) (uses : List Use) : Type 0 where
  pub ready : RepresentsAreas κ [] (book_areas (opened_book s (book_count context)) c k f m p t l u n b e) (opened nobody context uses)
