-- The relation between memory and the definition's `Book`: what the counts and the areas hold of a book under compilation, between its definitions
-- Private contracts alone cite this file: whoever reads the promises need not believe it
use Rattle.std.specs.Prelude.{ℕ, ◌+◌, ◌≤◌, ◌<◌, ◌≡◌, List, [], ◌++◌, length, get_or}
use Rattle.words.specs.Areas.{code_area, constants_area, functions_area, models_area, properties_area, methods_area, context_locals_area, public_names_area}
use Rattle.words.specs.Areas.{scope_names_area, breaks_area, errors_area, entry_word, width_of}
use Rattle.definition.specs.FunctionState.{Entry}
use Rattle.definition.specs.Prior.{Prior}
use Rattle.definition.specs.Uses.{Limits, limit_of, first_not_public, first_over}
use Rattle.definition.specs.Book.{Function, Context, Book, BookStep, Placed, MaybePlaced, model_count, public_count, book_count}
use Rattle.definition.specs.Program.{entries_from, property_entries, public_entries, error_entry, code_table, constant_table, function_table, model_table}
use Rattle.definition.specs.Program.{property_table, method_table, local_table, public_table}
use Rattle.definition.specs.Within.{All}
use Rattle.building.specs.Found.{Found, found_of}
use Rattle.building.specs.RepresentsMachine.{Filled, LocalsHeld, Marks, Sized}
use Rattle.compiler_laws.specs.declared.book.Book as struct

-- the counts, and the areas that a book is compiled into (area 12 apart)
pub record BookAreas : Type 0 where
  pub book : struct.Book
  pub code : List ℕ
  pub constants : List ℕ
  pub functions : List ℕ
  pub models : List ℕ
  pub properties : List ℕ
  pub methods : List ℕ
  pub locals : List ℕ
  pub publics : List ℕ
  pub names : List ℕ
  pub breaks : List ℕ
  pub errors : List ℕ

abbrev pub book_areas : struct.Book → (c k f m p t l u n b e : List ℕ) → BookAreas
book_areas s c k f m p t l u n b e = record {
  book = s;
  code = c;
  constants = k;
  functions = f;
  models = m;
  properties = p;
  methods = t;
  locals = l;
  publics = u;
  names = n;
  breaks = b;
  errors = e;
}

-- what stood before: a book's entry is a word, and a public name is that of one of the books
pub record PriorBooks (p : Prior) : Type 0 where
  pub books : All (λ (e : List ℕ). length e ≡ 1) p.books
  pub publics : All (λ (e : List ℕ). get_or e 0 0 < length p.books) p.publics

-- where nothing is full; `ps`: the properties of a model that is not there yet
pub record BookContents (ps : List ℕ) (m : BookAreas) (b : Book) : Type 0 where
  pub code : Filled (width_of code_area) m.code (code_table b.context) m.book.code
  -- one position for each instruction
  pub sized : All (λ (f : Function). length f.state.code.positions ≡ length f.state.code.instructions) b.context.program.functions
  pub constants : Filled (width_of constants_area) m.constants (constant_table b.context) m.book.constants
  pub marks : All (λ (n : ℕ). n < length b.context.pool.constants) b.context.pool.globals
  pub functions : Filled (width_of functions_area) m.functions (function_table b.context) m.book.functions
  pub models : Filled (width_of models_area) m.models (model_table b.context) m.book.models
  pub properties : Filled (width_of properties_area) m.properties (property_table b.context ++ property_entries (model_count b.context) ps)
      m.book.properties
  pub methods : Filled (width_of methods_area) m.methods (method_table b.context) m.book.methods
  pub locals : Filled (width_of context_locals_area) m.locals (local_table b.context) m.book.locals
  pub counted : b.context.pool.local_count ≡ length b.context.prior.locals + length b.context.locals.names
  -- a value is that of a context local
  pub valued : All (λ (e : Entry). e.name < length b.context.prior.locals + length b.context.locals.names) b.context.locals.values
  -- the book's own are none of those that stood before
  pub first_local : length b.context.prior.locals ≤ m.book.first_local
  pub named : LocalsHeld m.book.first_local m.book.locals m.locals b.compiler
  pub publics : Filled (width_of public_names_area) m.publics (public_table b.context ++ public_entries b.assembly.index b.assembly.publics)
      m.book.publics
  pub first_public : m.book.first_public ≡ public_count b.context
  pub prior : PriorBooks b.context.prior
  pub file : m.book.file ≡ b.assembly.index
  -- a book's index is its place
  pub last_index : b.assembly.index ≡ book_count b.context
  pub indexed : (i : ℕ) → i < length b.context.assemblies
      → (get_or b.context.assemblies i (record { filename = 0; index = 0; publics = [] })).index ≡ length b.context.prior.books + i
  pub entry : m.book.entry_point ≡ b.context.program.entry_point
  pub mode : m.book.strict ≡ b.context.strict
  pub names : Filled (width_of scope_names_area) m.names [] 0
  pub breaks : Filled (width_of breaks_area) m.breaks [] 0
  pub errors : Filled (width_of errors_area) m.errors (entries_from error_entry 0 b.compiler.errors) m.book.errors

-- the areas' lengths are the limits
pub record Fitted (κ : Limits) (m : BookAreas) : Type 0 where
  pub code : Sized κ code_area m.code
  pub constants : Sized κ constants_area m.constants
  pub functions : Sized κ functions_area m.functions
  pub models : Sized κ models_area m.models
  pub properties : Sized κ properties_area m.properties
  pub methods : Sized κ methods_area m.methods
  pub locals : Sized κ context_locals_area m.locals
  pub publics : Sized κ public_names_area m.publics
  pub names : Sized κ scope_names_area m.names
  pub breaks : Sized κ breaks_area m.breaks
  pub errors : Sized κ errors_area m.errors
  -- no area has a number from here on, where the notes of row 11 are
  pub others : (area : ℕ) → first_not_public ≤ area → limit_of κ area ≡ 0

-- within the limits κ, the counts and areas stand for the book b
pub record RepresentsAreas (κ : Limits) (ps : List ℕ) (m : BookAreas) (b : Book) : Type 0 where
  pub fitted : Fitted κ m
  pub full : Marks (first_over κ b.uses) m.book.full
  pub rest : m.book.full ≡ 0 → BookContents ps m b

-- area 12 names the books that stood before and those compiled so far, in their order
pub record NamesBooks (books : List ℕ) (c : Context) : Type 0 where
  pub stood : (i : ℕ) → i < length c.prior.books → entry_word 1 i 0 books ≡ get_or (get_or c.prior.books i []) 0 0
  pub each : (i : ℕ) → i < length c.assemblies
      → entry_word 1 (length c.prior.books + i) 0 books ≡ (get_or c.assemblies i (record { filename = 0; index = 0; publics = [] })).filename

-- whatever book they stand for before, they stand for the step's book after
pub record SimulatesAreas (m m' : BookAreas) (step : BookStep) : Type 0 where
  pub meets : (κ : Limits) (ps : List ℕ) (b : Book) → RepresentsAreas κ ps m b → RepresentsAreas κ ps m' (step b)

-- and the number is the definition's, where nothing is full
pub record Places (m m' : BookAreas) (place : ℕ) (step : Book → Placed) : Type 0 where
  pub meets : (κ : Limits) (ps : List ℕ) (b : Book) → RepresentsAreas κ ps m b → RepresentsAreas κ ps m' (step b).book
  pub placed : (κ : Limits) (ps : List ℕ) (b : Book) → RepresentsAreas κ ps m b → m'.book.full ≡ 0 → place ≡ (step b).place

-- the same of what may be found
pub record Seeks (m m' : BookAreas) (found : Found) (step : Book → MaybePlaced) : Type 0 where
  pub meets : (κ : Limits) (ps : List ℕ) (b : Book) → RepresentsAreas κ ps m b → RepresentsAreas κ ps m' (step b).book
  pub sought : (κ : Limits) (ps : List ℕ) (b : Book) → RepresentsAreas κ ps m b → m'.book.full ≡ 0 → found ≡ found_of (step b).place
