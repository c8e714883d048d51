-- What a routine does to a book where it is lent one part of the memory
-- Private contracts alone cite this file: whoever reads the promises need not believe it
use Rattle.std.specs.Prelude.{Some}
use Rattle.std.specs.Prelude.{◌≡◌, ℕ, ◌*◌, ◌^◌, ◌<◌, ◌≤◌, Bool, List, length, ◌≢◌}
use Rattle.memory.specs.Layout.{Fits}
use Rattle.words.specs.Ast.{Token}
use Rattle.words.specs.Areas.{constants_area, properties_area, methods_area, context_locals_area, public_names_area, errors_area, books_area}
use Rattle.definition.specs.Book.{push_book_error, define_context_local}
use Rattle.building.specs.declared.function_state.FunctionState.{FunctionState}
use Rattle.building.specs.State.{begun}
use Rattle.building.specs.Found.{Found, found_of, find_context_local_c}
use Rattle.compiler_laws.specs.declared.book.Book as struct
use Rattle.compiler_laws.specs.BookSteps.{resumed_book, ErrorsDo, LocalsSeek, LocalsValue}
use Rattle.compiler_laws.specs.IncludeSteps.{find_pair_c, included_c, AsksMode}
use Rattle.compiler_laws.specs.ModelSteps.{InsertsMethod, CopiesMethod, CopiesMethods, Publishes, model_at_c}
use Rattle.undo.specs.Notes.{plain_methods}
use Rattle.undo.specs.Stood.{Spares}
use Rattle.book_compiler.specs.Represents.{laid}
use Rattle.book_compiler.specs.Leaves.{AddsConstant}
use Rattle.book_compiler.specs.RepresentsBook.{BookMemory, area_of, OnArea}

-- the counts of the constants and of the methods that stood are as they were
pub record SameCounts (s s' : struct.Book) : Type 0 where
  pub constants : s'.constants ≡ s.constants
  pub standing : s'.standing_methods ≡ s.standing_methods

-- a value is written to the local that was found
pub record SparesLocals (s : struct.Book) (found : Found) (l l' : List ℕ) : Type 0 where
  pub words : (below : ℕ) → (s.full ≡ 0 → (i : ℕ) → found ≡ Some i → below ≤ i * 4) → Spares context_locals_area s.full below l l'

-- of the methods that stood functions alone are written, and what is noted in their words stays
pub record SparesMethods (s : struct.Book) (t : List ℕ) (s' : struct.Book) (t' : List ℕ) : Type 0 where
  pub words : (s.full ≡ 0 → s.standing_methods ≤ s.methods) → Spares methods_area s.full (s.standing_methods * 3) t t'
  pub full : s'.full ≡ 0 → s.full ≡ 0
  pub count : s.methods ≤ s'.methods

-- of the public names those of this book alone are written
pub record SparesPublics (s : struct.Book) (u u' : List ℕ) : Type 0 where
  pub words : (below : ℕ) → (s.full ≡ 0 → below ≤ s.first_public * 3) → (s.full ≡ 0 → below ≤ s.publics * 3)
      → Spares public_names_area s.full below u u'

-- `push_error`
pub record PushesBookError (number : ℕ) (token : Token) (m m' : BookMemory) : Type 0 where
  pub counts : SameCounts m.book m'.book
  pub acts : OnArea errors_area (λ e e'. ErrorsDo m.book e m'.book e' (push_book_error number token)) m m'

-- `add_constant`: that of a function that begins, in the book's state
pub record AddsBookConstant (kind value place : ℕ) (m m' : BookMemory) : Type 0 where
  pub state : FunctionState
  pub adds : AddsConstant kind value place (laid (begun m.book.full m.book.code m.book.constants m.book.errors) m.starts m.words)
      (laid state m'.starts m'.words)
  pub counts : m'.book ≡ resumed_book m.book state

-- `define_local` of the compiler's state
pub record DefinesContextLocal (name : ℕ) (found : Found) (m m' : BookMemory) : Type 0 where
  pub counts : SameCounts m.book m'.book
  pub acts : OnArea context_locals_area (λ l l'. LocalsSeek m.book l m'.book l' found (define_context_local name)
      × Spares context_locals_area m.book.full (m.book.locals * 4) l l') m m'

-- `local_values.insert`, where a local was found
pub record SetsLocalValue (found : Found) (constant : ℕ) (m m' : BookMemory) : Type 0 where
  pub same : m'.book ≡ m.book
  pub acts : OnArea context_locals_area (λ l l'. LocalsValue m.book l l' found constant × SparesLocals m.book found l l') m m'

-- what area 6 says of a book's methods, whatever is noted
abbrev pub methods_said : struct.Book → List ℕ → List ℕ
methods_said s t = plain_methods s.standing_methods t

-- the methods that stood are the first
abbrev pub StoodFirst : struct.Book → Type 0
StoodFirst s = s.full ≡ 0 → s.standing_methods ≤ s.methods

-- where methods stood a function's number leaves room for what is noted
abbrev pub FunctionFits : struct.Book → ℕ → Type 0
FunctionFits s function = (s.standing_methods ≢ 0) → function < 2 ^ 56

-- `insert_entry`, `copy_entry` and `copy_entries` do to what the area says what `compiler_laws` says of each
pub record InsertsNoted (model name function : ℕ) (s : struct.Book) (t : List ℕ) (s' : struct.Book) (t' : List ℕ) : Type 0 where
  pub inserts : StoodFirst s → FunctionFits s function → InsertsMethod model name function s (methods_said s t) s' (methods_said s t')
  pub spares : SparesMethods s t s' t'
  pub counts : SameCounts s s'

pub record CopiesNoted (source target i : ℕ) (s : struct.Book) (t : List ℕ) (s' : struct.Book) (t' : List ℕ) : Type 0 where
  pub copies : StoodFirst s → CopiesMethod source target i s (methods_said s t) s' (methods_said s t')
  pub spares : SparesMethods s t s' t'
  pub counts : SameCounts s s'

pub record CopiesAllNoted (source target : ℕ) (s : struct.Book) (t : List ℕ) (s' : struct.Book) (t' : List ℕ) : Type 0 where
  pub copies : StoodFirst s → CopiesMethods source target s (methods_said s t) s' (methods_said s t')
  pub spares : SparesMethods s t s' t'

-- a method of a model; all methods of a model under another
pub record InsertsBookMethod (model name function : ℕ) (m m' : BookMemory) : Type 0 where
  pub counts : SameCounts m.book m'.book
  pub acts : OnArea methods_area (λ t t'. InsertsNoted model name function m.book t m'.book t') m m'

pub record CopiesBookMethods (source target : ℕ) (m m' : BookMemory) : Type 0 where
  pub counts : SameCounts m.book m'.book
  pub acts : OnArea methods_area (λ t t'. CopiesAllNoted source target m.book t m'.book t') m m'

-- `public_indices.insert`
pub record PublishesName (place name : ℕ) (m m' : BookMemory) : Type 0 where
  pub counts : SameCounts m.book m'.book
  pub acts : OnArea public_names_area (λ u u'. Publishes place name m.book u m'.book u' × SparesPublics m.book u u') m m'

-- a read of a memory that has its layout
pub record ReadsAreas (R : Type 0) (m : BookMemory) : Type 0 where
  pub on : Fits m.starts (length m.words) → R

-- the context local of a name, and the model that a context local is
pub record FindsBookLocal (name : ℕ) (found : Found) (m : BookMemory) : Type 0 where
  pub reads : ReadsAreas (found ≡ found_of (find_context_local_c m.book.first_local m.book.locals name (area_of m context_locals_area))) m

pub record FindsLocalModel (i : ℕ) (found : Found) (m : BookMemory) : Type 0 where
  pub reads : ReadsAreas (found ≡ found_of (model_at_c i (area_of m context_locals_area) (area_of m constants_area))) m

-- `find_constant_index_by_include`, and whether an include gives values (2026-07)
pub record FindsIncluded (file name : ℕ) (found : Found) (m : BookMemory) : Type 0 where
  pub reads : ReadsAreas (found ≡ found_of (included_c m.book.file m.book.publics file name (area_of m books_area) (area_of m public_names_area))) m

pub record GivesIncluded (tree : List ℕ) (at end : ℕ) (r : Bool) (m : BookMemory) : Type 0 where
  pub reads : ReadsAreas (AsksMode tree at end (area_of m books_area) (area_of m public_names_area) m.book r) m

-- a property of the model that is not there yet, whose properties start at entry `first`
pub record FindsProperty (first name : ℕ) (found : Found) (m : BookMemory) : Type 0 where
  pub reads : ReadsAreas (found ≡ found_of (find_pair_c 2 first m.book.properties m.book.models name (area_of m properties_area))) m
