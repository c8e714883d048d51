-- One memory between a book's definitions: the view of it as the counts and areas of `compiler_laws`, and the relation to the definition's `Book`.
-- Private contracts alone cite this file: whoever reads the promises need not believe it
use Rattle.std.specs.Prelude.{◌≡◌, ℕ, ◌+◌, ◌*◌, ◌<◌, ◌≤◌, Bool, true, false, ◌&&◌, ◌||◌, List, [], length, ◌==◌, nat_lt}
use Rattle.memory.specs.Layout.{part, part_count, Fits}
use Rattle.words.specs.Areas.{code_area, constants_area, functions_area, models_area, properties_area, methods_area, context_locals_area, public_names_area}
use Rattle.words.specs.Areas.{scope_names_area, breaks_area, errors_area, books_area}
use Rattle.words.specs.Ast.{Definition, Document}
use Rattle.tree.specs.At.{DefinitionAt, size_d, DocumentAt, size_doc, RunAt, run_size}
use Rattle.definition.specs.Uses.{Use, Limits}
use Rattle.definition.specs.Book.{Context, Book, BookStep, Placed, MaybePlaced, book_count, opened, compile_definition, compile_definitions}
use Rattle.definition.specs.Within.{All}
use Rattle.definition_laws.proofs.Limits.{LimitedFunction, LimitedDocument, functions_in}
use Rattle.building.specs.Found.{Found, found_of}
use Rattle.compiler_laws.specs.declared.book.Book as struct
use Rattle.compiler_laws.specs.BookAreas.{BookAreas, book_areas, RepresentsAreas, NamesBooks}
use Rattle.compiler_laws.specs.OpenedBooks.{opened_book, nobody}
use Rattle.undo.specs.Notes.{plain}
use Rattle.undo.specs.Stood.{Stood}
use Rattle.book_compiler.specs.Represents.{slots_part, NothingStood, SlotsFilled, Replaced}

-- the book's counts, the table of starts, and the memory's words
pub record BookMemory : Type 0 where
  pub book : struct.Book
  pub starts : List ℕ
  pub words : List ℕ

abbrev pub book_laid : struct.Book → List ℕ → List ℕ → BookMemory
book_laid s a w = record { book = s; starts = a; words = w }

abbrev pub area_of : BookMemory → ℕ → List ℕ
area_of m i = part m.starts i m.words

-- what an area says, whatever is noted in its words of the program that stood (2026-01)
abbrev pub said_by : BookMemory → ℕ → List ℕ
said_by m i = plain m.book.standing_methods i (area_of m i)

-- the counts and areas that a memory is
abbrev pub book_view : BookMemory → BookAreas
book_view m =
    book_areas m.book (area_of m code_area) (said_by m constants_area) (area_of m functions_area) (area_of m models_area) (area_of m properties_area)
    (said_by m methods_area)
    (area_of m context_locals_area) (area_of m public_names_area) (area_of m scope_names_area) (area_of m breaks_area) (area_of m errors_area)

-- the parts that a book is compiled into: areas 1 to 11, and the slots
abbrev pub is_book_area : ℕ → Bool
is_book_area i = nat_lt 0 i && nat_lt i books_area || i == slots_part

-- what stood in areas 1 to 8 ends where the entries that stood before end; of the constants and the methods where those of the context end
pub record BehindContext (others : ℕ → List ℕ) (c : Context) : Type 0 where
  pub code : length (others code_area) ≤ length c.prior.code * 2
  pub constants : length (others constants_area) ≤ length c.pool.constants * 3
  pub functions : length (others functions_area) ≤ length c.prior.functions * 8
  pub models : length (others models_area) ≤ length c.prior.models * 2
  pub properties : length (others properties_area) ≤ length c.prior.properties * 2
  pub methods : length (others methods_area) ≤ length c.program.methods * 3
  pub locals : length (others context_locals_area) ≤ length c.prior.locals * 4
  pub publics : length (others public_names_area) ≤ length c.prior.publics * 3

-- the parts that no definition changes are these: area 12; and what stood in the others is in place
pub record PreservesParts (others : ℕ → List ℕ) (m : BookMemory) : Type 0 where
  pub same : (i : ℕ) → i < part_count → is_book_area i ≡ false → area_of m i ≡ others i
  pub stood : (i : ℕ) → i < part_count → is_book_area i ≡ true → Stood i (others i) (area_of m i)
  pub nothing : NothingStood others

-- within the limits κ and beside the other parts, the memory stands for the book b; `ps`: the properties of a model that is not there yet
pub record RepresentsBook (κ : Limits) (ps : List ℕ) (others : ℕ → List ℕ) (m : BookMemory) (b : Book) : Type 0 where
  pub fits : Fits m.starts (length m.words)
  pub preserves : PreservesParts others m
  pub behind : m.book.full ≡ 0 → BehindContext others b.context
  pub keeping : RepresentsAreas κ ps (book_view m) b
  -- as many methods stood as are counted
  pub standing : length (others methods_area) ≡ m.book.standing_methods * 3
  pub slots : SlotsFilled m.book.constants m.starts m.words

-- between two books it stands for a context: it is ready for the next book, whichever it is
pub record RepresentsContext (κ : Limits) (others : ℕ → List ℕ) (m : BookMemory) (context : Context) (uses : List Use) : Type 0 where
  pub ready : RepresentsBook κ [] others (book_laid (opened_book m.book (book_count context)) m.starts m.words) (opened nobody context uses)

-- a routine that is lent part i: R is what it does to the part
pub record OnArea (i : ℕ) (R : List ℕ → List ℕ → Type 0) (m m' : BookMemory) : Type 0 where
  pub same : m'.starts ≡ m.starts
  pub on : Fits m.starts (length m.words) → Replaced i R m.starts m.words m'.words

-- whatever book the memory stands for before, it stands for the step's book after
pub record SimulatesBook (m m' : BookMemory) (step : BookStep) : Type 0 where
  pub meets : (κ : Limits) (ps : List ℕ) (others : ℕ → List ℕ) (b : Book) → RepresentsBook κ ps others m b → RepresentsBook κ ps others m' (step b)

-- and the number is the definition's, where nothing is full
pub record SimulatesPlaced (m m' : BookMemory) (place : ℕ) (step : Book → Placed) : Type 0 where
  pub meets : (κ : Limits) (ps : List ℕ) (others : ℕ → List ℕ) (b : Book) → RepresentsBook κ ps others m b → RepresentsBook κ ps others m' (step b).book
  pub placed : (κ : Limits) (ps : List ℕ) (others : ℕ → List ℕ) (b : Book) → RepresentsBook κ ps others m b → m'.book.full ≡ 0 → place ≡ (step b).place

-- the same of what may be found
pub record SimulatesSought (m m' : BookMemory) (found : Found) (step : Book → MaybePlaced) : Type 0 where
  pub meets : (κ : Limits) (ps : List ℕ) (others : ℕ → List ℕ) (b : Book) → RepresentsBook κ ps others m b → RepresentsBook κ ps others m' (step b).book
  pub sought : (κ : Limits) (ps : List ℕ) (others : ℕ → List ℕ) (b : Book) → RepresentsBook κ ps others m b → m'.book.full ≡ 0
      → found ≡ found_of (step b).place

-- `compile_definition`: of the one that stands at a place and ends at the end
pub record CompilesDefinition (tree : List ℕ) (at end : ℕ) (m m' : BookMemory) : Type 0 where
  pub meets : (d : Definition) → DefinitionAt d tree at → at + size_d d ≡ end → All LimitedFunction (functions_in d)
      → (κ : Limits) (others : ℕ → List ℕ) (b : Book) → NamesBooks (others books_area) b.context
      → RepresentsBook κ [] others m b → RepresentsBook κ [] others m' (compile_definition d b)

-- those from a place up to the end
pub record CompilesDefinitions (tree : List ℕ) (at end : ℕ) (m m' : BookMemory) : Type 0 where
  pub meets : (ds : List Definition) → RunAt DefinitionAt size_d ds tree at → at + run_size size_d ds ≡ end
      → All (λ (d : Definition). All LimitedFunction (functions_in d)) ds
      → (κ : Limits) (others : ℕ → List ℕ) (b : Book) → NamesBooks (others books_area) b.context
      → RepresentsBook κ [] others m b → RepresentsBook κ [] others m' (compile_definitions ds b)

-- `compile_document`: of the one that stands at a place and ends at the end, as the book of an index
pub record CompilesDocument (tree : List ℕ) (at end index : ℕ) (m m' : BookMemory) : Type 0 where
  pub meets : (d : Document) → DocumentAt d tree at → at + size_doc d ≡ end → LimitedDocument d
      → (κ : Limits) (others : ℕ → List ℕ) (context : Context) (uses : List Use) → index ≡ book_count context → NamesBooks (others books_area) context
      → RepresentsContext κ others m context uses → RepresentsBook κ [] others m' (compile_definitions d.definitions (opened d context uses))
