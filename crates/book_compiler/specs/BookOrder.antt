-- What the routines of `driver.rt`, `order.rt` and `ending.rt` promise: the books of a bundle one after the other over one memory, and how they end
-- Private contracts alone cite this file: whoever reads the promises need not believe it
use Rattle.std.specs.Prelude.{◌≡◌, Option, Some, None, ℕ, ◌+◌, ◌/◌, ◌%◌, ◌<◌, ◌≤◌, Bool}
use Rattle.std.specs.Prelude.{true, false, cond, List, [], ◌∷◌, ◌++◌, length, drop, ◌==◌, ◌≢◌, slice_index}
use Rattle.memory.specs.Layout.{part, part_count, Fits}
use Rattle.words.specs.Ast.{Document}
use Rattle.words.specs.Areas.{entries_in, entry_field, constants_area, errors_area, books_area}
use Rattle.words.specs.Areas.{code_area, functions_area, models_area, properties_area, methods_area, context_locals_area, public_names_area, scope_names_area}
use Rattle.words.specs.Areas.{breaks_area}
use Rattle.words.specs.declared.reply.Reply as reply
use Rattle.words.specs.Reply.{delivery, refusal}
use Rattle.definition.specs.Uses.{Use, using', Limits, first_over}
use Rattle.definition.specs.Compiler.{Error}
use Rattle.definition.specs.Program.{entries_from, error_entry}
use Rattle.definition.specs.DependencySolver.{needed, compile_needed, loaded_of, drive, Ending, Delivered, Faulty, Ring, Worked}
use Rattle.definition.specs.Answer.{ring_errors}
use Rattle.definition.specs.Book.{new_context, Context, book_count}
use Rattle.definition.specs.Within.{All, Areas}
use Rattle.definition.specs.Promise.{areas, Compiles}
use Rattle.definition_laws.proofs.Limits.{LimitedDocument}
use Rattle.building.specs.declared.taking.Taken.{Taken}
use Rattle.building.specs.RepresentsMachine.{Filled, Marks, Sized}
use Rattle.compiler_laws.specs.declared.book.Book as struct
use Rattle.compiler_laws.specs.BookAreas.{book_areas, Fitted}
use Rattle.compiler_laws.specs.FileSets.{SetIs, Ascends}
use Rattle.compiler_laws.specs.SolverSteps.{book_unit, place_unit, Distinct, Stands, FindsReady, Brings}
use Rattle.compiler_laws.specs.BooksInOrder.{Zero, PushesRingErrors, Accepted, MarkedFrom}
use Rattle.compiler_laws.specs.CallEnd.{totals, mark_refusal}
use Rattle.book_compiler.specs.declared.order.Next.{Next}
use Rattle.undo.specs.Notes.{plain_marks, settled_marks, plain_methods}
use Rattle.undo.specs.Stood.{Stood}
use Rattle.book_compiler.specs.Represents.{slots_part, Replaced}
use Rattle.book_compiler.specs.RepresentsBook.{BookMemory, book_laid, area_of, is_book_area, RepresentsContext}

-- a routine that is lent part i of a memory: R is what it does to the part
pub record LentPart (i : ℕ) (R : List ℕ → List ℕ → Type 0) (starts before after : List ℕ) : Type 0 where
  pub on : Fits starts (length before) → Replaced i R starts before after

-- a routine that reads part i
pub record ReadsPart (i : ℕ) (R : List ℕ → Type 0) (starts memory : List ℕ) : Type 0 where
  pub on : Fits starts (length memory) → R (part starts i memory)

-- the parts beside those that books are compiled into, with these words as area 12
abbrev pub with_books : (ℕ → List ℕ) → List ℕ → ℕ → List ℕ
with_books others books i = cond (i == books_area) books (others i)

-- between two books the memory stands for a context; area 12 apart, the parts that no book changes are `others`
pub record AtRest (κ : Limits) (others : ℕ → List ℕ) (m : BookMemory) (context : Context) (uses : List Use) : Type 0 where
  pub represents : RepresentsContext κ (with_books others (area_of m books_area)) m context uses

-- `next_book`: the first waiting book that is ready, its number at the place of entry `done` of area 12; nothing where none is ready
pub record Picked (tree : List ℕ) (end done count : ℕ) (set : List ℕ) (r : Next) (books after : List ℕ) : Type 0 where
  pub index : ℕ
  pub inside : index < count
  -- area 12 before the number was moved
  pub marked : List ℕ
  pub ready : FindsReady tree end done count set books index marked
  pub file : r.file ≡ entry_field 1 index 0 marked / book_unit
  pub at : r.at ≡ entry_field 1 index 0 marked % place_unit
  pub moved : Brings marked done index r.file after

pub record PicksNext (tree : List ℕ) (end done count : ℕ) (set : List ℕ) (found : Option Next) (books after : List ℕ) : Type 0 where
  pub picked : (next : Next) → found ≡ Some next → Picked tree end done count set next books after
  pub nothing : found ≡ None → FindsReady tree end done count set books count after

-- `ring`: an error for each book left; the other parts stay
pub record PushesRingErrorsIn (i count : ℕ) (t : Taken) (starts before : List ℕ) (r : Taken) (after : List ℕ) : Type 0 where
  pub rings : Fits starts (length before)
      → PushesRingErrors i count (part starts books_area before) t (part starts errors_area before) r (part starts errors_area after)
  pub others : Fits starts (length before) → (j : ℕ) → j < part_count → (errors_area ≢ j) → part starts j after ≡ part starts j before

-- how the books end, where nothing is full: `rest` is what stands in area 12 behind the books; of a delivery `place` is the number of books
pub data Came (κ : Limits) (others : ℕ → List ℕ) (m : BookMemory) (rest : List ℕ) (row place : ℕ) (uses : List Use) : Ending → Type 0 where
  came_delivered : {context : Context} → row ≡ 0 → place ≡ book_count context → AtRest κ others m context uses → area_of m books_area ≡ loaded_of context ++
      rest
      → Came κ others m rest row place uses (Delivered context)
  came_faulty : {file : ℕ} {es : List Error} → row ≡ 7 → place ≡ file → Filled 4 (area_of m errors_area) (entries_from error_entry 0 es) m.book.errors
      → Came κ others m rest row place uses (Faulty file es)
  came_ring : {left : List ℕ} → row ≡ 8 → place ≡ length left
      → Filled 4 (area_of m errors_area) (entries_from error_entry 0 (ring_errors left)) m.book.errors
      → Came κ others m rest row place uses (Ring left)

-- the mark is that of the first note beyond its area, and where there is none the work's ending is what the memory says. Whatever the ending, what stood before
-- is in place, and so are the file numbers of the books that stood, the first `stand` words of area 12, which was `books`
pub record Outcome (κ : Limits) (others : ℕ → List ℕ) (stand : ℕ) (books : List ℕ) (m : BookMemory) (rest : List ℕ) (row place : ℕ) (w : Worked)
    : Type 0 where
  pub full : Marks (first_over κ w.uses) m.book.full
  pub came : m.book.full ≡ 0 → Came κ others m rest row place w.uses w.ending
  pub stood : (i : ℕ) → i < part_count → is_book_area i ≡ true → Stood i (others i) (area_of m i)
  pub named : (k : ℕ) → k < stand → slice_index (area_of m books_area) k ≡ slice_index books k

-- where the work stands: the books that are left, those compiled, and the memory between two books
pub record Driving (ds : List Document) (tree : List ℕ) (end done count : ℕ) (left rest compiled set : List ℕ) (κ : Limits) (others : ℕ → List ℕ)
    (m : BookMemory) (context : Context) (uses : List Use) : Type 0 where
  pub distinct : Distinct ds
  pub limited : All LimitedDocument ds
  pub ascends : Ascends 0 left
  pub stands : Stands ds tree end (loaded_of context) left rest (area_of m books_area) set compiled
  pub so_many : done ≡ book_count context
  pub in_all : count ≡ done + length left
  pub resting : AtRest κ others m context uses

-- `drive`
pub record Drives (tree : List ℕ) (end done count : ℕ) (set : List ℕ) (m m' : BookMemory) (row place : ℕ) : Type 0 where
  pub drives : (ds : List Document) (left rest compiled : List ℕ) (κ : Limits) (others : ℕ → List ℕ) (context : Context) (uses : List Use)
      → Driving ds tree end done count left rest compiled set κ others m context uses
      → Outcome κ others done (area_of m books_area) m' rest row place (drive (length left) ds compiled left context uses)

-- the areas are as long as the limits say, area 12 too
pub record Lent (κ : Limits) (m : BookMemory) : Type 0 where
  pub fitted : Fitted κ
      (book_areas m.book (area_of m code_area) (area_of m constants_area) (area_of m functions_area) (area_of m models_area) (area_of m properties_area)
      (area_of m methods_area) (area_of m context_locals_area) (area_of m public_names_area) (area_of m scope_names_area) (area_of m breaks_area)
      (area_of m errors_area))
  pub books : Sized κ books_area (area_of m books_area)

-- before the books that are needed: in area 12 the file numbers of those that stand, and the rest; and the set of those that stand
pub record Begins (set : List ℕ) (stand : ℕ) (rest : List ℕ) (κ : Limits) (others : ℕ → List ℕ) (m : BookMemory) (context : Context) (uses : List Use)
    : Type 0 where
  pub so_many : stand ≡ book_count context
  pub held : SetIs set (loaded_of context)
  pub area : area_of m books_area ≡ loaded_of context ++ rest
  pub inside : stand ≤ entries_in 1 (length (area_of m books_area))
  pub sized : Sized κ books_area (area_of m books_area)
  pub resting : AtRest κ others m context uses

-- the work from a context and its notes: an entry of area 12 for each book that stands or is needed, then the books
abbrev pub needed_work : Document → List Document → Context → List Use → Worked
needed_work root others context uses =
    let numbers = needed (loaded_of context) root others in
    drive (length numbers) (root ∷ others) (loaded_of context) numbers context
    (using' books_area (length (loaded_of context) + length numbers) ∷ uses)

-- `compile_needed`: into a memory that stands for a context
pub record CompilesNeeded (tree chosen set : List ℕ) (stand : ℕ) (m m' : BookMemory) (row place : ℕ) : Type 0 where
  pub works : (root : Document) (others : List Document) (κ : Limits) (parts : ℕ → List ℕ) (context : Context) (uses : List Use) (rest : List ℕ)
      → Accepted tree chosen (loaded_of context) root others → length set ≡ length chosen → Begins set stand rest κ parts m context uses
      → Outcome κ parts stand (area_of m books_area) m' (drop (length (needed (loaded_of context) root others)) rest) row place
      (needed_work root others context uses)

-- the parts that no definition changes, beside areas in which nothing stood
abbrev pub fresh : List ℕ → List ℕ → ℕ → List ℕ
fresh starts before i = cond (is_book_area i) [] (part starts i before)

-- `work`: all the books of a bundle, into a memory of zeros
pub record Works (strict : Bool) (tree set starts before : List ℕ) (m' : BookMemory) (row place : ℕ) : Type 0 where
  pub works : (root : Document) (others : List Document) → Accepted tree set [] root others → Fits starts (length before) → Zero before → (κ : Limits)
      → ((s : struct.Book) → Lent κ (book_laid s starts before))
      → (rest : List ℕ) × (Zero rest
      × Outcome κ (fresh starts before) 0 [] m' rest row place (compile_needed (needed [] root others) (root ∷ others) (new_context strict)))

-- a routine that is lent part i, unless that is the errors', which stays: R is what it does to the part
pub record LentButErrors (i : ℕ) (R : List ℕ → List ℕ → Type 0) (starts before after : List ℕ) : Type 0 where
  pub errors : i ≡ errors_area → after ≡ before
  pub others : (i ≢ errors_area) → i < part_count → LentPart i R starts before after

-- `clear_but_errors`: zeros in every part but that of the errors
pub record ClearsButErrors (starts before after : List ℕ) : Type 0 where
  pub kept : Fits starts (length before) → part starts errors_area after ≡ part starts errors_area before
  pub zeros : Fits starts (length before) → (i : ℕ) → i < part_count → (errors_area ≢ i) → Zero (part starts i after)

-- `settle`: marks and methods without notes, no slots; `stood`: how many methods stood, `count`: the constants in use
pub record Settled (count stood : ℕ) (starts before after : List ℕ) : Type 0 where
  pub long : length after ≡ length before
  pub constants : part starts constants_area after ≡ settled_marks count (part starts constants_area before)
  pub methods : part starts methods_area after ≡ plain_methods stood (part starts methods_area before)
  pub slots : Zero (part starts slots_part after)
  pub others : (i : ℕ) → 0 < i → i < slots_part → (i == constants_area) ≡ false → (i == methods_area) ≡ false → part starts i after ≡ part starts i before

pub record Settles (count stood : ℕ) (starts before after : List ℕ) : Type 0 where
  pub on : Fits starts (length before) → Settled count stood starts before after

-- `finish`: after a full area all is cleared; after a row all but the errors; else the notes and the slots go, and the reply has the totals
pub record Finishes (m : BookMemory) (row place : ℕ) (after : List ℕ) (r : reply.Reply) : Type 0 where
  pub full : (m.book.full ≢ 0) → Zero after × (r ≡ mark_refusal m.book.full)
  pub refused : m.book.full ≡ 0 → (row ≢ 0) → ClearsButErrors m.starts m.words after × (r ≡ refusal row place)
  pub whole : m.book.full ≡ 0 → row ≡ 0 → Settles m.book.constants m.book.standing_methods m.starts m.words after
      × ((globals : ℕ) × (ReadsPart constants_area (λ k. MarkedFrom (plain_marks k) 0 m.book.constants 0 globals) m.starts m.words
      × (r ≡ delivery (totals m.book place globals 1))))

-- areas 1 to 12 by a table of starts
abbrev pub parts_of : List ℕ → List ℕ → Areas
parts_of starts w =
    areas (part starts code_area w) (part starts constants_area w) (part starts functions_area w) (part starts models_area w) (part starts properties_area w)
    (part starts methods_area w) (part starts context_locals_area w) (part starts public_names_area w) (part starts scope_names_area w)
    (part starts breaks_area w)
    (part starts errors_area w) (part starts books_area w)

-- `run`: from a memory of zeros, what the call promises of its parts
pub record Runs (strict : Bool) (tree starts before after : List ℕ) (r : reply.Reply) : Type 0 where
  pub compiles : Fits starts (length before) → Zero before → Compiles strict tree (parts_of starts before) (parts_of starts after) r
  pub left_over : Fits starts (length before) → Zero before → Zero (part starts 13 after)
