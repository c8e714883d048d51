-- What the routines above a document promise: the rows before the work, the books one after the other, and how they end
-- Private contracts alone cite this file: whoever reads the promises need not believe it
use Rattle.std.specs.Prelude.{ℕ, ◌+◌, ◌/◌, ◌≤◌, ◌<◌, ◌≡◌, Bool, cond, eqb, List, [], ◌∷◌, ◌++◌, length, replicate}
use Rattle.std.proofs.Math.Option.{none}
use Rattle.words.specs.Ast.{Document}
use Rattle.words.specs.Areas.{entries_in, entry_word, entry_field, constants_area, errors_area, books_area}
use Rattle.words.specs.Object.{Constant, default_constants}
use Rattle.words.specs.declared.reply.Totals.{Totals}
use Rattle.definition.specs.Uses.{Use, Limits, first_over}
use Rattle.definition.specs.Compiler.{Error}
use Rattle.definition.specs.Program.{bit, entries_from, constant_entry, error_entry, global_dependencies}
use Rattle.definition.specs.DependencySolver.{needed, missing, compile_needed, loaded_of, Ending, Delivered, Faulty, Ring, Worked}
use Rattle.definition.specs.Answer.{Refusal, ring_errors, answer_worked, limits_of, answer_from}
use Rattle.tree.specs.Check.{shape_of}
use Rattle.tree.specs.Reading.{documents_of}
use Rattle.std.specs.Prelude.{Ok}
use Rattle.definition.specs.Book.{has_text, new_context, Context, book_count}
use Rattle.building.specs.declared.taking.Taken.{Taken}
use Rattle.building.specs.RepresentsMachine.{Filled, Marks, Sized}
use Rattle.compiler_laws.specs.declared.book.Book as struct
use Rattle.compiler_laws.specs.FileSets.{SetIs}
use Rattle.compiler_laws.specs.SolverSteps.{book_unit, Bundle, Room, Distinct}
use Rattle.compiler_laws.specs.OpenedBooks.{Resting}
use Rattle.compiler_laws.specs.BookAreas.{book_areas, Fitted}

-- nothing but zeros
abbrev pub Zero : List ℕ → Type 0
Zero l = l ≡ replicate (length l) 0

-- the books that are left stand behind those compiled, each in an entry of area 12 that begins with its file number
abbrev pub Leaves : List ℕ → ℕ → List ℕ → Type 0
Leaves o i [] = Unit {0}
Leaves o i (n ∷ ns) = (entry_word 1 i 0 o / book_unit ≡ n) × Leaves o (i + 1) ns

-- an error for each book left, behind those that stand: all of them, or the mark
pub record Rung (es : List Error) (left e : List ℕ) (r : Taken) (e' : List ℕ) : Type 0 where
  pub long : length e' ≡ length e
  pub fits : length es + length left ≤ entries_in 4 (length e)
      → (r.full ≡ 0) × Filled 4 e' (entries_from error_entry 0 (es ++ ring_errors left)) r.count
  pub over : entries_in 4 (length e) < length es + length left → r.full ≡ errors_area

-- `ring`
pub record PushesRingErrors (i count : ℕ) (o : List ℕ) (t : Taken) (e : List ℕ) (r : Taken) (e' : List ℕ) : Type 0 where
  pub rings : (es : List Error) (left : List ℕ) → Leaves o i left → i + length left ≡ count → t.full ≡ 0
      → Filled 4 e (entries_from error_entry 0 es) t.count → Rung es left e r e'
  pub stays : (t.full ≡ 0 → ⊥) → (r.full ≡ t.full) × (length e' ≡ length e)

-- an empty set with a bit for every file number, and every number that is included, of the documents that the words spell
pub record Fresh (tree set : List ℕ) : Type 0 where
  pub empty : Zero set
  pub room : (ds : List Document) → Bundle ds tree 0 (length tree / 4) → Room set ds

-- the work that is left after rows 2 to 6: the documents, their order's numbers, and the answer by them from each context in which the books of these files
-- stand
pub record Accepted (tree set files : List ℕ) (root : Document) (others : List Document) : Type 0 where
  pub fine : shape_of tree ≡ Ok tt
  pub documents : documents_of tree ≡ root ∷ others
  pub bundle : Bundle (root ∷ others) tree 0 (length tree / 4)
  pub distinct : Distinct (root ∷ others)
  pub chosen : SetIs set (needed files root others)
  pub room : Room set (root ∷ others)
  pub there : missing (root ∷ others) (needed files root others) ≡ none
  pub answers : (c : Context) → loaded_of c ≡ files → (lengths : List ℕ)
      → answer_from c tree lengths ≡ answer_worked (limits_of lengths) (compile_needed (needed files root others) (root ∷ others) c)

-- `front`: a row of 2 to 6 and its place, in either mode, or row 0 and the work that is left
pub record FrontRows (tree : List ℕ) (row place : ℕ) (set files : List ℕ) : Type 0 where
  pub refused : (row ≡ 0 → ⊥) → (c : Context) → loaded_of c ≡ files → (lengths : List ℕ) → answer_from c tree lengths ≡ Refusal row place []
  pub accepted : row ≡ 0 → (root : Document) × ((others : List Document) × Accepted tree set files root others)

-- whichever books are those of the set that stand
pub record ChecksRows (tree standing : List ℕ) (row place : ℕ) (set : List ℕ) : Type 0 where
  pub rows : (files : List ℕ) → SetIs standing files → FrontRows tree row place set files

-- how the books end, where nothing is full: `rest` is what stands in area 12 behind the books; of a delivery `place` is the number of books
pub data Came (κ : Limits) (s : struct.Book) (c k f m p t l u n b e books rest : List ℕ) (row place : ℕ) (uses : List Use) : Ending → Type 0 where
  came_delivered : {context : Context} → row ≡ 0 → place ≡ book_count context → Resting κ s c k f m p t l u n b e context uses
      → books ≡ loaded_of context ++ rest
      → Came κ s c k f m p t l u n b e books rest row place uses (Delivered context)
  came_faulty : {file : ℕ} {es : List Error} → row ≡ 7 → place ≡ file → Filled 4 e (entries_from error_entry 0 es) s.errors
      → Came κ s c k f m p t l u n b e books rest row place uses (Faulty file es)
  came_ring : {left : List ℕ} → row ≡ 8 → place ≡ length left → Filled 4 e (entries_from error_entry 0 (ring_errors left)) s.errors
      → Came κ s c k f m p t l u n b e books rest row place uses (Ring left)

-- the mark is that of the first note beyond its area, and where there is none the work's ending is what the counts and areas say
pub record Outcome (κ : Limits) (s : struct.Book) (c k f m p t l u n b e books rest : List ℕ) (row place : ℕ) (w : Worked) : Type 0 where
  pub full : Marks (first_over κ w.uses) s.full
  pub came : s.full ≡ 0 → Came κ s c k f m p t l u n b e books rest row place w.uses w.ending

-- `first_constants`: null, true and false
pub record FirstConstants (k : List ℕ) (r : Taken) (k' : List ℕ) : Type 0 where
  pub fits : Zero k → 3 ≤ entries_in 3 (length k) → (r.full ≡ 0) × Filled 3 k' (entries_from (constant_entry []) 0 default_constants) r.count
  pub over : Zero k → entries_in 3 (length k) < 3 → r.full ≡ constants_area

-- the areas are as long as the limits say, area 12 too
pub record Lent (κ : Limits) (s : struct.Book) (c k f m p t l u n b e o : List ℕ) : Type 0 where
  pub fitted : Fitted κ (book_areas s c k f m p t l u n b e)
  pub books : Sized κ books_area o

-- `clear_program`: zeros in every area but that of the errors
pub record Emptied (c k f m p t l u n b o : List ℕ) : Type 0 where
  pub code : Zero c
  pub constants : Zero k
  pub functions : Zero f
  pub models : Zero m
  pub properties : Zero p
  pub methods : Zero t
  pub locals : Zero l
  pub publics : Zero u
  pub names : Zero n
  pub breaks : Zero b
  pub books : Zero o

-- and in that one too
pub record Cleared (c k f m p t l u n b e o : List ℕ) : Type 0 where
  pub emptied : Emptied c k f m p t l u n b o
  pub errors : Zero e

-- `work`: all the books of a bundle, into areas of zeros
pub record Works (strict : Bool) (tree set : List ℕ) (c k f m p t l u n b e o : List ℕ) (s' : struct.Book) (c' k' f' m' p' t' l' u' n' b' e' o' : List ℕ)
    (row place : ℕ) : Type 0 where
  pub works : (root : Document) (others : List Document) → Accepted tree set [] root others → Cleared c k f m p t l u n b e o → (κ : Limits)
      → ((s : struct.Book) → Lent κ s c k f m p t l u n b e o)
      → (rest : List ℕ) × (Zero rest × Outcome κ s' c' k' f' m' p' t' l' u' n' b' e' o' rest row place
      (compile_needed (needed [] root others) (root ∷ others) (new_context strict)))

-- `count_marked`: the constants from a place on that are marked, n counted before it
pub record MarkedFrom (k : List ℕ) (i count n r : ℕ) : Type 0 where
  pub marked : (gs : List ℕ) (cs : List Constant) → ((j : ℕ) → j < length cs → entry_field 3 (i + j) 2 k ≡ bit (has_text (i + j) gs)) → i + length cs ≡ count
      → r ≡ n + global_dependencies gs i cs

-- `one_if`: a mark that is not 0 is a mark
abbrev pub mark_of : ℕ → ℕ
mark_of word = cond (eqb word 0) 0 1

-- `begun`: the counts of the beginning
abbrev pub begun_book : Bool → Taken → ℕ → struct.Book
begun_book strict t constants = record {
  full = t.full;
  code = 0;
  constants = constants;
  functions = 0;
  models = 0;
  properties = 0;
  methods = 0;
  locals = 0;
  publics = 0;
  errors = 0;
  file = 0;
  first_local = 0;
  first_public = 0;
  entry_point = 0;
  standing_methods = 0;
  strict = strict;
}

-- and onto a program that stands, by its totals
abbrev pub begun_onto : Bool → Totals → struct.Book
begun_onto strict t = record {
  full = 0;
  code = t.code;
  constants = t.constants;
  functions = t.functions;
  models = t.models;
  properties = t.properties;
  methods = t.methods;
  locals = t.context_locals;
  publics = t.public_names;
  errors = 0;
  file = 0;
  first_local = 0;
  first_public = 0;
  entry_point = t.entry_point;
  standing_methods = t.methods;
  strict = strict;
}
