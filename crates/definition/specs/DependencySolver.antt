-- `backend/dependency_solver.rs` and `Document::get_dependencies`: the books that a bundle needs, and the order in which they are compiled (01, 'Emission').
-- The Rust takes hash order; here the smallest file number that is ready goes first. All is said from a standing context, whose books are passed over
-- (2026-01); in a fresh one there are none
use Rattle.std.specs.Prelude.{ℕ, zero, suc, ◌+◌, Bool, true, false, cond, List, [], ◌∷◌, ◌++◌, length, eqb, ltb}
use Rattle.std.proofs.Math.Option.{Option, none, some}
use Rattle.words.specs.Ast.{Document}
use Rattle.words.specs.Ast.{Definition, LocalDefinition, IncludeDefinition, ModelDefinition, PublicModelDefinition}
use Rattle.words.specs.Ast.{PlainFunction, PublicFunction, ImplementDefinition, ApplyDefinition}
use Rattle.words.specs.Areas.{constants_area, errors_area, books_area}
use Rattle.definition.specs.Uses.{Use, using'}
use Rattle.definition.specs.Compiler.{Error}
use Rattle.definition.specs.Book.{Assembly, Context, compile_document, has_text}
use Rattle.definition.specs.Prior.{file_numbers}

-- the book that a definition includes
abbrev pub included_file : Definition → Option ℕ
included_file (IncludeDefinition index file as') = some file.value
included_file (LocalDefinition x) = none
included_file (ModelDefinition x y) = none
included_file (PublicModelDefinition x y) = none
included_file (PlainFunction x) = none
included_file (PublicFunction x) = none
included_file (ImplementDefinition x y) = none
included_file (ApplyDefinition x y) = none

-- a definition that is no include is passed over
abbrev pub dependencies_by : Option ℕ → List ℕ → List ℕ
dependencies_by none l = l
dependencies_by (some file) l = file ∷ l

-- 'all includes of a book are dependencies, wherever they are written' (2026-04; the Rust's `get_dependencies` stops at the first other definition)
abbrev pub dependencies : List Definition → List ℕ
dependencies [] = []
dependencies (d ∷ ds) = dependencies_by (included_file d) (dependencies ds)

-- `documents.get`
abbrev pub find_document : ℕ → List Document → Option Document
find_document n [] = none
find_document n (d ∷ ds) = cond (eqb d.filename n) (some d) (find_document n ds)

abbrev pub dependencies_of : Option Document → List ℕ
dependencies_of none = []
dependencies_of (some d) = dependencies d.definitions

-- an ascending list without repeats
abbrev pub insert_number : ℕ → List ℕ → List ℕ
insert_number n [] = n ∷ []
insert_number n (x ∷ xs) = cond (ltb n x) (n ∷ x ∷ xs) (cond (eqb n x) (x ∷ xs) (x ∷ insert_number n xs))

-- those that do not stand, into an ascending list
abbrev pub insert_numbers : List ℕ → List ℕ → List ℕ → List ℕ
insert_numbers standing [] l = l
insert_numbers standing (n ∷ ns) l = insert_numbers standing ns (cond (has_text n standing) l (insert_number n l))

-- what the books of the first list ask for, into the second
abbrev pub reached_from : List ℕ → List Document → List ℕ → List ℕ → List ℕ
reached_from standing ds [] l = l
reached_from standing ds (n ∷ ns) l = reached_from standing ds ns (insert_numbers standing (dependencies_of (find_document n ds)) l)

-- as often as there are books
unfoldable pub needed_in : ℕ → List ℕ → List Document → List ℕ → List ℕ
needed_in zero standing ds l = l
needed_in (suc k) standing ds l = needed_in k standing ds (reached_from standing ds l l)

-- the file numbers of the books needed, ascending
abbrev pub needed : List ℕ → Document → List Document → List ℕ
needed standing root others =
    needed_in (length (root ∷ others)) standing (root ∷ others) (insert_numbers standing (root.filename ∷ []) [])

-- row 6: the smallest that is needed and absent
abbrev pub missing_by : Option Document → ℕ → Option ℕ → Option ℕ
missing_by none n o = some n
missing_by (some d) n o = o

abbrev pub missing : List Document → List ℕ → Option ℕ
missing ds [] = none
missing ds (n ∷ ns) = missing_by (find_document n ds) n (missing ds ns)

-- whether all of some numbers are among others
abbrev pub all_in : List ℕ → List ℕ → Bool
all_in [] l = true
all_in (n ∷ ns) l = cond (has_text n l) (all_in ns l) false

-- `get_next_no_dependency_filename`: the first of the ascending `left` whose includes are all among `done`
abbrev pub ready_by : Option Document → List ℕ → Option Document → Option Document
ready_by none done o = o
ready_by (some d) done o = cond (all_in (dependencies d.definitions) done) (some d) o

abbrev pub ready : List Document → List ℕ → List ℕ → Option Document
ready ds done [] = none
ready ds done (n ∷ ns) = ready_by (find_document n ds) done (ready ds done ns)

-- `set_loaded`: a book that is compiled is left no more
abbrev pub without : ℕ → List ℕ → List ℕ
without n [] = []
without n (x ∷ xs) = cond (eqb x n) xs (x ∷ without n xs)

-- how the work ends: with a context to deliver, at a faulty book (row 7), at a ring (row 8)
pub data Ending : Type 0 where
  Delivered : Context → Ending
  Faulty : ℕ → List Error → Ending
  Ring : List ℕ → Ending

pub record Worked : Type 0 where
  pub ending : Ending
  pub uses : List Use

-- a book is finished before its errors are answered
abbrev pub after_book : List Error → ℕ → Context → List Use → (Context → List Use → Worked) → Worked
after_book [] file c uses go = go c uses
after_book (e ∷ es) file c uses go = record { ending = Faulty file (e ∷ es); uses = uses }

-- where no book is ready, each that is left is an error 11, in an entry of area 11
abbrev pub drive_by : Option Document → List ℕ → Context → List Use → (Document → Context → List Use → Worked) → Worked
drive_by none left c uses go = record { ending = Ring left; uses = using' errors_area (length left) ∷ uses }
drive_by (some d) left c uses go = let b = compile_document d c uses in after_book b.compiler.errors d.filename b.context b.uses (go d)

-- `compile_to`, by the number of books left
unfoldable pub drive : ℕ → List Document → List ℕ → List ℕ → Context → List Use → Worked
drive zero ds done left c uses = record { ending = Delivered c; uses = uses }
drive (suc k) ds done left c uses =
    drive_by (ready ds done left) left c uses (λ d c' uses'. drive k ds (d.filename ∷ done) (without d.filename left) c' uses')

abbrev pub files_of : List Assembly → List ℕ
files_of [] = []
files_of (a ∷ l) = a.filename ∷ files_of l

-- the file numbers of the books that stand: `get_loaded_assemblies`
abbrev pub loaded_of : Context → List ℕ
loaded_of c = file_numbers c.prior.books ++ files_of c.assemblies

-- the work after row 6: first the constants that stand (2) and an entry for each book that stands or is needed (12), then the books
unfoldable pub compile_needed : List ℕ → List Document → Context → Worked
compile_needed numbers ds c =
    let standing = loaded_of c in
    drive (length numbers) ds standing numbers c
    (using' books_area (length standing + length numbers) ∷ using' constants_area (length c.pool.constants) ∷ [])
