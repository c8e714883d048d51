-- The call before 2026-04, when only the includes ahead of the first other definition were dependencies. It is kept for one theorem: a bundle whose includes
-- all come first is answered as before (`head_includes_as_before`). Nothing else cites this file
use Rattle.std.specs.Prelude.{Result, Ok, Err}
use Rattle.words.specs.Row.{row_number}
use Rattle.words.specs.declared.row.Refused.{Refused}
use Rattle.std.specs.Prelude.{ℕ, zero, suc, ◌+◌, ◌≡◌, true, cond, List, [], ◌∷◌, length}
use Rattle.std.proofs.Math.Option.{Option, none, some}
use Rattle.words.specs.Ast.{Document, Definition}
use Rattle.words.specs.Areas.{constants_area, books_area}
use Rattle.tree.specs.Check.{shape_of}
use Rattle.tree.specs.Reading.{documents_of}
use Rattle.definition.specs.Uses.{Use, Limits, using'}
use Rattle.definition.specs.Book.{Context, has_text}
use Rattle.definition.specs.DependencySolver.{included_file, dependencies_of, find_document, insert_numbers, missing, all_in, without, Worked, Delivered}
use Rattle.definition.specs.DependencySolver.{drive_by, loaded_of}
use Rattle.definition.specs.Answer.{Answer, Refusal, answer_worked, twice, document_places, limits_of}

-- `get_dependencies`: a definition that is no include ends the list
abbrev pub head_includes_by : Option ℕ → List ℕ → List ℕ
head_includes_by none l = []
head_includes_by (some file) l = file ∷ l

abbrev pub head_includes : List Definition → List ℕ
head_includes [] = []
head_includes (d ∷ ds) = head_includes_by (included_file d) (head_includes ds)

abbrev pub head_includes_of : Option Document → List ℕ
head_includes_of none = []
head_includes_of (some d) = head_includes d.definitions

-- `needed`, with these lists
abbrev pub reached_before : List ℕ → List Document → List ℕ → List ℕ → List ℕ
reached_before standing ds [] l = l
reached_before standing ds (n ∷ ns) l = reached_before standing ds ns (insert_numbers standing (head_includes_of (find_document n ds)) l)

unfoldable pub needed_in_before : ℕ → List ℕ → List Document → List ℕ → List ℕ
needed_in_before zero standing ds l = l
needed_in_before (suc k) standing ds l = needed_in_before k standing ds (reached_before standing ds l l)

abbrev pub needed_before : List ℕ → Document → List Document → List ℕ
needed_before standing root others =
    needed_in_before (length (root ∷ others)) standing (root ∷ others) (insert_numbers standing (root.filename ∷ []) [])

-- `ready` and `drive`, with them
abbrev pub ready_by_before : Option Document → List ℕ → Option Document → Option Document
ready_by_before none done o = o
ready_by_before (some d) done o = cond (all_in (head_includes d.definitions) done) (some d) o

abbrev pub ready_before : List Document → List ℕ → List ℕ → Option Document
ready_before ds done [] = none
ready_before ds done (n ∷ ns) = ready_by_before (find_document n ds) done (ready_before ds done ns)

unfoldable pub drive_before : ℕ → List Document → List ℕ → List ℕ → Context → List Use → Worked
drive_before zero ds done left c uses = record { ending = Delivered c; uses = uses }
drive_before (suc k) ds done left c uses =
    drive_by (ready_before ds done left) left c uses (λ d c' uses'. drive_before k ds (d.filename ∷ done) (without d.filename left) c' uses')

-- the work after row 6
unfoldable pub compile_needed_before : List ℕ → List Document → Context → Worked
compile_needed_before numbers ds c =
    let standing = loaded_of c in
    drive_before (length numbers) ds standing numbers c
    (using' books_area (length standing + length numbers) ∷ using' constants_area (length c.pool.constants) ∷ [])

-- and the call
abbrev pub answer_needed_before : Option ℕ → List ℕ → List Document → Limits → Context → Answer
answer_needed_before (some n) numbers ds l c = Refusal 6 n []
answer_needed_before none numbers ds l c = answer_worked l (compile_needed_before numbers ds c)

abbrev pub answer_documents_before : List Document → Limits → Context → Answer
answer_documents_before [] l c = Refusal 3 0 []
answer_documents_before (root ∷ others) l c =
    let numbers = needed_before (loaded_of c) root others in
    answer_needed_before (missing (root ∷ others) numbers) numbers (root ∷ others) l c

abbrev pub answer_twice_before : Option ℕ → List ℕ → Limits → Context → Answer
answer_twice_before (some i) w l c = Refusal 5 i []
answer_twice_before none w l c = answer_documents_before (documents_of w) l c

abbrev pub answer_shape_before : Result (Unit {0}) Refused → List ℕ → Limits → Context → Answer
answer_shape_before (Err found) w l c = Refusal (row_number found.row) found.place []
answer_shape_before (Ok fine) w l c = answer_twice_before (twice [] w (document_places w)) w l c

unfoldable pub answer_from_before : Context → List ℕ → List ℕ → Answer
answer_from_before c w lengths = answer_shape_before (shape_of w) w (limits_of lengths) c

-- of some books the includes all come first
pub record ComeFirst (numbers : List ℕ) (ds : List Document) : Type 0 where
  pub first : (n : ℕ) → has_text n numbers ≡ true → head_includes_of (find_document n ds) ≡ dependencies_of (find_document n ds)

-- 'a bundle whose includes all come first': it is enough that those of each book do that was needed
abbrev pub HeadIncludes : List ℕ → List Document → Type 0
HeadIncludes standing [] = Unit {0}
HeadIncludes standing (root ∷ others) = ComeFirst (needed_before standing root others) (root ∷ others)
