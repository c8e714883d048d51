-- Bundles laid onto a standing program (2026-01), a row for each way in which the call may end (`OntoRows`): the check's refusal, every row of the work, and
-- deliveries. A row has the words of a bundle, what is lent, and the reply and all words that are left. All are proved by computing, in
-- proofs/AllOntoRows.antt
use Rattle.std.specs.Prelude.{ℕ, ◌+◌, ◌≡◌, Bool, true, false, List, [], ◌∷◌, ◌++◌, map, length, get_or, set, replicate}
use Rattle.words.specs.Object.{null_kind, boolean_kind, text_kind, model_kind, function_kind}
use Rattle.words.specs.Opcode.{PushConstant, ReturnOp, GlobalGet, unword}
use Rattle.words.specs.Record.{in_place}
use Rattle.definition.specs.Prior.{Entries}
use Rattle.definition.specs.Program.{filled_all}
use Rattle.definition.specs.Answer.{Reply}
use Rattle.definition.specs.Within.{Areas, Program, area_bound}
use Rattle.definition.specs.ProgramCheck.{area_fine, program_fault}
use Rattle.definition.specs.Onto.{context_of, lay_on, reply_onto, areas_onto}
use Rattle.definition.specs.Bench.{r, bundle, ample, run}
use Rattle.definition.specs.PriorBench.{code}

-- a program of entries, by area from 1, in areas of these lengths
abbrev pub program_of : List ℕ → ℕ → ℕ → List Entries → Program
program_of lengths entry_point globals tables = record {
  areas = filled_all lengths tables;
  totals = map (λ (es : Entries). length es) tables;
  entry_point = entry_point;
  globals = globals;
}

-- What stands: the books 2 and 4. Book 2 has the public function 3, the last two of three instructions, and the public model 4 with the property 6 and a
-- method 5; constant 5 is the text 9, which no rule reads as a global name
abbrev pub standing_code : Entries
standing_code = code ReturnOp 0 7 ∷ code PushConstant 0 7 ∷ code ReturnOp 0 7 ∷ []

-- with a mark of the text, and a function of the method
abbrev pub standing_constants : ℕ → Entries
standing_constants mark =
    (null_kind ∷ 0 ∷ 0 ∷ []) ∷ (boolean_kind ∷ 1 ∷ 0 ∷ []) ∷ (boolean_kind ∷ 0 ∷ 0 ∷ []) ∷ (function_kind ∷ 0 ∷ 0 ∷ []) ∷ (model_kind ∷ 0 ∷ 0 ∷ [])
    ∷ (text_kind ∷ 9 ∷ mark ∷ []) ∷ []

abbrev pub standing_functions : Entries
standing_functions = (0 ∷ 0 ∷ 0 ∷ 0 ∷ 1 ∷ 2 ∷ 0 ∷ 3 ∷ []) ∷ []

abbrev pub standing_methods : ℕ → Entries
standing_methods function = (0 ∷ 5 ∷ function ∷ []) ∷ []

abbrev pub standing_locals : Entries
standing_locals = (0 ∷ 4 ∷ 1 ∷ 4 ∷ []) ∷ (0 ∷ 3 ∷ 1 ∷ 3 ∷ []) ∷ []

abbrev pub standing_publics : Entries
standing_publics = (0 ∷ 3 ∷ 3 ∷ []) ∷ (0 ∷ 4 ∷ 4 ∷ []) ∷ []

abbrev pub standing_books : Entries
standing_books = (2 ∷ []) ∷ (4 ∷ []) ∷ []

abbrev pub tables : Entries → List Entries
tables errors =
    [] ∷ standing_code ∷ standing_constants 0 ∷ standing_functions ∷ ((0 ∷ 4 ∷ []) ∷ []) ∷ ((0 ∷ 6 ∷ []) ∷ []) ∷ standing_methods 0 ∷ standing_locals
    ∷ standing_publics ∷ [] ∷ [] ∷ errors ∷ standing_books ∷ []

abbrev pub standing : Program
standing = program_of ample 0 0 (tables [])

-- area 11 holds five old errors
abbrev pub old_errors : Entries
old_errors = replicate 5 (10 ∷ 0 ∷ 16 ∷ 77 ∷ [])

abbrev pub with_old_errors : Program
with_old_errors = program_of ample 0 0 (tables old_errors)

-- area 11 zero, its total as it was
abbrev pub errors_cleared : Program
errors_cleared = record { areas = standing.areas; totals = with_old_errors.totals; entry_point = 0; globals = 0 }

-- in areas of other lengths; with another entry point; with another word of an area
abbrev pub lent_in : List ℕ → Program
lent_in lengths = program_of lengths 0 0 (tables [])

abbrev pub wrong_entry_point : Program
wrong_entry_point = program_of ample 1 0 (tables old_errors)

abbrev pub word_set : ℕ → ℕ → ℕ → Program
word_set area i value = record {
  areas = set standing.areas area (set (get_or standing.areas area []) i value);
  totals = standing.totals;
  entry_point = 0;
  globals = 0;
}

-- what a call leaves: the reply's row and place, and the program
pub record After : Type 0 where
  pub row : ℕ
  pub place : ℕ
  pub program : Program

abbrev pub refused : ℕ → ℕ → Program → After
refused row place p = record { row = row; place = place; program = p }

abbrev pub delivered : Program → After
delivered p = record { row = 0; place = 0; program = p }

abbrev after_by : Reply → Areas → After
after_by s m = record {
  row = s.number;
  place = s.place;
  program = record { areas = m; totals = s.totals; entry_point = s.entry_point; globals = s.globals };
}

-- laying on in a mode; its line unfolds what the call computes with
unfoldable pub laid_as : Bool → List ℕ → Program → After
unfolding run context_of lay_on reply_onto areas_onto program_fault area_fine area_bound unword in_place
laid_as strict w p = after_by (reply_onto p (lay_on strict w p)) (areas_onto p (lay_on strict w p))

unfoldable pub laid : List ℕ → Program → After
unfolding laid_as
laid w p = laid_as false w p

-- the program grown by book 7: with entries added, all constants, the method's function, and what the reply says beside the totals
abbrev pub grown : ℕ → ℕ → Entries → Entries → Entries → ℕ → Entries → Program
grown entry_point globals instructions constants functions method locals =
    program_of ample entry_point globals ([] ∷ (standing_code ++ instructions) ∷ constants ∷ (standing_functions ++ functions) ∷ ((0 ∷ 4 ∷ []) ∷ [])
    ∷ ((0 ∷ 6 ∷ []) ∷ []) ∷ standing_methods method ∷ (standing_locals ++ locals) ∷ standing_publics ∷ [] ∷ [] ∷ []
    ∷ (standing_books ++ ((7 ∷ []) ∷ [])) ∷ [])

-- the program with errors listed in area 11, its totals as they stood
abbrev pub listing : Entries → Program
listing errors = record { areas = filled_all ample (tables errors); totals = standing.totals; entry_point = 0; globals = 0 }

-- bundles

-- book 7 with some definitions
abbrev pub book7 : List (List ℕ) → List ℕ
book7 definitions = bundle (r 1 (length definitions + 1) 0 7 ∷ definitions)

-- an include of a file's public name under the same name
abbrev pub including : ℕ → ℕ → List (List ℕ)
including file name = r 11 3 0 file ∷ r 40 1 0 name ∷ r 40 1 0 name ∷ []

-- a function that returns what a name reads
abbrev pub reading : ℕ → ℕ → List (List ℕ)
reading function name = r 14 3 0 function ∷ r 25 2 0 0 ∷ r 30 1 0 name ∷ []

-- the function 5 of the model 4, with a bare return
abbrev pub implementing : List (List ℕ)
implementing = r 16 3 0 4 ∷ r 14 2 0 5 ∷ r 21 1 0 0 ∷ []

-- `implement` on an unknown name: error 10
abbrev pub faulty : List (List ℕ)
faulty = r 16 1 0 77 ∷ []

-- a copy of book 2 that is faulty and includes a book that nobody has
abbrev pub copy_of2 : List (List ℕ)
copy_of2 = r 1 5 0 2 ∷ including 99 1 ++ faulty

-- code that reads a global constant, or returns null, behind what stands; the function with it
abbrev null_code : Entries
null_code = code PushConstant 0 0 ∷ code ReturnOp 0 0 ∷ []

abbrev function_of7 : ℕ → List ℕ
function_of7 name = 0 ∷ 0 ∷ 0 ∷ 0 ∷ 3 ∷ 2 ∷ 2 ∷ name ∷ []

abbrev function_constant : List ℕ
function_constant = function_kind ∷ 1 ∷ 0 ∷ []

pub record OntoRows : Type 0 where
  -- the check: "First of all", before row 2 of one word; "All memory and totals then stay as lent", old errors too
  pub check_first : laid (1 ∷ []) wrong_entry_point ≡ refused 3 1048579 wrong_entry_point
  pub check_code : laid (book7 []) (word_set 1 99 1) ≡ refused 3 1048577 (word_set 1 99 1)
  pub check_books : laid (book7 []) (word_set 12 1 2) ≡ refused 3 1048588 (word_set 12 1 2)
  -- area 11 is not looked at
  pub old_errors_pass : laid (1 ∷ []) with_old_errors ≡ refused 2 0 errors_cleared
  -- rows 2 to 5 read the whole bundle, a standing book's copy too, and compare documents with each other alone
  pub row_2 : laid (1 ∷ []) standing ≡ refused 2 0 standing
  pub row_3 : laid (bundle (r 1 1 0 7 ∷ r 1 2 0 2 ∷ r 77 1 0 0 ∷ [])) standing ≡ refused 3 2 standing
  pub row_5 : laid (bundle (r 1 1 0 7 ∷ r 1 1 0 2 ∷ r 1 1 0 2 ∷ [])) standing ≡ refused 5 2 standing
  -- row 6: the smallest that neither stands nor is in the bundle
  pub row_6 : laid (book7 (including 2 3 ++ (including 9 3 ++ including 8 3))) standing ≡ refused 6 8 standing
  -- row 7 after a mark was due and after a method's function was: neither stays
  pub row_7_mark : laid (book7 (reading 12 9 ++ faulty)) standing ≡ refused 7 7 (listing ((10 ∷ 0 ∷ 16 ∷ 77 ∷ []) ∷ []))
  pub row_7_method : laid (book7 (including 2 4 ++ (implementing ++ faulty))) standing ≡ refused 7 7 (listing ((10 ∷ 0 ∷ 16 ∷ 77 ∷ []) ∷ []))
  -- row 8: the books that are left; one that stands is in no ring
  pub row_8 : laid (bundle (r 1 4 0 7 ∷ including 8 3 ++ (r 1 4 0 8 ∷ including 7 3))) standing
      ≡ refused 8 2 (listing ((11 ∷ 0 ∷ 0 ∷ 7 ∷ []) ∷ (11 ∷ 0 ∷ 0 ∷ 8 ∷ []) ∷ []))
  -- row 9 counts standing entries with the rest; its first step is area 12
  pub row_9 : laid (book7 (reading 12 9)) (lent_in (set ample 1 8)) ≡ refused 9 1 (lent_in (set ample 1 8))
  pub row_9_books : laid (book7 (reading 12 9)) (lent_in (set (set ample 1 8) 12 2)) ≡ refused 9 12 (lent_in (set (set ample 1 8) 12 2))
  -- row 11 of a standing book's public names, in strict mode
  pub row_11 : laid_as true (book7 (including 2 6)) standing ≡ refused 11 1 standing
  -- area 11 holds old errors and their total is 5: after row 6 the area is zero and the total as lent
  pub old_errors_lem : laid (book7 (including 8 3)) with_old_errors
      ≡ refused 6 8 errors_cleared
  -- a root that stands: delivered, with the program as it stood; old errors go, and no document beside it is compiled
  pub standing_root : laid (bundle (copy_of2 ++ (r 1 2 0 7 ∷ faulty))) with_old_errors ≡ delivered standing
  -- even where an area has no room for more
  pub standing_root_full : laid (bundle copy_of2) (lent_in (set ample 12 2)) ≡ delivered (lent_in (set ample 12 2))
  -- a copy of a standing book is not compiled and its includes are not followed: delivered with and without it, with the same words
  pub copy : laid (bundle (r 1 4 0 7 ∷ including 2 3 ++ copy_of2)) standing ≡ laid (book7 (including 2 3)) standing
  pub without_copy : laid (book7 (including 2 3)) standing ≡ delivered (grown 0 0 [] (standing_constants 0) [] 0 ((2 ∷ 3 ∷ 1 ∷ 3 ∷ []) ∷ []))
  -- the documents 7 and 2 include each other, and 2 stands
  pub no_ring : laid (bundle (r 1 4 0 7 ∷ including 2 3 ++ (r 1 4 0 2 ∷ including 7 3))) standing ≡ laid (book7 (including 2 3)) standing
  -- the text 9 stands unmarked, and is read as a global name: its mark is set, and there is one global dependency
  pub mark_set : laid (book7 (reading 12 9)) standing
      ≡ delivered (grown 0 1 (code GlobalGet 5 0 ∷ code ReturnOp 0 0 ∷ []) (standing_constants 1 ++ (function_constant ∷ [])) (function_of7 12 ∷ []) 0
      ((2 ∷ 12 ∷ 1 ∷ 6 ∷ []) ∷ []))
  -- a method whose key comes again has another function
  pub method_replaced : laid (book7 (including 2 4 ++ implementing)) standing
      ≡ delivered (grown 0 0 null_code (standing_constants 0) (function_of7 5 ∷ []) 1 ((2 ∷ 4 ∷ 1 ∷ 4 ∷ []) ∷ []))
  -- the last `main` added is the entry point
  pub entry_point : laid (book7 (r 14 2 0 1 ∷ r 21 1 0 0 ∷ [])) standing
      ≡ delivered (grown 1 0 null_code (standing_constants 0 ++ (function_constant ∷ [])) (function_of7 1 ∷ []) 0 ((2 ∷ 1 ∷ 1 ∷ 6 ∷ []) ∷ []))
  -- a context local of a standing book is seen through an include alone: the name 3 is read as a global one here
  pub not_seen : laid (book7 (reading 12 3)) standing
      ≡ delivered (grown 0 1 (code GlobalGet 6 0 ∷ code ReturnOp 0 0 ∷ [])
      (standing_constants 0 ++ ((text_kind ∷ 3 ∷ 1 ∷ []) ∷ (function_kind ∷ 1 ∷ 0 ∷ []) ∷ [])) (function_of7 12 ∷ []) 0 ((2 ∷ 12 ∷ 1 ∷ 7 ∷ []) ∷ []))
