-- The compile call of 01: from any words and the areas' lengths to the reply and the words of the twelve areas
use Rattle.std.specs.Prelude.{Result, Ok, Err}
use Rattle.words.specs.Row.{row_number}
use Rattle.words.specs.declared.row.Refused.{Refused}
use Rattle.std.specs.Prelude.{ℕ, ◌-◌, ◌/◌, Bool, cond, List, [], ◌∷◌, map, length, replicate, ltb}
use Rattle.std.proofs.Math.Option.{Option, none, some}
use Rattle.words.specs.Ast.{Document}
use Rattle.words.specs.Areas.{widths, entries_in}
use Rattle.words.specs.Record.{value_at}
use Rattle.tree.specs.Check.{shape_of}
use Rattle.tree.specs.Reading.{documents_of, list_of}
use Rattle.definition.specs.Uses.{Limits, first_not_public, first_over}
use Rattle.definition.specs.Compiler.{Error}
use Rattle.definition.specs.Book.{Context, new_context, has_text}
use Rattle.definition.specs.DependencySolver.{Ending, Delivered, Faulty, Ring, Worked, loaded_of, needed, missing, compile_needed}
use Rattle.definition.specs.Program.{Entries, tables_of, error_tables, global_dependencies, filled_all}

-- a context to deliver, or a refusal with its row, its place and its errors
pub data Answer : Type 0 where
  Delivery : Context → Answer
  Refusal : ℕ → ℕ → List Error → Answer

-- an error 11: no token, and the file number (which errors a ring lists is the change point of 2026-14)
abbrev pub ring_errors : List ℕ → List Error
ring_errors [] = []
ring_errors (n ∷ ns) = record { number = 11; token = record { position = 0; kind = 0; value = n } } ∷ ring_errors ns

abbrev pub answer_ending : Ending → Answer
answer_ending (Delivered c) = Delivery c
answer_ending (Faulty n es) = Refusal 7 n es
answer_ending (Ring l) = Refusal 8 (length l) (ring_errors l)

-- rows 9 and 11 by the area of the note (Uses.antt, `not_public_area`)
abbrev pub answer_over : ℕ → Answer
answer_over area = cond (ltb area first_not_public) (Refusal 9 area []) (Refusal 11 (area - first_not_public) [])

-- they win: they were met before the work ended (2026-07: 'at this point it comes before row 7 for the same book')
abbrev pub answer_by : Option ℕ → Ending → Answer
answer_by (some area) e = answer_over area
answer_by none e = answer_ending e

abbrev pub answer_worked : Limits → Worked → Answer
answer_worked l w = answer_by (first_over l w.uses) w.ending

-- row 6 comes before any row 9
abbrev pub answer_needed : Option ℕ → List ℕ → List Document → Limits → Context → Answer
answer_needed (some n) numbers ds l c = Refusal 6 n []
answer_needed none numbers ds l c = answer_worked l (compile_needed numbers ds c)

-- a bundle, its root first, laid onto a standing context
unfoldable pub answer_bundle : Document → List Document → Limits → Context → Answer
answer_bundle root others l c =
    let numbers = needed (loaded_of c) root others in
    answer_needed (missing (root ∷ others) numbers) numbers (root ∷ others) l c

abbrev pub answer_documents : List Document → Limits → Context → Answer
answer_documents [] l c = Refusal 3 0 []
answer_documents (root ∷ others) l c = answer_bundle root others l c

-- the indices of the documents' records
abbrev pub document_places : List ℕ → List ℕ
document_places w = list_of (λ i. i) (length w / 4) w 0 (length w / 4)

-- row 5: the place of the first document whose file number an earlier one has
abbrev pub twice : List ℕ → List ℕ → List ℕ → Option ℕ
twice seen w [] = none
twice seen w (i ∷ is) = let rest = twice (value_at w i ∷ seen) w is in cond (has_text (value_at w i) seen) (some i) rest

abbrev pub answer_twice : Option ℕ → List ℕ → Limits → Context → Answer
answer_twice (some i) w l c = Refusal 5 i []
answer_twice none w l c = answer_documents (documents_of w) l c

-- rows 2 to 4, then 5, then the bundle
abbrev pub answer_shape : Result (Unit {0}) Refused → List ℕ → Limits → Context → Answer
answer_shape (Err found) w l c = Refusal (row_number found.row) found.place []
answer_shape (Ok fine) w l c = answer_twice (twice [] w (document_places w)) w l c

-- the areas' lengths in entries, from those in words; both by area from 1
abbrev pub limits_by : List ℕ → List ℕ → Limits
limits_by [] ns = []
limits_by (k ∷ ks) [] = []
limits_by (k ∷ ks) (n ∷ ns) = entries_in k n ∷ limits_by ks ns

abbrev pub limits_of : List ℕ → Limits
limits_of lengths = limits_by widths lengths

-- the whole call on a standing context
unfoldable pub answer_from : Context → List ℕ → List ℕ → Answer
answer_from c w lengths = answer_shape (shape_of w) w (limits_of lengths) c

-- and on a fresh one, in a mode
unfoldable pub answer : Bool → List ℕ → List ℕ → Answer
unfolding answer_from
answer strict w lengths = answer_from (new_context strict) w lengths

-- the reply: a row (0: delivered) and its place; the areas' totals, by area from 1; the entry point; the number of global dependencies
pub record Reply : Type 0 where
  pub number : ℕ
  pub place : ℕ
  pub totals : List ℕ
  pub entry_point : ℕ
  pub globals : ℕ

unfoldable pub reply_of : Answer → Reply
unfolding tables_of
reply_of (Delivery c) = record {
  number = 0;
  place = 0;
  totals = map (λ (es : Entries). length es) (tables_of c);
  entry_point = c.program.entry_point;
  globals = global_dependencies c.pool.globals 0 c.pool.constants;
}
reply_of (Refusal n p es) = record { number = n; place = p; totals = replicate 13 0; entry_point = 0; globals = 0 }

-- the words of the areas afterwards, of those lengths, by area from 1
unfoldable pub areas_of : List ℕ → Answer → List (List ℕ)
unfolding tables_of error_tables
areas_of lengths (Delivery c) = filled_all lengths (tables_of c)
areas_of lengths (Refusal n p es) = filled_all lengths (error_tables es)
