-- What the routines of `onto.rt` and `grown.rt` promise: a memory that holds a program made ready for a bundle (2026-01), what is left of it at a refusal, at a
-- trial and at a delivery, and a call from there (2026-08)
-- Private contracts alone cite this file: whoever reads the promises need not believe it
use Rattle.std.specs.Prelude.{◌≡◌, ℕ, ◌+◌, ◌*◌, ◌%◌, ◌^◌, ◌<◌, Bool, true, false, ◌||◌, List, length, take, ◌==◌, ◌≢◌}
use Rattle.std.proofs.Math.Option.{none}
use Rattle.memory.specs.Layout.{part, part_count, Fits}
use Rattle.words.specs.Areas.{constants_area, methods_area, errors_area, books_area, width_of, cleared_from}
use Rattle.words.specs.declared.reply.Totals.{Totals}
use Rattle.words.specs.declared.reply.Reply.{Reply}
use Rattle.words.specs.Reply.{total_of, delivery}
use Rattle.undo.specs.Notes.{plain_marks, noted_marks, restored_marks, noted_methods, restored_methods}
use Rattle.definition.specs.ProgramCheck.{program_fault}
use Rattle.definition.specs.Trial.{Order, counted_fault, is_stale}
use Rattle.definition.specs.Promise.{lent, lent_counted, Answers}
use Rattle.compiler_laws.specs.FileSets.{Below}
use Rattle.compiler_laws.specs.BooksInOrder.{Zero, MarkedFrom}
use Rattle.compiler_laws.specs.CallEnd.{totals, refusal_with, mark_refusal_with, is_trial, differs}
use Rattle.book_compiler.specs.Represents.{slots_part, SlotsFilled}
use Rattle.book_compiler.specs.Leaves.{ClearsSlots}
use Rattle.book_compiler.specs.RepresentsBook.{BookMemory}
use Rattle.book_compiler.specs.BookOrder.{LentPart, ReadsPart, Settles, parts_of}
use Rattle.book_compiler.specs.Promise.{areas_in, words_after}

-- the parts that laying on writes at its beginning
abbrev pub is_noted : ℕ → Bool
is_noted i = i == constants_area || i == methods_area || i == errors_area || i == slots_part

-- before the work: marks and methods noted, no errors, the slots filled with the pool that stands
pub record Ready (t : Totals) (starts before after : List ℕ) : Type 0 where
  pub long : length after ≡ length before
  pub constants : part starts constants_area after ≡ noted_marks t.constants (part starts constants_area before)
  pub methods : part starts methods_area after ≡ noted_methods t.methods (part starts methods_area before)
  pub errors : Zero (part starts errors_area after)
  pub slots : SlotsFilled t.constants starts after
  pub others : (i : ℕ) → i < part_count → is_noted i ≡ false → part starts i after ≡ part starts i before

-- `make_ready`
pub record MakesReady (t : Totals) (starts before after : List ℕ) : Type 0 where
  pub on : Fits starts (length before) → Ready t starts before after

-- `give_back`: what stood, with what was noted of it, and zeros behind it; no slots. Area 11 stays for the errors of rows 7 and 8
pub record GivenBack (t : Totals) (starts before after : List ℕ) : Type 0 where
  pub long : length after ≡ length before
  pub constants : part starts constants_area after ≡ restored_marks t.constants (cleared_from (t.constants * 3) (part starts constants_area before))
  pub methods : part starts methods_area after ≡ restored_methods t.methods (cleared_from (t.methods * 3) (part starts methods_area before))
  pub errors : part starts errors_area after ≡ part starts errors_area before
  pub slots : Zero (part starts slots_part after)
  pub others : (i : ℕ) → 0 < i → i < slots_part → is_noted i ≡ false → part starts i after ≡ cleared_from (total_of t i * width_of i) (part starts i before)

pub record GivesBack (t : Totals) (starts before after : List ℕ) : Type 0 where
  pub on : Fits starts (length before) → GivenBack t starts before after

-- `undo`: given back, and no errors
pub record Undoes (t : Totals) (starts before after : List ℕ) : Type 0 where
  pub given : List ℕ
  pub back : GivesBack t starts before given
  pub bare : LentPart errors_area (λ e e'. e' ≡ cleared_from 0 e) starts given after

-- the count of bundles after one more, as a word
abbrev pub next_count : ℕ → ℕ
next_count n = (n + 1) % 2 ^ 64

-- a delivery of the work, by the order: a trial, and a commit whose trial was answered other totals, are undone; else the notes and the slots go
pub record EndsBy (o : Order) (t : Totals) (m : BookMemory) (place globals : ℕ) (after : List ℕ) (r : Reply) : Type 0 where
  pub differ : differs o (totals m.book place globals t.bundles) ≡ true → Undoes t m.starts m.words after × (r ≡ refusal_with t 13 0)
  pub tried : differs o (totals m.book place globals t.bundles) ≡ false → is_trial o ≡ true
      → Undoes t m.starts m.words after × (r ≡ delivery (totals m.book place globals t.bundles))
  pub kept : differs o (totals m.book place globals t.bundles) ≡ false → is_trial o ≡ false
      → Settles m.book.constants m.book.standing_methods m.starts m.words after
      × (r ≡ delivery (totals m.book place globals (next_count t.bundles)))

-- `finish_onto`: after a full area or a row what stood is given back, with the totals lent; area 11 is cleared after a full area. Else as the order has it
pub record FinishesOnto (o : Order) (t : Totals) (m : BookMemory) (row place : ℕ) (after : List ℕ) (r : Reply) : Type 0 where
  pub full : (m.book.full ≢ 0) → Undoes t m.starts m.words after × (r ≡ mark_refusal_with t m.book.full)
  pub refused : m.book.full ≡ 0 → (row ≢ 0) → GivesBack t m.starts m.words after × (r ≡ refusal_with t row place)
  pub whole : m.book.full ≡ 0 → row ≡ 0
      → (globals : ℕ) × (ReadsPart constants_area (λ k. MarkedFrom (plain_marks k) 0 m.book.constants 0 globals) m.starts m.words
      × EndsBy o t m place globals after r)

-- the file numbers of the books that stand are below a number, where the program passes the check
pub record BooksBelow (most : ℕ) (t : Totals) (starts words : List ℕ) : Type 0 where
  pub below : Fits starts (length words) → program_fault (lent (parts_of starts words) t) ≡ none → Below most (take t.books (part starts books_area words))

-- `refuse_stale`: no errors, no slots
pub record RefusesStale (t : Totals) (starts before after : List ℕ) (r : Reply) : Type 0 where
  pub between : List ℕ
  pub errors : LentPart errors_area (λ e e'. e' ≡ cleared_from 0 e) starts before between
  pub slots : ClearsSlots starts between after
  pub says : r ≡ refusal_with t 12 t.bundles

-- `run_onto`: from a memory whose areas are a program that passes the check, where the order is not stale, what is promised of its parts; and no slots
pub record RunsOnto (o : Order) (strict : Bool) (tree : List ℕ) (t : Totals) (starts before after : List ℕ) (r : Reply) : Type 0 where
  pub answers : Fits starts (length before) → counted_fault (lent_counted (parts_of starts before) t) ≡ none → is_stale o t.bundles ≡ false
      → Answers o strict tree t (parts_of starts before) (parts_of starts after) r
  pub left_over : Fits starts (length before) → counted_fault (lent_counted (parts_of starts before) t) ≡ none → Zero (part starts slots_part after)

-- `answer_onto`, of any order: demands 1 and 2 of the areas in the memory, and every word; demand 3 follows from them (`lays_on`, `commits` of
-- `definition_laws`)
pub record AnswersInto (o : Order) (strict : Bool) (tree : List ℕ) (t : Totals) (lengths before after : List ℕ) (r : Reply) : Type 0 where
  pub answers : Answers o strict tree t (areas_in lengths before) (areas_in lengths after) r
  pub words : after ≡ words_after o strict tree t lengths before
