-- What the work came to is the definition's answer, whatever stood before it: a mark is row 9's or row 11's, a row has its errors in area 11, and of a delivery
-- the counts are the reply and the areas the words. By the entries that fill each area. Assumes nothing.
use Prim.Native.Nat.{ℕ, ◌+◌, ◌-◌, ◌<◌}
use native.Mathlib.Omega.{arith}
use mathlib.Core.Path.{◌≡◌, refl, ap, ◌∙◌, sym}
use mathlib.Core.Option.{Option, none, some}
use mathlib.Core.List.{List, [], ◌∷◌, ◌++◌}
use lib.ListN.{length, get_or, length-append}
use Rattle.words.specs.Areas.{entry_field}
use Rattle.words.specs.Object.{Constant, constant_of}
use Rattle.words.specs.Reply.{delivery}
use Rattle.definition.specs.Uses.{Use, Limits}
use Rattle.definition.specs.Compiler.{Error}
use Rattle.definition.specs.Prior.{Entries, file_numbers}
use Rattle.definition.specs.Book.{has_text, Assembly, Context, book_count}
use Rattle.definition.specs.DependencySolver.{Ending, Worked, files_of, loaded_of}
use Rattle.definition.specs.Program.{bit, constant_entry, flat, filled, entries_from, error_entry, book_entry, book_table, global_dependencies}
use Rattle.definition.specs.Answer.{Answer, Delivery, Refusal, ring_errors, answer_ending, answer_over, answer_worked, reply_of, areas_of}
use Rattle.definition.specs.Within.{All, nil, ◌&◌}
use Rattle.definition.specs.Promise.{areas, lengths_of, saying}
use Rattle.definition_laws.proofs.Cells.{single_length, single_at}
use Rattle.building.specs.RepresentsMachine.{Filled, Marks, unmarked, marked}
use Rattle.building.proofs.Filling.{flat_append, filled_field}
use Rattle.compiler_laws.specs.declared.book.Book as book
use Rattle.compiler_laws.specs.OpenedBooks.{Resting}
use Rattle.compiler_laws.specs.BooksInOrder.{Zero, MarkedFrom, Came, came_delivered, came_faulty, came_ring, Outcome}
use Rattle.compiler_laws.specs.CallEnd.{totals}
use Rattle.compiler_laws.proofs.AnswerWords.{delivered_words, delivered_reply}

-- the first note beyond its area
marked_is : {x : Option ℕ} {a : ℕ} → Marks x a → (a ≡ 0 → ⊥) → x ≡ some a
marked_is unmarked h = absurd (h refl)
marked_is (marked h) g = refl

unmarked_is : {x : Option ℕ} {a : ℕ} → Marks x a → a ≡ 0 → x ≡ none
unmarked_is unmarked z = refl
unmarked_is (marked h) z = absurd (omega arith)

-- an answer that lists errors, all of them in area 11
pub record ListsErrors (row place : ℕ) (e : List ℕ) (count : ℕ) (a : Answer) : Type 0 where
  pub errors : List Error
  pub is : a ≡ Refusal row place errors
  pub area : Filled 4 e (entries_from error_entry 0 errors) count

-- area 12 of a delivery
flat_files : (i : ℕ) (as' : List Assembly) → flat (entries_from book_entry i as') ≡ files_of as'
flat_files i [] = refl
flat_files i (a ∷ as') = ap (λ (l : List ℕ). a.filename ∷ l) (flat_files (i + 1) as')

pub flat_stood : {es : Entries} → All (λ (e : List ℕ). length e ≡ 1) es → flat es ≡ file_numbers es
flat_stood nil = refl
flat_stood (◌&◌ {x = e} {xs = es} h hs) = ap (λ (l : List ℕ). e ++ l) (flat_stood hs) ∙ one e h
  where
    one : (e : List ℕ) → length e ≡ 1 → e ++ file_numbers es ≡ get_or e 0 0 ∷ file_numbers es
    one [] q = absurd (omega arith)
    one (x ∷ []) q = refl
    one (x ∷ (y ∷ ys)) q = absurd (omega arith)

books_named_is : (c : Context) → All (λ (e : List ℕ). length e ≡ 1) c.prior.books → (rest : List ℕ) {o : List ℕ} → Zero rest → o ≡ loaded_of c ++ rest
    → o ≡ filled (length o) (book_table c)
books_named_is c wide rest {o} z q =
    let words : flat (book_table c) ≡ loaded_of c =
    flat_append c.prior.books (entries_from book_entry 0 c.assemblies) ∙ rw (flat_stood wide, flat_files 0 c.assemblies) in
    let long : length o ≡ length (loaded_of c) + length rest = ap (λ (l : List ℕ). length l) q ∙ length-append (loaded_of c) rest in
    let left : length o - length (loaded_of c) ≡ length rest = omega arith in
    q ∙ rw (words, left) (ap (λ (l : List ℕ). loaded_of c ++ l) z)

-- the marks of a delivery
abbrev constant_words : List ℕ → ℕ → Constant → List ℕ
constant_words gs i c = c.kind ∷ c.value ∷ bit (has_text i gs) ∷ []

all_marked : (gs : List ℕ) (cs : List Constant) {k : List ℕ} {count r : ℕ} → Filled 3 k (entries_from (constant_entry gs) 0 cs) count → MarkedFrom k 0 count 0 r
    → r ≡ global_dependencies gs 0 cs
all_marked gs cs {k} {count} F M =
    M.marked gs cs each (omega (arith, F.count, so_many)) ∙ omega arith
  where
    so_many : length (entries_from (constant_entry gs) 0 cs) ≡ length cs
    so_many = single_length (constant_words gs) 0 cs

    each : (j : ℕ) → j < length cs → entry_field 3 (0 + j) 2 k ≡ bit (has_text (0 + j) gs)
    each j h =
        let same : 0 + j ≡ j = omega arith in
        rw same (filled_field j 2 (omega arith) (omega (arith, F.count, so_many)) (omega arith) F
        ∙ ap (λ (x : List ℕ). get_or x 2 0) (single_at (constant_words gs) 0 cs j (constant_of 0 0) h) ∙ rw same)

-- an answer that delivers what is in the areas
pub record Delivers (s : book.Book) (place : ℕ) (c k f m p t l u n b e o : List ℕ) (globals : ℕ) (a : Answer) : Type 0 where
  pub context : Context
  pub is : a ≡ Delivery context
  pub reply : (bundles : ℕ) → saying (delivery (totals s place globals bundles)) ≡ reply_of (Delivery context)
  pub words : areas c k f m p t l u n b e o ≡ areas_of (lengths_of (areas c k f m p t l u n b e o)) (Delivery context)

module _ {κ : Limits} {s : book.Book} {c k f m p t l u n b e o rest : List ℕ} {place : ℕ} where
  listed : {row : ℕ} {us : List Use} {x : Ending} → Came κ s c k f m p t l u n b e o rest row place us x → (row ≡ 0 → ⊥)
      → ListsErrors row place e s.errors (answer_ending x)
  listed (came_delivered h i R w) ne = absurd (ne h)
  listed (came_faulty {file = file} {es = es} h i F) ne = record { errors = es; is = rw (h, i); area = F }
  listed (came_ring {left = left} h i F) ne = record { errors = ring_errors left; is = rw (h, i); area = F }

  module _ (y : s.full ≡ 0) (zr : Zero rest) {globals : ℕ} (M : MarkedFrom k 0 s.constants 0 globals) where
    by_context : (context : Context) (us : List Use) → place ≡ book_count context → Resting κ s c k f m p t l u n b e context us → o ≡ loaded_of context ++ rest
        → Delivers s place c k f m p t l u n b e o globals (Delivery context)
    by_context context us i R w =
        let many : place ≡ length (book_table context) = i ∙ sym (length-append context.prior.books (entries_from book_entry 0 context.assemblies)
        ∙ ap (λ (n : ℕ). length context.prior.books + n) (single_length _ 0 context.assemblies)) in
        let books-named = books_named_is context (R.ready.rest y).prior.books rest zr w in
        let counted : globals ≡ global_dependencies context.pool.globals 0 context.pool.constants =
        all_marked context.pool.globals context.pool.constants (R.ready.rest y).constants M in
        record {
          context = context;
          is = refl;
          reply = delivered_reply R y books-named many counted;
          words = delivered_words R y books-named many counted;
        }

    delivered : {row : ℕ} {us : List Use} {x : Ending} → Came κ s c k f m p t l u n b e o rest row place us x → row ≡ 0
        → Delivers s place c k f m p t l u n b e o globals (answer_ending x)
    delivered (came_delivered {context = context} h i R w) zero_row = by_context context _ i R w
    delivered (came_faulty h i F) zero_row = absurd (omega (arith, h, zero_row))
    delivered (came_ring h i F) zero_row = absurd (omega (arith, h, zero_row))

  module _ {row : ℕ} {w : Worked} {a : Answer} (answers : a ≡ answer_worked κ w) (O : Outcome κ s c k f m p t l u n b e o rest row place w) where
    -- an area is too short, or a name is not public
    pub answer_full : (s.full ≡ 0 → ⊥) → a ≡ answer_over s.full
    answer_full ne = answers ∙ rw (marked_is O.full ne)

    ended : s.full ≡ 0 → a ≡ answer_ending w.ending
    ended y = answers ∙ rw (unmarked_is O.full y)

    -- a book with errors, or a ring
    pub answer_errors : s.full ≡ 0 → (row ≡ 0 → ⊥) → ListsErrors row place e s.errors a
    answer_errors y ne = rw (ended y) (listed (O.came y) ne)

    -- a delivery
    pub answer_delivered : s.full ≡ 0 → row ≡ 0 → Zero rest → {globals : ℕ} → MarkedFrom k 0 s.constants 0 globals
        → Delivers s place c k f m p t l u n b e o globals a
    answer_delivered y h zr M = rw (ended y) (delivered y zr M (O.came y) h)
