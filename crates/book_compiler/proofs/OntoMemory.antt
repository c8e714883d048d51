-- Calls on a program over one memory: the set of the books that stand has room for their file numbers, and what is promised of the parts is promised of the
-- areas in the memory; a program that fails the check is left as it is, and a stale commit leaves no errors. By the laws of the layout. Assumes nothing.
use Rattle.std.specs.Prelude.{Ok, Err}
use Rattle.std.proofs.Common.{◌≡◌, ℕ, zero, suc, ◌+◌, ◌*◌, ◌<◌, Bool, true, false, ◌&&◌, T, ltb, leb, List, [], ◌∷◌, ◌++◌, length, get_or, take, replicate, sym}
use Rattle.std.proofs.Common.{refl, ap, ◌∙◌, subst, arith, leb-true}
use mathlib.Core.Option.{Option, none, some}
use Rattle.memory.specs.Layout.{part, starts_of, Fits}
use Rattle.memory.proofs.Starts.{starts_fit}
use Rattle.words.specs.Areas.{errors_area, books_area}
use Rattle.words.specs.Record.{most_text}
use Rattle.words.specs.Row.{row_number}
use Rattle.words.specs.declared.row.Refused.{Refused}
use Rattle.words.specs.declared.row.Row.TheVariants.{BadShape}
use Rattle.words.specs.declared.reply.Totals.{Totals}
use Rattle.words.specs.declared.reply.Reply as struct
use Rattle.program_check.specs.Answer.{answer_of}
use Rattle.program_check.specs.OneMemory as check
use Rattle.definition.specs.Program.{flat}
use Rattle.definition.specs.Within.{Areas}
use Rattle.definition.specs.ProgramCheck.{is_text, program_fault}
use Rattle.definition.specs.Onto.{Unfit, reply_onto, areas_onto}
use Rattle.definition.specs.Trial.{Order, Lay, Trial, counted_fault, is_stale, ordered, reply_ordered, areas_ordered}
use Rattle.definition.specs.Promise.{lent, counted, lent_counted, Answers, commit_of}
use Rattle.definition_laws.proofs.PassingAreas.{check_passes}
use Rattle.definition_laws.proofs.Orders.{ordered_unfit}
use Rattle.definition_laws.proofs.Delivers.{lays_on, commits}
use Rattle.compiler_laws.specs.FileSets.{set_size, narrow_size, SetIs, Below}
use Rattle.compiler_laws.specs.SolverSteps.{NarrowNumbers, AddsNumbers}
use Rattle.compiler_laws.specs.BooksInOrder.{Zero}
use Rattle.compiler_laws.specs.CallEnd.{refusal_with}
use Rattle.compiler_laws.proofs.CallEnd.{cleared_zero}
use Rattle.compiler_laws.proofs.OntoEnd.{answer_stale}
use Rattle.book_compiler.specs.Represents.{slots_part}
use Rattle.book_compiler.specs.BookOrder.{ReadsPart, parts_of}
use Rattle.book_compiler.specs.Onto.{BooksBelow, RefusesStale, RunsOnto, AnswersInto}
use Rattle.book_compiler.specs.Promise.{areas_in, left_over, answer_in, slots_after, LaysOnInto, TriesInto, CommitsInto}
use Rattle.book_compiler.proofs.MemoryAreas.{memory_is, left_over_is, areas_are}
use Rattle.book_compiler.proofs.LentParts.{part_lengths, lent_does, lent_other, lent_length, lent_fits}
use Rattle.book_compiler.proofs.PartsInTurn.{slots_lent, slots_zero}
use Rattle.book_compiler.proofs.OntoEnding.{errors_alone}
use Rattle.book_compiler.proofs.StandingSets.{zeros_empty}

-- `add_standing`, from an empty set with room
pub books_held : {t : Totals} {a w set after : List ℕ} → Zero set → BooksBelow (length set * 64) t a w
    → ReadsPart books_area (λ o. AddsNumbers (take t.books o) set after) a w → Fits a (length w) → program_fault (lent (parts_of a w) t) ≡ none
    → SetIs after (take t.books (part a books_area w))
books_held {set = set} z B R f passed = (R.on f).adds (zeros_empty set z) (B.below f passed)

-- `narrow_standing`
pub books_narrow : {t : Totals} {a w : List ℕ} {r : Bool} → ReadsPart books_area (λ o. NarrowNumbers (take t.books o) r) a w → r ≡ true
    → BooksBelow narrow_size t a w
books_narrow R h = record { below = λ f passed. (R.on f).below h }

-- numbers that are below one by one
below_each : (size n : ℕ) (l : List ℕ) → ((i : ℕ) → i < n → get_or l i 0 < size) → Below size (take n l)
below_each size zero l h = tt
below_each size (suc n) [] h = tt
below_each size (suc n) (x ∷ l) h = (h 0 (omega arith), below_each size n l (λ i k. h (suc i) (omega arith)))

-- a text fits a set
text_small : (n : ℕ) → T (is_text n) → n < set_size
text_small n t = go (ltb 0 n) (leb n most_text) refl t
  where
    go : (a b : Bool) → leb n most_text ≡ b → T (a && b) → n < set_size
    go true true e t = omega (arith, leb-true n most_text e)
    go true false e t = absurd t
    go false b e t = absurd t

-- the books of a program that passes have texts as file numbers
pub books_below : (t : Totals) (a w : List ℕ) → BooksBelow set_size t a w
books_below t a w = record {
  below = λ f passed. below_each set_size t.books (part a books_area w)
      (λ i h. subst (λ (j : ℕ). get_or (part a books_area w) j 0 < set_size) (omega arith)
      (text_small (get_or (part a books_area w) (i * 1 + 0) 0) ((check_passes (lent (parts_of a w) t) passed).books.known i h)));
}

-- a program that passes the check
no_fault : (o : Option ℕ) → Ok tt ≡ answer_of o → o ≡ none
unfolding answer_of
no_fault none q = refl
no_fault (some area) q = absurd (let y : ◌≡◌ {A = ℕ} 0 1 = cc in omega arith)

module _ {o : Order} {strict : Bool} {tree : List ℕ} {t : Totals} (lengths w : List ℕ) {w' a : List ℕ} {r : struct.Reply} (twelve : length lengths ≡ 12)
    (a-is : a ≡ starts_of lengths (length w)) (long : length w' ≡ length w)
    (fine : Ok tt ≡ answer_of (counted_fault (lent_counted (check.areas_in lengths w) t))) where
  -- what is promised of the parts, and no slots
  into : (let starts = starts_of lengths (length w) in Fits starts (length w) → counted_fault (lent_counted (parts_of starts w) t) ≡ none
      → Answers o strict tree t (parts_of starts w) (parts_of starts w') r × Zero (part starts slots_part w')) → AnswersInto o strict tree t lengths w w' r
  unfolding check.areas_in ordered
  into done =
      let starts = starts_of lengths (length w) in
      let f : Fits starts (length w) = starts_fit lengths (length w) twelve in
      let passed : counted_fault (lent_counted (areas_in lengths w) t) ≡ none = no_fault (counted_fault (lent_counted (areas_in lengths w) t)) fine in
      let before-are : areas_in lengths w ≡ parts_of starts w = areas_are lengths w twelve in
      let passed' : counted_fault (lent_counted (parts_of starts w) t) ≡ none = rw (← before-are) passed in
      let D = done f passed' in
      let after-are : areas_in lengths w' ≡ parts_of starts w' = areas_are lengths w' twelve ∙ ap (λ (n : ℕ). parts_of (starts_of lengths n) w') long in
      let over-is : left_over lengths w' ≡ part starts 13 w' = left_over_is lengths w' twelve ∙ ap (λ (n : ℕ). part (starts_of lengths n) 13 w') long in
      let over-long : length (part starts 13 w') ≡ length (left_over lengths w) =
      part_lengths w w' f long 13 (omega arith) ∙ ap (λ (l : List ℕ). length l) (sym (left_over_is lengths w twelve)) in
      let A : Answers o strict tree t (areas_in lengths w) (areas_in lengths w') r = rw (before-are, after-are) D.0 in
      let slots : left_over lengths w' ≡ slots_after (answer_in o strict tree t lengths w) (left_over lengths w) =
      rw passed (over-is ∙ D.1 ∙ ap (λ (n : ℕ). replicate n 0) over-long) in
      record {
        answers = A;
        words = memory_is lengths w' twelve ∙ ap (λ (l : List ℕ). flat (areas_in lengths w') ++ l) slots
            ∙ ap (λ (m : Areas). flat m ++ slots_after (answer_in o strict tree t lengths w) (left_over lengths w)) A.words;
      }

  -- the work
  pub runs_into : {b : Bool} → b ≡ is_stale o t.bundles → b ≡ false → RunsOnto o strict tree t a w w' r → AnswersInto o strict tree t lengths w w' r
  runs_into told is R =
      let R' : RunsOnto o strict tree t (starts_of lengths (length w)) w w' r = subst (λ (y : List ℕ). RunsOnto o strict tree t y w w' r) a-is R in
      into (λ f passed. (R'.answers f passed (sym told ∙ is), R'.left_over f passed))

  -- row 12
  pub stale_into : {b : Bool} → b ≡ is_stale o t.bundles → b ≡ true → RefusesStale t a w w' r → AnswersInto o strict tree t lengths w w' r
  stale_into told is S = into (λ f passed.
      let starts = starts_of lengths (length w) in
      let S' : RefusesStale t starts w w' r = subst (λ (y : List ℕ). RefusesStale t y w w' r) a-is S in
      let f₁ : Fits starts (length S'.between) = lent_fits (omega arith) f S'.errors in
      let L = slots_lent f₁ S'.slots in
      let stays : (i : ℕ) → i < 13 → part starts i w' ≡ part starts i S'.between =
      λ i h. lent_other (omega arith) f₁ L i (omega arith) (λ e. omega (arith, e, h)) in
      let same : parts_of starts w' ≡ parts_of starts S'.between =
      rw (
        stays 1 (omega arith),
        stays 2 (omega arith),
        stays 3 (omega arith),
        stays 4 (omega arith),
        stays 5 (omega arith),
        stays 6 (omega arith),
        stays 7 (omega arith),
        stays 8 (omega arith),
        stays 9 (omega arith),
        stays 10 (omega arith),
        stays 11 (omega arith),
        stays 12 (omega arith),
      ) refl in
      let errors : part starts errors_area w' ≡ part starts errors_area S'.between = stays errors_area (omega arith) in (
        answer_stale o strict tree (parts_of starts w) t passed (sym told ∙ is) S'.says
            (cleared_zero (part starts errors_area w) (lent_does (omega arith) f S'.errors))
            (part_lengths w S'.between f (lent_length (omega arith) f S'.errors) errors_area (omega arith))
            (same ∙ errors_alone (parts_of starts w) f S'.errors refl),
        slots_zero f₁ S'.slots,
      ))

fits_not : (found : Refused) → Err found ≡ answer_of none → ⊥
unfolding answer_of
fits_not found q = absurd (let y : ◌≡◌ {A = ℕ} 0 1 = cc in omega arith)

told : (found : Refused) (area : ℕ) → Err found ≡ answer_of (some area) → (row_number found.row ≡ 3) × (found.place ≡ 1048576 + area)
unfolding answer_of
told found area q =
    let same : found ≡ record { row = BadShape; place = 1048576 + area } = cc in
    (ap (λ (f : Refused). row_number f.row) same, ap (λ (f : Refused). f.place) same)

-- a program that fails the check is left, and its totals are answered
pub unfit_into : {o : Order} {strict : Bool} {tree : List ℕ} {t : Totals} (lengths w : List ℕ) {r : struct.Reply} {found : Refused} {number : ℕ}
    → length lengths ≡ 12
    → Err found ≡ answer_of (counted_fault (lent_counted (check.areas_in lengths w) t)) → number ≡ row_number found.row → r ≡ refusal_with t number found.place
    → AnswersInto o strict tree t lengths w w r
unfolding check.areas_in reply_ordered reply_onto areas_ordered areas_onto
unfit_into {o} {strict} {tree} {t} lengths w {r} {found} {number} twelve refused row says = go (counted_fault (lent_counted (areas_in lengths w) t)) refl
  where
    go : (f : Option ℕ) → counted_fault (lent_counted (areas_in lengths w) t) ≡ f → AnswersInto o strict tree t lengths w w r
    go none q = absurd (fits_not found (refused ∙ ap answer_of q))
    go (some area) q =
        let p = lent_counted (areas_in lengths w) t in
        let (number_is, place_is) = told found area (refused ∙ ap answer_of q) in
        let is : answer_in o strict tree t lengths w ≡ Unfit area = ordered_unfit o strict tree p area q in
        let reply : counted r ≡ reply_ordered o p (answer_in o strict tree t lengths w) = rw (is, says, row, number_is, place_is) refl in
        let words : areas_in lengths w ≡ areas_ordered o p (answer_in o strict tree t lengths w) = rw is refl in
        record { answers = record { reply = reply; words = words }; words = rw is (memory_is lengths w twelve) }

-- demand 3 with it
thirteen : (lengths w : List ℕ) → length lengths ≡ 12 → length (areas_in lengths w) ≡ 13
thirteen lengths w twelve = ap (λ (m : Areas). length m) (areas_are lengths w twelve)

pub lays_into : {strict : Bool} {tree : List ℕ} {t : Totals} (lengths w : List ℕ) {w' : List ℕ} {r : struct.Reply} → length lengths ≡ 12
    → AnswersInto Lay strict tree t lengths w w' r → LaysOnInto strict tree t lengths w w' r
lays_into {strict} {tree} {t} lengths w {w'} {r} twelve A =
    record { lays_on = lays_on strict tree t (areas_in lengths w) (areas_in lengths w') r (thirteen lengths w twelve) A.answers; words = A.words }

pub tries_into : {strict : Bool} {tree : List ℕ} {t : Totals} {lengths w w' : List ℕ} {r : struct.Reply} → AnswersInto Trial strict tree t lengths w w' r
    → TriesInto strict tree t lengths w w' r
tries_into A = record { tries = A.answers; words = A.words }

pub commits_into : {strict : Bool} {tree : List ℕ} {t tried : Totals} (lengths w : List ℕ) {w' : List ℕ} {r : struct.Reply} → length lengths ≡ 12
    → AnswersInto (commit_of tried) strict tree t lengths w w' r → CommitsInto tried strict tree t lengths w w' r
commits_into {strict} {tree} {t} {tried} lengths w {w'} {r} twelve A =
    record { commits = commits strict tree t (areas_in lengths w) (areas_in lengths w') r (thirteen lengths w twelve) tried A.answers; words = A.words }
