-- The ways to the end of laying on, a trial and a commit over one memory: refused before the work, an area too short, a book with errors or a ring, other
-- totals than a trial's, a trial, and a delivery that is kept. What stood is given back at each refusal and at a trial, word for word; where a delivery is
-- kept what is noted goes, and the areas are what they said. By the lemmas over areas. Assumes nothing.
use Rattle.std.proofs.Common.{◌≡◌, ℕ, zero, suc, ◌+◌, ◌*◌, ◌<◌, Bool, true, false, cond, ◌&&◌, ltb, leb, List, [], length, get_or, take, drop, set, sym, refl}
use Rattle.std.proofs.Common.{ap, ◌∙◌, subst, zero-mul, arith, eqb→eq, length-take, get_or-take, set-set, lt-ltb, leb-true}
use native.Mathlib.Decide.{dec_lt, ℕ_discrete}
use mathlib.Core.Option.{none, some}
use Rattle.memory.specs.Layout.{part, part_count, Fits}
use Rattle.words.specs.Ast.{Document}
use Rattle.words.specs.Areas.{constants_area, methods_area, scope_names_area, breaks_area, errors_area, books_area, width_of}
use Rattle.words.specs.declared.reply.Totals.{Totals}
use Rattle.words.specs.declared.reply.Reply.{Reply}
use Rattle.undo.specs.Notes.{plain_marks}
use Rattle.words.specs.Reply.{total_of, delivery}
use Rattle.undo.specs.Stood.{Stood}
use Rattle.undo.proofs.Restored.{restored_marks_lem, restored_methods_lem, restored_other}
use Rattle.definition.specs.Book.{Context}
use Rattle.definition.specs.DependencySolver.{Worked, loaded_of, needed, compile_needed}
use Rattle.definition.specs.Answer.{limits_of}
use Rattle.definition.specs.Within.{Areas, Program, total, lengths_of}
use Rattle.definition.specs.ProgramCheck.{program_fault}
use Rattle.definition.specs.Onto.{context_of}
use Rattle.definition.specs.Trial.{Order, count_fault, counted_fault}
use Rattle.definition.specs.Promise.{lent, lent_counted}
use Rattle.definition_laws.proofs.Orders.{counted_passes}
use Rattle.definition_laws.proofs.PassingAreas.{Passing, ProgramPasses, check_passes, passing_at}
use Rattle.compiler_laws.specs.declared.book.Book as struct
use Rattle.compiler_laws.specs.FileSets.{SetIs}
use Rattle.compiler_laws.specs.BooksInOrder.{Zero, Accepted, ChecksRows, MarkedFrom, begun_onto}
use Rattle.compiler_laws.specs.BooksInOrder as slices
use Rattle.compiler_laws.specs.CallEnd.{totals, refusal_with, mark_refusal_with, is_trial, differs}
use Rattle.compiler_laws.proofs.CallBeginning.{zero_drop}
use Rattle.compiler_laws.proofs.CallEnd.{cleared_zero}
use Rattle.compiler_laws.proofs.OntoEnd.{work_onto, answer_row, answer_over_lem, answer_listed, answer_kept, answer_tried, answer_differs}
use Rattle.compiler_laws.proofs.StandingProgram.{standing_uses, words_in, lent_inside, lent_behind, marks_small}
use Rattle.book_compiler.specs.Represents.{slots_part}
use Rattle.book_compiler.specs.RepresentsBook.{BookMemory, book_laid, said_by, is_book_area}
use Rattle.book_compiler.specs.BookOrder.{LentPart, ReadsPart, needed_work, CompilesNeeded}
use Rattle.book_compiler.specs.BookOrder.{Settles, parts_of}
use Rattle.book_compiler.specs.Onto.{is_noted, Ready, MakesReady, GivenBack, GivesBack, Undoes, next_count, EndsBy, FinishesOnto, RunsOnto}
use Rattle.book_compiler.proofs.LentParts.{lent_does, lent_other, lent_length, part_lengths}
use Rattle.book_compiler.proofs.SaidAreas.{came_parts, constants_end, settled_areas}
use Rattle.book_compiler.proofs.OntoParts.{not_constants, not_methods, not_errors}
use Rattle.book_compiler.proofs.OntoBeginning.{stood_in, stood_none, stood_in_lem, methods_fit, onto_begins, onto_held, onto_rest}

-- an area by its number
area_at : (a w : List ℕ) (i : ℕ) → 0 < i → i < 13 → get_or (parts_of a w) i [] ≡ part a i w
area_at a w zero lo hi = absurd (omega arith)
area_at a w (suc zero) lo hi = refl
area_at a w (suc (suc zero)) lo hi = refl
area_at a w (suc (suc (suc zero))) lo hi = refl
area_at a w (suc (suc (suc (suc zero)))) lo hi = refl
area_at a w (suc (suc (suc (suc (suc zero))))) lo hi = refl
area_at a w (suc (suc (suc (suc (suc (suc zero)))))) lo hi = refl
area_at a w (suc (suc (suc (suc (suc (suc (suc zero))))))) lo hi = refl
area_at a w (suc (suc (suc (suc (suc (suc (suc (suc zero)))))))) lo hi = refl
area_at a w (suc (suc (suc (suc (suc (suc (suc (suc (suc zero))))))))) lo hi = refl
area_at a w (suc (suc (suc (suc (suc (suc (suc (suc (suc (suc zero)))))))))) lo hi = refl
area_at a w (suc (suc (suc (suc (suc (suc (suc (suc (suc (suc (suc zero))))))))))) lo hi = refl
area_at a w (suc (suc (suc (suc (suc (suc (suc (suc (suc (suc (suc (suc zero)))))))))))) lo hi = refl
area_at a w (suc (suc (suc (suc (suc (suc (suc (suc (suc (suc (suc (suc (suc n))))))))))))) lo hi = absurd (omega arith)

-- the definition's work notes the constants that stand, and then the books
work_is : (c : Context) (root : Document) (others : List Document) → needed_work root others c (standing_uses c) ≡ work_onto c root others
unfolding compile_needed
work_is c root others = refl

-- areas 1 to 11
book_area : (i : ℕ) → 0 < i → i < books_area → is_book_area i ≡ true
book_area i lo hi = rw (lt-ltb 0 i lo, lt-ltb i books_area hi) refl

-- the words below a place are as they were
named_stood : (k : ℕ) (l w : List ℕ) → ((j : ℕ) → j < k → get_or w j 0 ≡ get_or l j 0) → Stood books_area (take k l) w
named_stood k l w same = record {
  kept = λ j h.
      let low : j < k = let n = length-take k l in omega arith in
      same j low ∙ sym (get_or-take k l j 0 low);
}

module _ {t : Totals} {a w w₁ : List ℕ} (f : Fits a (length w)) (passed : program_fault (lent (parts_of a w) t) ≡ none) (R : Ready t a w w₁) where
  abbrev p : Program
  p = lent (parts_of a w) t

  passes : ProgramPasses p
  passes = check_passes p passed

  as_long : (w' : List ℕ) → length w' ≡ length w → (i : ℕ) → i < 14 → length (part a i w') ≡ length (part a i w)
  as_long w' q i h = part_lengths w w' f q i h

  -- a refusal: what stood is given back
  module _ {w₂ w₃ : List ℕ} (long₂ : length w₂ ≡ length w₁) (kept : (i : ℕ) → i < part_count → is_book_area i ≡ true → Stood i (stood_in t a w₁ i)
      (part a i w₂))
      (named : (k : ℕ) → k < t.books → get_or (part a books_area w₂) k 0 ≡ get_or (part a books_area w₁) k 0) (G : GivenBack t a w₂ w₃) where
    long : length w₂ ≡ length w
    long = long₂ ∙ R.long

    books_front : Stood books_area (take (total_of t books_area * width_of books_area) (part a books_area w)) (part a books_area w₂)
    books_front =
        let one : t.books * 1 ≡ t.books = omega arith in
        rw (one, ← R.others books_area (omega arith) refl) (named_stood t.books (part a books_area w₁) (part a books_area w₂) named)

    -- nothing stands in areas 9 and 10
    empty : (i : ℕ) → 8 < i → i < errors_area → total_of t i ≡ 0
    empty i lo hi = go (ℕ_discrete i scope_names_area)
      where
        go : Dec (i ≡ scope_names_area) → total_of t i ≡ 0
        go (yes e) = rw e (eqb→eq (total p scope_names_area) 0 passes.scope_names.whole)
        go (no n) = let e : i ≡ breaks_area = omega (arith, n) in rw e (eqb→eq (total p breaks_area) 0 passes.breaks.whole)

    -- the entries that stood are at the front
    front : (i : ℕ) → 0 < i → i < 13 → is_noted i ≡ false → Stood i (take (total_of t i * width_of i) (part a i w)) (part a i w₂)
    front i lo hi q = go (dec_lt i scope_names_area) (ℕ_discrete i books_area)
      where
        go : Dec (i < scope_names_area) → Dec (i ≡ books_area) → Stood i (take (total_of t i * width_of i) (part a i w)) (part a i w₂)
        go (yes h) d =
            let own = book_area i lo (omega arith) in
            rw (own, lt-ltb i scope_names_area h, R.others i (omega arith) q) at (kept i (omega arith) own)
        go (no h) (yes e) = subst (λ (n : ℕ). Stood n (take (total_of t n * width_of n) (part a n w)) (part a n w₂)) (sym e) books_front
        go (no h) (no n) = rw (empty i (omega arith) (omega (arith, n, not_errors i q)), zero-mul) (stood_none i (part a i w₂))

    same : (i : ℕ) → 0 < i → i < 13 → is_noted i ≡ false → part a i w₃ ≡ part a i w
    same i lo hi q =
        let pass : Passing p i = passing_at passes i lo hi (not_errors i q) in
        let here : words_in p i ≡ part a i w = area_at a w i lo hi in
        G.others i lo hi q
        ∙ restored_other i (total_of t i * width_of i) (part a i w) (part a i w₂) (not_constants i q) (not_methods i q) (front i lo hi q)
        (as_long w₂ long i (omega arith)) (rw here at (lent_inside pass)) (λ j h. rw here at (lent_behind pass j h))

    constants_same : part a constants_area w₃ ≡ part a constants_area w
    constants_same =
        G.constants
        ∙ restored_marks_lem t.constants (part a constants_area w) (part a constants_area w₂) (rw R.constants at (kept constants_area (omega arith) refl))
        (as_long w₂ long constants_area (omega arith)) (lent_inside passes.constants) (marks_small passes) (lent_behind passes.constants)

    methods_same : part a methods_area w₃ ≡ part a methods_area w
    methods_same =
        G.methods
        ∙ restored_methods_lem t.methods (part a methods_area w) (part a methods_area w₂) (rw R.methods at (kept methods_area (omega arith) refl))
        (as_long w₂ long methods_area (omega arith)) (lent_inside passes.methods) (methods_fit passes) (lent_behind passes.methods)

    pub given_back : parts_of a w₃ ≡ set (parts_of a w) errors_area (part a errors_area w₃)
    given_back =
        rw (
          same 1 (omega arith) (omega arith) refl,
          constants_same,
          same 3 (omega arith) (omega arith) refl,
          same 4 (omega arith) (omega arith) refl,
          same 5 (omega arith) (omega arith) refl,
          methods_same,
          same 7 (omega arith) (omega arith) refl,
          same 8 (omega arith) (omega arith) refl,
          same 9 (omega arith) (omega arith) refl,
          same 10 (omega arith) (omega arith) refl,
          same 12 (omega arith) (omega arith) refl,
        ) refl

-- the areas are as long as they were
same_lengths : (a w w' : List ℕ) → Fits a (length w) → length w' ≡ length w → lengths_of (parts_of a w) ≡ lengths_of (parts_of a w')
same_lengths a w w' f q =
    let at = part_lengths w w' f q in
    rw (
      at 1 (omega arith),
      at 2 (omega arith),
      at 3 (omega arith),
      at 4 (omega arith),
      at 5 (omega arith),
      at 6 (omega arith),
      at 7 (omega arith),
      at 8 (omega arith),
      at 9 (omega arith),
      at 10 (omega arith),
      at 11 (omega arith),
      at 12 (omega arith),
    ) refl

-- area 11 alone was cleared
pub errors_alone : {R : List ℕ → List ℕ → Type 0} {a w w' : List ℕ} (m : Areas) → Fits a (length w) → LentPart errors_area R a w w'
    → parts_of a w ≡ set m errors_area (part a errors_area w) → parts_of a w' ≡ set m errors_area (part a errors_area w')
errors_alone {R} {a} {w} {w'} m f L q =
    only ∙ ap (λ (x : Areas). set x errors_area (part a errors_area w')) q ∙ set-set m errors_area (part a errors_area w) (part a errors_area w')
  where
    only : parts_of a w' ≡ set (parts_of a w) errors_area (part a errors_area w')
    only =
        let at = lent_other {i = errors_area} (omega arith) f L in
        rw (
          at 1 (omega arith) (λ e. omega arith),
          at 2 (omega arith) (λ e. omega arith),
          at 3 (omega arith) (λ e. omega arith),
          at 4 (omega arith) (λ e. omega arith),
          at 5 (omega arith) (λ e. omega arith),
          at 6 (omega arith) (λ e. omega arith),
          at 7 (omega arith) (λ e. omega arith),
          at 8 (omega arith) (λ e. omega arith),
          at 9 (omega arith) (λ e. omega arith),
          at 10 (omega arith) (λ e. omega arith),
          at 12 (omega arith) (λ e. omega arith),
        ) refl

untrue : false ≡ true → ⊥
untrue q = let z : ◌≡◌ {A = ℕ} 0 1 = cc in omega arith

-- the ways of `finish_onto`
module _ {o : Order} {t : Totals} {m : BookMemory} {row place : ℕ} {after : List ℕ} {r : Reply} where
  pub finish_onto_full : (m.book.full ≡ 0 → ⊥) → Undoes t m.starts m.words after → r ≡ mark_refusal_with t m.book.full
      → FinishesOnto o t m row place after r
  finish_onto_full ne U says = record { full = λ _. (U, says); refused = λ y _. absurd (ne y); whole = λ y _. absurd (ne y) }

  pub finish_onto_row : m.book.full ≡ 0 → (row ≡ 0 → ⊥) → GivesBack t m.starts m.words after → r ≡ refusal_with t row place
      → FinishesOnto o t m row place after r
  finish_onto_row y ne G says = record { full = λ h. absurd (h y); refused = λ _ _. (G, says); whole = λ _ h. absurd (ne h) }

  module _ {globals : ℕ} (y : m.book.full ≡ 0) (h : row ≡ 0)
      (K : ReadsPart constants_area (λ k. MarkedFrom (plain_marks k) 0 m.book.constants 0 globals) m.starts m.words) where
    whole : EndsBy o t m place globals after r → FinishesOnto o t m row place after r
    whole E = record { full = λ g. absurd (g y); refused = λ _ g. absurd (g h); whole = λ _ _. (globals, (K, E)) }

    pub finish_onto_differs : {b : Bool} → b ≡ differs o (totals m.book place globals t.bundles) → b ≡ true
        → Undoes t m.starts m.words after → r ≡ refusal_with t 13 0 → FinishesOnto o t m row place after r
    finish_onto_differs told is U says = whole (record {
      differ = λ _. (U, says);
      tried = λ q _. absurd (untrue (sym q ∙ sym told ∙ is));
      kept = λ q _. absurd (untrue (sym q ∙ sym told ∙ is));
    })

    pub finish_onto_tried : {b x : Bool} → b ≡ differs o (totals m.book place globals t.bundles) → b ≡ false → x ≡ is_trial o → x ≡ true
        → Undoes t m.starts m.words after → r ≡ delivery (totals m.book place globals t.bundles) → FinishesOnto o t m row place after r
    finish_onto_tried told is told' is' U says = whole (record {
      differ = λ q. absurd (untrue (sym is ∙ told ∙ q));
      tried = λ _ _. (U, says);
      kept = λ _ q. absurd (untrue (sym q ∙ sym told' ∙ is'));
    })

    pub finish_onto_kept : {b x : Bool} → b ≡ differs o (totals m.book place globals t.bundles) → b ≡ false → x ≡ is_trial o → x ≡ false
        → Settles m.book.constants m.book.standing_methods m.starts m.words after
        → r ≡ delivery (totals m.book place globals (next_count t.bundles)) → FinishesOnto o t m row place after r
    finish_onto_kept told is told' is' S says = whole (record {
      differ = λ q. absurd (untrue (sym is ∙ told ∙ q));
      tried = λ _ q. absurd (untrue (sym is' ∙ told' ∙ q));
      kept = λ _ _. (S, says);
    })

-- a count that passes the check has a next one
next_count_lem : (n : ℕ) → count_fault n ≡ none → next_count n ≡ n + 1
next_count_lem n = go (ltb 0 n) (leb n 4294967294) refl
  where
    go : (a b : Bool) → leb n 4294967294 ≡ b → cond (a && b) none (some books_area) ≡ none → next_count n ≡ n + 1
    go true true e q = let h = leb-true n 4294967294 e in omega arith
    go true false e q = absurd (let z : ◌≡◌ {A = ℕ} 0 1 = cc in omega arith)
    go false b e q = absurd (let z : ◌≡◌ {A = ℕ} 0 1 = cc in omega arith)

areas_pass : (t : Totals) (m : Areas) → counted_fault (lent_counted m t) ≡ none → program_fault (lent m t) ≡ none
areas_pass t m passed = (counted_passes (lent_counted m t) passed).0

-- the ways of `run_onto`
module _ {strict : Bool} {tree : List ℕ} {t : Totals} {a w w₁ standing chosen : List ℕ} {number at : ℕ} (M : MakesReady t a w w₁)
    (held : Fits a (length w) → program_fault (lent (parts_of a w) t) ≡ none → SetIs standing (take t.books (part a books_area w)))
    (C : ChecksRows tree standing number at chosen) where
  -- rows 2 to 6
  pub onto_row : {o : Order} {w₃ : List ℕ} {r : Reply} → (number ≡ 0 → ⊥) → GivesBack t a w₁ w₃ → r ≡ refusal_with t number at
      → RunsOnto o strict tree t a w w₃ r
  onto_row {o} {w₃} ne G says = record {
    answers = λ f counted current.
        let passed = areas_pass t (parts_of a w) counted in
        let R = M.on f in
        let B = G.on (rw R.long f) in
        answer_row o strict tree (parts_of a w) t counted current
        (C.rows (loaded_of (context_of strict (lent (parts_of a w) t))) (onto_held strict t a w f passed R (held f passed))) ne says
        (rw B.errors R.errors) (part_lengths w w₃ f (B.long ∙ R.long) errors_area (omega arith))
        (given_back f passed R refl (λ i h q. stood_in_lem t a w₁ i q) (λ k h. refl) B);
    left_over = λ f counted. (G.on (rw (M.on f).long f)).slots;
  }

  -- the work, and how it ends
  module _ (went : number ≡ 0) (sets : length standing ≡ length chosen) {s : struct.Book} {w₂ : List ℕ} {row place : ℕ} (long : length w₂ ≡ length w₁)
      (W : CompilesNeeded tree chosen standing t.books (book_laid (begun_onto strict t) a w₁) (book_laid s a w₂) row place) where
    abbrev m₂ : BookMemory
    m₂ = book_laid s a w₂

    -- what the definition's work came to
    record WorkDone : Type 0 where
      root : Document
      others : List Document
      accepted : Accepted tree chosen (loaded_of (context_of strict (lent (parts_of a w) t))) root others
      rest : List ℕ
      zeros : Zero rest
      outcome : slices.Outcome (limits_of (lengths_of (parts_of a w))) s (part a 1 w₂) (said_by m₂ 2) (part a 3 w₂) (part a 4 w₂) (part a 5 w₂) (said_by m₂ 6)
          (part a 7 w₂) (part a 8 w₂) (part a 9 w₂) (part a 10 w₂) (part a 11 w₂) (part a 12 w₂) rest row place
          (work_onto (context_of strict (lent (parts_of a w) t)) root others)
      stood : (i : ℕ) → i < part_count → is_book_area i ≡ true → Stood i (stood_in t a w₁ i) (part a i w₂)
      named : (k : ℕ) → k < t.books → get_or (part a books_area w₂) k 0 ≡ get_or (part a books_area w₁) k 0

    work : Fits a (length w) → program_fault (lent (parts_of a w) t) ≡ none → WorkDone
    work f passed =
        let c = context_of strict (lent (parts_of a w) t) in
        let R = M.on f in
        let files = onto_held strict t a w f passed R (held f passed) in
        let X = (C.rows (loaded_of c) files).accepted went in
        let rest = drop t.books (part a books_area w) in
        let O = W.works X.0 X.1.0 (limits_of (lengths_of (parts_of a w))) (stood_in t a w₁) c (standing_uses c) rest X.1.1 sets
        (onto_begins strict t a w f passed R files) in
        record {
          root = X.0;
          others = X.1.0;
          accepted = X.1.1;
          rest = drop (length (needed (loaded_of c) X.0 X.1.0)) rest;
          zeros = zero_drop (length (needed (loaded_of c) X.0 X.1.0)) rest (onto_rest strict t a w f passed R);
          outcome = subst (λ (d : Worked). slices.Outcome (limits_of (lengths_of (parts_of a w))) s (part a 1 w₂) (said_by m₂ 2) (part a 3 w₂) (part a 4 w₂)
              (part a 5 w₂) (said_by m₂ 6) (part a 7 w₂) (part a 8 w₂) (part a 9 w₂) (part a 10 w₂) (part a 11 w₂) (part a 12 w₂)
              (drop (length (needed (loaded_of c) X.0 X.1.0)) rest) row place d) (work_is c X.0 X.1.0)
              (record { full = O.full; came = λ y. came_parts (O.came y) });
          stood = O.stood;
          named = O.named;
        }

    fits₂ : Fits a (length w) → Fits a (length w₂)
    fits₂ f = rw (long ∙ (M.on f).long) f

    -- what is undone: area 11 is zeros, and the rest as it was
    record Bare (w₄ : List ℕ) : Type 0 where
      zero_errors : Zero (part a errors_area w₄)
      as_long_errors : length (part a errors_area w₄) ≡ length (part a errors_area w)
      others : parts_of a w₄ ≡ set (parts_of a w) errors_area (part a errors_area w₄)

    bare : {w₄ : List ℕ} (f : Fits a (length w)) → program_fault (lent (parts_of a w) t) ≡ none → Undoes t a w₂ w₄ → Bare w₄
    bare {w₄} f passed U =
        let R = M.on f in
        let D = work f passed in
        let B = U.back.on (fits₂ f) in
        let fits₃ : Fits a (length U.given) = rw B.long (fits₂ f) in
        record {
          zero_errors = cleared_zero (part a errors_area U.given) (lent_does (omega arith) fits₃ U.bare);
          as_long_errors = part_lengths w w₄ f (lent_length (omega arith) fits₃ U.bare ∙ B.long ∙ long ∙ R.long) errors_area (omega arith);
          others = errors_alone (parts_of a w) fits₃ U.bare (given_back f passed R long D.stood D.named B);
        }

    bare_slots : {w₄ : List ℕ} → Fits a (length w) → Undoes t a w₂ w₄ → Zero (part a slots_part w₄)
    bare_slots f U =
        let B = U.back.on (fits₂ f) in
        rw (lent_other (omega arith) (rw B.long (fits₂ f)) U.bare slots_part (omega arith) (λ q. omega arith)) B.slots

    -- an area is too short, or a name is not public
    onto_full : {o : Order} {w₄ : List ℕ} {r : Reply} → (s.full ≡ 0 → ⊥) → Undoes t a w₂ w₄ → r ≡ mark_refusal_with t s.full
        → RunsOnto o strict tree t a w w₄ r
    onto_full {o} ne U says = record {
      answers = λ f counted current.
          let passed = areas_pass t (parts_of a w) counted in
          let D = work f passed in
          let B = bare f passed U in
          answer_over_lem o strict tree (parts_of a w) t counted current D.accepted D.outcome ne says B.zero_errors B.as_long_errors B.others;
      left_over = λ f counted. bare_slots f U;
    }

    -- a book with errors, or a ring
    onto_refused : {o : Order} {w₃ : List ℕ} {r : Reply} → s.full ≡ 0 → (row ≡ 0 → ⊥) → GivesBack t a w₂ w₃ → r ≡ refusal_with t row place
        → RunsOnto o strict tree t a w w₃ r
    onto_refused {o} {w₃} y ne G says = record {
      answers = λ f counted current.
          let passed = areas_pass t (parts_of a w) counted in
          let R = M.on f in
          let D = work f passed in
          let B = G.on (fits₂ f) in
          answer_listed o strict tree (parts_of a w) t counted current D.accepted D.outcome y ne says
          (part_lengths w w₂ f (long ∙ R.long) errors_area (omega arith))
          (given_back f passed R long D.stood D.named B ∙ ap (λ (e : List ℕ). set (parts_of a w) errors_area e) B.errors);
      left_over = λ f counted. (G.on (fits₂ f)).slots;
    }

    -- the work delivers
    module _ {globals : ℕ} (y : s.full ≡ 0) (h : row ≡ 0)
        (K : ReadsPart constants_area (λ k. MarkedFrom (plain_marks k) 0 s.constants 0 globals) a w₂) where
      -- a commit whose trial was answered other totals
      onto_differs : {o : Order} {w₄ : List ℕ} {r : Reply} → differs o (totals s place globals t.bundles) ≡ true → Undoes t a w₂ w₄ → r ≡ refusal_with t 13 0
          → RunsOnto o strict tree t a w w₄ r
      onto_differs {o} q U says = record {
        answers = λ f counted current.
            let passed = areas_pass t (parts_of a w) counted in
            let D = work f passed in
            let B = bare f passed U in
            answer_differs o strict tree (parts_of a w) t counted current D.accepted D.outcome y h D.zeros (K.on (fits₂ f)) t.bundles q says
            B.zero_errors B.as_long_errors B.others;
        left_over = λ f counted. bare_slots f U;
      }

      -- a trial
      onto_tried : {o : Order} {w₄ : List ℕ} {r : Reply} → is_trial o ≡ true → Undoes t a w₂ w₄ → r ≡ delivery (totals s place globals t.bundles)
          → RunsOnto o strict tree t a w w₄ r
      onto_tried {o} q U says = record {
        answers = λ f counted current.
            let passed = areas_pass t (parts_of a w) counted in
            let D = work f passed in
            let B = bare f passed U in
            answer_tried o strict tree (parts_of a w) t counted current D.accepted D.outcome y h D.zeros (K.on (fits₂ f)) q says
            B.zero_errors B.as_long_errors B.others;
        left_over = λ f counted. bare_slots f U;
      }

      -- a delivery that is kept
      onto_kept : {o : Order} {w₃ : List ℕ} {r : Reply} → differs o (totals s place globals t.bundles) ≡ false → is_trial o ≡ false
          → Settles s.constants s.standing_methods a w₂ w₃ → r ≡ delivery (totals s place globals (next_count t.bundles))
          → RunsOnto o strict tree t a w w₃ r
      onto_kept {o} {w₃} {r} q k S says = record {
        answers = λ f counted current.
            let (passed, count) = counted_passes (lent_counted (parts_of a w) t) counted in
            let R = M.on f in
            let D = work f passed in
            let N = S.on (fits₂ f) in
            let same = settled_areas s a w₂ N (constants_end (D.outcome.came y) y h) in
            let says' : r ≡ delivery (totals s place globals (t.bundles + 1)) =
            says ∙ ap (λ (n : ℕ). delivery (totals s place globals n)) (next_count_lem t.bundles count) in
            answer_kept o strict tree (parts_of a w) t counted current D.accepted D.outcome y h D.zeros (K.on (fits₂ f)) t.bundles q k says'
            same (same_lengths a w w₃ f (N.long ∙ long ∙ R.long) ∙ ap lengths_of same);
        left_over = λ f counted. (S.on (fits₂ f)).slots;
      }

    pub onto_runs : {o : Order} {w₃ : List ℕ} {r : Reply} → FinishesOnto o t (book_laid s a w₂) row place w₃ r → RunsOnto o strict tree t a w w₃ r
    onto_runs {o} {w₃} {r} E = by_full (ℕ_discrete s.full 0)
      where
        by_order : (globals : ℕ) → s.full ≡ 0 → row ≡ 0 → ReadsPart constants_area (λ k. MarkedFrom (plain_marks k) 0 s.constants 0 globals) a w₂
            → EndsBy o t (book_laid s a w₂) place globals w₃ r → (b x : Bool) → differs o (totals s place globals t.bundles) ≡ b → is_trial o ≡ x
            → RunsOnto o strict tree t a w w₃ r
        by_order globals y h K X true x q p = let Z = X.differ q in onto_differs y h K q Z.0 Z.1
        by_order globals y h K X false true q p = let Z = X.tried q p in onto_tried y h K p Z.0 Z.1
        by_order globals y h K X false false q p = let Z = X.kept q p in onto_kept y h K q p Z.0 Z.1

        by_row : s.full ≡ 0 → Dec (row ≡ 0) → RunsOnto o strict tree t a w w₃ r
        by_row y (yes h) =
            let X = E.whole y h in
            by_order X.0 y h X.1.0 X.1.1 (differs o (totals s place X.0 t.bundles)) (is_trial o) refl refl
        by_row y (no ne) = let X = E.refused y ne in onto_refused y ne X.0 X.1

        by_full : Dec (s.full ≡ 0) → RunsOnto o strict tree t a w w₃ r
        by_full (yes y) = by_row y (ℕ_discrete row 0)
        by_full (no ne) = let X = E.full ne in onto_full ne X.0 X.1
