-- The call's ways to its end over one memory: refused before the work, an area too short, a book with errors or a ring, and a delivery. By the lemmas over
-- areas, of the parts; what is left over is zeros on each way. Assumes nothing.
use Rattle.std.proofs.Common.{◌≡◌, ℕ, ◌+◌, ◌*◌, ◌<◌, ◌≤◌, Bool, true, false, cond, eqb, List, [], ◌++◌, length, get_or, replicate, sym, refl, ap, ◌∙◌, subst}
use Rattle.std.proofs.Common.{arith}
use native.Mathlib.Decide.{ℕ_discrete}
use borrow.Author.Tests.{eqb-false}
use Rattle.memory.specs.Layout.{part, part_count, starts_of, Fits}
use Rattle.memory.proofs.Starts.{starts_fit}
use Rattle.words.specs.Areas.{cleared_from, errors_area, entry_field}
use Rattle.words.specs.declared.reply.Reply as struct
use Rattle.words.specs.Reply.{delivery, refusal}
use Rattle.definition.specs.Promise.{lengths_of, Compiles}
use Rattle.definition.specs.Answer.{limits_of}
use Rattle.definition.specs.Program.{flat}
use Rattle.definition.specs.Within.{Areas}
use Rattle.compiler_laws.specs.declared.book.Book as book
use Rattle.compiler_laws.specs.BooksInOrder.{Zero, Emptied, FrontRows, MarkedFrom, mark_of}
use Rattle.compiler_laws.specs.BooksInOrder as slices
use Rattle.compiler_laws.specs.CallEnd.{totals, mark_refusal}
use Rattle.compiler_laws.specs.CallEnd as slices-end
use Rattle.compiler_laws.proofs.CallEnd.{cleared_zero, SameLengths, lent_are, marked_more, run_row, run_finished, compile_runs}
use Rattle.book_compiler.specs.Leaves.{ClearsSlots}
use Rattle.undo.specs.Notes.{settled_marks, plain_marks, plain_methods}
use Rattle.undo.proofs.PlainMarks.{plain_marks_third}
use Rattle.book_compiler.specs.RepresentsBook.{BookMemory, book_laid, area_of, said_by}
use Rattle.book_compiler.specs.BookOrder.{ReadsPart, Works, ClearsButErrors, Settles, Finishes}
use Rattle.book_compiler.specs.BookOrder.{LentPart, Runs, parts_of}
use Rattle.book_compiler.specs.Promise.{areas_in, left_over, CompilesInto}
use Rattle.book_compiler.proofs.LentParts.{lent_does, lent_other, lent_fits, lent_length, part_lengths, zero_part}
use Rattle.book_compiler.proofs.PartsInTurn.{ChangedUpTo, slots_lent, slots_zero}
use Rattle.book_compiler.proofs.MemoryAreas.{memory_is, left_over_is, areas_are}
use Rattle.book_compiler.proofs.BookBeginning.{cleared_parts}
use Rattle.book_compiler.proofs.SaidAreas.{came_parts, constants_end, settled_areas}

-- the way of `clear_but_errors`
pub clear_end : {i : ℕ} {a w w₁ : List ℕ} → part_count ≤ i → ChangedUpTo (λ j l. cleared_from 0 l) 0 i a w w₁ → ClearsButErrors a w w₁
clear_end {a = a} {w = w} h K = record {
  kept = K.errors;
  zeros = λ f j g n. cleared_zero (part a j w) (K.done f j (omega arith) (omega arith) (λ e. n (sym e)));
}

-- the ways of `finish`
pub finish_full : {m : BookMemory} {row place : ℕ} {after : List ℕ} {r : struct.Reply} → (m.book.full ≡ 0 → ⊥) → after ≡ cleared_from 0 m.words
    → r ≡ mark_refusal m.book.full → Finishes m row place after r
finish_full {m} ne q says = record { full = λ _. (cleared_zero m.words q, says); refused = λ y _. absurd (ne y); whole = λ y _. absurd (ne y) }

pub finish_row : {m : BookMemory} {row place : ℕ} {after : List ℕ} {r : struct.Reply} → m.book.full ≡ 0 → (row ≡ 0 → ⊥)
    → ClearsButErrors m.starts m.words after → r ≡ refusal row place → Finishes m row place after r
finish_row y ne C says = record { full = λ h. absurd (h y); refused = λ _ _. (C, says); whole = λ _ h. absurd (ne h) }

pub finish_whole : {m : BookMemory} {row place globals : ℕ} {after : List ℕ} {r : struct.Reply} → m.book.full ≡ 0 → row ≡ 0
    → Settles m.book.constants m.book.standing_methods m.starts m.words after
    → ReadsPart 2 (λ k. MarkedFrom (plain_marks k) 0 m.book.constants 0 globals) m.starts m.words
    → r ≡ delivery (totals m.book place globals 1) → Finishes m row place after r
finish_whole {globals = globals} y h C M says =
    record { full = λ g. absurd (g y); refused = λ _ g. absurd (g h); whole = λ _ _. (C, (globals, (M, says))) }

-- `count_marked`: one mark more, whatever is noted of it
pub marked_one : (l : List ℕ) {i count n r word one : ℕ} → i < count → word ≡ entry_field 3 i 2 l → one ≡ mark_of word
    → MarkedFrom (plain_marks l) (i + 1) count (n + one) r → MarkedFrom (plain_marks l) i count n r
marked_one l {i} {word = word} {one} inside word-is one-is M =
    let there : one ≡ entry_field 3 i 2 (plain_marks l) = one-is ∙ ap mark_of word-is ∙ sym (plain_marks_third i l) in
    marked_more inside refl (there ∙ plain_marks_third i l ∙ sym (twice (entry_field 3 i 2 l)) ∙ ap mark_of (sym (plain_marks_third i l))) M
  where
    twice : (x : ℕ) → mark_of (mark_of x) ≡ mark_of x
    twice x = go (eqb x 0)
      where
        go : (b : Bool) → ◌≡◌ {A = ℕ} (cond (eqb (cond b 0 1) 0) 0 1) (cond b 0 1)
        go true = refl
        go false = refl

-- the way of `settle`
pub settled : {count stood : ℕ} {a w w₁ w₂ w' : List ℕ} → LentPart 2 (λ k k'. k' ≡ settled_marks count k) a w w₁
    → LentPart 6 (λ t t'. t' ≡ plain_methods stood t) a w₁ w₂ → ClearsSlots a w₂ w' → Settles count stood a w w'
settled {count} {stood} {a} {w} {w₁} {w₂} {w'} K T C = record {
  on = λ f.
      let f₁ : Fits a (length w₁) = lent_fits (omega arith) f K in
      let f₂ : Fits a (length w₂) = lent_fits (omega arith) f₁ T in
      let S = slots_lent f₂ C in
      record {
        long = lent_length (omega arith) f₂ S ∙ lent_length (omega arith) f₁ T ∙ lent_length (omega arith) f K;
        constants = lent_other (omega arith) f₂ S 2 (omega arith) (λ e. omega arith) ∙ lent_other (omega arith) f₁ T 2 (omega arith) (λ e. omega arith)
            ∙ lent_does (omega arith) f K;
        methods = lent_other (omega arith) f₂ S 6 (omega arith) (λ e. omega arith) ∙ lent_does (omega arith) f₁ T
            ∙ ap (plain_methods stood) (lent_other (omega arith) f K 6 (omega arith) (λ e. omega arith));
        slots = slots_zero f₂ C;
        others = λ i z h n2 n6.
            lent_other (omega arith) f₂ S i (omega arith) (λ e. omega (arith, e, h))
            ∙ lent_other (omega arith) f₁ T i (omega arith) (λ e. eqb-false i 6 n6 (sym e))
            ∙ lent_other (omega arith) f K i (omega arith) (λ e. eqb-false i 2 n2 (sym e));
      };
}

module _ {strict : Bool} {tree set a w : List ℕ} {m : BookMemory} {row place : ℕ} (f : Fits a (length w)) (z : Zero w)
    (W : Works strict tree set a w m row place) where
  works_parts : slices.Works strict tree set
      (part a 1 w) (part a 2 w) (part a 3 w) (part a 4 w) (part a 5 w) (part a 6 w) (part a 7 w) (part a 8 w) (part a 9 w) (part a 10 w) (part a 11 w)
      (part a 12 w) m.book (area_of m 1) (said_by m 2) (area_of m 3) (area_of m 4) (area_of m 5) (said_by m 6) (area_of m 7) (area_of m 8) (area_of m 9)
      (area_of m 10) (area_of m 11) (area_of m 12) row place
  works_parts = record {
    works = λ root others A _ κ lent.
        let Y = W.works root others A f z κ (λ s. record { fitted = (lent s).fitted; books = (lent s).books }) in
        (Y.0, (Y.1.0, record { full = Y.1.1.full; came = λ y. came_parts (Y.1.1.came y) }));
  }

same_parts : (a w w' : List ℕ) → Fits a (length w) → length w' ≡ length w
    → SameLengths
    (part a 1 w) (part a 2 w) (part a 3 w) (part a 4 w) (part a 5 w) (part a 6 w) (part a 7 w) (part a 8 w) (part a 9 w) (part a 10 w) (part a 11 w)
    (part a 12 w) (part a 1 w') (part a 2 w') (part a 3 w') (part a 4 w') (part a 5 w') (part a 6 w') (part a 7 w') (part a 8 w') (part a 9 w') (part a 10 w')
    (part a 11 w') (part a 12 w')
same_parts a w w' f q = record {
  code = part_lengths w w' f q 1 (omega arith);
  constants = part_lengths w w' f q 2 (omega arith);
  functions = part_lengths w w' f q 3 (omega arith);
  models = part_lengths w w' f q 4 (omega arith);
  properties = part_lengths w w' f q 5 (omega arith);
  methods = part_lengths w w' f q 6 (omega arith);
  locals = part_lengths w w' f q 7 (omega arith);
  publics = part_lengths w w' f q 8 (omega arith);
  names = part_lengths w w' f q 9 (omega arith);
  breaks = part_lengths w w' f q 10 (omega arith);
  errors = part_lengths w w' f q 11 (omega arith);
  books = part_lengths w w' f q 12 (omega arith);
}

-- the ways of `run_in`
module _ {strict : Bool} {tree set a w : List ℕ} {number at : ℕ} {r : struct.Reply} (F : FrontRows tree number at set []) where
  pub run_refused : (number ≡ 0 → ⊥) → r ≡ refusal number at → Runs strict tree a w w r
  run_refused ne says = record {
    compiles = λ f z. (run_row F ne says).runs (cleared_parts a z);
    left_over = λ f z. zero_part a w 13 z;
  }

  module _ {s : book.Book} {w' w'' : List ℕ} {row place : ℕ} (went : number ≡ 0) (W : Works strict tree set a w (book_laid s a w') row place)
      (E : Finishes (book_laid s a w') row place w'' r) (long' : length w' ≡ length w) (long'' : length w'' ≡ length w) where
    -- behind the constants in use the area says zeros
    quiet : Fits a (length w) → Zero w → s.full ≡ 0 → row ≡ 0 → (j : ℕ) → s.constants * 3 ≤ j → get_or (plain_marks (part a 2 w')) j 0 ≡ 0
    quiet f z y h =
        let X = F.accepted went in
        let κ = limits_of (lengths_of (parts_of a w)) in
        let Y = W.works X.0 X.1.0 X.1.1 f z κ (λ t. let L = lent_are t (part a 1 w) (part a 2 w) (part a 3 w) (part a 4 w) (part a 5 w)
        (part a 6 w) (part a 7 w) (part a 8 w) (part a 9 w) (part a 10 w) (part a 11 w) (part a 12 w) in record { fitted = L.fitted; books = L.books }) in
        constants_end (came_parts (Y.1.1.came y)) y h

    finishes_parts : Fits a (length w) → Zero w → Fits a (length w')
        → slices-end.Finishes s row place (part a 1 w') (plain_marks (part a 2 w')) (part a 3 w') (part a 4 w') (part a 5 w')
        (plain_methods s.standing_methods (part a 6 w')) (part a 7 w') (part a 8 w')
        (part a 9 w') (part a 10 w') (part a 11 w') (part a 12 w') (part a 1 w'') (part a 2 w'') (part a 3 w'') (part a 4 w'') (part a 5 w'') (part a 6 w'')
        (part a 7 w'') (part a 8 w'') (part a 9 w'') (part a 10 w'') (part a 11 w'') (part a 12 w'') r
    finishes_parts f z f' = record {
      full = λ ne. let X = E.full ne in let Z = cleared_parts a X.0 in (Z.emptied, (Z.errors, X.1));
      refused = λ y ne. let X = E.refused y ne in (emptied (X.0.zeros f'), (X.0.kept f', X.1));
      whole = λ y h.
          let X = E.whole y h in
          let S = X.0.on f' in (
            settled_areas s a w' S (quiet f z y h),
            (
              X.1.0,
              (X.1.1.0.on f', X.1.1.1),
            ),
          );
    }
      where
        emptied : ((i : ℕ) → i < part_count → (errors_area ≡ i → ⊥) → Zero (part a i w''))
            → Emptied (part a 1 w'') (part a 2 w'') (part a 3 w'') (part a 4 w'') (part a 5 w'') (part a 6 w'') (part a 7 w'') (part a 8 w'') (part a 9 w'')
            (part a 10 w'') (part a 12 w'')
        emptied Z = record {
          code = Z 1 (omega arith) (λ q. omega arith);
          constants = Z 2 (omega arith) (λ q. omega arith);
          functions = Z 3 (omega arith) (λ q. omega arith);
          models = Z 4 (omega arith) (λ q. omega arith);
          properties = Z 5 (omega arith) (λ q. omega arith);
          methods = Z 6 (omega arith) (λ q. omega arith);
          locals = Z 7 (omega arith) (λ q. omega arith);
          publics = Z 8 (omega arith) (λ q. omega arith);
          names = Z 9 (omega arith) (λ q. omega arith);
          breaks = Z 10 (omega arith) (λ q. omega arith);
          books = Z 12 (omega arith) (λ q. omega arith);
        }

    over : Fits a (length w) → Zero w → Dec (s.full ≡ 0) → Dec (row ≡ 0) → Zero (part a 13 w'')
    over f z (no ne) d = zero_part a w'' 13 (E.full ne).0
    over f z (yes y) (no ne) = (E.refused y ne).0.zeros (rw long' f) 13 (omega arith) (λ q. omega arith)
    over f z (yes y) (yes h) = ((E.whole y h).0.on (rw long' f)).slots

    pub run_worked : Runs strict tree a w w'' r
    run_worked = record {
      compiles = λ f z.
          (run_finished F went (works_parts f z W) (finishes_parts f z (rw long' f)) (same_parts a w w'' f long'')).runs (cleared_parts a z);
      left_over = λ f z. over f z (ℕ_discrete s.full 0) (ℕ_discrete row 0);
    }

-- the way of `compile`
pub compile_into : {strict : Bool} {tree : List ℕ} (lengths w : List ℕ) {w₀ w' a : List ℕ} {r : struct.Reply} → length lengths ≡ 12
    → a ≡ starts_of lengths (length w) → w₀ ≡ cleared_from 0 w → length w₀ ≡ length w → length w' ≡ length w → Runs strict tree a w₀ w' r
    → CompilesInto strict tree lengths w w' r
compile_into {strict} {tree} lengths w {w₀} {w'} {a} {r} twelve a-is cleared long₀ long' R =
    let starts = starts_of lengths (length w) in
    let f : Fits starts (length w) = starts_fit lengths (length w) twelve in
    let f₀ : Fits starts (length w₀) = rw long₀ f in
    let z : Zero w₀ = cleared_zero w cleared in
    let Z = cleared_parts starts z in
    let R' : Runs strict tree starts w₀ w' r = subst (λ (y : List ℕ). Runs strict tree y w₀ w' r) a-is R in
    let C : Compiles strict tree (parts_of starts w) (parts_of starts w') r =
    compile_runs (same_parts starts w w₀ f long₀) Z.emptied Z.errors (record { runs = λ _. R'.compiles f₀ z }) in
    let after-are : areas_in lengths w' ≡ parts_of starts w' = areas_are lengths w' twelve ∙ ap (λ (n : ℕ). parts_of (starts_of lengths n) w') long' in
    let over-is : left_over lengths w' ≡ part starts 13 w' = left_over_is lengths w' twelve ∙ ap (λ (n : ℕ). part (starts_of lengths n) 13 w') long' in
    let over-long : length (part starts 13 w') ≡ length (left_over lengths w) =
    part_lengths w w' f long' 13 (omega arith) ∙ ap (λ (l : List ℕ). length l) (sym (left_over_is lengths w twelve)) in
    let C' : Compiles strict tree (areas_in lengths w) (areas_in lengths w') r = rw (areas_are lengths w twelve, after-are) C in
    record {
      compiles = C';
      words = memory_is lengths w' twelve
          ∙ ap (λ (l : List ℕ). flat (areas_in lengths w') ++ l) (over-is ∙ R'.left_over f₀ z ∙ ap (λ (n : ℕ). replicate n 0) over-long)
          ∙ ap (λ (m : Areas). flat m ++ replicate (length (left_over lengths w)) 0) C'.words;
    }
