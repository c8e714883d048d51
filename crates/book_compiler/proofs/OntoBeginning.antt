-- A memory whose areas are a program that passes 2026-01's check, made ready (`Ready`), is ready for a bundle's books: it stands for the context that the
-- program spells, and what stood in each area is in place. By the lemmas over areas, of what the parts say whatever is noted in them. Assumes nothing.
use Rattle.std.proofs.Common.{◌≡◌, ℕ, ◌*◌, ◌<◌, ◌≤◌, Bool, true, false, cond, eqb, ltb, List, [], length, take, drop, sym, refl, ap, ◌∙◌, subst, arith}
use Rattle.std.proofs.Common.{length-take, length-take-le, get_or-take, eqb-true}
use mathlib.Core.Option.{none}
use Rattle.memory.specs.Layout.{part, Fits}
use Rattle.memory.proofs.Parts.{part_length}
use Rattle.words.specs.Areas.{code_area, constants_area, functions_area, models_area, properties_area, methods_area, context_locals_area, public_names_area}
use Rattle.words.specs.Areas.{scope_names_area, errors_area, books_area, width_of, entries_in}
use Rattle.words.specs.declared.reply.Totals.{Totals}
use Rattle.words.specs.Reply.{total_of}
use Rattle.undo.specs.Notes.{plain_marks, plain_methods}
use Rattle.undo.specs.Stood.{kept_of, Stood}
use Rattle.undo.specs.Fits.{MethodsFit}
use Rattle.undo.proofs.PlainMarks.{noted_plain}
use Rattle.undo.proofs.Restored.{noted_plain_methods}
use Rattle.definition.specs.Uses.{Limits}
use Rattle.definition.specs.Book.{book_count, opened}
use Rattle.definition.specs.DependencySolver.{loaded_of}
use Rattle.definition.specs.Answer.{limits_of}
use Rattle.definition.specs.Within.{Program, total, lengths_of}
use Rattle.definition.specs.ProgramCheck.{program_fault}
use Rattle.definition.specs.Onto.{lent_entries, context_of}
use Rattle.definition.specs.Promise.{lent}
use Rattle.definition_laws.proofs.PassingAreas.{ProgramPasses, check_passes, lent_length}
use Rattle.definition_laws.proofs.ReadSafe.{read_safe, constants_length, methods_length}
use Rattle.definition_laws.proofs.Safe.{ProgramSafe}
use Rattle.compiler_laws.specs.declared.book.Book as struct
use Rattle.compiler_laws.specs.BookAreas.{BookAreas, book_areas, Fitted, RepresentsAreas}
use Rattle.compiler_laws.specs.OpenedBooks.{opened_book, nobody}
use Rattle.compiler_laws.specs.FileSets.{SetIs}
use Rattle.compiler_laws.specs.BooksInOrder.{Zero, begun_onto}
use Rattle.compiler_laws.proofs.CallEnd.{lent_are}
use Rattle.compiler_laws.proofs.StandingProgram.{words_in, lent_inside, lent_behind, marks_small, methods_small, standing_book}
use Rattle.compiler_laws.proofs.StandingProgram.{standing_uses, standing_books_lem, standing_count}
use Rattle.compiler_laws.proofs.StandingProgram.{standing_files, standing_rest, standing_unmarked, standing_resting}
use Rattle.book_compiler.specs.RepresentsBook.{book_laid, book_view, is_book_area, BehindContext, PreservesParts}
use Rattle.book_compiler.specs.BookOrder.{with_books, AtRest, Begins, parts_of}
use Rattle.book_compiler.specs.Onto.{Ready}

-- what stood in each part when the work begins: in areas 1 to 8 the entries up to the totals, in areas 9 to 11 and in the slots nothing; area 12 apart
abbrev pub stood_in : Totals → List ℕ → List ℕ → ℕ → List ℕ
stood_in t a w i = cond (is_book_area i) (cond (ltb i scope_names_area) (take (total_of t i * width_of i) (part a i w)) []) (part a i w)

-- the front of an area stood
pub stood_front : (area k : ℕ) (l : List ℕ) → Stood area (take k l) l
stood_front area k l = record {
  kept = λ j h. ap (kept_of area j) (sym (get_or-take k l j 0 (let n = length-take k l in omega arith)));
}

pub stood_none : (area : ℕ) (l : List ℕ) → Stood area [] l
stood_none area l = record { kept = λ j h. absurd (omega arith) }

pub stood_in_lem : (t : Totals) (a w : List ℕ) (i : ℕ) → is_book_area i ≡ true → Stood i (stood_in t a w i) (part a i w)
stood_in_lem t a w i q = rw q (go (ltb i scope_names_area))
  where
    go : (b : Bool) → Stood i (cond b (take (total_of t i * width_of i) (part a i w)) []) (part a i w)
    go true = stood_front i (total_of t i * width_of i) (part a i w)
    go false = stood_none i (part a i w)

-- the parts are these, with area 12
stood_parts : (t : Totals) (a w : List ℕ) (s : struct.Book) → PreservesParts (with_books (stood_in t a w) (part a books_area w)) (book_laid s a w)
stood_parts t a w s = record {
  same = λ i h q. same i q (eqb i books_area) refl;
  stood = λ i h q. stood i q (eqb i books_area) refl;
  nothing = record { names = refl; breaks = refl; errors = refl; slots = refl };
}
  where
    same : (i : ℕ) → is_book_area i ≡ false → (b : Bool) → eqb i books_area ≡ b → part a i w ≡ cond b (part a books_area w) (stood_in t a w i)
    same i q true e = ap (λ (n : ℕ). part a n w) (eqb-true i books_area e)
    same i q false e = rw q refl

    stood : (i : ℕ) → is_book_area i ≡ true → (b : Bool) → eqb i books_area ≡ b → Stood i (cond b (part a books_area w) (stood_in t a w i)) (part a i w)
    stood i q true e =
        absurd (let z : ◌≡◌ {A = ℕ} 0 1 = ap (λ (b : Bool). cond b 0 1) (sym q ∙ ap is_book_area (eqb-true i books_area e)) in omega arith)
    stood i q false e = stood_in_lem t a w i q

-- a method of a program that passes leaves room for a note
pub methods_fit : {p : Program} → ProgramPasses p → MethodsFit (total p methods_area) (words_in p methods_area)
methods_fit s = record { model = λ i h. (methods_small s i h).0; name = λ i h. (methods_small s i h).1.0; function = λ i h. (methods_small s i h).1.1 }

-- so many words stood at most
behind_by : (n width : ℕ) (l : List ℕ) {k : ℕ} → k ≡ n → length (take (n * width) l) ≤ k * width
behind_by n width l e = rw e (let q = length-take (n * width) l in omega arith)

module _ (strict : Bool) (t : Totals) (a w : List ℕ) where
  abbrev p : Program
  p = lent (parts_of a w) t

  abbrev κ : Limits
  κ = limits_of (lengths_of (parts_of a w))

  stood_behind : (w₁ : List ℕ) → BehindContext (with_books (stood_in t a w₁) (part a books_area w₁)) (context_of strict p)
  unfolding context_of
  stood_behind w₁ = record {
    code = behind_by t.code 2 (part a code_area w₁) (lent_length p code_area);
    constants = behind_by t.constants 3 (part a constants_area w₁) (constants_length (lent_entries p constants_area) ∙ lent_length p constants_area);
    functions = behind_by t.functions 8 (part a functions_area w₁) (lent_length p functions_area);
    models = behind_by t.models 2 (part a models_area w₁) (lent_length p models_area);
    properties = behind_by t.properties 2 (part a properties_area w₁) (lent_length p properties_area);
    methods = behind_by t.methods 3 (part a methods_area w₁) (methods_length (lent_entries p methods_area) ∙ lent_length p methods_area);
    locals = behind_by t.context_locals 4 (part a context_locals_area w₁) (lent_length p context_locals_area);
    publics = behind_by t.public_names 3 (part a public_names_area w₁) (lent_length p public_names_area);
  }

  module _ {w₁ : List ℕ} (f : Fits a (length w)) (passed : program_fault p ≡ none) (R : Ready t a w w₁) where
    passes : ProgramPasses p
    passes = check_passes p passed

    safe : ProgramSafe (context_of strict p)
    safe = read_safe strict p passed

    fits : Fits a (length w₁)
    fits = rw R.long f

    as_long : (i : ℕ) → i < 14 → length (part a i w₁) ≡ length (part a i w)
    as_long i h = part_length w₁ fits i h ∙ sym (part_length w f i h)

    -- what the parts say, whatever is noted in them
    marks_say : plain_marks (part a constants_area w₁) ≡ part a constants_area w
    marks_say = ap plain_marks R.constants ∙ noted_plain t.constants (part a constants_area w) (marks_small passes)

    methods_say : plain_methods t.methods (part a methods_area w₁) ≡ part a methods_area w
    methods_say =
        ap (plain_methods t.methods) R.methods
        ∙ noted_plain_methods t.methods (part a methods_area w) (methods_fit passes) (lent_behind passes.methods)

    says : (s : struct.Book) → s.standing_methods ≡ t.methods → book_view (book_laid s a w₁)
        ≡ book_areas s (part a 1 w) (part a 2 w) (part a 3 w) (part a 4 w) (part a 5 w) (part a 6 w) (part a 7 w) (part a 8 w) (part a 9 w) (part a 10 w)
        (part a errors_area w₁)
    says s e =
        rw (
          e,
          R.others 1 (omega arith) refl,
          marks_say,
          R.others 3 (omega arith) refl,
          R.others 4 (omega arith) refl,
          R.others 5 (omega arith) refl,
          methods_say,
          R.others 7 (omega arith) refl,
          R.others 8 (omega arith) refl,
          R.others 9 (omega arith) refl,
          R.others 10 (omega arith) refl,
        ) refl

    fitted : Fitted κ
        (book_areas (standing_book strict p) (part a 1 w) (part a 2 w) (part a 3 w) (part a 4 w) (part a 5 w) (part a 6 w) (part a 7 w) (part a 8 w)
        (part a 9 w) (part a 10 w) (part a errors_area w₁))
    fitted =
        let F = (lent_are (standing_book strict p) (part a 1 w) (part a 2 w) (part a 3 w) (part a 4 w) (part a 5 w) (part a 6 w) (part a 7 w) (part a 8 w)
        (part a 9 w) (part a 10 w) (part a 11 w) (part a 12 w)).fitted in
        record {
          code = F.code;
          constants = F.constants;
          functions = F.functions;
          models = F.models;
          properties = F.properties;
          methods = F.methods;
          locals = F.locals;
          publics = F.publics;
          names = F.names;
          breaks = F.breaks;
          errors = ap (λ (n : ℕ). entries_in 4 n) (as_long errors_area (omega arith)) ∙ F.errors;
          others = F.others;
        }

    at_rest : AtRest κ (stood_in t a w₁) (book_laid (standing_book strict p) a w₁) (context_of strict p) (standing_uses (context_of strict p))
    at_rest =
        let c = context_of strict p in
        let s = opened_book (standing_book strict p) (book_count c) in
        record {
          represents = record {
            ready = record {
              fits = fits;
              preserves = stood_parts t a w₁ s;
              behind = λ z. stood_behind w₁;
              keeping = subst (λ (v : BookAreas). RepresentsAreas κ [] v (opened nobody c (standing_uses c))) (sym (says s refl))
                  (standing_resting strict passes safe R.errors (standing_unmarked strict passes safe κ refl) fitted).ready;
              standing = length-take-le (t.methods * 3) (part a methods_area w₁)
                  (rw (as_long methods_area (omega arith)) (lent_inside passes.methods));
              slots = R.slots;
            };
          };
        }

    -- and the books that are needed can be compiled behind those that stand
    pub onto_begins : {set : List ℕ} → SetIs set (loaded_of (context_of strict p))
        → Begins set t.books (drop t.books (part a books_area w)) κ (stood_in t a w₁) (book_laid (begun_onto strict t) a w₁) (context_of strict p)
        (standing_uses (context_of strict p))
    onto_begins held =
        let books : part a books_area w₁ ≡ part a books_area w = R.others books_area (omega arith) refl in
        record {
          so_many = standing_count strict passes safe;
          held = held;
          area = books ∙ standing_books_lem strict passes safe;
          inside = rw books passes.books.fits;
          sized = rw books refl;
          resting = at_rest;
        }

    -- of the set that `add_standing` makes
    pub onto_held : {set : List ℕ} → SetIs set (take t.books (part a books_area w)) → SetIs set (loaded_of (context_of strict p))
    onto_held held = rw (standing_files strict passes safe) held

    pub onto_rest : Zero (drop t.books (part a books_area w))
    onto_rest = standing_rest strict passes safe
