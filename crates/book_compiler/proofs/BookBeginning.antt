-- The work begins over one memory: one that stands for a context, with an entry for each book that is needed behind those that stand, is ready for the first
-- book; a memory of zeros with three constants and their slots stands for the definition's fresh context. By the lemmas over areas, of the parts. Assumes
-- nothing.
use Rattle.std.proofs.Common.{◌≡◌, ℕ, suc, ◌+◌, ◌*◌, ◌/◌, ◌<◌, Bool, true, false, cond, eqb, List, [], ◌∷◌, ◌++◌, length, take, drop, replicate, sym, refl, ap}
use Rattle.std.proofs.Common.{◌∙◌, subst, arith, eqb-true}
use lib.ListN.{length-replicate}
use borrow.Author.Tests.{eqb-false}
use Rattle.memory.specs.Layout.{part, Fits}
use Rattle.words.specs.Ast.{Definition, Document}
use Rattle.words.specs.Areas.{constants_area, books_area}
use Rattle.words.specs.Record.{most_records}
use Rattle.definition.specs.Uses.{Use, using', Limits, first_over}
use Rattle.definition.specs.Book.{Context, new_context, opened, book_count, compile_definition}
use Rattle.definition.specs.DependencySolver.{Worked, needed, compile_needed, loaded_of}
use Rattle.definition_laws.proofs.Limits.{fine_limited}
use Rattle.definition_laws.proofs.Counts.{loaded_length}
use Rattle.building.specs.declared.taking.Taken.{Taken}
use Rattle.building.specs.Taking.{Took, taken, taken_of}
use Rattle.building.specs.RepresentsMachine.{Marks, Sized}
use Rattle.undo.specs.Notes.{plain_marks, plain_methods}
use Rattle.undo.proofs.PlainMarks.{plain_marks_length, plain_marks_took, plain_marks_zero}
use Rattle.building.proofs.Notes.{over_longer}
use Rattle.compiler_laws.specs.declared.book.Book as struct
use Rattle.compiler_laws.specs.BookAreas.{BookAreas, book_areas, Fitted, RepresentsAreas}
use Rattle.compiler_laws.specs.OpenedBooks.{Resting, opened_book, nobody}
use Rattle.compiler_laws.proofs.UnchangedByBooks.{Unchanged}
use Rattle.compiler_laws.specs.FileSets.{set_size, Ascends, Below}
use Rattle.compiler_laws.specs.SolverSteps.{InSets, waiting, TakesBooks}
use Rattle.compiler_laws.specs.BooksInOrder.{Zero, begun_book, FirstConstants, Accepted, Cleared, Emptied}
use Rattle.compiler_laws.proofs.CallBeginning.{mark_constants, mark_books, no_mark, books_there, fresh_resting, zero_drop}
use Rattle.compiler_laws.proofs.WaitingBooks.{taken_wait}
use Rattle.compiler_laws.proofs.BooksNeeded.{set_empty, needed_ascends, needed_below}
use Rattle.compiler_laws.proofs.BundleRange.{fine_limit}
use Rattle.compiler_laws.proofs.NotesOfDocuments.{drive_longer}
use Rattle.constant_slots.specs.Plain.{pool_of}
use Rattle.constant_slots.specs.Slots.{slots_of}
use Rattle.book_compiler.specs.Leaves.{FillsSlots}
use Rattle.book_compiler.specs.RepresentsBook.{BookMemory, book_laid, book_view, is_book_area}
use Rattle.book_compiler.specs.BookOrder.{LentPart, AtRest, fresh, Lent, Outcome, Driving, Drives, Begins, needed_work, CompilesNeeded, Works}
use Rattle.book_compiler.proofs.Parts.{slots_count}
use Rattle.book_compiler.proofs.SlotFilling.{slots_filled}
use Rattle.book_compiler.proofs.Stood.{stood_nothing}
use Rattle.book_compiler.proofs.BookParts.{not_part}
use Rattle.book_compiler.proofs.LentParts.{lent_does, lent_part, lent_other, lent_length, lent_fits, stood_beside, still_at_rest}
use Rattle.book_compiler.proofs.LentParts.{part_lengths, zero_part}

-- a memory of zeros has areas of zeros
pub cleared_parts : (a : List ℕ) {w : List ℕ} → Zero w
    → Cleared (part a 1 w) (part a 2 w) (part a 3 w) (part a 4 w) (part a 5 w) (part a 6 w) (part a 7 w) (part a 8 w) (part a 9 w) (part a 10 w) (part a 11 w)
    (part a 12 w)
cleared_parts a {w} z = record {
  emptied = record {
    code = zero_part a w 1 z;
    constants = zero_part a w 2 z;
    functions = zero_part a w 3 z;
    models = zero_part a w 4 z;
    properties = zero_part a w 5 z;
    methods = zero_part a w 6 z;
    locals = zero_part a w 7 z;
    publics = zero_part a w 8 z;
    names = zero_part a w 9 z;
    breaks = zero_part a w 10 z;
    books = zero_part a w 12 z;
  };
  errors = zero_part a w 11 z;
}

-- the counts with another mark
abbrev pub with_full : struct.Book → ℕ → struct.Book
with_full s full = record {
  full = full;
  code = s.code;
  constants = s.constants;
  functions = s.functions;
  models = s.models;
  properties = s.properties;
  methods = s.methods;
  locals = s.locals;
  publics = s.publics;
  errors = s.errors;
  file = s.file;
  first_local = s.first_local;
  first_public = s.first_public;
  entry_point = s.entry_point;
  standing_methods = s.standing_methods;
  strict = s.strict;
}

-- another mark and other notes: what the areas hold does not depend on them
renoted : {κ : Limits} (s : struct.Book) {c k f m p t l u n b e : List ℕ} (context : Context) {uses us : List Use} {full : ℕ} → Marks (first_over κ us) full
    → (full ≡ 0 → s.full ≡ 0) → RepresentsAreas κ [] (book_areas (opened_book s (book_count context)) c k f m p t l u n b e) (opened nobody context uses)
    → RepresentsAreas κ [] (book_areas (opened_book (with_full s full) (book_count context)) c k f m p t l u n b e) (opened nobody context us)
renoted s context marks before K = record {
  fitted = record {
    code = K.fitted.code;
    constants = K.fitted.constants;
    functions = K.fitted.functions;
    models = K.fitted.models;
    properties = K.fitted.properties;
    methods = K.fitted.methods;
    locals = K.fitted.locals;
    publics = K.fitted.publics;
    names = K.fitted.names;
    breaks = K.fitted.breaks;
    errors = K.fitted.errors;
    others = K.fitted.others;
  };
  full = marks;
  rest = λ z.
      let S = K.rest (before z) in
      record {
        code = S.code;
        sized = S.sized;
        constants = S.constants;
        marks = S.marks;
        functions = S.functions;
        models = S.models;
        properties = S.properties;
        methods = S.methods;
        locals = S.locals;
        counted = S.counted;
        valued = S.valued;
        first_local = S.first_local;
        named = S.named;
        publics = S.publics;
        first_public = S.first_public;
        prior = S.prior;
        file = S.file;
        last_index = S.last_index;
        indexed = S.indexed;
        entry = S.entry;
        mode = S.mode;
        names = S.names;
        breaks = S.breaks;
        errors = S.errors;
      };
}

-- between two books, after a routine that is lent area 12, with another mark and other notes
marked_at_rest : {κ : Limits} {others : ℕ → List ℕ} {R : List ℕ → List ℕ → Type 0} {s : struct.Book} {a w w' : List ℕ} {context : Context}
    {uses us : List Use} {full : ℕ} → LentPart books_area R a w w' → Marks (first_over κ us) full → (full ≡ 0 → s.full ≡ 0)
    → AtRest κ others (book_laid s a w) context uses → AtRest κ others (book_laid (with_full s full) a w') context us
marked_at_rest {s = s} {context = context} L marks before H =
    let R = (still_at_rest L H).represents.ready in
    record {
      represents = record {
        ready = record {
          fits = R.fits;
          preserves = record { same = R.preserves.same; stood = R.preserves.stood; nothing = R.preserves.nothing };
          behind = λ z. R.behind (before z);
          keeping = renoted s context marks before R.keeping;
          standing = R.standing;
          slots = R.slots;
        };
      };
    }

-- behind a list
take_front : (xs ys : List ℕ) → take (length xs) (xs ++ ys) ≡ xs
take_front [] ys = refl
take_front (x ∷ xs) ys = ap (λ (l : List ℕ). x ∷ l) (take_front xs ys)

drop_behind : (xs ys : List ℕ) (n : ℕ) → drop (length xs + n) (xs ++ ys) ≡ drop n ys
drop_behind [] ys n = let e : 0 + n ≡ n = omega arith in rw e
drop_behind (x ∷ xs) ys n = let e : suc (length xs) + n ≡ suc (length xs + n) = omega arith in rw e (drop_behind xs ys n)

-- the books needed, behind those that stand
module _ {tree chosen a w w₁ : List ℕ} {s : struct.Book} {stand : ℕ} {r : Taken}
    (B : LentPart books_area (λ o o'. TakesBooks tree (length tree / 4) chosen s.full stand o r o') a w w₁) where
  module _ {root : Document} {others : List Document} {κ : Limits} {parts : ℕ → List ℕ} {context : Context} {uses : List Use} {rest set : List ℕ}
      (A : Accepted tree chosen (loaded_of context) root others) (H : Begins set stand rest κ parts (book_laid s a w) context uses) where
    abbrev files : List ℕ
    files = loaded_of context

    abbrev numbers : List ℕ
    numbers = needed (loaded_of context) root others

    abbrev noted : List Use
    noted = using' books_area (length (loaded_of context) + length numbers) ∷ uses

    ascends : Ascends 0 numbers
    ascends = needed_ascends files root others

    below : Below set_size numbers
    below = needed_below files root others A.bundle.numbers

    books : TakesBooks tree (length tree / 4) chosen s.full stand (part a books_area w) r (part a books_area w₁)
    books = lent_does (omega arith) H.resting.represents.ready.fits B

    stood : stand ≡ length files
    stood = H.so_many ∙ sym (loaded_length context)

    marks : Marks (first_over κ noted) r.full
    marks =
        subst (λ (n : ℕ). Marks (first_over κ (using' books_area (n + length numbers) ∷ uses)) r.full) stood
        (mark_books books (root ∷ others) numbers A.bundle ascends below A.chosen H.inside κ uses H.sized
        H.resting.represents.ready.keeping.full)

    taken_all : r.full ≡ 0 → (r ≡ taken 0 (stand + length numbers))
        × (part a books_area w₁ ≡ take stand (part a books_area w) ++ (waiting (root ∷ others) numbers ++ drop (stand + length numbers) (part a books_area w)))
    taken_all z = books_there books (root ∷ others) numbers A.bundle ascends below A.chosen H.inside z

    area : r.full ≡ 0 → part a books_area w₁ ≡ files ++ (waiting (root ∷ others) numbers ++ drop (length numbers) rest)
    area z = (taken_all z).1 ∙ rw (stood, H.area, take_front files rest, drop_behind files rest (length numbers)) refl

    begins : r.full ≡ 0 → length set ≡ length chosen
        → Driving (root ∷ others) tree (length tree / 4) stand r.count numbers (drop (length numbers) rest) files set κ parts
        (book_laid (with_full s r.full) a w₁) context noted
    begins z long = record {
      distinct = A.distinct;
      limited = rw A.documents at (fine_limited tree A.fine);
      ascends = ascends;
      stands = record {
        bundle = A.bundle;
        limit = fine_limit tree A.fine;
        there = A.there;
        words = waiting (root ∷ others) numbers;
        area = area z;
        waits = taken_wait _ A.bundle (fine_limit tree A.fine) numbers A.there;
        held = H.held;
        room = subst (λ (n : ℕ). InSets (n * 64) (root ∷ others)) (sym long) A.room;
      };
      so_many = H.so_many;
      in_all = ap (λ (y : Taken). y.count) (taken_all z).0;
      resting = marked_at_rest B marks (no_mark books (root ∷ others) numbers A.bundle ascends below A.chosen H.inside) H.resting;
    }

  -- the ways of `compile_needed`: the books do not fit
  pub needed_full : (calm : (d : Definition) → Unchanged (compile_definition d)) {set : List ℕ} {s₁ : struct.Book} → s₁ ≡ with_full s r.full
      → (r.full ≡ 0 → ⊥) → (row place : ℕ) → CompilesNeeded tree chosen set stand (book_laid s a w) (book_laid s₁ a w₁) row place
  needed_full calm {set} {s₁} s-is ne row place = record {
    works = λ root others κ parts context uses rest A long H.
        let full_is : s₁.full ≡ r.full = ap (λ (y : struct.Book). y.full) s-is in
        record {
          full = rw full_is (over_longer κ (drive_longer calm (length (needed (loaded_of context) root others)) (root ∷ others) (loaded_of context)
              (needed (loaded_of context) root others) context (noted A H)) (marks A H) ne);
          came = λ z. absurd (ne (sym full_is ∙ z));
          stood = stood_beside parts (part a books_area w₁) (still_at_rest B H.resting).represents.ready.preserves.stood;
          named = (books A H).named;
        };
  }

  pub needed_on : {set : List ℕ} {s₁ : struct.Book} → s₁ ≡ with_full s r.full → r.full ≡ 0 → {m' : BookMemory} {row place : ℕ}
      → Drives tree (length tree / 4) stand r.count set (book_laid s₁ a w₁) m' row place
      → CompilesNeeded tree chosen set stand (book_laid s a w) m' row place
  needed_on {set} {s₁} s-is z {m'} {row} {place} D = record {
    works = λ root others κ parts context uses rest A long H.
        let O = (subst (λ (y : struct.Book). Drives tree (length tree / 4) stand r.count set (book_laid y a w₁) m' row place) s-is D).drives (root ∷ others)
        (numbers A H) (drop (length (numbers A H)) rest) (loaded_of context) κ parts context (noted A H) (begins A H z long) in
        record { full = O.full; came = O.came; stood = O.stood; named = λ k h. O.named k h ∙ (books A H).named k h };
  }

-- more records than row 2 lets pass
pub needed_huge : {tree chosen set : List ℕ} {stand : ℕ} {m m' : BookMemory} {row place : ℕ} → most_records < length tree / 4
    → CompilesNeeded tree chosen set stand m m' row place
needed_huge {tree = tree} h = record { works = λ root others κ parts context uses rest A long H. absurd (omega (arith, fine_limit tree A.fine)) }

-- the same of what area 2 says
pub took_plain : {full count kind value : ℕ} {l l' : List ℕ} {r : Taken} → Took constants_area full count (kind ∷ value ∷ 0 ∷ []) l r l'
    → Took constants_area full count (kind ∷ value ∷ 0 ∷ []) (plain_marks l) r (plain_marks l')
took_plain {full} {count} {kind} {value} {l} T = record {
  reply = T.reply ∙ ap (taken_of constants_area 3 full count) (sym (plain_marks_length l));
  words = ap plain_marks T.words ∙ plain_marks_took full count kind value l;
}

zero_plain : (k : List ℕ) → Zero k → Zero (plain_marks k)
zero_plain k z =
    let is : plain_marks k ≡ replicate (length k) 0 = ap plain_marks z ∙ plain_marks_zero (length k) in
    is ∙ ap (λ (n : ℕ). replicate n 0) (sym (plain_marks_length k))

emptied_plain : {c k f m p t l u n b o : List ℕ} → Emptied c k f m p t l u n b o → Zero (plain_marks k) → Emptied c (plain_marks k) f m p t l u n b o
emptied_plain E z = record {
  code = E.code;
  constants = z;
  functions = E.functions;
  models = E.models;
  properties = E.properties;
  methods = E.methods;
  locals = E.locals;
  publics = E.publics;
  names = E.names;
  breaks = E.breaks;
  books = E.books;
}

fitted_plain : {κ : Limits} {s : struct.Book} {c k f m p t l u n b e : List ℕ} → Fitted κ (book_areas s c k f m p t l u n b e)
    → Fitted κ (book_areas s c (plain_marks k) f m p t l u n b e)
fitted_plain {k = k} F = record {
  code = F.code;
  constants = rw (plain_marks_length k) F.constants;
  functions = F.functions;
  models = F.models;
  properties = F.properties;
  methods = F.methods;
  locals = F.locals;
  publics = F.publics;
  names = F.names;
  breaks = F.breaks;
  errors = F.errors;
  others = F.others;
}

-- a memory of zeros with the three constants and their slots
module _ (strict : Bool) {a w w₁ w₂ : List ℕ} {x : Taken} (C : LentPart constants_area (λ k k'. FirstConstants (plain_marks k) x (plain_marks k')) a w w₁)
    (S : FillsSlots x.count a w₁ w₂) where
  module _ (f : Fits a (length w)) (zeros : Zero w) (κ : Limits) (lent : (s : struct.Book) → Lent κ (book_laid s a w)) where
    abbrev start : struct.Book
    start = begun_book strict x x.count

    constants : FirstConstants (plain_marks (part a constants_area w)) x (plain_marks (part a constants_area w₁))
    constants = lent_does (omega arith) f C

    f₁ : Fits a (length w₁)
    f₁ = lent_fits (omega arith) f C

    filled : LentPart 13 (λ t t'. t' ≡ slots_of (length t) (pool_of x.count (part a constants_area w₁))) a w₁ w₂
    filled = record { on = S.on }

    stays : (j : ℕ) → j < 14 → (13 ≡ j → ⊥) → (constants_area ≡ j → ⊥) → part a j w₂ ≡ part a j w
    stays j g k m = lent_other (omega arith) f₁ filled j g k ∙ lent_other (omega arith) f C j g m

    -- the parts, but for constants and slots, are as they were
    begun_view : book_view (book_laid (opened_book start 0) a w₂)
        ≡ book_areas (opened_book start 0) (part a 1 w) (plain_marks (part a 2 w₁)) (part a 3 w) (part a 4 w) (part a 5 w) (part a 6 w) (part a 7 w)
        (part a 8 w) (part a 9 w) (part a 10 w) (part a 11 w)
    unfolding plain_methods
    begun_view =
        let at = lent_part (omega arith) f C in
        let last = lent_part (omega arith) f₁ filled in
        rw (
          last 1 (omega arith) ∙ at 1 (omega arith),
          last 2 (omega arith),
          last 3 (omega arith) ∙ at 3 (omega arith),
          last 4 (omega arith) ∙ at 4 (omega arith),
          last 5 (omega arith) ∙ at 5 (omega arith),
          last 6 (omega arith) ∙ at 6 (omega arith),
          last 7 (omega arith) ∙ at 7 (omega arith),
          last 8 (omega arith) ∙ at 8 (omega arith),
          last 9 (omega arith) ∙ at 9 (omega arith),
          last 10 (omega arith) ∙ at 10 (omega arith),
          last 11 (omega arith) ∙ at 11 (omega arith),
        ) refl

    resting : Resting κ start (part a 1 w) (plain_marks (part a 2 w₁)) (part a 3 w) (part a 4 w) (part a 5 w) (part a 6 w) (part a 7 w) (part a 8 w)
        (part a 9 w)
        (part a 10 w) (part a 11 w) (new_context strict) (using' constants_area 3 ∷ [])
    resting =
        let k = part a constants_area w in
        let k₁ = part a constants_area w₁ in
        let long : length (plain_marks k₁) ≡ length (plain_marks k) =
        plain_marks_length k₁ ∙ part_lengths w w₁ f (lent_length (omega arith) f C) constants_area (omega arith) ∙ sym (plain_marks_length k) in
        let sized : Sized κ constants_area (plain_marks k) = rw (plain_marks_length k) (lent start).fitted.constants in
        let none_there : Zero (plain_marks k) = zero_plain k (zero_part a w constants_area zeros) in
        let Z = cleared_parts a zeros in
        fresh_resting strict x constants long (record { emptied = emptied_plain Z.emptied none_there; errors = Z.errors }) κ
        (λ s. record { fitted = fitted_plain (lent s).fitted; books = (lent s).books })
        (mark_constants κ none_there sized constants) (λ z. z)

    at_rest : AtRest κ (fresh a w) (book_laid start a w₂) (new_context strict) (using' constants_area 3 ∷ [])
    at_rest = record {
      represents = record {
        ready = record {
          fits = lent_fits (omega arith) f₁ filled;
          preserves = record {
            same = λ j g q. go j g q (eqb j books_area) refl;
            stood = λ j g q. stood_nothing (part a j w₂) (none_stood j q (eqb j books_area) refl);
            nothing = record { names = refl; breaks = refl; errors = refl; slots = refl };
          };
          behind = λ z. record {
            code = omega arith;
            constants = omega arith;
            functions = omega arith;
            models = omega arith;
            properties = omega arith;
            methods = omega arith;
            locals = omega arith;
            publics = omega arith;
          };
          keeping = subst (λ (v : BookAreas). RepresentsAreas κ [] v (opened nobody (new_context strict) (using' constants_area 3 ∷ [])))
              (sym begun_view) resting.ready;
          standing = refl;
          slots = slots_count refl (slots_filled S f₁);
        };
      };
    }
      where
        none_of : (j i : ℕ) → is_book_area i ≡ true → is_book_area j ≡ false → i ≡ j → ⊥
        none_of j i p q n = eqb-false j i (not_part j i p q) (sym n)

        go : (j : ℕ) → j < 14 → is_book_area j ≡ false → (t : Bool) → eqb j books_area ≡ t → part a j w₂ ≡ cond t (part a books_area w₂) (fresh a w j)
        go j g q true e = ap (λ (n : ℕ). part a n w₂) (eqb-true j books_area e)
        go j g q false e = stays j g (none_of j 13 refl q) (none_of j 2 refl q) ∙ ap (λ (t : Bool). cond t [] (part a j w)) (sym q)

        none_stood : (j : ℕ) → is_book_area j ≡ true → (t : Bool) → eqb j books_area ≡ t → length (cond t (part a books_area w₂) (fresh a w j)) ≡ 0
        none_stood j q true e =
            absurd (let z : ◌≡◌ {A = ℕ} 0 1 = ap (λ (b : Bool). cond b 0 1) (sym q ∙ ap is_book_area (eqb-true j books_area e)) in omega arith)
        none_stood j q false e = ap (λ (t : Bool). length (cond t [] (part a j w))) q

    fresh_begins : {set : List ℕ} (n : ℕ) → set ≡ replicate n 0
        → Begins set 0 (part a books_area w) κ (fresh a w) (book_laid start a w₂) (new_context strict) (using' constants_area 3 ∷ [])
    fresh_begins {set} n empty =
        let same : part a books_area w₂ ≡ part a books_area w
        = lent_part (omega arith) f₁ filled books_area (omega arith) ∙ lent_part (omega arith) f C books_area (omega arith) in
        record {
          so_many = refl;
          held = rw empty (set_empty n);
          area = same;
          inside = omega arith;
          sized = rw same (lent start).books;
          resting = at_rest;
        }

  -- the definition's work from there
  as_work : (root : Document) (others : List Document)
      → compile_needed (needed [] root others) (root ∷ others) (new_context strict) ≡ needed_work root others (new_context strict)
      (using' constants_area 3 ∷ [])
  unfolding compile_needed
  as_work root others = refl

  -- no book stood
  none_named : {κ : Limits} {others : ℕ → List ℕ} {books : List ℕ} {m : BookMemory} {rest : List ℕ} {row place : ℕ} {v : Worked}
      → Outcome κ others 0 books m rest row place v → Outcome κ others 0 [] m rest row place v
  none_named O = record { full = O.full; came = O.came; stood = O.stood; named = λ k h. absurd (omega arith) }

  -- the way of `work`
  pub work_fresh : {tree chosen set : List ℕ} {s : struct.Book} {m' : BookMemory} {row place : ℕ} → s ≡ begun_book strict x x.count
      → set ≡ replicate (length chosen) 0 → CompilesNeeded tree chosen set 0 (book_laid s a w₂) m' row place → Works strict tree chosen a w m' row place
  work_fresh {tree} {chosen} {set} {s} {m'} {row} {place} s-is empty N = record {
    works = λ root others A f zeros κ lent.
        let numbers = needed [] root others in
        let N' : CompilesNeeded tree chosen set 0 (book_laid (begun_book strict x x.count) a w₂) m' row place =
        subst (λ (y : struct.Book). CompilesNeeded tree chosen set 0 (book_laid y a w₂) m' row place) s-is N in (
          drop (length numbers) (part a books_area w),
          (
            zero_drop (length numbers) (part a books_area w) (zero_part a w books_area zeros),
            rw (as_work root others) (none_named (N'.works root others κ (fresh a w) (new_context strict) (using' constants_area 3 ∷ []) (part a books_area w) A
                (ap (λ (l : List ℕ). length l) empty ∙ length-replicate {A = ℕ} (length chosen) 0) (fresh_begins f zeros κ lent (length chosen) empty))),
          ),
        );
  }
