-- A program that passes 2026-01's check and lies in a memory stands for the context that its words spell (`context_of`): each area is filled with its entries,
-- and area 12 has the file numbers of its books. So a bundle's books can be compiled behind it. By what `definition_laws` says of a program that passes.
-- Assumes nothing.
use Prim.Native.Nat.{ℕ, zero, suc, ◌+◌, ◌-◌, ◌*◌, ◌/◌, ◌^◌, ◌≤◌, ◌<◌}
use native.Mathlib.Nat.{mul-le-mul_right, div-mul-le_self}
use native.Mathlib.Omega.{arith}
use native.Mathlib.Decide.{dec_lt}
use mathlib.Core.Path.{◌≡◌, refl, sym, ap, subst, ◌∙◌}
use mathlib.Core.Bool.{Bool, ◌&&◌}
use mathlib.Core.List.{List, [], ◌∷◌, ◌++◌, append-nil}
use lib.ListN.{length, get_or, take, drop, replicate}
use lib.Seq.{take_at, get_or-drop, get_or-append-add}
use lib.Dec.{T, eqb, ltb, leb, eqb→eq, ltb→lt, leb→le}
use Rattle.words.specs.Object.{model_kind, function_kind}
use Rattle.words.specs.Record.{most_text}
use Rattle.words.specs.Areas.{entry_word, width_of, code_area, constants_area, functions_area, models_area, properties_area, methods_area, context_locals_area}
use Rattle.words.specs.Areas.{public_names_area, books_area}
use Rattle.definition.specs.Prior.{Entries, file_numbers}
use Rattle.definition.specs.Uses.{Use, using', Limits, first_over}
use Rattle.definition.specs.Book.{Context, book_count}
use Rattle.definition.specs.DependencySolver.{loaded_of}
use Rattle.definition.specs.Program.{flat}
use Rattle.definition.specs.Within.{nil, Program, total, field, where'}
use Rattle.definition.specs.Onto.{entries_of, lent_entries, context_of}
use Rattle.definition_laws.proofs.Counts.{loaded_length}
use Rattle.definition_laws.proofs.Lists.{all_map}
use Rattle.definition_laws.proofs.Tests.{first_of, second_of}
use Rattle.definition_laws.proofs.PassingAreas.{Passing, ProgramPasses, zeros_replicate, entries_of_split, lent_length, lent_wide, lent_back}
use Rattle.definition_laws.proofs.ReadBack.{methods_back, lent_constants}
use Rattle.definition_laws.proofs.ReadSafe.{constants_length}
use Rattle.definition_laws.proofs.Safe.{ProgramSafe}
use Rattle.building.specs.RepresentsMachine.{Filled, Marks, unmarked, Sized}
use Rattle.building.proofs.Filling.{filled_at, over_fits}
use Rattle.compiler_laws.specs.declared.book.Book as struct
use Rattle.compiler_laws.specs.BookAreas.{book_areas, Fitted}
use Rattle.compiler_laws.specs.OpenedBooks.{Resting}
use Rattle.compiler_laws.specs.BooksInOrder.{Zero}
use Rattle.compiler_laws.proofs.CallBeginning.{zero_filled}
use Rattle.compiler_laws.proofs.WorkEnd.{flat_stood}

-- the counts of a program in a mode
abbrev pub standing_book : Bool → Program → struct.Book
standing_book strict p = record {
  full = 0;
  code = total p code_area;
  constants = total p constants_area;
  functions = total p functions_area;
  models = total p models_area;
  properties = total p properties_area;
  methods = total p methods_area;
  locals = total p context_locals_area;
  publics = total p public_names_area;
  errors = 0;
  file = 0;
  first_local = 0;
  first_public = 0;
  entry_point = p.entry_point;
  standing_methods = total p methods_area;
  strict = strict;
}

-- the note of the constants that stand
abbrev pub standing_uses : Context → List Use
standing_uses c = using' constants_area (length c.pool.constants) ∷ []

-- the words of an area
abbrev pub words_in : Program → ℕ → List ℕ
words_in p area = get_or p.areas area []

-- of an area that passes: its entries lie in it whole, and behind them are zeros
pub lent_inside : {p : Program} {area : ℕ} → Passing p area → total p area * width_of area ≤ length (words_in p area)
lent_inside {p} {area} a =
    let n = length (words_in p area) in
    let q : total p area ≤ n / width_of area = omega (arith, a.fits) in
    omega (arith, mul-le-mul_right (width_of area) q, div-mul-le_self n (width_of area))

zero_at : (n i : ℕ) → get_or (replicate {A = ℕ} n 0) i 0 ≡ 0
zero_at zero i = refl
zero_at (suc n) zero = refl
zero_at (suc n) (suc i) = zero_at n i

pub lent_behind : {p : Program} {area : ℕ} → Passing p area → (j : ℕ) → total p area * width_of area ≤ j → get_or (words_in p area) j 0 ≡ 0
lent_behind {p} {area} a j h =
    let k = total p area * width_of area in
    let w = words_in p area in
    let at : k + (j - k) ≡ j = omega arith in
    ap (λ (i : ℕ). get_or w i 0) (sym at) ∙ sym (get_or-drop k w (j - k) 0) ∙ ap (λ (l : List ℕ). get_or l (j - k) 0) (zeros_replicate (drop k w) a.beyond)
    ∙ zero_at (length (drop k w)) (j - k)

-- the same of an area that holds entries
pub filled_behind : {width : ℕ} {l : List ℕ} {es : Entries} {n : ℕ} → Filled width l es n → (k : ℕ) → n * width ≤ k → get_or l k 0 ≡ 0
filled_behind {width} {l} {es} {n} F k h =
    let at : length (flat es) + (k - n * width) ≡ k = omega (arith, filled_at F) in
    ap (λ (i : ℕ). get_or l i 0) (sym at) ∙ ap (λ (x : List ℕ). get_or x (length (flat es) + (k - n * width)) 0) F.is
    ∙ get_or-append-add (flat es) (replicate F.zeros 0) (k - n * width) 0 ∙ zero_at F.zeros (k - n * width)

-- an area has room for fewer entries than that
few : {p : Program} {area : ℕ} → Passing p area → total p area < 2 ^ 56
few a = omega (arith, a.fits)

module _ {p : Program} (s : ProgramPasses p) where
  -- marks are 0 and 1
  pub marks_small : (i : ℕ) → entry_word 3 i 2 (words_in p constants_area) < 2
  marks_small i = go (dec_lt i (total p constants_area))
    where
      go : Dec (i < total p constants_area) → entry_word 3 i 2 (words_in p constants_area) < 2
      go (yes h) =
          ltb→lt (entry_word 3 i 2 (words_in p constants_area)) 2
          (second_of
          (where' (eqb (field p constants_area i 0) model_kind) (ltb (field p constants_area i 1) (total p models_area))
          && where' (eqb (field p constants_area i 0) function_kind) (ltb (field p constants_area i 1) (total p functions_area)))
          (ltb (field p constants_area i 2) 2) (s.constants.bounds i h))
      go (no h) = omega (arith, lent_behind s.constants (i * 3 + 2) (omega arith))

  -- the words of a method leave room for a note
  pub methods_small : (i : ℕ) → i < total p methods_area
      → (entry_word 3 i 0 (words_in p methods_area) < 2 ^ 56)
      × ((entry_word 3 i 1 (words_in p methods_area) < 2 ^ 20) × (entry_word 3 i 2 (words_in p methods_area) < 2 ^ 56))
  methods_small i h =
      let t = s.methods.bounds i h in
      let inModels = ltb (field p methods_area i 0) (total p models_area) in
      let inFunctions = ltb (field p methods_area i 2) (total p functions_area) in
      let model = ltb→lt (field p methods_area i 0) (total p models_area) (first_of inModels inFunctions t) in
      let function = ltb→lt (field p methods_area i 2) (total p functions_area) (second_of inModels inFunctions t) in
      let name = leb→le (field p methods_area i 1) most_text
      (second_of (ltb 0 (field p methods_area i 1)) (leb (field p methods_area i 1) most_text) (s.methods.known i h)) in
      (omega (arith, model, few s.models), (omega (arith, name), omega (arith, function, few s.functions)))

module _ (strict : Bool) {p : Program} (s : ProgramPasses p) (safe : ProgramSafe (context_of strict p)) where
  -- an area that passes is filled with its entries
  filled_area : {area : ℕ} → Passing p area → Filled (width_of area) (words_in p area) (lent_entries p area) (total p area)
  filled_area {area} a = record {
    zeros = length (words_in p area) - length (flat (lent_entries p area));
    is = sym (lent_back a);
    count = sym (lent_length p area);
    wide = lent_wide a;
    room = a.fits;
  }

  -- areas 9 and 10 are empty
  none_filled : {area : ℕ} → Passing p area → T (eqb (total p area) 0) → Filled (width_of area) (words_in p area) [] 0
  none_filled {area} a t =
      let z : total p area ≡ 0 = eqb→eq (total p area) 0 t in
      subst (λ (n : ℕ). Filled (width_of area) (words_in p area) (entries_of (width_of area) n (words_in p area)) n) z (filled_area a)

  -- the file numbers, and zeros behind them
  books_behind : drop (total p books_area * 1) (words_in p books_area) ≡ drop (total p books_area) (words_in p books_area)
  books_behind = let one : total p books_area * 1 ≡ total p books_area = omega arith in rw one refl

  pub standing_rest : Zero (drop (total p books_area) (words_in p books_area))
  standing_rest = rw books_behind at (zeros_replicate (drop (total p books_area * 1) (words_in p books_area)) s.books.beyond)

  pub standing_books_lem : words_in p books_area ≡ loaded_of (context_of strict p) ++ drop (total p books_area) (words_in p books_area)
  unfolding context_of
  standing_books_lem =
      sym (entries_of_split 1 (total p books_area) (words_in p books_area))
      ∙ rw (books_behind, flat_stood (lent_wide s.books), append-nil (file_numbers (lent_entries p books_area))) refl

  pub standing_count : total p books_area ≡ book_count (context_of strict p)
  unfolding context_of
  standing_count = omega (arith, lent_length p books_area)

  pub standing_files : loaded_of (context_of strict p) ≡ take (total p books_area) (words_in p books_area)
  standing_files =
      let c = context_of strict p in
      sym (ap (λ (l : List ℕ). take (total p books_area) l) standing_books_lem
      ∙ take_at (loaded_of c) (drop (total p books_area) (words_in p books_area)) (total p books_area) (loaded_length c ∙ sym standing_count))

  -- the constants that stand fit
  pub standing_unmarked : (κ : Limits) → Sized κ constants_area (words_in p constants_area) → Marks (first_over κ (standing_uses (context_of strict p))) 0
  unfolding first_over context_of
  standing_unmarked κ sized =
      let c = context_of strict p in
      over_fits κ (using' constants_area (length c.pool.constants)) [] unmarked refl
      (omega (arith, sized, s.constants.fits, constants_length (lent_entries p constants_area), lent_length p constants_area))

  -- the areas, with an area of zeros for the errors, stand for the context
  pub standing_resting : {κ : Limits} {us : List Use} {e : List ℕ} → Zero e → Marks (first_over κ us) 0
      → Fitted κ
      (book_areas (standing_book strict p) (words_in p 1) (words_in p 2) (words_in p 3) (words_in p 4) (words_in p 5) (words_in p 6) (words_in p 7)
      (words_in p 8)
      (words_in p 9) (words_in p 10) e)
      → Resting κ (standing_book strict p) (words_in p 1) (words_in p 2) (words_in p 3) (words_in p 4) (words_in p 5) (words_in p 6) (words_in p 7)
      (words_in p 8)
      (words_in p 9) (words_in p 10) e (context_of strict p) us
  unfolding context_of
  standing_resting z marks F = record {
    ready = record {
      fitted = record {
        code = F.code;
        constants = F.constants;
        functions = F.functions;
        models = F.models;
        properties = F.properties;
        methods = F.methods;
        locals = F.locals;
        publics = F.publics;
        names = F.names;
        breaks = F.breaks;
        errors = F.errors;
        others = F.others;
      };
      full = marks;
      rest = λ y. record {
        code = rw (append-nil (lent_entries p code_area)) (filled_area s.code);
        sized = nil;
        constants = rw (lent_constants strict p s) (filled_area s.constants);
        marks = safe.parts.globals;
        functions = rw (append-nil (lent_entries p functions_area)) (filled_area s.functions);
        models = rw (append-nil (lent_entries p models_area)) (filled_area s.models);
        properties = rw (append-nil (lent_entries p properties_area), append-nil (lent_entries p properties_area)) (filled_area s.properties);
        methods = rw (methods_back 0 (lent_wide s.methods)) (filled_area s.methods);
        locals = rw (append-nil (lent_entries p context_locals_area)) (filled_area s.locals);
        counted = omega (arith, lent_length p context_locals_area);
        valued = nil;
        first_local = omega (arith, lent_length p context_locals_area);
        named = record { up_to = omega arith; each = λ i h. absurd (omega arith) };
        publics = rw (append-nil (lent_entries p public_names_area), append-nil (lent_entries p public_names_area)) (filled_area s.publics);
        first_public = omega (arith, lent_length p public_names_area);
        prior = record {
          books = lent_wide s.books;
          publics = all_map (λ x h. omega (arith, h.0)) safe.parts.prior.publics;
        };
        file = refl;
        last_index = refl;
        indexed = λ i h. absurd (omega arith);
        entry = refl;
        mode = refl;
        names = none_filled s.scope_names s.scope_names.whole;
        breaks = none_filled s.breaks s.breaks.whole;
        errors = zero_filled z;
      };
    };
  }
