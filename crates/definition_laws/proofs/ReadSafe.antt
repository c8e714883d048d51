-- A program that passes the check is a context that keeps within itself (`read_safe`) and lies within the lengths that were lent (`read_stands`), so that what
-- is proved of a delivery onto a standing context (`standing_answer_keeps`) holds of laying on. Each test of the check is one of the claims; function by
-- function for the code. Assumes nothing.
use Prim.Native.Nat.{ℕ, zero, suc, ◌+◌, ◌≤◌, ◌<◌}
use native.Mathlib.Omega.{arith}
use native.Mathlib.Decide.{dec_lt}
use mathlib.Core.Path.{◌≡◌, refl, ap, subst, ◌∙◌}
use mathlib.Core.Logic.{◌⊎◌, inl, inr}
use mathlib.Core.Bool.{Bool, true, false, cond, ◌&&◌, ◌||◌}
use mathlib.Core.Option.{none}
use mathlib.Core.List.{List, [], ◌∷◌}
use lib.ListN.{length, get_or, length-map, get_or-map}
use lib.Dec.{T, eqb, ltb, leb, leb→le, ltb→lt, eqb→eq, lt→ltb, le→leb, eqb_refl}
use Rattle.words.specs.Areas.{widths, width_of, entries_in, code_area, constants_area, functions_area, models_area, properties_area, methods_area}
use Rattle.words.specs.Areas.{context_locals_area, public_names_area, books_area, locals_word, rescue_word, start_word, length_word, function_file_word}
use Rattle.words.specs.Object.{Constant, constant_of, model_kind, function_kind, null_kind, boolean_kind}
use Rattle.words.specs.Opcode.{Instruction, unword}
use Rattle.definition.specs.Uses.{limit_of}
use Rattle.definition.specs.Book.{Method}
use Rattle.definition.specs.Program.{Entries}
use Rattle.definition.specs.Answer.{limits_of}
use Rattle.definition.specs.Within.{All, nil, ◌&◌, Among, here, there, Program, lengths_of, total, present, field, instruction_at, start_of, length_of}
use Rattle.definition.specs.Within.{locals_of}
use Rattle.definition.specs.Within.{Class, Position, Slot, Read, Pool, ContextSlot, Other, class_of, bound_by_totals, bound_by_function, has_instruction}
use Rattle.definition.specs.Within.{where', all_below, marked}
use Rattle.definition.specs.ProgramCheck.{is_constant, program_fault}
use Rattle.definition.specs.Onto.{lent_entries, constants_of, marks_from, methods_spelt, prior_of, context_of}
use Rattle.definition_laws.proofs.Safe.{Within, Fits, Named, EntryWithin, LooseBy, Loose, below, standing_counts, StandingSafe, PriorSafe, PriorWide}
use Rattle.definition_laws.proofs.Safe.{ProgramSafe}
use Rattle.definition_laws.proofs.Tests.{first_of, second_of, below_at}
use Rattle.definition_laws.proofs.Counts.{standing_in}
use Rattle.definition_laws.proofs.Delivery.{limits_at, Stands}
use Rattle.definition_laws.proofs.PassingAreas.{Passing, ProgramPasses, check_passes, lent_length, lent_wide, lent_word}

-- tests that hold

pub where_of : (a b : Bool) → T (where' a b) → T a → T b
where_of true b t s = t
where_of false b t s = absurd s

or_of : (a b : Bool) → T (a || b) → T a ⊎ T b
or_of true b t = inl tt
or_of false b t = inr t

pub and_of : (a b : Bool) → T a → T b → T (a && b)
and_of true b s t = t
and_of false b s t = absurd s

equal_of : (m n : ℕ) → m ≡ n → T (eqb m n)
equal_of m n e = subst (λ k. T (eqb m k)) e (eqb_refl m)

-- lists of entries, constants and methods

pub all_of : {A : Type 0} {P : A → Type 0} (l : List A) (d : A) → ((i : ℕ) → i < length l → P (get_or l i d)) → All P l
all_of [] d f = nil
all_of (x ∷ l) d f = f 0 (omega arith) & all_of l d (λ i h. f (suc i) (omega arith))

pub constants_length : (es : Entries) → length (constants_of es) ≡ length es
constants_length [] = refl
constants_length (e ∷ es) = ap suc (constants_length es)

pub all_constants : {P : Constant → Type 0} {es : Entries} → All (λ (e : List ℕ). P (constant_of (get_or e 0 0) (get_or e 1 0))) es → All P (constants_of es)
all_constants nil = nil
all_constants (p & ps) = p & all_constants ps

pub methods_length : (es : Entries) → length (methods_spelt es) ≡ length es
methods_length [] = refl
methods_length (e ∷ es) = ap suc (methods_length es)

all_methods : {P : Method → Type 0} {es : Entries}
    → All (λ (e : List ℕ). P (record { model = get_or e 0 0; name = get_or e 1 0; function = get_or e 2 0 })) es → All P (methods_spelt es)
all_methods nil = nil
all_methods (p & ps) = p & all_methods ps

marks_below : (es : Entries) (i n : ℕ) → i + length es ≤ n → All (λ k. k < n) (marks_from i es)
marks_below [] i n h = nil
marks_below (e ∷ es) i n h = go (eqb (get_or e 2 0) 1) (marks_below es (i + 1) n (omega arith))
  where
    go : (b : Bool) → All (λ k. k < n) (marks_from (i + 1) es) → All (λ k. k < n) (cond b (i ∷ marks_from (i + 1) es) (marks_from (i + 1) es))
    go true r = let low : i < n = omega arith in low & r
    go false r = r

among_below : (n i : ℕ) → i < n → Among i (below n)
among_below zero i h = absurd (omega arith)
among_below (suc n) i h = go (dec_lt i n) (λ k. among_below n i k)
  where
    go : Dec (i < n) → (i < n → Among i (below n)) → Among i (n ∷ below n)
    go (yes k) r = there (r k)
    go (no k) r = let e : i ≡ n = omega arith in subst (λ m. Among i (m ∷ below n)) e here

-- operands

loose_by : (k : Class) (p : Program) (n : ℕ) {K C : ℕ} → K ≡ total p constants_area → C ≡ total p context_locals_area → T (bound_by_totals k p n)
    → LooseBy k K C n
loose_by Pool p n a b t = let h = ltb→lt n (total p constants_area) t in omega (arith, h)
loose_by ContextSlot p n a b t = let h = ltb→lt n (total p context_locals_area) t in omega (arith, h)
loose_by Position p n a b t = tt
loose_by Slot p n a b t = tt
loose_by Read p n a b t = tt
loose_by Other p n a b t = tt

-- of function j, whose entry is f; every index is taken for that of a `this` read
within_by : (k : Class) (p : Program) (j i n : ℕ) (f : List ℕ) {K C : ℕ} → K ≡ total p constants_area → C ≡ total p context_locals_area
    → length_of p j ≡ get_or f length_word 0 → locals_of p j ≡ get_or f locals_word 0 → i < get_or f length_word 0
    → T (bound_by_totals k p n) → T (bound_by_function k p j n) → Within k (standing_counts K C f) i n
within_by Position p j i n f a b x y h s t = let q = leb→le n (length_of p j) t in omega (arith, q)
within_by Slot p j i n f a b x y h s t = let q = ltb→lt n (locals_of p j) t in omega (arith, q)
within_by Read p j i n f a b x y h s t = go (or_of (ltb n (locals_of p j)) (eqb n 0) t) (dec_lt 0 (get_or f locals_word 0))
  where
    go : T (ltb n (locals_of p j)) ⊎ T (eqb n 0) → Dec (0 < get_or f locals_word 0)
        → (n < get_or f locals_word 0) ⊎ ((n ≡ 0) × (get_or f locals_word 0 ≡ 0) × Among i (below (get_or f length_word 0)))
    go (inl u) d = let q = ltb→lt n (locals_of p j) u in inl (omega (arith, q))
    go (inr u) (yes d) = let q = eqb→eq n 0 u in inl (omega (arith, q))
    go (inr u) (no d) = let q = eqb→eq n 0 u in inr (q, omega arith, among_below (get_or f length_word 0) i h)
within_by Pool p j i n f a b x y h s t = let q = ltb→lt n (total p constants_area) s in omega (arith, q)
within_by ContextSlot p j i n f a b x y h s t = let q = ltb→lt n (total p context_locals_area) s in omega (arith, q)
within_by Other p j i n f a b x y h s t = tt

module _ {p : Program} (s : ProgramPasses p) where
  -- entry i of an area
  abbrev entry_at : ℕ → ℕ → List ℕ
  entry_at area i = get_or (lent_entries p area) i []

  each : {P : List ℕ → Type 0} (area : ℕ) → ((i : ℕ) → i < total p area → P (entry_at area i)) → All P (lent_entries p area)
  each area f = all_of (lent_entries p area) [] (λ i h. f i (omega (arith, lent_length p area)))

  abbrev K : ℕ
  K = length (constants_of (lent_entries p constants_area))

  constants_counted : K ≡ total p constants_area
  constants_counted = constants_length (lent_entries p constants_area) ∙ lent_length p constants_area

  abbrev C : ℕ
  C = total p context_locals_area

  abbrev M : ℕ
  M = length (lent_entries p models_area) + 0

  abbrev F : ℕ
  F = length (lent_entries p functions_area) + 0

  abbrev A : ℕ
  A = length (lent_entries p books_area) + 0

  -- (`+ 0`: nothing is added to what stands)

  -- area 1
  instruction_same : (i : ℕ) → i < total p code_area → instruction_at p.areas i ≡ unword (get_or (entry_at code_area i) 0 0)
  instruction_same i h = ap unword (lent_word s.code i 0 h (omega arith))

  abbrev by_totals : ℕ → Bool
  by_totals i = let x = instruction_at p.areas i in bound_by_totals (class_of x.opcode) p x.operand

  abbrev by_function : ℕ → ℕ → Bool
  by_function i j = let x = instruction_at p.areas i in where' (has_instruction p j i) (bound_by_function (class_of x.opcode) p j x.operand)

  code_totals : (i : ℕ) → i < total p code_area → T (by_totals i)
  code_totals i h = first_of (by_totals i) (all_below (present p functions_area) (by_function i)) (s.code.bounds i h)

  code_function : (i j : ℕ) → i < total p code_area → j < total p functions_area → T (by_function i j)
  code_function i j h k =
      below_at (present p functions_area) (by_function i)
      (second_of (by_totals i) (all_below (present p functions_area) (by_function i)) (s.code.bounds i h)) j (omega (arith, s.functions.fits))

  code_loose_lem : (i : ℕ) → i < total p code_area → Loose K C (unword (get_or (entry_at code_area i) 0 0))
  code_loose_lem i h =
      subst (λ (x : Instruction). Loose K C x) (instruction_same i h)
      (loose_by (class_of (instruction_at p.areas i).opcode) p (instruction_at p.areas i).operand constants_counted refl (code_totals i h))

  -- area 3
  function_word_lem : (j k : ℕ) → j < total p functions_area → k < 8 → field p functions_area j k ≡ get_or (entry_at functions_area j) k 0
  function_word_lem j k h q = lent_word s.functions j k h q

  module _ (j : ℕ) (h : j < total p functions_area) where
    abbrev f : List ℕ
    f = entry_at functions_area j

    abbrev is_inside : Bool
    is_inside = where' (ltb 0 (length_of p j)) (leb (start_of p j + length_of p j) (total p code_area))

    abbrev rescues : Bool
    rescues = leb (field p functions_area j rescue_word) (length_of p j)

    abbrev of_book : Bool
    of_book = ltb (field p functions_area j function_file_word) (total p books_area)

    long : length_of p j ≡ get_or f length_word 0
    long = function_word_lem j length_word h (omega arith)

    starts : start_of p j ≡ get_or f start_word 0
    starts = function_word_lem j start_word h (omega arith)

    inside : 0 < get_or f length_word 0 → get_or f start_word 0 + get_or f length_word 0 ≤ total p code_area
    inside k =
        let t = first_of is_inside rescues (first_of (is_inside && rescues) of_book (s.functions.bounds j h)) in
        let q = leb→le (start_of p j + length_of p j) (total p code_area)
        (where_of (ltb 0 (length_of p j)) (leb (start_of p j + length_of p j) (total p code_area)) t (lt→ltb 0 (length_of p j) (omega (arith, long)))) in
        omega (arith, q, long, starts)

    function_fits : (i : ℕ) → i < get_or f length_word 0
        → Fits (standing_counts K C f) i (unword (get_or (entry_at code_area (get_or f start_word 0 + i)) 0 0))
    function_fits i k =
        let n = get_or f start_word 0 + i in
        let there' : n < total p code_area = omega (arith, inside (omega arith)) in
        let has : T (has_instruction p j n) = and_of (leb (start_of p j) n) (ltb n (start_of p j + length_of p j))
        (le→leb (start_of p j) n (omega (arith, starts))) (lt→ltb n (start_of p j + length_of p j) (omega (arith, starts, long))) in
        let x = instruction_at p.areas n in
        subst (λ (x : Instruction). Fits (standing_counts K C f) i x) (instruction_same n there')
        (within_by (class_of x.opcode) p j i x.operand f constants_counted refl long (function_word_lem j locals_word h (omega arith)) k
        (code_totals n there') (where_of (has_instruction p j n) (bound_by_function (class_of x.opcode) p j x.operand) (code_function n j there' h) has))

    function_safe : StandingSafe K C A (lent_entries p code_area) f
    function_safe = record {
      inside = λ k. omega (arith, inside k, lent_length p code_area);
      fits = function_fits;
      rescue =
          let t = second_of is_inside rescues (first_of (is_inside && rescues) of_book (s.functions.bounds j h)) in
          let q = leb→le (field p functions_area j rescue_word) (length_of p j) t in
          omega (arith, q, long, function_word_lem j rescue_word h (omega arith));
      file =
          let q = ltb→lt (field p functions_area j function_file_word) (total p books_area)
          (second_of (is_inside && rescues) of_book (s.functions.bounds j h)) in
          omega (arith, q, function_word_lem j function_file_word h (omega arith), lent_length p books_area);
    }

  -- areas 4, 5, 7 and 8

  model_safe : (i : ℕ) → i < total p models_area → get_or (entry_at models_area i) 0 0 < A
  model_safe i h =
      let q = ltb→lt (field p models_area i 0) (total p books_area) (s.models.bounds i h) in
      omega (arith, q, lent_word s.models i 0 h (omega arith), lent_length p books_area)

  property_safe : (i : ℕ) → i < total p properties_area → get_or (entry_at properties_area i) 0 0 < M
  property_safe i h =
      let q = ltb→lt (field p properties_area i 0) (total p models_area) (s.properties.bounds i h) in
      omega (arith, q, lent_word s.properties i 0 h (omega arith), lent_length p models_area)

  local_safe : (i : ℕ) → i < total p context_locals_area → (get_or (entry_at context_locals_area i) 0 0 < A) × (get_or (entry_at context_locals_area i) 2 0 ≤ 1)
      × (get_or (entry_at context_locals_area i) 2 0 ≡ 1 → get_or (entry_at context_locals_area i) 3 0 < K)
  local_safe i h =
      let a = ltb (field p context_locals_area i 0) (total p books_area) in
      let b = ltb (field p context_locals_area i 2) 2 in
      let d = where' (eqb (field p context_locals_area i 2) 1) (ltb (field p context_locals_area i 3) (total p constants_area)) in
      let t : T (a && b) = first_of (a && b) d (s.locals.bounds i h) in
      let file = ltb→lt (field p context_locals_area i 0) (total p books_area) (first_of a b t) in
      let mark = ltb→lt (field p context_locals_area i 2) 2 (second_of a b t) in
      let word₂ = lent_word s.locals i 2 h (omega arith) in (
        omega (arith, file, lent_word s.locals i 0 h (omega arith), lent_length p books_area),
        omega (arith, mark, word₂),
        λ e. let q = ltb→lt (field p context_locals_area i 3) (total p constants_area)
            (where_of (eqb (field p context_locals_area i 2) 1) (ltb (field p context_locals_area i 3) (total p constants_area))
            (second_of (a && b) d (s.locals.bounds i h)) (equal_of (field p context_locals_area i 2) 1 (word₂ ∙ e))) in
            omega (arith, q, lent_word s.locals i 3 h (omega arith), constants_counted),
      )

  public_safe : (i : ℕ) → i < total p public_names_area → (get_or (entry_at public_names_area i) 0 0 < A) × (get_or (entry_at public_names_area i) 2 0 < K)
  public_safe i h =
      let a = ltb (field p public_names_area i 0) (total p books_area) in
      let b = ltb (field p public_names_area i 2) (total p constants_area) in
      let file = ltb→lt (field p public_names_area i 0) (total p books_area) (first_of a b (s.publics.bounds i h)) in
      let constant = ltb→lt (field p public_names_area i 2) (total p constants_area) (second_of a b (s.publics.bounds i h)) in (
        omega (arith, file, lent_word s.publics i 0 h (omega arith), lent_length p books_area),
        omega (arith, constant, lent_word s.publics i 2 h (omega arith), constants_counted),
      )

  -- areas 2 and 6

  constant_safe : (i : ℕ) → i < total p constants_area → Named M F (constant_of (get_or (entry_at constants_area i) 0 0)
      (get_or (entry_at constants_area i) 1 0))
  constant_safe i h =
      let kind = field p constants_area i 0 in
      let value = field p constants_area i 1 in
      let a = where' (eqb kind model_kind) (ltb value (total p models_area)) in
      let b = where' (eqb kind function_kind) (ltb value (total p functions_area)) in
      let t : T (a && b) = first_of (a && b) (ltb (field p constants_area i 2) 2) (s.constants.bounds i h) in
      let word₀ = lent_word s.constants i 0 h (omega arith) in
      let word₁ = lent_word s.constants i 1 h (omega arith) in (
        λ e. let q = ltb→lt value (total p models_area)
            (where_of (eqb kind model_kind) (ltb value (total p models_area)) (first_of a b t) (equal_of kind model_kind (word₀ ∙ e))) in
            omega (arith, q, word₁, lent_length p models_area),
        λ e. let q = ltb→lt value (total p functions_area)
            (where_of (eqb kind function_kind) (ltb value (total p functions_area)) (second_of a b t) (equal_of kind function_kind (word₀ ∙ e))) in
            omega (arith, q, word₁, lent_length p functions_area),
      )

  method_safe : (i : ℕ) → i < total p methods_area → (get_or (entry_at methods_area i) 0 0 < M) × (get_or (entry_at methods_area i) 2 0 < F)
  method_safe i h =
      let a = ltb (field p methods_area i 0) (total p models_area) in
      let b = ltb (field p methods_area i 2) (total p functions_area) in
      let model = ltb→lt (field p methods_area i 0) (total p models_area) (first_of a b (s.methods.bounds i h)) in
      let function = ltb→lt (field p methods_area i 2) (total p functions_area) (second_of a b (s.methods.bounds i h)) in (
        omega (arith, model, lent_word s.methods i 0 h (omega arith), lent_length p models_area),
        omega (arith, function, lent_word s.methods i 2 h (omega arith), lent_length p functions_area),
      )

  -- the entry point, and the first three constants
  entry_safe : EntryWithin F p.entry_point
  entry_safe = go (or_of (ltb n (total p functions_area)) (eqb n 0 && eqb (total p functions_area) 0) s.functions.whole)
    where
      n : ℕ
      n = p.entry_point

      go : T (ltb n (total p functions_area)) ⊎ T (eqb n 0 && eqb (total p functions_area) 0) → EntryWithin F n
      go (inl t) = let q = ltb→lt n (total p functions_area) t in inl (omega (arith, q, lent_length p functions_area))
      go (inr t) =
          let q = eqb→eq n 0 (first_of (eqb n 0) (eqb (total p functions_area) 0) t) in
          let r = eqb→eq (total p functions_area) 0 (second_of (eqb n 0) (eqb (total p functions_area) 0) t) in
          inr (q, omega (arith, r, lent_length p functions_area))

  three_constants_lem : 3 ≤ K
  three_constants_lem =
      let a = leb 3 (present p constants_area) in
      let b = is_constant p 0 null_kind 0 in
      let c = is_constant p 1 boolean_kind 1 in
      let d = is_constant p 2 boolean_kind 0 in
      let t : T (a && b && c && d) = first_of (a && b && c && d) (eqb (marked p.areas (present p constants_area)) p.globals) s.constants.whole in
      let q = leb→le 3 (present p constants_area) (first_of a b (first_of (a && b) c (first_of (a && b && c) d t))) in
      omega (arith, q, constants_counted)

  prior_safe : PriorSafe K C M A (prior_of p)
  prior_safe = record {
    code = each code_area code_loose_lem;
    functions = each functions_area function_safe;
    models = each models_area model_safe;
    properties = each properties_area property_safe;
    locals = each context_locals_area local_safe;
    publics = each public_names_area public_safe;
  }

  prior_wide : PriorWide (prior_of p)
  prior_wide = record {
    code = lent_wide s.code;
    functions = lent_wide s.functions;
    models = lent_wide s.models;
    properties = lent_wide s.properties;
    locals = lent_wide s.locals;
    publics = lent_wide s.publics;
    books = lent_wide s.books;
  }

  passing_safe : (strict : Bool) → ProgramSafe (context_of strict p)
  unfolding context_of
  passing_safe strict = record {
    wide = prior_wide;
    parts = record {
      prior = prior_safe;
      functions = nil;
      constants = all_constants (each constants_area constant_safe);
      globals = marks_below (lent_entries p constants_area) 0 K (omega (arith, constants_length (lent_entries p constants_area)));
      models = nil;
      values = nil;
      names = nil;
      methods = all_methods (each methods_area method_safe);
      publics = nil;
      entry = entry_safe;
    };
    pool = three_constants_lem;
    counted = omega (arith, lent_length p context_locals_area);
  }

-- where the check passes
pub read_safe : (strict : Bool) (p : Program) → program_fault p ≡ none → ProgramSafe (context_of strict p)
read_safe strict p q = passing_safe (check_passes p q) strict

module _ (strict : Bool) {p : Program} (s : ProgramPasses p) (thirteen : length p.areas ≡ 13) where
  limit_same : (area : ℕ) → area < 13 → limit_of (limits_of (lengths_of p.areas)) area ≡ entries_in (width_of area) (length (get_or p.areas area []))
  limit_same area h =
      limits_at widths (lengths_of p.areas) area h (omega (arith, length-map p.areas (λ (l : List ℕ). length l), thirteen))
      ∙ ap (λ n. entries_in (width_of area) n) (get_or-map (λ (l : List ℕ). length l) p.areas area [])

  -- what stands of an area that passes, where so many entries are counted
  fits_by : (area n : ℕ) → area < 13 → Passing p area → n ≡ total p area → n ≤ limit_of (limits_of (lengths_of p.areas)) area
  fits_by area n h a e = omega (arith, limit_same area h, a.fits)

  counts_fit : (area : ℕ) → standing_in (context_of strict p) area ≤ limit_of (limits_of (lengths_of p.areas)) area
  unfolding context_of
  counts_fit zero = omega arith
  counts_fit (suc zero) = fits_by code_area _ (omega arith) s.code (omega (arith, lent_length p code_area))
  counts_fit (suc (suc zero)) = fits_by constants_area _ (omega arith) s.constants (constants_counted s)
  counts_fit (suc (suc (suc zero))) = fits_by functions_area _ (omega arith) s.functions (omega (arith, lent_length p functions_area))
  counts_fit (suc (suc (suc (suc zero)))) = fits_by models_area _ (omega arith) s.models (omega (arith, lent_length p models_area))
  counts_fit (suc (suc (suc (suc (suc zero))))) = fits_by properties_area _ (omega arith) s.properties (omega (arith, lent_length p properties_area))
  counts_fit (suc (suc (suc (suc (suc (suc zero)))))) =
      fits_by methods_area _ (omega arith) s.methods (methods_length (lent_entries p methods_area) ∙ lent_length p methods_area)
  counts_fit (suc (suc (suc (suc (suc (suc (suc zero))))))) = fits_by context_locals_area _ (omega arith) s.locals refl
  counts_fit (suc (suc (suc (suc (suc (suc (suc (suc zero)))))))) =
      fits_by public_names_area _ (omega arith) s.publics (omega (arith, lent_length p public_names_area))
  counts_fit (suc (suc (suc (suc (suc (suc (suc (suc (suc zero))))))))) = omega arith
  counts_fit (suc (suc (suc (suc (suc (suc (suc (suc (suc (suc zero)))))))))) = omega arith
  counts_fit (suc (suc (suc (suc (suc (suc (suc (suc (suc (suc (suc zero))))))))))) = omega arith
  counts_fit (suc (suc (suc (suc (suc (suc (suc (suc (suc (suc (suc (suc zero)))))))))))) =
      fits_by books_area _ (omega arith) s.books (omega (arith, lent_length p books_area))
  counts_fit (suc (suc (suc (suc (suc (suc (suc (suc (suc (suc (suc (suc (suc n))))))))))))) = omega arith

  passing_stands : Stands (lengths_of p.areas) (context_of strict p)
  unfolding context_of
  passing_stands = record { safe = passing_safe s strict; functions = nil; fits = counts_fit }

pub read_stands : (strict : Bool) (p : Program) → length p.areas ≡ 13 → program_fault p ≡ none → Stands (lengths_of p.areas) (context_of strict p)
read_stands strict p thirteen q = passing_stands strict (check_passes p q) thirteen
