-- Everything is known in the context that a program which passes 2026-01's check spells (`read_known`): each test of the check is one of the claims of
-- `ContextKnown`. Assumes nothing.
use Prim.Native.Nat.{ℕ, zero, suc, ◌≤◌, ◌<◌}
use native.Mathlib.Omega.{arith}
use mathlib.Core.Path.{◌≡◌, refl, sym, ap, subst, ◌∙◌}
use mathlib.Core.Bool.{Bool, true, false, cond, ◌&&◌}
use mathlib.Core.Option.{none}
use mathlib.Core.List.{List, [], ◌∷◌, append-nil}
use lib.ListN.{length, get_or}
use lib.Dec.{T, eqb, leb, leb→le, eqb→eq, eqb_refl}
use Rattle.words.specs.Areas.{width_of, code_area, constants_area, functions_area, models_area, properties_area, methods_area, context_locals_area}
use Rattle.words.specs.Areas.{public_names_area, books_area, instance_word, function_name_word}
use Rattle.words.specs.Object.{constant_of, null_kind, boolean_kind}
use Rattle.words.specs.Opcode.{unword}
use Rattle.definition.specs.Book.{Method}
use Rattle.definition.specs.Program.{Entries}
use Rattle.definition.specs.Within.{All, nil, ◌&◌, Program, total, present, field, marked, instruction_at, all_below, where'}
use Rattle.definition.specs.ProgramCheck.{is_text, is_position, is_mark, instruction_known, value_known, same_key, keys_differ, is_constant, begins_well}
use Rattle.definition.specs.ProgramCheck.{program_fault}
use Rattle.definition.specs.Onto.{lent_entries, constants_of, methods_spelt, context_of}
use Rattle.definition.specs.SharedOnce.{numbered}
use Rattle.definition_laws.proofs.Tests.{Test, first_of, second_of, below_at}
use Rattle.definition_laws.proofs.Ranges.{IsText, IsPosition}
use Rattle.definition_laws.proofs.KnownContext.{Begins, ContextKnown}
use Rattle.definition_laws.proofs.DistinctKeys.{Distinct, none_left, ◌before◌, OtherKey, OtherFile, OtherMethod}
use Rattle.definition_laws.proofs.ReadSafe.{where_of, and_of, all_of, constants_length, all_constants}
use Rattle.definition_laws.proofs.PassingAreas.{Passing, ProgramPasses, check_passes, lent_length, lent_word}

-- lists by their places

distinct_of : {A : Type 0} {R : A → A → Type 0} (l : List A) (d : A) → ((j i : ℕ) → j < i → i < length l → R (get_or l j d) (get_or l i d)) → Distinct R l
distinct_of [] d f = none_left
distinct_of (x ∷ l) d f =
    all_of l d (λ i h. f 0 (suc i) (omega arith) (omega arith)) before distinct_of l d (λ j i h k. f (suc j) (suc i) (omega arith) (omega arith))

-- constants and methods by their entries

constants_at : (es : Entries) (i : ℕ) → i < length es → numbered (constants_of es) i ≡ constant_of (get_or (get_or es i []) 0 0) (get_or (get_or es i []) 1 0)
constants_at [] i h = absurd (omega arith)
constants_at (e ∷ es) zero h = refl
constants_at (e ∷ es) (suc i) h = constants_at es i (omega arith)

methods_all : {es : Entries} → All (λ (e : List ℕ). IsText (get_or e 1 0)) es → All (λ (m : Method). IsText m.name) (methods_spelt es)
methods_all nil = nil
methods_all (p & ps) = p & methods_all ps

methods_other : (e : List ℕ) {es : Entries} → All (OtherKey e) es
    → All (OtherMethod (record { model = get_or e 0 0; name = get_or e 1 0; function = get_or e 2 0 })) (methods_spelt es)
methods_other e nil = nil
methods_other e (p & ps) = record { differ = p.differ } & methods_other e ps

methods_distinct : {es : Entries} → Distinct OtherKey es → Distinct OtherMethod (methods_spelt es)
methods_distinct none_left = none_left
methods_distinct (◌before◌ {x = e} p d) = methods_other e p before methods_distinct d

-- a key test that is false

not_same : (b : Bool) → T (cond b false true) → T b → ⊥
not_same true t u = t
not_same false t u = u

module _ {p : Program} (s : ProgramPasses p) where
  each : {P : List ℕ → Type 0} (area : ℕ) → ((i : ℕ) → i < total p area → P (get_or (lent_entries p area) i [])) → All P (lent_entries p area)
  each area f = all_of (lent_entries p area) [] (λ i h. f i (omega (arith, h, lent_length p area)))

  -- an entry's name, at word 1
  names : (area : ℕ) → Passing p area → 1 < width_of area → ((i : ℕ) → i < total p area → T (is_text (field p area i 1)))
      → All (λ (e : List ℕ). IsText (get_or e 1 0)) (lent_entries p area)
  names area a wide f = each area (λ i h. subst IsText (lent_word a i 1 h wide) (record { holds = f i h }))

  code_known : (i : ℕ) → i < total p code_area
      → Test (instruction_known (unword (get_or (get_or (lent_entries p code_area) i []) 0 0))) × IsPosition
      (get_or (get_or (lent_entries p code_area) i []) 1 0)
  code_known i h =
      let a = instruction_known (instruction_at p.areas i) in
      let b = is_position (field p code_area i 1) in
      let t = s.code.known i h in (
        subst (λ n. Test (instruction_known (unword n))) (lent_word s.code i 0 h (omega arith)) (record { holds = first_of a b t }),
        subst IsPosition (lent_word s.code i 1 h (omega arith)) (record { holds = second_of a b t }),
      )

  function_known : (i : ℕ) → i < total p functions_area
      → Test (is_mark (get_or (get_or (lent_entries p functions_area) i []) instance_word 0))
      × IsText (get_or (get_or (lent_entries p functions_area) i []) function_name_word 0)
  function_known i h =
      let a = is_mark (field p functions_area i instance_word) in
      let b = is_text (field p functions_area i function_name_word) in
      let t = s.functions.known i h in (
        subst (λ n. Test (is_mark n)) (lent_word s.functions i instance_word h (omega arith)) (record { holds = first_of a b t }),
        subst IsText (lent_word s.functions i function_name_word h (omega arith)) (record { holds = second_of a b t }),
      )

  local_known : (i : ℕ) → i < total p context_locals_area → IsText (get_or (get_or (lent_entries p context_locals_area) i []) 1 0)
      × (get_or (get_or (lent_entries p context_locals_area) i []) 2 0 ≡ 0 → get_or (get_or (lent_entries p context_locals_area) i []) 3 0 ≡ 0)
  local_known i h =
      let f = field p context_locals_area i in
      let a = is_text (f 1) in
      let b = where' (eqb (f 2) 0) (eqb (f 3) 0) in
      let t = s.locals.known i h in
      let w : (k : ℕ) → k < 4 → f k ≡ get_or (get_or (lent_entries p context_locals_area) i []) k 0 = λ k l. lent_word s.locals i k h l in (
        subst IsText (w 1 (omega arith)) (record { holds = first_of a b t }),
        λ e. sym (w 3 (omega arith)) ∙ eqb→eq (f 3) 0 (where_of (eqb (f 2) 0) (eqb (f 3) 0) (second_of a b t)
            (subst (λ n. T (eqb n 0)) (sym (w 2 (omega arith) ∙ e)) tt)),
      )

  constant_known : (i : ℕ) → i < total p constants_area
      → Test (value_known (get_or (get_or (lent_entries p constants_area) i []) 0 0) (get_or (get_or (lent_entries p constants_area) i []) 1 0))
  constant_known i h =
      subst (λ n. Test (value_known n (get_or (get_or (lent_entries p constants_area) i []) 1 0))) (lent_word s.constants i 0 h (omega arith))
      (subst (λ n. Test (value_known (field p constants_area i 0) n)) (lent_word s.constants i 1 h (omega arith)) (record { holds = s.constants.known i h }))

  -- null, true, false
  begins : Begins (constants_of (lent_entries p constants_area))
  begins = record {
    long = omega (arith, few, constants_length (lent_entries p constants_area), lent_length p constants_area);
    null = first 0 null_kind 0 (omega arith) (second_of z₀ z₁ t₂);
    yes' = first 1 boolean_kind 1 (omega arith) (second_of (z₀ && z₁) z₂ t₁);
    no' = first 2 boolean_kind 0 (omega arith) (second_of (z₀ && z₁ && z₂) z₃ t₀);
  }
    where
      z₀ : Bool
      z₀ = leb 3 (present p constants_area)

      z₁ : Bool
      z₁ = is_constant p 0 null_kind 0

      z₂ : Bool
      z₂ = is_constant p 1 boolean_kind 1

      z₃ : Bool
      z₃ = is_constant p 2 boolean_kind 0

      t₀ : T (z₀ && z₁ && z₂ && z₃)
      t₀ = first_of (begins_well p) (eqb (marked p.areas (present p constants_area)) p.globals) s.constants.whole

      t₁ : T (z₀ && z₁ && z₂)
      t₁ = first_of (z₀ && z₁ && z₂) z₃ t₀

      t₂ : T (z₀ && z₁)
      t₂ = first_of (z₀ && z₁) z₂ t₁

      few : 3 ≤ total p constants_area
      few = let x : 3 ≤ present p constants_area = leb→le 3 (present p constants_area) (first_of z₀ z₁ t₂) in omega (arith, x)

      first : (i kind v : ℕ) → i < 3 → T (is_constant p i kind v) → numbered (constants_of (lent_entries p constants_area)) i ≡ constant_of kind v
      first i kind v h t =
          let l : i < total p constants_area = omega (arith, h, few) in
          let a = eqb (field p constants_area i 0) kind in
          let b = eqb (field p constants_area i 1) v in
          let x = sym (lent_word s.constants i 0 l (omega arith)) ∙ eqb→eq (field p constants_area i 0) kind (first_of a b t) in
          let y = sym (lent_word s.constants i 1 l (omega arith)) ∙ eqb→eq (field p constants_area i 1) v (second_of a b t) in
          constants_at (lent_entries p constants_area) i (omega (arith, l, lent_length p constants_area))
          ∙ ap (λ n. constant_of n (get_or (get_or (lent_entries p constants_area) i []) 1 0)) x ∙ ap (λ n. constant_of kind n) y

  -- keys

  key_differs : (area : ℕ) → Passing p area → T (keys_differ p area) → (i j : ℕ) → j < i → i < total p area → T (same_key p area i j) → ⊥
  key_differs area a t i j h k u =
      let q : i < present p area = let x = a.fits in omega (arith, x, k) in
      let r = below_at (present p area) (λ i. all_below i (λ j. cond (same_key p area i j) false true)) t i q in
      not_same (same_key p area i j) (below_at i (λ j. cond (same_key p area i j) false true) r j h) u

  same_field : (area i j k : ℕ) → Passing p area → i < total p area → j < total p area → k < width_of area
      → get_or (get_or (lent_entries p area) j []) k 0 ≡ get_or (get_or (lent_entries p area) i []) k 0 → T (eqb (field p area i k) (field p area j k))
  same_field area i j k a h l wide e =
      let x : field p area i k ≡ field p area j k = lent_word a i k h wide ∙ sym e ∙ sym (lent_word a j k l wide) in
      subst (λ n. T (eqb (field p area i k) n)) x (eqb_refl (field p area i k))

  pair_distinct : (area : ℕ) → Passing p area → 1 < width_of area
      → ((i j : ℕ) → T (eqb (field p area i 0) (field p area j 0) && eqb (field p area i 1) (field p area j 1)) → T (same_key p area i j))
      → T (keys_differ p area) → Distinct OtherKey (lent_entries p area)
  pair_distinct area a wide f t = distinct_of (lent_entries p area) [] (λ j i h k.
      let l : i < total p area = omega (arith, k, lent_length p area) in
      record {
        differ = λ x y. key_differs area a t i j h l (f i j (and_of (eqb (field p area i 0) (field p area j 0)) (eqb (field p area i 1) (field p area j 1))
            (same_field area i j 0 a l (omega (arith, h, l)) (omega arith) x) (same_field area i j 1 a l (omega (arith, h, l)) wide y)));
      })

  books_distinct : Distinct OtherFile (lent_entries p books_area)
  books_distinct = distinct_of (lent_entries p books_area) [] (λ j i h k.
      let l : i < total p books_area = omega (arith, k, lent_length p books_area) in
      record {
        differ = λ x. key_differs books_area s.books s.books.whole i j h l
            (and_of (eqb (field p books_area i 0) (field p books_area j 0)) true
            (same_field books_area i j 0 s.books l (omega (arith, h, l)) (omega arith) x) tt);
      })

  passing_known : (strict : Bool) → ContextKnown (context_of strict p)
  unfolding context_of
  passing_known strict = record {
    prior = record {
      code = each code_area code_known;
      functions = each functions_area function_known;
      models = names models_area s.models (omega arith) (λ i h. s.models.known i h);
      properties = names properties_area s.properties (omega arith) (λ i h. s.properties.known i h);
      locals = each context_locals_area local_known;
      publics = names public_names_area s.publics (omega arith) (λ i h. s.publics.known i h);
      books = each books_area (λ i h. subst IsText (lent_word s.books i 0 h (omega arith)) (record { holds = s.books.known i h }));
    };
    parts = record {
      constants = all_constants (each constants_area constant_known);
      functions = nil;
      models = nil;
      methods = methods_all (names methods_area s.methods (omega arith) (λ i h. s.methods.known i h));
      distinct = methods_distinct (pair_distinct methods_area s.methods (omega arith) (λ i j t. t) s.methods.whole);
      names = nil;
    };
    begins = begins;
    assemblies = nil;
    publics = subst (Distinct OtherKey) (sym (append-nil (lent_entries p public_names_area)))
        (pair_distinct public_names_area s.publics (omega arith) (λ i j t. t) s.publics.whole);
    books = subst (Distinct OtherFile) (sym (append-nil (lent_entries p books_area))) books_distinct;
  }

-- where the check passes
pub read_known : (strict : Bool) (p : Program) → program_fault p ≡ none → ContextKnown (context_of strict p)
read_known strict p q = passing_known (check_passes p q) strict
