-- What it says of an area that it passes 2026-01's program check (`Passing`), and of a program that it passes as a whole (`ProgramPasses`, `check_passes`). The
-- entries of such an area are whole, fill it up to zeros, and their words are the area's cells. At any width, by induction over the entries. Assumes nothing.
use Prim.Native.Nat.{ℕ, zero, suc, ◌+◌, ◌-◌, ◌*◌, ◌/◌, ◌≤◌, ◌<◌}
use native.Mathlib.Nat.{zero-mul, suc-mul, add_comm, mul-le-mul_right, div-mul-le_self}
use native.Mathlib.Omega.{arith}
use mathlib.Core.Path.{◌≡◌, refl, sym, ap, subst, ◌∙◌}
use mathlib.Core.Logic.{◌≢◌}
use mathlib.Core.Bool.{Bool, true, false, cond, ◌&&◌}
use mathlib.Core.Option.{none, some}
use mathlib.Core.List.{List, [], ◌∷◌, ◌++◌, append_assoc}
use lib.ListN.{length, get_or, take, drop, replicate, take-append-drop, length-append, length-drop}
use lib.Seq.{drop-drop, length-take-le}
use lib.Dec.{T, eqb, leb, leb→le, eqb→eq}
use Rattle.words.specs.Areas.{width_of, entries_in, code_area, constants_area, functions_area, models_area, properties_area, methods_area, context_locals_area}
use Rattle.words.specs.Areas.{public_names_area, scope_names_area, breaks_area, errors_area, books_area}
use Rattle.definition.specs.Program.{flat, filled}
use Rattle.definition.specs.Within.{All, nil, ◌&◌, Program, total, present, field, all_below, entry_bound, area_bound}
use Rattle.definition.specs.ProgramCheck.{entry_known, whole_known, zeros, area_fine, first_fault, program_fault}
use Rattle.definition.specs.Onto.{entries_of, lent_entries}
use Rattle.definition_laws.proofs.Tests.{first_of, second_of, below_at}
use Rattle.definition_laws.proofs.Cells.{Wide, filled_word}

-- an area that passes
pub record Passing (p : Program) (area : ℕ) : Type 0 where
  pub fits : total p area ≤ entries_in (width_of area) (length (get_or p.areas area []))
  pub bounds : (i : ℕ) → i < total p area → T (entry_bound p area i)
  pub known : (i : ℕ) → i < total p area → T (entry_known p area i)
  pub whole : T (whole_known p area)
  pub beyond : T (zeros (drop (total p area * width_of area) (get_or p.areas area [])))

fine_passing : (p : Program) (area : ℕ) → T (area_fine p area) → Passing p area
unfolding area_fine area_bound
fine_passing p area t = record {
  fits = fits;
  bounds = λ i h. below_at (present p area) (entry_bound p area) (second_of a b t₂) i (omega (arith, fits));
  known = λ i h. below_at (present p area) (entry_known p area) (second_of (a && b) c t₃) i (omega (arith, fits));
  whole = second_of (a && b && c) d t₄;
  beyond = second_of (a && b && c && d) e t;
}
  where
    a : Bool
    a = leb (total p area) (entries_in (width_of area) (length (get_or p.areas area [])))

    b : Bool
    b = area_bound p area

    c : Bool
    c = all_below (present p area) (entry_known p area)

    d : Bool
    d = whole_known p area

    e : Bool
    e = zeros (drop (total p area * width_of area) (get_or p.areas area []))

    t₄ : T (a && b && c && d)
    t₄ = first_of (a && b && c && d) e t

    t₃ : T (a && b && c)
    t₃ = first_of (a && b && c) d t₄

    t₂ : T (a && b)
    t₂ = first_of (a && b) c t₃

    fits : total p area ≤ entries_in (width_of area) (length (get_or p.areas area []))
    fits = leb→le (total p area) (entries_in (width_of area) (length (get_or p.areas area []))) (first_of a b t₂)

-- a program that passes: every area that is asked
pub record ProgramPasses (p : Program) : Type 0 where
  pub code : Passing p code_area
  pub constants : Passing p constants_area
  pub functions : Passing p functions_area
  pub models : Passing p models_area
  pub properties : Passing p properties_area
  pub methods : Passing p methods_area
  pub locals : Passing p context_locals_area
  pub publics : Passing p public_names_area
  pub scope_names : Passing p scope_names_area
  pub breaks : Passing p breaks_area
  pub books : Passing p books_area

no_fault : (p : Program) (areas : List ℕ) → first_fault p areas ≡ none → All (Passing p) areas
no_fault p [] q = nil
no_fault p (a ∷ as') q = go (area_fine p a) refl (λ r. no_fault p as' r) q
  where
    go : (b : Bool) → area_fine p a ≡ b → (first_fault p as' ≡ none → All (Passing p) as') → cond b (first_fault p as') (some a) ≡ none
        → All (Passing p) (a ∷ as')
    go true e rest r = fine_passing p a (subst T (sym e) tt) & rest r
    go false e rest r = absurd (let z : ◌≡◌ {A = ℕ} 0 1 = cc in omega arith)

pub check_passes : (p : Program) → program_fault p ≡ none → ProgramPasses p
unfolding program_fault
check_passes p q = go (no_fault p (1 ∷ 2 ∷ 3 ∷ 4 ∷ 5 ∷ 6 ∷ 7 ∷ 8 ∷ 9 ∷ 10 ∷ 12 ∷ []) q)
  where
    go : All (Passing p) (1 ∷ 2 ∷ 3 ∷ 4 ∷ 5 ∷ 6 ∷ 7 ∷ 8 ∷ 9 ∷ 10 ∷ 12 ∷ []) → ProgramPasses p
    go (a₁ & a₂ & a₃ & a₄ & a₅ & a₆ & a₇ & a₈ & a₉ & a₁₀ & a₁₂ & nil) = record {
      code = a₁;
      constants = a₂;
      functions = a₃;
      models = a₄;
      properties = a₅;
      methods = a₆;
      locals = a₇;
      publics = a₈;
      scope_names = a₉;
      breaks = a₁₀;
      books = a₁₂;
    }

-- by number: every area but the errors'
pub passing_at : {p : Program} → ProgramPasses p → (area : ℕ) → 0 < area → area < 13 → area ≢ errors_area → Passing p area
passing_at s zero h k o = absurd (omega arith)
passing_at s (suc zero) h k o = s.code
passing_at s (suc (suc zero)) h k o = s.constants
passing_at s (suc (suc (suc zero))) h k o = s.functions
passing_at s (suc (suc (suc (suc zero)))) h k o = s.models
passing_at s (suc (suc (suc (suc (suc zero))))) h k o = s.properties
passing_at s (suc (suc (suc (suc (suc (suc zero)))))) h k o = s.methods
passing_at s (suc (suc (suc (suc (suc (suc (suc zero))))))) h k o = s.locals
passing_at s (suc (suc (suc (suc (suc (suc (suc (suc zero)))))))) h k o = s.publics
passing_at s (suc (suc (suc (suc (suc (suc (suc (suc (suc zero))))))))) h k o = s.scope_names
passing_at s (suc (suc (suc (suc (suc (suc (suc (suc (suc (suc zero)))))))))) h k o = s.breaks
passing_at s (suc (suc (suc (suc (suc (suc (suc (suc (suc (suc (suc zero))))))))))) h k o = absurd (o refl)
passing_at s (suc (suc (suc (suc (suc (suc (suc (suc (suc (suc (suc (suc zero)))))))))))) h k o = s.books
passing_at s (suc (suc (suc (suc (suc (suc (suc (suc (suc (suc (suc (suc (suc n))))))))))))) h k o = absurd (omega arith)

-- entries of any width

pub entries_of_length : (width n : ℕ) (m : List ℕ) → length (entries_of width n m) ≡ n
entries_of_length width zero m = refl
entries_of_length width (suc n) m = ap suc (entries_of_length width n (drop width m))

pub entries_of_wide : (width n : ℕ) (m : List ℕ) → n * width ≤ length m → Wide width (entries_of width n m)
entries_of_wide width zero m h = nil
entries_of_wide width (suc n) m h =
    length-take-le width m (omega (arith, suc-mul n width))
    & entries_of_wide width n (drop width m) (omega (arith, suc-mul n width, length-drop width m))

-- the words of the first n entries, and the words after them
pub entries_of_split : (width n : ℕ) (m : List ℕ) → flat (entries_of width n m) ++ drop (n * width) m ≡ m
entries_of_split width zero m = rw (zero-mul width) refl
entries_of_split width (suc n) m =
    append_assoc (take width m) (flat (entries_of width n (drop width m))) (drop (suc n * width) m)
    ∙ ap (λ (l : List ℕ). take width m ++ (flat (entries_of width n (drop width m)) ++ l)) back
    ∙ ap (λ (l : List ℕ). take width m ++ l) (entries_of_split width n (drop width m))
    ∙ take-append-drop width m
  where
    back : drop (suc n * width) m ≡ drop (n * width) (drop width m)
    back = ap (λ (k : ℕ). drop k m) (suc-mul n width ∙ add_comm (n * width) width) ∙ sym (drop-drop (n * width) width m)

-- words that are all zero
pub zeros_replicate : (l : List ℕ) → T (zeros l) → l ≡ replicate (length l) 0
zeros_replicate [] t = refl
zeros_replicate (x ∷ xs) t = go (eqb x 0) refl (λ u. zeros_replicate xs u) t
  where
    go : (b : Bool) → eqb x 0 ≡ b → (T (zeros xs) → xs ≡ replicate (length xs) 0) → T (cond b (zeros xs) false) → x ∷ xs ≡ 0 ∷ replicate (length xs) 0
    go true e rest u = let z : x ≡ 0 = eqb→eq x 0 (subst T (sym e) tt) in rw z (ap (λ (l : List ℕ). 0 ∷ l) (rest u))
    go false e rest u = absurd u

-- what is written is what was read, where the words beyond are zero
pub entries_of_back : (width n : ℕ) (m : List ℕ) → T (zeros (drop (n * width) m)) → filled (length m) (entries_of width n m) ≡ m
entries_of_back width n m t =
    ap (λ (k : ℕ). flat (entries_of width n m) ++ replicate k 0) rest
    ∙ ap (λ (l : List ℕ). flat (entries_of width n m) ++ l) (sym (zeros_replicate (drop (n * width) m) t))
    ∙ entries_of_split width n m
  where
    rest : length m - length (flat (entries_of width n m)) ≡ length (drop (n * width) m)
    rest =
        let e = sym (length-append (flat (entries_of width n m)) (drop (n * width) m)) ∙ ap length (entries_of_split width n m) in
        omega (arith, e)

-- entries that an area has room for
room : (n width k : ℕ) → k ≤ entries_in width n → k * width ≤ n
room n width k h =
    let q : k ≤ n / width = omega arith in
    omega (arith, mul-le-mul_right width q, div-mul-le_self n width)

-- of an area that passes

pub lent_length : (p : Program) (area : ℕ) → length (lent_entries p area) ≡ total p area
lent_length p area = entries_of_length (width_of area) (total p area) (get_or p.areas area [])

module _ {p : Program} {area : ℕ} (a : Passing p area) where
  pub lent_wide : Wide (width_of area) (lent_entries p area)
  lent_wide =
      entries_of_wide (width_of area) (total p area) (get_or p.areas area [])
      (room (length (get_or p.areas area [])) (width_of area) (total p area) a.fits)

  pub lent_back : filled (length (get_or p.areas area [])) (lent_entries p area) ≡ get_or p.areas area []
  lent_back = entries_of_back (width_of area) (total p area) (get_or p.areas area []) a.beyond

  -- word k of entry i
  pub lent_word : (i k : ℕ) → i < total p area → k < width_of area → field p area i k ≡ get_or (get_or (lent_entries p area) i []) k 0
  lent_word i k h q =
      ap (λ (w : List ℕ). get_or w (i * width_of area + k) 0) (sym lent_back)
      ∙ filled_word (width_of area) lent_wide (length (get_or p.areas area [])) i k (omega (arith, lent_length p area)) q
