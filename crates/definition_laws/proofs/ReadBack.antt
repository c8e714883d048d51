-- A program that passes the check, read as a context and written again, is itself: its entries (`tables_back`) and the words of every area but the errors'
-- (`read_back`). Constants lose nothing because their marks are 0 or 1. By induction over the entries. Assumes nothing.
use Prim.Native.Nat.{ℕ, zero, suc, ◌+◌, ◌<◌}
use native.Mathlib.Omega.{arith}
use mathlib.Core.Path.{◌≡◌, refl, sym, ap, subst, ◌∙◌}
use mathlib.Core.Logic.{◌≢◌}
use mathlib.Core.Bool.{Bool, true, false, cond, ◌&&◌}
use mathlib.Core.Option.{none}
use mathlib.Core.List.{List, [], ◌∷◌, append-nil}
use lib.ListN.{length, get_or, length-map, get_or-map}
use lib.Dec.{T, eqb, ltb, eqb_refl, eqb→eq, ltb→lt}
use Rattle.words.specs.Areas.{width_of, code_area, constants_area, functions_area, models_area, properties_area, methods_area, context_locals_area}
use Rattle.words.specs.Areas.{public_names_area, errors_area, books_area}
use Rattle.definition.specs.Book.{has_text}
use Rattle.definition.specs.Program.{Entries, bit, entries_from, constant_entry, method_entry, tables_of, filled, filled_all}
use Rattle.definition.specs.Within.{nil, ◌&◌, Program, lengths_of, total, field, where'}
use Rattle.definition.specs.ProgramCheck.{program_fault}
use Rattle.definition.specs.Onto.{entries_of, lent_entries, constants_of, marks_from, methods_spelt, context_of}
use Rattle.definition_laws.proofs.Tests.{second_of}
use Rattle.definition_laws.proofs.Cells.{Wide, filled_at}
use Rattle.definition_laws.proofs.PassingAreas.{Passing, ProgramPasses, check_passes, passing_at, lent_length, lent_wide, lent_back}
use Rattle.definition_laws.proofs.PassingAreas.{lent_word}

-- an entry of three words
three : (e : List ℕ) → length e ≡ 3 → get_or e 0 0 ∷ get_or e 1 0 ∷ get_or e 2 0 ∷ [] ≡ e
three [] h = absurd (omega arith)
three (x ∷ []) h = absurd (omega arith)
three (x ∷ y ∷ []) h = absurd (omega arith)
three (x ∷ y ∷ z ∷ []) h = refl
three (x ∷ y ∷ z ∷ u ∷ l) h = absurd (omega arith)

-- a method loses nothing
pub methods_back : {es : Entries} (i : ℕ) → Wide 3 es → entries_from method_entry i (methods_spelt es) ≡ es
methods_back i nil = refl
methods_back i (◌&◌ {x = e} {xs = es} h hs) =
    ap (λ (l : List ℕ). l ∷ entries_from method_entry (i + 1) (methods_spelt es)) (three e h) ∙ ap (λ (l : Entries). e ∷ l) (methods_back (i + 1) hs)

-- marks

differ : (i j : ℕ) → i ≢ j → eqb i j ≡ false
differ i j n = go (eqb i j) refl
  where
    go : (b : Bool) → eqb i j ≡ b → eqb i j ≡ false
    go true e = absurd (n (eqb→eq i j (subst T (sym e) tt)))
    go false e = e

same : (i : ℕ) → eqb i i ≡ true
same i = go (eqb i i) (eqb_refl i)
  where
    go : (b : Bool) → T b → b ≡ true
    go true t = refl
    go false t = absurd t

-- no number below the first is marked
marks_above : (es : Entries) (i n : ℕ) → n < i → has_text n (marks_from i es) ≡ false
marks_above [] i n h = refl
marks_above (e ∷ es) i n h = go (eqb (get_or e 2 0) 1) (marks_above es (i + 1) n (omega arith))
  where
    go : (b : Bool) → has_text n (marks_from (i + 1) es) ≡ false → has_text n (cond b (i ∷ marks_from (i + 1) es) (marks_from (i + 1) es)) ≡ false
    go true r = rw (differ i n (λ q. omega arith)) r
    go false r = r

-- number i + j is marked where entry j is
pub marks_at : (es : Entries) (i j : ℕ) → j < length es → has_text (i + j) (marks_from i es) ≡ eqb (get_or (get_or es j []) 2 0) 1
marks_at [] i j h = absurd (omega arith)
marks_at (e ∷ es) i zero h = go (eqb (get_or e 2 0) 1) (marks_above es (i + 1) (i + 0) (omega arith))
  where
    go : (b : Bool) → has_text (i + 0) (marks_from (i + 1) es) ≡ false
        → has_text (i + 0) (cond b (i ∷ marks_from (i + 1) es) (marks_from (i + 1) es)) ≡ b
    go true r = let z : i + 0 ≡ i = omega arith in rw (z, same i)
    go false r = r
marks_at (e ∷ es) i (suc j) h =
    go (eqb (get_or e 2 0) 1) (let z : i + suc j ≡ i + 1 + j = omega arith in rw z (marks_at es (i + 1) j (omega arith)))
  where
    go : (b : Bool) → has_text (i + suc j) (marks_from (i + 1) es) ≡ eqb (get_or (get_or es j []) 2 0) 1
        → has_text (i + suc j) (cond b (i ∷ marks_from (i + 1) es) (marks_from (i + 1) es)) ≡ eqb (get_or (get_or es j []) 2 0) 1
    go true r = rw (differ i (i + suc j) (λ q. omega arith)) r
    go false r = r

bit_of_lem : (n : ℕ) → n < 2 → bit (eqb n 1) ≡ n
bit_of_lem zero h = refl
bit_of_lem (suc zero) h = refl
bit_of_lem (suc (suc n)) h = absurd (omega arith)

-- the constants, from i on, over marks that are the entries'
constants_by : {es : Entries} (marks : List ℕ) (i : ℕ) → Wide 3 es → ((j : ℕ) → j < length es → bit (has_text (i + j) marks) ≡ get_or (get_or es j []) 2 0)
    → entries_from (constant_entry marks) i (constants_of es) ≡ es
constants_by marks i nil m = refl
constants_by marks i (◌&◌ {x = e} {xs = es} h hs) m =
    ap (λ (l : List ℕ). l ∷ entries_from (constant_entry marks) (i + 1) (constants_of es)) head
    ∙ ap (λ (l : Entries). e ∷ l)
    (constants_by marks (i + 1) hs (λ j k. let z : i + 1 + j ≡ i + suc j = omega arith in rw z (m (suc j) (omega arith))))
  where
    head : get_or e 0 0 ∷ get_or e 1 0 ∷ bit (has_text i marks) ∷ [] ≡ e
    head =
        let z : i ≡ i + 0 = omega arith in
        let q : bit (has_text i marks) ≡ get_or e 2 0 = ap (λ n. bit (has_text n marks)) z ∙ m 0 (omega arith) in
        ap (λ n. get_or e 0 0 ∷ get_or e 1 0 ∷ n ∷ []) q ∙ three e h

pub constants_back : {es : Entries} → Wide 3 es → ((j : ℕ) → j < length es → get_or (get_or es j []) 2 0 < 2)
    → entries_from (constant_entry (marks_from 0 es)) 0 (constants_of es) ≡ es
constants_back {es} w m =
    constants_by (marks_from 0 es) 0 w (λ j h. ap bit (marks_at es 0 j h) ∙ bit_of_lem (get_or (get_or es j []) 2 0) (m j h))

-- a constant's mark
pub mark_below : {p : Program} → Passing p constants_area → (i : ℕ) → i < total p constants_area → field p constants_area i 2 < 2
mark_below {p} a i h =
    let f = field p constants_area i in
    ltb→lt (f 2) 2
    (second_of (where' (eqb (f 0) 5) (ltb (f 1) (total p models_area)) && where' (eqb (f 0) 6) (ltb (f 1) (total p functions_area)))
    (ltb (f 2) 2) (a.bounds i h))

-- the entries of all areas, the errors apart
abbrev pub lent_tables : Program → List Entries
lent_tables p =
    [] ∷ lent_entries p code_area ∷ lent_entries p constants_area ∷ lent_entries p functions_area ∷ lent_entries p models_area ∷ lent_entries p properties_area
    ∷ lent_entries p methods_area ∷ lent_entries p context_locals_area ∷ lent_entries p public_names_area ∷ [] ∷ [] ∷ [] ∷ lent_entries p books_area ∷ []

module _ (strict : Bool) (p : Program) (s : ProgramPasses p) where
  pub lent_constants : entries_from (constant_entry (marks_from 0 (lent_entries p constants_area))) 0 (constants_of (lent_entries p constants_area))
      ≡ lent_entries p constants_area
  lent_constants =
      constants_back (lent_wide s.constants)
      (λ j h. let k : j < total p constants_area = omega (arith, lent_length p constants_area) in
      omega (arith, mark_below s.constants j k, lent_word s.constants j 2 k (omega arith)))

  pub tables_back : tables_of (context_of strict p) ≡ lent_tables p
  unfolding tables_of context_of
  tables_back =
      rw (
        append-nil (lent_entries p code_area),
        lent_constants,
        append-nil (lent_entries p functions_area),
        append-nil (lent_entries p models_area),
        append-nil (lent_entries p properties_area),
        methods_back 0 (lent_wide s.methods),
        append-nil (lent_entries p context_locals_area),
        append-nil (lent_entries p public_names_area),
        append-nil (lent_entries p books_area),
      )

  -- areas 9 and 10 have no entries
  no_entries : (area : ℕ) → T (eqb (total p area) 0) → [] ≡ lent_entries p area
  no_entries area t = ap (λ n. entries_of (width_of area) n (get_or p.areas area [])) (sym (eqb→eq (total p area) 0 t))

  pub lent_table : (area : ℕ) → 0 < area → area < 13 → area ≢ errors_area → get_or (lent_tables p) area [] ≡ lent_entries p area
  lent_table zero h k o = absurd (omega arith)
  lent_table (suc zero) h k o = refl
  lent_table (suc (suc zero)) h k o = refl
  lent_table (suc (suc (suc zero))) h k o = refl
  lent_table (suc (suc (suc (suc zero)))) h k o = refl
  lent_table (suc (suc (suc (suc (suc zero))))) h k o = refl
  lent_table (suc (suc (suc (suc (suc (suc zero)))))) h k o = refl
  lent_table (suc (suc (suc (suc (suc (suc (suc zero))))))) h k o = refl
  lent_table (suc (suc (suc (suc (suc (suc (suc (suc zero)))))))) h k o = refl
  lent_table (suc (suc (suc (suc (suc (suc (suc (suc (suc zero))))))))) h k o = no_entries 9 s.scope_names.whole
  lent_table (suc (suc (suc (suc (suc (suc (suc (suc (suc (suc zero)))))))))) h k o = no_entries 10 s.breaks.whole
  lent_table (suc (suc (suc (suc (suc (suc (suc (suc (suc (suc (suc zero))))))))))) h k o = absurd (o refl)
  lent_table (suc (suc (suc (suc (suc (suc (suc (suc (suc (suc (suc (suc zero)))))))))))) h k o = refl
  lent_table (suc (suc (suc (suc (suc (suc (suc (suc (suc (suc (suc (suc (suc n))))))))))))) h k o = absurd (omega arith)

  -- the words of an area that is written again
  words_back : length p.areas ≡ 13 → (area : ℕ) → 0 < area → area < 13 → area ≢ errors_area
      → get_or (filled_all (lengths_of p.areas) (tables_of (context_of strict p))) area [] ≡ get_or p.areas area []
  words_back thirteen area h k o =
      ap (λ (ts : List Entries). get_or (filled_all (lengths_of p.areas) ts) area []) tables_back
      ∙ filled_at (lengths_of p.areas) (lent_tables p) area (omega (arith, length-map p.areas (λ (l : List ℕ). length l), thirteen)) k
      ∙ ap (λ n. filled n (get_or (lent_tables p) area [])) (get_or-map (λ (l : List ℕ). length l) p.areas area [])
      ∙ ap (λ (es : Entries). filled (length (get_or p.areas area [])) es) (lent_table area h k o)
      ∙ lent_back (passing_at s area h k o)

-- where the check passes
pub read_back : (strict : Bool) (p : Program) → length p.areas ≡ 13 → program_fault p ≡ none → (area : ℕ) → 0 < area → area < 13 → area ≢ errors_area
    → get_or (filled_all (lengths_of p.areas) (tables_of (context_of strict p))) area [] ≡ get_or p.areas area []
read_back strict p thirteen q area h k o = words_back strict p (check_passes p q) thirteen area h k o
