-- Laying on and the fresh call are one definition. The fresh call is the same over a base of zeros and totals 0, which is not checked (`fresh_reply`,
-- `fresh_words`). And the least program, three constants and nothing else, passes the check; laying a bundle onto it is answered as the fresh call is
-- (`onto_least`), so that a delivery has the fresh call's reply and words (`least_reply`, `least_words`). Assumes nothing.
use Prim.Native.Nat.{ℕ, zero, suc, ◌-◌, ◌*◌, ◌≤◌, ◌<◌}
use native.Mathlib.Omega.{arith}
use mathlib.Core.Path.{◌≡◌, refl, sym, ap, subst, ◌∙◌}
use mathlib.Core.Bool.{Bool, true, false, cond, ◌&&◌}
use mathlib.Core.Option.{Option, none, some}
use mathlib.Core.List.{List, [], ◌∷◌, map}
use lib.ListN.{length, get_or, set, drop, replicate, length-append, length-replicate, get_or-map}
use lib.Dec.{T, eqb, leb}
use Rattle.words.specs.Areas.{width_of, entries_in, constants_area, errors_area}
use Rattle.words.specs.Object.{null_kind, boolean_kind}
use Rattle.definition.specs.Book.{Context, new_context}
use Rattle.definition.specs.Program.{Entries, entries_from, error_entry, error_tables, flat, filled, filled_all}
use Rattle.definition.specs.Answer.{Answer, Delivery, Refusal, answer_from, answer, reply_of, areas_of}
use Rattle.definition.specs.Within.{All, nil, ◌&◌, Areas, Program, lengths_of, total, present, all_below, marked, entry_bound, area_bound}
use Rattle.definition.specs.ProgramCheck.{entry_known, same_key, is_constant, whole_known, zeros, area_fine, first_fault, program_fault}
use Rattle.definition.specs.Onto.{context_of, Checked, lay_on_by, lay_on, reply_onto, areas_onto}
use Rattle.definition_laws.proofs.Tests.{Test, both, at_most, all_below_lem}

-- the fresh call's base: areas of zeros and totals 0
abbrev pub nothing_lent : List ℕ → Program
nothing_lent lengths = record { areas = filled_all lengths (replicate 13 []); totals = replicate 13 0; entry_point = 0; globals = 0 }

filled_length : (n : ℕ) (es : Entries) → length (flat es) ≤ n → length (filled n es) ≡ n
filled_length n es h =
    let k = n - length (flat es) in
    let zeros-count : length (replicate {A = ℕ} k 0) ≡ k = length-replicate k 0 in
    length-append (flat es) (replicate k 0) ∙ omega (arith, zeros-count)

zeros_lengths : (ns : List ℕ) (k : ℕ) → length ns ≡ k → lengths_of (filled_all ns (replicate k [])) ≡ ns
zeros_lengths [] k h = refl
zeros_lengths (n ∷ ns) zero h = absurd (omega arith)
zeros_lengths (n ∷ ns) (suc k) h =
    ap (λ m. m ∷ lengths_of (filled_all ns (replicate k []))) (filled_length n [] (omega arith)) ∙ ap (λ (l : List ℕ). n ∷ l) (zeros_lengths ns k (omega arith))

set_filled : (ns : List ℕ) (ts : List Entries) (i : ℕ) (t : Entries) → set (filled_all ns ts) i (filled (get_or ns i 0) t) ≡ filled_all ns (set ts i t)
set_filled [] ts i t = refl
set_filled (n ∷ ns) [] i t = refl
set_filled (n ∷ ns) (x ∷ ts) zero t = refl
set_filled (n ∷ ns) (x ∷ ts) (suc i) t = ap (λ (l : Areas). filled n x ∷ l) (set_filled ns ts i t)

pub fresh_reply : (lengths : List ℕ) (a : Answer) → reply_onto (nothing_lent lengths) (Checked a) ≡ reply_of a
unfolding reply_onto reply_of
fresh_reply lengths (Delivery c) = refl
fresh_reply lengths (Refusal n place es) = refl

pub fresh_words : (lengths : List ℕ) → length lengths ≡ 13 → (a : Answer) → areas_onto (nothing_lent lengths) (Checked a) ≡ areas_of lengths a
unfolding areas_onto areas_of error_tables
fresh_words lengths n (Delivery c) = ap (λ (l : List ℕ). areas_of l (Delivery c)) (zeros_lengths lengths 13 n)
fresh_words lengths n (Refusal row place es) =
    let m = filled_all lengths (replicate 13 []) in
    let long : length (get_or m errors_area []) ≡ get_or lengths errors_area 0 =
    sym (get_or-map (λ (l : List ℕ). length l) m errors_area []) ∙ ap (λ (l : List ℕ). get_or l errors_area 0) (zeros_lengths lengths 13 n) in
    ap (λ k. set m errors_area (filled k (entries_from error_entry 0 es))) long ∙ set_filled lengths (replicate 13 []) errors_area
    (entries_from error_entry 0 es)

cons_same : {m n : ℕ} {l k : List ℕ} → m ≡ n → l ≡ k → m ∷ l ≡ n ∷ k
cons_same {n = n} {l = l} a b = ap (λ x. x ∷ l) a ∙ ap (λ (x : List ℕ). n ∷ x) b

-- the least program, in areas of those lengths

abbrev three_constants : Entries
three_constants = (null_kind ∷ 0 ∷ 0 ∷ []) ∷ (boolean_kind ∷ 1 ∷ 0 ∷ []) ∷ (boolean_kind ∷ 0 ∷ 0 ∷ []) ∷ []

abbrev least_tables : List Entries
least_tables = [] ∷ [] ∷ three_constants ∷ [] ∷ [] ∷ [] ∷ [] ∷ [] ∷ [] ∷ [] ∷ [] ∷ [] ∷ [] ∷ []

abbrev pub least_program : List ℕ → Program
least_program lengths = record {
  areas = filled_all lengths least_tables;
  totals = map (λ (es : Entries). length es) least_tables;
  entry_point = 0;
  globals = 0;
}

-- areas that pass

no_faults : (p : Program) {areas : List ℕ} → All (λ a. Test (area_fine p a)) areas → first_fault p areas ≡ none
no_faults p nil = refl
no_faults p (◌&◌ {x = a} {xs = areas} t ts) = go (area_fine p a) t.holds (no_faults p ts)
  where
    go : (b : Bool) → T b → first_fault p areas ≡ none → cond b (first_fault p areas) (some a) ≡ none
    go true h r = r
    go false h r = absurd h

replicate_zeros : (n : ℕ) → T (zeros (replicate n 0))
replicate_zeros zero = tt
replicate_zeros (suc n) = replicate_zeros n

drop_zeros : (k : ℕ) (l : List ℕ) → T (zeros l) → T (zeros (drop k l))
drop_zeros zero l t = t
drop_zeros (suc k) [] t = tt
drop_zeros (suc k) (x ∷ l) t = drop_zeros k l (go (eqb x 0) t)
  where
    go : (b : Bool) → T (cond b (zeros l) false) → T (zeros l)
    go true h = h
    go false h = absurd h

-- an area without entries
empty_fine : (p : Program) (area n : ℕ) → total p area ≡ 0 → get_or p.areas area [] ≡ replicate n 0 → Test (whole_known p area) → Test (area_fine p area)
unfolding area_fine area_bound
empty_fine p area n none_lent words whole =
    both (both (both (both (at_most (total p area) (entries_in (width_of area) (length (get_or p.areas area []))) (omega arith))
    (all_below_lem (present p area) (entry_bound p area) (λ i h. absurd (omega arith))))
    (all_below_lem (present p area) (entry_known p area) (λ i h. absurd (omega arith)))) whole)
    (record {
      holds = drop_zeros (total p area * width_of area) (get_or p.areas area [])
          (subst (λ (l : List ℕ). T (zeros l)) (sym words) (replicate_zeros n));
    })

-- no key twice, without entries
no_keys : (p : Program) (area : ℕ) → total p area ≡ 0
    → Test (all_below (present p area) (λ i. all_below i (λ j. cond (same_key p area i j) false true)))
no_keys p area e = all_below_lem (present p area) _ (λ i h. absurd (omega arith))

-- below three
three_cases : (f : ℕ → Bool) → T (f 0) → T (f 1) → T (f 2) → (i : ℕ) → i < 3 → Test (f i)
three_cases f a b c zero h = record { holds = a }
three_cases f a b c (suc zero) h = record { holds = b }
three_cases f a b c (suc (suc zero)) h = record { holds = c }
three_cases f a b c (suc (suc (suc i))) h = absurd (omega arith)

module _ (n₀ n₁ n₂ n₃ n₄ n₅ n₆ n₇ n₈ n₉ n₁₀ n₁₁ n₁₂ : ℕ) (room : 9 ≤ n₂) where
  abbrev lengths : List ℕ
  lengths = n₀ ∷ n₁ ∷ n₂ ∷ n₃ ∷ n₄ ∷ n₅ ∷ n₆ ∷ n₇ ∷ n₈ ∷ n₉ ∷ n₁₀ ∷ n₁₁ ∷ n₁₂ ∷ []

  abbrev p : Program
  p = least_program lengths

  filled_three : length (filled n₂ three_constants) ≡ n₂
  filled_three = filled_length n₂ three_constants room

  three_fit : present p constants_area ≡ 3
  three_fit = omega (arith, filled_three)

  constants_fine : Test (area_fine p constants_area)
  unfolding area_fine area_bound
  constants_fine =
      both (both (both (both (at_most 3 (entries_in 3 (length (filled n₂ three_constants))) (omega (arith, filled_three)))
      (all_below_lem (present p constants_area) (entry_bound p constants_area)
      (λ i h. three_cases (entry_bound p constants_area) tt tt tt i (omega (arith, three_fit)))))
      (all_below_lem (present p constants_area) (entry_known p constants_area)
      (λ i h. three_cases (entry_known p constants_area) tt tt tt i (omega (arith, three_fit)))))
      (record {
        holds = subst (λ k. T (leb 3 k && is_constant p 0 null_kind 0 && is_constant p 1 boolean_kind 1 && is_constant p 2 boolean_kind 0
            && eqb (marked p.areas k) 0)) (sym three_fit) tt;
      }))
      (record { holds = replicate_zeros (n₂ - 9) })

  least_passes : program_fault p ≡ none
  unfolding program_fault
  least_passes =
      let t : Test true = record { holds = tt } in
      no_faults p (empty_fine p 1 (n₁ - 0) refl refl t & constants_fine & empty_fine p 3 (n₃ - 0) refl refl t & empty_fine p 4 (n₄ - 0) refl refl t
      & empty_fine p 5 (n₅ - 0) refl refl t & empty_fine p 6 (n₆ - 0) refl refl (no_keys p 6 refl) & empty_fine p 7 (n₇ - 0) refl refl t
      & empty_fine p 8 (n₈ - 0) refl refl (no_keys p 8 refl) & empty_fine p 9 (n₉ - 0) refl refl t & empty_fine p 10 (n₁₀ - 0) refl refl t
      & empty_fine p 12 (n₁₂ - 0) refl refl (no_keys p 12 refl) & nil)

  -- it spells a new context, in areas of those lengths
  least_context : (strict : Bool) → context_of strict p ≡ new_context strict
  unfolding context_of
  least_context strict = refl

  least_lengths : lengths_of p.areas ≡ lengths
  least_lengths =
      let none_filled : (n : ℕ) → length (filled n []) ≡ n = λ n. filled_length n [] (omega arith) in
      cons_same (none_filled n₀) (cons_same (none_filled n₁) (cons_same filled_three (cons_same (none_filled n₃) (
      cons_same (none_filled n₄) (cons_same (none_filled n₅) (cons_same (none_filled n₆) (cons_same (none_filled n₇) (
      cons_same (none_filled n₈) (cons_same (none_filled n₉) (cons_same (none_filled n₁₀) (
      cons_same (none_filled n₁₁) (cons_same (none_filled n₁₂) refl))))))))))))

  pub onto_least : (strict : Bool) (w : List ℕ) → lay_on strict w p ≡ Checked (answer strict w lengths)
  unfolding lay_on answer
  onto_least strict w =
      ap (λ (o : Option ℕ). lay_on_by o strict w p) least_passes
      ∙ ap (λ (c : Context). Checked (answer_from c w (lengths_of p.areas))) (least_context strict)
      ∙ ap (λ (l : List ℕ). Checked (answer_from (new_context strict) w l)) least_lengths

  pub least_reply : (strict : Bool) (w : List ℕ) (c : Context) → answer strict w lengths ≡ Delivery c
      → reply_onto p (lay_on strict w p) ≡ reply_of (answer strict w lengths)
  unfolding reply_onto
  least_reply strict w c e =
      ap (reply_onto p) (onto_least strict w ∙ ap Checked e) ∙ sym (ap reply_of e)

  pub least_words : (strict : Bool) (w : List ℕ) (c : Context) → answer strict w lengths ≡ Delivery c
      → areas_onto p (lay_on strict w p) ≡ areas_of lengths (answer strict w lengths)
  unfolding areas_onto
  least_words strict w c e =
      ap (areas_onto p) (onto_least strict w ∙ ap Checked e) ∙ ap (λ (l : List ℕ). areas_of l (Delivery c)) least_lengths ∙ sym (ap (areas_of lengths) e)
