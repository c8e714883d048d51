-- What laying on delivers passes 2026-01's check again (`onto_passes`), and every call leaves a program that passes passing (`call_passes`), so that a program
-- may grow by any number of bundles (`grown_passes`, `fresh_grown_passes`). The check gives what `standing_answer_passes` asks. Assumes nothing.
use Prim.Native.Nat.{ℕ, zero, suc, ◌*◌}
use native.Mathlib.Omega.{arith}
use mathlib.Core.Path.{◌≡◌, refl, sym, ap, subst, ◌∙◌}
use mathlib.Core.Bool.{Bool, cond, ◌&&◌}
use mathlib.Core.Option.{Option, none, some}
use mathlib.Core.List.{List, [], ◌∷◌}
use lib.ListN.{length, get_or, drop, set, length-map, length-set}
use lib.Dec.{eqb, leb}
use Rattle.words.specs.Areas.{entries_in, code_area, constants_area, functions_area, errors_area}
use Rattle.definition.specs.Book.{Context}
use Rattle.definition.specs.Program.{Entries, entries_from, error_entry, tables_of, filled, filled_all}
use Rattle.definition.specs.Answer.{Delivery, Refusal, answer, areas_of}
use Rattle.definition.specs.Within.{Areas, Totals, Program, lengths_of, total, present, instruction_at, has_instruction, all_below, where', marked, code_bound}
use Rattle.definition.specs.Within.{area_bound, Class, Position, Slot, Read, Pool, ContextSlot, Other, class_of, bound_by_totals, bound_by_function}
use Rattle.definition.specs.ProgramCheck.{entry_known, whole_known, begins_well, zeros, area_fine, first_fault, program_fault}
use Rattle.definition.specs.Onto.{OntoAnswer, Unfit, Checked, context_of, lay_on, reply_onto, areas_onto}
use Rattle.definition_laws.proofs.Cells.{wides_length}
use Rattle.definition_laws.proofs.Keeps.{tables_wide, delivered}
use Rattle.definition_laws.proofs.Delivery.{answer_stands, standing_stands}
use Rattle.definition_laws.proofs.Safe.{ProgramSafe}
use Rattle.definition_laws.proofs.ReadSafe.{read_stands}
use Rattle.definition_laws.proofs.OntoStays.{worked_answer}
use Rattle.definition_laws.proofs.ReadKnown.{read_known}
use Rattle.definition_laws.proofs.Passes.{standing_answer_passes, answer_passes}

-- what a call of laying on leaves: the words, and the reply's numbers
abbrev pub left_by : Program → OntoAnswer → Program
left_by p a = record {
  areas = areas_onto p a;
  totals = (reply_onto p a).totals;
  entry_point = (reply_onto p a).entry_point;
  globals = (reply_onto p a).globals;
}

pub onto_passes : (strict : Bool) (w : List ℕ) (p : Program) (r : Context) → length p.areas ≡ 13 → lay_on strict w p ≡ Checked (Delivery r)
    → program_fault (left_by p (lay_on strict w p)) ≡ none
unfolding areas_onto reply_onto
onto_passes strict w p r n e =
    let (passed, work) = worked_answer strict w p (Delivery r) e in
    let lengths = lengths_of p.areas in
    let thirteen : length lengths ≡ 13 = length-map p.areas (λ (l : List ℕ). length l) ∙ n in
    let again : program_fault (delivered lengths r) ≡ none =
    standing_answer_passes w lengths (context_of strict p) r thirteen (read_stands strict p n passed) (read_known strict p passed) work in
    subst (λ (a : OntoAnswer). program_fault (left_by p a) ≡ none) (sym e) again

-- as many areas as were lent
filled_many : (ns : List ℕ) (ts : List Entries) → length ns ≡ length ts → length (filled_all ns ts) ≡ length ns
filled_many [] ts h = refl
filled_many (n ∷ ns) [] h = absurd (omega arith)
filled_many (n ∷ ns) (t ∷ ts) h = ap suc (filled_many ns ts (omega arith))

delivered_areas : (lengths : List ℕ) (c : Context) → ProgramSafe c → length lengths ≡ 13 → length (delivered lengths c).areas ≡ 13
unfolding areas_of
delivered_areas lengths c s n =
    let many : 13 ≡ length (tables_of c) = wides_length (tables_wide c s.wide) in
    filled_many lengths (tables_of c) (n ∙ many) ∙ n

left_areas : (strict : Bool) (w : List ℕ) (p : Program) (r : Context) → length p.areas ≡ 13 → lay_on strict w p ≡ Checked (Delivery r)
    → length (areas_onto p (lay_on strict w p)) ≡ 13
unfolding areas_onto
left_areas strict w p r n e =
    let (passed, work) = worked_answer strict w p (Delivery r) e in
    let lengths = lengths_of p.areas in
    let thirteen : length lengths ≡ 13 = length-map p.areas (λ (l : List ℕ). length l) ∙ n in
    let safe = (standing_stands w lengths (context_of strict p) r (read_stands strict p n passed) work).safe in
    subst (λ (a : OntoAnswer). length (areas_onto p a) ≡ 13) (sym e) (delivered_areas lengths r safe thirteen)

-- a refusal writes area 11 alone, which the check does not look at

marked_same : (m m' : Areas) → get_or m constants_area [] ≡ get_or m' constants_area [] → (n : ℕ) → marked m n ≡ marked m' n
marked_same m m' e zero = refl
marked_same m m' e (suc n) = rw (marked_same m m' e n, e) refl

below_same : (n : ℕ) (f g : ℕ → Bool) → ((i : ℕ) → f i ≡ g i) → all_below n f ≡ all_below n g
below_same zero f g h = refl
below_same (suc n) f g h = rw (h n, below_same n f g h) refl

errors_apart : (m : Areas) (t : Totals) (entry globals : ℕ) (x : List ℕ) → length m ≡ 13
    → program_fault (record { areas = set m errors_area x; totals = t; entry_point = entry; globals = globals })
    ≡ program_fault (record { areas = m; totals = t; entry_point = entry; globals = globals })
unfolding program_fault area_fine area_bound
errors_apart [] t e g x h = absurd (omega arith)
errors_apart (a ∷ []) t e g x h = absurd (omega arith)
errors_apart (a ∷ b ∷ []) t e g x h = absurd (omega arith)
errors_apart (a ∷ b ∷ c ∷ []) t e g x h = absurd (omega arith)
errors_apart (a ∷ b ∷ c ∷ d ∷ []) t e g x h = absurd (omega arith)
errors_apart (a ∷ b ∷ c ∷ d ∷ f ∷ []) t e g x h = absurd (omega arith)
errors_apart (a ∷ b ∷ c ∷ d ∷ f ∷ i ∷ []) t e g x h = absurd (omega arith)
errors_apart (a ∷ b ∷ c ∷ d ∷ f ∷ i ∷ j ∷ []) t e g x h = absurd (omega arith)
errors_apart (a ∷ b ∷ c ∷ d ∷ f ∷ i ∷ j ∷ k ∷ []) t e g x h = absurd (omega arith)
errors_apart (a ∷ b ∷ c ∷ d ∷ f ∷ i ∷ j ∷ k ∷ l ∷ []) t e g x h = absurd (omega arith)
errors_apart (a ∷ b ∷ c ∷ d ∷ f ∷ i ∷ j ∷ k ∷ l ∷ n ∷ []) t e g x h = absurd (omega arith)
errors_apart (a ∷ b ∷ c ∷ d ∷ f ∷ i ∷ j ∷ k ∷ l ∷ n ∷ o ∷ []) t e g x h = absurd (omega arith)
errors_apart (a ∷ b ∷ c ∷ d ∷ f ∷ i ∷ j ∷ k ∷ l ∷ n ∷ o ∷ z ∷ rest) t e g x h =
    ap (λ (w : Bool). by w (marked p'.areas (present p constants_area))) bounds
    ∙ ap (λ (m : ℕ). by (area_bound p code_area) m) (marked_same p'.areas p.areas refl (present p constants_area))
  where
    p : Program
    p = record { areas = a ∷ b ∷ c ∷ d ∷ f ∷ i ∷ j ∷ k ∷ l ∷ n ∷ o ∷ z ∷ rest; totals = t; entry_point = e; globals = g }

    p' : Program
    p' = record { areas = a ∷ b ∷ c ∷ d ∷ f ∷ i ∷ j ∷ k ∷ l ∷ n ∷ o ∷ x ∷ rest; totals = t; entry_point = e; globals = g }

    -- the check, by the test of area 1's bounds and the number of marks that it counts
    by : Bool → ℕ → Option ℕ
    by bound marks =
        cond (leb (total p 1) (entries_in 2 (length b)) && bound && all_below (present p 1) (entry_known p 1) && whole_known p 1
        && zeros (drop (total p 1 * 2) b))
        (cond (leb (total p 2) (entries_in 3 (length c)) && area_bound p 2 && all_below (present p 2) (entry_known p 2) && (begins_well p && eqb marks g)
        && zeros (drop (total p 2 * 3) c)) (first_fault p (3 ∷ 4 ∷ 5 ∷ 6 ∷ 7 ∷ 8 ∷ 9 ∷ 10 ∷ 12 ∷ [])) (some 2)) (some 1)

    totals_same : (q : Class) (m : ℕ) → bound_by_totals q p' m ≡ bound_by_totals q p m
    totals_same Pool m = refl
    totals_same ContextSlot m = refl
    totals_same Position m = refl
    totals_same Slot m = refl
    totals_same Read m = refl
    totals_same Other m = refl

    function_same : (q : Class) (y m : ℕ) → bound_by_function q p' y m ≡ bound_by_function q p y m
    function_same Pool y m = refl
    function_same ContextSlot y m = refl
    function_same Position y m = refl
    function_same Slot y m = refl
    function_same Read y m = refl
    function_same Other y m = refl

    code_same : (y : ℕ) → code_bound p' y ≡ code_bound p y
    code_same y =
        let v = instruction_at p.areas y in
        let q = class_of v.opcode in
        ap (λ (u : Bool). u && all_below (present p functions_area) (λ r. where' (has_instruction p r y) (bound_by_function q p' r v.operand)))
        (totals_same q v.operand)
        ∙ ap (λ (u : Bool). bound_by_totals q p v.operand && u)
        (below_same (present p functions_area) (λ r. where' (has_instruction p r y) (bound_by_function q p' r v.operand))
        (λ r. where' (has_instruction p r y) (bound_by_function q p r v.operand))
        (λ r. ap (λ (u : Bool). where' (has_instruction p r y) u) (function_same q r v.operand)))

    bounds : area_bound p' code_area ≡ area_bound p code_area
    bounds = below_same (present p code_area) (code_bound p') (code_bound p) code_same

-- every answer whose deliveries are laying on's leaves a program that passes: a delivery by `onto_passes`, a refusal the one that stood
pub answer_left_passes : (strict : Bool) (w : List ℕ) (p : Program) (a : OntoAnswer) → length p.areas ≡ 13 → program_fault p ≡ none
    → ((c : Context) → a ≡ Checked (Delivery c) → lay_on strict w p ≡ Checked (Delivery c))
    → (program_fault (left_by p a) ≡ none) × (length (left_by p a).areas ≡ 13)
unfolding areas_onto reply_onto
answer_left_passes strict w p (Unfit area) n h e = (h, n)
answer_left_passes strict w p (Checked (Delivery r)) n h e =
    let q = e r refl in (
      subst (λ (a : OntoAnswer). program_fault (left_by p a) ≡ none) q (onto_passes strict w p r n q),
      subst (λ (a : OntoAnswer). length (areas_onto p a) ≡ 13) q (left_areas strict w p r n q),
    )
answer_left_passes strict w p (Checked (Refusal number place es)) n h e =
    let x = filled (length (get_or p.areas errors_area [])) (entries_from error_entry 0 es) in
    (errors_apart p.areas p.totals p.entry_point p.globals x n ∙ h, length-set p.areas errors_area x ∙ n)

pub call_passes : (strict : Bool) (w : List ℕ) (p : Program) → length p.areas ≡ 13 → program_fault p ≡ none
    → (program_fault (left_by p (lay_on strict w p)) ≡ none) × (length (left_by p (lay_on strict w p)).areas ≡ 13)
call_passes strict w p n h = answer_left_passes strict w p (lay_on strict w p) n h (λ c q. q)

-- what a program becomes by any number of calls, each with any bundle and in any mode
pub data Grown (p : Program) : Program → Type 0 where
  as_it_was : Grown p p
  by_call : {q : Program} → Grown p q → (strict : Bool) (w : List ℕ) → Grown p (left_by q (lay_on strict w q))

-- a program that passes, grown, passes
grown_areas : {p q : Program} → length p.areas ≡ 13 → program_fault p ≡ none → Grown p q → (program_fault q ≡ none) × (length q.areas ≡ 13)
grown_areas n h as_it_was = (h, n)
grown_areas n h (by_call {q = q} g strict w) = let (k, m) = grown_areas n h g in call_passes strict w q m k

pub grown_passes : {p q : Program} → length p.areas ≡ 13 → program_fault p ≡ none → Grown p q → program_fault q ≡ none
grown_passes n h g = (grown_areas n h g).0

-- and so does a fresh delivery
pub fresh_grown_passes : (strict : Bool) (w lengths : List ℕ) (c : Context) {q : Program} → length lengths ≡ 13 → answer strict w lengths ≡ Delivery c
    → Grown (delivered lengths c) q → program_fault q ≡ none
fresh_grown_passes strict w lengths c n e g =
    grown_passes (delivered_areas lengths c (answer_stands strict w lengths c e).safe n) (answer_passes strict w lengths c n e) g
