-- The answers of the compile call: how each comes about (`Reached`), and so which rows refuse and with which errors, that a refusal leaves zeros, and
-- that a delivery onto a context that keeps within itself keeps within itself in the words of its areas. Assumes nothing.
use Prim.Native.Nat.{ℕ, zero, suc, ◌+◌, ◌-◌, ◌<◌, ◌%◌}
use native.Mathlib.Omega.{arith}
use native.Mathlib.Nat.{sub-zero}
use mathlib.Core.Path.{◌≡◌, refl, ap, ◌∙◌, subst}
use mathlib.Core.Logic.{◌≢◌, ◌⊎◌, inl, inr}
use mathlib.Core.Bool.{Bool, true, false, not, ◌||◌}
use mathlib.Core.Option.{Option, none, some}
use mathlib.Core.List.{List, [], ◌∷◌}
use lib.ListN.{length, get_or, replicate, get_or-replicate}
use lib.Seq.{get_or-set_other}
use lib.Dec.{eqb, leb, ltb}
use Rattle.std.specs.Prelude.{Result, Ok, Err}
use Rattle.words.specs.Row.{row_number}
use Rattle.words.specs.declared.row.Refused.{Refused}
use Rattle.words.specs.Ast.{Document}
use Rattle.words.specs.Areas.{errors_area}
use Rattle.words.specs.Record.{kind_at, span_at, most_records, most_levels}
use Rattle.tree.specs.Check.{only_if, sound_at, head_at, then_on, walk_by, shape_by, shape_of, records_of}
use Rattle.tree.specs.Rules.{slot_after, first_slot}
use Rattle.tree.specs.Reading.{documents_of}
use Rattle.definition.specs.Uses.{Limits, first_not_public, first_over}
use Rattle.definition.specs.Compiler.{Error}
use Rattle.definition.specs.Book.{Context, new_context}
use Rattle.definition.specs.DependencySolver.{Ending, Delivered, Faulty, Ring, compile_needed, missing, needed, loaded_of}
use Rattle.definition.specs.Program.{entries_from, error_entry, error_tables}
use Rattle.definition.specs.Answer.{Answer, Delivery, Refusal, answer_ending, answer_by, answer_needed, answer_bundle, answer_documents, answer_twice}
use Rattle.definition.specs.Answer.{answer_shape, answer_from, answer, twice, document_places, limits_of, ring_errors, areas_of}
use Rattle.definition_laws.proofs.NeededOnce.{NeededOnce, needed_once}
use Rattle.definition_laws.proofs.Safe.{ProgramSafe}
use Rattle.definition_laws.proofs.Lists.{cond_case}
use Rattle.definition_laws.proofs.Program.{worked_safe, fresh_safe}
use Rattle.definition_laws.proofs.Cells.{filled_at}
use Rattle.definition_laws.proofs.FunctionCode.{OperandsFit}
use Rattle.definition_laws.proofs.Keeps.{WordsKeep, program_keeps}

-- the rows that refuse, with the errors that each may list
pub data Row : ℕ → List Error → Type 0 where
  row_2 : Row 2 []
  row_3 : Row 3 []
  row_4 : Row 4 []
  row_5 : Row 5 []
  row_6 : Row 6 []
  row_7 : (es : List Error) → Row 7 es
  row_8 : (es : List Error) → Row 8 es
  row_9 : Row 9 []
  row_11 : Row 11 []

-- rows 2, 3 and 4 are the shape's

data OutcomeRow : Result ℕ Refused → Type 0 where
  went : (t : ℕ) → OutcomeRow (Ok t)
  fault : (found : Refused) → Row (row_number found.row) [] → OutcomeRow (Err found)

pub data ShapeRow : Result (Unit {0}) Refused → Type 0 where
  fine : ShapeRow (Ok tt)
  refused : (found : Refused) → Row (row_number found.row) [] → ShapeRow (Err found)

only_case : {A : Type 0} (P : A → Type 0) (b : Bool) {other : A} {by : ℕ → A} (n : ℕ) → P other → ((k : ℕ) → P (by k)) → P (only_if b other by n)
only_case P true n o k = k n
only_case P false n o k = o

then_row : {o : Result ℕ Refused} {f : ℕ → Result ℕ Refused} → OutcomeRow o → ((t : ℕ) → OutcomeRow (f t)) → OutcomeRow (then_on o f)
then_row (went t) k = k t
then_row (fault found h) k = fault found h

head_row : (w : List ℕ) (s l t i e : ℕ) → OutcomeRow (head_at w s l t i e)
unfolding head_at
head_row w s l t i e =
    cond_case OutcomeRow (sound_at w s t i e) (λ x. cond_case OutcomeRow (leb l most_levels) (λ y. went _) (λ y. fault _ row_4)) (λ x. fault _ row_3)

walk_row : (n : ℕ) (w : List ℕ) (s l t i e : ℕ) → OutcomeRow (walk_by n w s l t i e)
unfolding walk_by
walk_row zero w s l t i e = went t
walk_row (suc n) w s l t i e =
    only_case OutcomeRow (ltb i e) t (went t) (λ t₀. then_row (head_row w s l t₀ i e)
    (λ t₁. then_row (walk_row n w (first_slot (kind_at w i)) (l + 1) t₁ (i + 1) (i + span_at w i))
    (λ t₂. walk_row n w (slot_after s (kind_at w i)) l t₂ (i + span_at w i) e)))

shape_row_by : {o : Result ℕ Refused} → OutcomeRow o → ShapeRow (shape_by o)
shape_row_by (went t) = fine
shape_row_by (fault found h) = refused found h

pub shape_row : (w : List ℕ) → ShapeRow (shape_of w)
unfolding shape_of
shape_row w =
    cond_case ShapeRow (not (eqb (length w % 4) 0) || ltb most_records (records_of w)) (λ x. refused _ row_2)
    (λ x. only_case ShapeRow (not (eqb (records_of w) 0)) (records_of w) (refused _ row_3) (λ n. shape_row_by (walk_row (n - 0) w 1 1 0 0 n)))

-- how an answer onto a context comes about: refused before or above the work, or by the ending of a work on fine words whose notes row 9 lets pass
pub data Reached (c : Context) (w lengths : List ℕ) : Answer → Type 0 where
  Before : {r : ℕ} (p : ℕ) → Row r [] → Reached c w lengths (Refusal r p [])
  Ended : (numbers : List ℕ) → NeededOnce (loaded_of c) numbers → shape_of w ≡ Ok tt
      → first_over (limits_of lengths) (compile_needed numbers (documents_of w) c).uses ≡ none
      → (e : Ending) → (compile_needed numbers (documents_of w) c).ending ≡ e → Reached c w lengths (answer_ending e)

pub reached : (c : Context) (w lengths : List ℕ) → Reached c w lengths (answer_from c w lengths)
unfolding answer_from answer_bundle
reached c w lengths = shape (shape_row w) refl
  where
    l : Limits
    l = limits_of lengths

    worked : shape_of w ≡ Ok tt → (numbers : List ℕ) → NeededOnce (loaded_of c) numbers → (o : Option ℕ)
        → first_over l (compile_needed numbers (documents_of w) c).uses ≡ o
        → Reached c w lengths (answer_by o (compile_needed numbers (documents_of w) c).ending)
    worked f numbers u (some area) q =
        cond_case (Reached c w lengths) (ltb area first_not_public) (λ t. Before area row_9) (λ t. Before (area - first_not_public) row_11)
    worked f numbers u none q = Ended numbers u f q _ refl

    needing : shape_of w ≡ Ok tt → (numbers : List ℕ) → NeededOnce (loaded_of c) numbers → (o : Option ℕ)
        → Reached c w lengths (answer_needed o numbers (documents_of w) l c)
    needing f numbers u (some n) = Before n row_6
    needing f numbers u none = worked f numbers u (first_over l (compile_needed numbers (documents_of w) c).uses) refl

    documents : shape_of w ≡ Ok tt → (ds : List Document) → documents_of w ≡ ds → Reached c w lengths (answer_documents ds l c)
    documents f [] q = Before 0 row_3
    documents f (root ∷ others) q =
        let numbers = needed (loaded_of c) root others in
        let o = missing (root ∷ others) numbers in
        subst (λ ds. Reached c w lengths (answer_needed o numbers ds l c)) q (needing f numbers (needed_once (loaded_of c) root others) o)

    doubles : shape_of w ≡ Ok tt → (o : Option ℕ) → Reached c w lengths (answer_twice o w l c)
    doubles f (some i) = Before i row_5
    doubles f none = documents f (documents_of w) refl

    shape : {s : Result (Unit {0}) Refused} → ShapeRow s → shape_of w ≡ s → Reached c w lengths (answer_shape s w l c)
    shape (refused found h) q = Before found.place h
    shape fine q = doubles q (twice [] w (document_places w))

-- refusals

pub refusals : (c : Context) (w lengths : List ℕ) (r p : ℕ) (es : List Error) → answer_from c w lengths ≡ Refusal r p es → Row r es
refusals c w lengths r p es q = go (reached c w lengths) q
  where
    move : {r' : ℕ} {p' : ℕ} {es' : List Error} → Row r' es' → Refusal r' p' es' ≡ Refusal r p es → Row r es
    move {r'} {p'} {es'} h e =
        let rows : r' ≡ r = cc in
        let errors : es' ≡ es = cc in
        subst (λ (k : ℕ). Row k es) rows (subst (λ (l : List Error). Row r' l) errors h)

    ending : (e : Ending) → answer_ending e ≡ Refusal r p es → Row r es
    ending (Delivered d) e = absurd (let z : ◌≡◌ {A = ℕ} 0 1 = cc in omega arith)
    ending (Faulty n l) e = move {p' = n} (row_7 l) e
    ending (Ring l) e = move {p' = length l} (row_8 (ring_errors l)) e

    go : {a : Answer} → Reached c w lengths a → a ≡ Refusal r p es → Row r es
    go (Before p' h) e = move {p' = p'} h e
    go (Ended numbers u f q x y) e = ending x e

-- every area is zeros, but the errors' where there are some
pub refusal_zero : (lengths : List ℕ) (r p : ℕ) (es : List Error) (area : ℕ) → length lengths ≡ 13 → area < 13 → (area ≢ errors_area) ⊎ (es ≡ [])
    → get_or (areas_of lengths (Refusal r p es)) area [] ≡ replicate (get_or lengths area 0) 0
unfolding areas_of error_tables
refusal_zero lengths r p es area n h which = filled_at lengths (error_tables es) area (omega arith) h ∙ rw (nothing which) (rw sub-zero refl)
  where
    nothing : (area ≢ errors_area) ⊎ (es ≡ []) → get_or (error_tables es) area [] ≡ []
    nothing (inl other) =
        get_or-set_other (replicate 13 []) errors_area area (entries_from error_entry 0 es) [] other ∙ get_or-replicate 13 area [] [] h
    nothing (inr no_errors) = ap (λ (x : List Error). get_or (error_tables x) area []) no_errors ∙ get_or-replicate 13 area [] [] h

-- deliveries

-- the work of which c is the delivery
pub record Delivering (c₀ : Context) (w lengths : List ℕ) (c : Context) : Type 0 where
  pub fine : shape_of w ≡ Ok tt
  pub numbers : List ℕ
  pub once : NeededOnce (loaded_of c₀) numbers
  pub within : first_over (limits_of lengths) (compile_needed numbers (documents_of w) c₀).uses ≡ none
  pub ends : (compile_needed numbers (documents_of w) c₀).ending ≡ Delivered c

pub delivering : (c₀ : Context) (w lengths : List ℕ) (c : Context) → answer_from c₀ w lengths ≡ Delivery c → Delivering c₀ w lengths c
delivering c₀ w lengths c q = go (reached c₀ w lengths) q
  where
    ending : (e : Ending) → answer_ending e ≡ Delivery c → e ≡ Delivered c
    ending (Delivered d) x = cc
    ending (Faulty n l) x = absurd (let z : ◌≡◌ {A = ℕ} 0 1 = cc in omega arith)
    ending (Ring l) x = absurd (let z : ◌≡◌ {A = ℕ} 0 1 = cc in omega arith)

    go : {a : Answer} → Reached c₀ w lengths a → a ≡ Delivery c → Delivering c₀ w lengths c
    go (Before p h) x = absurd (let z : ◌≡◌ {A = ℕ} 0 1 = cc in omega arith)
    go (Ended numbers u f o e y) x = record { fine = f; numbers = numbers; once = u; within = o; ends = y ∙ ending e x }

pub delivery_safe : (c₀ : Context) (w lengths : List ℕ) (c : Context) → answer_from c₀ w lengths ≡ Delivery c → ProgramSafe c₀ → ProgramSafe c
delivery_safe c₀ w lengths c q safe = let d = delivering c₀ w lengths c q in worked_safe d.numbers (documents_of w) c₀ c safe d.ends

-- demand 3, onto a standing context and onto a fresh one
pub standing_keeps : (c₀ : Context) (w lengths : List ℕ) (c : Context) → length lengths ≡ 13 → answer_from c₀ w lengths ≡ Delivery c → ProgramSafe c₀
    → OperandsFit c → WordsKeep lengths c
standing_keeps c₀ w lengths c n q safe fit = program_keeps lengths c n (delivery_safe c₀ w lengths c q safe) fit

pub delivery_keeps : (strict : Bool) (w lengths : List ℕ) (c : Context) → length lengths ≡ 13 → answer strict w lengths ≡ Delivery c → OperandsFit c
    → WordsKeep lengths c
unfolding answer
delivery_keeps strict w lengths c n q fit = standing_keeps (new_context strict) w lengths c n q (fresh_safe strict) fit
