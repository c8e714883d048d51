-- Laying on: every refusal leaves the program as lent, all totals and every word of the areas but the errors' (`onto_stays`); the check's refusal leaves that
-- area too (`onto_unfit_stays`), and of the others only rows 7 and 8 list errors in it (`onto_errors_zero`). By the cases of an answer. Assumes nothing.
use Prim.Native.Nat.{ℕ, ◌-◌, ◌<◌}
use native.Mathlib.Omega.{arith}
use mathlib.Core.Path.{◌≡◌, refl, ap, ◌∙◌}
use mathlib.Core.Logic.{◌≢◌}
use mathlib.Core.Bool.{Bool}
use mathlib.Core.Option.{Option, none, some}
use mathlib.Core.List.{List, []}
use lib.ListN.{length, get_or, replicate}
use lib.Seq.{get_or-set_same, get_or-set_other}
use Rattle.words.specs.Areas.{errors_area}
use Rattle.definition.specs.Compiler.{Error}
use Rattle.definition.specs.Program.{entries_from, error_entry, filled}
use Rattle.definition.specs.Answer.{Answer, Delivery, Refusal, answer_from}
use Rattle.definition.specs.Within.{Program, lengths_of}
use Rattle.definition.specs.ProgramCheck.{program_fault}
use Rattle.definition.specs.Onto.{context_of, OntoAnswer, Unfit, Checked, lay_on_by, lay_on, reply_onto, areas_onto}
use Rattle.definition_laws.proofs.Answer.{refusals, Row, row_2, row_3, row_4, row_5, row_6, row_7, row_8, row_9, row_11}

-- what an answer leaves as it was lent
pub record AsLent (p : Program) (a : OntoAnswer) : Type 0 where
  pub totals : (reply_onto p a).totals ≡ p.totals
  pub entry_point : (reply_onto p a).entry_point ≡ p.entry_point
  pub globals : (reply_onto p a).globals ≡ p.globals
  pub words : (area : ℕ) → area ≢ errors_area → get_or (areas_onto p a) area [] ≡ get_or p.areas area []

pub refusal_stays : (p : Program) (a : OntoAnswer) → (reply_onto p a).number ≢ 0 → AsLent p a
unfolding reply_onto areas_onto
refusal_stays p (Unfit area) n = record { totals = refl; entry_point = refl; globals = refl; words = λ area o. refl }
refusal_stays p (Checked (Delivery c)) n = absurd (n refl)
refusal_stays p (Checked (Refusal row place es)) n = record {
  totals = refl;
  entry_point = refl;
  globals = refl;
  words = λ area o. get_or-set_other p.areas errors_area area _ [] o;
}

pub onto_stays : (strict : Bool) (w : List ℕ) (p : Program) → (reply_onto p (lay_on strict w p)).number ≢ 0 → AsLent p (lay_on strict w p)
onto_stays strict w p n = refusal_stays p (lay_on strict w p) n

-- the check's refusal leaves every word
pub onto_unfit_stays : (strict : Bool) (w : List ℕ) (p : Program) (area : ℕ) → program_fault p ≡ some area → areas_onto p (lay_on strict w p) ≡ p.areas
unfolding lay_on areas_onto
onto_unfit_stays strict w p area q = ap (λ (o : Option ℕ). areas_onto p (lay_on_by o strict w p)) q

-- the work's answer is the answer from what the program spells
pub worked_answer : (strict : Bool) (w : List ℕ) (p : Program) (a : Answer) → lay_on strict w p ≡ Checked a
    → (program_fault p ≡ none) × (answer_from (context_of strict p) w (lengths_of p.areas) ≡ a)
unfolding lay_on
worked_answer strict w p a = go (program_fault p)
  where
    go : (o : Option ℕ) → lay_on_by o strict w p ≡ Checked a → (o ≡ none) × (answer_from (context_of strict p) w (lengths_of p.areas) ≡ a)
    go (some area) e = absurd (let z : ◌≡◌ {A = ℕ} 0 1 = cc in omega arith)
    go none e = (refl, cc)

-- rows that list no errors
no_errors : {n : ℕ} {es : List Error} → Row n es → n ≢ 7 → n ≢ 8 → es ≡ []
no_errors row_2 a b = refl
no_errors row_3 a b = refl
no_errors row_4 a b = refl
no_errors row_5 a b = refl
no_errors row_6 a b = refl
no_errors (row_7 es) a b = absurd (a refl)
no_errors (row_8 es) a b = absurd (b refl)
no_errors row_9 a b = refl
no_errors row_11 a b = refl

-- after every other row area 11 is zero, whatever it held
pub onto_errors_zero : (strict : Bool) (w : List ℕ) (p : Program) (n place : ℕ) (es : List Error) → errors_area < length p.areas
    → lay_on strict w p ≡ Checked (Refusal n place es) → n ≢ 7 → n ≢ 8
    → get_or (areas_onto p (lay_on strict w p)) errors_area [] ≡ replicate (length (get_or p.areas errors_area [])) 0
unfolding areas_onto
onto_errors_zero strict w p n place es h q a b =
    let (passed, worked) = worked_answer strict w p (Refusal n place es) q in
    let none-listed : es ≡ [] = no_errors (refusals (context_of strict p) w (lengths_of p.areas) n place es worked) a b in
    let m = p.areas in
    let N = length (get_or m errors_area []) in
    ap (λ (x : OntoAnswer). get_or (areas_onto p x) errors_area []) q
    ∙ get_or-set_same m errors_area (filled N (entries_from error_entry 0 es)) [] h
    ∙ ap (λ (l : List Error). filled N (entries_from error_entry 0 l)) none-listed
    ∙ ap (λ k. replicate k 0) (let none_taken : N - 0 ≡ N = omega arith in none_taken)
