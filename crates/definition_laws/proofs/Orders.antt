-- What an order (laying on, a trial, a commit: 2026-08) answers, by what the work answers: where the program passes the check and the order is not stale it
-- is the work's answer, judged (`ordered_answer`); a delivery is laying on's (`delivery_worked`); every refusal has a row (`order_row`). By the cases of an
-- answer. Assumes nothing.
use Prim.Native.Nat.{ℕ}
use native.Mathlib.Omega.{arith}
use mathlib.Core.Path.{◌≡◌, refl, ap, ◌∙◌}
use mathlib.Core.Logic.{◌≢◌}
use mathlib.Core.Bool.{Bool, true, false, cond}
use mathlib.Core.Option.{Option, none, some}
use mathlib.Core.List.{List, []}
use Rattle.definition.specs.FunctionState.{or_else}
use Rattle.definition.specs.Compiler.{Error}
use Rattle.definition.specs.Book.{Context}
use Rattle.definition.specs.Answer.{Answer, Delivery, Refusal, answer_from, reply_of}
use Rattle.definition.specs.Within.{lengths_of}
use Rattle.definition.specs.ProgramCheck.{program_fault}
use Rattle.definition.specs.Onto.{context_of, Unfit, Checked, lay_on_by, lay_on}
use Rattle.definition.specs.Trial.{CountedProgram, count_fault, counted_fault, Order, Lay, Trial, Commit, is_stale, line_one, same_numbers, judged}
use Rattle.definition.specs.Trial.{ordered_by, ordered}
use Rattle.definition_laws.proofs.Answer.{refusals}
use Rattle.definition_laws.proofs.Promise.{no_row}

-- a program that passes, with its count
pub counted_passes : (p : CountedProgram) → counted_fault p ≡ none → (program_fault p.program ≡ none) × (count_fault p.bundles ≡ none)
unfolding counted_fault
counted_passes p = go (program_fault p.program)
  where
    go : (o : Option ℕ) {c : Option ℕ} → or_else o c ≡ none → (o ≡ none) × (c ≡ none)
    go (some area) q = absurd (let z : ◌≡◌ {A = ℕ} 0 1 = cc in omega arith)
    go none q = (refl, q)

-- a refusal of the work is the order's
pub judged_refusal : (o : Order) (n place : ℕ) (es : List Error) → judged o (Refusal n place es) ≡ Refusal n place es
unfolding judged
judged_refusal Lay n place es = refl
judged_refusal Trial n place es = refl
judged_refusal (Commit t) n place es = refl

-- what is judged a delivery is the work's
judged_delivery : (o : Order) (a : Answer) (c : Context) → judged o a ≡ Delivery c → a ≡ Delivery c
unfolding judged
judged_delivery o (Refusal n place es) c q = absurd (let z : ◌≡◌ {A = ℕ} 0 1 = cc in omega arith)
judged_delivery Lay (Delivery d) c q = q
judged_delivery Trial (Delivery d) c q = q
judged_delivery (Commit t) (Delivery d) c q = go (same_numbers (line_one t.reply) (line_one (reply_of (Delivery d)))) q
  where
    go : (b : Bool) → cond b (Delivery d) (Refusal 13 0 []) ≡ Delivery c → Delivery d ≡ Delivery c
    go true q = q
    go false q = absurd (let z : ◌≡◌ {A = ℕ} 0 1 = cc in omega arith)

-- what is judged a refusal is the work's, or row 13
judged_row : (o : Order) (a : Answer) (n place : ℕ) (es : List Error) → judged o a ≡ Refusal n place es → (a ≡ Refusal n place es → n ≢ 0) → n ≢ 0
unfolding judged
judged_row o (Refusal m at ds) n place es q row = row q
judged_row Lay (Delivery d) n place es q row = absurd (let z : ◌≡◌ {A = ℕ} 0 1 = cc in omega arith)
judged_row Trial (Delivery d) n place es q row = absurd (let z : ◌≡◌ {A = ℕ} 0 1 = cc in omega arith)
judged_row (Commit t) (Delivery d) n place es q row = go (same_numbers (line_one t.reply) (line_one (reply_of (Delivery d)))) q
  where
    go : (b : Bool) → cond b (Delivery d) (Refusal 13 0 []) ≡ Refusal n place es → n ≢ 0
    go true q = absurd (let z : ◌≡◌ {A = ℕ} 0 1 = cc in omega arith)
    go false q = λ z. let y : ◌≡◌ {A = ℕ} 13 n = cc in omega (arith, y, z)

module _ (o : Order) (strict : Bool) (w : List ℕ) (p : CountedProgram) where
  -- what the work answers
  abbrev worked : Answer
  worked = answer_from (context_of strict p.program) w (lengths_of p.program.areas)

  pub ordered_answer : (a : Answer) → counted_fault p ≡ none → is_stale o p.bundles ≡ false → worked ≡ a → ordered o strict w p ≡ Checked (judged o a)
  unfolding ordered
  ordered_answer a passed current q =
      ap (λ (f : Option ℕ). ordered_by f o strict w p) passed
      ∙ ap (λ (b : Bool). Checked (cond b (Refusal 12 p.bundles []) (judged o worked))) current ∙ ap (λ (x : Answer). Checked (judged o x)) q

  -- row 12 comes before the work
  pub ordered_stale : counted_fault p ≡ none → is_stale o p.bundles ≡ true → ordered o strict w p ≡ Checked (Refusal 12 p.bundles [])
  unfolding ordered
  ordered_stale passed stale =
      ap (λ (f : Option ℕ). ordered_by f o strict w p) passed ∙ ap (λ (b : Bool). Checked (cond b (Refusal 12 p.bundles []) (judged o worked))) stale

  pub delivery_worked : (c : Context) → ordered o strict w p ≡ Checked (Delivery c) → lay_on strict w p.program ≡ Checked (Delivery c)
  unfolding ordered counted_fault lay_on
  delivery_worked c = by_fault (program_fault p.program) (count_fault p.bundles)
    where
      by_stale : (b : Bool) → Checked (cond b (Refusal 12 p.bundles []) (judged o worked)) ≡ Checked (Delivery c) → Checked worked ≡ Checked (Delivery c)
      by_stale true q = absurd (let z : ◌≡◌ {A = ℕ} 0 1 = cc in omega arith)
      by_stale false q = ap Checked (judged_delivery o worked c (let y : judged o worked ≡ Delivery c = cc in y))

      by_fault : (f k : Option ℕ) → ordered_by (or_else f k) o strict w p ≡ Checked (Delivery c) → lay_on_by f strict w p.program ≡ Checked (Delivery c)
      by_fault (some area) k q = absurd (let z : ◌≡◌ {A = ℕ} 0 1 = cc in omega arith)
      by_fault none (some area) q = absurd (let z : ◌≡◌ {A = ℕ} 0 1 = cc in omega arith)
      by_fault none none q = by_stale (is_stale o p.bundles) q

  pub order_row : (n place : ℕ) (es : List Error) → ordered o strict w p ≡ Checked (Refusal n place es) → n ≢ 0
  unfolding ordered
  order_row n place es = by_fault (counted_fault p)
    where
      row : worked ≡ Refusal n place es → n ≢ 0
      row q = no_row (refusals (context_of strict p.program) w (lengths_of p.program.areas) n place es q)

      by_stale : (b : Bool) → Checked (cond b (Refusal 12 p.bundles []) (judged o worked)) ≡ Checked (Refusal n place es) → n ≢ 0
      by_stale true q = λ z. let y : ◌≡◌ {A = ℕ} 12 n = cc in omega (arith, y, z)
      by_stale false q = judged_row o worked n place es (let y : judged o worked ≡ Refusal n place es = cc in y) row

      by_fault : (f : Option ℕ) → ordered_by f o strict w p ≡ Checked (Refusal n place es) → n ≢ 0
      by_fault (some area) q = absurd (let z : ◌≡◌ {A = ℕ} 0 1 = cc in omega arith)
      by_fault none q = by_stale (is_stale o p.bundles) q

  -- the check refuses
  pub ordered_unfit : (area : ℕ) → counted_fault p ≡ some area → ordered o strict w p ≡ Unfit area
  unfolding ordered
  ordered_unfit area q = ap (λ (f : Option ℕ). ordered_by f o strict w p) q
