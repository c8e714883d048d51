-- What the calls promise has it that what they leave passes 2026-01's check: after a fresh delivery (`compiles_passes`), after any call of laying on or commit
-- whose program passed (`lays_on_passes`, `commits_passes`); and one that answers 0 has found that it passes (`answers_checked`). Assumes nothing.
use Prim.Native.Nat.{ℕ}
use native.Mathlib.Omega.{arith}
use mathlib.Core.Path.{◌≡◌, refl, sym, ap, subst, ◌∙◌}
use mathlib.Core.Bool.{Bool}
use mathlib.Core.Option.{Option, none, some}
use mathlib.Core.List.{List}
use lib.ListN.{length, length-map}
use Rattle.words.specs.declared.reply.Totals as struct'
use Rattle.words.specs.declared.reply.Reply as struct
use Rattle.definition.specs.Book.{new_context}
use Rattle.definition.specs.Answer.{Answer, Delivery, Refusal, Reply, answer, reply_of, areas_of}
use Rattle.definition.specs.Within.{Areas, Program, lengths_of}
use Rattle.definition.specs.ProgramCheck.{program_fault}
use Rattle.definition.specs.Onto.{OntoAnswer, reply_onto, areas_onto}
use Rattle.definition.specs.Trial.{CountedProgram, CountedReply, Order, Lay, counted_fault, ordered, reply_ordered, areas_ordered}
use Rattle.definition.specs.Promise.{answering, program_of, Compiles, lent, lent_counted, Answers, LaysOn, trial_of, commit_of, Commits}
use Rattle.definition_laws.proofs.Answer.{refusals}
use Rattle.definition_laws.proofs.Promise.{no_row}
use Rattle.definition_laws.proofs.Passes.{answer_passes}
use Rattle.definition_laws.proofs.OntoPasses.{answer_left_passes}
use Rattle.definition_laws.proofs.Orders.{counted_passes, ordered_unfit, delivery_worked}
use Rattle.definition_laws.proofs.CommitAsTrial.{lay_words, commit_words}

-- a program whose words and numbers are a reply's
abbrev spelt : Areas → Reply → Program
spelt m x = record { areas = m; totals = x.totals; entry_point = x.entry_point; globals = x.globals }

passes_as : {m m' : Areas} {x x' : Reply} → m ≡ m' → x ≡ x' → program_fault (spelt m' x') ≡ none → program_fault (spelt m x) ≡ none
passes_as {m} {m'} {x} {x'} e f h =
    subst (λ (y : Reply). program_fault (spelt m y) ≡ none) (sym f) (subst (λ (a : Areas). program_fault (spelt a x') ≡ none) (sym e) h)

pub compiles_passes : (strict : Bool) (tree : List ℕ) (before after : Areas) (r : struct.Reply) → length before ≡ 13
    → Compiles strict tree before after r → r.number ≡ 0 → program_fault (program_of after r) ≡ none
unfolding reply_of answer
compiles_passes strict tree before after r n c z = go (answering strict tree before) refl
  where
    go : (a : Answer) → answering strict tree before ≡ a → program_fault (program_of after r) ≡ none
    go (Delivery d) q =
        passes_as (c.words ∙ ap (areas_of (lengths_of before)) q) (c.reply ∙ ap reply_of q)
        (answer_passes strict tree (lengths_of before) d (length-map before (λ (l : List ℕ). length l) ∙ n) q)
    go (Refusal number p es) q =
        let says : r.number ≡ number = ap (λ (x : Reply). x.number) (c.reply ∙ ap reply_of q) in
        absurd (no_row (refusals (new_context strict) tree (lengths_of before) number p es q) (sym says ∙ z))

module _ (o : Order) (strict : Bool) (tree : List ℕ) (standing : struct'.Totals) (before after : Areas) (r : struct.Reply)
    (c : Answers o strict tree standing before after r) where
  abbrev p : CountedProgram
  p = lent_counted before standing

  -- a call that answers 0 has found the program in order
  pub answers_checked : r.number ≡ 0 → program_fault (lent before standing) ≡ none
  unfolding reply_ordered reply_onto ordered
  answers_checked z = go (counted_fault p) refl
    where
      go : (f : Option ℕ) → counted_fault p ≡ f → program_fault p.program ≡ none
      go (some area) q =
          absurd (let says : r.number ≡ 3 = ap (λ (x : CountedReply). x.reply.number) (c.reply ∙ ap (λ (a : OntoAnswer). reply_ordered o p a)
          (ordered_unfit o strict tree p area q)) in omega (arith, says, z))
      go none q = (counted_passes p q).0

-- laying on and a commit
module _ (strict : Bool) (tree : List ℕ) (standing : struct'.Totals) (before after : Areas) (r : struct.Reply) where
  passes_left : (o : Order) → Answers o strict tree standing before after r → ((a : OntoAnswer) → areas_ordered o (lent_counted before standing) a
      ≡ areas_onto (lent before standing) a) → length before ≡ 13 → program_fault (lent before standing) ≡ none → program_fault (program_of after r) ≡ none
  unfolding reply_ordered
  passes_left o c same n h =
      let p = lent_counted before standing in
      let a = ordered o strict tree p in
      passes_as (c.words ∙ same a) (ap (λ (x : CountedReply). x.reply) c.reply)
      (answer_left_passes strict tree (lent before standing) a n h (delivery_worked o strict tree p)).0

  pub lays_on_passes : LaysOn strict tree standing before after r → length before ≡ 13 → program_fault (lent before standing) ≡ none
      → program_fault (program_of after r) ≡ none
  lays_on_passes c = passes_left Lay c.answers (lay_words (lent_counted before standing))

  pub commits_passes : (t : struct'.Totals) → Commits t strict tree standing before after r → length before ≡ 13
      → program_fault (lent before standing) ≡ none → program_fault (program_of after r) ≡ none
  commits_passes t c =
      let p = lent_counted before standing in
      passes_left (commit_of t) c.answers (λ a. commit_words p (trial_of t) a ∙ lay_words p a)
