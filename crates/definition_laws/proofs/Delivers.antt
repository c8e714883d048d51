-- What laying on and a commit promise follows from the reply and the words alone, as for the fresh call: a reply of number 0 is a delivery's, what it was laid
-- onto passed the check and so keeps within itself (`read_stands`), and then a delivery does (`standing_answer_keeps`). Assumes nothing.
use Prim.Native.Nat.{ℕ}
use native.Mathlib.Omega.{arith}
use mathlib.Core.Path.{◌≡◌, refl, sym, ap, subst, ◌∙◌}
use mathlib.Core.Bool.{Bool}
use mathlib.Core.List.{List}
use lib.ListN.{length, length-map}
use Rattle.words.specs.Areas.{functions_area}
use Rattle.words.specs.declared.reply.Totals as struct'
use Rattle.words.specs.declared.reply.Reply as struct
use Rattle.definition.specs.Prior.{Prior}
use Rattle.definition.specs.Book.{Context}
use Rattle.definition.specs.Answer.{Delivery, Refusal, Reply, reply_of, areas_of}
use Rattle.definition.specs.Within.{Areas, Program, lengths_of, total, logs_of, KeepsWithin}
use Rattle.definition.specs.Onto.{prior_of, context_of, OntoAnswer, Unfit, Checked, lay_on, reply_onto, areas_onto}
use Rattle.definition.specs.Trial.{CountedProgram, CountedReply, Order, Lay, Commit, ordered, reply_ordered, areas_ordered}
use Rattle.definition.specs.Promise.{saying, lent_counted, logs_onto, program_of, Answers, LaysOn, commit_of, Commits}
use Rattle.definition_laws.proofs.Keeps.{delivered}
use Rattle.definition_laws.proofs.Delivery.{standing_prior, standing_answer_keeps}
use Rattle.definition_laws.proofs.PassingAreas.{lent_length}
use Rattle.definition_laws.proofs.ReadSafe.{read_stands}
use Rattle.definition_laws.proofs.OntoStays.{worked_answer}
use Rattle.definition_laws.proofs.Orders.{delivery_worked, order_row}

-- demand 3 of a delivery onto a program: bounds for the whole, loop landings for the functions that the bundle added
pub onto_keeps : (strict : Bool) (w : List ℕ) (p : Program) (c : Context) → length p.areas ≡ 13 → lay_on strict w p ≡ Checked (Delivery c)
    → KeepsWithin (delivered (lengths_of p.areas) c) (total p functions_area) (logs_of c.program.functions)
unfolding context_of
onto_keeps strict w p c thirteen q =
    let lengths = lengths_of p.areas in
    let (passed, answered) = worked_answer strict w p (Delivery c) q in
    let stands = read_stands strict p thirteen passed in
    let same : c.prior ≡ prior_of p = standing_prior w lengths (context_of strict p) c stands answered in
    let count : length c.prior.functions ≡ total p functions_area = ap (λ (x : Prior). length x.functions) same ∙ lent_length p functions_area in
    subst (λ n. KeepsWithin (delivered lengths c) n (logs_of c.program.functions)) count
    (standing_answer_keeps w lengths (context_of strict p) c (length-map p.areas (λ (l : List ℕ). length l) ∙ thirteen) stands answered)

module _ (o : Order) (strict : Bool) (tree : List ℕ) (standing : struct'.Totals) (before after : Areas) (r : struct.Reply) (thirteen : length before ≡ 13)
    (A : Answers o strict tree standing before after r) where
  abbrev p : CountedProgram
  p = lent_counted before standing

  -- where a delivery leaves what laying on leaves
  keeps : ((c : Context) → areas_ordered o p (Checked (Delivery c)) ≡ areas_onto p.program (Checked (Delivery c))) → (a : OntoAnswer)
      → ordered o strict tree p ≡ a → r.number ≡ 0 → KeepsWithin (program_of after r) (total p.program functions_area) (logs_onto a)
  unfolding reply_ordered reply_onto areas_onto
  keeps stays (Unfit area) q z =
      absurd (let says : r.number ≡ 3 = ap (λ (x : CountedReply). x.reply.number) (A.reply ∙ ap (reply_ordered o p) q) in omega (arith, says, z))
  keeps stays (Checked (Refusal n place es)) q z =
      let says : r.number ≡ n = ap (λ (x : CountedReply). x.reply.number) (A.reply ∙ ap (reply_ordered o p) q) in
      absurd (order_row o strict tree p n place es q (sym says ∙ z))
  keeps stays (Checked (Delivery c)) q z =
      let says : saying r ≡ reply_of (Delivery c) = ap (λ (x : CountedReply). x.reply) (A.reply ∙ ap (reply_ordered o p) q) in
      let holds : after ≡ areas_of (lengths_of before) (Delivery c) = A.words ∙ ap (areas_ordered o p) q ∙ stays c in
      subst (λ (x : Reply). KeepsWithin (record { areas = after; totals = x.totals; entry_point = x.entry_point; globals = x.globals })
      (total p.program functions_area) (logs_of c.program.functions)) (sym says)
      (subst (λ (m : Areas). KeepsWithin (record {
        areas = m;
        totals = (reply_of (Delivery c)).totals;
        entry_point = (reply_of (Delivery c)).entry_point;
        globals = (reply_of (Delivery c)).globals;
      }) (total p.program functions_area) (logs_of c.program.functions)) (sym holds)
      (onto_keeps strict tree p.program c thirteen (delivery_worked o strict tree p c q)))

lay_leaves : (p : CountedProgram) (c : Context) → areas_ordered Lay p (Checked (Delivery c)) ≡ areas_onto p.program (Checked (Delivery c))
unfolding areas_ordered
lay_leaves p c = refl

commit_leaves : (t : CountedReply) (p : CountedProgram) (c : Context)
    → areas_ordered (Commit t) p (Checked (Delivery c)) ≡ areas_onto p.program (Checked (Delivery c))
unfolding areas_ordered
commit_leaves t p c = refl

module _ (strict : Bool) (tree : List ℕ) (standing : struct'.Totals) (before after : Areas) (r : struct.Reply) (thirteen : length before ≡ 13) where
  pub lays_on : Answers Lay strict tree standing before after r → LaysOn strict tree standing before after r
  lays_on A = record {
    answers = A;
    within = λ z. keeps Lay strict tree standing before after r thirteen A (lay_leaves (lent_counted before standing))
        (ordered Lay strict tree (lent_counted before standing)) refl z;
  }

  pub commits : (t : struct'.Totals) → Answers (commit_of t) strict tree standing before after r → Commits t strict tree standing before after r
  commits t A = record {
    answers = A;
    within = λ z. keeps (commit_of t) strict tree standing before after r thirteen A (commit_leaves _ (lent_counted before standing))
        (ordered (commit_of t) strict tree (lent_counted before standing)) refl z;
  }
