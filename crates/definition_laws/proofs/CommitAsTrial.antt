-- Trial and commit of 2026-08: on the same program, bundle, mode and lengths, the commit of what a trial answered is answered as the trial was, but for a
-- delivery's count, which is one more; and what it leaves is what laying on leaves (`commit_as_trial`). A trial leaves the program as lent (`trial_stays`), and
-- so does every refusal of the three calls (`order_stays`). Laying on with a count is laying on (`lay_order`). By the cases of an answer. Assumes nothing.
use Prim.Native.Nat.{ℕ, ◌+◌}
use native.Mathlib.Omega.{arith}
use mathlib.Core.Path.{◌≡◌, refl, sym, ap, ◌∙◌}
use mathlib.Core.Logic.{◌≢◌}
use mathlib.Core.Bool.{Bool, true, false, cond}
use mathlib.Core.Option.{Option, none, some}
use mathlib.Core.List.{List, [], ◌∷◌}
use lib.ListN.{get_or}
use lib.Seq.{get_or-set_other}
use lib.Dec.{T, eqb, eqb_refl}
use Rattle.words.specs.Areas.{errors_area}
use Rattle.definition.specs.FunctionState.{or_else}
use Rattle.definition.specs.Book.{Context}
use Rattle.definition.specs.Answer.{Answer, Delivery, Refusal, answer_from, reply_of}
use Rattle.definition.specs.Within.{Areas, Program, lengths_of}
use Rattle.definition.specs.ProgramCheck.{program_fault}
use Rattle.definition.specs.Onto.{context_of, OntoAnswer, Unfit, Checked, lay_on_by, lay_on, reply_onto, areas_onto}
use Rattle.definition.specs.Trial.{CountedProgram, CountedReply, count_fault, counted_fault, Order, Lay, Trial, Commit, is_stale, line_one, same_numbers}
use Rattle.definition.specs.Trial.{judged, ordered_by, ordered, bundles_after, reply_ordered, areas_ordered}
use Rattle.definition_laws.proofs.Orders.{order_row}
use Rattle.definition_laws.proofs.OntoStays.{AsLent, refusal_stays}

true_of : (b : Bool) → T b → b ≡ true
true_of true t = refl
true_of false t = absurd t

same_self : (l : List ℕ) → same_numbers l l ≡ true
same_self [] = refl
same_self (n ∷ l) = rw (true_of (eqb n n) (eqb_refl n), same_self l)

-- laying on

lay_judged : (a : Answer) → judged Lay a ≡ a
unfolding judged
lay_judged (Delivery c) = refl
lay_judged (Refusal n place es) = refl

trial_judged : (a : Answer) → judged Trial a ≡ a
unfolding judged
trial_judged (Delivery c) = refl
trial_judged (Refusal n place es) = refl

-- a commit of the reply that an answer has
commit_judged : (p : CountedProgram) (n : ℕ) (a : Answer) → judged (Commit (record { reply = reply_onto p.program (Checked a); bundles = n })) a ≡ a
unfolding judged reply_onto
commit_judged p n (Delivery c) = rw (same_self (line_one (reply_of (Delivery c)))) refl
commit_judged p n (Refusal row place es) = refl

module _ (strict : Bool) (w : List ℕ) (p : CountedProgram) where
  -- what the work answers
  abbrev worked : Answer
  worked = answer_from (context_of strict p.program) w (lengths_of p.program.areas)

  pub lay_order : count_fault p.bundles ≡ none → ordered Lay strict w p ≡ lay_on strict w p.program
  unfolding ordered counted_fault lay_on
  lay_order e = go (program_fault p.program) (count_fault p.bundles) e
    where
      go : (o c : Option ℕ) → c ≡ none → ordered_by (or_else o c) Lay strict w p ≡ lay_on_by o strict w p.program
      go (some area) c q = refl
      go none none q = ap Checked (lay_judged worked)
      go none (some n) q = absurd (let z : ◌≡◌ {A = ℕ} 0 1 = cc in omega arith)

  trial_is_lay : ordered Trial strict w p ≡ ordered Lay strict w p
  unfolding ordered
  trial_is_lay = go (counted_fault p)
    where
      go : (o : Option ℕ) → ordered_by o Trial strict w p ≡ ordered_by o Lay strict w p
      go (some area) = refl
      go none = ap Checked (trial_judged worked ∙ sym (lay_judged worked))

  -- the trial's reply
  abbrev pub trialled : CountedReply
  trialled = reply_ordered Trial p (ordered Trial strict w p)

  -- its count is the program's, and so the commit is not stale, and its totals are those of the work
  commit_on : (a : Answer) → cond (is_stale (Commit (reply_ordered Trial p (Checked a))) p.bundles) (Refusal 12 p.bundles [])
      (judged (Commit (reply_ordered Trial p (Checked a))) a) ≡ a
  unfolding reply_ordered
  commit_on (Delivery c) = rw (true_of (eqb p.bundles p.bundles) (eqb_refl p.bundles)) (commit_judged p p.bundles (Delivery c))
  commit_on (Refusal n place es) =
      rw (true_of (eqb p.bundles p.bundles) (eqb_refl p.bundles)) (commit_judged p p.bundles (Refusal n place es))

  commit_is_lay : ordered (Commit trialled) strict w p ≡ ordered Lay strict w p
  unfolding ordered
  commit_is_lay = go (counted_fault p)
    where
      go : (o : Option ℕ) → ordered_by o (Commit (reply_ordered Trial p (ordered_by o Trial strict w p))) strict w p ≡ ordered_by o Lay strict w p
      go (some area) = refl
      go none =
          let of : Answer → Order = λ a. Commit (reply_ordered Trial p (Checked a)) in
          ap Checked (ap (λ (a : Answer). cond (is_stale (of a) p.bundles) (Refusal 12 p.bundles []) (judged (of a) worked)) (trial_judged worked)
          ∙ commit_on worked ∙ sym (lay_judged worked))

-- what an order leaves of an answer

pub lay_words : (p : CountedProgram) (a : OntoAnswer) → areas_ordered Lay p a ≡ areas_onto p.program a
unfolding areas_ordered
lay_words p (Unfit area) = refl
lay_words p (Checked (Delivery c)) = refl
lay_words p (Checked (Refusal n place es)) = refl

module _ (p : CountedProgram) (t : CountedReply) where
  commit_reply : (a : OntoAnswer) → reply_ordered (Commit t) p a ≡ reply_ordered Lay p a
  unfolding reply_ordered
  commit_reply (Unfit area) = refl
  commit_reply (Checked (Delivery c)) = refl
  commit_reply (Checked (Refusal n place es)) = refl

  pub commit_words : (a : OntoAnswer) → areas_ordered (Commit t) p a ≡ areas_ordered Lay p a
  unfolding areas_ordered
  commit_words (Unfit area) = refl
  commit_words (Checked (Delivery c)) = refl
  commit_words (Checked (Refusal n place es)) = refl

  refused_count : (a : OntoAnswer) → (reply_onto p.program a).number ≢ 0 → bundles_after (Commit t) a p.bundles ≡ bundles_after Trial a p.bundles
  unfolding reply_onto
  refused_count (Unfit area) n = refl
  refused_count (Checked (Delivery c)) n = absurd (n refl)
  refused_count (Checked (Refusal row place es)) n = refl

-- the commit of what the trial answered
pub record AsTrial (strict : Bool) (w : List ℕ) (p : CountedProgram) (trial commit : CountedReply) (words : Areas) : Type 0 where
  -- row, place and totals are the trial's
  pub reply : commit.reply ≡ trial.reply
  -- a delivery's count is one more, a refusal's the same
  pub delivered : trial.reply.number ≡ 0 → commit.bundles ≡ trial.bundles + 1
  pub refused : trial.reply.number ≢ 0 → commit.bundles ≡ trial.bundles
  -- and all is as laying on answers and leaves it
  pub lays : commit ≡ reply_ordered Lay p (ordered Lay strict w p)
  pub lays_words : words ≡ areas_ordered Lay p (ordered Lay strict w p)

module _ (strict : Bool) (w : List ℕ) (p : CountedProgram) where
  abbrev t : CountedReply
  t = trialled strict w p

  lay_count : (a : OntoAnswer) → ordered Lay strict w p ≡ a → (reply_onto p.program a).number ≡ 0
      → bundles_after (Commit t) a p.bundles ≡ bundles_after Trial a p.bundles + 1
  unfolding reply_onto
  lay_count (Unfit area) q z = absurd (omega arith)
  lay_count (Checked (Delivery c)) q z = refl
  lay_count (Checked (Refusal n place es)) q z = absurd (order_row Lay strict w p n place es q z)

  pub commit_as_trial : AsTrial strict w p t (reply_ordered (Commit t) p (ordered (Commit t) strict w p))
      (areas_ordered (Commit t) p (ordered (Commit t) strict w p))
  unfolding reply_ordered
  commit_as_trial = record {
    reply = ap (λ (a : OntoAnswer). reply_onto p.program a) same;
    delivered = λ z. ap (λ (a : OntoAnswer). bundles_after (Commit t) a p.bundles) (commit_is_lay strict w p)
        ∙ lay_count (ordered Lay strict w p) refl (ap (λ (a : OntoAnswer). (reply_onto p.program a).number) (sym (trial_is_lay strict w p)) ∙ z)
        ∙ ap (λ (a : OntoAnswer). bundles_after Trial a p.bundles + 1) (sym (trial_is_lay strict w p));
    refused = λ n. ap (λ (a : OntoAnswer). bundles_after (Commit t) a p.bundles) same ∙ refused_count p t (ordered Trial strict w p) n;
    lays = commit_reply p t (ordered (Commit t) strict w p) ∙ ap (reply_ordered Lay p) (commit_is_lay strict w p);
    lays_words = commit_words p t (ordered (Commit t) strict w p) ∙ ap (areas_ordered Lay p) (commit_is_lay strict w p);
  }
    where
      same : ordered (Commit t) strict w p ≡ ordered Trial strict w p
      same = commit_is_lay strict w p ∙ sym (trial_is_lay strict w p)

  -- a trial's reply is laying on's, but for the count
  pub trial_reports : t.reply ≡ (reply_ordered Lay p (ordered Lay strict w p)).reply
  unfolding reply_ordered
  trial_reports = ap (λ (a : OntoAnswer). reply_onto p.program a) (trial_is_lay strict w p)

-- whatever it answers, a trial leaves every area but the errors' as lent, and hands the count on
pub trial_stays : (p : CountedProgram) (a : OntoAnswer) (area : ℕ) → area ≢ errors_area
    → get_or (areas_ordered Trial p a) area [] ≡ get_or p.program.areas area []
unfolding areas_ordered areas_onto
trial_stays p (Unfit k) area o = refl
trial_stays p (Checked (Delivery c)) area o = get_or-set_other p.program.areas errors_area area _ [] o
trial_stays p (Checked (Refusal n place es)) area o = get_or-set_other p.program.areas errors_area area _ [] o

pub trial_count : (p : CountedProgram) (a : OntoAnswer) → (reply_ordered Trial p a).bundles ≡ p.bundles
unfolding reply_ordered
trial_count p (Unfit area) = refl
trial_count p (Checked (Delivery c)) = refl
trial_count p (Checked (Refusal n place es)) = refl

number_zero : (p : Program) (c : Context) → (reply_onto p (Checked (Delivery c))).number ≡ 0
unfolding reply_onto
number_zero p c = refl

-- and every refusal of an order, rows 12 and 13 too, leaves totals, count and areas but the errors' as lent
pub record OrderAsLent (o : Order) (p : CountedProgram) (a : OntoAnswer) : Type 0 where
  pub program : AsLent p.program a
  pub words : areas_ordered o p a ≡ areas_onto p.program a
  pub bundles : (reply_ordered o p a).bundles ≡ p.bundles

pub order_stays : (o : Order) (p : CountedProgram) (a : OntoAnswer) → (reply_ordered o p a).reply.number ≢ 0 → OrderAsLent o p a
unfolding reply_ordered areas_ordered
order_stays o p (Unfit area) n = record { program = refusal_stays p.program (Unfit area) n; words = refl; bundles = refl }
order_stays o p (Checked (Delivery c)) n = absurd (n (number_zero p.program c))
order_stays o p (Checked (Refusal row place es)) n =
    record { program = refusal_stays p.program (Checked (Refusal row place es)) n; words = refl; bundles = refl }
