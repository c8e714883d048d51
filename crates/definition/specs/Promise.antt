-- The promises of the compile call, of laying on (2026-01), of a trial and of a commit (2026-08): 01's three demands in one claim about the reply and the words
-- of the twelve areas at exit
use Rattle.std.specs.Prelude.{ℕ, ◌≡◌, Bool, List, [], ◌∷◌}
use Rattle.words.specs.Areas.{functions_area}
use Rattle.words.specs.declared.reply.Totals as struct'
use Rattle.words.specs.declared.reply.Reply as struct
use Rattle.words.specs.Reply.{area_totals}
use Rattle.definition.specs.Answer.{Answer, Delivery, Refusal, Reply, answer, reply_of, areas_of}
use Rattle.definition.specs.FunctionState.{Log}
pub use Rattle.definition.specs.Within.{lengths_of}
use Rattle.definition.specs.Within.{Areas, Program, total, logs_of, KeepsWithin}
use Rattle.definition.specs.Onto.{OntoAnswer, Unfit, Checked}
use Rattle.definition.specs.Trial.{CountedProgram, CountedReply, Order, Lay, Trial, Commit, fresh_bundles, ordered, reply_ordered, areas_ordered}

-- the areas by number; no area has number 0
abbrev pub areas : (c k f m p t l u n b e o : List ℕ) → Areas
areas c k f m p t l u n b e o = [] ∷ c ∷ k ∷ f ∷ m ∷ p ∷ t ∷ l ∷ u ∷ n ∷ b ∷ e ∷ o ∷ []

-- the reply's numbers
abbrev pub saying : struct.Reply → Reply
saying r = record {
  number = r.number;
  place = r.place;
  totals = area_totals r.totals;
  entry_point = r.totals.entry_point;
  globals = r.totals.global_dependencies;
}

-- with the number of bundles (2026-08)
abbrev pub counted : struct.Reply → CountedReply
counted r = record { reply = saying r; bundles = r.totals.bundles }

-- the loops and the reads of `this` that the definition logs of a delivery
abbrev pub logs_in : Answer → List Log
logs_in (Delivery c) = logs_of c.program.functions
logs_in (Refusal n p es) = []

-- what the call answers to the words of a tree in a mode, with areas of some lengths
abbrev pub answering : Bool → List ℕ → Areas → Answer
answering strict tree before = answer strict tree (lengths_of before)

-- what is in the areas, beside the reply's totals, entry point and global dependencies
abbrev pub program_of : Areas → struct.Reply → Program
program_of m r = record {
  areas = m;
  totals = area_totals r.totals;
  entry_point = r.totals.entry_point;
  globals = r.totals.global_dependencies;
}

pub record Compiles (strict : Bool) (tree : List ℕ) (before after : Areas) (r : struct.Reply) : Type 0 where
  -- demands 1 and 2: the reply and every word lent are the definition's (program, then zeros; a refusal's errors, and zeros)
  pub reply : saying r ≡ reply_of (answering strict tree before)
  pub words : after ≡ areas_of (lengths_of before) (answering strict tree before)
  -- "1 when fresh" (2026-08); after a refusal every total is 0
  pub bundles : r.totals.bundles ≡ fresh_bundles (answering strict tree before)
  -- demand 3, of what is in the areas at exit; before a fresh call no function stands
  pub within : r.number ≡ 0 → KeepsWithin (program_of after r) 0 (logs_in (answering strict tree before))

-- calls on a program that stands: what is lent, the areas and the totals
abbrev pub lent : Areas → struct'.Totals → Program
lent m t = record { areas = m; totals = area_totals t; entry_point = t.entry_point; globals = t.global_dependencies }

abbrev pub lent_counted : Areas → struct'.Totals → CountedProgram
lent_counted m t = record { program = lent m t; bundles = t.bundles }

-- what the call answers to the words of a tree in a mode
abbrev pub answering_onto : Order → Bool → List ℕ → struct'.Totals → Areas → OntoAnswer
answering_onto o strict tree standing before = ordered o strict tree (lent_counted before standing)

-- the logs of the functions that a delivery added
abbrev pub logs_onto : OntoAnswer → List Log
logs_onto (Unfit area) = []
logs_onto (Checked a) = logs_in a

-- demands 1 and 2: the reply and every word lent are the definition's (what stood and what is added, then zeros; after a refusal what stood, and errors)
pub record Answers (o : Order) (strict : Bool) (tree : List ℕ) (standing : struct'.Totals) (before after : Areas) (r : struct.Reply) : Type 0 where
  pub reply : counted r ≡ reply_ordered o (lent_counted before standing) (answering_onto o strict tree standing before)
  pub words : after ≡ areas_ordered o (lent_counted before standing) (answering_onto o strict tree standing before)

-- demand 3 with them, of what is in the areas at exit: "loop landings are promised of added" functions, the bounds of all
pub record Delivers (o : Order) (strict : Bool) (tree : List ℕ) (standing : struct'.Totals) (before after : Areas) (r : struct.Reply) : Type 0 where
  pub answers : Answers o strict tree standing before after r
  pub within : r.number ≡ 0 → KeepsWithin (program_of after r) (total (lent before standing) functions_area)
      (logs_onto (answering_onto o strict tree standing before))

-- laying on delivers
abbrev pub LaysOn : Bool → List ℕ → struct'.Totals → Areas → Areas → struct.Reply → Type 0
LaysOn = Delivers Lay

-- a trial does not: "the standing program is unchanged"
abbrev pub Tries : Bool → List ℕ → struct'.Totals → Areas → Areas → struct.Reply → Type 0
Tries = Answers Trial

-- "A commit takes the trial's totals and count"
abbrev pub trial_of : struct'.Totals → CountedReply
trial_of t = counted (record { number = 0; place = 0; totals = t })

abbrev pub commit_of : struct'.Totals → Order
commit_of trial = Commit (trial_of trial)

-- a commit delivers
abbrev pub Commits : struct'.Totals → Bool → List ℕ → struct'.Totals → Areas → Areas → struct.Reply → Type 0
Commits trial = Delivers (commit_of trial)
