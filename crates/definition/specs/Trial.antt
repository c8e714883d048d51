-- 2026-08: a bundle onto a standing program on trial, and its commit. A program has the number of bundles delivered into it beside its totals. All three calls,
-- laying on, trial and commit, are one definition over `Onto`: they differ in what is asked before and after the work and in what a delivery leaves
use Rattle.std.specs.Prelude.{ℕ, ◌+◌, Bool, true, false, cond, ◌&&◌, not, List, [], ◌∷◌, eqb, ltb, leb}
use Rattle.std.proofs.Math.Option.{Option, none, some}
use Rattle.words.specs.Areas.{constants_area, functions_area, models_area, context_locals_area, books_area}
use Rattle.definition.specs.FunctionState.{or_else}
use Rattle.definition.specs.Answer.{Answer, Delivery, Refusal, Reply, answer_from, reply_of}
use Rattle.definition.specs.Within.{Areas, Program, lengths_of, total_of}
use Rattle.definition.specs.ProgramCheck.{program_fault}
use Rattle.definition.specs.Onto.{OntoAnswer, Unfit, Checked, context_of, reply_onto, with_errors, areas_onto}

-- "A program's totals carry the number of bundles delivered into it"
pub record CountedProgram : Type 0 where
  pub program : Program
  pub bundles : ℕ

pub record CountedReply : Type 0 where
  pub reply : Reply
  pub bundles : ℕ

-- "1 when fresh"; a fresh refusal's totals are 0 (01)
abbrev pub fresh_bundles : Answer → ℕ
fresh_bundles (Delivery c) = 1
fresh_bundles (Refusal n place es) = 0

-- "A lent count outside 1 to 4,294,967,294 fails the program check at area 12", which is the last area that the check asks: the count comes after all of it
abbrev pub count_fault : ℕ → Option ℕ
count_fault n = cond (ltb 0 n && leb n 4294967294) none (some books_area)

unfoldable pub counted_fault : CountedProgram → Option ℕ
counted_fault p = or_else (program_fault p.program) (count_fault p.bundles)

-- what a caller wants. "A commit takes the trial's totals and count": the trial's reply, of which row and place are not read
pub data Order : Type 0 where
  Lay : Order
  Trial : Order
  Commit : CountedReply → Order

-- 12 "stale trial", "right after the program check if the count differs"
abbrev pub is_stale : Order → ℕ → Bool
is_stale Lay bundles = false
is_stale Trial bundles = false
is_stale (Commit t) bundles = not (eqb t.bundles bundles)

-- "line 1's totals": functions, constants, models, context locals, entry point, files, global dependencies
abbrev pub line_one : Reply → List ℕ
line_one s =
    total_of s.totals functions_area ∷ total_of s.totals constants_area ∷ total_of s.totals models_area ∷ total_of s.totals context_locals_area
    ∷ s.entry_point ∷ total_of s.totals books_area ∷ s.globals ∷ []

abbrev pub same_numbers : List ℕ → List ℕ → Bool
same_numbers [] [] = true
same_numbers [] (n ∷ ns) = false
same_numbers (m ∷ ms) [] = false
same_numbers (m ∷ ms) (n ∷ ns) = eqb m n && same_numbers ms ns

-- 13 "totals differ", place 0, "after the work": a refusal by the work comes first
unfoldable pub judged : Order → Answer → Answer
unfolding reply_of
judged o (Refusal n place es) = Refusal n place es
judged Lay (Delivery c) = Delivery c
judged Trial (Delivery c) = Delivery c
judged (Commit t) (Delivery c) = cond (same_numbers (line_one t.reply) (line_one (reply_of (Delivery c)))) (Delivery c) (Refusal 13 0 [])

-- the check, then the count, then the work
abbrev pub ordered_by : Option ℕ → Order → Bool → List ℕ → CountedProgram → OntoAnswer
ordered_by (some area) o strict w p = Unfit area
ordered_by none o strict w p =
    Checked (cond (is_stale o p.bundles) (Refusal 12 p.bundles [])
    (judged o (answer_from (context_of strict p.program) w (lengths_of p.program.areas))))

unfoldable pub ordered : Order → Bool → List ℕ → CountedProgram → OntoAnswer
ordered o strict w p = ordered_by (counted_fault p) o strict w p

-- "a trial hands that count on"; "a delivery's count is one more"; a refusal's is as lent
abbrev pub bundles_after : Order → OntoAnswer → ℕ → ℕ
bundles_after o (Unfit area) n = n
bundles_after o (Checked (Refusal row place es)) n = n
bundles_after Lay (Checked (Delivery c)) n = n + 1
bundles_after Trial (Checked (Delivery c)) n = n
bundles_after (Commit t) (Checked (Delivery c)) n = n + 1

-- "A trial reports what laying the bundle on would answer", totals too
unfoldable pub reply_ordered : Order → CountedProgram → OntoAnswer → CountedReply
unfolding reply_onto
reply_ordered o p a = record { reply = reply_onto p.program a; bundles = bundles_after o a p.bundles }

-- after a trial that would deliver "the standing program is unchanged and all beyond it zero"
unfoldable pub areas_ordered : Order → CountedProgram → OntoAnswer → Areas
unfolding areas_onto
areas_ordered o p (Unfit area) = areas_onto p.program (Unfit area)
areas_ordered o p (Checked (Refusal n place es)) = areas_onto p.program (Checked (Refusal n place es))
areas_ordered Trial p (Checked (Delivery c)) = with_errors [] p.program.areas
areas_ordered Lay p (Checked (Delivery c)) = areas_onto p.program (Checked (Delivery c))
areas_ordered (Commit t) p (Checked (Delivery c)) = areas_onto p.program (Checked (Delivery c))
