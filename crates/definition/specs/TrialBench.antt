-- Trial and commit (2026-08) on the program of specs/OntoBench.antt (`TrialRows`): which row comes first, what is left, and the count of bundles. A row has
-- the order, the words of a bundle and what is lent. All are proved by computing, in proofs/AllTrialRows.antt
use Rattle.std.specs.Prelude.{ℕ, ◌≡◌, Bool, true, false, List, [], ◌∷◌, ◌++◌, set}
use Rattle.words.specs.Object.{function_kind}
use Rattle.words.specs.Opcode.{ReturnOp, GlobalGet}
use Rattle.definition.specs.Answer.{answer}
use Rattle.definition.specs.Within.{Areas, Program}
use Rattle.definition.specs.Trial.{CountedProgram, CountedReply, fresh_bundles, Order, Lay, Trial, Commit}
use Rattle.definition.specs.Trial.{counted_fault, judged, ordered, reply_ordered, areas_ordered}
use Rattle.definition.specs.Bench.{r, bundle, ample}
use Rattle.definition.specs.PriorBench.{code}
use Rattle.definition.specs.OntoBench.{After, laid, refused, standing, with_old_errors, wrong_entry_point, word_set, lent_in, listing, grown}
use Rattle.definition.specs.OntoBench.{standing_constants}
use Rattle.definition.specs.OntoBench.{book7, including, reading, faulty, copy_of2}

-- a program with a count of bundles
abbrev pub counted : ℕ → Program → CountedProgram
counted n p = record { program = p; bundles = n }

-- what a call leaves
pub record CountedAfter : Type 0 where
  pub after : After
  pub bundles : ℕ

abbrev left_by : CountedReply → Areas → CountedAfter
left_by s m = record {
  after = refused s.reply.number s.reply.place
      (record { areas = m; totals = s.reply.totals; entry_point = s.reply.entry_point; globals = s.reply.globals });
  bundles = s.bundles;
}

-- a call in a mode; its line unfolds what it computes with
unfoldable pub called_as : Bool → Order → List ℕ → CountedProgram → CountedAfter
unfolding laid counted_fault judged ordered reply_ordered areas_ordered
called_as strict o w p = left_by (reply_ordered o p (ordered o strict w p)) (areas_ordered o p (ordered o strict w p))

unfoldable pub called : Order → List ℕ → CountedProgram → CountedAfter
unfolding called_as
called o w p = called_as false o w p

-- what the trial of a bundle on a program answers, and the order to commit it
unfoldable pub committing : List ℕ → CountedProgram → Order
unfolding called
committing w p = Commit (reply_ordered Trial p (ordered Trial false w p))

-- a row, a place and a program, or none and a program, with a count
abbrev pub refused_with : ℕ → ℕ → ℕ → Program → CountedAfter
refused_with bundles row place p = record { after = refused row place p; bundles = bundles }

abbrev pub delivered_with : ℕ → Program → CountedAfter
delivered_with bundles p = record { after = refused 0 0 p; bundles = bundles }

-- the areas of one program under the numbers of another
abbrev pub numbers_of : Program → Program → Program
numbers_of p m = record { areas = m.areas; totals = p.totals; entry_point = p.entry_point; globals = p.globals }

-- book 7 with the function 12, which reads the global name 9; and what it is laid on
abbrev pub reads_global : List ℕ
reads_global = book7 (reading 12 9)

abbrev pub grown_by_global : Program
grown_by_global =
    grown 0 1 (code GlobalGet 5 0 ∷ code ReturnOp 0 0 ∷ []) (standing_constants 1 ++ ((function_kind ∷ 1 ∷ 0 ∷ []) ∷ []))
    ((0 ∷ 0 ∷ 0 ∷ 0 ∷ 3 ∷ 2 ∷ 2 ∷ 12 ∷ []) ∷ []) 0 ((2 ∷ 12 ∷ 1 ∷ 6 ∷ []) ∷ [])

-- book 7 with the function 12: a bare return, or two statements of null
abbrev pub returns_once : List ℕ
returns_once = book7 (r 14 2 0 12 ∷ r 21 1 0 0 ∷ [])

abbrev pub two_statements : List ℕ
two_statements = book7 (r 14 5 0 12 ∷ r 25 2 0 0 ∷ r 32 1 0 0 ∷ r 25 2 0 0 ∷ r 32 1 0 0 ∷ [])

-- the count after a fresh call
unfoldable pub freshly : List ℕ → ℕ
unfolding called
freshly w = fresh_bundles (answer false w ample)

pub record TrialRows : Type 0 where
  -- "1 when fresh", and 0 with all totals of a refusal
  pub fresh_counts : freshly (book7 []) ≡ 1
  pub fresh_refused : freshly (book7 faulty) ≡ 0
  -- a trial answers the totals that the program would have; the program is unchanged, old errors go, and the count is handed on
  pub trial_delivers : called Trial reads_global (counted 1 with_old_errors) ≡ delivered_with 1 (numbers_of grown_by_global standing)
  -- laying on and the commit of that trial: the words, and a count of one more
  pub lay_counts : called Lay reads_global (counted 1 standing) ≡ delivered_with 2 grown_by_global
  pub commit_delivers : called (committing reads_global (counted 1 with_old_errors)) reads_global (counted 1 with_old_errors) ≡ delivered_with 2 grown_by_global
  -- a root that stands is a bundle delivered too
  pub standing_root_counts : called Lay (bundle copy_of2) (counted 1 standing) ≡ delivered_with 2 standing
  -- a refusal of each: errors are listed, totals and count are as lent
  pub trial_refused : called Trial (book7 (reading 12 9 ++ faulty)) (counted 7 standing)
      ≡ refused_with 7 7 7 (listing ((10 ∷ 0 ∷ 16 ∷ 77 ∷ []) ∷ []))
  pub lay_refused : called Lay (book7 (including 8 3)) (counted 7 standing) ≡ refused_with 7 6 8 standing
  -- 12, place the standing count, whether the trial's is smaller or greater: after the check and before row 2
  pub stale_first : called (committing reads_global (counted 2 standing)) (1 ∷ []) (counted 3 standing) ≡ refused_with 3 12 3 standing
  pub stale_greater : called (committing reads_global (counted 4 standing)) reads_global (counted 3 with_old_errors)
      ≡ refused_with 3 12 3 (numbers_of with_old_errors standing)
  pub check_before_stale : called (committing reads_global (counted 2 standing)) (1 ∷ []) (counted 3 wrong_entry_point)
      ≡ refused_with 3 3 1048579 wrong_entry_point
  -- 13, place 0, where the work would deliver other totals; the program is as it stood
  pub totals_differ : called (committing (book7 []) (counted 1 standing)) reads_global (counted 1 standing) ≡ refused_with 1 13 0 standing
  -- the work's own refusals come first: rows 9, 7 and 2
  pub row_9_first : called (committing (book7 []) (counted 1 standing)) reads_global (counted 1 (lent_in (set ample 1 8)))
      ≡ refused_with 1 9 1 (lent_in (set ample 1 8))
  pub row_7_first : called (committing (book7 []) (counted 1 standing)) (book7 faulty) (counted 1 standing)
      ≡ refused_with 1 7 7 (listing ((10 ∷ 0 ∷ 16 ∷ 77 ∷ []) ∷ []))
  pub row_2_first : called (committing (book7 []) (counted 1 standing)) (1 ∷ []) (counted 1 standing) ≡ refused_with 1 2 0 standing
  -- line 1 does not show the code: another body with the same totals of line 1
  pub other_body : called (committing two_statements (counted 1 standing)) returns_once (counted 1 standing) ≡ called Lay returns_once (counted 1 standing)
  -- a trial refused, and its commit
  pub commit_refused : called (committing (book7 faulty) (counted 1 standing)) (book7 faulty) (counted 1 standing)
      ≡ called Trial (book7 faulty) (counted 1 standing)
  -- the count in the check: at area 12, after every other area
  pub no_bundles : called Lay reads_global (counted 0 with_old_errors) ≡ refused_with 0 3 1048588 with_old_errors
  pub too_many : called Trial reads_global (counted 4294967295 standing) ≡ refused_with 4294967295 3 1048588 standing
  pub most : called Lay reads_global (counted 4294967294 standing) ≡ delivered_with 4294967295 grown_by_global
  pub areas_first : called Lay reads_global (counted 0 (word_set 1 99 1)) ≡ refused_with 0 3 1048577 (word_set 1 99 1)
  -- a trial does not hand its mode on: in strict mode the commit is answered by that mode
  pub other_mode : called_as true (committing (book7 (including 2 6)) (counted 1 standing)) (book7 (including 2 6)) (counted 1 standing)
      ≡ refused_with 1 11 1 standing
