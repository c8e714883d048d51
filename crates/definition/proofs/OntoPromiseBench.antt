-- What each part of the promises of laying on, of a trial and of a commit rules out, on the program of specs/OntoBench.antt with old errors in area 11: a
-- program that fails the check, a book that is refused (`implement` on an unknown name, row 7 with error 10, after a mark was due), and a book that is
-- delivered. The reply's number, place, numbers and count of bundles, and every word of every area, are said; and of a delivery that a log stands for each
-- function added. Assumes nothing.
use Prim.Native.Nat.{ℕ, ◌+◌}
use mathlib.Core.Path.{◌≡◌, ap}
use mathlib.Core.Bool.{false}
use mathlib.Core.List.{[], ◌∷◌, ◌++◌}
use Rattle.words.specs.declared.reply.Totals as struct'
use Rattle.words.specs.declared.reply.Reply as struct
use Rattle.words.specs.Areas.{functions_area}
use Rattle.words.specs.Reply.{area_totals}
use Rattle.words.specs.Opcode.{ReturnOp, GlobalGet}
use Rattle.words.specs.Object.{function_kind}
use Rattle.definition.specs.Program.{filled_all}
use Rattle.definition.specs.Within.{Areas, total_of}
use Rattle.definition.specs.Bench.{ample}
use Rattle.definition.specs.PriorBench.{code}
use Rattle.definition.specs.OntoBench.{tables, with_old_errors, grown, standing_constants, book7, reading, faulty}
use Rattle.definition.specs.Trial.{CountedReply}
use Rattle.definition.specs.TrialBench.{called}
use Rattle.definition.specs.Promise.{LaysOn, Tries, Commits}

-- the totals of the program, with an entry point
abbrev totals_with : ℕ → struct'.Totals
totals_with entry = record {
  code = 3;
  constants = 6;
  functions = 1;
  models = 1;
  properties = 1;
  methods = 1;
  context_locals = 2;
  public_names = 2;
  scope_names = 0;
  breaks = 0;
  errors = 5;
  books = 2;
  entry_point = entry;
  global_dependencies = 0;
  bundles = 3;
}

-- a program that fails the check: row 3, and all is as lent
module _ (after : Areas) (r : struct.Reply) (L : LaysOn false (1 ∷ []) (totals_with 1) with_old_errors.areas after r) where
  unfit_said : (r.number ≡ 3) × (r.place ≡ 1048579)
  unfolding called
  unfit_said = (ap (λ (x : CountedReply). x.reply.number) L.answers.reply, ap (λ (x : CountedReply). x.reply.place) L.answers.reply)

  unfit_count_said : r.totals.bundles ≡ 3
  unfolding called
  unfit_count_said = ap (λ (x : CountedReply). x.bundles) L.answers.reply

  unfit_totals_said : (area_totals r.totals ≡ with_old_errors.totals) × (r.totals.entry_point ≡ 1)
  unfolding called
  unfit_totals_said = (ap (λ (x : CountedReply). x.reply.totals) L.answers.reply, ap (λ (x : CountedReply). x.reply.entry_point) L.answers.reply)

  unfit_words_said : after ≡ with_old_errors.areas
  unfolding called
  unfit_words_said = L.answers.words

-- a book that is refused
module _ (after : Areas) (r : struct.Reply) (L : LaysOn false (book7 (reading 12 9 ++ faulty)) (totals_with 0) with_old_errors.areas after r) where
  refusal_said : (r.number ≡ 7) × (r.place ≡ 7)
  unfolding called
  refusal_said = (ap (λ (x : CountedReply). x.reply.number) L.answers.reply, ap (λ (x : CountedReply). x.reply.place) L.answers.reply)

  refusal_count_said : r.totals.bundles ≡ 3
  unfolding called
  refusal_count_said = ap (λ (x : CountedReply). x.bundles) L.answers.reply

  refusal_totals_said : (area_totals r.totals ≡ with_old_errors.totals) × (r.totals.global_dependencies ≡ 0)
  unfolding called
  refusal_totals_said = (ap (λ (x : CountedReply). x.reply.totals) L.answers.reply, ap (λ (x : CountedReply). x.reply.globals) L.answers.reply)

  refusal_words_said : after ≡ filled_all ample (tables ((10 ∷ 0 ∷ 16 ∷ 77 ∷ []) ∷ []))
  unfolding called
  refusal_words_said = L.answers.words

-- a book that is delivered
module _ (after : Areas) (r : struct.Reply) (L : LaysOn false (book7 (reading 12 9)) (totals_with 0) with_old_errors.areas after r) where
  number_said : (r.number ≡ 0) × (r.place ≡ 0)
  unfolding called
  number_said = (ap (λ (x : CountedReply). x.reply.number) L.answers.reply, ap (λ (x : CountedReply). x.reply.place) L.answers.reply)

  totals_said : area_totals r.totals ≡ 0 ∷ 5 ∷ 7 ∷ 2 ∷ 1 ∷ 1 ∷ 1 ∷ 3 ∷ 2 ∷ 0 ∷ 0 ∷ 0 ∷ 3 ∷ []
  unfolding called
  totals_said = ap (λ (x : CountedReply). x.reply.totals) L.answers.reply

  count_said : r.totals.bundles ≡ 4
  unfolding called
  count_said = ap (λ (x : CountedReply). x.bundles) L.answers.reply

  globals_said : r.totals.global_dependencies ≡ 1
  unfolding called
  globals_said = ap (λ (x : CountedReply). x.reply.globals) L.answers.reply

  words_said : after ≡ (grown 0 1 (code GlobalGet 5 0 ∷ code ReturnOp 0 0 ∷ []) (standing_constants 1 ++ ((function_kind ∷ 1 ∷ 0 ∷ []) ∷ []))
      ((0 ∷ 0 ∷ 0 ∷ 0 ∷ 3 ∷ 2 ∷ 2 ∷ 12 ∷ []) ∷ []) 0 ((2 ∷ 12 ∷ 1 ∷ 6 ∷ []) ∷ [])).areas
  unfolding called
  words_said = L.answers.words

  -- one function stood and one has a log
  logs_said : ◌≡◌ {A = ℕ} (1 + 1) r.totals.functions
  unfolding called
  logs_said = (L.within number_said.0).logs_each

-- the trial of that book: the same reply but for the count, and the program as it stood, without the old errors
module _ (after : Areas) (r : struct.Reply) (L : Tries false (book7 (reading 12 9)) (totals_with 0) with_old_errors.areas after r) where
  trial_said : (r.number ≡ 0) × (r.totals.functions ≡ 2) × (r.totals.bundles ≡ 3)
  unfolding called
  trial_said = (
    ap (λ (x : CountedReply). x.reply.number) L.reply,
    ap (λ (x : CountedReply). total_of x.reply.totals functions_area) L.reply,
    ap (λ (x : CountedReply). x.bundles) L.reply,
  )

  trial_words_said : after ≡ filled_all ample (tables [])
  unfolding called
  trial_words_said = L.words

-- a commit of a trial's totals with another number of functions: row 13, and the program as it stood
module _ (after : Areas) (r : struct.Reply) (L : Commits (totals_with 0) false (book7 (reading 12 9)) (totals_with 0) with_old_errors.areas after r) where
  differ_said : (r.number ≡ 13) × (r.place ≡ 0) × (r.totals.bundles ≡ 3)
  unfolding called
  differ_said = (
    ap (λ (x : CountedReply). x.reply.number) L.answers.reply,
    ap (λ (x : CountedReply). x.reply.place) L.answers.reply,
    ap (λ (x : CountedReply). x.bundles) L.answers.reply,
  )

  differ_words_said : after ≡ filled_all ample (tables [])
  unfolding called
  differ_words_said = L.answers.words
