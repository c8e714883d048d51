-- The ways to the end of laying on, a trial and a commit, over areas: a stale commit, refused before the work, an area too short, a book with errors or a ring,
-- other totals than the trial's, and a delivery, which is kept or given back. Each refusal and each trial leaves every area but the errors' as it was. By what
-- the work came to from the context that the program spells (`WorkEnd`). Assumes nothing.
use Prim.Native.Nat.{ℕ, ◌+◌, ◌-◌}
use native.Mathlib.Omega.{arith}
use mathlib.Core.Path.{◌≡◌, refl, sym, ap, ◌∙◌}
use mathlib.Core.Bool.{Bool, true, false, cond}
use mathlib.Core.Option.{none}
use mathlib.Core.List.{List, [], ◌∷◌}
use lib.ListN.{length, get_or, set}
use lib.Dec.{ltb}
use borrow.Author.Tests.{not-true, not-false}
use Rattle.words.specs.Ast.{Document}
use Rattle.words.specs.Areas.{errors_area}
use Rattle.words.specs.declared.reply.Totals.{Totals}
use Rattle.words.specs.declared.reply.Reply as struct
use Rattle.words.specs.Reply.{delivery}
use Rattle.definition.specs.Uses.{first_not_public}
use Rattle.definition.specs.Compiler.{Error}
use Rattle.definition.specs.Book.{Context}
use Rattle.definition.specs.DependencySolver.{Worked, loaded_of, needed, compile_needed}
use Rattle.definition.specs.Program.{filled, entries_from, error_entry}
use Rattle.definition.specs.Answer.{Answer, Delivery, Refusal, Reply, answer_worked, limits_of, answer_from, reply_of, areas_of}
use Rattle.definition.specs.Within.{Areas, lengths_of}
use Rattle.definition.specs.Onto.{OntoAnswer, context_of, Checked, reply_onto, with_errors, areas_onto}
use Rattle.definition.specs.Trial.{CountedProgram, Order, Lay, Trial, Commit, counted_fault, is_stale, line_one, same_numbers, judged, ordered, reply_ordered}
use Rattle.definition.specs.Trial.{areas_ordered}
use Rattle.definition.specs.Promise.{areas, saying, counted, lent_counted, Answers}
use Rattle.definition_laws.proofs.Orders.{judged_refusal, ordered_answer, ordered_stale}
use Rattle.building.specs.RepresentsMachine.{Filled}
use Rattle.compiler_laws.specs.declared.book.Book as book
use Rattle.compiler_laws.specs.BooksInOrder.{Zero, Accepted, FrontRows, MarkedFrom, Outcome}
use Rattle.compiler_laws.specs.CallEnd.{totals, refusal_with, mark_refusal_with, is_trial, differs}
use Rattle.compiler_laws.proofs.AnswerWords.{filled_is}
use Rattle.compiler_laws.proofs.CallBeginning.{zero_filled}
use Rattle.compiler_laws.proofs.WorkEnd.{Delivers, answer_full, answer_errors, answer_delivered}

-- the work that laying on begins, from the context that a program spells
abbrev pub work_onto : Context → Document → List Document → Worked
work_onto c root others = compile_needed (needed (loaded_of c) root others) (root ∷ others) c

answers_from : (c : Context) (lengths : List ℕ) {tree chosen : List ℕ} {root : Document} {others : List Document}
    → Accepted tree chosen (loaded_of c) root others
    → answer_from c tree lengths ≡ answer_worked (limits_of lengths) (work_onto c root others)
answers_from c lengths A = A.answers c refl lengths

-- what an order makes of a delivery

no_truth : {X : Type 0} → false ≡ true → X
no_truth q = absurd (let z : ◌≡◌ {A = ℕ} 0 1 = cc in omega arith)

module _ (o : Order) (c : Context) where
  judged_other : (t : Totals) → saying (delivery t) ≡ reply_of (Delivery c) → differs o t ≡ true → judged o (Delivery c) ≡ Refusal 13 0 []
  unfolding judged differs
  judged_other t says other = go o other
    where
      go : (o : Order) → differs o t ≡ true → judged o (Delivery c) ≡ Refusal 13 0 []
      go Lay q = no_truth q
      go Trial q = no_truth q
      go (Commit a) q =
          let at : same_numbers (line_one a.reply) (line_one (reply_of (Delivery c))) ≡ false =
          ap (λ (x : Reply). same_numbers (line_one a.reply) (line_one x)) (sym says)
          ∙ not-true (same_numbers (line_one a.reply) (line_one (saying (delivery t)))) q in
          ap (λ (b : Bool). cond b (Delivery c) (Refusal 13 0 [])) at

  judged_same : (t : Totals) → saying (delivery t) ≡ reply_of (Delivery c) → differs o t ≡ false → judged o (Delivery c) ≡ Delivery c
  unfolding judged differs
  judged_same t says same = go o same
    where
      go : (o : Order) → differs o t ≡ false → judged o (Delivery c) ≡ Delivery c
      go Lay q = refl
      go Trial q = refl
      go (Commit a) q =
          let at : same_numbers (line_one a.reply) (line_one (reply_of (Delivery c))) ≡ true =
          ap (λ (x : Reply). same_numbers (line_one a.reply) (line_one x)) (sym says)
          ∙ not-false (same_numbers (line_one a.reply) (line_one (saying (delivery t)))) q in
          ap (λ (b : Bool). cond b (Delivery c) (Refusal 13 0 [])) at

  judged_trial : is_trial o ≡ true → judged o (Delivery c) ≡ Delivery c
  unfolding judged is_trial
  judged_trial q = go o q
    where
      go : (o : Order) → is_trial o ≡ true → judged o (Delivery c) ≡ Delivery c
      go Lay q = no_truth q
      go Trial q = refl
      go (Commit a) q = no_truth q

module _ (o : Order) (p : CountedProgram) (c : Context) where
  kept_reply : is_trial o ≡ false → reply_ordered o p (Checked (Delivery c)) ≡ record { reply = reply_of (Delivery c); bundles = p.bundles + 1 }
  unfolding reply_ordered reply_onto is_trial
  kept_reply q = go o q
    where
      go : (o : Order) → is_trial o ≡ false → reply_ordered o p (Checked (Delivery c)) ≡ record { reply = reply_of (Delivery c); bundles = p.bundles + 1 }
      go Lay q = refl
      go Trial q = no_truth (sym q)
      go (Commit a) q = refl

  kept_areas : is_trial o ≡ false → areas_ordered o p (Checked (Delivery c)) ≡ areas_of (lengths_of p.program.areas) (Delivery c)
  unfolding areas_ordered areas_onto is_trial
  kept_areas q = go o q
    where
      go : (o : Order) → is_trial o ≡ false → areas_ordered o p (Checked (Delivery c)) ≡ areas_of (lengths_of p.program.areas) (Delivery c)
      go Lay q = refl
      go Trial q = no_truth (sym q)
      go (Commit a) q = refl

  tried_reply : is_trial o ≡ true → reply_ordered o p (Checked (Delivery c)) ≡ record { reply = reply_of (Delivery c); bundles = p.bundles }
  unfolding reply_ordered reply_onto is_trial
  tried_reply q = go o q
    where
      go : (o : Order) → is_trial o ≡ true → reply_ordered o p (Checked (Delivery c)) ≡ record { reply = reply_of (Delivery c); bundles = p.bundles }
      go Lay q = no_truth q
      go Trial q = refl
      go (Commit a) q = no_truth q

  tried_areas : is_trial o ≡ true → areas_ordered o p (Checked (Delivery c)) ≡ with_errors [] p.program.areas
  unfolding areas_ordered is_trial
  tried_areas q = go o q
    where
      go : (o : Order) → is_trial o ≡ true → areas_ordered o p (Checked (Delivery c)) ≡ with_errors [] p.program.areas
      go Lay q = no_truth q
      go Trial q = refl
      go (Commit a) q = no_truth q

module _ (o : Order) (strict : Bool) (tree : List ℕ) (before : Areas) (standing : Totals) where
  abbrev p : CountedProgram
  p = lent_counted before standing

  -- what the work answers
  abbrev worked : Answer
  worked = answer_from (context_of strict p.program) tree (lengths_of before)

  -- an answer's reply and words are the call's
  answered : {after : Areas} {r : struct.Reply} (a : OntoAnswer) → ordered o strict tree p ≡ a → counted r ≡ reply_ordered o p a → after ≡ areas_ordered o p a
      → Answers o strict tree standing before after r
  answered a q says holds = record { reply = says ∙ ap (reply_ordered o p) (sym q); words = holds ∙ ap (areas_ordered o p) (sym q) }

  -- a refusal with the errors of area 11
  refused : {after : Areas} {e : List ℕ} {errors : ℕ} {r : struct.Reply} (row place : ℕ) (es : List Error)
      → ordered o strict tree p ≡ Checked (Refusal row place es) → r ≡ refusal_with standing row place → Filled 4 e (entries_from error_entry 0 es) errors
      → length e ≡ length (get_or before errors_area []) → after ≡ set before errors_area e → Answers o strict tree standing before after r
  unfolding reply_ordered reply_onto areas_ordered areas_onto
  refused {e = e} row place es q says F long holds =
      answered (Checked (Refusal row place es)) q (ap counted says)
      (holds ∙ ap (λ (l : List ℕ). set before errors_area l) (filled_is F ∙ ap (λ (n : ℕ). filled n (entries_from error_entry 0 es)) long))

  module _ (passed : counted_fault p ≡ none) where
    -- row 12
    pub answer_stale : {after : Areas} {e : List ℕ} {r : struct.Reply} → is_stale o standing.bundles ≡ true
        → r ≡ refusal_with standing 12 standing.bundles → Zero e → length e ≡ length (get_or before errors_area []) → after ≡ set before errors_area e
        → Answers o strict tree standing before after r
    answer_stale stale says z long holds =
        refused 12 standing.bundles [] (ordered_stale o strict tree p passed stale) says (zero_filled z) long holds

    module _ (current : is_stale o standing.bundles ≡ false) where
      -- a refusal by the work
      refused_by_work : {after : Areas} {e : List ℕ} {errors : ℕ} {r : struct.Reply} (row place : ℕ) (es : List Error) → worked ≡ Refusal row place es
          → r ≡ refusal_with standing row place → Filled 4 e (entries_from error_entry 0 es) errors → length e ≡ length (get_or before errors_area [])
          → after ≡ set before errors_area e → Answers o strict tree standing before after r
      refused_by_work row place es q =
          refused row place es (ordered_answer o strict tree p (Refusal row place es) passed current q ∙ ap Checked (judged_refusal o row place es))

      -- rows 2 to 6
      pub answer_row : {after : Areas} {chosen e : List ℕ} {row place : ℕ} {r : struct.Reply}
          → FrontRows tree row place chosen (loaded_of (context_of strict p.program)) → (row ≡ 0 → ⊥) → r ≡ refusal_with standing row place
          → Zero e → length e ≡ length (get_or before errors_area []) → after ≡ set before errors_area e → Answers o strict tree standing before after r
      answer_row {row = row} {place} F ne says z long holds =
          refused_by_work row place [] (F.refused ne (context_of strict p.program) refl (lengths_of before)) says (zero_filled z) long holds

      -- the work, and how it ends
      module _ {chosen : List ℕ} {root : Document} {others : List Document}
          (A : Accepted tree chosen (loaded_of (context_of strict p.program)) root others) {s : book.Book}
          {c k f m q t l u n b e x rest : List ℕ} {row place : ℕ}
          (O : Outcome (limits_of (lengths_of before)) s c k f m q t l u n b e x rest row place (work_onto (context_of strict p.program) root others))
        where
          -- an area is too short, or a name is not public
          pub answer_over_lem : {after : Areas} {e' : List ℕ} {r : struct.Reply} → (s.full ≡ 0 → ⊥) → r ≡ mark_refusal_with standing s.full
              → Zero e' → length e' ≡ length (get_or before errors_area []) → after ≡ set before errors_area e' → Answers o strict tree standing before after r
          answer_over_lem {after} {e'} {r} ne says z long holds =
              by (ltb s.full first_not_public) (answer_full (answers_from (context_of strict p.program) (lengths_of before) A) O ne) says
            where
              by : (area : Bool) → worked ≡ cond area (Refusal 9 s.full []) (Refusal 11 (s.full - first_not_public) [])
                  → r ≡ cond area (refusal_with standing 9 s.full) (refusal_with standing 11 (s.full - first_not_public))
                  → Answers o strict tree standing before after r
              by true q says = refused_by_work 9 s.full [] q says (zero_filled z) long holds
              by false q says = refused_by_work 11 (s.full - first_not_public) [] q says (zero_filled z) long holds

          -- a book with errors, or a ring: the errors stay
          pub answer_listed : {after : Areas} {r : struct.Reply} → s.full ≡ 0 → (row ≡ 0 → ⊥) → r ≡ refusal_with standing row place
              → length e ≡ length (get_or before errors_area []) → after ≡ set before errors_area e → Answers o strict tree standing before after r
          answer_listed y ne says long holds =
              let L = answer_errors (answers_from (context_of strict p.program) (lengths_of before) A) O y ne in
              refused_by_work row place L.errors L.is says L.area long holds

          -- the work delivers
          module _ {globals : ℕ} (y : s.full ≡ 0) (h : row ≡ 0) (zr : Zero rest) (M : MarkedFrom k 0 s.constants 0 globals) where
            D : Delivers s place c k f m q t l u n b e x globals worked
            D = answer_delivered (answers_from (context_of strict p.program) (lengths_of before) A) O y h zr M

            abbrev delivered : Answer
            delivered = Delivery D.context

            judged_is : ordered o strict tree p ≡ Checked (judged o delivered)
            judged_is = ordered_answer o strict tree p delivered passed current D.is

            -- laying on, or a commit whose totals are the trial's: what is in the areas, one bundle more
            pub answer_kept : {after : Areas} {r : struct.Reply} (bundles : ℕ) → differs o (totals s place globals bundles) ≡ false → is_trial o ≡ false
                → r ≡ delivery (totals s place globals (standing.bundles + 1)) → after ≡ areas c k f m q t l u n b e x
                → lengths_of before ≡ lengths_of (areas c k f m q t l u n b e x) → Answers o strict tree standing before after r
            answer_kept {after} {r} bundles same kept says holds long =
                answered (Checked delivered) (judged_is ∙ ap Checked (judged_same o D.context (totals s place globals bundles) (D.reply bundles) same))
                (ap counted says ∙ ap (λ (x : Reply). record { reply = x; bundles = standing.bundles + 1 }) (D.reply (standing.bundles + 1))
                ∙ sym (kept_reply o p D.context kept))
                (holds ∙ D.words ∙ ap (λ (ls : List ℕ). areas_of ls delivered) (sym long) ∙ sym (kept_areas o p D.context kept))

            -- a trial: the program as it stood, and the count as lent
            pub answer_tried : {after : Areas} {e' : List ℕ} {r : struct.Reply} → is_trial o ≡ true → r ≡ delivery (totals s place globals standing.bundles)
                → Zero e' → length e' ≡ length (get_or before errors_area []) → after ≡ set before errors_area e' → Answers o strict tree standing before after
                r
            answer_tried {after} {e'} {r} tried says z long holds =
                answered (Checked delivered) (judged_is ∙ ap Checked (judged_trial o D.context tried))
                (ap counted says ∙ ap (λ (x : Reply). record { reply = x; bundles = standing.bundles }) (D.reply standing.bundles)
                ∙ sym (tried_reply o p D.context tried))
                (holds ∙ ap (λ (l : List ℕ). set before errors_area l) (filled_is (zero_filled {width = 4} z) ∙ ap (λ (n : ℕ). filled n []) long)
                ∙ sym (tried_areas o p D.context tried))

            -- a commit whose trial had other totals: row 13
            pub answer_differs : {after : Areas} {e' : List ℕ} {r : struct.Reply} (bundles : ℕ) → differs o (totals s place globals bundles) ≡ true
                → r ≡ refusal_with standing 13 0 → Zero e' → length e' ≡ length (get_or before errors_area []) → after ≡ set before errors_area e'
                → Answers o strict tree standing before after r
            answer_differs bundles other says z long holds =
                refused 13 0 [] (judged_is ∙ ap Checked (judged_other o D.context (totals s place globals bundles) (D.reply bundles) other)) says
                (zero_filled z) long holds
