-- What the call promises follows from its reply, its count of bundles and its words alone: a reply of number 0 is a delivery's, and a delivery keeps within
-- itself (`answer_keeps`). Assumes nothing.
use Prim.Native.Nat.{ℕ}
use native.Mathlib.Omega.{arith}
use mathlib.Core.Path.{◌≡◌, refl, sym, ap, subst, ◌∙◌}
use mathlib.Core.Bool.{Bool}
use mathlib.Core.List.{List}
use lib.ListN.{length}
use Rattle.words.specs.declared.reply.Reply as struct
use Rattle.definition.specs.Compiler.{Error}
use Rattle.definition.specs.Book.{new_context}
use Rattle.definition.specs.Answer.{Answer, Delivery, Refusal, Reply, answer, reply_of, areas_of}
use Rattle.definition.specs.Within.{Areas, KeepsWithin}
use Rattle.definition_laws.proofs.Answer.{refusals, Row, row_2, row_3, row_4, row_5, row_6, row_7, row_8, row_9, row_11}
use Rattle.definition_laws.proofs.Delivery.{answer_keeps}
use Rattle.definition.specs.Trial.{fresh_bundles}
use Rattle.definition.specs.Promise.{lengths_of, saying, logs_in, answering, program_of, Compiles}

-- every row has a number
pub no_row : {n : ℕ} {es : List Error} → Row n es → n ≡ 0 → ⊥
no_row row_2 z = omega arith
no_row row_3 z = omega arith
no_row row_4 z = omega arith
no_row row_5 z = omega arith
no_row row_6 z = omega arith
no_row (row_7 es) z = omega arith
no_row (row_8 es) z = omega arith
no_row row_9 z = omega arith
no_row row_11 z = omega arith

module _ (strict : Bool) (tree : List ℕ) (before after : Areas) (r : struct.Reply) (thirteen : length (lengths_of before) ≡ 13)
    (reply : saying r ≡ reply_of (answering strict tree before)) (words : after ≡ areas_of (lengths_of before) (answering strict tree before))
    (bundles : r.totals.bundles ≡ fresh_bundles (answering strict tree before)) where
  keeps : (a : Answer) → answering strict tree before ≡ a → r.number ≡ 0 → KeepsWithin (program_of after r) 0 (logs_in a)
  unfolding reply_of answer
  keeps (Delivery c) q z =
      let says : saying r ≡ reply_of (Delivery c) = reply ∙ ap reply_of q in
      let holds : after ≡ areas_of (lengths_of before) (Delivery c) = words ∙ ap (areas_of (lengths_of before)) q in
      subst (λ (x : Reply). KeepsWithin (record { areas = after; totals = x.totals; entry_point = x.entry_point; globals = x.globals }) 0
      (logs_in (Delivery c))) (sym says)
      (subst (λ (m : Areas). KeepsWithin (record {
        areas = m;
        totals = (reply_of (Delivery c)).totals;
        entry_point = (reply_of (Delivery c)).entry_point;
        globals = (reply_of (Delivery c)).globals;
      }) 0 (logs_in (Delivery c))) (sym holds) (answer_keeps strict tree (lengths_of before) c thirteen q))
  keeps (Refusal n p es) q z =
      let says : r.number ≡ n = ap (λ (x : Reply). x.number) (reply ∙ ap reply_of q) in
      absurd (no_row (refusals (new_context strict) tree (lengths_of before) n p es q) (sym says ∙ z))

  pub compiles : Compiles strict tree before after r
  compiles = record { reply = reply; words = words; bundles = bundles; within = λ z. keeps (answering strict tree before) refl z }
