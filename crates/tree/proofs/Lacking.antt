-- The pass over the children of one record that finds a lacking one after them: a law for each way through the code. Assumes nothing.
use mathlib.Core.Path.{◌≡◌, refl, sym, ap, ◌∙◌}
use mathlib.Core.Bool.{Bool, true, false, cond, not, ◌&&◌}
use mathlib.Core.List.{List}
use Prim.Native.Nat.{ℕ, zero, suc, ◌+◌, ◌-◌, ◌%◌, ◌≤◌, ◌<◌}
use native.Mathlib.Omega.{arith}
use lib.ListN.{length}
use lib.Dec.{leb, ltb}
use borrow.Author.Tests.{le-leb, lt-leb, not-true, not-false}
use Rattle.std.specs.Prelude.{Result, Ok, Err}
use Rattle.words.specs.declared.row.Row.TheVariants.{BadShape, TooDeep}
use Rattle.words.specs.declared.row.Refused.{Refused}
use Rattle.words.specs.Record.{kind_at, span_at, position_at, value_at, most_levels, most_records}
use Rattle.tree.specs.Rules.{slot_of, rule_of, may_stand, goes_on, slot_after, is_due, first_slot, in_range}
use Rattle.tree.specs.Rows.{slot_row, rule_row, holds_in, range_in}
use Rattle.tree.specs.Check.{within_of, only_if, lacks_by, lacks_of, same_this, this_after, sound_at, head_at, then_on, walk_of, shape_by, shape_of, records_of, refused}
use Rattle.words.specs.Node.{record_at}
use Rattle.words.specs.declared.node.Record.{Record}
use Rattle.tree.specs.declared.SlotRule.{SlotRule}
use Rattle.tree.specs.declared.KindRule.{KindRule}
use Rattle.tree.specs.Children.{blamed, settled}
use Rattle.tree.proofs.Spans.{and_left, and_right, within_true}
use Rattle.tree.proofs.Tables.{hold_row, range_row, first_row}
use Rattle.tree.proofs.Walks.{lacks_done, lacks_on, walk_done, walk_on, walk_unsound}
use Rattle.tree.proofs.Ways.{shape_walked}

-- blame, settle

pub blame_parent : (w : List ℕ) (s p i e : ℕ) (o : Result ℕ Refused) → lacks_of w s i e ≡ true → blamed w s p i e o ≡ refused BadShape p
unfolding blamed
blame_parent w s p i e o h = simp h

pub blame_found : (w : List ℕ) (s p i e : ℕ) (o : Result ℕ Refused) → lacks_of w s i e ≡ false → blamed w s p i e o ≡ o
unfolding blamed
blame_found w s p i e o h = simp h

-- past the last child
pub blame_done : (w : List ℕ) (s l t p i e : ℕ) → e ≤ i → settled s t p ≡ blamed w s p i e (walk_of w s l t i e)
unfolding blamed settled
blame_done w s l t p i e h = rw (lacks_done w s i e h, walk_done w s l t i e h)

-- no documents are lacking

lacks_none : (n : ℕ) (w : List ℕ) (j e : ℕ) → lacks_by n w 1 j e ≡ false
unfolding lacks_by slot_after goes_on is_due
lacks_none zero w j e = refl
lacks_none (suc n) w j e = go (ltb j e) (within_of j (span_at w j) e) (lacks_none n w (j + span_at w j) e)
  where
    go : (a b : Bool) → lacks_by n w 1 (j + span_at w j) e ≡ false
        → only_if a false (only_if b false (λ i. lacks_by n w 1 (i + span_at w i) e)) j ≡ false
    go false b r = refl
    go true false r = refl
    go true true r = r

pub blame_documents : (w : List ℕ) (q j e : ℕ) (o : Result ℕ Refused) → blamed w 1 q j e o ≡ o
blame_documents w q j e o = blame_found w 1 q j e o (lacks_none (e - j) w j e)

-- inside

pub inside_low : (w : List ℕ) (s l t i e : ℕ) → most_levels < l
    → blamed w s i (i + 1) e (refused TooDeep i) ≡ blamed w s i (i + 1) e (cond (leb l most_levels) (walk_of w s (l + 1) t (i + 1) e) (refused TooDeep i))
inside_low w s l t i e d = simp (lt-leb l most_levels d)

pub inside_on : (w : List ℕ) (s l t i e : ℕ) → l ≤ most_levels → blamed w s i (i + 1) e (walk_of w s (l + 1) t (i + 1) e)
    ≡ blamed w s i (i + 1) e (cond (leb l most_levels) (walk_of w s (l + 1) t (i + 1) e) (refused TooDeep i))
inside_on w s l t i e d = simp (le-leb l most_levels d)

-- walk: where the tests of `stands` hold, a record is sound exactly if no child is lacking; where one fails it is not

and_last : (a b c d l : Bool) → (a && (b && (c && (d && l)))) ≡ ((a && (b && (c && d))) && l)
and_last false b c d l = refl
and_last true false c d l = refl
and_last true true false d l = refl
and_last true true true d l = refl

-- a record's own faults, then its children: lacking or not, then the level, then theirs
in-turn : (a d : Bool) (u i : ℕ) (f g : ℕ → Result ℕ Refused)
    → then_on (cond (true && not a) (cond d (Ok u) (refused TooDeep i)) (refused BadShape i)) (λ t. then_on (f t) g)
    ≡ then_on (cond a (refused BadShape i) (cond d (f u) (refused TooDeep i))) g
in-turn true d u i f g = refl
in-turn false true u i f g = refl
in-turn false false u i f g = refl

walk_turn : (w : List ℕ) (s l t i e : ℕ) → i < e
    → sound_at w s t i e ≡ (true && not (lacks_of w (first_slot (kind_at w i)) (i + 1) (i + span_at w i)))
    → walk_of w s l t i e ≡ then_on
    (blamed w (first_slot (kind_at w i)) i (i + 1) (i + span_at w i) (cond (leb l most_levels)
    (walk_of w (first_slot (kind_at w i)) (l + 1) (this_after (kind_at w i) (value_at w i) t) (i + 1) (i + span_at w i)) (refused TooDeep i)))
    (λ t₂. walk_of w (slot_after s (kind_at w i)) l t₂ (i + span_at w i) e)
unfolding head_at blamed
walk_turn w s l t i e h x =
    walk_on w s l t i e h
    ∙ rw x
    (in-turn (lacks_of w (first_slot (kind_at w i)) (i + 1) (i + span_at w i)) (leb l most_levels) (this_after (kind_at w i) (value_at w i) t) i
    (λ t₁. walk_of w (first_slot (kind_at w i)) (l + 1) t₁ (i + 1) (i + span_at w i)) (λ t₂. walk_of w (slot_after s (kind_at w i)) l t₂ (i + span_at w i) e))

module _ (w : List ℕ) (s l t i e : ℕ) {r : Record} {row : SlotRule} {rule : KindRule} (h : i < e) (C : r ≡ record_at w i) (R : row ≡ slot_row (slot_of s))
    (Q : rule ≡ rule_row (rule_of r.kind)) {b : Bool} (B : b ≡ (holds_in row.kinds r.kind && (within_of i r.span e && (range_in rule r.position r.value
    && same_this r.kind r.value t)))) where
  K : r.kind ≡ kind_at w i
  K = ap (λ (x : Record). x.kind) C

  S : r.span ≡ span_at w i
  S = ap (λ (x : Record). x.span) C

  X : r.value ≡ value_at w i
  X = ap (λ (x : Record). x.value) C

  told : b ≡ (may_stand s (kind_at w i) && (within_of i (span_at w i) e && (in_range (kind_at w i) (position_at w i) (value_at w i)
      && same_this (kind_at w i) (value_at w i) t)))
  told = B ∙ rw (hold_row s r.kind R, range_row r.kind r.position r.value Q, K, S, ap (λ (x : Record). x.position) C, X)

  sound_is : sound_at w s t i e ≡ (b && not (lacks_of w (first_slot (kind_at w i)) (i + 1) (i + span_at w i)))
  unfolding sound_at
  sound_is = and_last (may_stand s (kind_at w i)) (within_of i (span_at w i) e) (in_range (kind_at w i) (position_at w i) (value_at w i))
      (same_this (kind_at w i) (value_at w i) t) (not (lacks_of w (first_slot (kind_at w i)) (i + 1) (i + span_at w i))) ∙ rw told

  pub walk_fails : (q : ℕ) → not b ≡ true → blamed w s q i e (refused BadShape i) ≡ blamed w s q i e (walk_of w s l t i e)
  walk_fails q n = let f : b ≡ false = not-true b n in rw (walk_unsound w s l t i e h (sound_is ∙ simp f))

  module _ (n : not b ≡ false) where
    whole : within_of i (span_at w i) e ≡ true
    whole = and_left _ _ (and_right (may_stand s (kind_at w i)) _ (sym told ∙ not-false b n))

    pub walk_span : (0 < r.span) × (i + r.span ≤ e)
    walk_span = let x = within_true i (span_at w i) e whole in let y = S in (omega arith, omega arith)

    module _ {u : ℕ} (U : u ≡ this_after r.kind r.value t) {o : Result ℕ Refused}
        (O : o ≡ blamed w rule.first i (i + 1) (i + r.span)
        (cond (leb l most_levels) (walk_of w rule.first (l + 1) u (i + 1) (i + r.span)) (refused TooDeep i))) where
      first_is : rule.first ≡ first_slot (kind_at w i)
      first_is = first_row r.kind Q ∙ ap first_slot K

      this_is : u ≡ this_after (kind_at w i) (value_at w i) t
      this_is = U ∙ rw (K, X)

      walk_then : walk_of w s l t i e ≡ then_on o (λ t₂. walk_of w (slot_after s (kind_at w i)) l t₂ (i + span_at w i) e)
      walk_then =
          let x : b ≡ true = not-false b n in
          walk_turn w s l t i e h (sound_is ∙ rw x) ∙ rw (O, first_is, this_is, S)

      pub walk_found : (q : ℕ) {found : Refused} → o ≡ Err found → blamed w s q i e (Err found) ≡ blamed w s q i e (walk_of w s l t i e)
      walk_found q g = rw (walk_then, g)

      pub walk_past : (q : ℕ) {x y : ℕ} → o ≡ Ok x → y ≡ slot_after s r.kind
          → blamed w s q i e (walk_of w s l t i e) ≡ blamed w y q (i + r.span) e (walk_of w y l x (i + r.span) e)
      unfolding blamed
      walk_past q g Y = rw (walk_then, g, lacks_on w s i e h whole, Y, K, S)

-- check

pub shape_passed : (w : List ℕ) {n : ℕ} → length w % 4 ≡ 0 → n ≡ records_of w → n ≤ most_records → (n ≡ 0 → ⊥) → {o : Result ℕ Refused}
    → o ≡ blamed w 1 0 0 n (walk_of w 1 1 0 0 n) → shape_by o ≡ shape_of w
shape_passed w {n} a e most some h =
    shape_walked w a (omega (arith, e, most)) (λ z. some (e ∙ z))
    (h ∙ blame_documents w 0 0 n (walk_of w 1 1 0 0 n) ∙ ap (λ (k : ℕ). walk_of w 1 1 0 0 k) e)
