-- The children of a record that the walk went through, one after the other. Assumes nothing.
use mathlib.Core.Path.{◌≡◌, refl, sym, subst, ◌∙◌}
use mathlib.Core.Bool.{true, false}
use mathlib.Core.List.{List, [], ◌∷◌}
use Prim.Native.Nat.{ℕ, ◌+◌, ◌≤◌, ◌<◌}
use native.Mathlib.Omega.{arith}
use native.Mathlib.Decide.{dec_lt, ℕ_discrete}
use borrow.Author.Tests.{ne_eqb, not-true}
use Rattle.std.specs.Prelude.{Result, Ok, Err}
use Rattle.words.specs.declared.row.Refused.{Refused}
use Rattle.tree.specs.Rules.{has, may_stand, slot_after, is_due, first_slot, in_range, slot_of, goes_on}
use Rattle.words.specs.Record.{kind_at, span_at, position_at, value_at, most_levels, token_at}
use Rattle.tree.specs.Check.{within_of, lacks_of, same_this, sound_at, head_at, then_on, walk_of}
use Rattle.tree.proofs.Spans.{and_left, and_right, within_true}
use Rattle.tree.proofs.Walks.{lacks_done, lacks_on, head_went, walk_on}
use lib.Dec.{eqb}
use Rattle.tree.specs.At.{Head, Headed, Leaf}
use Rattle.tree.specs.Reading.{next}

-- the records from i to e are children from slot s on, at level l, none at fault and none lacking
pub record Children (w : List ℕ) (s l i e : ℕ) : Type 0 where
  pub before : ℕ
  pub after : ℕ
  pub went : walk_of w s l before i e ≡ Ok after
  pub full : lacks_of w s i e ≡ false
  pub ordered : i ≤ e

-- the first of them
pub record Child (w : List ℕ) (s l i e : ℕ) : Type 0 where
  pub may : may_stand s (kind_at w i) ≡ true
  pub some : 0 < span_at w i
  pub fits : i + span_at w i ≤ e
  pub range : in_range (kind_at w i) (position_at w i) (value_at w i) ≡ true
  pub level : l ≤ most_levels
  pub inner : Children w (first_slot (kind_at w i)) (l + 1) (i + 1) (i + span_at w i)
  pub rest : Children w (slot_after s (kind_at w i)) l (i + span_at w i) e

-- what `sound_at` says, part by part
pub record Sound (w : List ℕ) (s t i e : ℕ) : Type 0 where
  pub may : may_stand s (kind_at w i) ≡ true
  pub within : within_of i (span_at w i) e ≡ true
  pub range : in_range (kind_at w i) (position_at w i) (value_at w i) ≡ true
  pub this : same_this (kind_at w i) (value_at w i) t ≡ true
  pub full : lacks_of w (first_slot (kind_at w i)) (i + 1) (i + span_at w i) ≡ false

pub sound_parts : (w : List ℕ) (s t i e : ℕ) → sound_at w s t i e ≡ true → Sound w s t i e
unfolding sound_at
sound_parts w s t i e h =
    let a = and_right (may_stand s (kind_at w i)) _ h in
    let b = and_right (within_of i (span_at w i) e) _ a in
    let c = and_right (in_range (kind_at w i) (position_at w i) (value_at w i)) _ b in
    let d = and_right (same_this (kind_at w i) (value_at w i) t) _ c in
    record { may = and_left _ _ h; within = and_left _ _ a; range = and_left _ _ b; this = and_left _ _ c; full = not-true _ d }

pub then_went : (o : Result ℕ Refused) (f : ℕ → Result ℕ Refused) (u : ℕ) → then_on o f ≡ Ok u → (t : ℕ) × (o ≡ Ok t) × (f t ≡ Ok u)
then_went (Ok t) f u h = (t, refl, h)
then_went (Err found) f u h = let z : ◌≡◌ {A = ℕ} 0 1 = cc in absurd (omega arith)

pub child : {w : List ℕ} {s l i e : ℕ} → Children w s l i e → i < e → Child w s l i e
child {w} {s} {l} {i} {e} k h =
    let t = k.before in
    let a = then_went (head_at w s l t i e) _ k.after (sym (walk_on w s l t i e h) ∙ k.went) in
    let b = then_went (walk_of w (first_slot (kind_at w i)) (l + 1) a.0 (i + 1) (i + span_at w i)) _ k.after a.2 in
    let g = head_went w s l t i e a.0 a.1 in
    let p = sound_parts w s t i e g.sound in
    let x = within_true i (span_at w i) e p.within in
    record {
      may = p.may;
      some = x.0;
      fits = x.1;
      range = p.range;
      level = g.level;
      inner = record { before = a.0; after = b.0; went = b.1; full = p.full; ordered = omega arith };
      rest = record { before = b.0; after = k.after; went = b.2; full = sym (lacks_on w s i e h p.within) ∙ k.full; ordered = x.1 };
    }

-- where one is due there is one
pub due_child : {w : List ℕ} {s l i e : ℕ} → is_due s ≡ true → Children w s l i e → Child w s l i e
due_child {w} {s} {l} {i} {e} d k = go (dec_lt i e)
  where
    go : Dec (i < e) → Child w s l i e
    go (yes h) = child k h
    go (no h) =
        let f : lacks_of w s i e ≡ is_due s = lacks_done w s i e (omega arith) in
        let g : lacks_of w s i e ≡ false = k.full in
        let z : ◌≡◌ {A = ℕ} 0 1 = cc in absurd (omega arith)

-- and none where none may stand
pub no_child : {w : List ℕ} {l i e : ℕ} → Children w 0 l i e → i ≡ e
unfolding may_stand
no_child {w} {l} {i} {e} k = go (dec_lt i e)
  where
    go : Dec (i < e) → i ≡ e
    go (yes h) = let f : false ≡ true = (child k h).may in let z : ◌≡◌ {A = ℕ} 0 1 = cc in absurd (omega arith)
    go (no h) = let o = k.ordered in omega arith

-- a proof for each number of a list serves for one that the list has
pub data EachOf (P : ℕ → Type 0) : List ℕ → Type 0 where
  no_more : EachOf P []
  ◌&◌ : {x : ℕ} {xs : List ℕ} → P x → EachOf P xs → EachOf P (x ∷ xs)

infixr 40 ◌&◌
pub any : (P : ℕ → Type 0) (k : ℕ) (xs : List ℕ) → has k xs ≡ true → EachOf P xs → P k
any P k [] h no_more = let z : ◌≡◌ {A = ℕ} 0 1 = cc in absurd (omega arith)
any P k (x ∷ xs) h (a & rest) = go (ℕ_discrete k x) (λ r. any P k xs r rest)
  where
    go : Dec (k ≡ x) → (has k xs ≡ true → P k) → P k
    go (yes e) r = subst P (sym e) a
    go (no n) r = r (rw (ne_eqb k x n) at h)

-- a record of a known kind, with its children
pub record Node (w : List ℕ) (l i k : ℕ) : Type 0 where
  pub kind_is : kind_at w i ≡ k
  pub some : 0 < span_at w i
  pub level : l ≤ most_levels
  pub inner : Children w (first_slot k) (l + 1) (i + 1) (i + span_at w i)

pub node : {w : List ℕ} {s l i e : ℕ} → Child w s l i e → Node w l i (kind_at w i)
node c = record { kind_is = refl; some = c.some; level = c.level; inner = c.inner }

pub node_as : {w : List ℕ} {l i j k : ℕ} → Node w l i j → j ≡ k → Node w l i k
node_as {w} {l} {i} n e = subst (λ x. Node w l i x) e n

-- what a slot takes, and the slot after it
pub record Takes (s : ℕ) (ks : List ℕ) (s' : ℕ) : Type 0 where
  pub only : (k : ℕ) → may_stand s k ≡ true → has k ks ≡ true
  pub after : (k : ℕ) → slot_after s k ≡ s'

-- parameters aside, its row says both
pub takes : (s : ℕ) → eqb s 8 ≡ false → Takes s (slot_of s).kinds (slot_of s).next
unfolding may_stand slot_after goes_on
takes s n = record { only = λ k h. h; after = λ k. rw n }

-- the first child at a slot that takes ks
pub record First (w : List ℕ) (ks : List ℕ) (s' l i e : ℕ) : Type 0 where
  pub is : has (kind_at w i) ks ≡ true
  pub node : Node w l i (kind_at w i)
  pub fits : next w i ≤ e
  pub rest : Children w s' l (next w i) e

first_of : {w : List ℕ} {ks : List ℕ} {s s' l i e : ℕ} → Takes s ks s' → Child w s l i e → First w ks s' l i e
first_of {w} {ks} {s} {s'} {l} {i} {e} t c =
    record {
      is = t.only (kind_at w i) c.may;
      node = node c;
      fits = c.fits;
      rest = subst (λ x. Children w x l (next w i) e) (t.after (kind_at w i)) c.rest;
    }

pub first : {w : List ℕ} {ks : List ℕ} {s s' l i e : ℕ} → Takes s ks s' → is_due s ≡ true → Children w s l i e → First w ks s' l i e
first t d k = first_of t (due_child d k)

pub first_if : {w : List ℕ} {ks : List ℕ} {s s' l i e : ℕ} → Takes s ks s' → i < e → Children w s l i e → First w ks s' l i e
first_if t h k = first_of t (child k h)

pub only_one : (j k : ℕ) → has j (k ∷ []) ≡ true → j ≡ k
only_one j k h = any (λ x. x ≡ k) j (k ∷ []) h (refl & no_more)

-- a record whose kind takes no children
pub alone : {w : List ℕ} {l i k : ℕ} → first_slot k ≡ 0 → Node w l i k → Head w i k 1
alone {w} {l} {i} f n =
    let e = no_child (subst (λ s. Children w s (l + 1) (i + 1) (i + span_at w i)) f n.inner) in
    record { kind_is = n.kind_is; span_is = omega arith }

pub leaf : {w : List ℕ} {l i k : ℕ} → first_slot k ≡ 0 → Node w l i k → Leaf w i k (token_at w i)
leaf f n = record { head = alone f n; token = refl }

-- a record of a kind and a span, with its token
pub headed : {w : List ℕ} {i k n : ℕ} → kind_at w i ≡ k → span_at w i ≡ n → Headed w i k n (token_at w i)
headed k n = record { head = record { kind_is = k; span_is = n }; token = refl }

-- a child that is a record of one kind, without children
pub leaf_first : {w : List ℕ} {s' l i e : ℕ} (k : ℕ) → first_slot k ≡ 0 → First w (k ∷ []) s' l i e → Leaf w i k (token_at w i)
leaf_first {w} {i = i} k f x = leaf f (node_as x.node (only_one (kind_at w i) k x.is))

-- a record's children, by its kind
pub children_as : {w : List ℕ} {l i k s : ℕ} → first_slot k ≡ s → Node w l i k → Children w s (l + 1) (i + 1) (next w i)
children_as {w} {l} {i} f n = subst (λ s. Children w s (l + 1) (i + 1) (i + span_at w i)) f n.inner
