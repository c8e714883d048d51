-- The document of a table, record by record: such words pass rows 2 to 4 (`tabular_fine`) and 10 (`tabular_agrees`), and words that pass these are such
-- (`fine_tabular`). Assumes nothing.
use Prim.Native.Nat.{ℕ, zero, suc, ◌+◌, ◌-◌, ◌*◌, ◌/◌, ◌%◌, ◌≤◌, ◌<◌}
use native.Mathlib.Omega.{arith}
use native.Mathlib.Decide.{dec_lt, ℕ_discrete}
use mathlib.Core.Path.{◌≡◌, refl, sym, ap, subst, ◌∙◌}
use mathlib.Core.Bool.{Bool, true, false, ◌||◌}
use mathlib.Core.List.{List}
use lib.ListN.{length, get_or}
use lib.Dec.{eqb, leb, ltb}
use borrow.Author.Tests.{eq-eqb, ne_eqb, eqb-true, le-leb, leb-true, lt-ltb, ltb-true, not-false}
use Rattle.std.specs.Prelude.{Ok}
use Rattle.words.specs.declared.row.Row.TheVariants.{BadShape}
use Rattle.words.specs.Record.{field_of, kind_at, span_at, position_at, value_at, most_records, most_levels, most_text, in_place}
use Rattle.tree.specs.Rules.{anywhere, may_stand, slot_after, is_due, first_slot, may_be_at, in_range, goes_on}
use Rattle.tree.specs.Check.{within_of, lacks_of, same_this, this_after, sound_at, head_at, walk_of, shape_of, records_of, refused}
use Rattle.tree.proofs.Spans.{and_left, and_right, within_true}
use Rattle.tree.proofs.Walks.{lacks_done, lacks_stop, lacks_on, head_went, walk_done, walk_on, walk_next}
use Rattle.tree.proofs.Ways.{shape_walked, shape_none}
use Rattle.tree.proofs.Children.{then_went, sound_parts, only_one}
use Rattle.tree.proofs.Bundle.{fine_passed, fine_spells}
use Rattle.column_lines.specs.Numeral.{word_end}
use Rattle.constant_tables.specs.Form.{document_kind, local_definition_kind, integer_kind, float_kind, name_kind}
use Rattle.constant_tables.specs.Entry.{Entry, record_kind, definition_of, table_records}
use Rattle.constant_tables.specs.Table.{head_is, in_definition, agrees_at, not_table, definition_count}
use Rattle.constant_tables.proofs.TableLines.{Text, TableKind, is_integer, is_float, Good}
use Rattle.constant_tables.proofs.Search.{first_least}
use Rattle.constant_tables.proofs.Lists.{no_entry, table_word, table_length}
use Rattle.constant_tables.proofs.Converting.{differs}

pub data ValueKind : ℕ → Type 0 where
  integer_value : ValueKind integer_kind
  float_value : ValueKind float_kind

-- record i is a local definition of one pair, a name and an integer or a float, all at position 0
pub record Definition (w : List ℕ) (i : ℕ) : Type 0 where
  pub kind : kind_at w i ≡ local_definition_kind
  pub span : span_at w i ≡ 3
  pub position : position_at w i ≡ 0
  pub zero_value : value_at w i ≡ 0
  pub name_kind : kind_at w (i + 1) ≡ name_kind
  pub name_span : span_at w (i + 1) ≡ 1
  pub name_position : position_at w (i + 1) ≡ 0
  pub name : Text (value_at w (i + 1))
  pub value_kind : ValueKind (kind_at w (i + 2))
  pub value_span : span_at w (i + 2) ≡ 1
  pub value_position : position_at w (i + 2) ≡ 0
  pub bits : value_at w (i + 2) < word_end

-- the words of a document of n such definitions
pub record Tabular (w : List ℕ) (n : ℕ) : Type 0 where
  pub long : length w ≡ (n * 3 + 1) * 4
  pub kind : kind_at w 0 ≡ document_kind
  pub span : span_at w 0 ≡ n * 3 + 1
  pub position : position_at w 0 ≡ 0
  pub file : Text (value_at w 0)
  pub each : (k : ℕ) → k < n → Definition w (k * 3 + 1)

-- rules of `tree`

within_yes : (i s e : ℕ) → 0 < s → i + s ≤ e → within_of i s e ≡ true
unfolding within_of
within_yes i s e a b = simp (ne_eqb s 0 (omega arith), le-leb (i + s) e b)

not_due_0 : is_due 0 ≡ false
unfolding is_due
not_due_0 = refl

not_due_2 : is_due 2 ≡ false
unfolding is_due
not_due_2 = refl

not_due_3 : is_due 3 ≡ false
unfolding is_due
not_due_3 = refl

after_2 : (k : ℕ) → slot_after 2 k ≡ 2
unfolding slot_after goes_on
after_2 k = refl

after_name : slot_after 3 name_kind ≡ 4
unfolding slot_after goes_on
after_name = refl

after_value : (k : ℕ) → slot_after 4 k ≡ 3
unfolding slot_after goes_on
after_value k = refl

first_document : first_slot document_kind ≡ 2
unfolding first_slot
first_document = refl

first_definition : first_slot local_definition_kind ≡ 3
unfolding first_slot
first_definition = refl

first_name : first_slot name_kind ≡ 0
unfolding first_slot
first_name = refl

first_value : (k : ℕ) → ValueKind k → first_slot k ≡ 0
unfolding first_slot
first_value k integer_value = refl
first_value k float_value = refl

may_document : may_stand 1 document_kind ≡ true
unfolding may_stand
may_document = refl

may_definition : may_stand 2 local_definition_kind ≡ true
unfolding may_stand
may_definition = refl

may_name : may_stand 3 name_kind ≡ true
unfolding may_stand
may_name = refl

may_value : (k : ℕ) → ValueKind k → may_stand 4 k ≡ true
unfolding may_stand
may_value k integer_value = refl
may_value k float_value = refl

not_41 : (k : ℕ) → ValueKind k → eqb k 41 ≡ false
not_41 k integer_value = refl
not_41 k float_value = refl

range_document : (v : ℕ) → Text v → in_range document_kind 0 v ≡ true
unfolding in_range may_be_at
range_document v t = simp (le-leb 1 v t.some, le-leb v most_text t.limit)

range_definition : in_range local_definition_kind 0 0 ≡ true
unfolding in_range may_be_at
range_definition = refl

range_name : (v : ℕ) → Text v → in_range name_kind 0 v ≡ true
unfolding in_range may_be_at in_place
range_name v t = simp (le-leb 1 v t.some, le-leb v most_text t.limit)

range_value : (k v : ℕ) → ValueKind k → v < word_end → in_range k 0 v ≡ true
unfolding in_range may_be_at in_place
range_value k v integer_value h = simp (le-leb 0 v (omega arith), le-leb v 18446744073709551615 (omega arith))
range_value k v float_value h = simp (le-leb 0 v (omega arith), le-leb v 18446744073709551615 (omega arith))

in-document : (p v : ℕ) → in_range document_kind p v ≡ true → (p ≡ 0) × Text v
unfolding in_range may_be_at
in-document p v e =
    let a = eqb-true p 0 (and_left (eqb p 0) _ e) in
    let r = and_right (eqb p 0) _ e in
    (a, record { some = leb-true 1 v (and_left (leb 1 v) _ r); limit = leb-true v most_text (and_right (leb 1 v) _ r) })

in-name : (p v : ℕ) → in_range name_kind p v ≡ true → Text v
unfolding in_range
in-name p v e =
    let r = and_right (may_be_at anywhere p) _ e in
    record { some = leb-true 1 v (and_left (leb 1 v) _ r); limit = leb-true v most_text (and_right (leb 1 v) _ r) }

in-value : (k p v : ℕ) → ValueKind k → in_range k p v ≡ true → v < word_end
unfolding in_range
in-value k p v integer_value e =
    let r = leb-true v 18446744073709551615 (and_right (leb 0 v) _ (and_right (may_be_at anywhere p) _ e)) in omega (arith, r)
in-value k p v float_value e =
    let r = leb-true v 18446744073709551615 (and_right (leb 0 v) _ (and_right (may_be_at anywhere p) _ e)) in omega (arith, r)

-- definitions are never lacking
never_lacks : (w : List ℕ) (n j e : ℕ) → e - j ≤ n → lacks_of w 2 j e ≡ false
never_lacks w zero j e b = lacks_done w 2 j e (omega arith) ∙ not_due_2
never_lacks w (suc n) j e b = go (dec_lt j e) (within_of j (span_at w j) e) refl (never_lacks w n (j + span_at w j) e)
  where
    go : Dec (j < e) → (t : Bool) → within_of j (span_at w j) e ≡ t
        → (e - (j + span_at w j) ≤ n → lacks_of w 2 (j + span_at w j) e ≡ false) → lacks_of w 2 j e ≡ false
    go (no h) t q r = lacks_done w 2 j e (omega arith) ∙ not_due_2
    go (yes h) false q r = lacks_stop w 2 j e h q
    go (yes h) true q r =
        let x = within_true j (span_at w j) e q in
        lacks_on w 2 j e h q ∙ subst (λ s. lacks_of w s (j + span_at w j) e ≡ false) (sym (after_2 (kind_at w j))) (r (omega arith))

-- the walk over a record that is not at fault
module _ (w : List ℕ) (s l i e k : ℕ) (K : kind_at w i ≡ k) (M : may_stand s k ≡ true) (W : within_of i (span_at w i) e ≡ true)
    (R : in_range k (position_at w i) (value_at w i) ≡ true) (N : eqb k 41 ≡ false) (F : lacks_of w (first_slot k) (i + 1) (i + span_at w i) ≡ false)
    (I : walk_of w (first_slot k) (l + 1) 0 (i + 1) (i + span_at w i) ≡ Ok 0) (L : l ≤ most_levels) (H : i < e) where
  sound_here : sound_at w s 0 i e ≡ true
  unfolding sound_at same_this
  sound_here = rw K (simp (M, W, R, N, F))

  this_here : this_after (kind_at w i) (value_at w i) 0 ≡ 0
  unfolding this_after
  this_here = rw (K, N)

  walk_step : walk_of w s l 0 i e ≡ walk_of w (slot_after s k) l 0 (i + span_at w i) e
  walk_step =
      walk_next w s l 0 i e 0 H sound_here L
      (ap (λ (t : ℕ). walk_of w (first_slot (kind_at w i)) (l + 1) t (i + 1) (i + span_at w i)) this_here
      ∙ ap (λ (q : ℕ). walk_of w (first_slot q) (l + 1) 0 (i + 1) (i + span_at w i)) K ∙ I)
      ∙ ap (λ (q : ℕ). walk_of w (slot_after s q) l 0 (i + span_at w i) e) K

-- over one without children
leaf_step : (w : List ℕ) (s l i e k : ℕ) → kind_at w i ≡ k → may_stand s k ≡ true → span_at w i ≡ 1 → in_range k (position_at w i) (value_at w i) ≡ true
    → eqb k 41 ≡ false → first_slot k ≡ 0 → l ≤ most_levels → i < e → walk_of w s l 0 i e ≡ walk_of w (slot_after s k) l 0 (i + 1) e
leaf_step w s l i e k K M S R N f L H =
    walk_step w s l i e k K M (within_yes i (span_at w i) e (omega (arith, S)) (omega (arith, S, H))) R N
    (ap (λ (q : ℕ). lacks_of w q (i + 1) (i + span_at w i)) f ∙ lacks_done w 0 (i + 1) (i + span_at w i) (omega (arith, S)) ∙ not_due_0)
    (walk_done w (first_slot k) (l + 1) 0 (i + 1) (i + span_at w i) (omega (arith, S))) L H
    ∙ ap (λ (q : ℕ). walk_of w (slot_after s k) l 0 (i + q) e) S

-- over a definition of a table
module _ (w : List ℕ) (i e : ℕ) (D : Definition w i) (H : i + 3 ≤ e) where
  next_is : i + 1 + 1 ≡ i + 2
  next_is = omega arith

  name_range : in_range name_kind (position_at w (i + 1)) (value_at w (i + 1)) ≡ true
  name_range = rw D.name_position (range_name (value_at w (i + 1)) D.name)

  value_range : in_range (kind_at w (i + 2)) (position_at w (i + 2)) (value_at w (i + 2)) ≡ true
  value_range = rw D.value_position (range_value (kind_at w (i + 2)) (value_at w (i + 2)) D.value_kind D.bits)

  own_range : in_range local_definition_kind (position_at w i) (value_at w i) ≡ true
  own_range = rw (D.position, D.zero_value) range_definition

  inner_walk : walk_of w 3 3 0 (i + 1) (i + 3) ≡ Ok 0
  inner_walk =
      leaf_step w 3 3 (i + 1) (i + 3) name_kind D.name_kind may_name D.name_span name_range refl first_name (omega arith) (omega arith)
      ∙ ap (λ (s : ℕ). walk_of w s 3 0 (i + 1 + 1) (i + 3)) after_name ∙ ap (λ (j : ℕ). walk_of w 4 3 0 j (i + 3)) next_is
      ∙ leaf_step w 4 3 (i + 2) (i + 3) (kind_at w (i + 2)) refl (may_value (kind_at w (i + 2)) D.value_kind) D.value_span value_range
      (not_41 (kind_at w (i + 2)) D.value_kind) (first_value (kind_at w (i + 2)) D.value_kind) (omega arith) (omega arith)
      ∙ walk_done w (slot_after 4 (kind_at w (i + 2))) 3 0 (i + 2 + 1) (i + 3) (omega arith)

  inner_full : lacks_of w 3 (i + 1) (i + 3) ≡ false
  inner_full =
      let a = D.name_span in
      let b = D.value_span in
      let x : i + 1 + span_at w (i + 1) ≡ i + 2 = omega (arith, a) in
      lacks_on w 3 (i + 1) (i + 3) (omega arith) (within_yes (i + 1) (span_at w (i + 1)) (i + 3) (omega (arith, a)) (omega (arith, a)))
      ∙ ap (λ (q : ℕ). lacks_of w (slot_after 3 q) (i + 1 + span_at w (i + 1)) (i + 3)) D.name_kind
      ∙ ap (λ (s : ℕ). lacks_of w s (i + 1 + span_at w (i + 1)) (i + 3)) after_name ∙ ap (λ (j : ℕ). lacks_of w 4 j (i + 3)) x
      ∙ lacks_on w 4 (i + 2) (i + 3) (omega arith) (within_yes (i + 2) (span_at w (i + 2)) (i + 3) (omega (arith, b)) (omega (arith, b)))
      ∙ ap (λ (s : ℕ). lacks_of w s (i + 2 + span_at w (i + 2)) (i + 3)) (after_value (kind_at w (i + 2)))
      ∙ lacks_done w 3 (i + 2 + span_at w (i + 2)) (i + 3) (omega (arith, b)) ∙ not_due_3

  definition_step : walk_of w 2 2 0 i e ≡ walk_of w 2 2 0 (i + 3) e
  definition_step =
      let s = D.span in
      walk_step w 2 2 i e local_definition_kind D.kind may_definition (within_yes i (span_at w i) e (omega (arith, s)) (omega (arith, s, H))) own_range refl
      (ap (λ (q : ℕ). lacks_of w q (i + 1) (i + span_at w i)) first_definition ∙ ap (λ (q : ℕ). lacks_of w 3 (i + 1) (i + q)) s ∙ inner_full)
      (ap (λ (q : ℕ). walk_of w q 3 0 (i + 1) (i + span_at w i)) first_definition ∙ ap (λ (q : ℕ). walk_of w 3 3 0 (i + 1) (i + q)) s ∙ inner_walk)
      (omega arith) (omega (arith, H))
      ∙ ap (λ (q : ℕ). walk_of w q 2 0 (i + span_at w i) e) (after_2 local_definition_kind) ∙ ap (λ (q : ℕ). walk_of w 2 2 0 (i + q) e) s

walk_definitions : (m w-k n : ℕ) (w : List ℕ) → w-k + m ≡ n → ((k : ℕ) → k < n → Definition w (k * 3 + 1)) → walk_of w 2 2 0 (w-k * 3 + 1) (n * 3 + 1) ≡ Ok 0
walk_definitions zero k n w e d = walk_done w 2 2 0 (k * 3 + 1) (n * 3 + 1) (omega (arith, e))
walk_definitions (suc m) k n w e d =
    definition_step w (k * 3 + 1) (n * 3 + 1) (d k (omega (arith, e))) (omega (arith, e))
    ∙ ap (λ (j : ℕ). walk_of w 2 2 0 j (n * 3 + 1)) (let x : k * 3 + 1 + 3 ≡ (k + 1) * 3 + 1 = omega arith in x)
    ∙ walk_definitions m (k + 1) n w (omega (arith, e)) d

-- such words pass rows 2 to 4
pub tabular_fine : (w : List ℕ) (n : ℕ) → Tabular w n → n * 3 + 1 ≤ most_records → shape_of w ≡ Ok tt
tabular_fine w n T l =
    let g = T.long in
    let s = T.span in
    let r : records_of w ≡ n * 3 + 1 = omega (arith, g) in
    let walk : walk_of w 1 1 0 0 (n * 3 + 1) ≡ Ok 0 =
    walk_step w 1 1 0 (n * 3 + 1) document_kind T.kind may_document (within_yes 0 (span_at w 0) (n * 3 + 1) (omega (arith, s)) (omega (arith, s)))
    (rw T.position (range_document (value_at w 0) T.file)) refl
    (ap (λ (q : ℕ). lacks_of w q (0 + 1) (0 + span_at w 0)) first_document ∙ never_lacks w (0 + span_at w 0) (0 + 1) (0 + span_at w 0) (omega arith))
    (ap (λ (q : ℕ). walk_of w q (1 + 1) 0 (0 + 1) (0 + span_at w 0)) first_document
    ∙ ap (λ (q : ℕ). walk_of w 2 2 0 1 q) (let x : 0 + span_at w 0 ≡ n * 3 + 1 = omega (arith, s) in x)
    ∙ walk_definitions n 0 n w (omega arith) T.each) (omega arith) (omega arith)
    ∙ walk_done w (slot_after 1 document_kind) 1 0 (0 + span_at w 0) (n * 3 + 1) (omega (arith, s)) in
    sym (shape_walked w (omega (arith, g)) (omega (arith, r, l)) (λ z. omega (arith, r, z))
    (sym (ap (λ (q : ℕ). walk_of w 1 1 0 0 q) r ∙ walk)))

-- records that agree

pub record Head (w : List ℕ) (i kind span : ℕ) : Type 0 where
  pub kind_is : kind_at w i ≡ kind
  pub span_is : span_at w i ≡ span
  pub at_zero : position_at w i ≡ 0

pub head_parts : (w : List ℕ) (i kind span : ℕ) → head_is w i kind span ≡ true → Head w i kind span
unfolding head_is
head_parts w i kind span e =
    let r = and_right (eqb (kind_at w i) kind) _ e in
    record {
      kind_is = eqb-true (kind_at w i) kind (and_left (eqb (kind_at w i) kind) _ e);
      span_is = eqb-true (span_at w i) span (and_left (eqb (span_at w i) span) _ r);
      at_zero = eqb-true (position_at w i) 0 (and_right (eqb (span_at w i) span) _ r);
    }

head_yes : (w : List ℕ) (i kind span : ℕ) → Head w i kind span → head_is w i kind span ≡ true
unfolding head_is
head_yes w i kind span h =
    simp (eq-eqb (kind_at w i) kind h.kind_is, eq-eqb (span_at w i) span h.span_is, eq-eqb (position_at w i) 0 h.at_zero)

-- what is asked of the three records of a definition
pub definition_parts : (w : List ℕ) (i : ℕ) → in_definition 0 w i ≡ true → Head w i local_definition_kind 3 × (value_at w i ≡ 0)
unfolding in_definition
definition_parts w i e = (
  head_parts w i local_definition_kind 3 (and_left (head_is w i local_definition_kind 3) _ e),
  eqb-true (value_at w i) 0 (and_right (head_is w i local_definition_kind 3) _ e),
)

pub name_parts : (w : List ℕ) (i : ℕ) → in_definition 1 w i ≡ true → Head w i name_kind 1
unfolding in_definition
name_parts w i e = head_parts w i name_kind 1 e

pub record Valued (w : List ℕ) (i : ℕ) : Type 0 where
  pub kind_is : ValueKind (kind_at w i)
  pub span_is : span_at w i ≡ 1
  pub at_zero : position_at w i ≡ 0

pub value_parts : (w : List ℕ) (i : ℕ) → in_definition 2 w i ≡ true → Valued w i
unfolding in_definition
value_parts w i e = go (head_is w i integer_kind 1) refl (head_is w i float_kind 1) refl e
  where
    valued : (k : ℕ) → ValueKind k → Head w i k 1 → Valued w i
    valued k v h = record { kind_is = subst ValueKind (sym h.kind_is) v; span_is = h.span_is; at_zero = h.at_zero }

    go : (a : Bool) → head_is w i integer_kind 1 ≡ a → (b : Bool) → head_is w i float_kind 1 ≡ b → (a || b) ≡ true → Valued w i
    go true x b y z = valued integer_kind integer_value (head_parts w i integer_kind 1 x)
    go false x true y z = valued float_kind float_value (head_parts w i float_kind 1 y)
    go false x false y z = cc

value_yes : (w : List ℕ) (i : ℕ) → Valued w i → in_definition 2 w i ≡ true
unfolding in_definition
value_yes w i v = go (kind_at w i) refl v.kind_is
  where
    or_right : (a : Bool) {b : Bool} → b ≡ true → (a || b) ≡ true
    or_right true e = refl
    or_right false e = e

    go : (k : ℕ) → kind_at w i ≡ k → ValueKind k → (head_is w i integer_kind 1 || head_is w i float_kind 1) ≡ true
    go k e integer_value =
        let h = head_yes w i integer_kind 1 (record { kind_is = e; span_is = v.span_is; at_zero = v.at_zero }) in simp h
    go k e float_value =
        or_right (head_is w i integer_kind 1) (head_yes w i float_kind 1 (record { kind_is = e; span_is = v.span_is; at_zero = v.at_zero }))

pub agreed_inside : (w : List ℕ) (i : ℕ) → agrees_at w (suc i) ≡ true → suc i < span_at w 0
unfolding agrees_at
agreed_inside w i e = ltb-true (suc i) (span_at w 0) (and_left (ltb (suc i) (span_at w 0)) _ e)

pub agreed : (w : List ℕ) (i part : ℕ) → agrees_at w (suc i) ≡ true → i % 3 ≡ part → in_definition part w (suc i) ≡ true
unfolding agrees_at
agreed w i part e p = ap (λ (q : ℕ). in_definition q w (suc i)) (sym p) ∙ and_right (ltb (suc i) (span_at w 0)) _ e

pub agreed_span : (w : List ℕ) → agrees_at w 0 ≡ true → span_at w 0 % 3 ≡ 1
unfolding agrees_at
agreed_span w e = eqb-true (span_at w 0 % 3) 1 e

definition_yes : (w : List ℕ) (i : ℕ) → Definition w i → in_definition 0 w i ≡ true
unfolding in_definition
definition_yes w i D =
    simp (head_yes w i local_definition_kind 3 (record { kind_is = D.kind; span_is = D.span; at_zero = D.position }), eq-eqb (value_at w i) 0 D.zero_value)

name_yes : (w : List ℕ) (i : ℕ) → Definition w i → in_definition 1 w (i + 1) ≡ true
unfolding in_definition
name_yes w i D = head_yes w (i + 1) name_kind 1 (record { kind_is = D.name_kind; span_is = D.name_span; at_zero = D.name_position })

-- every record of such words agrees
pub tabular_agrees : (w : List ℕ) (n j : ℕ) → Tabular w n → j < n * 3 + 1 → agrees_at w j ≡ true
unfolding agrees_at
tabular_agrees w n zero T h = eq-eqb (span_at w 0 % 3) 1 (let s = T.span in omega (arith, s))
tabular_agrees w n (suc i) T h =
    let t : ltb (suc i) (span_at w 0) ≡ true = lt-ltb (suc i) (span_at w 0) (let s = T.span in omega (arith, s, h)) in
    rw t (go (i % 3) refl (T.each (i / 3) (omega (arith, h))))
  where
    go : (part : ℕ) → i % 3 ≡ part → Definition w (i / 3 * 3 + 1) → in_definition part w (suc i) ≡ true
    go zero p D =
        let e : i / 3 * 3 + 1 ≡ suc i = omega (arith, p) in
        subst (λ (j : ℕ). in_definition 0 w j ≡ true) e (definition_yes w (i / 3 * 3 + 1) D)
    go (suc zero) p D =
        let e : i / 3 * 3 + 1 + 1 ≡ suc i = omega (arith, p) in
        subst (λ (j : ℕ). in_definition 1 w j ≡ true) e (name_yes w (i / 3 * 3 + 1) D)
    go (suc (suc zero)) p D =
        let e : i / 3 * 3 + 1 + 2 ≡ suc i = omega (arith, p) in
        subst (λ (j : ℕ). in_definition 2 w j ≡ true) e
        (value_yes w (i / 3 * 3 + 1 + 2) (record { kind_is = D.value_kind; span_is = D.value_span; at_zero = D.value_position }))
    go (suc (suc (suc part))) p D = absurd (omega (arith, p))

-- words that pass rows 2 to 4

pub record Document (w : List ℕ) : Type 0 where
  pub some : 0 < records_of w
  pub kind : kind_at w 0 ≡ document_kind
  pub within : span_at w 0 ≤ records_of w
  pub position : position_at w 0 ≡ 0
  pub file : Text (value_at w 0)
  pub whole : length w % 4 ≡ 0
  pub limit : records_of w ≤ most_records
  pub ranges : (j : ℕ) → j < records_of w → in_range (kind_at w j) (position_at w j) (value_at w j) ≡ true

may_is : (k : ℕ) → may_stand 1 k ≡ true → k ≡ document_kind
unfolding may_stand
may_is k e = only_one k document_kind e

pub fine_document : (w : List ℕ) → shape_of w ≡ Ok tt → Document w
fine_document w h =
    let p = fine_passed w h in
    let some : 0 < records_of w = above (ℕ_discrete (records_of w) 0) p.whole p.limit in
    let a = then_went (head_at w 1 1 0 0 (records_of w)) _ p.went.0 (sym (walk_on w 1 1 0 0 (records_of w) some) ∙ p.went.1) in
    let o = sound_parts w 1 0 0 (records_of w) (head_went w 1 1 0 0 (records_of w) a.0 a.1).sound in
    let k = may_is (kind_at w 0) o.may in
    let r = in-document (position_at w 0) (value_at w 0) (ap (λ (q : ℕ). in_range q (position_at w 0) (value_at w 0)) (sym k) ∙ o.range) in
    let x = within_true 0 (span_at w 0) (records_of w) o.within in
    record {
      some = some;
      kind = k;
      within = omega (arith, x.1);
      position = r.0;
      file = r.1;
      whole = p.whole;
      limit = p.limit;
      ranges = (fine_spells w h).ranges;
    }
  where
    above : Dec (records_of w ≡ 0) → length w % 4 ≡ 0 → records_of w ≤ most_records → 0 < records_of w
    above (no n) a b = omega (arith, n)
    above (yes e) a b = let z : refused BadShape 0 ≡ Ok tt = shape_none w a b e ∙ h in cc

pub name_text : (w : List ℕ) → Document w → (i : ℕ) → i < records_of w → kind_at w i ≡ name_kind → Text (value_at w i)
name_text w d i h k = in-name (position_at w i) (value_at w i) (ap (λ (q : ℕ). in_range q (position_at w i) (value_at w i)) (sym k) ∙ d.ranges i h)

pub value_bits : (w : List ℕ) → Document w → (i : ℕ) → i < records_of w → ValueKind (kind_at w i) → value_at w i < word_end
value_bits w d i h k = in-value (kind_at w i) (position_at w i) (value_at w i) k (d.ranges i h)

-- the document that agrees to its end
pub all_agree : (w : List ℕ) → records_of w ≤ not_table w → (j : ℕ) → j < records_of w → agrees_at w j ≡ true
all_agree w n j h = not-false (agrees_at w j) (first_least (differs w) 0 (records_of w) j (omega arith) (omega (arith, n, h)))

behind_not : (w : List ℕ) (i : ℕ) → span_at w 0 ≡ i → 0 < i → agrees_at w i ≡ true → ⊥
behind_not w zero e h a = omega (arith, h)
behind_not w (suc i) e h a = let x = agreed_inside w i a in omega (arith, x, e)

pub fine_tabular : (w : List ℕ) → Document w → records_of w ≤ not_table w → Tabular w (definition_count w)
fine_tabular w d n =
    let a = all_agree w n in
    let m = agreed_span w (a 0 d.some) in
    let s = whole_span (dec_lt (span_at w 0) (records_of w)) a m in
    let f = d.whole in
    let r : records_of w ≡ definition_count w * 3 + 1 = omega (arith, s, m, f) in
    record {
      long = omega (arith, r, f);
      kind = d.kind;
      span = s ∙ r;
      position = d.position;
      file = d.file;
      each = λ k h. definition k (omega (arith, r, h)) a;
    }
  where
    whole_span : Dec (span_at w 0 < records_of w) → ((j : ℕ) → j < records_of w → agrees_at w j ≡ true) → span_at w 0 % 3 ≡ 1 → span_at w 0 ≡ records_of w
    whole_span (yes l) a m = absurd (behind_not w (span_at w 0) refl (omega (arith, m)) (a (span_at w 0) l))
    whole_span (no l) a m = let x = d.within in omega (arith, l, x)

    definition : (k : ℕ) → k * 3 + 3 < records_of w → ((j : ℕ) → j < records_of w → agrees_at w j ≡ true) → Definition w (k * 3 + 1)
    definition k h a =
        let e1 : suc (k * 3) ≡ k * 3 + 1 = omega arith in
        let e2 : suc (k * 3 + 1) ≡ k * 3 + 1 + 1 = omega arith in
        let e3 : suc (k * 3 + 2) ≡ k * 3 + 1 + 2 = omega arith in
        let p = definition_parts w (k * 3 + 1)
        (subst (λ (j : ℕ). in_definition 0 w j ≡ true) e1 (agreed w (k * 3) 0 (a (suc (k * 3)) (omega (arith, h))) (omega arith))) in
        let q = name_parts w (k * 3 + 1 + 1)
        (subst (λ (j : ℕ). in_definition 1 w j ≡ true) e2 (agreed w (k * 3 + 1) 1 (a (suc (k * 3 + 1)) (omega (arith, h))) (omega arith))) in
        let r = value_parts w (k * 3 + 1 + 2)
        (subst (λ (j : ℕ). in_definition 2 w j ≡ true) e3 (agreed w (k * 3 + 2) 2 (a (suc (k * 3 + 2)) (omega (arith, h))) (omega arith))) in
        record {
          kind = p.0.kind_is;
          span = p.0.span_is;
          position = p.0.at_zero;
          zero_value = p.1;
          name_kind = q.kind_is;
          name_span = q.span_is;
          name_position = q.at_zero;
          name = name_text w d (k * 3 + 1 + 1) (omega (arith, h)) q.kind_is;
          value_kind = r.kind_is;
          value_span = r.span_is;
          value_position = r.at_zero;
          bits = value_bits w d (k * 3 + 1 + 2) (omega (arith, h)) r.kind_is;
        }

-- the words of a table are such

record-value : (k : ℕ) → TableKind k → ValueKind (record_kind k)
unfolding record_kind
record-value k is_integer = integer_value
record-value k is_float = float_value

pub table_tabular : (file : ℕ) (es : List Entry) → Text file → ((j : ℕ) → j < length es → Good (get_or es j no_entry)) → Tabular (table_records file es)
    (length es)
unfolding field_of
table_tabular file es t g =
    record {
      long = table_length file es;
      kind = refl;
      span = refl;
      position = refl;
      file = t;
      each = each;
    }
  where
    each : (k : ℕ) → k < length es → Definition (table_records file es) (k * 3 + 1)
    each k h =
        let z : k * 3 + 1 ≡ k * 3 + 1 + 0 = omega arith in
        let own : (b : ℕ) → b < 4 → field_of (table_records file es) (k * 3 + 1) b ≡ get_or (definition_of (get_or es k no_entry)) (0 * 4 + b) 0
        = λ b l. ap (λ (i : ℕ). field_of (table_records file es) i b) z ∙ table_word file es k 0 b h (omega arith) l in
        let name : (b : ℕ) → b < 4 → field_of (table_records file es) (k * 3 + 1 + 1) b ≡ get_or (definition_of (get_or es k no_entry)) (1 * 4 + b) 0
        = λ b l. table_word file es k 1 b h (omega arith) l in
        let value : (b : ℕ) → b < 4 → field_of (table_records file es) (k * 3 + 1 + 2) b ≡ get_or (definition_of (get_or es k no_entry)) (2 * 4 + b) 0
        = λ b l. table_word file es k 2 b h (omega arith) l in
        record {
          kind = own 0 (omega arith);
          span = own 1 (omega arith);
          position = own 2 (omega arith);
          zero_value = own 3 (omega arith);
          name_kind = name 0 (omega arith);
          name_span = name 1 (omega arith);
          name_position = name 2 (omega arith);
          name = subst Text (sym (name 3 (omega arith))) (g k h).text;
          value_kind = subst ValueKind (sym (value 0 (omega arith))) (record-value (get_or es k no_entry).kind (g k h).kind);
          value_span = value 1 (omega arith);
          value_position = value 2 (omega arith);
          bits = let v = value 3 (omega arith) in let b = (g k h).value in omega (arith, v, b);
        }
