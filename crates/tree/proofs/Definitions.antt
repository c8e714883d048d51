-- Names, bindings, aliases, functions, definitions and documents that the walk went through are spelled by their records: an `Item` for each.
-- Parameters go by induction on the records left. Assumes nothing.
use mathlib.Core.Path.{◌≡◌, refl, sym, subst, ◌∙◌}
use mathlib.Core.Bool.{Bool, true, false, cond}
use mathlib.Core.Option.{none, some}
use mathlib.Core.List.{List, [], ◌∷◌}
use Prim.Native.Nat.{ℕ, zero, suc, ◌+◌, ◌-◌, ◌*◌, ◌≤◌, ◌<◌}
use native.Mathlib.Omega.{arith}
use native.Mathlib.Decide.{dec_lt, ℕ_discrete}
use lib.ListN.{length}
use lib.Dec.{eqb}
use borrow.Author.Tests.{lt-ltb, le-ltb, eq-eqb, ne_eqb}
use Rattle.std.specs.Prelude.{Ok}
use Rattle.words.specs.Ast.{Token, Definition}
use Rattle.tree.specs.Rules.{definitions, constants, has, statements, may_stand, goes_on, slot_after, is_due, first_slot}
use Rattle.words.specs.Record.{kind_at, span_at, value_at, token_at, most_levels}
use Rattle.tree.specs.Check.{lacks_of, this_after, sound_at, walk_of}
use Rattle.tree.specs.At.{is_parameter, Head, Leaf, run_size, run_depth, NameAt, single, double, ParametersAt, ValueAt, BindingAt, AliasAt, size_f}
use Rattle.tree.specs.At.{FunctionAt, size_d, DefinitionAt, size_doc, DocumentAt, depth_f, depth_d, depth_doc}
use Rattle.tree.specs.Reading.{next, list_of, pairs_of, binding_of, alias_of, parameters_of, function_of, part_of, definition_by, definition_of}
use Rattle.tree.specs.Reading.{document_of}
use Rattle.tree.proofs.Walks.{lacks_done, lacks_on, head_went, walk_done, walk_on, walk_next}
use Rattle.tree.proofs.Children.{headed, takes, first, only_one, alone, leaf, leaf_first, children_as, Children, child, no_child, any, no_more}
use Rattle.tree.proofs.Children.{◌&◌, Node, node, node_as, Sound, sound_parts, then_went}
use Rattle.tree.proofs.Spells.{laws}
use Rattle.tree.proofs.Runs.{Item, run_of, pairs_of_lem}

-- names

name_item : (w : List ℕ) (l i : ℕ) → has (kind_at w i) (40 ∷ []) ≡ true → Node w l i (kind_at w i) → Item NameAt single single w l i (token_at w i)
unfolding first_slot
name_item w l i h m =
    let x = leaf refl (node_as m (only_one (kind_at w i) 40 h)) in
    let v = m.level in
    record { is = x; fills = sym x.head.span_is; deep = omega arith }

-- bindings and aliases

constants_bare : (k : ℕ) → has k constants ≡ true → first_slot k ≡ 0
unfolding first_slot
constants_bare k h = any (λ j. first_slot j ≡ 0) k constants h (refl & refl & refl & refl & refl & refl & refl & refl & no_more)

binding_item : (w : List ℕ) (i : ℕ) → Leaf w i 40 (token_at w i) → has (kind_at w (i + 1)) constants ≡ true → Head w (i + 1) (kind_at w (i + 1)) 1
    → BindingAt (binding_of w i) w i
unfolding ValueAt
binding_item w i a h c = (a, go (ℕ_discrete (kind_at w (i + 1)) 49))
  where
    go : Dec (kind_at w (i + 1) ≡ 49) → ValueAt (cond (eqb (kind_at w (i + 1)) 49) none (some (token_at w (i + 1)))) w (i + 1)
    go (yes q) = rw (eq-eqb (kind_at w (i + 1)) 49 q) (record { kind_is = q; span_is = c.span_is })
    go (no q) = rw (ne_eqb (kind_at w (i + 1)) 49 q) (record { head = c; token = refl }, q)

alias_item : (w : List ℕ) (i : ℕ) → Leaf w i 40 (token_at w i) → has (kind_at w (i + 1)) (40 ∷ []) ≡ true → Head w (i + 1) (kind_at w (i + 1)) 1
    → AliasAt (alias_of w i) w i
alias_item w i a h c = (a, record { head = record { kind_is = only_one (kind_at w (i + 1)) 40 h; span_is = c.span_is }; token = refl })

names_bare : (k : ℕ) → has k (40 ∷ []) ≡ true → first_slot k ≡ 0
unfolding first_slot
names_bare k h = any (λ j. first_slot j ≡ 0) k (40 ∷ []) h (refl & no_more)

-- functions: parameters, then statements

empty_children : (w : List ℕ) (s l i e : ℕ) → i ≡ e → is_due s ≡ false → Children w s l i e
empty_children w s l i e h d = record {
  before = 0;
  after = 0;
  went = walk_done w s l 0 i e (omega arith);
  full = lacks_done w s i e (omega arith) ∙ d;
  ordered = omega arith;
}

after_8 : (k : ℕ) → has k statements ≡ true → slot_after 8 k ≡ slot_after 9 k
unfolding slot_after goes_on
after_8 k h = any (λ j. slot_after 8 j ≡ slot_after 9 j) k statements h (refl & refl & refl & refl & refl & refl & no_more)

may_9 : (k : ℕ) → has k statements ≡ true → may_stand 9 k ≡ true
unfolding may_stand
may_9 k h = h

sound_from : (w : List ℕ) (s t i e : ℕ) → Sound w s t i e → sound_at w s t i e ≡ true
unfolding sound_at
sound_from w s t i e p = simp (p.may, p.within, p.range, p.this, p.full)

-- where a statement stands, the slot may be that of statements
as_statements : {w : List ℕ} {l i e : ℕ} → Children w 8 l i e → i < e → has (kind_at w i) statements ≡ true → Children w 9 l i e
as_statements {w} {l} {i} {e} k h m =
    let t = k.before in
    let a = then_went _ _ k.after (sym (walk_on w 8 l t i e h) ∙ k.went) in
    let b = then_went (walk_of w (first_slot (kind_at w i)) (l + 1) a.0 (i + 1) (i + span_at w i)) _ k.after a.2 in
    let g = head_went w 8 l t i e a.0 a.1 in
    let p = sound_parts w 8 t i e g.sound in
    let f = sound_from w 9 t i e (record { may = may_9 (kind_at w i) m; within = p.within; range = p.range; this = p.this; full = p.full }) in
    let q = after_8 (kind_at w i) m in
    let o : walk_of w (first_slot (kind_at w i)) (l + 1) (this_after (kind_at w i) (value_at w i) t) (i + 1) (i + span_at w i) ≡ Ok b.0
    = subst (λ u. walk_of w (first_slot (kind_at w i)) (l + 1) u (i + 1) (i + span_at w i) ≡ Ok b.0) g.this b.1 in
    record {
      before = t;
      after = k.after;
      went = walk_next w 9 l t i e b.0 h f g.level o ∙ subst (λ s. walk_of w s l b.0 (i + span_at w i) e ≡ Ok k.after) q b.2;
      full = lacks_on w 9 i e h p.within ∙ subst (λ s. lacks_of w s (i + span_at w i) e ≡ false) q (sym (lacks_on w 8 i e h p.within) ∙ k.full);
      ordered = k.ordered;
    }

pub record Params (w : List ℕ) (l i e : ℕ) (ps : List Token) : Type 0 where
  pub is : ParametersAt ps w i
  pub deep : l + run_depth (single {A = Token}) ps ≤ most_levels + 1
  pub rest : Children w 9 l (i + length ps) e

may_8 : (k : ℕ) → may_stand 8 k ≡ true → has k (40 ∷ 41 ∷ statements) ≡ true
unfolding may_stand
may_8 k h = h

-- a parameter, or a statement
no_way : {A : Type 0} → true ≡ false → A
no_way q = let z : ◌≡◌ {A = ℕ} 0 1 = cc in absurd (omega arith)

is_parameter_lem : (k : ℕ) → has k (40 ∷ 41 ∷ statements) ≡ true → is_parameter k ≡ true → (slot_after 8 k ≡ 8) × (first_slot k ≡ 0)
unfolding slot_after goes_on first_slot
is_parameter_lem k h =
    any (λ j. is_parameter j ≡ true → (slot_after 8 j ≡ 8) × (first_slot j ≡ 0)) k (40 ∷ 41 ∷ statements) h
    ((λ q. (refl, refl)) & (λ q. (refl, refl)) & not & not & not & not & not & not & no_more)
  where
    not : {A : Type 0} → false ≡ true → A
    not q = no_way (sym q)

is_statement : (k : ℕ) → has k (40 ∷ 41 ∷ statements) ≡ true → is_parameter k ≡ false → has k statements ≡ true
is_statement k h =
    any (λ j. is_parameter j ≡ false → has j statements ≡ true) k (40 ∷ 41 ∷ statements) h
    (no_way & no_way & yes_way & yes_way & yes_way & yes_way & yes_way & yes_way & no_more)
  where
    yes_way : false ≡ false → true ≡ true
    yes_way q = refl

add_zero' : (i : ℕ) → i ≡ i + 0
add_zero' i = omega arith

params_law : (w : List ℕ) (n l i e : ℕ) → l ≤ most_levels + 1 → Children w 8 l i e → e - i ≤ n → Params w l i e (parameters_of n w i e)
unfolding ParametersAt parameters_of run_depth is_due
params_law w zero l i e d k b =
    let o = k.ordered in
    record { is = tt; deep = omega arith; rest = empty_children w 9 l (i + 0) e (omega arith) refl }
params_law w (suc n) l i e d k b = go (dec_lt i e) (is_parameter (kind_at w i)) refl (params_law w n l (i + 1) e d)
  where
    go : Dec (i < e) → (t : Bool) → is_parameter (kind_at w i) ≡ t
        → (Children w 8 l (i + 1) e → e - (i + 1) ≤ n → Params w l (i + 1) e (parameters_of n w (i + 1) e)) → Params w l i e (parameters_of (suc n) w i e)
    go (no h) t q r =
        let o = k.ordered in
        rw (le-ltb i e (omega arith)) (record { is = tt; deep = omega arith; rest = empty_children w 9 l (i + 0) e (omega arith) refl })
    go (yes h) false q r =
        let m = as_statements k h (is_statement (kind_at w i) (may_8 (kind_at w i) (child k h).may) q) in
        rw (lt-ltb i e h, q) (record { is = tt; deep = omega arith; rest = subst (λ j. Children w 9 l j e) (add_zero' i) m })
    go (yes h) true q r =
        let x = child k h in
        let y = is_parameter_lem (kind_at w i) (may_8 (kind_at w i) x.may) q in
        let a = alone y.1 (node x) in
        let z = a.span_is in
        let v = x.level in
        let j : i + span_at w i ≡ i + 1 = omega arith in
        let p = r (subst (λ m. Children w 8 l m e) j (subst (λ s. Children w s l (i + span_at w i) e) y.0 x.rest)) (omega arith) in
        let c = p.deep in
        let m : i + 1 + length (parameters_of n w (i + 1) e) ≡ i + suc (length (parameters_of n w (i + 1) e)) = omega arith in
        rw (lt-ltb i e h, q) (record {
          is = (record { head = a; token = refl }, q, p.is);
          deep = omega arith;
          rest = subst (λ m. Children w 9 l m e) m p.rest;
        })

pub function_item : (w : List ℕ) (l i k : ℕ) → first_slot k ≡ 8 → Node w l i k → Item (FunctionAt k) size_f depth_f w l i (function_of w i)
function_item w l i k q m =
    let o = m.some in
    let v = m.level in
    let p = params_law w (span_at w i) (l + 1) (i + 1) (next w i) (omega arith) (children_as q m) (omega arith) in
    let y = p.rest.ordered in
    let j = i + 1 + length (parameters_of (span_at w i) w (i + 1) (next w i)) in
    let r = (laws w (2 * span_at w i)).ss (l + 1) j (next w i) (omega arith) p.rest (omega arith) in
    let z = r.size in
    let d = r.deep in
    let c = p.deep in
    let x : span_at w i ≡ size_f (function_of w i) = omega arith in
    record {
      is = record { headed = headed m.kind_is x; parameters = p.is; body = r.is };
      fills = sym x;
      deep = omega arith;
    }

method_item : (w : List ℕ) (l i : ℕ) → has (kind_at w i) (14 ∷ []) ≡ true → Node w l i (kind_at w i) → Item (FunctionAt 14) size_f depth_f w l i
    (function_of w i)
unfolding first_slot
method_item w l i h m = function_item w l i 14 refl (node_as m (only_one (kind_at w i) 14 h))

-- definitions

abbrev ItemD : List ℕ → ℕ → ℕ → Definition → Type 0
ItemD w l i x = Item DefinitionAt size_d depth_d w l i x

d_local : (w : List ℕ) (l i : ℕ) → Node w l i 10 → ItemD w l i (definition_by (part_of 10) w i)
unfolding DefinitionAt size_d depth_d first_slot is_due
d_local w l i m =
    let o = m.some in
    let v = m.level in
    let p = pairs_of_lem (binding_of w) BindingAt (takes 3 refl) (takes 4 refl) refl constants_bare (binding_item w) refl m in
    let z = p.fills in
    let d = p.deep in
    let q : span_at w i ≡ 1 + run_size double (pairs_of (binding_of w) (span_at w i) w (i + 1) (next w i)) = omega arith in
    record { is = (record { kind_is = m.kind_is; span_is = q }, p.is); fills = sym q; deep = omega arith }

d_include : (w : List ℕ) (l i : ℕ) → Node w l i 11 → ItemD w l i (definition_by (part_of 11) w i)
unfolding DefinitionAt size_d depth_d first_slot is_due
d_include w l i m =
    let o = m.some in
    let v = m.level in
    let p = pairs_of_lem (alias_of w) AliasAt (takes 5 refl) (takes 6 refl) refl names_bare (alias_item w) refl m in
    let z = p.fills in
    let d = p.deep in
    let q : span_at w i ≡ 1 + run_size double (pairs_of (alias_of w) (span_at w i) w (i + 1) (next w i)) = omega arith in
    record { is = (headed m.kind_is q, p.is, refl); fills = sym q; deep = omega arith }

d_model : (w : List ℕ) (l i : ℕ) → Node w l i 12 → ItemD w l i (definition_by (part_of 12) w i)
unfolding DefinitionAt size_d depth_d first_slot
d_model w l i m =
    let o = m.some in
    let v = m.level in
    let p = run_of (token_at w) NameAt single single (takes 7 refl) (name_item w) refl m in
    let z = p.fills in
    let d = p.deep in
    let q : span_at w i ≡ 1 + run_size single (list_of (token_at w) (span_at w i) w (i + 1) (next w i)) = omega arith in
    record { is = (headed m.kind_is q, p.is); fills = sym q; deep = omega arith }

d_public_model : (w : List ℕ) (l i : ℕ) → Node w l i 13 → ItemD w l i (definition_by (part_of 13) w i)
unfolding DefinitionAt size_d depth_d first_slot
d_public_model w l i m =
    let o = m.some in
    let v = m.level in
    let p = run_of (token_at w) NameAt single single (takes 7 refl) (name_item w) refl m in
    let z = p.fills in
    let d = p.deep in
    let q : span_at w i ≡ 1 + run_size single (list_of (token_at w) (span_at w i) w (i + 1) (next w i)) = omega arith in
    record { is = (headed m.kind_is q, p.is); fills = sym q; deep = omega arith }

d_function : (w : List ℕ) (l i : ℕ) → Node w l i 14 → ItemD w l i (definition_by (part_of 14) w i)
unfolding DefinitionAt size_d depth_d first_slot
d_function w l i m = let p = function_item w l i 14 refl m in record { is = p.is; fills = p.fills; deep = p.deep }

d_public_function : (w : List ℕ) (l i : ℕ) → Node w l i 15 → ItemD w l i (definition_by (part_of 15) w i)
unfolding DefinitionAt size_d depth_d first_slot
d_public_function w l i m = let p = function_item w l i 15 refl m in record { is = p.is; fills = p.fills; deep = p.deep }

d_implement : (w : List ℕ) (l i : ℕ) → Node w l i 16 → ItemD w l i (definition_by (part_of 16) w i)
unfolding DefinitionAt size_d depth_d first_slot
d_implement w l i m =
    let o = m.some in
    let v = m.level in
    let p = run_of (function_of w) (FunctionAt 14) size_f depth_f (takes 10 refl) (method_item w) refl m in
    let z = p.fills in
    let d = p.deep in
    let q : span_at w i ≡ 1 + run_size size_f (list_of (function_of w) (span_at w i) w (i + 1) (next w i)) = omega arith in
    record { is = (headed m.kind_is q, p.is); fills = sym q; deep = omega arith }

d_apply : (w : List ℕ) (l i : ℕ) → Node w l i 17 → ItemD w l i (definition_by (part_of 17) w i)
unfolding DefinitionAt size_d depth_d first_slot is_due
d_apply w l i m =
    let o = m.some in
    let v = m.level in
    let f = first (takes 11 refl) refl (children_as refl m) in
    let a = leaf_first 40 refl f in
    let x = a.head.span_is in
    let j : next w (i + 1) ≡ i + 2 = omega arith in
    let g = first (takes 12 refl) refl (subst (λ m. Children w 12 (l + 1) m (next w i)) j f.rest) in
    let b = leaf_first 40 refl g in
    let y = b.head.span_is in
    let z = no_child g.rest in
    let q : span_at w i ≡ 3 = omega arith in
    record { is = (record { kind_is = m.kind_is; span_is = q }, a, b); fills = sym q; deep = omega arith }

pub definition_item : (w : List ℕ) (l i : ℕ) → has (kind_at w i) definitions ≡ true → Node w l i (kind_at w i) → ItemD w l i (definition_of w i)
unfolding definition_of
definition_item w l i h m = any (λ k. Node w l i k → ItemD w l i (definition_by (part_of k) w i)) (kind_at w i) definitions h
    (d_local w l i & d_include w l i & d_model w l i & d_public_model w l i & d_function w l i & d_public_function w l i & d_implement w l i
    & d_apply w l i & no_more) m

-- documents

pub document_item : (w : List ℕ) (l i : ℕ) → has (kind_at w i) (1 ∷ []) ≡ true → Node w l i (kind_at w i)
    → Item DocumentAt size_doc depth_doc w l i (document_of w i)
unfolding document_of first_slot
document_item w l i h n =
    let m = node_as n (only_one (kind_at w i) 1 h) in
    let o = m.some in
    let v = m.level in
    let p = run_of (definition_of w) DefinitionAt size_d depth_d (takes 2 refl) (definition_item w) refl m in
    let z = p.fills in
    let d = p.deep in
    let q : span_at w i ≡ 1 + run_size size_d (list_of (definition_of w) (span_at w i) w (i + 1) (next w i)) = omega arith in
    record { is = record { head = record { kind_is = m.kind_is; span_is = q }; file = refl; definitions = p.is }; fills = sym q; deep = omega arith }
