-- Statements and expressions that the walk went through are spelled by their records. Assumes nothing.
use mathlib.Core.Path.{◌≡◌, refl, sym, subst}
use mathlib.Core.Bool.{Bool, true, false}
use mathlib.Core.List.{List, [], ◌∷◌}
use Prim.Native.Nat.{ℕ, zero, suc, ◌+◌, ◌-◌, ◌*◌, ◌≤◌, ◌<◌, max}
use native.Mathlib.Omega.{arith}
use native.Mathlib.Decide.{dec_lt, ℕ_discrete}
use lib.Dec.{eqb}
use borrow.Author.Tests.{lt-ltb, le-ltb, eq-eqb, ne_eqb}
use Rattle.words.specs.Ast.{Expression, Expressions, Variables, Statement, Statements, Identifier, This, Null, Integer, Float, Text, Boolean, Array}
use Rattle.words.specs.Ast.{Prefix, Infix, If, IfElse, Call, InstanceGet, IndexGet, Local, Return, For, Break, Rescue, Expr}
use Rattle.tree.specs.Rules.{has, expressions, statements, is_due, first_slot}
use Rattle.words.specs.Record.{kind_at, span_at, token_at, most_levels}
use Rattle.tree.specs.At.{Head, Leaf, size_e, size_es, size_vs, size_s, size_ss, depth_e, depth_es, depth_vs, depth_s, depth_ss, ExpressionAt}
use Rattle.tree.specs.At.{ExpressionsAt, VariablesAt, StatementAt, StatementsAt}
use Rattle.tree.specs.Reading.{next, form_of, expression_by, act_of, statement_by, variable_by, expression_of, expressions_of, variables_of}
use Rattle.tree.specs.Reading.{statement_of, statements_of}
use Rattle.tree.proofs.Children.{headed, takes, First, first, first_if, only_one, alone, leaf, leaf_first, children_as, Children, no_child}
use Rattle.tree.proofs.Children.{any, no_more, ◌&◌, Node, node_as}

-- what is read at a place is what stands there, it fills the record's span, and no level of it is past 64
pub record ReadsE (w : List ℕ) (l i : ℕ) (x : Expression) : Type 0 where
  pub is : ExpressionAt x w i
  pub size : size_e x ≡ span_at w i
  pub deep : l + depth_e x ≤ most_levels + 1

pub record ReadsS (w : List ℕ) (l i : ℕ) (x : Statement) : Type 0 where
  pub is : StatementAt x w i
  pub size : size_s x ≡ span_at w i
  pub deep : l + depth_s x ≤ most_levels + 1

-- the same of a run of records that ends at e
pub record ReadsEs (w : List ℕ) (l i e : ℕ) (x : Expressions) : Type 0 where
  pub is : ExpressionsAt x w i
  pub size : i + size_es x ≡ e
  pub deep : l + depth_es x ≤ most_levels + 1

pub record ReadsVs (w : List ℕ) (l i e : ℕ) (x : Variables) : Type 0 where
  pub is : VariablesAt x w i
  pub size : i + size_vs x ≡ e
  pub deep : l + depth_vs x ≤ most_levels + 1

pub record ReadsSs (w : List ℕ) (l i e : ℕ) (x : Statements) : Type 0 where
  pub is : StatementsAt x w i
  pub size : i + size_ss x ≡ e
  pub deep : l + depth_ss x ≤ most_levels + 1

pub record Laws (w : List ℕ) (n : ℕ) : Type 0 where
  pub e : (l i k : ℕ) → has k expressions ≡ true → Node w l i k → 2 * span_at w i ≤ suc n → ReadsE w l i (expression_of n w i)
  pub es : (l i e : ℕ) → l ≤ most_levels + 1 → Children w 18 l i e → 2 * (e - i) ≤ n → ReadsEs w l i e (expressions_of n w i e)
  pub vs : (l i e : ℕ) → l ≤ most_levels + 1 → Children w 13 l i e → 2 * (e - i) ≤ n → ReadsVs w l i e (variables_of n w i e)
  pub s : (l i k : ℕ) → has k statements ≡ true → Node w l i k → 2 * span_at w i ≤ suc n → ReadsS w l i (statement_of n w i)
  pub ss : (l i e : ℕ) → l ≤ most_levels + 1 → Children w 9 l i e → 2 * (e - i) ≤ n → ReadsSs w l i e (statements_of n w i e)

module _ {w : List ℕ} {n : ℕ} (L : Laws w n) where
  -- an expression among the children
  one : {s' l i e : ℕ} → First w expressions s' l i e → 2 * (e - i) ≤ suc n → ReadsE w l i (expression_of n w i)
  one {s'} {l} {i} {e} f b = let h = f.fits in L.e l i (kind_at w i) f.is f.node (omega arith)

  -- a block among them
  pub record Block (l j : ℕ) : Type 0 where
    pub head : Head w j 43 (1 + size_ss (statements_of n w (j + 1) (next w j)))
    pub reads : StatementsAt (statements_of n w (j + 1) (next w j)) w (j + 1)
    pub deep : l + 1 + depth_ss (statements_of n w (j + 1) (next w j)) ≤ most_levels + 1
    pub some : 0 < span_at w j

  block : {s' l j e : ℕ} → First w (43 ∷ []) s' l j e → 2 * (e - j) ≤ suc n → Block l j
  unfolding first_slot
  block {s'} {l} {j} {e} f b =
      let m = node_as f.node (only_one (kind_at w j) 43 f.is) in
      let h = f.fits in
      let r = L.ss (l + 1) (j + 1) (next w j) (let v = m.level in omega arith) m.inner (let v = m.some in omega arith) in
      record { head = record { kind_is = m.kind_is; span_is = (let z = r.size in omega arith) }; reads = r.is; deep = r.deep; some = m.some }

  -- two expressions
  record Two (l i e : ℕ) : Type 0 where
    a : ReadsE w l i (expression_of n w i)
    b : ReadsE w l (next w i) (expression_of n w (next w i))
    end : next w (next w i) ≡ e

  two : {l i e : ℕ} → Children w 19 l i e → 2 * (e - i) ≤ n → Two l i e
  unfolding is_due
  two {l} {i} {e} k h =
      let f = first (takes 19 refl) refl k in
      let g = first (takes 17 refl) refl f.rest in
      let x = f.fits in
      let y = f.node.some in
      record { a = one f (omega arith); b = one g (omega arith); end = no_child g.rest }

  -- what is read of a record whose kind is k
  abbrev e_by : ℕ → ℕ → Expression
  e_by k i = expression_by (form_of k) w i (λ j. expression_of n w j) (λ j. expressions_of n w j (next w i)) (λ j. statements_of n w (j + 1) (next w j))

  e_as : {l i : ℕ} (k : ℕ) → kind_at w i ≡ k
      → ReadsE w l i (e_by k i)
      → ReadsE w l i (expression_of (suc n) w i)
  unfolding expression_of
  e_as {l} {i} k q r =
      subst (λ x. ReadsE w l i (e_by x i)) (sym q) r

  e_leaf : {l i : ℕ} (k : ℕ) (x : Expression) → (Leaf w i k (token_at w i) → ExpressionAt x w i)
      → size_e x ≡ 1 → depth_e x ≡ 1 → first_slot k ≡ 0 → Node w l i k → ReadsE w l i x
  e_leaf {l} {i} k x f s d z m =
      let h = leaf z m in
      let p = h.head.span_is in
      let v = m.level in
      record { is = f h; size = omega arith; deep = omega arith }

  e_array : {l i : ℕ} → Node w l i 37 → 2 * span_at w i ≤ suc (suc n) → ReadsE w l i (Array (token_at w i) (expressions_of n w (i + 1) (next w i)))
  unfolding ExpressionAt size_e depth_e first_slot
  e_array {l} {i} m b =
      let v = m.level in
      let o = m.some in
      let r = L.es (l + 1) (i + 1) (next w i) (omega arith) (children_as refl m) (omega arith) in
      let z = r.size in
      let d = r.deep in
      let q : span_at w i ≡ 1 + size_es (expressions_of n w (i + 1) (next w i)) = omega arith in
      record { is = (headed m.kind_is q, r.is); size = sym q; deep = omega arith }

  e_prefix : {l i : ℕ} → Node w l i 38 → 2 * span_at w i ≤ suc (suc n) → ReadsE w l i (Prefix (token_at w i) (expression_of n w (i + 1)))
  unfolding ExpressionAt size_e depth_e first_slot is_due
  e_prefix {l} {i} m b =
      let v = m.level in
      let o = m.some in
      let f = first (takes 17 refl) refl (children_as refl m) in
      let r = one f (omega arith) in
      let z = r.size in
      let d = r.deep in
      let y = no_child f.rest in
      let q : span_at w i ≡ 1 + size_e (expression_of n w (i + 1)) = omega arith in
      record { is = (headed m.kind_is q, r.is); size = sym q; deep = omega arith }

  -- of two expressions: the record's span, where the second stands, how deep they are
  record Pair (l i : ℕ) : Type 0 where
    span : span_at w i ≡ 1 + size_e (expression_of n w (i + 1)) + size_e (expression_of n w (next w (i + 1)))
    left : ExpressionAt (expression_of n w (i + 1)) w (i + 1)
    right : ExpressionAt (expression_of n w (next w (i + 1))) w (i + 1 + size_e (expression_of n w (i + 1)))
    deep : l + (1 + max (depth_e (expression_of n w (i + 1))) (depth_e (expression_of n w (next w (i + 1))))) ≤ most_levels + 1

  e_pair : {l i k : ℕ} → first_slot k ≡ 19 → Node w l i k → 2 * span_at w i ≤ suc (suc n) → Pair l i
  e_pair {l} {i} {k} f m b =
      let v = m.level in
      let o = m.some in
      let t = two (children_as f m) (omega arith) in
      let x = t.a.size in
      let y = t.b.size in
      let z = t.end in
      let d₁ = t.a.deep in
      let d₂ = t.b.deep in
      record {
        span = omega arith;
        left = t.a.is;
        right = subst (λ j. ExpressionAt (expression_of n w (next w (i + 1))) w (i + 1 + j)) (sym x) t.b.is;
        deep = omega arith;
      }

  e_infix : {l i : ℕ} → Node w l i 39 → 2 * span_at w i ≤ suc (suc n)
      → ReadsE w l i (Infix (expression_of n w (i + 1)) (token_at w i) (expression_of n w (next w (i + 1))))
  unfolding ExpressionAt size_e depth_e first_slot
  e_infix {l} {i} m b =
      let p = e_pair refl m b in
      record { is = (headed m.kind_is p.span, p.left, p.right); size = sym p.span; deep = p.deep }

  e_instance : {l i : ℕ} → Node w l i 45 → 2 * span_at w i ≤ suc (suc n)
      → ReadsE w l i (InstanceGet (token_at w i) (expression_of n w (i + 1)) (expression_of n w (next w (i + 1))))
  unfolding ExpressionAt size_e depth_e first_slot
  e_instance {l} {i} m b =
      let p = e_pair refl m b in
      record { is = (headed m.kind_is p.span, p.left, p.right); size = sym p.span; deep = p.deep }

  e_index : {l i : ℕ} → Node w l i 46 → 2 * span_at w i ≤ suc (suc n)
      → ReadsE w l i (IndexGet (token_at w i) (expression_of n w (i + 1)) (expression_of n w (next w (i + 1))))
  unfolding ExpressionAt size_e depth_e first_slot
  e_index {l} {i} m b =
      let p = e_pair refl m b in
      record { is = (headed m.kind_is p.span, p.left, p.right); size = sym p.span; deep = p.deep }

  e_call : {l i : ℕ} → Node w l i 44 → 2 * span_at w i ≤ suc (suc n)
      → ReadsE w l i (Call (token_at w i) (expression_of n w (i + 1)) (expressions_of n w (next w (i + 1)) (next w i)))
  unfolding ExpressionAt size_e depth_e first_slot is_due
  e_call {l} {i} m b =
      let v = m.level in
      let o = m.some in
      let f = first (takes 23 refl) refl (children_as refl m) in
      let r = one f (omega arith) in
      let x = f.fits in
      let p = L.es (l + 1) (next w (i + 1)) (next w i) (omega arith) f.rest (omega arith) in
      let y = r.size in
      let z = p.size in
      let d₁ = r.deep in
      let d₂ = p.deep in
      let q : span_at w i ≡ 1 + size_e (expression_of n w (i + 1)) + size_es (expressions_of n w (next w (i + 1)) (next w i)) = omega arith in
      record {
        is = (
          headed m.kind_is q,
          r.is,
          subst (λ j. ExpressionsAt (expressions_of n w (next w (i + 1)) (next w i)) w (i + 1 + j)) (sym y) p.is,
        );
        size = sym q;
        deep = omega arith;
      }

  -- an if: its condition, its true part, and where that ends
  record Parts (l i : ℕ) : Type 0 where
    condition : ReadsE w (l + 1) (i + 1) (expression_of n w (i + 1))
    true_part : Block (l + 1) (next w (i + 1))
    rest : Children w 22 (l + 1) (next w (next w (i + 1))) (next w i)

  e_parts : {l i : ℕ} → Node w l i 42 → 2 * span_at w i ≤ suc (suc n) → Parts l i
  unfolding first_slot is_due
  e_parts {l} {i} m b =
      let v = m.level in
      let o = m.some in
      let f = first (takes 20 refl) refl (children_as refl m) in
      let g = first (takes 21 refl) refl f.rest in
      let x = f.fits in
      let y = f.node.some in
      record { condition = one f (omega arith); true_part = block g (omega arith); rest = g.rest }

  module _ {l i : ℕ} (m : Node w l i 42) (p : Parts l i) where
    c : Expression
    c = expression_of n w (i + 1)

    t : Statements
    t = statements_of n w (next w (i + 1) + 1) (next w (next w (i + 1)))

    e_if : next w (next w (i + 1)) ≡ next w i → ReadsE w l i (If c t)
    unfolding ExpressionAt size_e depth_e c t
    e_if h =
        let x = p.condition.size in
        let y = p.true_part.head.span_is in
        let d₁ = p.condition.deep in
        let d₂ = p.true_part.deep in
        let q : span_at w i ≡ 1 + size_e c + (1 + size_ss t) = omega arith in
        record {
          is = (
            record { kind_is = m.kind_is; span_is = q },
            p.condition.is,
            subst (λ j. Head w (i + 1 + j) 43 (1 + size_ss t)) (sym x) p.true_part.head,
            subst (λ j. StatementsAt t w (i + 1 + j + 1)) (sym x) p.true_part.reads,
          );
          size = sym q;
          deep = omega arith;
        }

    f : Statements
    f = statements_of n w (next w (next w (i + 1)) + 1) (next w (next w (next w (i + 1))))

    e_else : Block (l + 1) (next w (next w (i + 1))) → next w (next w (next w (i + 1))) ≡ next w i → ReadsE w l i (IfElse c t f)
    unfolding ExpressionAt size_e depth_e c t f
    e_else g h =
        let x = p.condition.size in
        let y = p.true_part.head.span_is in
        let z = g.head.span_is in
        let d₁ = p.condition.deep in
        let d₂ = p.true_part.deep in
        let d₃ = g.deep in
        let q : span_at w i ≡ 1 + size_e c + (1 + size_ss t) + (1 + size_ss f) = omega arith in
        let a : next w (next w (i + 1)) ≡ i + 1 + size_e c + (1 + size_ss t) = omega arith in
        record {
          is = (
            record { kind_is = m.kind_is; span_is = q },
            p.condition.is,
            subst (λ j. Head w (i + 1 + j) 43 (1 + size_ss t)) (sym x) p.true_part.head,
            subst (λ j. StatementsAt t w (i + 1 + j + 1)) (sym x) p.true_part.reads,
            subst (λ j. Head w j 43 (1 + size_ss f)) a g.head,
            subst (λ j. StatementsAt f w (j + 1)) a g.reads,
          );
          size = sym q;
          deep = omega arith;
        }

  e_42 : {l i : ℕ} → Node w l i 42 → 2 * span_at w i ≤ suc (suc n)
      → ReadsE w l i (e_by 42 i)
  unfolding c t f
  e_42 {l} {i} m b = go (dec_lt (next w (next w (i + 1))) (next w i)) (e_parts m b)
    where
      go : Dec (next w (next w (i + 1)) < next w i) → Parts l i
          → ReadsE w l i (e_by 42 i)
      go (yes h) p =
          let g = first_if (takes 22 refl) h p.rest in
          let x = p.condition.size in
          rw (lt-ltb _ _ h) (e_else m p (block g (omega arith)) (no_child g.rest))
      go (no h) p =
          let o = p.rest.ordered in
          rw (le-ltb (next w (next w (i + 1))) (next w i) (omega arith)) (e_if m p (omega arith))

  e_step : (l i k : ℕ) → has k expressions ≡ true → Node w l i k → 2 * span_at w i ≤ suc (suc n) → ReadsE w l i (expression_of (suc n) w i)
  unfolding ExpressionAt size_e depth_e first_slot
  e_step l i k h m b = any (λ j. Node w l i j → ReadsE w l i (expression_of (suc n) w i)) k expressions h (
      (λ x. e_as 30 x.kind_is (e_leaf 30 (Identifier (token_at w i)) (λ y. y) refl refl refl x))
      & (λ x. e_as 31 x.kind_is (e_leaf 31 (This (token_at w i)) (λ y. y) refl refl refl x))
      & (λ x. e_as 32 x.kind_is (e_leaf 32 (Null (token_at w i)) (λ y. y) refl refl refl x))
      & (λ x. e_as 33 x.kind_is (e_leaf 33 (Integer (token_at w i)) (λ y. y) refl refl refl x))
      & (λ x. e_as 34 x.kind_is (e_leaf 34 (Float (token_at w i)) (λ y. y) refl refl refl x))
      & (λ x. e_as 35 x.kind_is (e_leaf 35 (Text (token_at w i)) (λ y. y) refl refl refl x))
      & (λ x. e_as 36 x.kind_is (e_leaf 36 (Boolean (token_at w i)) (λ y. y) refl refl refl x))
      & (λ x. e_as 37 x.kind_is (e_array x b))
      & (λ x. e_as 38 x.kind_is (e_prefix x b))
      & (λ x. e_as 39 x.kind_is (e_infix x b))
      & (λ x. e_as 42 x.kind_is (e_42 x b))
      & (λ x. e_as 44 x.kind_is (e_call x b))
      & (λ x. e_as 45 x.kind_is (e_instance x b))
      & (λ x. e_as 46 x.kind_is (e_index x b))
      & no_more
      ) m

  -- runs

  es_step : (l i e : ℕ) → l ≤ most_levels + 1 → Children w 18 l i e → 2 * (e - i) ≤ suc n → ReadsEs w l i e (expressions_of (suc n) w i e)
  unfolding ExpressionAt size_e depth_e expression_of
  es_step l i e d k b = go (dec_lt i e)
    where
      go : Dec (i < e) → ReadsEs w l i e (expressions_of (suc n) w i e)
      go (no h) = let o = k.ordered in rw (le-ltb i e (omega arith)) (record { is = tt; size = omega arith; deep = omega arith })
      go (yes h) =
          let f = first_if (takes 18 refl) h k in
          let r = one f b in
          let o = f.node.some in
          let p = L.es l (next w i) e d f.rest (omega arith) in
          let x = r.size in
          let y = p.size in
          let d₁ = r.deep in
          let d₂ = p.deep in
          rw (lt-ltb i e h) (record {
            is = (r.is, subst (λ j. ExpressionsAt (expressions_of n w (next w i) e) w (i + j)) (sym x) p.is);
            size = omega arith;
            deep = omega arith;
          })

  ss_step : (l i e : ℕ) → l ≤ most_levels + 1 → Children w 9 l i e → 2 * (e - i) ≤ suc n → ReadsSs w l i e (statements_of (suc n) w i e)
  unfolding ExpressionAt size_e depth_e expression_of
  ss_step l i e d k b = go (dec_lt i e)
    where
      go : Dec (i < e) → ReadsSs w l i e (statements_of (suc n) w i e)
      go (no h) = let o = k.ordered in rw (le-ltb i e (omega arith)) (record { is = tt; size = omega arith; deep = omega arith })
      go (yes h) =
          let f = first_if (takes 9 refl) h k in
          let g = f.fits in
          let o = f.node.some in
          let r = L.s l i (kind_at w i) f.is f.node (omega arith) in
          let p = L.ss l (next w i) e d f.rest (omega arith) in
          let x = r.size in
          let y = p.size in
          let d₁ = r.deep in
          let d₂ = p.deep in
          rw (lt-ltb i e h) (record {
            is = (r.is, subst (λ j. StatementsAt (statements_of n w (next w i) e) w (i + j)) (sym x) p.is);
            size = omega arith;
            deep = omega arith;
          })

  -- a pair of a local statement, and what follows
  v_by : Bool → ℕ → ℕ → Variables
  v_by t i e = variable_by t w i (λ k. expression_of n w k) (λ k. variables_of n w k e)

  v_bare : (l i e : ℕ) → l ≤ most_levels → Leaf w i 40 (token_at w i) → Head w (i + 1) 49 1 → Children w 13 l (i + 2) e
      → 2 * (e - i) ≤ suc n → i + 2 ≤ e → ReadsVs w l i e (v_by true i e)
  unfolding ExpressionAt size_e depth_e v_by
  v_bare l i e d a h k b o =
      let p = L.vs l (i + 2) e (omega arith) k (omega arith) in
      let y = p.size in
      let d₂ = p.deep in
      record { is = (a, h, p.is); size = omega arith; deep = omega arith }

  v_valued : (l i e : ℕ) → l ≤ most_levels → Leaf w i 40 (token_at w i) → First w expressions 13 l (i + 1) e
      → 2 * (e - i) ≤ suc n → i < e → ReadsVs w l i e (v_by false i e)
  unfolding ExpressionAt size_e depth_e v_by
  v_valued l i e d a f b o =
      let g = f.fits in
      let s = f.node.some in
      let r = one f (omega arith) in
      let p = L.vs l (next w (i + 1)) e (omega arith) f.rest (omega arith) in
      let x = r.size in
      let y = p.size in
      let d₁ = r.deep in
      let d₂ = p.deep in
      record {
        is = (a, r.is, subst (λ j. VariablesAt (variables_of n w (next w (i + 1)) e) w (i + 1 + j)) (sym x) p.is);
        size = omega arith;
        deep = omega arith;
      }

  v_pair : (l i e : ℕ) → Leaf w i 40 (token_at w i) → First w (49 ∷ expressions) 13 l (i + 1) e → 2 * (e - i) ≤ suc n → i < e
      → Dec (kind_at w (i + 1) ≡ 49) → ReadsVs w l i e (v_by (eqb (kind_at w (i + 1)) 49) i e)
  unfolding first_slot
  v_pair l i e a f b o (yes q) =
      let m = node_as f.node q in
      let h = alone {k = 49} refl m in
      let z = h.span_is in
      let g = f.fits in
      let x : next w (i + 1) ≡ i + 2 = omega arith in
      rw (eq-eqb (kind_at w (i + 1)) 49 q) (v_bare l i e m.level a h (subst (λ j. Children w 13 l j e) x f.rest) b (omega arith))
  v_pair l i e a f b o (no q) =
      let h : has (kind_at w (i + 1)) expressions ≡ true = rw (ne_eqb (kind_at w (i + 1)) 49 q) at f.is in
      rw (ne_eqb (kind_at w (i + 1)) 49 q) (v_valued l i e f.node.level a (record { is = h; node = f.node; fits = f.fits; rest = f.rest }) b o)

  vs_step : (l i e : ℕ) → l ≤ most_levels + 1 → Children w 13 l i e → 2 * (e - i) ≤ suc n → ReadsVs w l i e (variables_of (suc n) w i e)
  unfolding ExpressionAt size_e depth_e expression_of first_slot is_due v_by
  vs_step l i e d k b = go (dec_lt i e)
    where
      go : Dec (i < e) → ReadsVs w l i e (variables_of (suc n) w i e)
      go (no h) = let o = k.ordered in rw (le-ltb i e (omega arith)) (record { is = tt; size = omega arith; deep = omega arith })
      go (yes h) =
          let f = first_if (takes 13 refl) h k in
          let a = leaf_first 40 refl f in
          let z = a.head.span_is in
          let x : next w i ≡ i + 1 = omega arith in
          let g = first (takes 14 refl) refl (subst (λ j. Children w 14 l j e) x f.rest) in
          rw (lt-ltb i e h) (v_pair l i e a g b h (ℕ_discrete (kind_at w (i + 1)) 49))

  -- statements

  abbrev s_by : ℕ → ℕ → Statement
  s_by k i = statement_by (act_of k) w i (λ j. expression_of n w j) (λ j. variables_of n w j (next w i)) (λ j. statements_of n w j (next w i))

  s_as : {l i : ℕ} (k : ℕ) → kind_at w i ≡ k
      → ReadsS w l i (s_by k i)
      → ReadsS w l i (statement_of (suc n) w i)
  unfolding expression_of
  s_as {l} {i} k q r =
      subst (λ x. ReadsS w l i (s_by x i)) (sym q) r

  s_leaf : {l i : ℕ} (k : ℕ) (x : Statement) → (Leaf w i k (token_at w i) → StatementAt x w i)
      → size_s x ≡ 1 → depth_s x ≡ 1 → first_slot k ≡ 0 → Node w l i k → ReadsS w l i x
  s_leaf {l} {i} k x f s d z m =
      let h = leaf z m in
      let p = h.head.span_is in
      let v = m.level in
      record { is = f h; size = omega arith; deep = omega arith }

  s_local : {l i : ℕ} → Node w l i 20 → 2 * span_at w i ≤ suc (suc n) → ReadsS w l i (Local (variables_of n w (i + 1) (next w i)))
  unfolding ExpressionAt size_e depth_e first_slot
  s_local {l} {i} m b =
      let v = m.level in
      let o = m.some in
      let r = L.vs (l + 1) (i + 1) (next w i) (omega arith) (children_as refl m) (omega arith) in
      let z = r.size in
      let d = r.deep in
      let q : span_at w i ≡ 1 + size_vs (variables_of n w (i + 1) (next w i)) = omega arith in
      record { is = (record { kind_is = m.kind_is; span_is = q }, r.is); size = sym q; deep = omega arith }

  s_expr : {l i : ℕ} → Node w l i 25 → 2 * span_at w i ≤ suc (suc n) → ReadsS w l i (Expr (expression_of n w (i + 1)))
  unfolding ExpressionAt size_e depth_e first_slot is_due
  s_expr {l} {i} m b =
      let v = m.level in
      let o = m.some in
      let f = first (takes 17 refl) refl (children_as refl m) in
      let r = one f (omega arith) in
      let z = r.size in
      let d = r.deep in
      let y = no_child f.rest in
      let q : span_at w i ≡ 1 + size_e (expression_of n w (i + 1)) = omega arith in
      record { is = (record { kind_is = m.kind_is; span_is = q }, r.is); size = sym q; deep = omega arith }

  s_for : {l i : ℕ} → Node w l i 24 → 2 * span_at w i ≤ suc (suc n)
      → ReadsS w l i (For (token_at w i) (token_at w (i + 1)) (expression_of n w (i + 2)) (statements_of n w (next w (i + 2)) (next w i)))
  unfolding ExpressionAt size_e depth_e first_slot is_due
  s_for {l} {i} m b =
      let v = m.level in
      let o = m.some in
      let f = first (takes 15 refl) refl (children_as refl m) in
      let a = leaf_first 40 refl f in
      let z = a.head.span_is in
      let x : next w (i + 1) ≡ i + 2 = omega arith in
      let g = first (takes 16 refl) refl (subst (λ j. Children w 16 (l + 1) j (next w i)) x f.rest) in
      let h = g.fits in
      let r = one g (omega arith) in
      let p = L.ss (l + 1) (next w (i + 2)) (next w i) (omega arith) g.rest (omega arith) in
      let y = r.size in
      let u = p.size in
      let d₁ = r.deep in
      let d₂ = p.deep in
      let q : span_at w i ≡ 2 + size_e (expression_of n w (i + 2)) + size_ss (statements_of n w (next w (i + 2)) (next w i)) = omega arith in
      record {
        is = (
          headed m.kind_is q,
          a,
          r.is,
          subst (λ j. StatementsAt (statements_of n w (next w (i + 2)) (next w i)) w (i + 2 + j)) (sym y) p.is,
        );
        size = sym q;
        deep = omega arith;
      }

  s_step : (l i k : ℕ) → has k statements ≡ true → Node w l i k → 2 * span_at w i ≤ suc (suc n) → ReadsS w l i (statement_of (suc n) w i)
  unfolding ExpressionAt size_e depth_e first_slot
  s_step l i k h m b = any (λ j. Node w l i j → ReadsS w l i (statement_of (suc n) w i)) k statements h (
      (λ x. s_as 20 x.kind_is (s_local x b))
      & (λ x. s_as 21 x.kind_is (s_leaf 21 (Return (token_at w i)) (λ y. y) refl refl refl x))
      & (λ x. s_as 22 x.kind_is (s_leaf 22 (Break (token_at w i)) (λ y. y) refl refl refl x))
      & (λ x. s_as 23 x.kind_is (s_leaf 23 (Rescue (token_at w i)) (λ y. y) refl refl refl x))
      & (λ x. s_as 24 x.kind_is (s_for x b))
      & (λ x. s_as 25 x.kind_is (s_expr x b))
      & no_more
      ) m

pub laws : (w : List ℕ) (n : ℕ) → Laws w n
unfolding ExpressionAt size_e depth_e expression_of
laws w zero = record {
  e = λ l i k h m b. absurd (let o = m.some in omega arith);
  es = λ l i e d k b. let o = k.ordered in record { is = tt; size = omega arith; deep = omega arith };
  vs = λ l i e d k b. let o = k.ordered in record { is = tt; size = omega arith; deep = omega arith };
  s = λ l i k h m b. absurd (let o = m.some in omega arith);
  ss = λ l i e d k b. let o = k.ordered in record { is = tt; size = omega arith; deep = omega arith };
}
laws w (suc n) = let L = laws w n in record { e = e_step L; es = es_step L; vs = vs_step L; s = s_step L; ss = ss_step L }
