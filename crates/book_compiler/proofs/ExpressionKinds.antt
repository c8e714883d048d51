-- One lemma for each way through a member of the cycle that compiles expressions, over what its calls ensure. Assumes nothing.
use Rattle.std.proofs.Common.{◌≡◌, ℕ, ◌+◌, ◌-◌, ◌<◌, ◌≤◌, List, sym, ap, ◌∙◌, arith}
use Rattle.words.specs.Ast.{Token, Expression, Expressions, Identifier, This, Null, Integer, Float, Text, Boolean, Array, Prefix, Infix, If, IfElse}
use Rattle.words.specs.Ast.{Call, InstanceGet, IndexGet, ∅ₑ, ◌∷ₑ◌}
use Rattle.words.specs.Record.{token_at, kind_at, position_at, value_at}
use Rattle.definition.specs.Compiler.{and_then, skip, compile_pair, compile_prefix_expression, compile_expression, compile_expressions}
use Rattle.definition.specs.Compiler.{compile_array_expression, compile_call_expression}
use Rattle.definition.specs.Compiler as definition
use Rattle.definition_laws.proofs.StepPreserves.{preserves_expression}
use Rattle.tree.specs.At.{ExpressionAt, ExpressionsAt, size_e, size_es}
use Rattle.tree.proofs.View.{ViewE, see_e, head_e, size_e_pos}
use Rattle.tree.proofs.View.ViewE.{v_Infix, v_If, v_If_else}
use Rattle.compiler_laws.specs.InsideFunction.{skip_c}
use Rattle.compiler_laws.proofs.ScopesBalanced.{scopes_expression}
use Rattle.compiler_laws.proofs.ChildCounts.{count_end, count_more}
use Rattle.compiler_laws.proofs.Tokens.{skip_law}
use Rattle.book_compiler.specs.Represents.{Memory, SimulatesInside}
use Rattle.book_compiler.specs.Members.{token, CompilesLeaf, Finishes, CompilesExpression, CompilesExpressions, CompilesList, CompilesInfixExpression}
use Rattle.book_compiler.specs.Members.{CompilesIfExpression}
use Rattle.book_compiler.proofs.Steps.{does_then, full_does}

module _ {tree : List ℕ} {at end start count : ℕ} where
  pub full_meets : {m : Memory} → (m.state.full ≡ 0 → ⊥) → CompilesExpression tree at end start count m m
  full_meets ne = record { meets = λ e h q. full_does (preserves_expression e) ne }

  pub past_meets : {m m' : Memory} → end ≤ at → CompilesExpression tree at end start count m m'
  past_meets p = record { meets = λ e h q. absurd (omega (arith, size_e_pos e)) }

  -- the loop over expressions
  pub run_end : {m : Memory} → end ≤ at → CompilesExpressions tree at end start count m m
  unfolding compile_expressions ExpressionsAt size_e skip
  run_end {m} past = record { meets = go }
    where
      go : (es : Expressions) → ExpressionsAt es tree at → at + size_es es ≡ end → SimulatesInside start count m m (compile_expressions es)
      go ∅ₑ h q = record { meets = λ κ E others w I H. H }
      go (e ∷ₑ es) h q = absurd (omega (arith, size_e_pos e))

  pub run_more : {next : ℕ} {m m₁ m' : Memory} → at < end → next ≡ skip_c tree at end → CompilesExpression tree at next start count m m₁
      → CompilesExpressions tree next end start count m₁ m' → CompilesExpressions tree at end start count m m'
  unfolding compile_expressions ExpressionsAt size_e
  run_more {next} {m} {m₁} {m'} inside skipped A L = record { meets = go }
    where
      go : (es : Expressions) → ExpressionsAt es tree at → at + size_es es ≡ end → SimulatesInside start count m m' (compile_expressions es)
      go ∅ₑ h q = absurd (omega arith)
      go (e ∷ₑ es) h q =
          let mid : next ≡ at + size_e e = skipped ∙ skip_law tree at end (head_e e h.0) (size_e_pos e) (omega arith) in
          does_then (preserves_expression e) (scopes_expression e) (A.meets e h.0 (sym mid)) (L.meets es (rw mid h.1) (omega arith))

  -- and the count of them
  pub list_end : {n : ℕ} {m : Memory} → end ≤ at → CompilesList tree at end start count m m n n
  list_end {n} past = record { meets = run_end past; counted = count_end tree at end n past }

  pub list_more : {next n r : ℕ} {m m₁ m' : Memory} → at < end → next ≡ skip_c tree at end → CompilesExpression tree at next start count m m₁
      → CompilesList tree next end start count m₁ m' (n + 1) r → CompilesList tree at end start count m m' n r
  list_more {n = n} inside skipped A L = record {
    meets = run_more inside skipped A L.meets;
    counted = count_more tree at end n inside skipped L.counted;
  }

-- two of them and then a step
pub two_does : {tree : List ℕ} {at end start count : ℕ} {m m' : Memory} (x y : Expression) → CompilesExpressions tree at end start count m m'
    → ExpressionAt x tree at → ExpressionAt y tree (at + size_e x) → at + size_e x + size_e y ≡ end
    → SimulatesInside start count m m' (and_then (compile_expression x) (compile_expression y))
unfolding compile_expressions ExpressionsAt size_e and_then skip
two_does x y L hx hy q = L.meets (x ∷ₑ (y ∷ₑ ∅ₑ)) (hx, (hy, tt)) (omega arith)

as_token : (tree : List ℕ) (at : ℕ) {kind position value : ℕ} → kind ≡ kind_at tree at → position ≡ position_at tree at → value ≡ value_at tree at
    → {t : Token} → t ≡ token_at tree at → t ≡ token position kind value
as_token tree at k p v q = rw (k, p, v) q

-- `compile_expression`: by the kind of its record
module _ {tree : List ℕ} {at end start count kind position value : ℕ} (kind_is : kind ≡ kind_at tree at) (position-is : position ≡ position_at tree at)
    (value-is : value ≡ value_at tree at) {m : Memory} where
  pub leaf_meets : {m' : Memory} → kind < 37 → CompilesLeaf kind position value start count m m' → CompilesExpression tree at end start count m m'
  leaf_meets low L = record { meets = λ e h l. L.leaf tree at kind_is position-is value-is low e h }

  pub infix_meets : {m' : Memory} → kind ≡ 39 → CompilesInfixExpression tree (at + 1) end position value start count m m'
      → CompilesExpression tree at end start count m m'
  unfolding compile_expression ExpressionAt size_e
  infix_meets {m'} q M = record { meets = λ e h l. go e (see_e e tree at h kind_is q) h l }
    where
      go : (e : Expression) → ViewE 39 e → ExpressionAt e tree at → at + size_e e ≡ end → SimulatesInside start count m m' (compile_expression e)
      go (Infix a t b) v_Infix h l = M.meets a b t (as_token tree at kind_is position-is value-is h.0.token
          ∙ ap (λ (k : ℕ). token position k value) q) h.1 h.2 (omega arith)
      go (Identifier _) seen h l = elim seen [ ]
      go (This _) seen h l = elim seen [ ]
      go (Null _) seen h l = elim seen [ ]
      go (Integer _) seen h l = elim seen [ ]
      go (Float _) seen h l = elim seen [ ]
      go (Text _) seen h l = elim seen [ ]
      go (Boolean _) seen h l = elim seen [ ]
      go (Array _ _) seen h l = elim seen [ ]
      go (Prefix _ _) seen h l = elim seen [ ]
      go (If _ _) seen h l = elim seen [ ]
      go (IfElse _ _ _) seen h l = elim seen [ ]
      go (Call _ _ _) seen h l = elim seen [ ]
      go (InstanceGet _ _ _) seen h l = elim seen [ ]
      go (IndexGet _ _ _) seen h l = elim seen [ ]

  pub if_meets : {m' : Memory} → kind ≡ 42 → CompilesIfExpression tree (at + 1) end start count m m' → CompilesExpression tree at end start count m m'
  unfolding compile_expression ExpressionAt size_e
  if_meets {m'} q M = record { meets = λ e h l. go e (see_e e tree at h kind_is q) h l }
    where
      go : (e : Expression) → ViewE 42 e → ExpressionAt e tree at → at + size_e e ≡ end → SimulatesInside start count m m' (compile_expression e)
      go (If c t) v_If h l = M.alone c t h.1 h.2 h.3 (omega arith)
      go (IfElse c t f) v_If_else h l = M.other c t f h.1 h.2 h.3 h.4 h.5 (omega arith)
      go (Identifier _) seen h l = elim seen [ ]
      go (This _) seen h l = elim seen [ ]
      go (Null _) seen h l = elim seen [ ]
      go (Integer _) seen h l = elim seen [ ]
      go (Float _) seen h l = elim seen [ ]
      go (Text _) seen h l = elim seen [ ]
      go (Boolean _) seen h l = elim seen [ ]
      go (Array _ _) seen h l = elim seen [ ]
      go (Prefix _ _) seen h l = elim seen [ ]
      go (Infix _ _ _) seen h l = elim seen [ ]
      go (Call _ _ _) seen h l = elim seen [ ]
      go (InstanceGet _ _ _) seen h l = elim seen [ ]
      go (IndexGet _ _ _) seen h l = elim seen [ ]

  -- a list of parts, and what the kind does when they are there
  module _ {n : ℕ} {m₁ m' : Memory} (high : 37 ≤ kind) (n39 : kind ≡ 39 → ⊥) (n42 : kind ≡ 42 → ⊥) (L : CompilesList tree (at + 1) end start count m m₁ 0 n)
      (F : Finishes kind position value n m₁ m') where
    pub list_meets : CompilesExpression tree at end start count m m'
    unfolding compile_expression compile_expressions ExpressionAt ExpressionsAt size_e compile_array_expression compile_call_expression compile_pair
        compile_prefix_expression and_then skip
    list_meets = record { meets = go }
      where
        go : (e : Expression) → ExpressionAt e tree at → at + size_e e ≡ end → SimulatesInside start count m m' (compile_expression e)
        go (Identifier t) h l = absurd (omega (arith, h.head.kind_is, kind_is))
        go (This t) h l = absurd (omega (arith, h.head.kind_is, kind_is))
        go (Null t) h l = absurd (omega (arith, h.head.kind_is, kind_is))
        go (Integer t) h l = absurd (omega (arith, h.head.kind_is, kind_is))
        go (Float t) h l = absurd (omega (arith, h.head.kind_is, kind_is))
        go (Text t) h l = absurd (omega (arith, h.head.kind_is, kind_is))
        go (Boolean t) h l = absurd (omega (arith, h.head.kind_is, kind_is))
        go (Infix a t b) h l = absurd (n39 (kind_is ∙ h.0.head.kind_is))
        go (If c t) h l = absurd (n42 (kind_is ∙ h.0.kind_is))
        go (IfElse c t f) h l = absurd (n42 (kind_is ∙ h.0.kind_is))
        go (Array t es) h l =
            let q = as_token tree at kind_is position-is value-is h.0.token in
            let many : n ≡ definition.count es = L.counted.counts es h.1 (omega arith) ∙ omega arith in
            let A = F.array (kind_is ∙ h.0.head.kind_is) in
            record {
              meets = λ κ E others w I H. rw (q, ← many) (A.meets κ E others (compile_expressions es w) ((L.meets.meets es h.1
                  (omega arith)).meets κ E others w I H));
            }
        go (Prefix t x) h l =
            let q = as_token tree at kind_is position-is value-is h.0.token in
            let A = F.prefix (kind_is ∙ h.0.head.kind_is) in
            record {
              meets = λ κ E others w I H.
                  rw q (A.meets κ E others (compile_expression x w) ((L.meets.meets (x ∷ₑ ∅ₑ) (h.1, tt) (omega arith)).meets κ E others w I H));
            }
        go (Call t f ps) h l =
            let q = as_token tree at kind_is position-is value-is h.0.token in
            let many : n - 1 ≡ definition.count ps = let c = L.counted.counts (f ∷ₑ ps) (h.1, h.2) (omega arith) in omega (arith, c) in
            let A = F.call (kind_is ∙ h.0.head.kind_is) in
            record {
              meets = λ κ E others w I H.
                  rw (q, ← many) (A.meets κ E others (compile_expressions ps (compile_expression f w))
                  ((L.meets.meets (f ∷ₑ ps) (h.1, h.2) (omega arith)).meets κ E others w I H));
            }
        go (InstanceGet t x y) h l =
            let q = as_token tree at kind_is position-is value-is h.0.token in
            let A = F.instance (kind_is ∙ h.0.head.kind_is) in
            record {
              meets = λ κ E others w I H.
                  rw q (A.meets κ E others (compile_expression y (compile_expression x w))
                  ((two_does x y L.meets h.1 h.2 (omega arith)).meets κ E others w I H));
            }
        go (IndexGet t x y) h l =
            let q = as_token tree at kind_is position-is value-is h.0.token in
            let A = F.index (kind_is ∙ h.0.head.kind_is) in
            record {
              meets = λ κ E others w I H.
                  rw q (A.meets κ E others (compile_expression y (compile_expression x w))
                  ((two_does x y L.meets h.1 h.2 (omega arith)).meets κ E others w I H));
            }
