-- One lemma for each way through a member of the cycle that compiles statements, over what its calls ensure. What is remembered of the scope around
-- stands where nothing is full, by the notes; the scopes are balanced. Assumes nothing.
use Rattle.std.proofs.Common.{◌≡◌, ℕ, ◌+◌, ◌-◌, ◌<◌, ◌≤◌, min, List, sym, refl, ap, ◌∙◌, arith, le-ltb, lt-ltb}
use Rattle.words.specs.Ast.{Token, Statement, Statements, Local, Return, For, Break, Rescue, Expr, ∅ₛ, ◌∷ₛ◌}
use Rattle.words.specs.Areas.{context_locals_area}
use Rattle.words.specs.Opcode.{to_instruction, word, Pop}
use Rattle.words.specs.Record.{kind_at, position_at, value_at}
use Rattle.definition.specs.FunctionState.{enter_scope, tail, Entry, with_depth, define_local}
use Rattle.definition.specs.FunctionState as method
use Rattle.definition.specs.Uses.{total}
use Rattle.definition.specs.Compiler.{doing, compile_part, compile_statement, compile_statements}
use Rattle.definition.specs.Compiler.{compile_expression_statement, compile_rescue, deeper, skip, compile_no_part}
use Rattle.definition_laws.proofs.StepPreserves.{Steadily, longer_trans, preserves_function, preserves_trans, preserves_statement, preserves_statements}
use Rattle.definition_laws.proofs.StepPreserves.{preserves_expression}
use Rattle.definition_laws.proofs.StepPreserves.{preserves_variables, preserves_return, preserves_break, preserves_rescue, preserves_for}
use Rattle.definition_laws.proofs.StepPreserves.{preserves_expression_statement, same, more}
use Rattle.tree.specs.At.{StatementAt, StatementsAt, size_s, size_ss}
use Rattle.tree.proofs.View.{ViewS, see_s, head_s, size_s_pos}
use Rattle.tree.proofs.View.ViewS.{v_Local, v_Break, v_Rescue, v_For, v_Expr}
use Rattle.building.specs.declared.function_state.FunctionState.{FunctionState}
use Rattle.building.specs.State.{most_depth}
use Rattle.building.specs.State.{with_rescue}
use Rattle.building.specs.Emission.{next_c, remove_pop_c, emit_last_c, emit_null_c, emit_return_c, deeper_c, depth_c, rescue_c}
use Rattle.building.specs.Scopes.{enter_scope_c, exit_scope_c}
use Rattle.building.proofs.StateLaws.{put_rescue}
use Rattle.compiler_laws.specs.InsideFunction.{Inside, skip_c}
use Rattle.compiler_laws.specs.StatementParts.{inner}
use Rattle.compiler_laws.proofs.ScopesBalanced.{scopes_statement, scopes_statements}
use Rattle.compiler_laws.proofs.Tokens.{skip_law}
use Rattle.book_compiler.specs.Represents.{Memory, laid, Simulates, SimulatesInside}
use Rattle.book_compiler.specs.Leaves.{OnCode, OnNames, PushesError}
use Rattle.book_compiler.specs.Members.{token, CompilesExpression, CompilesStatement, CompilesStatements, CompilesBlock, CompilesForStatement}
use Rattle.book_compiler.specs.Members.{CompilesVariables}
use Rattle.book_compiler.proofs.Steps.{back, acts_does, does_then, full_does, full_acts}
use Rattle.book_compiler.proofs.ConstantCount.{rescue_count}
use Rattle.book_compiler.proofs.StoodFunctions.{onward_unless}
use Rattle.book_compiler.proofs.Laws.{alone, last_emitted, null_emitted, removed, returned, left, pushed, entered, deepened, at_depth}

-- the loop over statements
module _ {tree : List ℕ} {at end start count : ℕ} where
  pub list_end : {m : Memory} → end ≤ at → CompilesStatements tree at end start count m m
  unfolding compile_statements StatementsAt size_ss skip
  list_end {m} past = record { meets = go }
    where
      go : (ss : Statements) → StatementsAt ss tree at → at + size_ss ss ≡ end → SimulatesInside start count m m (compile_statements ss)
      go ∅ₛ h q = record { meets = λ κ E others w I H. H }
      go (s ∷ₛ ss) h q = absurd (omega (arith, size_s_pos s))

  pub list_more : {next : ℕ} {m m₁ m' : Memory} → at < end → next ≡ skip_c tree at end → CompilesStatement tree at next start count m m₁
      → CompilesStatements tree next end start count m₁ m' → CompilesStatements tree at end start count m m'
  unfolding compile_statements StatementsAt size_ss
  list_more {next} {m} {m₁} {m'} inside skipped A B = record { meets = go }
    where
      go : (ss : Statements) → StatementsAt ss tree at → at + size_ss ss ≡ end → SimulatesInside start count m m' (compile_statements ss)
      go ∅ₛ h q = absurd (omega arith)
      go (s ∷ₛ ss) h q =
          let mid : next ≡ at + size_s s = skipped ∙ skip_law tree at end (head_s s h.0) (size_s_pos s) (omega arith) in
          does_then (preserves_statement s) (scopes_statement s) (A.meets s h.0 (sym mid)) (B.meets ss (rw mid h.1) (omega arith))

  -- `compile_block`
  pub block_none : {m m' : Memory} → end ≤ at → OnCode emit_null_c m m' → CompilesBlock tree at end start count m m'
  unfolding compile_no_part
  block_none p d = record {
    absent = λ q. record { meets = λ κ E others w I H. null_emitted d H };
    meets = λ ss h q. absurd (omega arith);
  }

  pub block_meets : {s s₁ : FunctionState} {a l : List ℕ} {m₂ m₃ m₄ : Memory} → at < end → s₁ ≡ enter_scope_c s
      → CompilesStatements tree (at + 1) end start count (laid s₁ a l) m₂ → OnNames (exit_scope_c s.scope_base) m₂ m₃ → OnCode remove_pop_c m₃ m₄
      → CompilesBlock tree at end start count (laid s a l) m₄
  unfolding compile_part
  block_meets inside opened M closed d = record {
    absent = λ q. absurd (omega arith);
    meets = λ ss h q. record {
      meets = λ κ E others w I H.
          let w₁ = doing enter_scope w in
          let H₁ = entered H opened in
          let I₁ : Inside start count (others context_locals_area) w₁ = record { is_open = refl; named = I.named } in
          let H₂ = (M.meets ss h q).meets κ E others w₁ I₁ H₁ in
          let S = preserves_trans (preserves_function w (enter_scope w.function) refl) (preserves_statements ss w₁) in
          let B = scopes_statements ss w₁ in
          let H₃ = left closed
          (λ z. (H.held.rest (back S.uses H H₂ z)).scope ∙ sym (ap (λ (x : List (List Entry)). total (tail x)) B.scopes)) H₂ in
          removed d H₃;
    };
  }

  -- `compile_statement`
  pub full_meets : {m : Memory} → (m.state.full ≡ 0 → ⊥) → CompilesStatement tree at end start count m m
  full_meets ne = record { meets = λ s h q. full_does (preserves_statement s) ne }

  pub past_meets : {m m' : Memory} → end ≤ at → CompilesStatement tree at end start count m m'
  past_meets p = record { meets = λ s h q. absurd (omega (arith, size_s_pos s)) }

-- a statement, the depth apart, keeps the depth
preserves_inner : (st : Statement) → Steadily (inner st)
preserves_inner (Local vs) = preserves_variables vs
preserves_inner (Return t) = preserves_return t.position
preserves_inner (For t n x ss) = preserves_for (preserves_expression x) (preserves_statements ss) t n
preserves_inner (Break t) = preserves_break t.position
preserves_inner (Rescue t) = preserves_rescue t
preserves_inner (Expr x) = preserves_expression_statement (preserves_expression x)

-- the statement, the depth apart
record CompilesInnerStatement (tree : List ℕ) (at end start count : ℕ) (m m' : Memory) : Type 0 where
  pub meets : (s : Statement) → StatementAt s tree at → at + size_s s ≡ end → SimulatesInside start count m m' (inner s)

-- the depth before is the depth after
module _ {tree : List ℕ} {at end start count : ℕ} {s s₁ s₂ s' : FunctionState} {a l l₂ : List ℕ} (opened : s₁ ≡ deeper_c s)
    (closed : s' ≡ depth_c s.depth s₂) where
  around : CompilesInnerStatement tree at end start count (laid s₁ a l) (laid s₂ a l₂) → CompilesStatement tree at end start count (laid s a l) (laid s' a l₂)
  unfolding compile_statement deeper
  around M = record { meets = λ st h q. as_is st (one st h q) }
    where
      one : (st : Statement) → StatementAt st tree at → at + size_s st ≡ end → SimulatesInside start count (laid s a l) (laid s' a l₂) (deeper (inner st))
      one st h q = record {
        meets = λ κ E others w I H.
            let w₁ = doing (λ f. with_depth (f.depth + 1) f) w in
            let w₂ = inner st w₁ in
            let I₁ : Inside start count (others context_locals_area) w₁ = record { is_open = I.is_open; named = I.named } in
            let H₂ = (M.meets st h q).meets κ E others w₁ I₁ (deepened H opened) in
            let S = preserves_inner st w₁ in
            let kept : w₂.function.depth - 1 ≡ w.function.depth = omega (arith, S.depth) in
            at_depth H₂ s.depth (w₂.function.depth - 1) closed
            (λ z. (H.held.rest (back (longer_trans (more (more (more same))) S.uses) H H₂ z)).depth ∙ ap (λ (d : ℕ). min most_depth d) (sym kept));
      }

      as_is : (st : Statement) → SimulatesInside start count (laid s a l) (laid s' a l₂) (deeper (inner st))
          → SimulatesInside start count (laid s a l) (laid s' a l₂) (compile_statement st)
      as_is (Local vs) A = A
      as_is (Return t) A = A
      as_is (For t i x ss) A = A
      as_is (Break t) A = A
      as_is (Rescue t) A = A
      as_is (Expr x) A = A

  -- a way for each kind
  module _ {kind : ℕ} (kind_is : kind ≡ kind_at tree at) where
    pub statement_expression : {m : Memory} → kind ≡ 25 → CompilesExpression tree (at + 1) end start count (laid s₁ a l) m
        → OnCode (emit_last_c (word (to_instruction Pop 0))) m (laid s₂ a l₂) → CompilesStatement tree at end start count (laid s a l) (laid s' a l₂)
    unfolding StatementAt size_s compile_expression_statement
    statement_expression {m} q M d = around (record { meets = λ st h k. go st (see_s st tree at h kind_is q) h k })
      where
        go : (st : Statement) → ViewS 25 st → StatementAt st tree at → at + size_s st ≡ end → SimulatesInside start count (laid s₁ a l) (laid s₂ a l₂)
            (inner st)
        go (Expr x) v_Expr h k = record { meets = λ κ E others w I H. last_emitted Pop d ((M.meets x h.1 (omega arith)).meets κ E others w I H) }
        go (Local _) seen h k = elim seen [ ]
        go (Return _) seen h k = elim seen [ ]
        go (For _ _ _ _) seen h k = elim seen [ ]
        go (Break _) seen h k = elim seen [ ]
        go (Rescue _) seen h k = elim seen [ ]

    pub statement_local : kind ≡ 20 → CompilesVariables tree (at + 1) end start count (laid s₁ a l) (laid s₂ a l₂)
        → CompilesStatement tree at end start count (laid s a l) (laid s' a l₂)
    unfolding StatementAt size_s
    statement_local q M = around (record { meets = λ st h k. go st (see_s st tree at h kind_is q) h k })
      where
        go : (st : Statement) → ViewS 20 st → StatementAt st tree at → at + size_s st ≡ end → SimulatesInside start count (laid s₁ a l) (laid s₂ a l₂)
            (inner st)
        go (Local vs) v_Local h k = M.meets vs h.1 (omega arith)
        go (Return _) seen h k = elim seen [ ]
        go (For _ _ _ _) seen h k = elim seen [ ]
        go (Break _) seen h k = elim seen [ ]
        go (Rescue _) seen h k = elim seen [ ]
        go (Expr _) seen h k = elim seen [ ]

    pub statement_for : {position : ℕ} → position ≡ position_at tree at → kind ≡ 24
        → CompilesForStatement tree (at + 1) end position start count (laid s₁ a l) (laid s₂ a l₂)
        → CompilesStatement tree at end start count (laid s a l) (laid s' a l₂)
    unfolding StatementAt size_s
    statement_for position-is q M = around (record { meets = λ st h k. go st (see_s st tree at h kind_is q) h k })
      where
        go : (st : Statement) → ViewS 24 st → StatementAt st tree at → at + size_s st ≡ end → SimulatesInside start count (laid s₁ a l) (laid s₂ a l₂)
            (inner st)
        go (For t i x ss) v_For h k =
            let z : at + 2 ≡ at + 1 + 1 = omega arith in
            M.meets t i x ss (ap (λ (u : Token). u.position) h.0.token ∙ sym position-is) h.1 (rw (← z) h.2) (rw (← z) h.3) (omega arith)
        go (Local _) seen h k = elim seen [ ]
        go (Return _) seen h k = elim seen [ ]
        go (Break _) seen h k = elim seen [ ]
        go (Rescue _) seen h k = elim seen [ ]
        go (Expr _) seen h k = elim seen [ ]

    -- by a step that acts: a break, a rescue
    pub statement_break : {position : ℕ} → position ≡ position_at tree at → kind ≡ 22
        → Simulates (laid s₁ a l) (laid s₂ a l₂) (doing (method.emit_break position))
        → CompilesStatement tree at end start count (laid s a l) (laid s' a l₂)
    unfolding StatementAt
    statement_break {position} position-is q A = around (record { meets = λ st h k. go st (see_s st tree at h kind_is q) h })
      where
        go : (st : Statement) → ViewS 22 st → StatementAt st tree at → SimulatesInside start count (laid s₁ a l) (laid s₂ a l₂) (inner st)
        go (Break t) v_Break h =
            let here : t.position ≡ position = ap (λ (u : Token). u.position) h.token ∙ sym position-is in
            rw here (acts_does A)
        go (Local _) seen h = elim seen [ ]
        go (Return _) seen h = elim seen [ ]
        go (For _ _ _ _) seen h = elim seen [ ]
        go (Rescue _) seen h = elim seen [ ]
        go (Expr _) seen h = elim seen [ ]

    pub statement_rescue : {position value : ℕ} → position ≡ position_at tree at → value ≡ value_at tree at → kind ≡ 23
        → Simulates (laid s₁ a l) (laid s₂ a l₂) (compile_rescue (token position kind value))
        → CompilesStatement tree at end start count (laid s a l) (laid s' a l₂)
    unfolding StatementAt
    statement_rescue {position} {value} position-is value-is q A = around (record { meets = λ st h k. go st (see_s st tree at h kind_is q) h })
      where
        go : (st : Statement) → ViewS 23 st → StatementAt st tree at → SimulatesInside start count (laid s₁ a l) (laid s₂ a l₂) (inner st)
        go (Rescue t) v_Rescue h = rw (h.token, ← kind_is, ← position-is, ← value-is) (acts_does A)
        go (Local _) seen h = elim seen [ ]
        go (Return _) seen h = elim seen [ ]
        go (For _ _ _ _) seen h = elim seen [ ]
        go (Break _) seen h = elim seen [ ]
        go (Expr _) seen h = elim seen [ ]

    -- a return is what is left
    pub statement_return : {position : ℕ} → position ≡ position_at tree at → (kind ≡ 25 → ⊥) → (kind ≡ 20 → ⊥) → (kind ≡ 24 → ⊥) → (kind ≡ 22 → ⊥)
        → (kind ≡ 23 → ⊥) → OnCode (emit_return_c position) (laid s₁ a l) (laid s₂ a l₂) → CompilesStatement tree at end start count (laid s a l) (laid s' a l₂)
    unfolding StatementAt
    statement_return {position} position-is n25 n20 n24 n22 n23 d = around (record { meets = λ st h k. go st h })
      where
        go : (st : Statement) → StatementAt st tree at → SimulatesInside start count (laid s₁ a l) (laid s₂ a l₂) (inner st)
        go (Local vs) h = absurd (n20 (kind_is ∙ h.0.kind_is))
        go (Return t) h = record {
          meets = λ κ E others w I H. returned position t.position d (λ z. position-is ∙ sym (ap (λ (u : Token). u.position) h.token)) H;
        }
        go (For t i x ss) h = absurd (n24 (kind_is ∙ h.0.head.kind_is))
        go (Break t) h = absurd (n22 (kind_is ∙ h.head.kind_is))
        go (Rescue t) h = absurd (n23 (kind_is ∙ h.head.kind_is))
        go (Expr x) h = absurd (n25 (kind_is ∙ h.0.kind_is))

-- `rescue`
pub rescue_full : {m : Memory} (t : Token) → (m.state.full ≡ 0 → ⊥) → Simulates m m (compile_rescue t)
rescue_full t ne = full_acts (preserves_rescue t) ne

pub rescue_deep : {position kind value : ℕ} {m m' : Memory} → m.state.full ≡ 0 → 1 < m.state.depth → PushesError 4 position kind value m m'
    → Simulates m m' (compile_rescue (token position kind value))
unfolding compile_rescue
rescue_deep {position} {kind} {value} z l F = record {
  meets = λ κ E others w H. rw (lt-ltb 1 w.function.depth (omega (arith, l, (H.held.rest z).depth))) (pushed 4 (token position kind value) F H);
}

pub rescue_here : (position kind value : ℕ) {s s₁ s' : FunctionState} {a l l' : List ℕ} → s.full ≡ 0 → s.depth ≤ 1
    → OnCode (emit_return_c position) (laid s a l) (laid s₁ a l') → s' ≡ rescue_c s₁
    → Simulates (laid s a l) (laid s' a l') (compile_rescue (token position kind value))
unfolding compile_rescue
rescue_here position kind value {s₁ = s₁} z l d q = record {
  meets = λ κ E others w H.
      let G = returned position position d (λ y. refl) H in
      rw (q, le-ltb 1 w.function.depth (omega (arith, l, (H.held.rest z).depth)))
      (alone G (onward_unless s₁ (with_rescue (next_c s₁) s₁) (record { full = λ y. y; base = refl; constants = omega arith })) (rescue_count s₁)
      (put_rescue G.held));
}
