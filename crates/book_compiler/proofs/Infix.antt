-- One lemma for each way through `compile_infix_expression` and `compile_assign_expression_left_part`. Assumes nothing.
use Rattle.std.proofs.Common.{◌≡◌, ℕ, ◌+◌, ◌-◌, ◌<◌, ◌≤◌, Bool, true, false, eqb, ltb, List, sym, refl, ap, ◌∙◌, subst, arith, ltb-false, ltb-true, le-ltb}
use Rattle.std.proofs.Common.{lt-ltb, eq-eqb, ne_eqb}
use borrow.Author.Tests.{eqb-false}
use Rattle.words.specs.Ast.{Token, Expression, Identifier, This, Null, Integer, Float, Text, Boolean, Array, Prefix, Infix, If, IfElse, Call}
use Rattle.words.specs.Ast.{InstanceGet, IndexGet}
use Rattle.words.specs.Opcode.{to_instruction, word, InstanceSet, IndexSet, LocalSet, ContextSet, GlobalSet, Operation, Not}
use Rattle.words.specs.Record.{token_at, kind_at, position_at, value_at}
use Rattle.definition.specs.Compiler.{and_then, emit_name, push_error, compile_pair, compile_expression, compile_assign_name}
use Rattle.definition.specs.Compiler.{compile_assign_expression_left_part}
use Rattle.definition.specs.Compiler.{InfixKind, Plain, Negated, Compound, Unknown, infix_kind, compile_infix_by, compile_infix_expression}
use Rattle.definition.specs.Compiler.{compile_operation, compile_assign_expression, skip}
use Rattle.definition_laws.proofs.StepPreserves.{preserves_target, preserves_expression, preserves_operation}
use Rattle.tree.specs.At.{ExpressionAt, size_e}
use Rattle.tree.proofs.View.{ViewE, see_e, head_e, size_e_pos}
use Rattle.tree.proofs.View.ViewE.{v_Identifier, v_Instance_get, v_Index_get}
use Rattle.building.specs.Emission.{emit_c}
use Rattle.compiler_laws.specs.InsideFunction.{operated, operation_of, skip_c}
use Rattle.compiler_laws.proofs.ScopesBalanced.{scopes_expression, scopes_operation}
use Rattle.compiler_laws.proofs.StepsInOrder.{inside_after}
use Rattle.compiler_laws.proofs.Tokens.{skip_law, positive}
use Rattle.compiler_laws.proofs.ChildCounts.{eighteen, kind_plain}
use Rattle.book_compiler.specs.Represents.{Memory, Simulates, SimulatesInside}
use Rattle.book_compiler.specs.Leaves.{OnCode, PushesError}
use Rattle.book_compiler.specs.Members.{token, Operates, CompilesExpression, CompilesExpressions, CompilesInfixExpression, CompilesAssignLeftPart}
use Rattle.book_compiler.proofs.Steps.{full_does}
use Rattle.book_compiler.proofs.Laws.{emitted, pushed}
use Rattle.book_compiler.proofs.ExpressionKinds.{two_does}

-- `operation`
module _ {m m₁ : Memory} (value position : ℕ) {number x : ℕ} (number_is : number ≡ operation_of value)
    (as-word : x ≡ word (to_instruction Operation number)) (d : OnCode (emit_c x position) m m₁) where
  one : (n : ℕ) → n ≡ operation_of value → (t : Token) → t.position ≡ position → Simulates m m₁ (compile_operation n t skip skip)
  unfolding compile_operation skip
  one n q t p = record {
    meets = λ κ E others w H.
        emitted (to_instruction Operation n) t.position d
        (λ z. as-word ∙ ap (λ (i : ℕ). word (to_instruction Operation i)) (number_is ∙ sym q)) (λ z. sym p) H;
  }

  pub operation_plain : (value ≡ 12 → ⊥) → Operates value position m m₁
  operation_plain n12 = record {
    operates = λ t p pos most. kind_plain value pos most (λ (i : InfixKind). Simulates m m₁ (operated i t)) (λ n q. one n q t p) (λ n q. one n q t p) n12;
  }

  pub operation_not : value ≡ 12 → {m' : Memory} → OnCode (emit_c (word (to_instruction Not 0)) position) m₁ m' → Operates value position m m'
  operation_not v12 d' = record {
    operates = λ t p pos most.
        let five : 5 ≡ operation_of value = sym (ap operation_of v12) in
        let kind_is : infix_kind value ≡ Negated 5 = ap infix_kind v12 in
        rw kind_is (record {
          meets = λ κ E others w H. emitted (to_instruction Not 0) t.position d' (λ z. refl) (λ z. sym p) ((one 5 five t p).meets κ E others w H);
        });
  }

-- an infix value between 1 and 18, but for 6 to 10, is plain or negated
plain_kind : (n : ℕ) → 0 < n → n < 19 → (5 < n → n < 11 → ⊥) → (P : InfixKind → Type 0) → ((m : ℕ) → P (Plain m)) → ((m : ℕ) → P (Negated m))
    → P (infix_kind n)
plain_kind n pos most out P a b = go (ltb n 6) refl (ltb n 11) refl (eqb n 11) refl (eqb n 12) refl (ltb n 17) refl (eqb n 17) refl
  where
    n0 : eqb n 0 ≡ false
    n0 = ne_eqb n 0 (λ q. omega arith)

    go : (q : Bool) → ltb n 6 ≡ q → (r : Bool) → ltb n 11 ≡ r → (s : Bool) → eqb n 11 ≡ s → (t : Bool) → eqb n 12 ≡ t → (u : Bool) → ltb n 17 ≡ u
        → (v : Bool) → eqb n 17 ≡ v → P (infix_kind n)
    go true e6 r e11 s d11 t d12 u e17 v d17 = rw (n0, e6) (a (n - 1))
    go false e6 true e11 s d11 t d12 u e17 v d17 = absurd (out (omega (arith, ltb-false n 6 e6)) (ltb-true n 11 e11))
    go false e6 false e11 true d11 t d12 u e17 v d17 = rw (n0, e6, e11, d11) (a 5)
    go false e6 false e11 false d11 true d12 u e17 v d17 = rw (n0, e6, e11, d11, d12) (b 5)
    go false e6 false e11 false d11 false d12 true e17 v d17 = rw (n0, e6, e11, d11, d12, e17) (a (n - 7))
    go false e6 false e11 false d11 false d12 false e17 true d17 = rw (n0, e6, e11, d11, d12, e17, d17) (a 257)
    go false e6 false e11 false d11 false d12 false e17 false d17 =
        rw (n0, e6, e11, d11, d12, e17, d17, eq-eqb n 18 (eighteen n (ltb-false n 17 e17) most (eqb-false n 17 d17))) (a 258)

-- 6 to 10 also assign
compound_kind : (n : ℕ) → 5 < n → n < 11 → infix_kind n ≡ Compound (n - 6)
compound_kind n g l = rw (ne_eqb n 0 (λ q. omega arith), le-ltb n 6 (omega arith), lt-ltb n 11 l)

unknown_kind : (n : ℕ) → 18 < n → infix_kind n ≡ Unknown
unknown_kind n g =
    rw (
      ne_eqb n 0 (λ q. omega arith),
      le-ltb n 6 (omega arith),
      le-ltb n 11 (omega arith),
      ne_eqb n 11 (λ q. omega arith),
      ne_eqb n 12 (λ q. omega arith),
      le-ltb n 17 (omega arith),
      ne_eqb n 17 (λ q. omega arith),
      ne_eqb n 18 (λ q. omega arith),
    )

-- two expressions and then an opcode, at the position of the record before them
pair : (tree : List ℕ) (at : ℕ) {end start count place : ℕ} {m m₁ m' : Memory} (o : ℕ) (t : Token) (x y : Expression) → place ≡ position_at tree at
    → CompilesExpressions tree (at + 1) end start count m m₁ → t ≡ token_at tree at → OnCode (emit_c (word (to_instruction o 0)) place) m₁ m'
    → ExpressionAt x tree (at + 1) → ExpressionAt y tree (at + 1 + size_e x) → at + 1 + size_e x + size_e y ≡ end
    → SimulatesInside start count m m' (compile_pair o t (compile_expression x) (compile_expression y))
unfolding compile_pair and_then
pair tree at o t x y place_is L q d hx hy l = record {
  meets = λ κ E others w I H.
      emitted (to_instruction o 0) t.position d (λ z. refl) (λ z. place_is ∙ sym (ap (λ (u : Token). u.position) q))
      ((two_does x y L hx hy l).meets κ E others w I H);
}

-- `compile_assign_expression_left_part`
module _ {tree : List ℕ} {at end position value start count : ℕ} where
  pub target_full : {m : Memory} → (m.state.full ≡ 0 → ⊥) → CompilesAssignLeftPart tree at end position value start count m m
  target_full ne = record { meets = λ x t q h l. full_does (preserves_target x t) ne }

  pub target_past : {m m' : Memory} → end ≤ at → CompilesAssignLeftPart tree at end position value start count m m'
  target_past p = record { meets = λ x t q h l. absurd (omega (arith, size_e_pos x)) }

  module _ {kind : ℕ} (kind_is : kind ≡ kind_at tree at) where
    pub target_name : {text : ℕ} {m m' : Memory} → kind ≡ 30 → text ≡ value_at tree at
        → SimulatesInside start count m m' (emit_name LocalSet ContextSet GlobalSet text position)
        → CompilesAssignLeftPart tree at end position value start count m m'
    unfolding compile_assign_expression_left_part ExpressionAt compile_assign_name
    target_name {text} {m} {m'} q text-is N = record { meets = λ x t r h l. go x t r (see_e x tree at h kind_is q) h }
      where
        go : (x : Expression) (a : Token) → a ≡ token position 39 value → ViewE 30 x → ExpressionAt x tree at
            → SimulatesInside start count m m' (compile_assign_expression_left_part x a)
        go (Identifier t) a r v_Identifier h = rw (r, h.token, ← text-is) N
        go (This _) a r seen h = elim seen [ ]
        go (Null _) a r seen h = elim seen [ ]
        go (Integer _) a r seen h = elim seen [ ]
        go (Float _) a r seen h = elim seen [ ]
        go (Text _) a r seen h = elim seen [ ]
        go (Boolean _) a r seen h = elim seen [ ]
        go (Array _ _) a r seen h = elim seen [ ]
        go (Prefix _ _) a r seen h = elim seen [ ]
        go (Infix _ _ _) a r seen h = elim seen [ ]
        go (If _ _) a r seen h = elim seen [ ]
        go (IfElse _ _ _) a r seen h = elim seen [ ]
        go (Call _ _ _) a r seen h = elim seen [ ]
        go (InstanceGet _ _ _) a r seen h = elim seen [ ]
        go (IndexGet _ _ _) a r seen h = elim seen [ ]

    module _ {place : ℕ} (place_is : place ≡ position_at tree at) {m m₁ m' : Memory} (L : CompilesExpressions tree (at + 1) end start count m m₁) where
      pub target_instance : kind ≡ 45 → OnCode (emit_c (word (to_instruction InstanceSet 0)) place) m₁ m'
          → CompilesAssignLeftPart tree at end position value start count m m'
      unfolding compile_assign_expression_left_part ExpressionAt size_e
      target_instance q d = record { meets = λ x a r h l. go x a (see_e x tree at h kind_is q) h l }
        where
          go : (x : Expression) (a : Token) → ViewE 45 x → ExpressionAt x tree at → at + size_e x ≡ end
              → SimulatesInside start count m m' (compile_assign_expression_left_part x a)
          go (InstanceGet t x y) a v_Instance_get h l = pair tree at InstanceSet t x y place_is L h.0.token d h.1 h.2 (omega arith)
          go (Identifier _) a seen h l = elim seen [ ]
          go (This _) a seen h l = elim seen [ ]
          go (Null _) a seen h l = elim seen [ ]
          go (Integer _) a seen h l = elim seen [ ]
          go (Float _) a seen h l = elim seen [ ]
          go (Text _) a seen h l = elim seen [ ]
          go (Boolean _) a seen h l = elim seen [ ]
          go (Array _ _) a seen h l = elim seen [ ]
          go (Prefix _ _) a seen h l = elim seen [ ]
          go (Infix _ _ _) a seen h l = elim seen [ ]
          go (If _ _) a seen h l = elim seen [ ]
          go (IfElse _ _ _) a seen h l = elim seen [ ]
          go (Call _ _ _) a seen h l = elim seen [ ]
          go (IndexGet _ _ _) a seen h l = elim seen [ ]

      pub target_index : kind ≡ 46 → OnCode (emit_c (word (to_instruction IndexSet 0)) place) m₁ m'
          → CompilesAssignLeftPart tree at end position value start count m m'
      unfolding compile_assign_expression_left_part ExpressionAt size_e
      target_index q d = record { meets = λ x a r h l. go x a (see_e x tree at h kind_is q) h l }
        where
          go : (x : Expression) (a : Token) → ViewE 46 x → ExpressionAt x tree at → at + size_e x ≡ end
              → SimulatesInside start count m m' (compile_assign_expression_left_part x a)
          go (IndexGet t x y) a v_Index_get h l = pair tree at IndexSet t x y place_is L h.0.token d h.1 h.2 (omega arith)
          go (Identifier _) a seen h l = elim seen [ ]
          go (This _) a seen h l = elim seen [ ]
          go (Null _) a seen h l = elim seen [ ]
          go (Integer _) a seen h l = elim seen [ ]
          go (Float _) a seen h l = elim seen [ ]
          go (Text _) a seen h l = elim seen [ ]
          go (Boolean _) a seen h l = elim seen [ ]
          go (Array _ _) a seen h l = elim seen [ ]
          go (Prefix _ _) a seen h l = elim seen [ ]
          go (Infix _ _ _) a seen h l = elim seen [ ]
          go (If _ _) a seen h l = elim seen [ ]
          go (IfElse _ _ _) a seen h l = elim seen [ ]
          go (Call _ _ _) a seen h l = elim seen [ ]
          go (InstanceGet _ _ _) a seen h l = elim seen [ ]

    -- nothing else is assigned to
    pub target_other : {m m' : Memory} → (kind ≡ 30 → ⊥) → (kind ≡ 45 → ⊥) → (kind ≡ 46 → ⊥) → PushesError 2 position 39 value m m'
        → CompilesAssignLeftPart tree at end position value start count m m'
    unfolding compile_assign_expression_left_part ExpressionAt
    target_other {m} {m'} n30 n45 n46 F = record { meets = λ x a r h l. go x a r h }
      where
        fault : (a : Token) → a ≡ token position 39 value → SimulatesInside start count m m' (push_error 2 a)
        fault a r = rw r (record { meets = λ κ E others w I H. pushed 2 (token position 39 value) F H })

        go : (x : Expression) (a : Token) → a ≡ token position 39 value → ExpressionAt x tree at
            → SimulatesInside start count m m' (compile_assign_expression_left_part x a)
        go (Identifier t) a r h = absurd (n30 (kind_is ∙ h.head.kind_is))
        go (This t) a r h = fault a r
        go (Null t) a r h = fault a r
        go (Integer t) a r h = fault a r
        go (Float t) a r h = fault a r
        go (Text t) a r h = fault a r
        go (Boolean t) a r h = fault a r
        go (Array t es) a r h = fault a r
        go (Prefix t x) a r h = fault a r
        go (Infix x t y) a r h = fault a r
        go (If x t) a r h = fault a r
        go (IfElse x t f) a r h = fault a r
        go (Call t f ps) a r h = fault a r
        go (InstanceGet t x y) a r h = absurd (n45 (kind_is ∙ h.0.head.kind_is))
        go (IndexGet t x y) a r h = absurd (n46 (kind_is ∙ h.0.head.kind_is))

middle_is : (tree : List ℕ) (at end : ℕ) {middle : ℕ} → middle ≡ skip_c tree at end → (x y : Expression) → ExpressionAt x tree at
    → at + size_e x + size_e y ≡ end → middle ≡ at + size_e x
middle_is tree at end skipped x y hx l = skipped ∙ skip_law tree at end (head_e x hx) (size_e_pos x) (omega arith)

-- `compile_infix_expression`
module _ {tree : List ℕ} {at end position value start count : ℕ} where
  pub infix_past : {m m' : Memory} → end ≤ at → CompilesInfixExpression tree at end position value start count m m'
  infix_past p = record { meets = λ x y t q hx hy l. absurd (omega (arith, size_e_pos x)) }

  -- no right side
  pub infix_short : {middle : ℕ} {m m' : Memory} → middle ≡ skip_c tree at end → end ≤ middle
      → CompilesInfixExpression tree at end position value start count m m'
  infix_short skipped p = record {
    meets = λ x y t q hx hy l.
        let mid = skipped ∙ skip_law tree at end (head_e x hx) (size_e_pos x) (omega arith) in absurd (omega (arith, mid, size_e_pos y));
  }

  -- by the value, with the token's words
  by_value : {m m' : Memory} → ((x y : Expression) → ExpressionAt x tree at → ExpressionAt y tree (at + size_e x) → at + size_e x + size_e y ≡ end
      → let t = token position 39 value in
      SimulatesInside start count m m' (compile_infix_by (infix_kind value) t (compile_expression x) (compile_expression y)
      (compile_assign_expression_left_part x t)))
      → CompilesInfixExpression tree at end position value start count m m'
  unfolding compile_infix_expression
  by_value A = record { meets = λ x y t q hx hy l. rw q (A x y hx hy l) }

  module _ {middle : ℕ} (skipped : middle ≡ skip_c tree at end) where
    pub infix_assign : {m m₁ m' : Memory} → value ≡ 0 → CompilesExpression tree middle end start count m m₁
        → CompilesAssignLeftPart tree at middle position value start count m₁ m' → CompilesInfixExpression tree at end position value start count m m'
    unfolding compile_assign_expression
    infix_assign {m} {m₁} {m'} zero M T = by_value (λ x y hx hy l. go x y hx hy l)
      where
        t : Token
        t = token position 39 value

        go : (x y : Expression) → ExpressionAt x tree at → ExpressionAt y tree (at + size_e x) → at + size_e x + size_e y ≡ end
            → SimulatesInside start count m m'
            (compile_infix_by (infix_kind value) t (compile_expression x) (compile_expression y) (compile_assign_expression_left_part x t))
        go x y hx hy l =
            let mid : middle ≡ at + size_e x = middle_is tree at end skipped x y hx l in
            subst (λ (j : ℕ). SimulatesInside start count m m' (compile_infix_by (infix_kind j) t (compile_expression x) (compile_expression y)
            (compile_assign_expression_left_part x t))) (sym zero)
            (record {
              meets = λ κ E others w I H.
                  (T.meets x t refl hx (sym mid)).meets κ E others (compile_expression y w) (inside_after (preserves_expression y w) (scopes_expression y w) I)
                  ((M.meets y (rw mid hy) (omega arith)).meets κ E others w I H);
            })

    -- both sides and the operation
    module _ {m m₁ m₂ m₃ : Memory} (A : CompilesExpression tree at middle start count m m₁) (B : CompilesExpression tree middle end start count m₁ m₂)
        (O : Operates value position m₂ m₃) (ne : value ≡ 0 → ⊥) (most : value ≤ 18) where
      sides : (x y : Expression) → ExpressionAt x tree at → ExpressionAt y tree (at + size_e x) → at + size_e x + size_e y ≡ end
          → SimulatesInside start count m m₂ (and_then (compile_expression x) (compile_expression y))
      unfolding and_then
      sides x y hx hy l =
          let mid : middle ≡ at + size_e x = middle_is tree at end skipped x y hx l in
          record {
            meets = λ κ E others w I H.
                (B.meets y (rw mid hy) (omega arith)).meets κ E others (compile_expression x w)
                (inside_after (preserves_expression x w) (scopes_expression x w) I) ((A.meets x hx (sym mid)).meets κ E others w I H);
          }

      pub infix_plain : (5 < value → value < 11 → ⊥) → CompilesInfixExpression tree at end position value start count m m₃
      unfolding and_then compile_operation skip
      infix_plain out = by_value (λ x y hx hy l.
          let t = token position 39 value in
          plain_kind value (positive value ne) (omega arith) out
          (λ (i : InfixKind). Simulates m₂ m₃ (operated i t) → SimulatesInside start count m m₃
          (compile_infix_by i t (compile_expression x) (compile_expression y)
          (compile_assign_expression_left_part x t)))
          (λ o P. record {
            meets = λ κ E others w I H. P.meets κ E others (compile_expression y (compile_expression x w)) ((sides x y hx hy l).meets κ E others w I H);
          })
          (λ o P. record {
            meets = λ κ E others w I H. P.meets κ E others (compile_expression y (compile_expression x w)) ((sides x y hx hy l).meets κ E others w I H);
          })
          (O.operates t refl (positive value ne) (omega arith)))

      -- and then the left side as a target
      pub infix_compound : {m' : Memory} → 5 < value → value < 11 → CompilesAssignLeftPart tree at middle position value start count m₃ m'
          → CompilesInfixExpression tree at end position value start count m m'
      unfolding and_then compile_operation skip
      infix_compound {m'} g low T = by_value (λ x y hx hy l. go x y hx hy l)
        where
          t : Token
          t = token position 39 value

          go : (x y : Expression) → ExpressionAt x tree at → ExpressionAt y tree (at + size_e x) → at + size_e x + size_e y ≡ end
              → SimulatesInside start count m m'
              (compile_infix_by (infix_kind value) t (compile_expression x) (compile_expression y) (compile_assign_expression_left_part x t))
          go x y hx hy l =
              let mid : middle ≡ at + size_e x = middle_is tree at end skipped x y hx l in
              let P : Simulates m₂ m₃ (compile_operation (value - 6) t skip skip) =
              subst (λ (i : InfixKind). Simulates m₂ m₃ (operated i t)) (compound_kind value g low) (O.operates t refl (positive value ne) (omega arith)) in
              subst (λ (i : InfixKind). SimulatesInside start count m m' (compile_infix_by i t (compile_expression x) (compile_expression y)
              (compile_assign_expression_left_part x t))) (sym (compound_kind value g low))
              (record {
                meets = λ κ E others w I H.
                    let w₂ = compile_operation (value - 6) t (compile_expression x) (compile_expression y) w in
                    (T.meets x t refl hx (sym mid)).meets κ E others w₂
                    (inside_after (preserves_operation (preserves_expression x) (preserves_expression y) (value - 6) t w)
                    (scopes_operation (scopes_expression x) (scopes_expression y) (value - 6) t w) I)
                    (P.meets κ E others (compile_expression y (compile_expression x w)) ((sides x y hx hy l).meets κ E others w I H));
              })

  pub infix_unknown : {m m' : Memory} → 18 < value → PushesError 3 position 39 value m m' → CompilesInfixExpression tree at end position value start count m m'
  infix_unknown {m} {m'} g F = by_value (λ x y hx hy l.
      let t = token position 39 value in
      subst (λ (i : InfixKind). SimulatesInside start count m m' (compile_infix_by i t (compile_expression x) (compile_expression y)
      (compile_assign_expression_left_part x t)))
      (sym (unknown_kind value g)) (record { meets = λ κ E others w I H. pushed 3 t F H }))
