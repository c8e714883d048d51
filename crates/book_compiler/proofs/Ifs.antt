-- One lemma for each way through `compile_if_expression`, over what its calls ensure. The two jumps are remembered as indices, and are the definition's
-- where nothing is full, by the notes. Assumes nothing.
use Rattle.std.proofs.Common.{◌≡◌, ℕ, ◌+◌, ◌≤◌, List, sym, refl, ap, ◌∙◌, arith}
use Rattle.words.specs.Ast.{Expression}
use Rattle.words.specs.Areas.{context_locals_area}
use Rattle.words.specs.Opcode.{to_instruction, word, Jump, JumpIf}
use Rattle.definition.specs.Uses.{Limits}
use Rattle.definition.specs.Compiler.{Work, Step, emit_opcode_without_position, replace_instruction, next}
use Rattle.definition.specs.Compiler.{compile_if_expression}
use Rattle.definition.specs.Program.{Entries}
use Rattle.definition_laws.proofs.StepPreserves.{Steadily, preserves_function, preserves_trans, preserves_expression, preserves_statements, preserves_part}
use Rattle.definition_laws.proofs.StepPreserves.{preserves_no_part}
use Rattle.tree.specs.At.{Head, ExpressionAt, size_e, size_ss}
use Rattle.tree.proofs.View.{head_e, size_e_pos}
use Rattle.building.specs.declared.function_state.FunctionState.{FunctionState}
use Rattle.building.specs.Emission.{next_c, emit_last_c, replace_c}
use Rattle.compiler_laws.specs.InsideFunction.{Inside, skip_c}
use Rattle.compiler_laws.proofs.ScopesBalanced.{PreservesScopes, scopes_expression, scopes_statements, scopes_part, scopes_no_part}
use Rattle.compiler_laws.proofs.StepsInOrder.{inside_after}
use Rattle.compiler_laws.proofs.Tokens.{skip_law}
use Rattle.book_compiler.specs.Represents.{Memory, laid, Represents, SimulatesInside}
use Rattle.book_compiler.specs.Leaves.{OnCode}
use Rattle.book_compiler.specs.Members.{CompilesExpression, CompilesBlock, CompilesIfExpression}
use Rattle.book_compiler.proofs.Steps.{back}
use Rattle.book_compiler.proofs.Laws.{last_emitted, replaced, next_is}

-- the two jumps of an if, around any condition and any parts
module _ {start count : ℕ} {m m₁ m₂ m₃ : Memory} {s₄ s₅ : FunctionState} {a l₄ l₅ l₆ l₇ : List ℕ} {truePart jumpToEnd following last v v' : ℕ}
    (A₁-next : truePart ≡ next_c m₁.state) (d₂ : OnCode (emit_last_c (word (to_instruction JumpIf 0))) m₁ m₂) (jump_is : jumpToEnd ≡ next_c m₃.state)
    (d₄ : OnCode (emit_last_c (word (to_instruction Jump 0))) m₃ (laid s₄ a l₄)) (following-is : following ≡ next_c s₄)
    (as-word : v ≡ word (to_instruction JumpIf following)) (d₅ : OnCode (replace_c truePart v) (laid s₄ a l₄) (laid s₄ a l₅))
    (last_is : last ≡ next_c s₅) (as-word' : v' ≡ word (to_instruction Jump last)) (d₇ : OnCode (replace_c jumpToEnd v') (laid s₅ a l₆) (laid s₅ a l₇)) where
  jumps : {condition yes no : Step} → Steadily condition → Steadily no → Steadily yes → PreservesScopes condition → PreservesScopes no
      → SimulatesInside start count m m₁ condition → SimulatesInside start count m₂ m₃ no → SimulatesInside start count (laid s₄ a l₅) (laid s₅ a l₆) yes
      → SimulatesInside start count m (laid s₅ a l₇) (compile_if_expression condition yes no)
  unfolding compile_if_expression
  jumps {condition} {yes} {no} S₁ S₃ S₆ B₁ B₃ A₁ A₃ A₆ = record { meets = go }
    where
      go : (κ : Limits) (E : Entries) (others : ℕ → List ℕ) (w : Work) → Inside start count (others context_locals_area) w → Represents κ E others m w
          → Represents κ E others (laid s₅ a l₇) (compile_if_expression condition yes no w)
      go κ E others w I H =
          let w₁ = condition w in
          let w₂ = emit_opcode_without_position JumpIf w₁ in
          let w₃ = no w₂ in
          let w₄ = emit_opcode_without_position Jump w₃ in
          let w₅ = replace_instruction (next w₁) (to_instruction JumpIf (next w₄)) w₄ in
          let w₆ = yes w₅ in
          let I₁ = inside_after (S₁ w) (B₁ w) I in
          let H₁ = A₁.meets κ E others w I H in
          let H₂ : Represents κ E others m₂ w₂ = last_emitted JumpIf d₂ H₁ in
          let I₂ : Inside start count (others context_locals_area) w₂ = record { is_open = I₁.is_open; named = I₁.named } in
          let I₃ = inside_after (S₃ w₂) (B₃ w₂) I₂ in
          let H₃ = A₃.meets κ E others w₂ I₂ H₂ in
          let H₄ : Represents κ E others (laid s₄ a l₄) w₄ = last_emitted Jump d₄ H₃ in
          let g₁ = preserves_trans (preserves_function w₁ w₂.function refl) (preserves_trans (S₃ w₂) (preserves_function w₃ w₄.function refl)) in
          let H₅ : Represents κ E others (laid s₄ a l₅) w₅ =
          replaced (next w₁) (to_instruction JumpIf (next w₄)) d₅ (λ z. A₁-next ∙ next_is H₁ (back g₁.uses H₁ H₄ z))
          (λ z. as-word ∙ ap (λ (j : ℕ). word (to_instruction JumpIf j)) (following-is ∙ next_is H₄ z)) H₄ in
          let I₅ : Inside start count (others context_locals_area) w₅ = record { is_open = I₃.is_open; named = I₃.named } in
          let H₆ = A₆.meets κ E others w₅ I₅ H₅ in
          let g₂ = preserves_trans (preserves_function w₃ w₄.function refl) (preserves_trans (preserves_function w₄ w₅.function refl) (S₆ w₅)) in
          replaced (next w₃) (to_instruction Jump (next w₆)) d₇ (λ z. jump_is ∙ next_is H₃ (back g₂.uses H₃ H₆ z))
          (λ z. as-word' ∙ ap (λ (j : ℕ). word (to_instruction Jump j)) (last_is ∙ next_is H₆ z)) H₆

-- where the parts stand
yes_at : (tree : List ℕ) (at end : ℕ) {yes : ℕ} → yes ≡ skip_c tree at end → (c : Expression) → ExpressionAt c tree at → at + size_e c ≤ end
    → yes ≡ at + size_e c
yes_at tree at end skipped c h l = skipped ∙ skip_law tree at end (head_e c h) (size_e_pos c) l

no_at : (tree : List ℕ) (from end : ℕ) {to : ℕ} → to ≡ skip_c tree from end → (size : ℕ) → Head tree from 43 (1 + size) → from + (1 + size) ≤ end
    → to ≡ from + (1 + size)
no_at tree from end skipped size h l = skipped ∙ skip_law tree from end h (omega arith) l

-- `compile_if_expression`
module _ {tree : List ℕ} {at end start count : ℕ} where
  pub if_past : {m m' : Memory} → end ≤ at → CompilesIfExpression tree at end start count m m'
  if_past p = record {
    alone = λ c t hc h1 h2 l. absurd (omega (arith, size_e_pos c));
    other = λ c t f hc h1 h2 h3 h4 l. absurd (omega (arith, size_e_pos c));
  }

  module _ {yes : ℕ} (skip₁ : yes ≡ skip_c tree at end) where
    pub if_short : {m m' : Memory} → end ≤ yes → CompilesIfExpression tree at end start count m m'
    if_short p = record {
      alone = λ c t hc h1 h2 l. absurd (omega (arith, yes_at tree at end skip₁ c hc (omega arith)));
      other = λ c t f hc h1 h2 h3 h4 l. absurd (omega (arith, yes_at tree at end skip₁ c hc (omega arith)));
    }

    module _ {no : ℕ} (skip₂ : no ≡ skip_c tree yes end) {m m₁ m₂ m₃ : Memory} {s₄ s₅ : FunctionState} {a l₄ l₅ l₆ l₇ : List ℕ}
        {truePart jumpToEnd following last v v' : ℕ} (M₁ : CompilesExpression tree at yes start count m m₁) (true-is : truePart ≡ next_c m₁.state)
        (d₂ : OnCode (emit_last_c (word (to_instruction JumpIf 0))) m₁ m₂) (jump_is : jumpToEnd ≡ next_c m₃.state)
        (d₄ : OnCode (emit_last_c (word (to_instruction Jump 0))) m₃ (laid s₄ a l₄)) (following-is : following ≡ next_c s₄)
        (as-word : v ≡ word (to_instruction JumpIf following)) (d₅ : OnCode (replace_c truePart v) (laid s₄ a l₄) (laid s₄ a l₅))
        (M₆ : CompilesBlock tree yes no start count (laid s₄ a l₅) (laid s₅ a l₆)) (last_is : last ≡ next_c s₅)
        (as-word' : v' ≡ word (to_instruction Jump last)) (d₇ : OnCode (replace_c jumpToEnd v') (laid s₅ a l₆) (laid s₅ a l₇)) where
      pub if_meets : CompilesBlock tree no end start count m₂ m₃ → CompilesIfExpression tree at end start count m (laid s₅ a l₇)
      if_meets M₃ = record {
        alone = λ c t hc h1 h2 l.
            let y : yes ≡ at + size_e c = yes_at tree at end skip₁ c hc (omega arith) in
            let z : no ≡ yes + (1 + size_ss t) = no_at tree yes end skip₂ (size_ss t) (rw y h1) (omega arith) in
            jumps true-is d₂ jump_is d₄ following-is as-word d₅ last_is as-word' d₇ (preserves_expression c) preserves_no_part
            (preserves_part (preserves_statements t)) (scopes_expression c) scopes_no_part (M₁.meets c hc (sym y)) (M₃.absent (omega arith))
            (M₆.meets t (rw y h2) (omega arith));
        other = λ c t f hc h1 h2 h3 h4 l.
            let y : yes ≡ at + size_e c = yes_at tree at end skip₁ c hc (omega arith) in
            let z : no ≡ yes + (1 + size_ss t) = no_at tree yes end skip₂ (size_ss t) (rw y h1) (omega arith) in
            let z' : no ≡ at + size_e c + (1 + size_ss t) = omega arith in
            jumps true-is d₂ jump_is d₄ following-is as-word d₅ last_is as-word' d₇ (preserves_expression c) (preserves_part (preserves_statements f))
            (preserves_part (preserves_statements t)) (scopes_expression c) (scopes_part (scopes_statements f)) (M₁.meets c hc (sym y))
            (M₃.meets f (rw z' h4) (omega arith)) (M₆.meets t (rw y h2) (omega arith));
      }
