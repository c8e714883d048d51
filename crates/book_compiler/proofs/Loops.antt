-- The pieces of a for statement, and the statement itself: what their calls ensure is the definition's step. The start is one step of the definition and
-- four routines: their notes repeat. A local's number counts by its low bits; what was remembered stands where nothing is full, by the notes. Assumes nothing.
use Rattle.std.proofs.Common.{◌≡◌, ℕ, ◌+◌, ◌%◌, ◌^◌, ◌≤◌, List, length, sym, refl, ap, ◌∙◌, arith}
use native.Mathlib.Nat.{mod-add-mod}
use mathlib.Core.Option.{Option, none, some}
use Rattle.memory.specs.Layout.{Fits}
use Rattle.words.specs.Ast.{Token}
use Rattle.words.specs.Areas.{context_locals_area}
use Rattle.words.specs.Object.{constant_of, integer_kind}
use Rattle.words.specs.Opcode.{to_instruction, word, Pop, PushConstant, LocalSet, Jump, JumpIf, ForNext, Iterate}
use Rattle.words.specs.Record.{position_at, value_at}
use Rattle.definition.specs.FunctionState as method
use Rattle.definition.specs.FunctionState.{get_last_position, define_local, tail, Entry}
use Rattle.definition.specs.Uses.{total}
use Rattle.definition.specs.Compiler.{doing, emit, emit_opcode_without_position, replace_instruction, next, emit_constant, found_or}
use Rattle.definition.specs.Compiler.{compile_expression, compile_statements, compile_for_statement}
use Rattle.definition_laws.proofs.StepPreserves.{StepPreserves, Steadily, preserves_trans, preserves_function}
use Rattle.definition_laws.proofs.StepPreserves.{preserves_emit_constant, preserves_expression, preserves_statements}
use Rattle.tree.specs.At.{size_e}
use Rattle.tree.proofs.View.{head_e, size_e_pos}
use Rattle.building.specs.declared.function_state.FunctionState.{FunctionState}
use Rattle.building.specs.Emission.{next_c, emit_c, emit_last_c, replace_c, enter_break_c, exit_break_c}
use Rattle.building.specs.Found.{Found, found_of, wrapped}
use Rattle.building.specs.Scopes.{enter_scope_c, exit_scope_c, define_anonymous_c}
use Rattle.building.specs.RepresentsMachine.{is_open}
use Rattle.building.proofs.ScopeLaws.{define_mark}
use Rattle.building.proofs.Notes.{held_renoted}
use Rattle.compiler_laws.specs.InsideFunction.{Inside, skip_c}
use Rattle.compiler_laws.specs.ForStatements.{loop_start, loop_head, loop_defined, loop_next, loop_name, found_or_zero, Around}
use Rattle.compiler_laws.proofs.ScopesBalanced.{scopes_trans, scopes_expression, scopes_statements}
use Rattle.compiler_laws.proofs.StepsInOrder.{inside_after}
use Rattle.compiler_laws.proofs.Tokens.{skip_law}
use Rattle.compiler_laws.proofs.ConstantLeaves.{low_bits}
use Rattle.compiler_laws.proofs.ForStatements.{preserves_start, preserves_head, preserves_name, scopes_head, scopes_name}
use Rattle.book_compiler.specs.declared.statements.LoopEntry.{LoopEntry}
use Rattle.book_compiler.specs.Represents.{Memory, laid, Simulates}
use Rattle.book_compiler.specs.Leaves.{OnCode, OnNames, OnBoth, DefinesLocal, LastPosition}
use Rattle.book_compiler.specs.Members.{LoopStarts, LoopHead, LoopName, LoopEnd, CompilesExpression, CompilesStatements, CompilesForStatement}
use Rattle.book_compiler.proofs.Steps.{back}
use Rattle.book_compiler.proofs.Laws.{emitted, last_emitted, replaced, next_is, last_is, left, defined, defined_found, anonymous, entered, loop_entered}
use Rattle.book_compiler.proofs.BothParts.{exited}

-- `start_loop`
pub start_acts : {s s₁ s₂ s₃ s' : FunctionState} → s₁ ≡ define_anonymous_c s → s₂ ≡ define_anonymous_c s₁ → s₃ ≡ enter_scope_c s₂ → s' ≡ enter_break_c s₃
    → LoopStarts s s'
start_acts one two opened entered' = record {
  acts = λ a l. record {
    meets = λ κ E others w H.
        let f₁ = method.define_anonymous_local w.function in
        let f₂ = method.define_anonymous_local f₁ in
        let f₃ = method.enter_scope f₂ in
        let g = method.enter_break_scope f₃ in
        let H₁ = anonymous H one in
        let H₂ = anonymous H₁ two in
        let H₃ = entered H₂ opened in
        let H₄ = loop_entered H₃ entered' in
        let G₃ = held_renoted f₃ g H₂.held (omega arith) (omega arith) (omega arith) H₄.held in
        let G₂ = held_renoted f₂ g H₁.held (omega arith) (omega arith) (omega arith) G₃ in
        record { fits = H₄.fits; preserves = H₄.preserves; held = held_renoted f₁ g H.held (omega arith) (omega arith) (omega arith) G₂; slots = H₄.slots };
  };
}

-- a local's number and the next, in 64 bits
as_local : (o x : ℕ) {v local : ℕ} → v ≡ word (to_instruction o local) → local ≡ x % 2 ^ 64 → v ≡ word (to_instruction o x)
as_local o x as-word q = as-word ∙ ap (λ (i : ℕ). word (to_instruction o i)) q ∙ low_bits o x

next_local : (x : ℕ) {local iterator : ℕ} → iterator ≡ (local + 1) % 2 ^ 64 → local ≡ x % 2 ^ 64 → iterator ≡ (x + 1) % 2 ^ 64
next_local x q p = q ∙ ap (λ (y : ℕ). (y + 1) % 2 ^ 64) p ∙ mod-add-mod x (2 ^ 64) 1

-- two emissions, the second at the last position
twice_preserves : (o x p o' : ℕ) → Steadily (λ w. emit_opcode_without_position o' (emit (to_instruction o x) p w))
twice_preserves o x p o' w =
    let u = emit (to_instruction o x) p w in
    preserves_trans {b = u} (preserves_function w _ refl) (preserves_function u _ refl)

-- `begin_loop`
pub head_acts : {m m₁ m₂ m₃ m₄ m' : Memory} {local iterator v v₁ p : ℕ} → v ≡ word (to_instruction LocalSet local) → OnCode (emit_c v p) m m₁
    → OnCode (emit_last_c (word (to_instruction Pop 0))) m₁ m₂ → Simulates m₂ m₃ (emit_constant PushConstant (constant_of integer_kind 0) p)
    → iterator ≡ (local + 1) % 2 ^ 64 → v₁ ≡ word (to_instruction LocalSet iterator) → OnCode (emit_c v₁ p) m₃ m₄
    → OnCode (emit_last_c (word (to_instruction Pop 0))) m₄ m' → LoopHead local p m m'
head_acts {p = p} as-word d₁ d₂ zeroed more as-word₁ d₄ d' = record {
  acts = λ x agree. record {
    meets = λ κ E others w H.
        let u₁ = emit (to_instruction LocalSet x) p w in
        let w₁ = emit_opcode_without_position Pop u₁ in
        let H₁ = emitted (to_instruction LocalSet x) p d₁ (λ z. as_local LocalSet x as-word (agree z)) (λ z. refl) H in
        let H₂ = last_emitted Pop d₂ H₁ in
        let Z = zeroed.meets κ E others w₁ H₂ in
        let S = preserves_trans (twice_preserves LocalSet x p Pop w) (preserves_emit_constant PushConstant (constant_of integer_kind 0) p w₁) in
        let H₄ = emitted (to_instruction LocalSet (x + 1)) p d₄
        (λ z. as_local LocalSet (x + 1) as-word₁ (next_local x more (agree (back S.uses H Z z)))) (λ z. refl) Z in
        last_emitted Pop d' H₄;
  };
}

found_zero : (o : Option ℕ) → found_or_zero (found_of (wrapped o)) ≡ found_or 0 o % 2 ^ 64
found_zero none = refl
found_zero (some i) = refl

-- what was defined leaves the mark as it was, or sets it
mark_before : {name : ℕ} {r : Found} {m m' : Memory} → DefinesLocal name r m m' → Fits m.starts (length m.words) → m'.state.full ≡ 0
    → m.state.full ≡ 0
mark_before D f z = define_mark (D.acts.on f).does z

-- `name_loop`
pub name_names : {m m₁ m₂ m₃ m₄ m₅ : Memory} {found : Found} {position text place local index first v exit v' : ℕ} → DefinesLocal text found m m₁
    → index ≡ found_or_zero found → first ≡ next_c m₁.state → v ≡ word (to_instruction ForNext local) → OnCode (emit_c v position) m₁ m₂
    → exit ≡ next_c m₂.state → OnCode (emit_last_c (word (to_instruction JumpIf 0))) m₂ m₃ → v' ≡ word (to_instruction LocalSet index)
    → OnCode (emit_c v' place) m₃ m₄ → OnCode (emit_last_c (word (to_instruction Pop 0))) m₄ m₅
    → LoopName position text place local (record { first = first; exit = exit }) m m₅
name_names {m} {m₁} {found = found} {text = text} {index = index} D index_is first_is as-word d₂ exit-is d₃ as-word' d₄ d₅ = record {
  names = λ x agree t n pt tn pn κ E others w op H.
      let D' : DefinesLocal n.value found m m₁ = rw tn D in
      let w₂ = loop_next x t n w in
      let w₃ = emit_opcode_without_position JumpIf w₂ in
      let u = loop_defined n w in
      let o = (define_local n.value w.function).found in
      let i = found_or 0 o in
      let H₁ = defined D' op H in
      let H₂ = emitted (to_instruction ForNext x) t.position d₂ (λ z. as_local ForNext x as-word (agree (mark_before D H.fits z))) (λ z. sym pt) H₁ in
      let H₃ = last_emitted JumpIf d₃ H₂ in
      let here : m₁.state.full ≡ 0 → index ≡ i % 2 ^ 64 =
      λ z. index_is ∙ ap found_or_zero (defined_found D' H (mark_before D H.fits z) op) ∙ found_zero o in
      let S₃ = twice_preserves ForNext x t.position JumpIf u in
      let H₄ = emitted (to_instruction LocalSet i) n.position d₄ (λ z. as_local LocalSet i as-word' (here (back S₃.uses H₁ H₃ z))) (λ z. sym pn) H₃ in
      let H₅ = last_emitted Pop d₅ H₄ in
      let S₅ = twice_preserves LocalSet i n.position Pop w₃ in
      let S₂ = preserves_trans (preserves_function w₂ (method.emit_opcode_without_position JumpIf w₂.function) refl) S₅ in
      record {
        represents = H₅;
        first = λ z. first_is ∙ next_is H₁ (back (preserves_trans S₃ S₅).uses H₁ H₅ z);
        exit = λ z. exit-is ∙ next_is H₂ (back S₂.uses H₂ H₅ z);
      };
}

-- `end_loop`
pub end_ends : {around : FunctionState} {m m₁ m' : Memory} {s₂ s₃ : FunctionState} {a l₂ l₃ l₄ : List ℕ} {first exit p iterator v p₁ v₁ following v₂ : ℕ}
    → LastPosition p m → iterator ≡ (around.local_count + 1) % 2 ^ 64 → v ≡ word (to_instruction Iterate iterator) → OnCode (emit_c v p) m m₁
    → LastPosition p₁ m₁ → v₁ ≡ word (to_instruction Jump first) → OnCode (emit_c v₁ p₁) m₁ (laid s₂ a l₂) → following ≡ next_c s₂
    → v₂ ≡ word (to_instruction JumpIf following) → OnCode (replace_c exit v₂) (laid s₂ a l₂) (laid s₂ a l₃)
    → OnBoth (exit_break_c around.break_base around.in_loop) (laid s₂ a l₃) (laid s₃ a l₄)
    → OnNames (exit_scope_c around.scope_base) (laid s₃ a l₄) m'
    → LoopEnd around first exit m m'
unfolding method.exit_break_scope
end_ends {around} position-is more as-word d₁ last as-word₁ d₂ following-is as-word₂ d₃ broken out = record {
  ends = λ x first' exit' κ E others w A hf hx H.
      let f = w.function in
      let w₁ = emit (to_instruction Iterate (x + 1)) (get_last_position f) w in
      let w₂ = emit (to_instruction Jump first') (get_last_position w₁.function) w₁ in
      let w₃ = replace_instruction exit' (to_instruction JumpIf (next w₂)) w₂ in
      let w₄ = doing (method.exit_break_scope exit') w₃ in
      let S₁ : StepPreserves w w₁ = preserves_function w _ refl in
      let S₂ : StepPreserves w w₂ = preserves_trans S₁ (preserves_function w₁ _ refl) in
      let S₃ : StepPreserves w w₃ = preserves_trans S₂ (preserves_function w₂ _ refl) in
      let S₄ : StepPreserves w w₄ = preserves_trans S₃ (preserves_function w₃ _ refl) in
      let H₁ = emitted (to_instruction Iterate (x + 1)) (get_last_position f) d₁ (λ z. as_local Iterate (x + 1) as-word (next_local x more (A z).local))
      (λ z. last_is position-is H z) H in
      let H₂ = emitted (to_instruction Jump first') (get_last_position w₁.function) d₂
      (λ z. as-word₁ ∙ ap (λ (i : ℕ). word (to_instruction Jump i)) (hf (back S₁.uses H H₁ z))) (λ z. last_is last H₁ z) H₁ in
      let H₃ = replaced exit' (to_instruction JumpIf (next w₂)) d₃ (λ z. hx (back S₂.uses H H₂ z))
      (λ z. as-word₂ ∙ ap (λ (i : ℕ). word (to_instruction JumpIf i)) (following-is ∙ next_is H₂ z)) H₂ in
      let H₄ = exited exit' broken (λ z. (A (back S₃.uses H H₃ z)).loop) (λ z. (A (back S₃.uses H H₃ z)).in_loop) H₃ in
      left out (λ z. (A (back S₄.uses H H₄ z)).scope) H₄;
}

-- `compile_for_statement`
module _ {tree : List ℕ} {at end start count position text place : ℕ} {body : ℕ} {s s₁ : FunctionState} {a l : List ℕ} {m₂ m₃ m₄ m₅ m₆ : Memory} {r : LoopEntry}
    (text-is : text ≡ value_at tree at) (place_is : place ≡ position_at tree at) (skipped : body ≡ skip_c tree (at + 1) end) (begun : LoopStarts s s₁)
    (M : CompilesExpression tree (at + 1) body start count (laid s₁ a l) m₂) (head : LoopHead s.local_count position m₂ m₃)
    (named : LoopName position text place s.local_count r m₃ m₄) (N : CompilesStatements tree body end start count m₄ m₅)
    (ended : LoopEnd s r.first r.exit m₅ m₆) where
  pub for_meets : CompilesForStatement tree at end position start count (laid s a l) m₆
  unfolding compile_for_statement
  for_meets = record {
    meets = λ t n x ss pt hn hx hs q.
        let mid : body ≡ at + 1 + size_e x = skipped ∙ skip_law tree (at + 1) end (head_e x hx) (size_e_pos x) (omega arith) in
        record {
          meets = λ κ E others w I H.
              let i = w.function.header.local_count in
              let w₁ = loop_start w in
              let w₂ = compile_expression x w₁ in
              let w₃ = loop_head i t.position w₂ in
              let w₄ = loop_name i t n w₃ in
              let w₅ = compile_statements ss w₄ in
              let S₂ = preserves_trans (preserves_start w) (preserves_expression x w₁) in
              let S₃ = preserves_trans S₂ (preserves_head i t.position w₂) in
              let S₄ = preserves_name i t n w₃ in
              let S₅ = preserves_statements ss w₄ in
              let B₃ = scopes_trans (scopes_expression x w₁) (scopes_head i t.position w₂) in
              let B₄ = scopes_name i t n w₃ in
              let B₅ = scopes_trans (scopes_trans B₃ B₄) (scopes_statements ss w₄) in
              let I₁ : Inside start count (others context_locals_area) w₁ = record { is_open = refl; named = I.named } in
              let I₃ = inside_after (preserves_trans (preserves_expression x w₁) (preserves_head i t.position w₂)) B₃ I₁ in
              let H₁ = (begun.acts a l).meets κ E others w H in
              let H₂ = (M.meets x hx (sym mid)).meets κ E others w₁ I₁ H₁ in
              let head' : LoopHead s.local_count t.position m₂ m₃ = rw pt head in
              let H₃ = (head'.acts i (λ z. (H.held.rest (back S₂.uses H H₂ z)).locals)).meets κ E others w₂ H₂ in
              let L = named.names i (λ z. (H.held.rest (back S₃.uses H H₃ z)).locals) t n pt
              (ap (λ (u : Token). u.value) hn.token ∙ sym text-is) (ap (λ (u : Token). u.position) hn.token ∙ sym place_is)
              κ E others w₃ I₃.is_open H₃ in
              let H₅ = (N.meets ss (rw mid hs) (omega arith)).meets κ E others w₄ (inside_after S₄ B₄ I₃) L.represents in
              let around : m₅.state.full ≡ 0 → Around s i w₅ = λ z.
              let C = H.held.rest (back (preserves_trans S₃ (preserves_trans S₄ S₅)).uses H H₅ z) in
              record {
                local = C.locals;
                scope = C.scope ∙ sym (ap (λ (y : List (List Entry)). total (tail y)) B₅.scopes);
                loop = C.loop ∙ sym (ap (λ (y : List (List ℕ)). total (tail y)) B₅.breaks);
                in_loop = C.in_loop ∙ sym (ap (λ (y : List (List ℕ)). is_open y) B₅.breaks);
              } in
              ended.ends i (next (loop_defined n w₃)) (next (loop_next i t n w₃)) κ E others w₅ around
              (λ z. L.first (back S₅.uses L.represents H₅ z)) (λ z. L.exit (back S₅.uses L.represents H₅ z)) H₅;
        };
  }

-- too short for a for: nothing of the kind stands there
pub for_past : {tree : List ℕ} {at end start count position : ℕ} {m m' : Memory} → end ≤ at → CompilesForStatement tree at end position start count m m'
for_past p = record { meets = λ t n x ss pt hn hx hs q. absurd (omega (arith, size_e_pos x)) }
