-- One lemma for each way through a local statement's variables. A local's number stands in 64 bits, and an instruction's word has its low bits only; with
-- the mark set nothing that is found says anything. Assumes nothing.
use Rattle.std.specs.Prelude.{Some, None}
use Rattle.std.proofs.Common.{◌≡◌, ℕ, ◌+◌, ◌%◌, ◌^◌, ◌<◌, ◌≤◌, Bool, true, false, eqb, List, length, sym, refl, ap, ◌∙◌, subst, arith, eqb-true}
use mathlib.Core.Option.{Option, none, some}
use borrow.Author.Tests.{eqb-false}
use Rattle.memory.specs.Layout.{Fits}
use Rattle.words.specs.Ast.{Token, Expression, Variables, ∅ᵥ, Bare, Valued}
use Rattle.words.specs.Areas.{context_locals_area}
use Rattle.words.specs.Opcode.{to_instruction, word, LocalInit}
use Rattle.words.specs.Record.{token_at, kind_at, position_at, value_at}
use Rattle.definition.specs.FunctionState.{define_local}
use Rattle.definition.specs.Uses.{Limits}
use Rattle.definition.specs.Compiler.{Work, Step, with_function, push_error, skip, bare_by, valued_by}
use Rattle.definition.specs.Compiler.{compile_bare, compile_valued, compile_expression, compile_variables}
use Rattle.definition.specs.Program.{Entries}
use Rattle.definition_laws.proofs.StepPreserves.{Steadily, preserves_trans, preserves_define, preserves_error, preserves_bare, preserves_valued}
use Rattle.definition_laws.proofs.StepPreserves.{preserves_expression}
use Rattle.tree.specs.At.{VariablesAt, size_e, size_vs}
use Rattle.tree.proofs.View.{head_e, size_e_pos, value_there}
use Rattle.building.specs.RepresentsMachine.{is_open}
use Rattle.building.specs.Emission.{emit_c}
use Rattle.building.specs.Found.{Found, found_of, wrapped}
use Rattle.building.specs.Scopes.{naming, Defines, define_c}
use Rattle.compiler_laws.specs.InsideFunction.{Inside, skip_c}
use Rattle.building.specs.Scopes.{defined}
use Rattle.compiler_laws.proofs.ScopesBalanced.{scopes_define, scopes_bare, scopes_valued, scopes_expression}
use Rattle.compiler_laws.proofs.StepsInOrder.{inside_after}
use Rattle.compiler_laws.proofs.ConstantLeaves.{low_bits}
use Rattle.compiler_laws.proofs.Tokens.{skip_law}
use Rattle.book_compiler.specs.Represents.{Memory, part_of, Represents, SimulatesInside}
use Rattle.book_compiler.specs.Leaves.{OnCode, DefinesLocal, PushesError}
use Rattle.book_compiler.specs.Members.{token, CompilesExpression, CompilesVariable, CompilesVariables}
use Rattle.book_compiler.proofs.Steps.{does_then, either}
use Rattle.book_compiler.proofs.Laws.{emitted, defined_found, pushed}
use Rattle.book_compiler.proofs.Laws as laws

-- what was defined was defined where nothing is full
defined_live : {name index : ℕ} {m m' : Memory} {found : Found} → DefinesLocal name found m m' → found ≡ Some index → Fits m.starts (length m.words)
    → m.state.full ≡ 0
unfolding define_c
defined_live {name} {index} {m} {m'} {found} D at f = go (eqb m.state.full 0) refl
  where
    G : Defines name (naming m.state (part_of m 9)) (defined found m'.state) (D.acts.on f).words
    G = (D.acts.on f).does

    go : (t : Bool) → eqb m.state.full 0 ≡ t → m.state.full ≡ 0
    go true q = eqb-true m.state.full 0 q
    go false q = absurd (let y = rw q at G.found in let z : ◌≡◌ {A = ℕ} 0 1 = cc in omega arith)

-- it is what the definition defines
here : {κ : Limits} {E : Entries} {others : ℕ → List ℕ} {w : Work} {name index : ℕ} {m m' : Memory} {found : Found} → DefinesLocal name found m m'
    → found ≡ Some index → Represents κ E others m w → is_open w.function.scopes ≡ true → found_of (wrapped (define_local name w.function).found) ≡ Some index
here D new H op = sym (defined_found D H (defined_live D new H.fits) op) ∙ new

-- a name defined, and then a step by what was found
abbrev defining : ℕ → (Option ℕ → Step) → Step
defining name by w = by (define_local name w.function).found (with_function (define_local name w.function).state w)

named : (tree : List ℕ) (at : ℕ) {name : ℕ} → name ≡ value_at tree at → (t : Token) → t ≡ token_at tree at → name ≡ t.value
named tree at q t h = q ∙ sym (ap (λ (u : Token). u.value) h)

as_token : (tree : List ℕ) (at : ℕ) {kind position value : ℕ} → kind ≡ kind_at tree at → position ≡ position_at tree at → value ≡ value_at tree at
    → {t : Token} → t ≡ token_at tree at → t ≡ token position kind value
as_token tree at k p v q = rw (k, p, v) q

module _ {tree : List ℕ} {at end start count name position : ℕ} (name-is : name ≡ value_at tree at) (position-is : position ≡ position_at tree at)
    {m m₁ : Memory} {found : Found} (D : DefinesLocal name found m m₁) where
  -- the name is there already
  pub variable_there : {kind : ℕ} {m' : Memory} → found ≡ None → kind ≡ kind_at tree at → PushesError 1 position kind name m₁ m'
      → CompilesVariable tree at end start count m m'
  unfolding compile_bare compile_valued
  variable_there {kind} {m'} lost kind_is F = record {
    bare = λ t h h₁ l. of t h.token (λ o. bare_by o 1 t)
        (λ w. ap (λ (u : Token). push_error 1 u w) (as_token tree at kind_is position-is name-is h.token)) (preserves_bare 1 t);
    valued = λ t x h h₁ l. of t h.token (λ o. valued_by o t (compile_expression x))
        (λ w. ap (λ (u : Token). push_error 1 u w) (as_token tree at kind_is position-is name-is h.token)) (preserves_valued (preserves_expression x) t);
  }
    where
      u : Token
      u = token position kind name

      by_found : (by : Option ℕ → Step) → ((w : Work) → by none w ≡ push_error 1 u w) → {κ : Limits} {E : Entries} {others : ℕ → List ℕ} (w : Work)
          → Represents κ E others m' (push_error 1 u w) → (o : Option ℕ) → found_of (wrapped o) ≡ None → Represents κ E others m' (by o w)
      by_found by q w G none z = rw (q w) G
      by_found by q w G (some j) z = absurd (let y : ◌≡◌ {A = ℕ} 0 1 = cc in omega arith)

      -- with the mark set, any step
      go : (by : Option ℕ → Step) → ((w : Work) → by none w ≡ push_error 1 u w) → Steadily (defining name by) → (κ : Limits) (E : Entries)
          (others : ℕ → List ℕ) (w : Work) → Inside start count (others context_locals_area) w → Represents κ E others m w → (t : Bool)
          → eqb m.state.full 0 ≡ t → Represents κ E others m' (defining name by w)
      go by q S κ E others w I H true z =
          let w₁ = with_function (define_local name w.function).state w in
          by_found by q w₁ (pushed 1 u F (laws.defined D I.is_open H)) (define_local name w.function).found
          (sym (defined_found D H (eqb-true m.state.full 0 z) I.is_open) ∙ lost)
      go by q S κ E others w I H false z =
          let w₁ = with_function (define_local name w.function).state w in
          either (preserves_trans (preserves_define name w) (preserves_error 1 u w₁)).uses (S w).uses (eqb-false m.state.full 0 z) H
          (pushed 1 u F (laws.defined D I.is_open H))

      of : (t : Token) → t ≡ token_at tree at → (by : Option ℕ → Step) → ((w : Work) → by none w ≡ push_error 1 u w)
          → Steadily (defining t.value by) → SimulatesInside start count m m' (defining t.value by)
      of t h by q = subst (λ (x : ℕ). Steadily (defining x by) → SimulatesInside start count m m' (defining x by)) (named tree at name-is t h)
          (λ S. record { meets = λ κ E others w I H. go by q S κ E others w I H (eqb m.state.full 0) refl })

  -- a new name
  module _ {index : ℕ} (new : found ≡ Some index) {kind : ℕ} (kind_is : kind ≡ kind_at tree (at + 1)) where
    pub variable_bare : kind ≡ 49 → CompilesVariable tree at end start count m m₁
    unfolding compile_bare
    variable_bare q = record {
      bare = λ t h h₁ l. subst (λ (x : ℕ). SimulatesInside start count m m₁ (defining x (λ o. bare_by o 1 t))) (named tree at name-is t h.token)
          (record {
            meets = λ κ E others w I H. go t (with_function (define_local name w.function).state w) (laws.defined D I.is_open H)
                (define_local name w.function).found (here D new H I.is_open);
          });
      valued = λ t x h h₁ l. absurd (value_there x tree (at + 1) h₁ (sym kind_is ∙ q));
    }
      where
        go : {κ : Limits} {E : Entries} {others : ℕ → List ℕ} (t : Token) (w : Work) → Represents κ E others m₁ w → (o : Option ℕ)
            → found_of (wrapped o) ≡ Some index → Represents κ E others m₁ (bare_by o 1 t w)
        go t w H none z = absurd (let y : ◌≡◌ {A = ℕ} 0 1 = cc in omega arith)
        go t w H (some j) z = H

    pub variable_valued : {m₂ m' : Memory} {v : ℕ} → (kind ≡ 49 → ⊥) → CompilesExpression tree (at + 1) end start count m₁ m₂
        → v ≡ word (to_instruction LocalInit index) → OnCode (emit_c v position) m₂ m' → CompilesVariable tree at end start count m m'
    unfolding compile_valued
    variable_valued {m₂} {m'} {v} ne M as-word q = record {
      bare = λ t h h₁ l. absurd (ne (kind_is ∙ h₁.kind_is));
      valued = λ t x h h₁ l. subst (λ (y : ℕ). SimulatesInside start count m m' (defining y (λ o. valued_by o t (compile_expression x))))
          (named tree at name-is t h.token)
          (record {
            meets = λ κ E others w I H. go κ E others t x (position-is ∙ sym (ap (λ (u : Token). u.position) h.token))
                (with_function (define_local name w.function).state w)
                ((M.meets x h₁ l).meets κ E others (with_function (define_local name w.function).state w)
                (inside_after (preserves_define name w) (scopes_define name w) I) (laws.defined D I.is_open H))
                (define_local name w.function).found (here D new H I.is_open);
          });
    }
      where
        go : (κ : Limits) (E : Entries) (others : ℕ → List ℕ) (t : Token) (x : Expression) → position ≡ t.position → (w : Work)
            → Represents κ E others m₂ (compile_expression x w)
            → (o : Option ℕ) → found_of (wrapped o) ≡ Some index → Represents κ E others m' (valued_by o t (compile_expression x) w)
        go κ E others t x p w H none z = absurd (let y : ◌≡◌ {A = ℕ} 0 1 = cc in omega arith)
        go κ E others t x p w H (some j) z =
            let same : index ≡ j % 2 ^ 64 = cc in
            emitted (to_instruction LocalInit j) t.position q
            (λ y. as-word ∙ ap (λ (i : ℕ). word (to_instruction LocalInit i)) same ∙ low_bits LocalInit j) (λ y. p) H

-- the loop over variables: each is a name and its value, or none
module _ {tree : List ℕ} {at end start count : ℕ} where
  pub list_end : {m : Memory} → end ≤ at → CompilesVariables tree at end start count m m
  unfolding compile_variables VariablesAt size_vs skip
  list_end {m} past = record { meets = go }
    where
      go : (vs : Variables) → VariablesAt vs tree at → at + size_vs vs ≡ end → SimulatesInside start count m m (compile_variables vs)
      go ∅ᵥ h q = record { meets = λ κ E others w I H. H }
      go (Bare t vs) h q = absurd (omega arith)
      go (Valued t x vs) h q = absurd (omega arith)

  pub list_more : {next : ℕ} {m m₁ m' : Memory} → at < end → next ≡ skip_c tree (at + 1) end → CompilesVariable tree at next start count m m₁
      → CompilesVariables tree next end start count m₁ m' → CompilesVariables tree at end start count m m'
  unfolding compile_variables VariablesAt size_vs
  list_more {next} {m} {m₁} {m'} inside skipped A B = record { meets = go }
    where
      go : (vs : Variables) → VariablesAt vs tree at → at + size_vs vs ≡ end → SimulatesInside start count m m' (compile_variables vs)
      go ∅ᵥ h q = absurd (omega arith)
      go (Bare t vs) h q =
          let mid : next ≡ at + 2 = skipped ∙ skip_law tree (at + 1) end h.1 (omega arith) (omega arith) ∙ omega arith in
          does_then (preserves_bare 1 t) (scopes_bare 1 t) (A.bare t h.0 h.1 (sym mid)) (B.meets vs (rw mid h.2) (omega arith))
      go (Valued t x vs) h q =
          let mid : next ≡ at + 1 + size_e x = skipped ∙ skip_law tree (at + 1) end (head_e x h.1) (size_e_pos x) (omega arith) in
          does_then (preserves_valued (preserves_expression x) t) (scopes_valued (scopes_expression x) t)
          (A.valued t x h.0 h.1 (sym mid)) (B.meets vs (rw mid h.2) (omega arith))
