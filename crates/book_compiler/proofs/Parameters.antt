-- One lemma for each way through the routines that compile a function's parameters and its base, on one memory. With the mark set nothing that is found
-- says anything, so they return at once. Assumes nothing.
use Rattle.std.specs.Prelude.{Some, None, is_some}
use Rattle.std.proofs.Common.{◌≡◌, ℕ, ◌+◌, ◌<◌, ◌≤◌, Bool, true, false, cond, eqb, List, [], ◌∷◌, length, sym, refl, ap, ◌∙◌, subst, arith}
use mathlib.Core.Option.{Option, none, some}
use Rattle.words.specs.Ast.{Token}
use Rattle.words.specs.Areas.{context_locals_area}
use Rattle.words.specs.Record.{token_at, kind_at, position_at, value_at}
use Rattle.definition.specs.FunctionState.{define_local, new_function_state, get_last_position}
use Rattle.definition.specs.FunctionState as method
use Rattle.definition.specs.Uses.{Limits}
use Rattle.definition.specs.Compiler.{Work, doing, with_function, skip, bare_by, compile_bare, compile_parameter, compile_parameters, compile_statements}
use Rattle.definition.specs.Compiler.{and_then}
use Rattle.definition.specs.Compiler.{compile_function_definition_base}
use Rattle.definition.specs.Program.{Entries}
use Rattle.definition_laws.proofs.StepPreserves.{preserves_parameter, preserves_parameters}
use Rattle.tree.specs.At.{Leaf, ParametersAt}
use Rattle.building.specs.declared.function_state.FunctionState.{FunctionState}
use Rattle.building.specs.Emission.{parameters_c, emit_return_c}
use Rattle.building.specs.State.{with_parameters}
use Rattle.building.specs.Found.{Found, found_of, wrapped}
use Rattle.building.specs.RepresentsMachine.{RepresentsMachine, is_open}
use Rattle.building.proofs.StateLaws.{parameters_law}
use Rattle.building.proofs.Notes.{held_longer}
use Rattle.compiler_laws.specs.InsideFunction.{Inside}
use Rattle.compiler_laws.proofs.ScopesBalanced.{scopes_bare}
use Rattle.compiler_laws.proofs.StepsInOrder.{same_locals}
use Rattle.compiler_laws.specs.MakingFunctions.{instance_by, ParametersEnd}
use Rattle.book_compiler.specs.Represents.{Memory, laid, view, Represents}
use Rattle.book_compiler.specs.Leaves.{OnCode, DefinesLocal, PushesError, LastPosition}
use Rattle.book_compiler.specs.Members.{token, CompilesStatements}
use Rattle.book_compiler.specs.FunctionSteps.{CompilesParameter, CompilesParameters, CompilesBase}
use Rattle.book_compiler.proofs.ConstantCount.{parameters_count}
use Rattle.book_compiler.proofs.StoodFunctions.{Onward, onward_unless}
use Rattle.book_compiler.proofs.Laws.{alone, defined, defined_found, pushed, returned, last_is}

-- what was found, or that nothing was
pub some_is : (found : Found) → is_some found ≡ true → (i : ℕ) × (found ≡ Some i)
some_is (Some i) e = (i, refl)
some_is None e = absurd (let z : ◌≡◌ {A = ℕ} 0 1 = cc in omega arith)

pub none_is : (found : Found) → is_some found ≡ false → found ≡ None
none_is (Some i) e = absurd (let z : ◌≡◌ {A = ℕ} 0 1 = cc in omega arith)
none_is None e = refl

-- the mark stays
parameters_mark : (i : Bool) (p : ℕ) (s : FunctionState) → (parameters_c i p s).full ≡ s.full
parameters_mark i p s = go (eqb s.full 0)
  where
    go : (t : Bool) → (cond t (with_parameters i p s) s).full ≡ s.full
    go true = refl
    go false = refl

parameters_onward : (i : Bool) (p : ℕ) (s : FunctionState) {s' : FunctionState} → s' ≡ parameters_c i p s → Onward s s'
parameters_onward i p s q =
    subst (Onward s) (sym q) (onward_unless s (with_parameters i p s) (record { full = λ z. z; base = refl; constants = omega arith }))

-- a parameter's kind says whether the function is an instance's
abbrev flagged : Token → Work → Work
flagged t w = doing (λ f. method.with_parameters (cond (eqb t.kind 41) true f.header.is_instance) f.header.parameter_count f) w

as_token : (tree : List ℕ) (at : ℕ) {kind position value : ℕ} → kind ≡ kind_at tree at → position ≡ position_at tree at → value ≡ value_at tree at
    → {t : Token} → t ≡ token_at tree at → t ≡ token position kind value
as_token tree at k p v q = rw (k, p, v) q

module _ {tree : List ℕ} {at : ℕ} {s : FunctionState} {a l : List ℕ} where
  pub parameter_full : (s.full ≡ 0 → ⊥) → CompilesParameter tree at (laid s a l) (laid s a l)
  parameter_full ne = record {
    meets = λ t h κ E others w o H.
        record { fits = H.fits; preserves = H.preserves; held = held_longer (preserves_parameter t w).uses ne H.held; slots = H.slots };
  }

  module _ (live : s.full ≡ 0) {kind name : ℕ} {instance : Bool} {s₁ s₂ : FunctionState} {found : Found} {l' : List ℕ} (kind_is : kind ≡ kind_at tree at)
      (name-is : name ≡ value_at tree at) (instance-is : instance ≡ instance_by kind s.is_instance)
      (s₁_is : s₁ ≡ parameters_c instance s.parameter_count s) (D : DefinesLocal name found (laid s₁ a l) (laid s₂ a l')) where
    module _ {κ : Limits} {E : Entries} {others : ℕ → List ℕ} {w : Work} (open' : is_open w.function.scopes ≡ true)
        (H : Represents κ E others (laid s a l) w) (t : Token) (leaf : Leaf tree at t.kind t) where
      same_kind : kind ≡ t.kind
      same_kind = kind_is ∙ sym (ap (λ (u : Token). u.kind) leaf.token)

      same_name : name ≡ t.value
      same_name = name-is ∙ sym (ap (λ (u : Token). u.value) leaf.token)

      flagged_held : Represents κ E others (laid s₁ a l) (flagged t w)
      flagged_held = alone H (parameters_onward instance s.parameter_count s s₁_is)
          (ap (λ (x : FunctionState). x.constants) s₁_is ∙ parameters_count s instance s.parameter_count)
          (subst (λ (x : FunctionState). RepresentsMachine κ E (view (laid x a l)) (flagged t w)) (sym s₁_is)
          (parameters_law H.held instance (cond (eqb t.kind 41) true w.function.header.is_instance) s.parameter_count
          w.function.header.parameter_count
          (λ z. instance-is ∙ rw (same_kind, (H.held.rest z).is_instance)) (λ z. (H.held.rest z).parameters)))

      live₁ : s₁.full ≡ 0
      live₁ = ap (λ (x : FunctionState). x.full) s₁_is ∙ parameters_mark instance s.parameter_count s ∙ live

      D' : DefinesLocal t.value found (laid s₁ a l) (laid s₂ a l')
      D' = subst (λ (x : ℕ). DefinesLocal x found (laid s₁ a l) (laid s₂ a l')) same_name D

      defined_held : Represents κ E others (laid s₂ a l') (with_function (define_local t.value (flagged t w).function).state (flagged t w))
      defined_held = defined D' open' flagged_held

      found_is : found ≡ found_of (wrapped (define_local t.value (flagged t w).function).found)
      found_is = defined_found D' flagged_held live₁ open'

    pub parameter_new : {index : ℕ} → found ≡ Some index → CompilesParameter tree at (laid s a l) (laid s₂ a l')
    unfolding compile_parameter compile_bare
    parameter_new {index} new = record {
      meets = λ t h κ E others w o H.
          go t (define_local t.value (flagged t w).function).found (sym (found_is o H t h) ∙ new) (defined_held o H t h);
    }
      where
        go : {κ : Limits} {E : Entries} {others : ℕ → List ℕ} {w : Work} (t : Token) (o : Option ℕ) → found_of (wrapped o) ≡ Some index
            → Represents κ E others (laid s₂ a l') w → Represents κ E others (laid s₂ a l') (bare_by o 7 t w)
        go t none q H = absurd (let z : ◌≡◌ {A = ℕ} 0 1 = cc in omega arith)
        go t (some j) q H = H

    pub parameter_there : found ≡ None → {position : ℕ} {m' : Memory} → position ≡ position_at tree at → PushesError 7 position kind name (laid s₂ a l') m'
        → CompilesParameter tree at (laid s a l) m'
    unfolding compile_parameter compile_bare
    parameter_there lost {position} {m'} position-is F = record {
      meets = λ t h κ E others w o H.
          go t (as_token tree at kind_is position-is name-is h.token) (define_local t.value (flagged t w).function).found
          (sym (found_is o H t h) ∙ lost) (defined_held o H t h);
    }
      where
        go : {κ : Limits} {E : Entries} {others : ℕ → List ℕ} {w : Work} (t : Token) → t ≡ token position kind name → (o : Option ℕ)
            → found_of (wrapped o) ≡ None → Represents κ E others (laid s₂ a l') w → Represents κ E others m' (bare_by o 7 t w)
        go t h none q H = rw h (pushed 7 (token position kind name) F H)
        go t h (some j) q H = absurd (let z : ◌≡◌ {A = ℕ} 0 1 = cc in omega arith)

-- a parameter leaves the function's scope open
stays_open : (t : Token) (w : Work) → is_open w.function.scopes ≡ true → is_open (compile_parameter t w).function.scopes ≡ true
unfolding compile_parameter
stays_open t w o = (scopes_bare 7 t (flagged t w)).is_open ∙ o

stay_open : (ts : List Token) (w : Work) → is_open w.function.scopes ≡ true → is_open (compile_parameters ts w).function.scopes ≡ true
unfolding compile_parameters skip and_then
stay_open [] w o = o
stay_open (t ∷ ts) w o = stay_open ts (compile_parameter t w) (stays_open t w o)

-- the loop over parameters
module _ {tree : List ℕ} {at end : ℕ} where
  pub parameters_end : {m : Memory} → end ≤ at → CompilesParameters tree at end m m
  unfolding compile_parameters skip
  parameters_end {m} past = record { meets = go }
    where
      go : (ts : List Token) → ParametersAt ts tree at → at + length ts ≡ end → (κ : Limits) (E : Entries) (others : ℕ → List ℕ) (w : Work)
          → is_open w.function.scopes ≡ true → Represents κ E others m w → Represents κ E others m (compile_parameters ts w)
      go [] h q κ E others w o H = H
      go (t ∷ ts) h q κ E others w o H = absurd (omega arith)

  pub parameters_more : {m m₁ m' : Memory} → at < end → CompilesParameter tree at m m₁ → CompilesParameters tree (at + 1) end m₁ m'
      → CompilesParameters tree at end m m'
  unfolding compile_parameters ParametersAt and_then
  parameters_more {m} {m₁} {m'} inside A B = record { meets = go }
    where
      go : (ts : List Token) → ParametersAt ts tree at → at + length ts ≡ end → (κ : Limits) (E : Entries) (others : ℕ → List ℕ) (w : Work)
          → is_open w.function.scopes ≡ true → Represents κ E others m w → Represents κ E others m' (compile_parameters ts w)
      go [] h q κ E others w o H = absurd (omega arith)
      go (t ∷ ts) h q κ E others w o H =
          B.meets ts h.2 (omega arith) κ E others (compile_parameter t w) (stays_open t w o) (A.meets t h.0 κ E others w o H)

-- `compile_function_definition_base`
module _ {tree : List ℕ} {at end start count : ℕ} where
  pub base_past : {m m' : Memory} → end ≤ at → CompilesBase tree at end start count m m'
  base_past past = record { meets = λ kind f h q κ E others w L H. absurd (omega arith) }

  pub base_meets : (parameters : ℕ) {first position : ℕ} {s s₁ s₂ : FunctionState} {a l l₁ : List ℕ} {m₃ m₄ : Memory}
      → ParametersEnd tree (at + 1) end first → CompilesParameters tree (at + 1) first (laid s a l) (laid s₁ a l₁) → at + 1 + parameters ≡ first
      → s₂ ≡ parameters_c s₁.is_instance parameters s₁ → CompilesStatements tree first end start count (laid s₂ a l₁) m₃ → LastPosition position m₃
      → OnCode (emit_return_c position) m₃ m₄ → CompilesBase tree at end start count (laid s a l) m₄
  unfolding compile_function_definition_base
  base_meets parameters {first} {position} {s} {s₁} {s₂} {a} {l} {l₁} {m₃} {m₄} P Q many s₂_is M position-is d = record {
    meets = λ kind f h q κ E others w L H.
        let ts = f.parameters in
        let ends : first ≡ at + 1 + length ts = P.ends ts f.body h.parameters h.body (omega arith) in
        let w₀ = with_function new_function_state w in
        let w₁ = compile_parameters ts w₀ in
        let H₁ = Q.meets ts h.parameters (sym ends) κ E others w₀ refl H in
        let w₂ = doing (λ f. method.with_parameters f.header.is_instance (length ts) f) w₁ in
        let H₂ : Represents κ E others (laid s₂ a l₁) w₂ =
        alone H₁ (parameters_onward s₁.is_instance parameters s₁ s₂_is)
        (ap (λ (x : FunctionState). x.constants) s₂_is ∙ parameters_count s₁ s₁.is_instance parameters)
        (subst (λ (x : FunctionState). RepresentsMachine κ E (view (laid x a l₁)) w₂) (sym s₂_is)
        (parameters_law H₁.held s₁.is_instance w₁.function.header.is_instance parameters (length ts)
        (λ z. (H₁.held.rest z).is_instance) (λ z. omega arith))) in
        let S = preserves_parameters ts w₀ in
        let I : Inside start count (others context_locals_area) w₂ = record { is_open = stay_open ts w₀ refl; named = same_locals S.locals L } in
        let H₃ = (M.meets f.body (rw (← ends) at h.body) (omega arith)).meets κ E others w₂ I H₂ in
        let w₃ = compile_statements f.body w₂ in
        returned position (get_last_position w₃.function) d (λ z. last_is position-is H₃ z) H₃;
  }
