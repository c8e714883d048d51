-- One lemma for each way through a routine that compiles no part: what its calls ensure is the definition's step. Assumes nothing.
use Rattle.std.specs.Prelude.{Some, None}
use Rattle.std.proofs.Common.{◌≡◌, ℕ, ◌-◌, ◌%◌, ◌^◌, ◌<◌, cond, eqb, List, [], ◌∷◌, ◌++◌, sym, refl, ap, ◌∙◌, arith, eq-eqb, ne_eqb}
use mathlib.Core.Option.{Option, none, some}
use Rattle.words.specs.Ast.{Token, Expression, Identifier, This, Null, Integer, Float, Text, Boolean, Array, Prefix, Infix, If, IfElse, Call}
use Rattle.words.specs.Ast.{InstanceGet, IndexGet}
use Rattle.words.specs.Object.{constant_of, text_kind, NULL, TRUE, FALSE}
use Rattle.words.specs.Opcode.{to_instruction, word, PushConstant, LocalGet, ContextGet, GlobalGet, Not, Negative}
use Rattle.words.specs.Opcode.{ArrayOp, CallOp, InstanceGetOp, IndexGetOp}
use Rattle.words.specs.Record.{token_at, kind_at, position_at, value_at}
use Rattle.words.specs.Areas.{context_locals_area}
use Rattle.definition.specs.FunctionState.{find_local, find_name, get_next_instruction_index}
use Rattle.definition.specs.Uses.{Limits}
use Rattle.definition.specs.Compiler.{Work, emit, push_error, add_constant, emit_constant, emit_global, emit_name, emit_name_by}
use Rattle.definition.specs.Compiler.{emit_name_in_context, compile_expression, compile_prefix_expression, skip, compile_identifier_expression}
use Rattle.definition.specs.Compiler.{compile_this_expression}
use Rattle.definition.specs.Compiler.{compile_null_expression, compile_integer_expression, compile_float_expression, compile_string_expression}
use Rattle.definition.specs.Compiler.{compile_boolean_expression}
use Rattle.definition.specs.Program.{Entries}
use Rattle.definition_laws.proofs.StepPreserves.{preserves_name}
use Rattle.tree.specs.At.{ExpressionAt}
use Rattle.tree.proofs.View.{ViewE, see_e}
use Rattle.tree.proofs.View.ViewE.{v_Identifier, v_This, v_Integer, v_Float, v_Text}
use Rattle.building.specs.Emission.{emit_c}
use Rattle.building.specs.Found.{Found, found_of, wrapped}
use Rattle.building.proofs.PoolLaws.{add_constant_inside}
use Rattle.building.proofs.ContextLaws.{find_context_law}
use Rattle.building.proofs.StateLaws.{put_reads}
use Rattle.compiler_laws.specs.InsideFunction.{Inside, standing_of}
use Rattle.compiler_laws.proofs.ConstantLeaves.{low_bits}
use Rattle.book_compiler.specs.Represents.{Memory, Represents, Simulates, SimulatesInside}
use Rattle.book_compiler.specs.Leaves.{OnCode, AddsConstant, MarksGlobal, PushesError, FindsLocal, FindsContextLocal}
use Rattle.book_compiler.specs.Members.{token, CompilesLeaf, Finishes}
use Rattle.book_compiler.proofs.Steps.{acts_does, full_does}
use Rattle.book_compiler.proofs.Laws.{emitted, added, added_index, marked, pushed, local_is}

-- `push_error`
pub faults : {number position kind value : ℕ} {m m' : Memory} → PushesError number position kind value m m'
    → Simulates m m' (push_error number (token position kind value))
faults {number} {position} {kind} {value} d = record { meets = λ κ E others w H. pushed number (token position kind value) d H }

-- `constant`
pub constant_acts : {m m₁ m' : Memory} {kind value index x : ℕ} (o position : ℕ) → AddsConstant kind value index m m₁
    → x ≡ word (to_instruction o index) → OnCode (emit_c x position) m₁ m' → Simulates m m' (emit_constant o (constant_of kind value) position)
unfolding emit_constant
constant_acts {kind = kind} {value = value} o position a as-word d = record {
  meets = λ κ E others w H. emitted (to_instruction o (add_constant (constant_of kind value) w).index) position d
      (λ z. as-word ∙ ap (λ (i : ℕ). word (to_instruction o i)) (added_index a H z)) (λ z. refl) (added a H);
}

-- `global`
pub global_acts : {m m₁ m₂ m' : Memory} {name index x : ℕ} (o position : ℕ) → AddsConstant text_kind name index m m₁ → MarksGlobal index m₁ m₂
    → x ≡ word (to_instruction o index) → OnCode (emit_c x position) m₂ m' → Simulates m m' (emit_global o name position)
unfolding emit_global
global_acts {m₁ = m₁} {m₂ = m₂} {name = name} o position a g as-word d = record {
  meets = λ κ E others w H.
      let i = (add_constant (constant_of text_kind name) w).index in
      emitted (to_instruction o i) position d
      (λ z. as-word ∙ ap (λ (j : ℕ). word (to_instruction o j)) (added_index a H (sym (ap (λ s. s.full) g.state) ∙ z))) (λ z. refl)
      (marked i g (λ z. (added_index a H z, add_constant_inside (constant_of text_kind name) w)) (added a H));
}

-- `name`
module _ {start count : ℕ} {m : Memory} (l x g text p : ℕ) where
  pub name_full : (m.state.full ≡ 0 → ⊥) → SimulatesInside start count m m (emit_name l x g text p)
  name_full ne = full_does (preserves_name l x g text p) ne

  pub name_local : m.state.full ≡ 0 → {f : Found} → FindsLocal text f m → {i v : ℕ} → f ≡ Some i → v ≡ word (to_instruction l i)
      → {m' : Memory} → OnCode (emit_c v p) m m' → SimulatesInside start count m m' (emit_name l x g text p)
  unfolding emit_name
  name_local z searched {i} {v} at as-word {m'} d = record {
    meets = λ κ E others w I H. go κ E others w H (find_local text w.function) (sym (local_is searched H z) ∙ at);
  }
    where
      go : (κ : Limits) (E : Entries) (others : ℕ → List ℕ) (w : Work) → Represents κ E others m w → (o : Option ℕ) → found_of (wrapped o) ≡ Some i
          → Represents κ E others m' (emit_name_by o l x g text p w)
      go κ E others w H none q = absurd (let y : ◌≡◌ {A = ℕ} 0 1 = cc in omega arith)
      go κ E others w H (some j) q =
          let same : i ≡ j % 2 ^ 64 = cc in
          emitted (to_instruction l j) p d (λ y. as-word ∙ ap (λ (n : ℕ). word (to_instruction l n)) same ∙ low_bits l j) (λ y. refl) H

  -- no local: by the context's names
  elsewhere : m.state.full ≡ 0 → {f : Found} → FindsLocal text f m → f ≡ None → {h : Found} → FindsContextLocal start count text h m → {m' : Memory}
      → ((κ : Limits) (E : Entries) (others : ℕ → List ℕ) (w : Work) → Represents κ E others m w → (o : Option ℕ) → h ≡ found_of o
      → Represents κ E others m' (emit_name_in_context o x g text p w)) → SimulatesInside start count m m' (emit_name l x g text p)
  unfolding emit_name
  elsewhere z searched lost {h} there {m'} after = record {
    meets = λ κ E others w I H. go κ E others w I H (find_local text w.function) (sym (local_is searched H z) ∙ lost);
  }
    where
      go : (κ : Limits) (E : Entries) (others : ℕ → List ℕ) (w : Work) → Inside start count (others context_locals_area) w → Represents κ E others m w
          → (o : Option ℕ) → found_of (wrapped o) ≡ None → Represents κ E others m' (emit_name_by o l x g text p w)
      go κ E others w I H none q =
          let found = there.reads.on H.fits in
          let same = H.preserves.same context_locals_area (omega arith) refl in
          after κ E others w H (find_name text w.compiler.locals) ((rw same at found) ∙ ap found_of (find_context_law text I.named))
      go κ E others w I H (some j) q = absurd (let y : ◌≡◌ {A = ℕ} 0 1 = cc in omega arith)

  pub name_context : m.state.full ≡ 0 → {f : Found} → FindsLocal text f m → f ≡ None → {h : Found} → FindsContextLocal start count text h m
      → {i v : ℕ} → h ≡ Some i → v ≡ word (to_instruction x i) → {m' : Memory} → OnCode (emit_c v p) m m' → SimulatesInside start count m m'
      (emit_name l x g text p)
  name_context z searched lost {h} there {i} {v} at as-word {m'} d = elsewhere z searched lost there go
    where
      go : (κ : Limits) (E : Entries) (others : ℕ → List ℕ) (w : Work) → Represents κ E others m w → (o : Option ℕ) → h ≡ found_of o
          → Represents κ E others m' (emit_name_in_context o x g text p w)
      go κ E others w H none q = absurd (let y : ◌≡◌ {A = ℕ} 0 1 = cc in omega arith)
      go κ E others w H (some j) q =
          let same : i ≡ j = cc in emitted (to_instruction x j) p d (λ y. as-word ∙ ap (λ (n : ℕ). word (to_instruction x n)) same) (λ y. refl) H

  pub name_global : m.state.full ≡ 0 → {f : Found} → FindsLocal text f m → f ≡ None → {h : Found} → FindsContextLocal start count text h m
      → h ≡ None → {m' : Memory} → Simulates m m' (emit_global g text p) → SimulatesInside start count m m' (emit_name l x g text p)
  name_global z searched lost {h} there none_there {m'} G = elsewhere z searched lost there go
    where
      go : (κ : Limits) (E : Entries) (others : ℕ → List ℕ) (w : Work) → Represents κ E others m w → (o : Option ℕ) → h ≡ found_of o
          → Represents κ E others m' (emit_name_in_context o x g text p w)
      go κ E others w H none q = G.meets κ E others w H
      go κ E others w H (some j) q = absurd (let y : ◌≡◌ {A = ℕ} 0 1 = cc in omega arith)

token_as : (tree : List ℕ) (at : ℕ) {kind position value : ℕ} → kind ≡ kind_at tree at → position ≡ position_at tree at → value ≡ value_at tree at
    → (P : Token → Type 0) {t : Token} → t ≡ token_at tree at → P (token position kind value) → P t
token_as tree at k p v P q x = rw (q, ← k, ← p, ← v) x

one : {start count position x : ℕ} {m m' : Memory} → OnCode (emit_c x position) m m' → (i p : ℕ) → x ≡ word (to_instruction PushConstant i) → position ≡ p
    → SimulatesInside start count m m' (emit (to_instruction PushConstant i) p)
one d i p as-word same = record { meets = λ κ E others w I H. emitted (to_instruction PushConstant i) p d (λ z. as-word) (λ z. same) H }

-- `leaf`
module _ {start count : ℕ} {m m' : Memory} {kind position value : ℕ} where
  pub leaf_name : kind ≡ 30 → SimulatesInside start count m m' (emit_name LocalGet ContextGet GlobalGet value position)
      → CompilesLeaf kind position value start count m m'
  unfolding ExpressionAt compile_expression compile_identifier_expression
  leaf_name q N = record { leaf = λ tree at k p v low e h. go tree at k p v e (see_e e tree at h k q) h }
    where
      go : (tree : List ℕ) (at : ℕ) → kind ≡ kind_at tree at → position ≡ position_at tree at → value ≡ value_at tree at → (e : Expression) → ViewE 30 e
          → ExpressionAt e tree at → SimulatesInside start count m m' (compile_expression e)
      go tree at k p v (Identifier t) v_Identifier h =
          token_as tree at k p v (λ (u : Token). SimulatesInside start count m m' (emit_name LocalGet ContextGet GlobalGet u.value u.position))
          h.token N
      go tree at k p v (This _) seen h = elim seen [ ]
      go tree at k p v (Null _) seen h = elim seen [ ]
      go tree at k p v (Integer _) seen h = elim seen [ ]
      go tree at k p v (Float _) seen h = elim seen [ ]
      go tree at k p v (Text _) seen h = elim seen [ ]
      go tree at k p v (Boolean _) seen h = elim seen [ ]
      go tree at k p v (Array _ _) seen h = elim seen [ ]
      go tree at k p v (Prefix _ _) seen h = elim seen [ ]
      go tree at k p v (Infix _ _ _) seen h = elim seen [ ]
      go tree at k p v (If _ _) seen h = elim seen [ ]
      go tree at k p v (IfElse _ _ _) seen h = elim seen [ ]
      go tree at k p v (Call _ _ _) seen h = elim seen [ ]
      go tree at k p v (InstanceGet _ _ _) seen h = elim seen [ ]
      go tree at k p v (IndexGet _ _ _) seen h = elim seen [ ]

  pub leaf_integer : kind ≡ 33 → Simulates m m' (emit_constant PushConstant (constant_of 2 value) position) → CompilesLeaf kind position value start count m m'
  unfolding ExpressionAt compile_expression compile_integer_expression
  leaf_integer q P = record { leaf = λ tree at k p v low e h. go tree at k p v e (see_e e tree at h k q) h }
    where
      go : (tree : List ℕ) (at : ℕ) → kind ≡ kind_at tree at → position ≡ position_at tree at → value ≡ value_at tree at → (e : Expression) → ViewE 33 e
          → ExpressionAt e tree at → SimulatesInside start count m m' (compile_expression e)
      go tree at k p v (Integer t) v_Integer h =
          token_as tree at k p v (λ (u : Token). SimulatesInside start count m m' (emit_constant PushConstant (constant_of 2 u.value) u.position))
          h.token
          (acts_does P)
      go tree at k p v (Identifier _) seen h = elim seen [ ]
      go tree at k p v (This _) seen h = elim seen [ ]
      go tree at k p v (Null _) seen h = elim seen [ ]
      go tree at k p v (Float _) seen h = elim seen [ ]
      go tree at k p v (Text _) seen h = elim seen [ ]
      go tree at k p v (Boolean _) seen h = elim seen [ ]
      go tree at k p v (Array _ _) seen h = elim seen [ ]
      go tree at k p v (Prefix _ _) seen h = elim seen [ ]
      go tree at k p v (Infix _ _ _) seen h = elim seen [ ]
      go tree at k p v (If _ _) seen h = elim seen [ ]
      go tree at k p v (IfElse _ _ _) seen h = elim seen [ ]
      go tree at k p v (Call _ _ _) seen h = elim seen [ ]
      go tree at k p v (InstanceGet _ _ _) seen h = elim seen [ ]
      go tree at k p v (IndexGet _ _ _) seen h = elim seen [ ]

  pub leaf_float : kind ≡ 34 → Simulates m m' (emit_constant PushConstant (constant_of 3 value) position) → CompilesLeaf kind position value start count m m'
  unfolding ExpressionAt compile_expression compile_float_expression
  leaf_float q P = record { leaf = λ tree at k p v low e h. go tree at k p v e (see_e e tree at h k q) h }
    where
      go : (tree : List ℕ) (at : ℕ) → kind ≡ kind_at tree at → position ≡ position_at tree at → value ≡ value_at tree at → (e : Expression) → ViewE 34 e
          → ExpressionAt e tree at → SimulatesInside start count m m' (compile_expression e)
      go tree at k p v (Float t) v_Float h =
          token_as tree at k p v (λ (u : Token). SimulatesInside start count m m' (emit_constant PushConstant (constant_of 3 u.value) u.position))
          h.token
          (acts_does P)
      go tree at k p v (Identifier _) seen h = elim seen [ ]
      go tree at k p v (This _) seen h = elim seen [ ]
      go tree at k p v (Null _) seen h = elim seen [ ]
      go tree at k p v (Integer _) seen h = elim seen [ ]
      go tree at k p v (Text _) seen h = elim seen [ ]
      go tree at k p v (Boolean _) seen h = elim seen [ ]
      go tree at k p v (Array _ _) seen h = elim seen [ ]
      go tree at k p v (Prefix _ _) seen h = elim seen [ ]
      go tree at k p v (Infix _ _ _) seen h = elim seen [ ]
      go tree at k p v (If _ _) seen h = elim seen [ ]
      go tree at k p v (IfElse _ _ _) seen h = elim seen [ ]
      go tree at k p v (Call _ _ _) seen h = elim seen [ ]
      go tree at k p v (InstanceGet _ _ _) seen h = elim seen [ ]
      go tree at k p v (IndexGet _ _ _) seen h = elim seen [ ]

  pub leaf_text : kind ≡ 35 → Simulates m m' (emit_constant PushConstant (constant_of 4 value) position) → CompilesLeaf kind position value start count m m'
  unfolding ExpressionAt compile_expression compile_string_expression
  leaf_text q P = record { leaf = λ tree at k p v low e h. go tree at k p v e (see_e e tree at h k q) h }
    where
      go : (tree : List ℕ) (at : ℕ) → kind ≡ kind_at tree at → position ≡ position_at tree at → value ≡ value_at tree at → (e : Expression) → ViewE 35 e
          → ExpressionAt e tree at → SimulatesInside start count m m' (compile_expression e)
      go tree at k p v (Text t) v_Text h =
          token_as tree at k p v (λ (u : Token). SimulatesInside start count m m' (emit_constant PushConstant (constant_of 4 u.value) u.position))
          h.token
          (acts_does P)
      go tree at k p v (Identifier _) seen h = elim seen [ ]
      go tree at k p v (This _) seen h = elim seen [ ]
      go tree at k p v (Null _) seen h = elim seen [ ]
      go tree at k p v (Integer _) seen h = elim seen [ ]
      go tree at k p v (Float _) seen h = elim seen [ ]
      go tree at k p v (Boolean _) seen h = elim seen [ ]
      go tree at k p v (Array _ _) seen h = elim seen [ ]
      go tree at k p v (Prefix _ _) seen h = elim seen [ ]
      go tree at k p v (Infix _ _ _) seen h = elim seen [ ]
      go tree at k p v (If _ _) seen h = elim seen [ ]
      go tree at k p v (IfElse _ _ _) seen h = elim seen [ ]
      go tree at k p v (Call _ _ _) seen h = elim seen [ ]
      go tree at k p v (InstanceGet _ _ _) seen h = elim seen [ ]
      go tree at k p v (IndexGet _ _ _) seen h = elim seen [ ]

  -- one instruction
  module _ {x : ℕ} (d : OnCode (emit_c x position) m m') where
    pub leaf_this : kind ≡ 31 → x ≡ word (to_instruction LocalGet 0) → CompilesLeaf kind position value start count m m'
    unfolding ExpressionAt compile_expression compile_this_expression
    leaf_this q as-word = record { leaf = λ tree at k p v low e h. go tree at p e (see_e e tree at h k q) h }
      where
        go : (tree : List ℕ) (at : ℕ) → position ≡ position_at tree at → (e : Expression) → ViewE 31 e → ExpressionAt e tree at
            → SimulatesInside start count m m' (compile_expression e)
        go tree at p (This t) v_This h = record {
          meets = λ κ E others w I H.
              let G = emitted (to_instruction LocalGet 0) t.position d (λ z. as-word) (λ z. p ∙ sym (ap (λ (u : Token). u.position) h.token)) H in
              record {
                fits = G.fits;
                preserves = G.preserves;
                held = put_reads G.held (w.function.log.this_reads ++ (get_next_instruction_index w.function ∷ []));
                slots = G.slots;
              };
        }
        go tree at p (Identifier _) seen h = elim seen [ ]
        go tree at p (Null _) seen h = elim seen [ ]
        go tree at p (Integer _) seen h = elim seen [ ]
        go tree at p (Float _) seen h = elim seen [ ]
        go tree at p (Text _) seen h = elim seen [ ]
        go tree at p (Boolean _) seen h = elim seen [ ]
        go tree at p (Array _ _) seen h = elim seen [ ]
        go tree at p (Prefix _ _) seen h = elim seen [ ]
        go tree at p (Infix _ _ _) seen h = elim seen [ ]
        go tree at p (If _ _) seen h = elim seen [ ]
        go tree at p (IfElse _ _ _) seen h = elim seen [ ]
        go tree at p (Call _ _ _) seen h = elim seen [ ]
        go tree at p (InstanceGet _ _ _) seen h = elim seen [ ]
        go tree at p (IndexGet _ _ _) seen h = elim seen [ ]

    module _ {v : ℕ} (v-is : v ≡ standing_of kind value) (as-word : x ≡ word (to_instruction PushConstant v))
        (n30 : kind ≡ 30 → ⊥) (n31 : kind ≡ 31 → ⊥) (n33 : kind ≡ 33 → ⊥) (n34 : kind ≡ 34 → ⊥) (n35 : kind ≡ 35 → ⊥) where
      -- null and the booleans are what is left
      pub leaf_standing : CompilesLeaf kind position value start count m m'
      unfolding ExpressionAt compile_expression compile_null_expression compile_boolean_expression
      leaf_standing = record { leaf = go }
        where
          go : (tree : List ℕ) (at : ℕ) → kind ≡ kind_at tree at → position ≡ position_at tree at → value ≡ value_at tree at → kind < 37
              → (e : Expression) → ExpressionAt e tree at → SimulatesInside start count m m' (compile_expression e)
          go tree at kind_is p value-is l (Identifier t) h = absurd (n30 (kind_is ∙ h.head.kind_is))
          go tree at kind_is p value-is l (This t) h = absurd (n31 (kind_is ∙ h.head.kind_is))
          go tree at kind_is p value-is l (Integer t) h = absurd (n33 (kind_is ∙ h.head.kind_is))
          go tree at kind_is p value-is l (Float t) h = absurd (n34 (kind_is ∙ h.head.kind_is))
          go tree at kind_is p value-is l (Text t) h = absurd (n35 (kind_is ∙ h.head.kind_is))
          go tree at kind_is p value-is l (Null t) h =
              let k32 : kind ≡ 32 = kind_is ∙ h.head.kind_is in
              let null : v ≡ NULL = v-is ∙ ap (λ (n : ℕ). standing_of n value) k32 in
              one d NULL t.position (as-word ∙ ap (λ (n : ℕ). word (to_instruction PushConstant n)) null)
              (p ∙ sym (ap (λ (u : Token). u.position) h.token))
          go tree at kind_is p value-is l (Boolean t) h =
              let k36 : kind ≡ 36 = kind_is ∙ h.head.kind_is in
              let same : value ≡ t.value = value-is ∙ sym (ap (λ (u : Token). u.value) h.token) in
              let bool : v ≡ cond (eqb t.value 1) TRUE FALSE =
              v-is ∙ ap (λ (n : ℕ). standing_of n value) k36 ∙ ap (λ (n : ℕ). cond (eqb n 1) TRUE FALSE) same in
              one d (cond (eqb t.value 1) TRUE FALSE) t.position (as-word ∙ ap (λ (n : ℕ). word (to_instruction PushConstant n)) bool)
              (p ∙ sym (ap (λ (u : Token). u.position) h.token))
          go tree at kind_is p value-is l (Array t es) h = absurd (omega (arith, l, h.0.head.kind_is))
          go tree at kind_is p value-is l (Prefix t e) h = absurd (omega (arith, l, h.0.head.kind_is))
          go tree at kind_is p value-is l (Infix a t b) h = absurd (omega (arith, l, h.0.head.kind_is))
          go tree at kind_is p value-is l (If c t) h = absurd (omega (arith, l, h.0.kind_is))
          go tree at kind_is p value-is l (IfElse c t f) h = absurd (omega (arith, l, h.0.kind_is))
          go tree at kind_is p value-is l (Call t f ps) h = absurd (omega (arith, l, h.0.head.kind_is))
          go tree at kind_is p value-is l (InstanceGet t a b) h = absurd (omega (arith, l, h.0.head.kind_is))
          go tree at kind_is p value-is l (IndexGet t a b) h = absurd (omega (arith, l, h.0.head.kind_is))

-- `finish_expression`: by the kind
opcode_acts : {x position : ℕ} {m m' : Memory} (o n : ℕ) → x ≡ word (to_instruction o n) → OnCode (emit_c x position) m m'
    → Simulates m m' (emit (to_instruction o n) position)
opcode_acts o n as-word d = record { meets = λ κ E others w H. emitted (to_instruction o n) _ d (λ z. as-word) (λ z. refl) H }

module _ {kind position value n : ℕ} {m m' : Memory} where
  pub finish_array : {x : ℕ} → kind ≡ 37 → x ≡ word (to_instruction ArrayOp n) → OnCode (emit_c x position) m m' → Finishes kind position value n m m'
  finish_array q as-word d = record {
    array = λ r. opcode_acts ArrayOp n as-word d;
    prefix = λ r. absurd (omega arith);
    call = λ r. absurd (omega arith);
    instance = λ r. absurd (omega arith);
    index = λ r. absurd (omega arith);
  }

  pub finish_call : {x : ℕ} → kind ≡ 44 → x ≡ word (to_instruction CallOp (n - 1)) → OnCode (emit_c x position) m m' → Finishes kind position value n m m'
  finish_call q as-word d = record {
    array = λ r. absurd (omega arith);
    prefix = λ r. absurd (omega arith);
    call = λ r. opcode_acts CallOp (n - 1) as-word d;
    instance = λ r. absurd (omega arith);
    index = λ r. absurd (omega arith);
  }

  pub finish_instance : kind ≡ 45 → OnCode (emit_c (word (to_instruction InstanceGetOp 0)) position) m m' → Finishes kind position value n m m'
  finish_instance q d = record {
    array = λ r. absurd (omega arith);
    prefix = λ r. absurd (omega arith);
    call = λ r. absurd (omega arith);
    instance = λ r. opcode_acts InstanceGetOp 0 refl d;
    index = λ r. absurd (omega arith);
  }

  pub finish_index : kind ≡ 46 → OnCode (emit_c (word (to_instruction IndexGetOp 0)) position) m m' → Finishes kind position value n m m'
  finish_index q d = record {
    array = λ r. absurd (omega arith);
    prefix = λ r. absurd (omega arith);
    call = λ r. absurd (omega arith);
    instance = λ r. absurd (omega arith);
    index = λ r. opcode_acts IndexGetOp 0 refl d;
  }

  only_prefix : kind ≡ 38 → Simulates m m' (compile_prefix_expression (token position kind value) skip) → Finishes kind position value n m m'
  only_prefix q A = record {
    array = λ r. absurd (omega arith);
    prefix = λ r. A;
    call = λ r. absurd (omega arith);
    instance = λ r. absurd (omega arith);
    index = λ r. absurd (omega arith);
  }

  pub finish_minus : kind ≡ 38 → value ≡ 0 → OnCode (emit_c (word (to_instruction Negative 0)) position) m m' → Finishes kind position value n m m'
  unfolding compile_prefix_expression skip
  finish_minus k q d = only_prefix k (record {
    meets = λ κ E others w H. rw (eq-eqb value 0 q) (emitted (to_instruction Negative 0) position d (λ z. refl) (λ z. refl) H);
  })

  pub finish_not : kind ≡ 38 → value ≡ 1 → OnCode (emit_c (word (to_instruction Not 0)) position) m m' → Finishes kind position value n m m'
  unfolding compile_prefix_expression skip
  finish_not k q d = only_prefix k (record { meets = λ κ E others w H. rw q (emitted (to_instruction Not 0) position d (λ z. refl) (λ z. refl) H) })

  pub finish_other : kind ≡ 38 → (value ≡ 0 → ⊥) → (value ≡ 1 → ⊥) → PushesError 3 position kind value m m' → Finishes kind position value n m m'
  unfolding compile_prefix_expression skip
  finish_other k n0 n1 d = only_prefix k (record {
    meets = λ κ E others w H. rw (ne_eqb value 0 n0, ne_eqb value 1 n1) (pushed 3 (token position kind value) d H);
  })

  -- no expression of another kind has such a list
  pub finish_none : (kind ≡ 37 → ⊥) → (kind ≡ 38 → ⊥) → (kind ≡ 44 → ⊥) → (kind ≡ 45 → ⊥) → (kind ≡ 46 → ⊥) → Finishes kind position value n m m'
  finish_none a b c d e = record {
    array = λ r. absurd (a r);
    prefix = λ r. absurd (b r);
    call = λ r. absurd (c r);
    instance = λ r. absurd (d r);
    index = λ r. absurd (e r);
  }
