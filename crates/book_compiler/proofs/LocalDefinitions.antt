-- One lemma for each way through the routines of a local definition: what its calls ensure is the definition's. Assumes nothing.
use Rattle.std.specs.Prelude.{Some, None}
use Rattle.std.proofs.Common.{◌≡◌, ℕ, ◌+◌, ◌-◌, ◌<◌, ◌≤◌, List, [], ◌∷◌, sym, refl, ap, ◌∙◌, arith, ne_eqb}
use mathlib.Core.Option.{Option, none, some}
use Rattle.words.specs.Ast.{Token, Binding}
use Rattle.words.specs.Object.{constant_of, integer_kind, float_kind}
use Rattle.words.specs.Record.{token_at, kind_at, value_at}
use Rattle.tree.specs.At.{ValueAt, BindingAt, RunAt, run_size, double}
use Rattle.definition.specs.Uses.{Limits}
use Rattle.definition.specs.Book.{Book, add_book_constant, define_context_local, set_local_value, value_of, compile_value, compile_binding_by}
use Rattle.definition.specs.Book.{compile_binding, compile_local_definition, NoConstant}
use Rattle.building.specs.Found.{Found, found_of}
use Rattle.compiler_laws.specs.InsideFunction.{standing_of}
use Rattle.compiler_laws.specs.BookSteps.{AddedLocal}
use Rattle.compiler_laws.proofs.UnchangedByBooks.{unchanged_constant, unchanged_local, unchanged_binding_by}
use Rattle.compiler_laws.proofs.BookLeaves.{defined_added}
use Rattle.book_compiler.specs.RepresentsBook.{BookMemory, RepresentsBook, SimulatesBook}
use Rattle.book_compiler.specs.BookLeaves.{PushesBookError, AddsBookConstant, DefinesContextLocal, SetsLocalValue}
use Rattle.book_compiler.specs.DefinitionSteps.{AddsLocalValue, GivesLocalValue, CompilesBinding, CompilesLocalDefinition}
use Rattle.book_compiler.proofs.BookParts.{represents_longer, represents_unfilled, simulates_then}
use Rattle.book_compiler.proofs.BookLeaves.{error_pushed, constant_added, local_defined, value_set}

-- `add_value`
pub adds_value : {m m₁ m' : BookMemory} {found : Found} (kind value : ℕ) {place : ℕ} → AddsBookConstant kind value place m m₁
    → SetsLocalValue found place m₁ m' → AddsLocalValue found kind value m m'
adds_value kind value P L = record {
  adds = record {
    meets = λ κ ps others x o A H.
        let a = add_book_constant (constant_of kind value) x in
        let H₁ = (constant_added P).meets κ ps others x H in
        value_set o a.place L (record {
          agrees = λ z.
              let (is, below) = A.agrees (represents_unfilled (unchanged_constant (constant_of kind value) x).uses H H₁ z) in
              (is, (constant_added P).placed κ ps others x H z, below);
        }) H₁;
  };
}

-- `give_value`
module _ (tree : List ℕ) (at : ℕ) {kind value : ℕ} (hk : kind ≡ kind_at tree at) (hv : value ≡ value_at tree at) {m m' : BookMemory} {found : Found} where
  gives_standing : (constant : ℕ) → ((o : Option ℕ) (x : Book) → compile_value (value_of (token_at tree at)) (token_at tree at) o x ≡ set_local_value o constant
      x)
      → SetsLocalValue found constant m m' → GivesLocalValue tree at found m m'
  gives_standing constant computes L = record {
    gives = λ v leaf. record {
      meets = λ κ ps others x o A H.
          rw (leaf.token, computes o x) (value_set o constant L (record { agrees = λ z. let (is, below) = A.agrees z in (is, refl, below) }) H);
    };
  }

  pub gives_null : {constant : ℕ} → kind ≡ 32 → constant ≡ standing_of kind value → SetsLocalValue found constant m m' → GivesLocalValue tree at found m m'
  gives_null {constant} q r L = gives_standing constant (λ o x. rw (← hk, r, q) refl) L

  pub gives_boolean : {constant : ℕ} → kind ≡ 36 → constant ≡ standing_of kind value → SetsLocalValue found constant m m' → GivesLocalValue tree at found m m'
  gives_boolean {constant} q r L = gives_standing constant (λ o x. rw (← hk, ← hv, r, q) refl) L

  pub gives_integer : kind ≡ 33 → AddsLocalValue found integer_kind value m m' → GivesLocalValue tree at found m m'
  gives_integer q A = record {
    gives = λ v leaf. record { meets = λ κ ps others x o B H. rw (leaf.token, ← hk, ← hv, q) (A.adds.meets κ ps others x o B H) };
  }

  pub gives_float : kind ≡ 34 → AddsLocalValue found float_kind value m m' → GivesLocalValue tree at found m m'
  gives_float q A = record {
    gives = λ v leaf. record { meets = λ κ ps others x o B H. rw (leaf.token, ← hk, ← hv, q) (A.adds.meets κ ps others x o B H) };
  }

  pub gives_error : (kind ≡ 32 → ⊥) → (kind ≡ 36 → ⊥) → (kind ≡ 33 → ⊥) → (kind ≡ 34 → ⊥) → PushesBookError 5 (token_at tree at) m m'
      → GivesLocalValue tree at found m m'
  gives_error n₁ n₂ n₃ n₄ F = record {
    gives = λ v leaf. record {
      meets = λ κ ps others x o A H.
          let is : value_of (token_at tree at) ≡ NoConstant =
          rw (← hk, ne_eqb kind 32 n₁, ne_eqb kind 36 n₂, ne_eqb kind 33 n₃, ne_eqb kind 34 n₄) refl in
          rw (leaf.token, is) ((error_pushed F).meets κ ps others x H);
    };
  }

-- `compile_binding`
module _ (tree : List ℕ) (at next : ℕ) {name : ℕ} (hn : name ≡ value_at tree at) {m m₁ : BookMemory} {found : Found}
    (D : DefinesContextLocal name found m m₁) where
  -- the name is defined, whatever comes of its value
  after_name : {m' : BookMemory}
      → ((κ : Limits) (ps : List ℕ) (others : ℕ → List ℕ) (y : Book) (v : Option Token) → ValueAt v tree next → RepresentsBook κ ps others m y
      → RepresentsBook κ ps others m₁ (define_context_local name y).book
      → (let d = define_context_local name y in RepresentsBook κ ps others m' (compile_binding_by d.place v d.book)))
      → CompilesBinding tree at next m m'
  unfolding compile_binding
  after_name after = record {
    binds = λ x leaf there. record {
      meets = λ κ ps others y H.
          let is : x.variable.value ≡ name = ap (λ (v : Token). v.value) leaf.token ∙ sym hn in
          rw is (after κ ps others y x.value there H ((local_defined D).meets κ ps others y H));
    };
  }

  pub binds_full : (m₁.book.full ≡ 0 → ⊥) → CompilesBinding tree at next m m₁
  binds_full ne =
      after_name (λ κ ps others y v there H H₁.
      let d = define_context_local name y in represents_longer (unchanged_binding_by d.place v d.book).uses ne H₁)

  pub binds_absent : {kind : ℕ} → kind ≡ kind_at tree next → kind ≡ 49 → CompilesBinding tree at next m m₁
  unfolding ValueAt
  binds_absent hk q =
      after_name (λ κ ps others y v there H H₁.
      let d = define_context_local name y in
      rw (absent d.place v d.book there (sym hk ∙ q)) H₁)
    where
      absent : (o : Option ℕ) (v : Option Token) (y : Book) → ValueAt v tree next → kind_at tree next ≡ 49 → compile_binding_by o v y ≡ y
      absent none v y there q = refl
      absent (some i) none y there q = refl
      absent (some i) (some t) y there q = absurd (there.1 (ap (λ (v : Token). v.kind) there.0.token ∙ q))

  pub binds_again : m₁.book.full ≡ 0 → found ≡ None → CompilesBinding tree at next m m₁
  binds_again z lost =
      after_name (λ κ ps others y v there H H₁.
      let d = define_context_local name y in
      rw (again d.place v d.book (sym lost ∙ (local_defined D).sought κ ps others y H z)) H₁)
    where
      again : (o : Option ℕ) (v : Option Token) (y : Book) → None ≡ found_of o → compile_binding_by o v y ≡ y
      again none v y q = refl
      again (some i) v y q = absurd (let z : ◌≡◌ {A = ℕ} 0 1 = cc in omega arith)

  pub binds_value : m₁.book.full ≡ 0 → {kind : ℕ} → kind ≡ kind_at tree next → (kind ≡ 49 → ⊥) → {i : ℕ} → found ≡ Some i
      → {m' : BookMemory} → GivesLocalValue tree next (Some i) m₁ m' → CompilesBinding tree at next m m'
  unfolding ValueAt
  binds_value z hk n₁ {i} is {m'} G =
      after_name (λ κ ps others y v there H H₁.
      let d = define_context_local name y in
      let many = (H.keeping.rest (represents_unfilled (unchanged_local name y).uses H H₁ z)).counted in
      go κ ps others d.book d.place v there (λ q. n₁ (hk ∙ q)) (sym is ∙ (local_defined D).sought κ ps others y H z) (defined_added name y many) H₁)
    where
      go : (κ : Limits) (ps : List ℕ) (others : ℕ → List ℕ) (y : Book) (o : Option ℕ) (v : Option Token) → ValueAt v tree next
          → (kind_at tree next ≡ 49 → ⊥) → Some i ≡ found_of o → AddedLocal o y.context
          → RepresentsBook κ ps others m₁ y → RepresentsBook κ ps others m' (compile_binding_by o v y)
      go κ ps others y none v there n₁ q below H₁ = absurd (let z : ◌≡◌ {A = ℕ} 0 1 = cc in omega arith)
      go κ ps others y (some j) none there n₁ q below H₁ = absurd (n₁ there.kind_is)
      go κ ps others y (some j) (some v) there n₁ q below H₁ =
          (G.gives v there.0).meets κ ps others y (some j) (record { agrees = λ _. (q, below) }) H₁

-- `compile_local_definition`: no pair is left
pub bindings_end : (tree : List ℕ) (i end : ℕ) {m : BookMemory} → end - i ≤ 1 → CompilesLocalDefinition tree i end m m
unfolding compile_local_definition run_size
bindings_end tree i end {m} h = record {
  defines = λ xs at same. record { meets = λ κ ps others y H. rw (none_left xs (omega (arith, same, h))) H };
}
  where
    none_left : (xs : List Binding) → run_size double xs ≤ 1 → compile_local_definition xs ≡ (λ y. y)
    none_left [] q = refl
    none_left (x ∷ xs) q = absurd (omega arith)

-- a pair, and those after it
pub bindings_more : (tree : List ℕ) (i end : ℕ) {m m₁ m' : BookMemory} → 1 < end - i → CompilesBinding tree i (i + 1) m m₁
    → CompilesLocalDefinition tree (i + 1 + 1) end m₁ m' → CompilesLocalDefinition tree i end m m'
unfolding RunAt run_size compile_local_definition
bindings_more tree i end {m} {m₁} {m'} h B R = record { defines = go }
  where
    go : (xs : List Binding) → RunAt BindingAt double xs tree i → i + run_size double xs ≡ end → SimulatesBook m m' (compile_local_definition xs)
    go [] there same = absurd (omega arith)
    go (x ∷ xs) there same =
        let next : i + 2 ≡ i + 1 + 1 = omega arith in
        simulates_then (B.binds x there.0.0 there.0.1) (R.defines xs (rw (← next) there.1) (omega (arith, same)))
