-- One lemma for each way through the routines of a model definition: what its calls ensure is the definition's. Assumes nothing.
use Rattle.std.specs.Prelude.{Some, None}
use Rattle.building.specs.Found.{Found}
use Rattle.std.proofs.Common.{◌≡◌, ℕ, suc, ◌+◌, ◌*◌, ◌<◌, ◌≤◌, Bool, true, false, cond, List, [], ◌∷◌, ◌++◌, length, sym, refl, ap, ◌∙◌, subst, append_assoc}
use Rattle.std.proofs.Common.{append-nil, arith, length-append}
use Rattle.words.specs.Ast.{Token}
use Rattle.words.specs.Areas.{code_area, constants_area, functions_area, models_area, properties_area, methods_area, context_locals_area, public_names_area}
use Rattle.words.specs.Areas.{scope_names_area, breaks_area, errors_area}
use Rattle.words.specs.Object.{constant_of, model_kind}
use Rattle.words.specs.Record.{token_at, value_at}
use Rattle.tree.specs.At.{RunAt, run_size, NameAt, single}
use Rattle.definition.specs.Uses.{Limits}
use Rattle.definition.specs.Book.{Context, Book, Placed, Model, Properties, has_text, noted, push_book_error, model_count, with_models, property_count}
use Rattle.definition.specs.Book.{add_property, compile_properties, add_model, add_book_constant, define_context_local, compile_model_definition}
use Rattle.definition.specs.Program.{Entries, entries_from, model_entry, model_properties, property_entries, model_table, property_table}
use Rattle.definition_laws.proofs.Cells.{all_any, entries_length}
use Rattle.building.specs.declared.taking.Taken.{Taken}
use Rattle.building.specs.Taking.{Took}
use Rattle.building.proofs.ContextLaws.{took_law}
use Rattle.building.proofs.PoolLaws.{entries_more}
use Rattle.compiler_laws.specs.declared.book.Book as struct
use Rattle.compiler_laws.specs.BookAreas.{book_areas, RepresentsAreas}
use Rattle.compiler_laws.specs.BookSteps.{Valuable}
use Rattle.compiler_laws.specs.ModelSteps as area
use Rattle.compiler_laws.specs.ModelSteps.{place_model}
use Rattle.compiler_laws.proofs.BookCounts.{with_model_count}
use Rattle.compiler_laws.proofs.UnchangedByBooks.{unchanged_local}
use Rattle.compiler_laws.proofs.UnchangedByModels.{unchanged_property, unchanged_place_model}
use Rattle.compiler_laws.proofs.BookLeaves.{defined_added}
use Rattle.compiler_laws.proofs.AreaEntries.{keeping_grown, contents_models, fitted_models}
use Rattle.compiler_laws.proofs.AddedProperties.{models_count, property_there, property_new}
use Rattle.book_compiler.specs.RepresentsBook.{BookMemory, area_of, said_by, RepresentsBook}
use Rattle.book_compiler.specs.BookLeaves.{PushesBookError, AddsBookConstant, DefinesContextLocal, SetsLocalValue, FindsProperty}
use Rattle.book_compiler.specs.DefinitionSteps.{TakesProperty, TakesModel, AddsModelProperty, AddsModelProperties, AddsModel, CompilesModelDefinition}
use Rattle.undo.specs.Stood.{Spares}
use Rattle.book_compiler.proofs.Stood.{stood_nothing, stood_spared, took_spares}
use Rattle.book_compiler.proofs.StoodBooks.{models_behind, properties_behind, property_grows, model_grows}
use Rattle.book_compiler.proofs.BookParts.{area_law, area_map, represents_longer, represents_unfilled}
use Rattle.book_compiler.proofs.BookLeaves.{constant_added, local_defined, value_set}

-- `add_property`: the laws of `compiler_laws`, on the errors or the properties
module _ {tree : List ℕ} {at first : ℕ} {m : BookMemory} where
  pub property_marked : (m.book.full ≡ 0 → ⊥) → AddsModelProperty tree at first m m
  property_marked ne = record { meets = λ κ ps others w start H. represents_longer (unchanged_property (token_at tree at) ps w).uses ne H }

  module _ (z : m.book.full ≡ 0) {g : Found} {name : ℕ} (value : name ≡ value_at tree at) (searched : FindsProperty first name g m) {m' : BookMemory} where
    pub property_again : {i : ℕ} → g ≡ Some i → PushesBookError 6 (token_at tree at) m m' → AddsModelProperty tree at first m m'
    property_again at_i E = record {
      meets = λ κ ps others w start H.
          area_law (omega arith) refl E.counts
          (area_map {R' = λ e e'. area.AddsProperty tree at first m.book (area_of m properties_area) e m'.book (area_of m properties_area) e'}
          (λ f x r. property_there z value (searched.reads.on f) at_i r) E.acts) H
          (λ x r. stood_nothing x H.preserves.nothing.errors) (property_grows (token_at tree at) ps w)
          (λ x r. r.meets (area_of m code_area) (said_by m constants_area) (area_of m functions_area) (area_of m models_area) (said_by m methods_area)
          (area_of m context_locals_area) (area_of m public_names_area) (area_of m scope_names_area) (area_of m breaks_area) κ ps w start H.keeping);
    }

    pub property_more : g ≡ None → TakesProperty name m m' → AddsModelProperty tree at first m m'
    property_more lost T = record {
      meets = λ κ ps others w start H.
          area_law (omega arith) refl T.counts
          (area_map {R' = λ p p'. area.AddsProperty tree at first m.book p (area_of m errors_area) m'.book p' (area_of m errors_area)
          × Spares properties_area m.book.full (m.book.properties * 2) p p'}
          (λ f x r. (rw r.counts (property_new z value (searched.reads.on f) lost r.took), took_spares r.took)) T.acts) H
          (λ x r. stood_spared (H.preserves.stood properties_area (omega arith) refl) (properties_behind H) r.1) (property_grows (token_at tree at) ps w)
          (λ x r. r.0.meets (area_of m code_area) (said_by m constants_area) (area_of m functions_area) (area_of m models_area) (said_by m methods_area)
          (area_of m context_locals_area) (area_of m public_names_area) (area_of m scope_names_area) (area_of m breaks_area) κ ps w start H.keeping);
    }

-- the loop over a model's properties
pub record AddsPropertiesFrom (tree : List ℕ) (at end first : ℕ) (m m' : BookMemory) : Type 0 where
  pub meets : (κ : Limits) (ps : List ℕ) (others : ℕ → List ℕ) (w : Book) (ts : List Token) → RunAt NameAt single ts tree at
      → at + run_size single ts ≡ end → (m.book.full ≡ 0 → first ≡ property_count w.context) → RepresentsBook κ ps others m w
      → RepresentsBook κ (compile_properties ts ps w).texts others m' (compile_properties ts ps w).book

property_length : (i : ℕ) (ns : List ℕ) → length (property_entries i ns) ≡ length ns
property_length i [] = refl
property_length i (n ∷ ns) = ap suc (property_length i ns)

table_length : (c : Context) → length (property_table c) ≡ property_count c
table_length c =
    let first = length c.prior.models in
    length-append c.prior.properties (entries_from model_properties first c.program.models)
    ∙ ap (λ (n : ℕ). length c.prior.properties + n)
    (entries_length model_properties (λ m. length m.properties) first (λ j m u. property_length j m.properties) (all_any c.program.models))

same_context : (t : Token) (ps : List ℕ) (w : Book) → (add_property t ps w).book.context ≡ w.context
same_context t ps w = go (has_text t.value ps)
  where
    go : (x : Bool) → (cond {A = Properties} x (record { texts = ps; book = push_book_error 6 t w })
        (record { texts = ps ++ (t.value ∷ []); book = noted properties_area (property_count w.context + length ps + 1) w })).book.context
        ≡ w.context
    go true = refl
    go false = refl

module _ (tree : List ℕ) (end first : ℕ) where
  pub properties_end : (i : ℕ) {m : BookMemory} → end ≤ i → AddsPropertiesFrom tree i end first m m
  unfolding compile_properties RunAt run_size
  properties_end i {m} past = record { meets = go }
    where
      go : (κ : Limits) (ps : List ℕ) (others : ℕ → List ℕ) (w : Book) (ts : List Token) → RunAt NameAt single ts tree i
          → i + run_size single ts ≡ end → (m.book.full ≡ 0 → first ≡ property_count w.context) → RepresentsBook κ ps others m w
          → RepresentsBook κ (compile_properties ts ps w).texts others m (compile_properties ts ps w).book
      go κ ps others w [] run q start H = H
      go κ ps others w (x ∷ ts) run q start H = absurd (omega arith)

  pub properties_more : (i : ℕ) {m m₁ m' : BookMemory} → i < end → AddsModelProperty tree i first m m₁ → AddsPropertiesFrom tree (i + 1) end first m₁ m'
      → AddsPropertiesFrom tree i end first m m'
  unfolding compile_properties RunAt run_size
  properties_more i {m} {m₁} {m'} inside A B = record { meets = go }
    where
      go : (κ : Limits) (ps : List ℕ) (others : ℕ → List ℕ) (w : Book) (ts : List Token) → RunAt NameAt single ts tree i
          → i + run_size single ts ≡ end → (m.book.full ≡ 0 → first ≡ property_count w.context) → RepresentsBook κ ps others m w
          → RepresentsBook κ (compile_properties ts ps w).texts others m' (compile_properties ts ps w).book
      go κ ps others w [] run q start H = absurd (omega arith)
      go κ ps others w (x ∷ ts) run q start H =
          let token : x ≡ token_at tree i = run.0.token in
          let H₁ = A.meets κ ps others w start H in
          let w₁ = add_property (token_at tree i) ps w in
          rw token (B.meets κ w₁.texts others w₁.book ts run.1 (omega arith)
          (λ z. start (represents_unfilled (unchanged_property (token_at tree i) ps w).uses H H₁ z)
          ∙ ap property_count (sym (same_context (token_at tree i) ps w))) H₁)

  pub properties_done : (at : ℕ) {m m' : BookMemory} → first ≡ m.book.properties → AddsPropertiesFrom tree at end first m m'
      → AddsModelProperties tree at end m m'
  properties_done at q A = record {
    meets = λ κ others w ts run size H. A.meets κ [] others w ts run size
        (λ z. q ∙ (H.keeping.rest z).properties.count ∙ ap length (append-nil (property_table w.context)) ∙ table_length w.context) H;
  }

-- the properties that were taken for a model are its own
own_properties : (c : Context) (x : Model)
    → property_table c ++ property_entries (model_count c) x.properties
    ≡ property_table (with_models (c.program.models ++ (x ∷ [])) c) ++ property_entries (model_count (with_models (c.program.models ++ (x ∷ [])) c)) []
own_properties c x =
    let first = length c.prior.models in
    let before = entries_from model_properties first c.program.models in
    append_assoc c.prior.properties before (property_entries (model_count c) x.properties)
    ∙ sym (append-nil (property_table (with_models (c.program.models ++ (x ∷ [])) c))
    ∙ ap (λ (es : Entries). c.prior.properties ++ es) (entries_more model_properties first c.program.models x))

-- a model more, on the counts and areas
entry_taken : {s : struct.Book} {c k f m p t l u n b e m' : List ℕ} {κ : Limits} {ps : List ℕ} {w : Book} (name : ℕ) {r : Taken} → s.full ≡ 0
    → Took models_area s.full s.models (s.file ∷ name ∷ []) m r m' → RepresentsAreas κ ps (book_areas s c k f m p t l u n b e) w
    → RepresentsAreas κ [] (book_areas (with_model_count r s) c k f m' p t l u n b e) (add_model ps name w)
entry_taken {s} {m = m} {ps = ps} {w = w} name {r} z T H =
    let S = H.rest z in
    let ms = w.context.program.models in
    let x : Model = record { properties = ps; name = name; file = w.assembly.index } in
    let file : s.file ≡ w.assembly.index = S.file in
    let stood = w.context.prior.models in
    let entries : model_table w.context ++ ((s.file ∷ name ∷ []) ∷ []) ≡ model_table (with_models (ms ++ (x ∷ [])) w.context) =
    rw file (append_assoc stood (entries_from model_entry 0 ms) ((w.assembly.index ∷ name ∷ []) ∷ [])
    ∙ ap (λ (es : Entries). stood ++ es) (sym (entries_more model_entry 0 ms x))) in
    keeping_grown H z models_area (model_count w.context + 1) _ refl (took_law T z S.models) (omega arith) refl H.fitted.models
    (omega (arith, models_count S)) refl (λ e. fitted_models e H.fitted)
    (λ f q. rw q (contents_models S (rw (← entries) f) (own_properties w.context x)))

model_taken : {κ : Limits} {ps : List ℕ} {others : ℕ → List ℕ} {m m₁ : BookMemory} {w : Book} (name : ℕ) → m.book.full ≡ 0 → TakesModel name m m₁
    → RepresentsBook κ ps others m w → RepresentsBook κ [] others m₁ (add_model ps name w)
model_taken {ps = ps} {w = w} name z T H =
    area_law (omega arith) refl T.counts T.acts H
    (λ x r. stood_spared (H.preserves.stood models_area (omega arith) refl) (models_behind H) (took_spares r.took)) (model_grows ps name w)
    (λ x r. rw r.counts (entry_taken name z r.took H.keeping))

-- its constant
abbrev model_constant : List ℕ → ℕ → Book → Placed
model_constant ps name w = add_book_constant (constant_of model_kind (model_count w.context)) (add_model ps name w)

-- `place_model`
pub place_full : {name : ℕ} {m : BookMemory} → (m.book.full ≡ 0 → ⊥) → {place : ℕ} → AddsModel name place m m
place_full {name} ne = record {
  meets = λ κ ps others w H. represents_longer (unchanged_place_model ps name w).uses ne H;
  placed = λ κ ps others w H z. absurd (ne z);
}

module _ {name : ℕ} {m m₁ m₂ m₃ : BookMemory} (z : m.book.full ≡ 0) (T : TakesModel name m m₁) {place : ℕ}
    (A : AddsBookConstant model_kind m.book.models place m₁ m₂) {found : Found} (D : DefinesContextLocal name found m₂ m₃) where
  module _ (κ : Limits) (ps : List ℕ) (others : ℕ → List ℕ) (w : Book) (H : RepresentsBook κ ps others m w) where
    index : m.book.models ≡ model_count w.context
    index = models_count (H.keeping.rest z)

    H₁ : RepresentsBook κ [] others m₁ (add_model ps name w)
    H₁ = model_taken name z T H

    H₂ : RepresentsBook κ [] others m₂ (model_constant ps name w).book
    H₂ = rw index at ((constant_added A).meets κ [] others (add_model ps name w) H₁)

    place₂ : m₂.book.full ≡ 0 → place ≡ (model_constant ps name w).place
    place₂ = rw index at ((constant_added A).placed κ [] others (add_model ps name w) H₁)

    H₃ : RepresentsBook κ [] others m₃ (define_context_local name (model_constant ps name w).book).book
    H₃ = (local_defined D).meets κ [] others (model_constant ps name w).book H₂

    before : m₃.book.full ≡ 0 → m₂.book.full ≡ 0
    before z₃ = represents_unfilled (unchanged_local name (model_constant ps name w).book).uses H₂ H₃ z₃

    valuable : Valuable m₃.book found place (define_context_local name (model_constant ps name w).book).place (model_constant ps name w).place
        (define_context_local name (model_constant ps name w).book).book
    valuable = record {
      agrees = λ z₃. (
        (local_defined D).sought κ [] others (model_constant ps name w).book H₂ z₃,
        place₂ (before z₃),
        defined_added name (model_constant ps name w).book (H₂.keeping.rest (before z₃)).counted,
      );
    }

  pub place_model_lem : {m' : BookMemory} → SetsLocalValue found place m₃ m' → AddsModel name place m m'
  place_model_lem L = record {
    meets = λ κ ps others w H.
        value_set (define_context_local name (model_constant ps name w).book).place (model_constant ps name w).place L (valuable κ ps others w H)
        (H₃ κ ps others w H);
    placed = λ κ ps others w H z₃. place₂ κ ps others w H (before κ ps others w H (subst (λ (s : struct.Book). s.full ≡ 0) L.same z₃));
  }

-- `compile_model_definition`
module _ {tree : List ℕ} {at end : ℕ} {m : BookMemory} where
  pub model_short : end ≤ at → {place : ℕ} → CompilesModelDefinition tree at end place m m
  model_short h = record { places = λ name properties token run q. absurd (omega arith) }

  pub model_defined : {m₁ m' : BookMemory} {name place : ℕ} → AddsModelProperties tree (at + 1) end m m₁ → name ≡ value_at tree at
      → AddsModel name place m₁ m' → CompilesModelDefinition tree at end place m m'
  unfolding compile_model_definition
  model_defined {name = value} A is P = record {
    places = λ name properties token run q.
        let same : name.value ≡ value = ap (λ (x : Token). x.value) token ∙ sym is in
        record {
          meets = λ κ others w H.
              let x = compile_properties properties [] w in
              rw same (P.meets κ x.texts others x.book (A.meets κ others w properties run q H));
          placed = λ κ others w H z.
              let x = compile_properties properties [] w in
              rw same (P.placed κ x.texts others x.book (A.meets κ others w properties run q H) z);
        };
  }
