-- One lemma for each kind of definition, the loop over a document's definitions, and the document: what the routines promise is the definition's.
-- Assumes nothing.
use Rattle.std.proofs.Common.{◌≡◌, ℕ, ◌+◌, ◌<◌, ◌≤◌, List, [], ◌∷◌, sym, refl, ap, ◌∙◌, subst, arith}
use Rattle.words.specs.Ast.{Token, Definition, Document}
use Rattle.words.specs.Areas.{books_area}
use Rattle.words.specs.Record.{kind_at, value_at}
use Rattle.tree.specs.At.{DefinitionAt, size_d, kind_d, RunAt, run_size}
use Rattle.tree.proofs.View.{ViewD, v_Local_definition, v_Include_definition, v_Model_definition, v_Public_model_definition, v_Apply_definition, view_d, head_d}
use Rattle.tree.proofs.View.{see_d}
use Rattle.tree.proofs.View.{v_Plain_function, v_Public_function, v_Implement_definition, size_d_pos}
use Rattle.definition.specs.Uses.{Use, Limits}
use Rattle.definition.specs.Book.{Context, Book, opened, compile_definition, compile_definitions}
use Rattle.definition.specs.Within.{All, nil, ◌&◌}
use Rattle.definition_laws.proofs.Limits.{LimitedFunction, functions_in}
use Rattle.compiler_laws.specs.InsideFunction.{skip_c}
use Rattle.compiler_laws.proofs.Tokens.{skip_law}
use Rattle.compiler_laws.specs.declared.book.Book as struct
use Rattle.compiler_laws.specs.BookAreas.{BookAreas, RepresentsAreas, NamesBooks}
use Rattle.compiler_laws.specs.OpenedBooks.{opened_book, nobody}
use Rattle.compiler_laws.proofs.BookStepsInOrder.{books_named_unchanged}
use Rattle.compiler_laws.proofs.BuiltFunctions.{bounded, all_bounded}
use Rattle.compiler_laws.proofs.DefinitionKinds.{unchanged_definition}
use Rattle.book_compiler.specs.RepresentsBook.{BookMemory, book_laid, RepresentsBook, CompilesDefinition, CompilesDefinitions, CompilesDocument}
use Rattle.book_compiler.specs.BookLeaves.{PublishesName}
use Rattle.book_compiler.specs.DefinitionSteps.{CompilesLocalDefinition, CompilesIncludeDefinition, CompilesModelDefinition, CompilesApplyDefinition}
use Rattle.book_compiler.specs.DefinitionSteps.{CompilesFunctionDefinition, CompilesImplementDefinition}
use Rattle.book_compiler.proofs.BookLeaves.{name_published}

-- `compile_definition`
module _ {tree : List ℕ} {at end kind : ℕ} (kind_is : kind ≡ kind_at tree at) {m m' : BookMemory} where
  pub definition_local : kind ≡ 10 → CompilesLocalDefinition tree (at + 1) end m m' → CompilesDefinition tree at end m m'
  unfolding compile_definition DefinitionAt size_d
  definition_local is D = record { meets = λ d h q limited κ others x B H. go d (see_d d tree at h kind_is is) h q κ others x H }
    where
      go : (d : Definition) → ViewD 10 d → DefinitionAt d tree at → at + size_d d ≡ end → (κ : Limits) (others : ℕ → List ℕ) (x : Book)
          → RepresentsBook κ [] others m x → RepresentsBook κ [] others m' (compile_definition d x)
      go _ (v_Local_definition {bs = bs}) h q κ others x H = (D.defines bs h.1 (omega arith)).meets κ [] others x H

  pub definition_include : kind ≡ 11 → CompilesIncludeDefinition tree at end m m' → CompilesDefinition tree at end m m'
  unfolding compile_definition DefinitionAt size_d
  definition_include is D = record { meets = λ d h q limited κ others x B H. go d (see_d d tree at h kind_is is) h q κ others x B H }
    where
      go : (d : Definition) → ViewD 11 d → DefinitionAt d tree at → at + size_d d ≡ end → (κ : Limits) (others : ℕ → List ℕ) (x : Book)
          → NamesBooks (others books_area) x.context → RepresentsBook κ [] others m x → RepresentsBook κ [] others m' (compile_definition d x)
      go _ (v_Include_definition {n = index} {t = file} {l = as'}) h q κ others x B H = (D.includes index file as' h q).meets κ [] others x B H

  pub definition_implement : kind ≡ 16 → CompilesImplementDefinition tree at end m m' → CompilesDefinition tree at end m m'
  unfolding compile_definition DefinitionAt size_d
  definition_implement is D = record { meets = λ d h q limited κ others x B H. go d (see_d d tree at h kind_is is) h q limited κ others x H }
    where
      go : (d : Definition) → ViewD 16 d → DefinitionAt d tree at → at + size_d d ≡ end → All LimitedFunction (functions_in d)
          → (κ : Limits) (others : ℕ → List ℕ) (x : Book) → RepresentsBook κ [] others m x → RepresentsBook κ [] others m' (compile_definition d x)
      go _ (v_Implement_definition {t = model} {fs = fs}) h q limited κ others x H =
          (D.simulates model fs h.0 h.1 q (all_bounded limited)).meets κ [] others x H

  -- what is none of the others
  pub definition_apply : (kind ≡ 10 → ⊥) → (kind ≡ 11 → ⊥) → (kind ≡ 12 → ⊥) → (kind ≡ 13 → ⊥) → (kind ≡ 14 → ⊥) → (kind ≡ 15 → ⊥) → (kind ≡ 16 → ⊥)
      → CompilesApplyDefinition tree at end m m' → CompilesDefinition tree at end m m'
  unfolding compile_definition DefinitionAt size_d
  definition_apply n10 n11 n12 n13 n14 n15 n16 D = record {
    meets = λ d h q limited κ others x B H. go d (view_d d) refl (kind_is ∙ (head_d d h).kind_is) h q κ others x H;
  }
    where
      go : (d : Definition) {i : ℕ} → ViewD i d → i ≡ kind_d d → kind ≡ kind_d d → DefinitionAt d tree at → at + size_d d ≡ end
          → (κ : Limits) (others : ℕ → List ℕ) (x : Book) → RepresentsBook κ [] others m x → RepresentsBook κ [] others m' (compile_definition d x)
      go _ v_Local_definition i j h q κ others x H = absurd (n10 j)
      go _ v_Include_definition i j h q κ others x H = absurd (n11 j)
      go _ v_Model_definition i j h q κ others x H = absurd (n12 j)
      go _ v_Public_model_definition i j h q κ others x H = absurd (n13 j)
      go _ v_Plain_function i j h q κ others x H = absurd (n14 j)
      go _ v_Public_function i j h q κ others x H = absurd (n15 j)
      go _ v_Implement_definition i j h q κ others x H = absurd (n16 j)
      go _ (v_Apply_definition {s = source} {t = target}) i j h q κ others x H = (D.applies source target h q).meets κ [] others x H

-- models and functions, which may be published
module _ {tree : List ℕ} {at end kind : ℕ} (kind_is : kind ≡ kind_at tree at) {m m₁ : BookMemory} {place : ℕ} where
  module _ (D : CompilesModelDefinition tree at end place m m₁) where
    pub definition_model : kind ≡ 12 → CompilesDefinition tree at end m m₁
    unfolding compile_definition DefinitionAt size_d
    definition_model is = record { meets = λ d h q limited κ others x B H. go d (see_d d tree at h kind_is is) h q κ others x H }
      where
        go : (d : Definition) → ViewD 12 d → DefinitionAt d tree at → at + size_d d ≡ end → (κ : Limits) (others : ℕ → List ℕ) (x : Book)
            → RepresentsBook κ [] others m x → RepresentsBook κ [] others m₁ (compile_definition d x)
        go _ (v_Model_definition {t = name} {ns = ns}) h q κ others x H = (D.places name ns h.0.token h.1 (omega arith)).meets κ others x H

    pub definition_public_model : {name : ℕ} {m' : BookMemory} → kind ≡ 13 → name ≡ value_at tree at → PublishesName place name m₁ m'
        → CompilesDefinition tree at end m m'
    unfolding compile_definition DefinitionAt size_d
    definition_public_model {name} {m'} is name-is P = record {
      meets = λ d h q limited κ others x B H. go d (see_d d tree at h kind_is is) h q κ others x H;
    }
      where
        go : (d : Definition) → ViewD 13 d → DefinitionAt d tree at → at + size_d d ≡ end → (κ : Limits) (others : ℕ → List ℕ) (x : Book)
            → RepresentsBook κ [] others m x → RepresentsBook κ [] others m' (compile_definition d x)
        go _ (v_Public_model_definition {t = name'} {ns = ns}) h q κ others x H =
            let same : name ≡ name'.value = name-is ∙ sym (ap (λ (y : Token). y.value) h.0.token) in
            let A = D.places name' ns h.0.token h.1 (omega arith) in
            name_published _ (subst (λ (y : ℕ). PublishesName place y m₁ m') same P) (A.meets κ others x H) (A.placed κ others x H)

  module _ (D : CompilesFunctionDefinition tree at end place m m₁) where
    pub definition_function : kind ≡ 14 → CompilesDefinition tree at end m m₁
    unfolding compile_definition DefinitionAt size_d
    definition_function is = record { meets = λ d h q limited κ others x B H. go d (see_d d tree at h kind_is is) h q limited κ others x H }
      where
        go : (d : Definition) → ViewD 14 d → DefinitionAt d tree at → at + size_d d ≡ end → All LimitedFunction (functions_in d)
            → (κ : Limits) (others : ℕ → List ℕ) (x : Book) → RepresentsBook κ [] others m x → RepresentsBook κ [] others m₁ (compile_definition d x)
        go _ (v_Plain_function {f = f}) h q (limited & nil) κ others x H = (D.places 14 f h q (bounded limited)).meets κ [] others x H

    pub definition_public_function : {name : ℕ} {m' : BookMemory} → kind ≡ 15 → name ≡ value_at tree at → PublishesName place name m₁ m'
        → CompilesDefinition tree at end m m'
    unfolding compile_definition DefinitionAt size_d
    definition_public_function {name} {m'} is name-is P = record {
      meets = λ d h q limited κ others x B H. go d (see_d d tree at h kind_is is) h q limited κ others x H;
    }
      where
        go : (d : Definition) → ViewD 15 d → DefinitionAt d tree at → at + size_d d ≡ end → All LimitedFunction (functions_in d)
            → (κ : Limits) (others : ℕ → List ℕ) (x : Book) → RepresentsBook κ [] others m x → RepresentsBook κ [] others m' (compile_definition d x)
        go _ (v_Public_function {f = f}) h q (limited & nil) κ others x H =
            let same : name ≡ f.name.value = name-is ∙ sym (ap (λ (y : Token). y.value) h.headed.token) in
            let A = D.places 15 f h q (bounded limited) in
            name_published _ (subst (λ (y : ℕ). PublishesName place y m₁ m') same P) (A.meets κ [] others x H) (A.placed κ [] others x H)

-- `compile_definitions`: no definition changes the books put away
module _ {tree : List ℕ} {at end : ℕ} where
  pub definitions_end : {m : BookMemory} → end ≤ at → CompilesDefinitions tree at end m m
  unfolding compile_definitions run_size
  definitions_end {m} past = record { meets = go }
    where
      go : (ds : List Definition) → RunAt DefinitionAt size_d ds tree at → at + run_size size_d ds ≡ end
          → All (λ (d : Definition). All LimitedFunction (functions_in d)) ds → (κ : Limits) (others : ℕ → List ℕ) (b : Book)
          → NamesBooks (others books_area) b.context → RepresentsBook κ [] others m b → RepresentsBook κ [] others m (compile_definitions ds b)
      go [] h q l κ others b s H = H
      go (d ∷ ds) h q l κ others b s H = absurd (omega (arith, size_d_pos d))

  pub definitions_more : {next : ℕ} {m m₁ m' : BookMemory} → at < end → next ≡ skip_c tree at end → CompilesDefinition tree at next m m₁
      → CompilesDefinitions tree next end m₁ m' → CompilesDefinitions tree at end m m'
  unfolding compile_definitions run_size RunAt
  definitions_more {next} {m} {m₁} {m'} inside skipped A B = record { meets = go }
    where
      go : (ds : List Definition) → RunAt DefinitionAt size_d ds tree at → at + run_size size_d ds ≡ end
          → All (λ (d : Definition). All LimitedFunction (functions_in d)) ds → (κ : Limits) (others : ℕ → List ℕ) (b : Book)
          → NamesBooks (others books_area) b.context → RepresentsBook κ [] others m b → RepresentsBook κ [] others m' (compile_definitions ds b)
      go [] h q l κ others b s H = absurd (omega arith)
      go (d ∷ ds) h q (l & ls) κ others b s H =
          let mid : next ≡ at + size_d d = skipped ∙ skip_law tree at end (head_d d h.0) (size_d_pos d) (omega arith) in
          B.meets ds (rw mid h.1) (omega arith) ls κ others (compile_definition d b)
          (books_named_unchanged (unchanged_definition d b) s) (A.meets d h.0 (sym mid) l κ others b s H)

-- a book's own name stands nowhere in the areas yet
named : {κ : Limits} {m : BookAreas} {c : Context} {uses : List Use} (d : Document) → RepresentsAreas κ [] m (opened nobody c uses)
    → RepresentsAreas κ [] m (opened d c uses)
named d H = record {
  fitted = H.fitted;
  full = H.full;
  rest = λ z.
      let S = H.rest z in
      record {
        code = S.code;
        sized = S.sized;
        constants = S.constants;
        marks = S.marks;
        functions = S.functions;
        models = S.models;
        properties = S.properties;
        methods = S.methods;
        locals = S.locals;
        counted = S.counted;
        valued = S.valued;
        first_local = S.first_local;
        named = S.named;
        publics = S.publics;
        first_public = S.first_public;
        prior = S.prior;
        file = S.file;
        last_index = S.last_index;
        mode = S.mode;
        indexed = S.indexed;
        entry = S.entry;
        names = S.names;
        breaks = S.breaks;
        errors = S.errors;
      };
}

-- `compile_document`
module _ {tree : List ℕ} {at end index : ℕ} {s : struct.Book} {a w : List ℕ} {m' : BookMemory} where
  pub document_compiled : CompilesDefinitions tree (at + 1) end (book_laid (opened_book s index) a w) m' → CompilesDocument tree at end index (book_laid s a w)
      m'
  document_compiled M = record {
    meets = λ d h q limited κ others context uses i books-named R.
        let H : RepresentsBook κ [] others (book_laid (opened_book s index) a w) (opened nobody context uses) =
        subst (λ (x : ℕ). RepresentsBook κ [] others (book_laid (opened_book s x) a w) (opened nobody context uses)) (sym i) R.ready in
        M.meets d.definitions h.definitions (omega arith) limited κ others (opened d context uses) books-named
        (record {
          fits = H.fits;
          preserves = H.preserves;
          behind = H.behind;
          keeping = named d H.keeping;
          standing = H.standing;
          slots = H.slots;
        });
  }

  pub document_past : end ≤ at → CompilesDocument tree at end index (book_laid s a w) m'
  document_past past = record { meets = λ d h q limited κ others context uses i books-named R. absurd (omega arith) }
