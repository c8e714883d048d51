-- Each routine of a book's definitions leaves what stood before the call: it writes nothing with the mark set, and else behind a count, or to an entry of the
-- book's own. By cases over each, and by what a step leaves of the context. Assumes nothing.
use Rattle.std.specs.Prelude.{Some, None}
use Rattle.std.proofs.Common.{◌≡◌, ℕ, zero, suc, ◌+◌, ◌-◌, ◌*◌, ◌^◌, ◌<◌, ◌≤◌, Bool, true, false, cond, eqb, ltb, List, [], ◌∷◌, ◌++◌, length, sym, refl, ap}
use Rattle.std.proofs.Common.{◌∙◌, subst, arith, length-append}
use mathlib.Core.Option.{Option, none, some}
use Rattle.words.specs.Ast.{Token}
use Rattle.words.specs.Areas.{code_area, constants_area, functions_area, models_area, properties_area, methods_area, context_locals_area, public_names_area}
use Rattle.words.specs.Areas.{write_word}
use Rattle.words.specs.Areas.{Patched}
use Rattle.words.specs.Object.{Constant, is_shared}
use Rattle.definition.specs.FunctionState.{Entry, find_name}
use Rattle.definition.specs.Prior.{Prior}
use Rattle.definition.specs.Uses.{Limits}
use Rattle.definition.specs.Compiler.{Work, find_constant, add_constant_by, add_constant_no_check, add_constant}
use Rattle.definition.specs.Book.{Context, Book, working, push_book_error, add_book_constant, define_context_local_by, define_context_local, set_local_value}
use Rattle.definition.specs.Book.{add_methods}
use Rattle.definition.specs.Book.{Method, Placed, Properties, has_text, noted, property_count, add_property, add_model, publish}
use Rattle.definition.specs.Program.{function_code, function_entries, model_entry, model_properties, property_entries, local_entry, entries_from}
use Rattle.definition.specs.Program.{bit, public_entries, assembly_publics, constant_table, property_table, method_table, public_table}
use Rattle.definition_laws.proofs.Cells.{single_length}
use Rattle.definition_laws.proofs.StepPreserves.{NotesGrow}
use Rattle.building.specs.declared.function_state.FunctionState.{FunctionState}
use Rattle.building.specs.declared.taking.Taken.{Taken}
use Rattle.building.specs.State.{begun}
use Rattle.building.specs.Taking.{Took, taken, taken_of}
use Rattle.building.specs.Found.{Found, found_of, first_from, find_context_local_c}
use Rattle.building.specs.Pool.{Pooling, pooling, add_constant_c}
use Rattle.building.specs.Context.{Localing, localing, define_context_by, define_context_c, set_value_c, function_state_words}
use Rattle.compiler_laws.specs.declared.book.Book as struct
use Rattle.compiler_laws.specs.BookSteps.{resumed_book}
use Rattle.compiler_laws.specs.IncludeSteps.{is_pair, find_pair_c}
use Rattle.compiler_laws.proofs.UnchangedByBooks.{BookUnchanged, unchanged_error, unchanged_constant, unchanged_local, unchanged_value}
use Rattle.compiler_laws.proofs.UnchangedByModels.{unchanged_methods, unchanged_publish, unchanged_property, unchanged_model}
use Rattle.compiler_laws.proofs.MethodsTogether.{inserts_grow}
use Rattle.undo.specs.Notes.{with_function_word}
use Rattle.undo.proofs.PlainMethods as notes
use Rattle.undo.specs.Stood.{Spares}
use Rattle.book_compiler.specs.RepresentsBook.{BookMemory, BehindContext, RepresentsBook}
use Rattle.book_compiler.specs.BookLeaves.{SparesLocals, SparesMethods, SparesPublics, SameCounts, StoodFirst}
use Rattle.book_compiler.specs.FunctionSteps.{SparesFunctions}
use Rattle.book_compiler.proofs.Stood.{spares_refl, spares_then, spares_took, took_spares, taken_back, taken_on, spares_word}
use Rattle.book_compiler.proofs.StoodFunctions.{add_spares}

-- what a step leaves of a context: what stood before it, and as many constants and methods at least
pub record Grows (b b' : Book) : Type 0 where
  pub uses : NotesGrow b.uses b'.uses
  pub prior : b'.context.prior ≡ b.context.prior
  pub constants : length b.context.pool.constants ≤ length b'.context.pool.constants
  pub methods : length b.context.program.methods ≤ length b'.context.program.methods

-- so what stood stays behind
pub behind_grown : {others : ℕ → List ℕ} {c c' : Context} → c'.prior ≡ c.prior → length c.pool.constants ≤ length c'.pool.constants
    → length c.program.methods ≤ length c'.program.methods → BehindContext others c → BehindContext others c'
behind_grown {others} {c} {c'} p k t B = record {
  code = subst (λ (x : Prior). length (others code_area) ≤ length x.code * 2) (sym p) B.code;
  constants = omega (arith, B.constants, k);
  functions = subst (λ (x : Prior). length (others functions_area) ≤ length x.functions * 8) (sym p) B.functions;
  models = subst (λ (x : Prior). length (others models_area) ≤ length x.models * 2) (sym p) B.models;
  properties = subst (λ (x : Prior). length (others properties_area) ≤ length x.properties * 2) (sym p) B.properties;
  methods = omega (arith, B.methods, t);
  locals = subst (λ (x : Prior). length (others context_locals_area) ≤ length x.locals * 4) (sym p) B.locals;
  publics = subst (λ (x : Prior). length (others public_names_area) ≤ length x.publics * 3) (sym p) B.publics;
}

-- the context stays
pub behind_same : {others : ℕ → List ℕ} {c c' : Context} → c' ≡ c → BehindContext others c → BehindContext others c'
behind_same {others} q B = subst (BehindContext others) (sym q) B

pub grows_same : {b b' : Book} → BookUnchanged b b' → b'.context ≡ b.context → Grows b b'
grows_same {b} {b'} C q = record {
  uses = C.uses;
  prior = C.prior;
  constants = rw q (omega arith);
  methods = rw q (omega arith);
}

-- each step
pub error_grows : (n : ℕ) (t : Token) (b : Book) → Grows b (push_book_error n t b)
error_grows n t b = record { uses = (unchanged_error n t b).uses; prior = refl; constants = omega arith; methods = omega arith }

constant_more : (c : Constant) (w : Work) → length w.context.constants ≤ length (add_constant c w).work.context.constants
unfolding add_constant
constant_more c w = go (is_shared c.kind) (find_constant c w.context.constants 0)
  where
    more : length w.context.constants ≤ length (w.context.constants ++ (c ∷ []))
    more = omega (arith, length-append w.context.constants (c ∷ []))

    go : (t : Bool) (o : Option ℕ)
        → length w.context.constants ≤ length (cond t (add_constant_by o c w) (add_constant_no_check c w)).work.context.constants
    go false o = more
    go true none = more
    go true (some i) = omega arith

pub constant_grows : (c : Constant) (b : Book) → Grows b (add_book_constant c b).book
constant_grows c b = record {
  uses = (unchanged_constant c b).uses;
  prior = (unchanged_constant c b).prior;
  constants = constant_more c (working b);
  methods = omega arith;
}

pub local_grows : (n : ℕ) (b : Book) → Grows b (define_context_local n b).book
unfolding define_context_local
local_grows n b = let C = unchanged_local n b in go (find_name n b.compiler.locals) C.uses C.prior
  where
    go : (o : Option ℕ) → NotesGrow b.uses (define_context_local_by o n b).book.uses
        → (define_context_local_by o n b).book.context.prior ≡ b.context.prior → Grows b (define_context_local_by o n b).book
    go (some i) l p = record { uses = l; prior = p; constants = omega arith; methods = omega arith }
    go none l p = record { uses = l; prior = p; constants = omega arith; methods = omega arith }

pub value_grows : (o : Option ℕ) (v : ℕ) (b : Book) → Grows b (set_local_value o v b)
value_grows none v b = record { uses = (unchanged_value none v b).uses; prior = refl; constants = omega arith; methods = omega arith }
value_grows (some i) v b = record { uses = (unchanged_value (some i) v b).uses; prior = refl; constants = omega arith; methods = omega arith }

pub methods_grow : (o : Option ℕ) (es : List Entry) (b : Book) → Grows b (add_methods o es b)
methods_grow none es b = record { uses = (unchanged_methods none es b).uses; prior = refl; constants = omega arith; methods = omega arith }
methods_grow (some m) es b = record {
  uses = (unchanged_methods (some m) es b).uses;
  prior = refl;
  constants = omega arith;
  methods = inserts_grow m es b.context.program.methods;
}

pub publish_grows : (name : ℕ) (p : Placed) → Grows p.book (publish name p)
publish_grows name p = record { uses = (unchanged_publish name p).uses; prior = refl; constants = omega arith; methods = omega arith }

pub property_grows : (t : Token) (ps : List ℕ) (b : Book) → Grows b (add_property t ps b).book
property_grows t ps b = let C = unchanged_property t ps b in go (has_text t.value ps) C.uses C.prior
  where
    go : (x : Bool) → NotesGrow b.uses (cond {A = Properties} x (record { texts = ps; book = push_book_error 6 t b })
        (record { texts = ps ++ (t.value ∷ []); book = noted properties_area (property_count b.context + length ps + 1) b })).book.uses
        → (cond {A = Properties} x (record { texts = ps; book = push_book_error 6 t b })
        (record { texts = ps ++ (t.value ∷ []); book = noted properties_area (property_count b.context + length ps + 1) b })).book.context.prior
        ≡ b.context.prior
        → Grows b (cond {A = Properties} x (record { texts = ps; book = push_book_error 6 t b })
        (record { texts = ps ++ (t.value ∷ []); book = noted properties_area (property_count b.context + length ps + 1) b })).book
    go true l p = record { uses = l; prior = p; constants = omega arith; methods = omega arith }
    go false l p = record { uses = l; prior = p; constants = omega arith; methods = omega arith }

pub model_grows : (ps : List ℕ) (name : ℕ) (b : Book) → Grows b (add_model ps name b)
model_grows ps name b = record { uses = (unchanged_model ps name b).uses; prior = refl; constants = omega arith; methods = omega arith }

-- what stood ends at the counts
module _ {κ : Limits} {ps : List ℕ} {others : ℕ → List ℕ} {m : BookMemory} {b : Book} (H : RepresentsBook κ ps others m b) (z : m.book.full ≡ 0) where
  pub code_behind : length (others code_area) ≤ m.book.code * 2
  code_behind =
      let c = b.context in
      omega (arith, (H.behind z).code, (H.keeping.rest z).code.count, length-append c.prior.code (entries_from function_code 0 c.program.functions))

  pub constants_behind : length (others constants_area) ≤ m.book.constants * 3
  constants_behind =
      let c = b.context in
      let many : length (constant_table c) ≡ length c.pool.constants =
      single_length (λ (i : ℕ) (k : Constant). k.kind ∷ k.value ∷ bit (has_text i c.pool.globals) ∷ []) 0 c.pool.constants in
      omega (arith, (H.behind z).constants, (H.keeping.rest z).constants.count, many)

  pub functions_behind : length (others functions_area) ≤ m.book.functions * 8
  functions_behind =
      let c = b.context in
      omega (
        arith,
        (H.behind z).functions,
        (H.keeping.rest z).functions.count,
        length-append c.prior.functions (function_entries (length c.prior.code) c.program.functions),
      )

  pub models_behind : length (others models_area) ≤ m.book.models * 2
  models_behind =
      let c = b.context in
      omega (arith, (H.behind z).models, (H.keeping.rest z).models.count, length-append c.prior.models (entries_from model_entry 0 c.program.models))

  pub properties_behind : length (others properties_area) ≤ m.book.properties * 2
  properties_behind =
      let c = b.context in
      omega (
        arith,
        (H.behind z).properties,
        (H.keeping.rest z).properties.count,
        length-append (property_table c) (property_entries (length c.prior.models + length c.program.models) ps),
        length-append c.prior.properties (entries_from model_properties (length c.prior.models) c.program.models),
      )

  pub methods_behind : length (others methods_area) ≤ m.book.methods * 3
  methods_behind =
      let c = b.context in
      let many : length (method_table c) ≡ length c.program.methods =
      single_length (λ (i : ℕ) (x : Method). x.model ∷ x.name ∷ x.function ∷ []) 0 c.program.methods in
      omega (arith, (H.behind z).methods, (H.keeping.rest z).methods.count, many)

  pub locals_behind : length (others context_locals_area) ≤ m.book.locals * 4
  locals_behind =
      let c = b.context in
      omega (
        arith,
        (H.behind z).locals,
        (H.keeping.rest z).locals.count,
        length-append c.prior.locals (entries_from (local_entry c.locals.values) (length c.prior.locals) c.locals.names),
      )

  pub own_publics_behind : length (others public_names_area) ≤ m.book.first_public * 3
  own_publics_behind = omega (arith, (H.behind z).publics, (H.keeping.rest z).first_public)

  pub publics_behind : length (others public_names_area) ≤ m.book.publics * 3
  publics_behind =
      let c = b.context in
      omega (
        arith,
        (H.behind z).publics,
        (H.keeping.rest z).publics.count,
        length-append (public_table c) (public_entries b.assembly.index b.assembly.publics),
        length-append c.prior.publics (entries_from assembly_publics 0 c.assemblies),
      )

-- the routines

-- the methods that stood are the first, and as many as are counted
module _ {κ : Limits} {ps : List ℕ} {others : ℕ → List ℕ} {m : BookMemory} {b : Book} (H : RepresentsBook κ ps others m b) where
  pub stood_first : StoodFirst m.book
  stood_first z = omega (arith, methods_behind H z, H.standing)

  pub standing_below : m.book.full ≡ 0 → length (others methods_area) ≤ m.book.standing_methods * 3
  standing_below z = omega (arith, H.standing)

  -- a function's number leaves room for what is noted
  pub functions_fit : m.book.full ≡ 0 → m.book.functions < 2 ^ 56
  functions_fit z = omega (arith, (H.keeping.rest z).functions.room)

pub constant_spares : (s : struct.Book) (kind value : ℕ) {r r' : FunctionState} {i : ℕ} {k k' : List ℕ} → r ≡ begun s.full s.code s.constants
    s.errors
    → pooling i r' k' ≡ add_constant_c kind value r k → Spares constants_area s.full (s.constants * 3) k k'
constant_spares s kind value {r} {r'} {i} {k} {k'} worked added =
    let S : Spares constants_area r.full (r.constants * 3) k k' =
    subst (λ (x : Pooling). Spares constants_area r.full (r.constants * 3) k x.constants) (sym added) (add_spares kind value r k).words in
    subst (λ (x : FunctionState). Spares constants_area x.full (x.constants * 3) k k') worked S

pub local_spares : (s : struct.Book) (name : ℕ) {g : Found} {T : Taken} {l l' : List ℕ}
    → localing g T l' ≡ define_context_c s.full s.first_local s.locals s.file name l → Spares context_locals_area s.full (s.locals * 4) l l'
unfolding define_context_c
local_spares s name {g} {T} {l} {l'} q =
    subst (λ (x : Localing). Spares context_locals_area s.full (s.locals * 4) l x.locals) (sym q)
    (go (eqb s.full 0) (find_context_local_c s.first_local s.locals name l))
  where
    go : (t : Bool) (o : Option ℕ)
        → Spares context_locals_area s.full (s.locals * 4) l
        (cond t (define_context_by o s.full s.locals s.file name l) (localing None (taken s.full s.locals) l)).locals
    go false o = spares_refl l
    go true (some i) = spares_refl l
    go true none = spares_took context_locals_area s.full s.locals (s.locals * 4) (s.file ∷ name ∷ 0 ∷ 0 ∷ []) l (λ z. omega arith)

pub value_spares : {s : struct.Book} {found : Found} (constant : ℕ) {l l' : List ℕ} → s.full ≡ 0 → (i : ℕ) → found ≡ Some i
    → l' ≡ set_value_c s.full s.locals i constant l → SparesLocals s found l l'
unfolding set_value_c
value_spares {s} {found} constant {l} {l'} z i at q = record {
  words = λ below h.
      let far : below ≤ i * 4 = h z i at in
      subst (Spares context_locals_area s.full below l) (sym q) (go below far (eqb s.full 0) (ltb i s.locals));
}
  where
    word_at : (below j v : ℕ) (w : List ℕ) → below ≤ i * 4 → Spares context_locals_area s.full below w (write_word 4 i j v w)
    word_at below j v w far =
        spares_word context_locals_area s.full below 4 i j v w (λ k low e. let lower : k < below = low z in omega (arith, lower, far, e))

    go : (below : ℕ) → below ≤ i * 4 → (t u : Bool)
        → Spares context_locals_area s.full below l (cond t (cond u (write_word 4 i 3 constant (write_word 4 i 2 1 l)) l) l)
    go below far false u = spares_refl l
    go below far true false = spares_refl l
    go below far true true = spares_then (λ y. y) (word_at below 2 1 l far) (word_at below 3 constant (write_word 4 i 2 1 l) far)

pub value_spares_none : {s : struct.Book} {found : Found} {l : List ℕ} → SparesLocals s found l l
value_spares_none {l = l} = record { words = λ below h. spares_refl l }

pub methods_stay : (s : struct.Book) (t : List ℕ) → SparesMethods s t s t
methods_stay s t = record { words = λ h. spares_refl t; full = λ z. z; count = omega arith }

-- the methods that stood stay the first
pub stood_first_on : {s s' : struct.Book} {t t' : List ℕ} → SparesMethods s t s' t' → SameCounts s s' → StoodFirst s → StoodFirst s'
stood_first_on S C h z = let l = h (S.full z) in omega (arith, l, S.count, C.standing)

pub same_counts : (s : struct.Book) → SameCounts s s
same_counts s = record { constants = refl; standing = refl }

pub counts_then : {s s₁ s₂ : struct.Book} → SameCounts s s₁ → SameCounts s₁ s₂ → SameCounts s s₂
counts_then a b = record { constants = b.constants ∙ a.constants; standing = b.standing ∙ a.standing }

pub methods_then : {s s₁ s₂ : struct.Book} {t t₁ t₂ : List ℕ} → SameCounts s s₁ → SparesMethods s t s₁ t₁ → SparesMethods s₁ t₁ s₂ t₂
    → SparesMethods s t s₂ t₂
methods_then {s} {s₁} {s₂} {t} {t₁} {t₂} C a b = record {
  words = λ h. spares_then a.full (a.words h)
      (subst (λ (n : ℕ). Spares methods_area s₁.full (n * 3) t₁ t₂) C.standing (b.words (stood_first_on a C h)));
  full = λ z. a.full (b.full z);
  count = omega (arith, a.count, b.count);
}

-- another function: what is noted in its word stays
pub method_replaced : {s : struct.Book} (i function : ℕ) {t t' : List ℕ} → s.full ≡ 0 → t' ≡ with_function_word s.standing_methods i function t
    → SparesMethods s t s t'
method_replaced {s} i function {t} z q = record {
  words = λ h.
      rw q (notes.function_spares s.standing_methods i function s.full (s.standing_methods * 3) t (λ e. z) (λ e. omega (arith, e)));
  full = λ z. z;
  count = omega arith;
}

pub method_more : {s s' : struct.Book} {model name function : ℕ} {t t' : List ℕ} {r : Taken}
    → Took methods_area s.full s.methods (model ∷ name ∷ function ∷ []) t r t' → s'.full ≡ r.full → s'.methods ≡ r.count → SparesMethods s t s' t'
method_more {s} {s'} {model} {name} {function} {t} {t'} {r} T f n =
    let n₃ = length t in
    let full_is : s'.full ≡ (taken_of methods_area 3 s.full s.methods n₃).full = f ∙ ap (λ (x : Taken). x.full) T.reply in
    let count_is : s'.methods ≡ (taken_of methods_area 3 s.full s.methods n₃).count = n ∙ ap (λ (x : Taken). x.count) T.reply in
    record {
      words = λ h. rw T.words (spares_took methods_area s.full s.methods (s.standing_methods * 3) (model ∷ name ∷ function ∷ []) t
          (λ z. let l = h z in omega (arith, l)));
      full = λ z. taken_back methods_area 3 s.full s.methods n₃ (sym full_is ∙ z);
      count = omega (arith, taken_on methods_area 3 s.full s.methods n₃, count_is);
    }

-- a search finds none before its start
found_from : (test : ℕ → Bool) (k i j : ℕ) → first_from test k i ≡ some j → i ≤ j
unfolding first_from
found_from test zero i j q = absurd (let y : ◌≡◌ {A = ℕ} 0 1 = cc in omega arith)
found_from test (suc k) i j q = go (test i) (λ p. found_from test k (i + 1) j p) q
  where
    go : (t : Bool) → (first_from test k (i + 1) ≡ some j → i + 1 ≤ j) → cond t (some i) (first_from test k (i + 1)) ≡ some j → i ≤ j
    go true later p = let e : i ≡ j = cc in omega (arith, e)
    go false later p = let l : i + 1 ≤ j = later p in omega (arith, l)

pub publics_stay : {s : struct.Book} {u : List ℕ} → SparesPublics s u u
publics_stay {u = u} = record { words = λ below h g. spares_refl u }

pub public_replaced : {s : struct.Book} (name : ℕ) {place i : ℕ} {g : Found} {u u' : List ℕ} {a : Bool} → s.full ≡ 0
    → g ≡ found_of (find_pair_c 3 s.first_public s.publics s.file name u) → g ≡ Some i → Patched 3 i 2 place u u' a → SparesPublics s u u'
public_replaced {s} name {place} {i} {g} {u} {u'} z searched at P = record {
  words = λ below h g.
      let own : s.first_public ≤ i = go (find_pair_c 3 s.first_public s.publics s.file name u) refl (sym searched ∙ at) in
      let low : below ≤ s.first_public * 3 = h z in
      rw P.words (spares_word public_names_area s.full below 3 i 2 place u (λ k under e.
      let lower : k < below = under z in omega (arith, lower, low, own, e)));
}
  where
    go : (o : Option ℕ) → find_pair_c 3 s.first_public s.publics s.file name u ≡ o → found_of o ≡ Some i → s.first_public ≤ i
    go none q e = absurd (let y : ◌≡◌ {A = ℕ} 0 1 = cc in omega arith)
    go (some j) q e =
        let same : j ≡ i = cc in
        let l = found_from (is_pair 3 s.file name u) (s.publics - s.first_public) s.first_public j q in
        omega (arith, l, same)

pub public_more : {s : struct.Book} {name place : ℕ} {u u' : List ℕ} {r : Taken}
    → Took public_names_area s.full s.publics (s.file ∷ name ∷ place ∷ []) u r u' → SparesPublics s u u'
public_more {s} {name} {place} {u} T = record {
  words = λ below h g. rw T.words (spares_took public_names_area s.full s.publics below (s.file ∷ name ∷ place ∷ []) u g);
}

pub function_spares : {s s₁ s' : struct.Book} {r : FunctionState} {file name : ℕ} {g g' : List ℕ} {T : Taken} → s₁ ≡ resumed_book s r
    → Took functions_area s₁.full s₁.functions (function_state_words r file name) g T g' → s'.full ≡ T.full → SparesFunctions r s g s' g'
function_spares {s} {s₁} {s'} {r} {file} {name} {g} {g'} {T} q t f =
    let t' : Took functions_area r.full s.functions (function_state_words r file name) g T g' =
    subst (λ (x : struct.Book). Took functions_area x.full x.functions (function_state_words r file name) g T g') q t in
    record {
      words = took_spares t';
      full = λ z. taken_back functions_area 8 r.full s.functions (length g) (sym (f ∙ ap (λ (x : Taken). x.full) t'.reply) ∙ z);
    }
