-- What a book adds is known to 2026-01's check (`document_known`): its functions' code, every name and text, every constant; a book's methods and public names
-- have distinct keys. By the invariant `KnownBook` over the steps of a book. Assumes nothing.
use Prim.Native.Nat.{ℕ, ◌+◌, ◌<◌}
use native.Mathlib.Omega.{arith}
use mathlib.Core.Path.{◌≡◌, refl, sym, subst}
use mathlib.Core.Option.{Option, none, some}
use mathlib.Core.List.{List, [], ◌∷◌}
use lib.Dec.{eqb}
use Rattle.words.specs.Ast.{Token, Binding, Alias, FunctionDefinition, Definition, LocalDefinition, IncludeDefinition, ModelDefinition}
use Rattle.words.specs.Ast.{PublicModelDefinition, PlainFunction, PublicFunction, ImplementDefinition, ApplyDefinition, Document}
use Rattle.words.specs.Record.{span_at, token_at}
use Rattle.words.specs.Object.{Constant, constant_of, model_kind, function_kind}
use Rattle.tree.specs.At.{Leaf, Headed, RunAt, NameAt, single, double, BindingAt, AliasAt, size_f, FunctionAt, size_d, DefinitionAt, DocumentAt}
use Rattle.definition.specs.FunctionState.{Entry, FunctionState, find_name}
use Rattle.definition.specs.Uses.{Use}
use Rattle.definition.specs.Compiler.{Error, Added, compile_function_definition_base}
use Rattle.definition.specs.Book
use Rattle.definition.specs.Book.{Function, Model, Method, Context, Placed, Properties, Methods, Made, Value, Standing, Adding, NoConstant}
use Rattle.definition.specs.Book.{working, resumed, add_book_constant, define_context_local, define_context_local_by, set_local_value, included_name}
use Rattle.definition.specs.Book.{give_value}
use Rattle.definition.specs.Book.{compile_alias, compile_include_definition, gives_values, compile_include, value_of, compile_value, compile_binding_by}
use Rattle.definition.specs.Book.{compile_binding, compile_local_definition, has_text, add_property, compile_properties, add_model, compile_model_definition}
use Rattle.definition.specs.Book.{insert_entry, publish, compile_base, add_function, add_plain_function, compile_function_definition, model_of, get_local_value}
use Rattle.definition.specs.Book.{find_model_by, find_model_in, find_model_index_by_local_name, insert_methods, add_methods, compile_methods, model_count}
use Rattle.definition.specs.Book.{function_count}
use Rattle.definition.specs.Book.{compile_implement_definition, methods_in, methods_of, compile_apply_definition, compile_definition, compile_definitions}
use Rattle.definition.specs.Book.{opened}
use Rattle.definition.specs.Within.{All, nil, ◌&◌}
use Rattle.definition.specs.ProgramCheck.{value_known}
use Rattle.definition_laws.proofs.Lists.{all_append, cond_case}
use Rattle.definition_laws.proofs.Tests.{Test, passes}
use Rattle.definition_laws.proofs.Program.{added_case}
use Rattle.definition_laws.proofs.Ranges.{IsText, Ranged, ranged_text, leaf_kind, headed_kind}
use Rattle.definition_laws.proofs.KnownSteps.{KnownCode, Admits, KnownToken, KnownWork, function_known, leaf, headed}
use Rattle.definition_laws.proofs.DistinctKeys.{Distinct, none_left, OtherName, OtherMethod, all_insert_entry, distinct_insert_entry}
use Rattle.definition_laws.proofs.DistinctKeys.{all_insert_method, distinct_insert_methods}

abbrev pub KnownConstant : Constant → Type 0
KnownConstant c = Test (value_known c.kind c.value)

-- what is added is known
admits_known : Admits KnownConstant
admits_known = record {
  integer = λ v. passes;
  float = λ v. passes;
  text = λ v h. record { holds = h.holds };
  model = λ v. passes;
  function = λ v. passes;
}

pub record KnownFunction (f : Function) : Type 0 where
  pub code : KnownCode f.state.code
  pub name : IsText f.name

pub record KnownModel (m : Model) : Type 0 where
  pub properties : All IsText m.properties
  pub name : IsText m.name

-- entries whose names are texts
abbrev pub TextNames : List Entry → Type 0
TextNames es = All (λ (e : Entry). IsText e.name) es

-- what a compiling adds to: constants, functions, models, methods, context locals' names; and the public names of the book with index n
pub record KnownParts (cs : List Constant) (fs : List Function) (ms : List Model) (ts : List Method) (ns : List Entry) : Type 0 where
  pub constants : All KnownConstant cs
  pub functions : All KnownFunction fs
  pub models : All KnownModel ms
  pub methods : All (λ (m : Method). IsText m.name) ts
  pub distinct : Distinct OtherMethod ts
  pub names : TextNames ns

abbrev pub KnownPartsOf : Context → Type 0
KnownPartsOf c = KnownParts c.pool.constants c.program.functions c.program.models c.program.methods c.locals.names

pub record KnownPublics (n i : ℕ) (es : List Entry) : Type 0 where
  pub index : i ≡ n
  pub names : TextNames es
  pub distinct : Distinct OtherName es

pub record KnownBook (n : ℕ) (b : Book.Book) : Type 0 where
  pub parts : KnownPartsOf b.context
  pub publics : KnownPublics n b.assembly.index b.assembly.publics

-- errors are of no account here
abbrev AnyError : Error → Type 0
AnyError e = Unit {0}

all_errors : (es : List Error) → All AnyError es
all_errors [] = nil
all_errors (e ∷ es) = tt & all_errors es

module _ (n : ℕ) where
  known_constant : (c : Constant) (b : Book.Book) → KnownConstant c → KnownBook n b → KnownBook n (add_book_constant c b).book
  known_constant c b h k =
      added_case (λ (a : Added). KnownBook n (resumed a.work b)) c (working b)
      (record {
        parts = record {
          constants = all_append k.parts.constants (h & nil);
          functions = k.parts.functions;
          models = k.parts.models;
          methods = k.parts.methods;
          distinct = k.parts.distinct;
          names = k.parts.names;
        };
        publics = k.publics;
      })
      (λ i l. record { parts = k.parts; publics = k.publics })

  known_define : (name : ℕ) (b : Book.Book) → IsText name → KnownBook n b → KnownBook n (define_context_local name b).book
  unfolding define_context_local
  known_define name b h k = go (find_name name b.compiler.locals)
    where
      go : (o : Option ℕ) → KnownBook n (define_context_local_by o name b).book
      go none = record {
        parts = record {
          constants = k.parts.constants;
          functions = k.parts.functions;
          models = k.parts.models;
          methods = k.parts.methods;
          distinct = k.parts.distinct;
          names = all_append k.parts.names (h & nil);
        };
        publics = k.publics;
      }
      go (some i) = k

  known_value : (o : Option ℕ) (c : ℕ) (b : Book.Book) → KnownBook n b → KnownBook n (set_local_value o c b)
  known_value none c b k = k
  known_value (some i) c b k = record { parts = k.parts; publics = k.publics }

  known_give : (p o : Option ℕ) (b : Book.Book) → KnownBook n b → KnownBook n (give_value p o b)
  known_give p none b k = k
  known_give p (some c) b k = known_value p c b k

  -- an error, or a note: nothing of these parts
  known_find : (t : Token) (b : Book.Book) → KnownBook n b → KnownBook n (find_model_index_by_local_name t b).book
  unfolding find_model_index_by_local_name
  known_find t b k = outer (find_name t.value b.compiler.locals)
    where
      inner : (o : Option ℕ) → KnownBook n (find_model_by o t b).book
      inner none = record { parts = k.parts; publics = k.publics }
      inner (some m) = k

      outer : (o : Option ℕ) → KnownBook n (find_model_in o t b).book
      outer none = record { parts = k.parts; publics = k.publics }
      outer (some local) = inner (model_of (get_local_value local b.context))

  known_add_model : (ps : List ℕ) (name : ℕ) (b : Book.Book) → All IsText ps → IsText name → KnownBook n b → KnownBook n (add_model ps name b)
  known_add_model ps name b p h k = record {
    parts = record {
      constants = k.parts.constants;
      functions = k.parts.functions;
      models = all_append k.parts.models (record { properties = p; name = h } & nil);
      methods = k.parts.methods;
      distinct = k.parts.distinct;
      names = k.parts.names;
    };
    publics = k.publics;
  }

  known_publish : (name : ℕ) (p : Placed) → IsText name → KnownBook n p.book → KnownBook n (publish name p)
  known_publish name p h k = record {
    parts = k.parts;
    publics = record {
      index = k.publics.index;
      names = all_insert_entry (record { name = name; index = p.place }) h k.publics.names;
      distinct = distinct_insert_entry (record { name = name; index = p.place }) k.publics.distinct;
    };
  }

  known_add_function : (s : FunctionState) (name : ℕ) (b : Book.Book) → KnownCode s.code → IsText name → KnownBook n b → KnownBook n (add_function s name b)
  known_add_function s name b c h k = record {
    parts = record {
      constants = k.parts.constants;
      functions = all_append k.parts.functions (record { code = c; name = h } & nil);
      models = k.parts.models;
      methods = k.parts.methods;
      distinct = k.parts.distinct;
      names = k.parts.names;
    };
    publics = k.publics;
  }

  all_insert_methods : (m : ℕ) (es : List Entry) (l : List Method) → TextNames es → All (λ (x : Method). IsText x.name) l
      → All (λ (x : Method). IsText x.name) (insert_methods m es l)
  all_insert_methods m [] l nil q = q
  all_insert_methods m (e ∷ es) l (p & ps) q =
      all_insert_methods m es _ ps (all_insert_method (record { model = m; name = e.name; function = e.index }) p q)

  known_add_methods : (o : Option ℕ) (es : List Entry) (b : Book.Book) → TextNames es → KnownBook n b → KnownBook n (add_methods o es b)
  known_add_methods none es b h k = k
  known_add_methods (some m) es b h k = record {
    parts = record {
      constants = k.parts.constants;
      functions = k.parts.functions;
      models = k.parts.models;
      methods = all_insert_methods m es b.context.program.methods h k.parts.methods;
      distinct = distinct_insert_methods m es k.parts.distinct;
      names = k.parts.names;
    };
    publics = k.publics;
  }

  methods_in_lem : (m : ℕ) (l : List Method) → All (λ (x : Method). IsText x.name) l → TextNames (methods_in m l)
  methods_in_lem m [] nil = nil
  methods_in_lem m (x ∷ l) (p & ps) = cond_case TextNames (eqb x.model m) (λ t. p & methods_in_lem m l ps) (λ t. methods_in_lem m l ps)

  methods_of_lem : (o : Option ℕ) (c : Context) → KnownPartsOf c → TextNames (methods_of o c)
  methods_of_lem none c k = nil
  methods_of_lem (some m) c k = methods_in_lem m c.program.methods k.methods

-- the definitions that stand in words whose tokens are in range

module _ (w : List ℕ) (here : (i : ℕ) → 0 < span_at w i → KnownToken AnyError (token_at w i)) (n : ℕ) where
  name_text : {i : ℕ} {t : Token} → Leaf w i 40 t → IsText t.value
  name_text L = ranged_text 40 (leaf w here admits_known L).range (leaf_kind L) refl refl

  headed_text : {i s : ℕ} {t : Token} (k : ℕ) → Headed w i k s t → 0 < s → KnownToken AnyError t × (t.kind ≡ k)
  headed_text k L l = (headed w here admits_known L l, headed_kind L)

  alias_known : (file : ℕ) (a : Alias) (i : ℕ) → AliasAt a w i → (b : Book.Book) → KnownBook n b → KnownBook n (compile_alias file a b)
  unfolding compile_alias
  alias_known file a i x b k =
      let d = define_context_local a.alias.value b in
      known_give n d.place (included_name file a.public_name.value b.context) d.book (known_define n a.alias.value b (name_text x.1) k)

  includes_known : (file : ℕ) (l : List Alias) (i : ℕ) → RunAt AliasAt double l w i → (b : Book.Book) → KnownBook n b
      → KnownBook n (compile_include_definition file l b)
  unfolding compile_include_definition RunAt
  includes_known file [] i x b k = k
  includes_known file (a ∷ l) i x b k = includes_known file l (i + 2) x.1 (compile_alias file a b) (alias_known file a i x.0 b k)

  include_known : (index file : ℕ) (l : List Alias) (i : ℕ) → RunAt AliasAt double l w i → (b : Book.Book) → KnownBook n b
      → KnownBook n (compile_include index file l b)
  unfolding compile_include
  include_known index file l i x b k =
      cond_case (KnownBook n) (gives_values file l b.context) (λ t. includes_known file l i x b k) (λ t. record { parts = k.parts; publics = k.publics })

  -- the constant of a local's value is an integer or a float
  abbrev KnownValue : Value → Type 0
  KnownValue (Standing c) = Unit {0}
  KnownValue (Adding c) = KnownConstant c
  KnownValue NoConstant = Unit {0}

  value_of_known : (t : Token) → KnownValue (value_of t)
  value_of_known t =
      cond_case KnownValue (eqb t.kind 32) (λ h. tt)
      (λ h. cond_case KnownValue (eqb t.kind 36) (λ h. tt)
      (λ h. cond_case KnownValue (eqb t.kind 33) (λ h. passes)
      (λ h. cond_case KnownValue (eqb t.kind 34) (λ h. passes) (λ h. tt))))

  value_known_lem : (v : Value) → KnownValue v → (t : Token) (o : Option ℕ) (b : Book.Book) → KnownBook n b → KnownBook n (compile_value v t o b)
  value_known_lem (Standing c) h t o b k = known_value n o c b k
  value_known_lem (Adding c) h t o b k = let a = add_book_constant c b in known_value n o a.place a.book (known_constant n c b h k)
  value_known_lem NoConstant h t o b k = record { parts = k.parts; publics = k.publics }

  binding_known : (x : Binding) (i : ℕ) → BindingAt x w i → (b : Book.Book) → KnownBook n b → KnownBook n (compile_binding x b)
  unfolding compile_binding
  binding_known x i X b k =
      let d = define_context_local x.variable.value b in
      go d.place x.value d.book (known_define n x.variable.value b (name_text X.0) k)
    where
      go : (o : Option ℕ) (v : Option Token) (b : Book.Book) → KnownBook n b → KnownBook n (compile_binding_by o v b)
      go none v b k = k
      go (some j) none b k = k
      go (some j) (some t) b k = value_known_lem (value_of t) (value_of_known t) t (some j) b k

  locals_known : (l : List Binding) (i : ℕ) → RunAt BindingAt double l w i → (b : Book.Book) → KnownBook n b → KnownBook n (compile_local_definition l b)
  unfolding compile_local_definition RunAt
  locals_known [] i x b k = k
  locals_known (y ∷ l) i x b k = locals_known l (i + 2) x.1 (compile_binding y b) (binding_known y i x.0 b k)

  -- models

  record KnownProperties (p : Properties) : Type 0 where
    texts : All IsText p.texts
    book : KnownBook n p.book

  property_known : (t : Token) (ps : List ℕ) (b : Book.Book) → IsText t.value → All IsText ps → KnownBook n b → KnownProperties (add_property t ps b)
  property_known t ps b h p k =
      cond_case KnownProperties (has_text t.value ps) (λ q. record { texts = p; book = record { parts = k.parts; publics = k.publics } })
      (λ q. record { texts = all_append p (h & nil); book = record { parts = k.parts; publics = k.publics } })

  properties_known : (ts : List Token) (i : ℕ) → RunAt NameAt single ts w i → (ps : List ℕ) (b : Book.Book) → All IsText ps → KnownBook n b
      → KnownProperties (compile_properties ts ps b)
  unfolding compile_properties RunAt
  properties_known [] i x ps b p k = record { texts = p; book = k }
  properties_known (t ∷ ts) i x ps b p k =
      let a = add_property t ps b in
      let q = property_known t ps b (name_text x.0) p k in
      properties_known ts (i + 1) x.1 a.texts a.book q.texts q.book

  model_known : (t : Token) → IsText t.value → (ts : List Token) (i : ℕ) → RunAt NameAt single ts w i → (b : Book.Book) → KnownBook n b
      → KnownBook n (compile_model_definition t ts b).book
  unfolding compile_model_definition
  model_known t h ts i x b k =
      let p = compile_properties ts [] b in
      let q = properties_known ts i x [] b nil k in
      let c = constant_of model_kind (model_count p.book.context) in
      let b₂ = add_model p.texts t.value p.book in
      let k₂ = known_add_model n p.texts t.value p.book q.texts h q.book in
      let a = add_book_constant c b₂ in
      let d = define_context_local t.value a.book in
      known_value n d.place a.place d.book (known_define n t.value a.book h (known_constant n c b₂ passes k₂))

  -- functions

  record KnownMade (m : Made) : Type 0 where
    code : KnownCode m.state.code
    book : KnownBook n m.book

  base_known : (f : FunctionDefinition) (k i : ℕ) → FunctionAt k f w i → (b : Book.Book) → KnownBook n b → KnownMade (compile_base f b)
  unfolding compile_base
  base_known f k i x b h =
      let r : KnownWork AnyError KnownConstant (compile_function_definition_base f.parameters f.body (working b)) =
      function_known w here admits_known f k i x (working b) h.parts.constants (all_errors b.compiler.errors) in
      record {
        code = r.code;
        book = record {
          parts = record {
            constants = r.constants;
            functions = h.parts.functions;
            models = h.parts.models;
            methods = h.parts.methods;
            distinct = h.parts.distinct;
            names = h.parts.names;
          };
          publics = h.publics;
        };
      }

  plain_known : (o : Option ℕ) (s : FunctionState) (name : ℕ) (b : Book.Book) → KnownCode s.code → IsText name → KnownBook n b
      → KnownBook n (add_plain_function o s name b).book
  unfolding add_plain_function
  plain_known o s name b c h k =
      let q = constant_of function_kind (function_count b.context) in
      let b₁ = add_function s name b in
      let a = add_book_constant q b₁ in
      let r = known_value n o a.place a.book (known_constant n q b₁ passes (known_add_function n s name b c h k)) in
      cond_case (KnownBook n) (eqb name 1) (λ t. record { parts = r.parts; publics = r.publics }) (λ t. r)

  function_text : (f : FunctionDefinition) (k i : ℕ) → FunctionAt k f w i → (KnownToken AnyError f.name) × (f.name.kind ≡ k)
  function_text f k i x = headed_text k x.headed (omega arith)

  function_definition_known : (f : FunctionDefinition) (k i : ℕ) → FunctionAt k f w i → IsText f.name.value → (b : Book.Book) → KnownBook n b
      → KnownBook n (compile_function_definition f b).book
  unfolding compile_function_definition
  function_definition_known f k i x t b h =
      let d = define_context_local f.name.value b in
      let m = compile_base f d.book in
      let r = base_known f k i x d.book (known_define n f.name.value b t h) in
      cond_case (λ (p : Placed). KnownBook n p.book) m.state.header.is_instance
      (λ q. record { parts = r.book.parts; publics = r.book.publics })
      (λ q. plain_known d.place m.state f.name.value m.book r.code t r.book)

  -- implement and apply

  record KnownMethods (m : Methods) : Type 0 where
    entries : TextNames m.entries
    book : KnownBook n m.book

  methods_known : (fs : List FunctionDefinition) (i : ℕ) → RunAt (FunctionAt 14) size_f fs w i → (es : List Entry) (b : Book.Book) → TextNames es → KnownBook n
      b
      → KnownMethods (compile_methods fs es b)
  unfolding compile_methods RunAt
  methods_known [] i x es b e k = record { entries = e; book = k }
  methods_known (f ∷ fs) i x es b e k =
      let m = compile_base f b in
      let r = base_known f 14 i x.0 b k in
      let (g, q) = function_text f 14 i x.0 in
      let t : IsText f.name.value = ranged_text 14 g.range q refl refl in
      let entry : Entry = record { name = f.name.value; index = function_count m.book.context } in
      methods_known fs (i + size_f f) x.1 (insert_entry entry es) (add_function m.state f.name.value m.book) (all_insert_entry entry t e)
      (known_add_function n m.state f.name.value m.book r.code t r.book)

  definition_known : (d : Definition) (i : ℕ) → DefinitionAt d w i → (b : Book.Book) → KnownBook n b → KnownBook n (compile_definition d b)
  unfolding compile_definition DefinitionAt compile_implement_definition compile_apply_definition
  definition_known (LocalDefinition l) i x b k = locals_known l (i + 1) x.1 b k
  definition_known (IncludeDefinition index t l) i x b k = include_known index t.value l (i + 1) x.1 b k
  definition_known (ModelDefinition t ns) i x b k =
      let (g, q) = headed_text 12 x.0 (omega arith) in
      model_known t (ranged_text 12 g.range q refl refl) ns (i + 1) x.1 b k
  definition_known (PublicModelDefinition t ns) i x b k =
      let (g, q) = headed_text 13 x.0 (omega arith) in
      let h : IsText t.value = ranged_text 13 g.range q refl refl in
      known_publish n t.value (compile_model_definition t ns b) h (model_known t h ns (i + 1) x.1 b k)
  definition_known (PlainFunction f) i x b k =
      let (g, q) = function_text f 14 i x in
      function_definition_known f 14 i x (ranged_text 14 g.range q refl refl) b k
  definition_known (PublicFunction f) i x b k =
      let (g, q) = function_text f 15 i x in
      let h : IsText f.name.value = ranged_text 15 g.range q refl refl in
      known_publish n f.name.value (compile_function_definition f b) h (function_definition_known f 15 i x h b k)
  definition_known (ImplementDefinition t fs) i x b k =
      let c = compile_methods fs [] b in
      let d = find_model_index_by_local_name t c.book in
      let r = methods_known fs (i + 1) x.1 [] b nil k in
      known_add_methods n d.place c.entries d.book r.entries (known_find n t c.book r.book)
  definition_known (ApplyDefinition s t) i x b k =
      let d = find_model_index_by_local_name s b in
      let e = find_model_index_by_local_name t d.book in
      let r = known_find n s b k in
      known_add_methods n e.place (methods_of d.place d.book.context) e.book (methods_of_lem n d.place d.book.context r.parts)
      (known_find n t d.book r)

  definitions_known : (ds : List Definition) (i : ℕ) → RunAt DefinitionAt size_d ds w i → (b : Book.Book) → KnownBook n b → KnownBook n
      (compile_definitions ds b)
  unfolding compile_definitions RunAt
  definitions_known [] i x b k = k
  definitions_known (d ∷ ds) i x b k = definitions_known ds (i + size_d d) x.1 (compile_definition d b) (definition_known d i x.0 b k)

-- a book from its opening to its last definition
pub document_known : (w : List ℕ) → ((i : ℕ) → 0 < span_at w i → Ranged (token_at w i)) → (d : Document) (i : ℕ) → DocumentAt d w i
    → (c : Context) (us : List Use) → KnownPartsOf c → KnownBook (Book.book_count c) (compile_definitions d.definitions (opened d c us))
document_known w ranged d i x c us k =
    definitions_known w (λ j l. record { range = ranged j l; blamed = λ m a b. tt }) (Book.book_count c) d.definitions (i + 1) x.definitions
    (opened d c us) (record { parts = k; publics = record { index = refl; names = nil; distinct = none_left } })

-- its file number is a text
pub document_text : (w : List ℕ) → ((i : ℕ) → 0 < span_at w i → Ranged (token_at w i)) → (d : Document) (i : ℕ) → DocumentAt d w i → IsText d.filename
document_text w ranged d i x =
    let q = x.head.span_is in
    let t : IsText (token_at w i).value = ranged_text 1 (ranged i (omega (arith, q))) x.head.kind_is refl refl in
    subst IsText (sym x.file) t
