-- `backend/compiler.rs`: definitions and documents. A step takes a book under compilation and gives it back
use Rattle.std.specs.Prelude.{ℕ, zero, suc, ◌+◌, Bool, true, false, cond, List, [], ◌∷◌, ◌++◌, length, eqb}
use Rattle.std.proofs.Math.Option.{Option, none, some}
use Rattle.words.specs.Ast.{Token, FunctionDefinition, Binding, Alias, Document}
use Rattle.words.specs.Ast.{Definition, LocalDefinition, IncludeDefinition, ModelDefinition, PublicModelDefinition}
use Rattle.words.specs.Ast.{PlainFunction, PublicFunction, ImplementDefinition, ApplyDefinition}
use Rattle.words.specs.Areas.{functions_area, models_area, properties_area, methods_area, context_locals_area, public_names_area, errors_area}
use Rattle.words.specs.Object.{Constant, constant_of, default_constants, NULL, TRUE, FALSE, integer_kind, float_kind, model_kind, function_kind}
use Rattle.definition.specs.FunctionState.{Entry, FunctionState, new_function_state, find_name}
use Rattle.definition.specs.Prior.{Prior, nothing_stands, book_index, find_public}
use Rattle.definition.specs.Uses.{Use, using', not_public_area, sum_of}
use Rattle.definition.specs.Compiler.{CompilerContext, CompilerState, Work, with_error, add_constant, compile_function_definition_base}

-- `Function` of `runtime/program.rs`, with its name and its file's index of `FileInfo`, and its positions of `DebugInfo`
pub record Function : Type 0 where
  pub state : FunctionState
  pub name : ℕ
  pub file : ℕ

-- `Model`, with its name and its file's index; its methods stand in the context
pub record Model : Type 0 where
  pub properties : List ℕ
  pub name : ℕ
  pub file : ℕ

-- a model's method: an entry of `Model::functions`
pub record Method : Type 0 where
  pub model : ℕ
  pub name : ℕ
  pub function : ℕ

-- `AssemblyState`: its public names in the order in which each first came
pub record Assembly : Type 0 where
  pub filename : ℕ
  pub index : ℕ
  pub publics : List Entry

-- of the Rust's `Program`. methods: those of all models, in the order in which each first came
pub record ProgramParts : Type 0 where
  pub models : List Model
  pub methods : List Method
  pub functions : List Function
  pub entry_point : ℕ

-- values: context local, constant. names: each context local's name and its book's index, which area 7 keeps though the Rust drops its books' `locals`
pub record ContextLocals : Type 0 where
  pub values : List Entry
  pub names : List Entry

-- the Rust's `CompilerContext`; `pool` is what functions need of it. prior: what stood before a bundle (2026-01). Constants, marks and methods are whole
-- lists, those that stood first; models, functions, context locals' names and values, and assemblies are those added, and their indices go on from
-- what stood. strict: the mode, 'chosen for the whole bundle' (2026-07); no step changes it
pub record Context : Type 0 where
  pub pool : CompilerContext
  pub prior : Prior
  pub strict : Bool
  pub program : ProgramParts
  pub locals : ContextLocals
  pub assemblies : List Assembly

-- the Rust's `CompilerState` and `CompilerContext` together; `uses`: the entries in use so far, the newest note first
pub record Book : Type 0 where
  pub compiler : CompilerState
  pub assembly : Assembly
  pub context : Context
  pub uses : List Use

abbrev pub BookStep : Type 0
BookStep = Book → Book

-- `CompilerContext::new`, in a mode
abbrev pub new_context : Bool → Context
new_context strict = record {
  pool = record { constants = default_constants; globals = []; local_count = 0 };
  prior = nothing_stands;
  strict = strict;
  program = record { models = []; methods = []; functions = []; entry_point = 0 };
  locals = record { values = []; names = [] };
  assemblies = [];
}

-- one field anew
abbrev pub with_pool : CompilerContext → Context → Context
with_pool p c = record { pool = p; prior = c.prior; strict = c.strict; program = c.program; locals = c.locals; assemblies = c.assemblies }

abbrev pub with_program : ProgramParts → Context → Context
with_program p c = record { pool = c.pool; prior = c.prior; strict = c.strict; program = p; locals = c.locals; assemblies = c.assemblies }

abbrev pub with_locals : ContextLocals → Context → Context
with_locals l c = record { pool = c.pool; prior = c.prior; strict = c.strict; program = c.program; locals = l; assemblies = c.assemblies }

abbrev pub with_assemblies : List Assembly → Context → Context
with_assemblies a c = record { pool = c.pool; prior = c.prior; strict = c.strict; program = c.program; locals = c.locals; assemblies = a }

abbrev pub with_models : List Model → Context → Context
with_models m c =
    let p = c.program in
    with_program (record { models = m; methods = p.methods; functions = p.functions; entry_point = p.entry_point }) c

abbrev pub with_methods : List Method → Context → Context
with_methods l c =
    let p = c.program in
    with_program (record { models = p.models; methods = l; functions = p.functions; entry_point = p.entry_point }) c

abbrev pub with_functions : List Function → Context → Context
with_functions f c =
    let p = c.program in
    with_program (record { models = p.models; methods = p.methods; functions = f; entry_point = p.entry_point }) c

abbrev pub with_entry_point : ℕ → Context → Context
with_entry_point n c =
    let p = c.program in
    with_program (record { models = p.models; methods = p.methods; functions = p.functions; entry_point = n }) c

abbrev pub with_local_values : List Entry → Context → Context
with_local_values v c = with_locals (record { values = v; names = c.locals.names }) c

abbrev pub with_local_names : List Entry → Context → Context
with_local_names n c = with_locals (record { values = c.locals.values; names = n }) c

-- in another mode
abbrev pub in_mode : Bool → Context → Context
in_mode strict c =
    record { pool = c.pool; prior = c.prior; strict = strict; program = c.program; locals = c.locals; assemblies = c.assemblies }

abbrev pub with_context : Context → BookStep
with_context c b = record { compiler = b.compiler; assembly = b.assembly; context = c; uses = b.uses }

-- n entries of an area are in use
abbrev pub noted : ℕ → ℕ → BookStep
noted area n b = record { compiler = b.compiler; assembly = b.assembly; context = b.context; uses = using' area n ∷ b.uses }

-- `push_error`
abbrev pub push_book_error : ℕ → Token → BookStep
push_book_error n t b =
    noted errors_area (length b.compiler.errors + 1)
    (record { compiler = with_error n t b.compiler; assembly = b.assembly; context = b.context; uses = b.uses })

-- how many instructions functions have, properties models, and public names books
abbrev pub code_of : List Function → ℕ
code_of fs = sum_of (λ f. length f.state.code.instructions) fs

abbrev pub properties_of : List Model → ℕ
properties_of ms = sum_of (λ m. length m.properties) ms

abbrev pub publics_of : List Assembly → ℕ
publics_of as' = sum_of (λ a. length a.publics) as'

-- the entries of areas 1, 3, 4, 5, 8 and 12, those that stood before and those added; the public names are those of the books before this one
abbrev pub code_count : Context → ℕ
code_count c = length c.prior.code + code_of c.program.functions

abbrev pub function_count : Context → ℕ
function_count c = length c.prior.functions + length c.program.functions

abbrev pub model_count : Context → ℕ
model_count c = length c.prior.models + length c.program.models

abbrev pub property_count : Context → ℕ
property_count c = length c.prior.properties + properties_of c.program.models

abbrev pub public_count : Context → ℕ
public_count c = length c.prior.publics + publics_of c.assemblies

abbrev pub book_count : Context → ℕ
book_count c = length c.prior.books + length c.assemblies

-- the states that functions and constants work on, and back
abbrev pub working : Book → Work
working b = record {
  compiler = b.compiler;
  context = b.context.pool;
  function = new_function_state;
  before = code_count b.context;
  uses = b.uses;
}

abbrev pub resumed : Work → Book → Book
resumed w b = record { compiler = w.compiler; assembly = b.assembly; context = with_pool w.context b.context; uses = w.uses }

-- a constant's number, with the book
pub record Placed : Type 0 where
  pub place : ℕ
  pub book : Book

-- `add_constant`
abbrev pub add_book_constant : Constant → Book → Placed
add_book_constant c b = let a = add_constant c (working b) in record { place = a.index; book = resumed a.work b }

-- what may be found, with the book
pub record MaybePlaced : Type 0 where
  pub place : Option ℕ
  pub book : Book

-- a name for the next context local: in the names of this book, and in those of all
abbrev pub with_local_name : ℕ → Book → Book
with_local_name n b =
    let index = b.context.pool.local_count in
    record {
      compiler = record { locals = b.compiler.locals ++ (record { name = n; index = index } ∷ []); errors = b.compiler.errors };
      assembly = b.assembly;
      context = with_local_names (b.context.locals.names ++ (record { name = n; index = b.assembly.index } ∷ []))
          (with_pool (record { constants = b.context.pool.constants; globals = b.context.pool.globals; local_count = index + 1 }) b.context);
      uses = b.uses;
    }

abbrev pub define_context_local_by : Option ℕ → ℕ → Book → MaybePlaced
define_context_local_by (some i) n b = record { place = none; book = b }
define_context_local_by none n b = record {
  place = some b.context.pool.local_count;
  book = noted context_locals_area (b.context.pool.local_count + 1) (with_local_name n b);
}

-- `define_local` and `define_local_by_identifier` of `CompilerState`: a name that is there keeps its local, without error
unfoldable pub define_context_local : ℕ → Book → MaybePlaced
define_context_local n b = define_context_local_by (find_name n b.compiler.locals) n b

-- a map's insert: one entry for a name
abbrev pub insert_entry : Entry → List Entry → List Entry
insert_entry e [] = e ∷ []
insert_entry e (x ∷ xs) = cond (eqb x.name e.name) (e ∷ xs) (x ∷ insert_entry e xs)

-- `local_values.insert`
abbrev pub set_local_value : Option ℕ → ℕ → BookStep
set_local_value none constant b = b
set_local_value (some i) constant b =
    let values = insert_entry (record { name = i; index = constant }) b.context.locals.values in
    with_context (with_local_values values b.context) b

-- includes

abbrev pub find_assembly : ℕ → List Assembly → Option Assembly
find_assembly n [] = none
find_assembly n (a ∷ as') = cond (eqb a.filename n) (some a) (find_assembly n as')

-- `public_indices.get`
abbrev pub public_of : Option Assembly → ℕ → Option ℕ
public_of none n = none
public_of (some a) n = find_name n a.publics

-- a public name of a file: of the book that stood before, if one did
abbrev pub included_from : Option ℕ → ℕ → ℕ → Context → Option ℕ
included_from (some book) file name c = find_public book name c.prior.publics
included_from none file name c = public_of (find_assembly file c.assemblies) name

-- one constant more, where there is one and the others are there
abbrev pub with_constant : Option ℕ → Option (List ℕ) → Option (List ℕ)
with_constant none cs = none
with_constant (some c) none = none
with_constant (some c) (some cs) = some (c ∷ cs)

-- 2026-07: 'The rule for one name and the rule for the list are to be one definition': the constants of all names, or none where one of them is not public
-- in that file
abbrev pub included_names : ℕ → List ℕ → Context → Option (List ℕ)
included_names file [] c = some []
included_names file (n ∷ ns) c = with_constant (included_from (book_index file 0 c.prior.books) file n c) (included_names file ns c)

abbrev pub only_one : Option (List ℕ) → Option ℕ
only_one none = none
only_one (some []) = none
only_one (some (c ∷ cs)) = some c

-- `find_constant_index_by_include`: the case of one name
abbrev pub included_name : ℕ → ℕ → Context → Option ℕ
included_name file name c = only_one (included_names file (name ∷ []) c)

abbrev pub give_value : Option ℕ → Option ℕ → BookStep
give_value local none b = b
give_value local (some c) b = set_local_value local c b

-- a pair of an include: an unfound public name leaves its local without value
unfoldable pub compile_alias : ℕ → Alias → BookStep
compile_alias file a b =
    let d = define_context_local a.alias.value b in
    give_value d.place (included_name file a.public_name.value b.context) d.book

-- `compile_include_definition`
unfoldable pub compile_include_definition : ℕ → List Alias → BookStep
compile_include_definition file [] b = b
compile_include_definition file (a ∷ as') b = compile_include_definition file as' (compile_alias file a b)

-- the names that an include lists, repeated ones too, whether or not their aliases are there already
abbrev pub public_names : List Alias → List ℕ
public_names [] = []
public_names (a ∷ as') = a.public_name.value ∷ public_names as'

abbrev pub is_there : Option (List ℕ) → Bool
is_there none = false
is_there (some cs) = true

-- 'an include gives values only if every name it lists is public in that file' (strict); in the present mode any include gives those that are
abbrev pub gives_values : ℕ → List Alias → Context → Bool
gives_values file as' c = cond c.strict (is_there (included_names file (public_names as') c)) true

-- 'otherwise no alias gets one and the bundle is refused': row 11 'as that include is reached', ahead of what the include itself would take. It is noted in
-- its place among the steps of row 9, as an entry of an area that is not there and so has room for none (Uses.antt, `not_public_area`)
unfoldable pub compile_include : ℕ → ℕ → List Alias → BookStep
compile_include index file as' b =
    cond (gives_values file as' b.context) (compile_include_definition file as' b) (noted (not_public_area index) 1 b)

-- local definitions

-- what a local's value is: a constant that stands, one to add, or none (error 5)
pub data Value : Type 0 where
  Standing : ℕ → Value
  Adding : Constant → Value
  NoConstant : Value

-- by the value's kind: 32 null, 36 boolean, 33 integer, 34 float; 30, 35 and 47 are none
abbrev pub value_of : Token → Value
value_of t =
    cond (eqb t.kind 32) (Standing NULL)
    (cond (eqb t.kind 36) (Standing (cond (eqb t.value 1) TRUE FALSE))
    (cond (eqb t.kind 33) (Adding (constant_of integer_kind t.value))
    (cond (eqb t.kind 34) (Adding (constant_of float_kind t.value)) NoConstant)))

abbrev pub compile_value : Value → Token → Option ℕ → BookStep
compile_value (Standing c) t local b = set_local_value local c b
compile_value (Adding c) t local b = let a = add_book_constant c b in set_local_value local a.place a.book
compile_value NoConstant t local b = push_book_error 5 t b

-- a repeated name is passed over before its value is looked at
abbrev pub compile_binding_by : Option ℕ → Option Token → BookStep
compile_binding_by none value b = b
compile_binding_by (some i) none b = b
compile_binding_by (some i) (some t) b = compile_value (value_of t) t (some i) b

unfoldable pub compile_binding : Binding → BookStep
compile_binding x b = let d = define_context_local x.variable.value b in compile_binding_by d.place x.value d.book

-- `compile_local_definition`
unfoldable pub compile_local_definition : List Binding → BookStep
compile_local_definition [] b = b
compile_local_definition (x ∷ xs) b = compile_local_definition xs (compile_binding x b)

-- models

-- whether a number is among numbers
abbrev pub has_text : ℕ → List ℕ → Bool
has_text n [] = false
has_text n (x ∷ xs) = cond (eqb x n) true (has_text n xs)

pub record Properties : Type 0 where
  pub texts : List ℕ
  pub book : Book

-- `Model::add_property`: a name that is there already is error 6 and takes no entry
abbrev pub add_property : Token → List ℕ → Book → Properties
add_property t ps b =
    cond (has_text t.value ps)
    (record { texts = ps; book = push_book_error 6 t b })
    (record { texts = ps ++ (t.value ∷ []); book = noted properties_area (property_count b.context + length ps + 1) b })

unfoldable pub compile_properties : List Token → List ℕ → Book → Properties
compile_properties [] ps b = record { texts = ps; book = b }
compile_properties (t ∷ ts) ps b = let a = add_property t ps b in compile_properties ts a.texts a.book

-- `add_model`
abbrev pub add_model : List ℕ → ℕ → BookStep
add_model properties name b =
    noted models_area (model_count b.context + 1)
    (with_context (with_models (b.context.program.models ++ (record { properties = properties; name = name; file = b.assembly.index } ∷ [])) b.context) b)

-- `compile_model_definition`: the properties one by one, the model, its constant, its context local
unfoldable pub compile_model_definition : Token → List Token → Book → Placed
compile_model_definition name properties b =
    let p = compile_properties properties [] b in
    let b₁ = p.book in
    let modelIndex = model_count b₁.context in
    let b₂ = add_model p.texts name.value b₁ in
    let a = add_book_constant (constant_of model_kind modelIndex) b₂ in
    let d = define_context_local name.value a.book in
    record { place = a.place; book = set_local_value d.place a.place d.book }

abbrev pub with_publics : List Entry → BookStep
with_publics ps b = record {
  compiler = b.compiler;
  assembly = record { filename = b.assembly.filename; index = b.assembly.index; publics = ps };
  context = b.context;
  uses = b.uses;
}

-- `public_indices.insert`: the last value wins
abbrev pub publish : ℕ → Placed → Book
publish name p =
    let b = p.book in
    let publics = insert_entry (record { name = name; index = p.place }) b.assembly.publics in
    noted public_names_area (public_count b.context + length publics) (with_publics publics b)

-- functions

pub record Made : Type 0 where
  pub state : FunctionState
  pub book : Book

-- a function compiled in the book's states
unfoldable pub compile_base : FunctionDefinition → Book → Made
compile_base f b = let w = compile_function_definition_base f.parameters f.body (working b) in record { state = w.function; book = resumed w b }

-- `add_function`
abbrev pub add_function : FunctionState → ℕ → BookStep
add_function s name b =
    noted functions_area (function_count b.context + 1)
    (with_context (with_functions (b.context.program.functions ++ (record { state = s; name = name; file = b.assembly.index } ∷ [])) b.context) b)

-- the rest of `compile_function_definition`: the last `main`, text 1, is the entry point
unfoldable pub add_plain_function : Option ℕ → FunctionState → ℕ → Book → Placed
add_plain_function local s name b =
    let functionIndex = function_count b.context in
    let a = add_book_constant (constant_of function_kind functionIndex) (add_function s name b) in
    let b₁ = set_local_value local a.place a.book in
    record { place = a.place; book = cond (eqb name 1) (with_context (with_entry_point functionIndex b₁.context) b₁) b₁ }

-- `compile_function_definition`: with a `this` parameter the function is dropped (error 8), and its number is constant 0
unfoldable pub compile_function_definition : FunctionDefinition → Book → Placed
compile_function_definition f b =
    let d = define_context_local f.name.value b in
    let m = compile_base f d.book in
    cond m.state.header.is_instance (record { place = 0; book = push_book_error 8 f.name m.book })
    (add_plain_function d.place m.state f.name.value m.book)

-- implement and apply

abbrev pub model_of : Option Constant → Option ℕ
model_of none = none
model_of (some c) = cond (eqb c.kind model_kind) (some c.value) none

-- `constants.get`
abbrev pub constant_at : List Constant → ℕ → Option Constant
constant_at [] n = none
constant_at (c ∷ cs) zero = some c
constant_at (c ∷ cs) (suc n) = constant_at cs n

abbrev pub value_at : Option ℕ → List Constant → Option Constant
value_at none cs = none
value_at (some i) cs = constant_at cs i

-- `get_local_value`
abbrev pub get_local_value : ℕ → Context → Option Constant
get_local_value local c = value_at (find_name local c.locals.values) c.pool.constants

abbrev pub find_model_by : Option ℕ → Token → Book → MaybePlaced
find_model_by (some m) t b = record { place = some m; book = b }
find_model_by none t b = record { place = none; book = push_book_error 9 t b }

abbrev pub find_model_in : Option ℕ → Token → Book → MaybePlaced
find_model_in none t b = record { place = none; book = push_book_error 10 t b }
find_model_in (some local) t b = find_model_by (model_of (get_local_value local b.context)) t b

-- `find_model_index_by_local_name`
unfoldable pub find_model_index_by_local_name : Token → Book → MaybePlaced
find_model_index_by_local_name t b = find_model_in (find_name t.value b.compiler.locals) t b

-- one entry for a model and a name: the last function wins
abbrev pub same_method : Method → Method → Bool
same_method x y = cond (eqb x.model y.model) (eqb x.name y.name) false

abbrev pub insert_method : Method → List Method → List Method
insert_method e [] = e ∷ []
insert_method e (x ∷ xs) = cond (same_method x e) (e ∷ xs) (x ∷ insert_method e xs)

abbrev pub insert_methods : ℕ → List Entry → List Method → List Method
insert_methods m [] l = l
insert_methods m (e ∷ es) l = insert_methods m es (insert_method (record { model = m; name = e.name; function = e.index }) l)

abbrev pub add_methods : Option ℕ → List Entry → BookStep
add_methods none es b = b
add_methods (some m) es b =
    let methods = insert_methods m es b.context.program.methods in
    noted methods_area (length methods) (with_context (with_methods methods b.context) b)

pub record Methods : Type 0 where
  pub entries : List Entry
  pub book : Book

-- the functions of an implement: the last of a name stays in the map
unfoldable pub compile_methods : List FunctionDefinition → List Entry → Book → Methods
compile_methods [] es b = record { entries = es; book = b }
compile_methods (f ∷ fs) es b =
    let m = compile_base f b in
    compile_methods fs (insert_entry (record { name = f.name.value; index = function_count m.book.context }) es)
    (add_function m.state f.name.value m.book)

-- `compile_implement_definition`
unfoldable pub compile_implement_definition : Token → List FunctionDefinition → BookStep
compile_implement_definition model fs b =
    let c = compile_methods fs [] b in
    let d = find_model_index_by_local_name model c.book in
    add_methods d.place c.entries d.book

-- a model's own
abbrev pub methods_in : ℕ → List Method → List Entry
methods_in m [] = []
methods_in m (x ∷ xs) = let rest = methods_in m xs in cond (eqb x.model m) (record { name = x.name; index = x.function } ∷ rest) rest

abbrev pub methods_of : Option ℕ → Context → List Entry
methods_of none c = []
methods_of (some m) c = methods_in m c.program.methods

-- `compile_apply_definition`: with an unknown source the target is still looked at
unfoldable pub compile_apply_definition : Token → Token → BookStep
compile_apply_definition source target b =
    let d = find_model_index_by_local_name source b in
    let es = methods_of d.place d.book.context in
    let e = find_model_index_by_local_name target d.book in
    add_methods e.place es e.book

-- documents

-- `compile_definition`
unfoldable pub compile_definition : Definition → BookStep
compile_definition (LocalDefinition bs) b = compile_local_definition bs b
compile_definition (IncludeDefinition index file as') b = compile_include index file.value as' b
compile_definition (ModelDefinition n ps) b = (compile_model_definition n ps b).book
compile_definition (PublicModelDefinition n ps) b = publish n.value (compile_model_definition n ps b)
compile_definition (PlainFunction f) b = (compile_function_definition f b).book
compile_definition (PublicFunction f) b = publish f.name.value (compile_function_definition f b)
compile_definition (ImplementDefinition m fs) b = compile_implement_definition m fs b
compile_definition (ApplyDefinition s t) b = compile_apply_definition s t b

-- `compile`
unfoldable pub compile_definitions : List Definition → BookStep
compile_definitions [] b = b
compile_definitions (d ∷ ds) b = compile_definitions ds (compile_definition d b)

-- a book before its first definition
abbrev pub opened : Document → Context → List Use → Book
opened d c uses = record {
  compiler = record { locals = []; errors = [] };
  assembly = record { filename = d.filename; index = book_count c; publics = [] };
  context = c;
  uses = uses;
}

-- `compile_document`: the assembly is put away
unfoldable pub compile_document : Document → Context → List Use → Book
compile_document d c uses =
    let b = compile_definitions d.definitions (opened d c uses) in
    with_context (with_assemblies (b.context.assemblies ++ (b.assembly ∷ [])) b.context) b
