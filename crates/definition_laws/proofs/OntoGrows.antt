-- A delivery of laying on begins with what stood, in every area (`onto_grows`): code, functions, models, properties, context locals, public names and books
-- entry by entry the same; constants with their kinds and values, and no mark taken back; methods with their keys in their order. By the steps of a book:
-- marks are added in front, a method's key is never moved, and nothing else of a standing program is written. Assumes nothing.
use Prim.Native.Nat.{ℕ, zero, suc, ◌+◌, ◌≤◌}
use native.Mathlib.Nat.{le_refl}
use native.Mathlib.Omega.{arith}
use mathlib.Core.Path.{◌≡◌, refl, sym, ap, subst, ◌∙◌}
use mathlib.Core.Bool.{Bool, true, false, cond}
use mathlib.Core.Option.{Option, none, some}
use mathlib.Core.List.{List, [], ◌∷◌, ◌++◌, append_assoc, append-nil}
use lib.ListN.{length, get_or}
use lib.Dec.{T, eqb, eqb→eq}
use Rattle.words.specs.Ast.{Token, Binding, Alias, FunctionDefinition, Definition, LocalDefinition, IncludeDefinition, ModelDefinition}
use Rattle.words.specs.Ast.{PublicModelDefinition, PlainFunction, PublicFunction, ImplementDefinition, ApplyDefinition, Document}
use Rattle.words.specs.Areas.{code_area, constants_area, functions_area, models_area, properties_area, methods_area, context_locals_area, public_names_area}
use Rattle.words.specs.Areas.{books_area}
use Rattle.words.specs.Object.{Constant, constant_of, model_kind, function_kind}
use Rattle.tree.specs.Reading.{documents_of}
use Rattle.definition.specs.FunctionState.{Entry, FunctionState, find_name}
use Rattle.definition.specs.Uses.{Use}
use Rattle.definition.specs.Compiler.{Error}
use Rattle.definition.specs.Prior.{Prior}
use Rattle.definition.specs.Book
use Rattle.definition.specs.Book.{function_count, model_count, Context, Method, Placed, working, add_book_constant, define_context_local}
use Rattle.definition.specs.Book.{define_context_local_by, set_local_value, gives_values, compile_include}
use Rattle.definition.specs.Book.{included_name, give_value, compile_alias, compile_include_definition, Value, Standing, Adding, NoConstant, value_of}
use Rattle.definition.specs.Book.{compile_value, compile_binding_by, compile_binding, compile_local_definition, has_text, Properties, add_property}
use Rattle.definition.specs.Book.{compile_properties, add_model, compile_model_definition, compile_base, add_function, add_plain_function}
use Rattle.definition.specs.Book.{compile_function_definition, model_of, get_local_value, find_model_by, find_model_in, find_model_index_by_local_name}
use Rattle.definition.specs.Book.{same_method}
use Rattle.definition.specs.Book.{insert_method, insert_methods, add_methods, compile_methods, compile_implement_definition, methods_of}
use Rattle.definition.specs.Book.{compile_apply_definition}
use Rattle.definition.specs.Book.{compile_definition, compile_definitions, opened, compile_document}
use Rattle.definition.specs.Program.{Entries, bit, entries_from, constant_entry, method_entry, code_table, constant_table, function_table, model_table}
use Rattle.definition.specs.Program.{property_table, method_table, local_table, public_table, book_table}
use Rattle.definition.specs.DependencySolver.{Worked, Delivered, ready, without, after_book, drive_by, drive, compile_needed}
use Rattle.definition.specs.Answer.{Delivery, answer_from}
use Rattle.definition.specs.Within.{Program, lengths_of}
use Rattle.definition.specs.Onto.{lent_entries, constants_of, marks_from, prior_of, context_of, Checked, lay_on}
use Rattle.definition_laws.proofs.Lists.{cond_case}
use Rattle.definition_laws.proofs.StepPreserves.{PoolGrows, same_pool, not_shared, not_found, MarksGrow, same_marks, mark_more, marks_trans}
use Rattle.definition_laws.proofs.StepPreserves.{preserves_constant, preserves_base}
use Rattle.definition_laws.proofs.SharedOnce.{standing_grows}
use Rattle.definition_laws.proofs.Answer.{delivering}
use Rattle.definition_laws.proofs.Delivery.{standing_prior}
use Rattle.definition_laws.proofs.PassingAreas.{check_passes, lent_wide}
use Rattle.definition_laws.proofs.ReadBack.{methods_back, lent_constants}
use Rattle.definition_laws.proofs.ReadSafe.{read_stands}
use Rattle.definition_laws.proofs.OntoStays.{worked_answer}

-- the keys of methods stay in their order, their functions may be new, and more may follow
pub data MethodsGrow : List Method → List Method → Type 0 where
  more_methods : (ms : List Method) → MethodsGrow [] ms
  same_key : {l m : List Method} (x y : Method) → x.model ≡ y.model → x.name ≡ y.name → MethodsGrow l m → MethodsGrow (x ∷ l) (y ∷ m)

methods_same : (l : List Method) → MethodsGrow l l
methods_same [] = more_methods []
methods_same (x ∷ l) = same_key x x refl refl (methods_same l)

methods_trans : {k l m : List Method} → MethodsGrow k l → MethodsGrow l m → MethodsGrow k m
methods_trans {m = m} (more_methods ms) h = more_methods m
methods_trans (same_key x y a b g) (same_key u z c d h) = same_key x z (a ∙ c) (b ∙ d) (methods_trans g h)

pair_of : (a b : Bool) → T (cond a b false) → T a × T b
pair_of true b t = (tt, t)
pair_of false b t = absurd t

insert_grows : (e : Method) (l : List Method) → MethodsGrow l (insert_method e l)
insert_grows e [] = more_methods (e ∷ [])
insert_grows e (x ∷ l) =
    cond_case (λ (m : List Method). MethodsGrow (x ∷ l) m) (same_method x e)
    (λ t. let (a, b) = pair_of (eqb x.model e.model) (eqb x.name e.name) t in
    same_key x e (eqb→eq x.model e.model a) (eqb→eq x.name e.name b) (methods_same l))
    (λ t. same_key x x refl refl (insert_grows e l))

inserts_grow : (m : ℕ) (es : List Entry) (l : List Method) → MethodsGrow l (insert_methods m es l)
inserts_grow m [] l = methods_same l
inserts_grow m (e ∷ es) l =
    let x : Method = record { model = m; name = e.name; function = e.index } in
    methods_trans (insert_grows x l) (inserts_grow m es (insert_method x l))

-- a book's marks and methods

pub record BookGrows (gs hs : List ℕ) (l m : List Method) : Type 0 where
  pub marks : MarksGrow gs hs
  pub methods : MethodsGrow l m

still : {gs : List ℕ} {l : List Method} → BookGrows gs gs l l
still {gs} {l} = record { marks = same_marks; methods = methods_same l }

book_grows_trans : {fs gs hs : List ℕ} {k l m : List Method} → BookGrows fs gs k l → BookGrows gs hs l m → BookGrows fs hs k m
book_grows_trans a b = record { marks = marks_trans a.marks b.marks; methods = methods_trans a.methods b.methods }

abbrev Adds : Book.Book → Book.Book → Type 0
Adds b b' = BookGrows b.context.pool.globals b'.context.pool.globals b.context.program.methods b'.context.program.methods

adds_constant : (c : Constant) (b : Book.Book) → Adds b (add_book_constant c b).book
adds_constant c b = record { marks = (preserves_constant c (working b)).marks; methods = methods_same b.context.program.methods }

adds_define : (n : ℕ) (b : Book.Book) → Adds b (define_context_local n b).book
unfolding define_context_local
adds_define n b = go (find_name n b.compiler.locals)
  where
    go : (o : Option ℕ) → Adds b (define_context_local_by o n b).book
    go none = still
    go (some i) = still

adds_value : (o : Option ℕ) (c : ℕ) (b : Book.Book) → Adds b (set_local_value o c b)
adds_value none c b = still
adds_value (some i) c b = still

adds_alias : (file : ℕ) (a : Alias) (b : Book.Book) → Adds b (compile_alias file a b)
unfolding compile_alias
adds_alias file a b =
    let d = define_context_local a.alias.value b in
    book_grows_trans (adds_define a.alias.value b) (go d.place (included_name file a.public_name.value b.context) d.book)
  where
    go : (p o : Option ℕ) (b : Book.Book) → Adds b (give_value p o b)
    go p none b = still
    go p (some c) b = adds_value p c b

adds_include : (file : ℕ) (l : List Alias) (b : Book.Book) → Adds b (compile_include_definition file l b)
unfolding compile_include_definition
adds_include file [] b = still
adds_include file (a ∷ l) b = book_grows_trans (adds_alias file a b) (adds_include file l (compile_alias file a b))

adds_include_or_row_11 : (index file : ℕ) (l : List Alias) (b : Book.Book) → Adds b (compile_include index file l b)
unfolding compile_include
adds_include_or_row_11 index file l b = cond_case (λ (x : Book.Book). Adds b x) (gives_values file l b.context) (λ t. adds_include file l b) (λ t. still)

adds_compile_value : (v : Value) (t : Token) (o : Option ℕ) (b : Book.Book) → Adds b (compile_value v t o b)
adds_compile_value (Standing n) t o b = adds_value o n b
adds_compile_value (Adding c) t o b =
    let a = add_book_constant c b in
    book_grows_trans (adds_constant c b) (adds_value o a.place a.book)
adds_compile_value NoConstant t o b = still

adds_binding : (x : Binding) (b : Book.Book) → Adds b (compile_binding x b)
unfolding compile_binding
adds_binding x b =
    let d = define_context_local x.variable.value b in
    book_grows_trans (adds_define x.variable.value b) (go d.place x.value d.book)
  where
    go : (o : Option ℕ) (v : Option Token) (b : Book.Book) → Adds b (compile_binding_by o v b)
    go none v b = still
    go (some i) none b = still
    go (some i) (some t) b = adds_compile_value (value_of t) t (some i) b

adds_locals : (l : List Binding) (b : Book.Book) → Adds b (compile_local_definition l b)
unfolding compile_local_definition
adds_locals [] b = still
adds_locals (x ∷ l) b = book_grows_trans (adds_binding x b) (adds_locals l (compile_binding x b))

-- models

adds_property : (t : Token) (ps : List ℕ) (b : Book.Book) → Adds b (add_property t ps b).book
adds_property t ps b = cond_case (λ (p : Properties). Adds b p.book) (has_text t.value ps) (λ h. still) (λ h. still)

adds_properties : (ts : List Token) (ps : List ℕ) (b : Book.Book) → Adds b (compile_properties ts ps b).book
unfolding compile_properties
adds_properties [] ps b = still
adds_properties (t ∷ ts) ps b =
    book_grows_trans (adds_property t ps b) (adds_properties ts (add_property t ps b).texts (add_property t ps b).book)

adds_model : (n : Token) (ts : List Token) (b : Book.Book) → Adds b (compile_model_definition n ts b).book
unfolding compile_model_definition
adds_model n ts b =
    let p = compile_properties ts [] b in
    let c = constant_of model_kind (model_count p.book.context) in
    let b₂ = add_model p.texts n.value p.book in
    let a = add_book_constant c b₂ in
    let d = define_context_local n.value a.book in
    book_grows_trans (adds_properties ts [] b)
    (book_grows_trans (adds_constant c b₂)
    (book_grows_trans (adds_define n.value a.book) (adds_value d.place a.place d.book)))

-- functions

adds_base : (f : FunctionDefinition) (b : Book.Book) → Adds b (compile_base f b).book
unfolding compile_base
adds_base f b = record { marks = (preserves_base f (working b)).marks; methods = methods_same b.context.program.methods }

adds_plain : (o : Option ℕ) (s : FunctionState) (n : ℕ) (b : Book.Book) → Adds b (add_plain_function o s n b).book
unfolding add_plain_function
adds_plain o s n b =
    let c = constant_of function_kind (function_count b.context) in
    let a = add_book_constant c (add_function s n b) in
    let g = book_grows_trans (adds_constant c (add_function s n b)) (adds_value o a.place a.book) in
    cond_case (λ (x : Book.Book). Adds b x) (eqb n 1) (λ t. g) (λ t. g)

adds_function : (f : FunctionDefinition) (b : Book.Book) → Adds b (compile_function_definition f b).book
unfolding compile_function_definition
adds_function f b =
    let d = define_context_local f.name.value b in
    let m = compile_base f d.book in
    let g = book_grows_trans (adds_define f.name.value b) (adds_base f d.book) in
    cond_case (λ (p : Placed). Adds b p.book) m.state.header.is_instance (λ t. g)
    (λ t. book_grows_trans g (adds_plain d.place m.state f.name.value m.book))

-- implement and apply

adds_find : (t : Token) (b : Book.Book) → Adds b (find_model_index_by_local_name t b).book
unfolding find_model_index_by_local_name
adds_find t b = outer (find_name t.value b.compiler.locals)
  where
    inner : (o : Option ℕ) → Adds b (find_model_by o t b).book
    inner none = still
    inner (some m) = still

    outer : (o : Option ℕ) → Adds b (find_model_in o t b).book
    outer none = still
    outer (some local) = inner (model_of (get_local_value local b.context))

adds_methods : (o : Option ℕ) (es : List Entry) (b : Book.Book) → Adds b (add_methods o es b)
adds_methods none es b = still
adds_methods (some m) es b = record { marks = same_marks; methods = inserts_grow m es b.context.program.methods }

adds_compile_methods : (fs : List FunctionDefinition) (es : List Entry) (b : Book.Book) → Adds b (compile_methods fs es b).book
unfolding compile_methods
adds_compile_methods [] es b = still
adds_compile_methods (f ∷ fs) es b =
    let m = compile_base f b in
    book_grows_trans (adds_base f b) (adds_compile_methods fs _ _)

-- documents

adds_definition : (d : Definition) (b : Book.Book) → Adds b (compile_definition d b)
unfolding compile_definition compile_implement_definition compile_apply_definition
adds_definition (LocalDefinition bs) b = adds_locals bs b
adds_definition (IncludeDefinition index file l) b = adds_include_or_row_11 index file.value l b
adds_definition (ModelDefinition n ps) b = adds_model n ps b
adds_definition (PublicModelDefinition n ps) b = adds_model n ps b
adds_definition (PlainFunction f) b = adds_function f b
adds_definition (PublicFunction f) b = adds_function f b
adds_definition (ImplementDefinition m fs) b =
    let c = compile_methods fs [] b in
    let d = find_model_index_by_local_name m c.book in
    book_grows_trans (adds_compile_methods fs [] b)
    (book_grows_trans (adds_find m c.book) (adds_methods d.place c.entries d.book))
adds_definition (ApplyDefinition s t) b =
    let d = find_model_index_by_local_name s b in
    let e = find_model_index_by_local_name t d.book in
    book_grows_trans (adds_find s b)
    (book_grows_trans (adds_find t d.book) (adds_methods e.place (methods_of d.place d.book.context) e.book))

adds_definitions : (ds : List Definition) (b : Book.Book) → Adds b (compile_definitions ds b)
unfolding compile_definitions
adds_definitions [] b = still
adds_definitions (d ∷ ds) b = book_grows_trans (adds_definition d b) (adds_definitions ds (compile_definition d b))

-- books in their order

abbrev ContextAdds : Context → Context → Type 0
ContextAdds c r = BookGrows c.pool.globals r.pool.globals c.program.methods r.program.methods

adds_document : (d : Document) (c : Context) (us : List Use) → ContextAdds c (compile_document d c us).context
unfolding compile_document
adds_document d c us = adds_definitions d.definitions (opened d c us)

abbrev Ends : Context → Context → Worked → Type 0
Ends c r w = w.ending ≡ Delivered r → ContextAdds c r

drive_adds : (k : ℕ) (ds : List Document) (done left : List ℕ) (c r : Context) (us : List Use) → Ends c r (drive k ds done left c us)
unfolding drive
drive_adds zero ds done left c r us e = let z : c ≡ r = cc in subst (λ (x : Context). ContextAdds c x) z still
drive_adds (suc k) ds done left c r us e = go (ready ds done left) (λ d c' us'. drive_adds k ds _ _ c' r us') e
  where
    next : Document → Context → List Use → Worked
    next d c' us' = drive k ds (d.filename ∷ done) (without d.filename left) c' us'

    after : (d : Document) (es : List Error) → ((c' : Context) (us' : List Use) → Ends c' r (next d c' us'))
        → Ends c r (after_book es d.filename (compile_document d c us).context (compile_document d c us).uses (next d))
    after d [] rest = λ q. book_grows_trans (adds_document d c us) (rest _ _ q)
    after d (x ∷ es) rest = λ q. absurd (let z : ◌≡◌ {A = ℕ} 0 1 = cc in omega arith)

    go : (o : Option Document) → ((d : Document) (c' : Context) (us' : List Use) → Ends c' r (next d c' us')) → Ends c r (drive_by o left c us next)
    go none rest = λ q. absurd (let z : ◌≡◌ {A = ℕ} 0 1 = cc in omega arith)
    go (some d) rest = after d (compile_document d c us).compiler.errors (rest d)

-- what a call adds to the marks and methods of a context that stands
pub standing_adds : (w lengths : List ℕ) (c r : Context) → answer_from c w lengths ≡ Delivery r
    → BookGrows c.pool.globals r.pool.globals c.program.methods r.program.methods
unfolding compile_needed
standing_adds w lengths c r e =
    let d = delivering c w lengths r e in
    drive_adds (length d.numbers) (documents_of w) _ d.numbers c r _ d.ends

-- entries

-- a list of entries begins with another, entry by entry as a relation says
pub data BeginsWith (R : List ℕ → List ℕ → Type 0) : Entries → Entries → Type 0 where
  rest : (fs : Entries) → BeginsWith R [] fs
  then : {e f : List ℕ} {es fs : Entries} → R e f → BeginsWith R es fs → BeginsWith R (e ∷ es) (f ∷ fs)

-- word for word; with the same kind and value, and no mark taken back; with the same model and name
abbrev pub Same : List ℕ → List ℕ → Type 0
Same e f = e ≡ f

abbrev pub SameButMark : List ℕ → List ℕ → Type 0
SameButMark e f = (get_or e 0 0 ≡ get_or f 0 0) × (get_or e 1 0 ≡ get_or f 1 0) × (get_or e 2 0 ≤ get_or f 2 0)

abbrev pub SameButFunction : List ℕ → List ℕ → Type 0
SameButFunction e f = (get_or e 0 0 ≡ get_or f 0 0) × (get_or e 1 0 ≡ get_or f 1 0)

pub begins_more : (es fs : Entries) → BeginsWith Same es (es ++ fs)
begins_more [] fs = rest fs
begins_more (e ∷ es) fs = then refl (begins_more es fs)

methods_begin : {l m : List Method} (i : ℕ) → MethodsGrow l m → BeginsWith SameButFunction (entries_from method_entry i l) (entries_from method_entry i m)
methods_begin i (more_methods ms) = rest (entries_from method_entry i ms)
methods_begin i (same_key x y a b g) = then (a, b) (methods_begin (i + 1) g)

-- a mark that was there is there
mark_stays : {gs hs : List ℕ} (n : ℕ) → MarksGrow gs hs → bit (has_text n gs) ≤ bit (has_text n hs)
mark_stays n same_marks = le_refl _
mark_stays {gs} n (mark_more {hs = hs} k g) = go (has_text n gs) (eqb k n) (mark_stays n g)
  where
    small : (b : Bool) → bit b ≤ 1
    small true = omega arith
    small false = omega arith

    go : (b c : Bool) → bit b ≤ bit (has_text n hs) → bit b ≤ bit (cond c true (has_text n hs))
    go b true h = small b
    go b false h = h

-- a pool that grows has constants added at its end
record Appended (cs ds : List Constant) : Type 0 where
  added : List Constant
  whole : ds ≡ cs ++ added

pool_appended : {cs ds : List Constant} → PoolGrows cs ds → Appended cs ds
pool_appended {cs} same_pool = record { added = []; whole = sym (append-nil cs) }
pool_appended {cs} (not_shared ds d g t) = let x = pool_appended g in
    record { added = x.added ++ (d ∷ []); whole = ap (λ (l : List Constant). l ++ (d ∷ [])) x.whole ∙ append_assoc cs x.added (d ∷ []) }
pool_appended {cs} (not_found ds d g e) = let x = pool_appended g in
    record { added = x.added ++ (d ∷ []); whole = ap (λ (l : List Constant). l ++ (d ∷ [])) x.whole ∙ append_assoc cs x.added (d ∷ []) }

constants_begin : {gs hs : List ℕ} (i : ℕ) (cs added : List Constant) → MarksGrow gs hs
    → BeginsWith SameButMark (entries_from (constant_entry gs) i cs) (entries_from (constant_entry hs) i (cs ++ added))
constants_begin {gs} {hs} i [] added g = rest (entries_from (constant_entry hs) i added)
constants_begin i (c ∷ cs) added g = then (refl, refl, mark_stays i g) (constants_begin (i + 1) cs added g)

-- a delivery onto a program, against what stood
pub record GrownFrom (p : Program) (c : Context) : Type 0 where
  pub code : BeginsWith Same (lent_entries p code_area) (code_table c)
  pub constants : BeginsWith SameButMark (lent_entries p constants_area) (constant_table c)
  pub functions : BeginsWith Same (lent_entries p functions_area) (function_table c)
  pub models : BeginsWith Same (lent_entries p models_area) (model_table c)
  pub properties : BeginsWith Same (lent_entries p properties_area) (property_table c)
  pub methods : BeginsWith SameButFunction (lent_entries p methods_area) (method_table c)
  pub locals : BeginsWith Same (lent_entries p context_locals_area) (local_table c)
  pub publics : BeginsWith Same (lent_entries p public_names_area) (public_table c)
  pub books : BeginsWith Same (lent_entries p books_area) (book_table c)

module _ (strict : Bool) (w : List ℕ) (p : Program) (c : Context) (thirteen : length p.areas ≡ 13) (q : lay_on strict w p ≡ Checked (Delivery c)) where
  answered : answer_from (context_of strict p) w (lengths_of p.areas) ≡ Delivery c
  answered = (worked_answer strict w p (Delivery c) q).1

  -- entries that stood, and then more
  prior_begins : (of : Prior → Entries) (more : Entries) → BeginsWith Same (of (prior_of p)) (of c.prior ++ more)
  unfolding context_of
  prior_begins of more =
      let stands = read_stands strict p thirteen (worked_answer strict w p (Delivery c) q).0 in
      let same : c.prior ≡ prior_of p = standing_prior w (lengths_of p.areas) (context_of strict p) c stands answered in
      subst (λ (x : Prior). BeginsWith Same (of (prior_of p)) (of x ++ more)) (sym same) (begins_more (of (prior_of p)) more)

  constants_grow : BeginsWith SameButMark (lent_entries p constants_area) (constant_table c)
  unfolding context_of
  constants_grow =
      let passed = check_passes p (worked_answer strict w p (Delivery c) q).0 in
      let es = lent_entries p constants_area in
      let x = pool_appended (standing_grows w (lengths_of p.areas) (context_of strict p) c answered) in
      subst (λ (l : Entries). BeginsWith SameButMark l (constant_table c)) (lent_constants strict p passed)
      (subst (λ (l : List Constant). BeginsWith SameButMark (entries_from (constant_entry (marks_from 0 es)) 0 (constants_of es))
      (entries_from (constant_entry c.pool.globals) 0 l)) (sym x.whole)
      (constants_begin 0 (constants_of es) x.added (standing_adds w (lengths_of p.areas) (context_of strict p) c answered).marks))

  methods_grow : BeginsWith SameButFunction (lent_entries p methods_area) (method_table c)
  unfolding context_of
  methods_grow =
      let passed = check_passes p (worked_answer strict w p (Delivery c) q).0 in
      subst (λ (l : Entries). BeginsWith SameButFunction l (method_table c)) (methods_back 0 (lent_wide passed.methods))
      (methods_begin 0 (standing_adds w (lengths_of p.areas) (context_of strict p) c answered).methods)

  pub onto_grows : GrownFrom p c
  onto_grows = record {
    code = prior_begins (λ x. x.code) _;
    constants = constants_grow;
    functions = prior_begins (λ x. x.functions) _;
    models = prior_begins (λ x. x.models) _;
    properties = prior_begins (λ x. x.properties) _;
    methods = methods_grow;
    locals = prior_begins (λ x. x.locals) _;
    publics = prior_begins (λ x. x.publics) _;
    books = prior_begins (λ x. x.books) _;
  }
