-- What no step changes of a book, in either mode: what stood before, the books put away and the mode; and notes are only added (`Stays`). And what each step
-- but an include does to a book in the present mode, it does in strict mode (`alike-…`): nothing else reads the mode. By cases over each step. Assumes nothing.
use Prim.Native.Nat.{ℕ, ◌+◌}
use mathlib.Core.Path.{◌≡◌, refl, ap, ◌∙◌}
use mathlib.Core.Bool.{Bool, true, false, cond}
use mathlib.Core.Option.{Option, none, some}
use mathlib.Core.List.{List, [], ◌∷◌, ◌++◌}
use lib.ListN.{length}
use lib.Dec.{eqb}
use Rattle.words.specs.Areas.{properties_area}
use Rattle.words.specs.Ast.{Token, Binding, Alias, FunctionDefinition}
use Rattle.words.specs.Object.{Constant, constant_of, model_kind, function_kind}
use Rattle.definition.specs.FunctionState.{Entry, FunctionState, find_name}
use Rattle.definition.specs.Prior.{book_index}
use Rattle.definition.specs.Book
use Rattle.definition.specs.Book.{function_count, model_count, Context, BookStep, Placed, MaybePlaced, working, add_book_constant, define_context_local, noted}
use Rattle.definition.specs.Book.{define_context_local_by, set_local_value, in_mode, with_constant}
use Rattle.definition.specs.Book.{included_from, included_names, only_one, with_context, property_count}
use Rattle.definition.specs.Book.{included_name, give_value, compile_alias, compile_include_definition, Value, Standing, Adding, NoConstant, value_of}
use Rattle.definition.specs.Book.{compile_value, compile_binding_by, compile_binding, compile_local_definition, has_text, Properties, add_property}
use Rattle.definition.specs.Book.{push_book_error}
use Rattle.definition.specs.Book.{compile_properties, add_model, compile_model_definition, compile_base, add_function, add_plain_function, Made, Methods}
use Rattle.definition.specs.Book.{compile_function_definition, model_of, get_local_value, find_model_by, find_model_in, find_model_index_by_local_name, publish}
use Rattle.definition.specs.Book.{add_methods, compile_methods, compile_implement_definition, methods_of, compile_apply_definition, with_entry_point}
use Rattle.definition_laws.proofs.Lists.{cond_case}
use Rattle.definition_laws.proofs.StepPreserves.{NotesGrow, same, more, longer_trans, preserves_constant, preserves_base}

-- what stays

pub record Stays (b b' : Book.Book) : Type 0 where
  pub uses : NotesGrow b.uses b'.uses
  pub prior : b'.context.prior ≡ b.context.prior
  pub assemblies : b'.context.assemblies ≡ b.context.assemblies
  pub filename : b'.assembly.filename ≡ b.assembly.filename
  pub strict : b'.context.strict ≡ b.context.strict

abbrev pub Staying : BookStep → Type 0
Staying d = (b : Book.Book) → Stays b (d b)

pub stays_refl : (b : Book.Book) → Stays b b
stays_refl b = record { uses = same; prior = refl; assemblies = refl; filename = refl; strict = refl }

pub stays_trans : {a b c : Book.Book} → Stays a b → Stays b c → Stays a c
stays_trans x y = record {
  uses = longer_trans x.uses y.uses;
  prior = y.prior ∙ x.prior;
  assemblies = y.assemblies ∙ x.assemblies;
  filename = y.filename ∙ x.filename;
  strict = y.strict ∙ x.strict;
}

-- by one note more
abbrev one_more : {b b' : Book.Book} → NotesGrow b.uses b'.uses → b'.context.prior ≡ b.context.prior
    → b'.context.assemblies ≡ b.context.assemblies
    → b'.assembly.filename ≡ b.assembly.filename → b'.context.strict ≡ b.context.strict → Stays b b'
one_more u p a f s = record { uses = u; prior = p; assemblies = a; filename = f; strict = s }

pub stays_noted : (area n : ℕ) → Staying (noted area n)
stays_noted area n b = one_more (more same) refl refl refl refl

stays_error : (n : ℕ) (t : Token) → Staying (push_book_error n t)
stays_error n t b = one_more (more same) refl refl refl refl

stays_constant : (c : Constant) → Staying (λ b. (add_book_constant c b).book)
stays_constant c b = one_more (preserves_constant c (working b)).uses refl refl refl refl

stays_define : (n : ℕ) → Staying (λ b. (define_context_local n b).book)
unfolding define_context_local
stays_define n b = go (find_name n b.compiler.locals)
  where
    go : (o : Option ℕ) → Stays b (define_context_local_by o n b).book
    go none = one_more (more same) refl refl refl refl
    go (some i) = stays_refl b

stays_value : (o : Option ℕ) (c : ℕ) → Staying (set_local_value o c)
stays_value none c b = stays_refl b
stays_value (some i) c b = one_more same refl refl refl refl

stays_give : (p o : Option ℕ) → Staying (give_value p o)
stays_give p none b = stays_refl b
stays_give p (some c) b = stays_value p c b

stays_alias : (file : ℕ) (a : Alias) → Staying (compile_alias file a)
unfolding compile_alias
stays_alias file a b =
    let d = define_context_local a.alias.value b in
    stays_trans (stays_define a.alias.value b) (stays_give d.place (included_name file a.public_name.value b.context) d.book)

pub stays_include : (file : ℕ) (l : List Alias) → Staying (compile_include_definition file l)
unfolding compile_include_definition
stays_include file [] b = stays_refl b
stays_include file (a ∷ l) b = stays_trans (stays_alias file a b) (stays_include file l (compile_alias file a b))

stays_compile_value : (v : Value) (t : Token) (o : Option ℕ) → Staying (compile_value v t o)
stays_compile_value (Standing n) t o b = stays_value o n b
stays_compile_value (Adding c) t o b = let a = add_book_constant c b in stays_trans (stays_constant c b) (stays_value o a.place a.book)
stays_compile_value NoConstant t o b = stays_error 5 t b

stays_binding : (x : Binding) → Staying (compile_binding x)
unfolding compile_binding
stays_binding x b =
    let d = define_context_local x.variable.value b in
    stays_trans (stays_define x.variable.value b) (go d.place x.value d.book)
  where
    go : (o : Option ℕ) (v : Option Token) → Staying (compile_binding_by o v)
    go none v b = stays_refl b
    go (some i) none b = stays_refl b
    go (some i) (some t) b = stays_compile_value (value_of t) t (some i) b

pub stays_locals : (l : List Binding) → Staying (compile_local_definition l)
unfolding compile_local_definition
stays_locals [] b = stays_refl b
stays_locals (x ∷ l) b = stays_trans (stays_binding x b) (stays_locals l (compile_binding x b))

stays_property : (t : Token) (ps : List ℕ) → Staying (λ b. (add_property t ps b).book)
stays_property t ps b =
    cond_case (λ (p : Properties). Stays b p.book) (has_text t.value ps) (λ h. stays_error 6 t b) (λ h. one_more (more same) refl refl refl refl)

stays_properties : (ts : List Token) (ps : List ℕ) → Staying (λ b. (compile_properties ts ps b).book)
unfolding compile_properties
stays_properties [] ps b = stays_refl b
stays_properties (t ∷ ts) ps b = stays_trans (stays_property t ps b) (stays_properties ts (add_property t ps b).texts (add_property t ps b).book)

pub stays_model : (n : Token) (ts : List Token) → Staying (λ b. (compile_model_definition n ts b).book)
unfolding compile_model_definition
stays_model n ts b =
    let p = compile_properties ts [] b in
    let c = constant_of model_kind (model_count p.book.context) in
    let b₂ = add_model p.texts n.value p.book in
    let a = add_book_constant c b₂ in
    let d = define_context_local n.value a.book in
    stays_trans (stays_properties ts [] b)
    (stays_trans {b = b₂} (one_more (more same) refl refl refl refl)
    (stays_trans (stays_constant c b₂) (stays_trans (stays_define n.value a.book) (stays_value d.place a.place d.book))))

pub stays_publish : (name : ℕ) (p : Placed) → Stays p.book (publish name p)
stays_publish name p = one_more (more same) refl refl refl refl

stays_base : (f : FunctionDefinition) → Staying (λ b. (compile_base f b).book)
unfolding compile_base
stays_base f b = record {
  uses = longer_trans (more (more (more same)))
      (preserves_base f (working b)).uses;
  prior = refl;
  assemblies = refl;
  filename = refl;
  strict = refl;
}

stays_add : (s : FunctionState) (n : ℕ) → Staying (add_function s n)
stays_add s n b = one_more (more same) refl refl refl refl

stays_plain : (o : Option ℕ) (s : FunctionState) (n : ℕ) → Staying (λ b. (add_plain_function o s n b).book)
unfolding add_plain_function
stays_plain o s n b =
    let c = constant_of function_kind (function_count b.context) in
    let a = add_book_constant c (add_function s n b) in
    let x = set_local_value o a.place a.book in
    let g : Stays b x = stays_trans (stays_add s n b) (stays_trans (stays_constant c (add_function s n b)) (stays_value o a.place a.book)) in
    cond_case (Stays b) (eqb n 1) (λ t. stays_trans g (one_more same refl refl refl refl)) (λ t. g)

pub stays_function : (f : FunctionDefinition) → Staying (λ b. (compile_function_definition f b).book)
unfolding compile_function_definition
stays_function f b =
    let d = define_context_local f.name.value b in
    let m = compile_base f d.book in
    let g = stays_trans (stays_define f.name.value b) (stays_base f d.book) in
    cond_case (λ (p : Placed). Stays b p.book) m.state.header.is_instance (λ t. stays_trans g (stays_error 8 f.name m.book))
    (λ t. stays_trans g (stays_plain d.place m.state f.name.value m.book))

stays_find : (t : Token) → Staying (λ b. (find_model_index_by_local_name t b).book)
unfolding find_model_index_by_local_name
stays_find t b = outer (find_name t.value b.compiler.locals)
  where
    inner : (o : Option ℕ) → Stays b (find_model_by o t b).book
    inner none = stays_error 9 t b
    inner (some m) = stays_refl b

    outer : (o : Option ℕ) → Stays b (find_model_in o t b).book
    outer none = stays_error 10 t b
    outer (some local) = inner (model_of (get_local_value local b.context))

stays_methods : (o : Option ℕ) (es : List Entry) → Staying (add_methods o es)
stays_methods none es b = stays_refl b
stays_methods (some m) es b = one_more (more same) refl refl refl refl

stays_compile_methods : (fs : List FunctionDefinition) (es : List Entry) → Staying (λ b. (compile_methods fs es b).book)
unfolding compile_methods
stays_compile_methods [] es b = stays_refl b
stays_compile_methods (f ∷ fs) es b = stays_trans (stays_base f b) (stays_trans (stays_add _ _ _) (stays_compile_methods fs _ _))

pub stays_implement : (m : Token) (fs : List FunctionDefinition) → Staying (compile_implement_definition m fs)
unfolding compile_implement_definition
stays_implement m fs b =
    let c = compile_methods fs [] b in
    let d = find_model_index_by_local_name m c.book in
    stays_trans (stays_compile_methods fs [] b) (stays_trans (stays_find m c.book) (stays_methods d.place c.entries d.book))

pub stays_apply : (s t : Token) → Staying (compile_apply_definition s t)
unfolding compile_apply_definition
stays_apply s t b =
    let d = find_model_index_by_local_name s b in
    let e = find_model_index_by_local_name t d.book in
    stays_trans (stays_find s b) (stays_trans (stays_find t d.book) (stays_methods e.place (methods_of d.place d.book.context) e.book))

-- in the present mode

abbrev pub present : Book.Book → Book.Book
present b = with_context (in_mode false b.context) b

abbrev placed : Placed → Placed
placed p = record { place = p.place; book = present p.book }

abbrev maybe : MaybePlaced → MaybePlaced
maybe p = record { place = p.place; book = present p.book }

abbrev made : Made → Made
made m = record { state = m.state; book = present m.book }

abbrev texts' : Properties → Properties
texts' p = record { texts = p.texts; book = present p.book }

abbrev entries' : Methods → Methods
entries' m = record { entries = m.entries; book = present m.book }

abbrev placing : ℕ → Book.Book → Placed
placing n b = record { place = n; book = b }

-- the rule of names does not read the mode
included_mode : (o : Option ℕ) (file name : ℕ) (s : Bool) (c : Context) → included_from o file name (in_mode s c) ≡ included_from o file name c
included_mode none file name s c = refl
included_mode (some i) file name s c = refl

name_mode : (file name : ℕ) (s : Bool) (c : Context) → included_name file name (in_mode s c) ≡ included_name file name c
name_mode file name s c = ap (λ (o : Option ℕ). only_one (with_constant o (some []))) (included_mode (book_index file 0 c.prior.books) file name s c)

alike_define : (n : ℕ) (b : Book.Book) → define_context_local n (present b) ≡ maybe (define_context_local n b)
unfolding define_context_local
alike_define n b = go (find_name n b.compiler.locals)
  where
    go : (o : Option ℕ) → define_context_local_by o n (present b) ≡ maybe (define_context_local_by o n b)
    go none = refl
    go (some i) = refl

alike_value : (o : Option ℕ) (c : ℕ) (b : Book.Book) → set_local_value o c (present b) ≡ present (set_local_value o c b)
alike_value none c b = refl
alike_value (some i) c b = refl

alike_give : (p o : Option ℕ) (b : Book.Book) → give_value p o (present b) ≡ present (give_value p o b)
alike_give p none b = refl
alike_give p (some c) b = alike_value p c b

alike_alias : (file : ℕ) (a : Alias) (b : Book.Book) → compile_alias file a (present b) ≡ present (compile_alias file a b)
unfolding compile_alias
alike_alias file a b =
    let n = a.alias.value in
    let d = define_context_local n b in
    ap (λ (x : MaybePlaced). give_value x.place (included_name file a.public_name.value (present b).context) x.book) (alike_define n b)
    ∙ ap (λ (o : Option ℕ). give_value d.place o (present d.book)) (name_mode file a.public_name.value false b.context)
    ∙ alike_give d.place (included_name file a.public_name.value b.context) d.book

pub alike_include : (file : ℕ) (l : List Alias) (b : Book.Book) → compile_include_definition file l (present b) ≡ present (compile_include_definition file l b)
unfolding compile_include_definition
alike_include file [] b = refl
alike_include file (a ∷ l) b = ap (λ (x : Book.Book). compile_include_definition file l x) (alike_alias file a b) ∙ alike_include file l
    (compile_alias file a b)

alike_compile_value : (v : Value) (t : Token) (o : Option ℕ) (b : Book.Book) → compile_value v t o (present b) ≡ present (compile_value v t o b)
alike_compile_value (Standing n) t o b = alike_value o n b
alike_compile_value (Adding c) t o b = alike_value o (add_book_constant c b).place (add_book_constant c b).book
alike_compile_value NoConstant t o b = refl

alike_binding : (x : Binding) (b : Book.Book) → compile_binding x (present b) ≡ present (compile_binding x b)
unfolding compile_binding
alike_binding x b =
    let n = x.variable.value in
    let d = define_context_local n b in
    ap (λ (y : MaybePlaced). compile_binding_by y.place x.value y.book) (alike_define n b) ∙ go d.place x.value d.book
  where
    go : (o : Option ℕ) (v : Option Token) (b : Book.Book) → compile_binding_by o v (present b) ≡ present (compile_binding_by o v b)
    go none v b = refl
    go (some i) none b = refl
    go (some i) (some t) b = alike_compile_value (value_of t) t (some i) b

pub alike_locals : (l : List Binding) (b : Book.Book) → compile_local_definition l (present b) ≡ present (compile_local_definition l b)
unfolding compile_local_definition
alike_locals [] b = refl
alike_locals (x ∷ l) b = ap (λ (y : Book.Book). compile_local_definition l y) (alike_binding x b) ∙ alike_locals l (compile_binding x b)

alike_property : (t : Token) (ps : List ℕ) (b : Book.Book) → add_property t ps (present b) ≡ texts' (add_property t ps b)
alike_property t ps b = go (has_text t.value ps)
  where
    added_text : Book.Book → Book.Book
    added_text x = noted properties_area (property_count x.context + length ps + 1) x

    go : (h : Bool) → cond h (record { texts = ps; book = push_book_error 6 t (present b) })
        (record { texts = ps ++ (t.value ∷ []); book = added_text (present b) })
        ≡ texts' (cond h (record { texts = ps; book = push_book_error 6 t b }) (record { texts = ps ++ (t.value ∷ []); book = added_text b }))
    go true = refl
    go false = refl

alike_properties : (ts : List Token) (ps : List ℕ) (b : Book.Book) → compile_properties ts ps (present b) ≡ texts' (compile_properties ts ps b)
unfolding compile_properties
alike_properties [] ps b = refl
alike_properties (t ∷ ts) ps b =
    ap (λ (p : Properties). compile_properties ts p.texts p.book) (alike_property t ps b)
    ∙ alike_properties ts (add_property t ps b).texts (add_property t ps b).book

pub alike_model : (n : Token) (ts : List Token) (b : Book.Book) → compile_model_definition n ts (present b) ≡ placed (compile_model_definition n ts b)
unfolding compile_model_definition
alike_model n ts b =
    let p = compile_properties ts [] b in
    let c = constant_of model_kind (model_count p.book.context) in
    let a = add_book_constant c (add_model p.texts n.value p.book) in
    let d = define_context_local n.value a.book in
    ap (λ (q : Properties).
    let a' = add_book_constant (constant_of model_kind (model_count q.book.context)) (add_model q.texts n.value q.book) in
    let d' = define_context_local n.value a'.book in
    placing a'.place (set_local_value d'.place a'.place d'.book)) (alike_properties ts [] b)
    ∙ ap (λ (q : MaybePlaced). placing a.place (set_local_value q.place a.place q.book)) (alike_define n.value a.book)
    ∙ ap (λ (x : Book.Book). placing a.place x) (alike_value d.place a.place d.book)

alike_plain : (o : Option ℕ) (s : FunctionState) (n : ℕ) (b : Book.Book) → add_plain_function o s n (present b) ≡ placed (add_plain_function o s n b)
unfolding add_plain_function
alike_plain o s n b = go o (eqb n 1)
  where
    i : ℕ
    i = function_count b.context

    a : Placed
    a = add_book_constant (constant_of function_kind i) (add_function s n b)

    entering : Bool → Book.Book → Book.Book
    entering t x = cond t (with_context (with_entry_point i x.context) x) x

    go : (o : Option ℕ) (t : Bool) → placing a.place (entering t (set_local_value o a.place (present a.book)))
        ≡ placing a.place (present (entering t (set_local_value o a.place a.book)))
    go none true = refl
    go none false = refl
    go (some k) true = refl
    go (some k) false = refl

pub alike_function : (f : FunctionDefinition) (b : Book.Book) → compile_function_definition f (present b) ≡ placed (compile_function_definition f b)
unfolding compile_function_definition compile_base
alike_function f b =
    let n = f.name.value in
    let d = define_context_local n b in
    let m = compile_base f d.book in
    ap (λ (x : MaybePlaced). by x.place (compile_base f x.book)) (alike_define n b) ∙ go d.place m m.state.header.is_instance
  where
    by_test : Bool → Option ℕ → Made → Placed
    by_test t o m = cond t (placing 0 (push_book_error 8 f.name m.book)) (add_plain_function o m.state f.name.value m.book)

    by : Option ℕ → Made → Placed
    by o m = by_test m.state.header.is_instance o m

    go : (o : Option ℕ) (m : Made) (t : Bool) → by_test t o (made m) ≡ placed (by_test t o m)
    go o m true = refl
    go o m false = alike_plain o m.state f.name.value m.book

alike_find : (t : Token) (b : Book.Book) → find_model_index_by_local_name t (present b) ≡ maybe (find_model_index_by_local_name t b)
unfolding find_model_index_by_local_name
alike_find t b = outer (find_name t.value b.compiler.locals)
  where
    inner : (o : Option ℕ) → find_model_by o t (present b) ≡ maybe (find_model_by o t b)
    inner none = refl
    inner (some m) = refl

    outer : (o : Option ℕ) → find_model_in o t (present b) ≡ maybe (find_model_in o t b)
    outer none = refl
    outer (some local) = inner (model_of (get_local_value local b.context))

alike_methods : (o : Option ℕ) (es : List Entry) (b : Book.Book) → add_methods o es (present b) ≡ present (add_methods o es b)
alike_methods none es b = refl
alike_methods (some m) es b = refl

alike_compile_methods : (fs : List FunctionDefinition) (es : List Entry) (b : Book.Book) → compile_methods fs es (present b) ≡ entries'
    (compile_methods fs es b)
unfolding compile_methods compile_base
alike_compile_methods [] es b = refl
alike_compile_methods (f ∷ fs) es b = alike_compile_methods fs _ (add_function (compile_base f b).state f.name.value (compile_base f b).book)

pub alike_implement : (m : Token) (fs : List FunctionDefinition) (b : Book.Book)
    → compile_implement_definition m fs (present b) ≡ present (compile_implement_definition m fs b)
unfolding compile_implement_definition
alike_implement m fs b =
    let c = compile_methods fs [] b in
    let d = find_model_index_by_local_name m c.book in
    ap (λ (x : Methods). let y = find_model_index_by_local_name m x.book in add_methods y.place x.entries y.book) (alike_compile_methods fs [] b)
    ∙ ap (λ (y : MaybePlaced). add_methods y.place c.entries y.book) (alike_find m c.book) ∙ alike_methods d.place c.entries d.book

methods_mode : (o : Option ℕ) (c : Context) → methods_of o (in_mode false c) ≡ methods_of o c
methods_mode none c = refl
methods_mode (some m) c = refl

pub alike_apply : (s t : Token) (b : Book.Book) → compile_apply_definition s t (present b) ≡ present (compile_apply_definition s t b)
unfolding compile_apply_definition
alike_apply s t b =
    let d = find_model_index_by_local_name s b in
    let e = find_model_index_by_local_name t d.book in
    ap (λ (x : MaybePlaced).
    let y = find_model_index_by_local_name t x.book in add_methods y.place (methods_of x.place x.book.context) y.book) (alike_find s b)
    ∙ ap (λ (y : MaybePlaced). add_methods y.place (methods_of d.place (in_mode false d.book.context)) y.book) (alike_find t d.book)
    ∙ ap (λ (es : List Entry). add_methods e.place es (present e.book)) (methods_mode d.place d.book.context)
    ∙ alike_methods e.place (methods_of d.place d.book.context) e.book
