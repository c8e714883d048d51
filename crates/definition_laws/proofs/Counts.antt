-- The entries in use are noted: all through a book, and so in what is delivered, the count of each area is at most its greatest note (or what stood before),
-- and each function's locals and small operands are within their bounds. By the invariant `BookKept` over the steps of a book. Assumes nothing.
use Prim.Native.Nat.{ℕ, zero, suc, ◌+◌, ◌^◌, ◌≤◌, ◌<◌}
use native.Mathlib.Nat.{le_refl}
use native.Mathlib.Omega.{arith}
use mathlib.Core.Path.{◌≡◌, refl, ap, subst}
use mathlib.Core.Bool.{Bool, true, false, cond}
use mathlib.Core.Option.{Option, none, some}
use mathlib.Core.List.{List, [], ◌∷◌, ◌++◌}
use lib.ListN.{length, get_or, replicate, length-append}
use lib.Dec.{eqb}
use Rattle.words.specs.Ast.{Token, Binding, Alias, FunctionDefinition, Definition, LocalDefinition, IncludeDefinition, ModelDefinition}
use Rattle.words.specs.Ast.{PublicModelDefinition, PlainFunction, PublicFunction, ImplementDefinition, ApplyDefinition, Document}
use Rattle.words.specs.Areas.{code_area, constants_area, functions_area, models_area, properties_area, methods_area, context_locals_area, public_names_area}
use Rattle.words.specs.Areas.{books_area}
use Rattle.words.specs.Object.{Constant, constant_of}
use Rattle.words.specs.Record.{most_records}
use Rattle.tree.specs.At.{size_ss, depth_ss}
use Rattle.definition.specs.FunctionState.{Entry, FunctionState, find_name}
use Rattle.definition.specs.Prior.{Entries, Prior, nothing_stands, file_numbers}
use Rattle.definition.specs.Uses.{Use, using', greatest_use, sum_of}
use Rattle.definition.specs.Compiler.{Error, Work, Added, compile_function_definition_base}
use Rattle.definition.specs.Book.{Function, Model, Assembly, Context, code_count, function_count, model_count, property_count, public_count, book_count}
use Rattle.definition.specs.Book.{working, resumed, Placed, add_book_constant, define_context_local, gives_values, compile_include}
use Rattle.definition.specs.Book.{define_context_local_by, set_local_value, included_name, give_value, compile_alias, compile_include_definition, Value}
use Rattle.definition.specs.Book.{Standing, Adding, NoConstant, value_of, compile_value, compile_binding_by, compile_binding, compile_local_definition}
use Rattle.definition.specs.Book.{has_text, Properties, add_property, compile_properties, add_model, compile_model_definition}
use Rattle.definition.specs.Book.{publish, Made, compile_base, add_function, add_plain_function, compile_function_definition, model_of}
use Rattle.definition.specs.Book.{get_local_value, find_model_by, find_model_in, find_model_index_by_local_name, add_methods, compile_methods}
use Rattle.definition.specs.Book.{compile_implement_definition, methods_of, compile_apply_definition, compile_definition, compile_definitions, opened}
use Rattle.definition.specs.Book.{compile_document, push_book_error, new_context, BookStep}
use Rattle.definition.specs.DependencySolver.{Worked, Delivered, dependencies, all_in, find_document, ready_by, ready, without, after_book, drive_by}
use Rattle.definition.specs.DependencySolver.{drive, files_of, loaded_of, compile_needed}
use Rattle.definition.specs.Within.{All, nil, ◌&◌}
use Rattle.definition_laws.proofs.Lists.{all_append, cond_case}
use Rattle.definition_laws.proofs.Limits.{LimitedFunction, LimitedDocument, functions_in}
use Rattle.definition_laws.proofs.Room.{room, room_limited}
use Rattle.definition_laws.proofs.Good.{function_moves}
use Rattle.definition_laws.proofs.Operands.{Small, Kept, function_kept}
use Rattle.definition_laws.proofs.Program.{added_case}
use Rattle.definition_laws.proofs.Uses.{Noted, Counted, noted_here, noted_more, noted_less, counted_later, counted_more, counted_at}
use Rattle.definition.specs.Book

-- one function
pub record FunctionKept (s : FunctionState) : Type 0 where
  pub small : All (Small most_records) s.code.instructions
  pub locals : s.header.local_count < 2 ^ 56

abbrev pub KeptFunctions : List Function → Type 0
KeptFunctions fs = All (λ (f : Function). FunctionKept f.state) fs

-- the entries in use, by area; `own`: public names of the book under compilation, `left`: books that are still to come
abbrev pub counts_of : Context → ℕ → ℕ → List ℕ
counts_of c own left =
    0 ∷ code_count c ∷ length c.pool.constants ∷ function_count c ∷ model_count c ∷ property_count c ∷ length c.program.methods ∷ c.pool.local_count
    ∷ (public_count c + own) ∷ 0 ∷ 0 ∷ 0 ∷ (book_count c + left) ∷ []

sum_append : {A : Type 0} (f : A → ℕ) (l : List A) (x : A) → sum_of f (l ++ (x ∷ [])) ≡ sum_of f l + f x
sum_append f [] x = omega arith
sum_append f (y ∷ l) x = omega (arith, sum_append f l x)

-- one more of a list, and the sum with it, where n stood before
module _ {A : Type 0} {S : ℕ → ℕ} {us : List Use} {area : ℕ} where
  noted_one : (n : ℕ) (l : List A) (x : A) → Noted S (using' area (n + length l + 1) ∷ us) area (n + length (l ++ (x ∷ [])))
  noted_one n l x = noted_less _ (omega (arith, length-append l (x ∷ []))) noted_here

  noted_sum : (n : ℕ) (f : A → ℕ) (l : List A) (x : A) → Noted S us area (n + sum_of f l + f x) → Noted S us area (n + sum_of f (l ++ (x ∷ [])))
  noted_sum n f l x k = noted_less _ (omega (arith, sum_append f l x)) k

-- what stood before stays as it was, `P`
record BookKept (S : ℕ → ℕ) (P : Prior) (left : ℕ) (b : Book.Book) : Type 0 where
  prior : b.context.prior ≡ P
  functions : KeptFunctions b.context.program.functions
  counted : Counted S b.uses (counts_of b.context (length b.assembly.publics) left)

record Keeping (S : ℕ → ℕ) (P : Prior) (left : ℕ) (d : BookStep) : Type 0 where
  keeps : (b : Book.Book) → BookKept S P left b → BookKept S P left (d b)

-- a function that is compiled and not yet added
record MadeKept (S : ℕ → ℕ) (P : Prior) (left : ℕ) (m : Made) : Type 0 where
  book : BookKept S P left m.book
  function : FunctionKept m.state
  room : Noted S m.book.uses code_area (code_count m.book.context + length m.state.code.instructions)

-- properties of a model that is not yet added
record PropertiesKept (S : ℕ → ℕ) (P : Prior) (left : ℕ) (p : Properties) : Type 0 where
  book : BookKept S P left p.book
  room : Noted S p.book.uses properties_area (property_count p.book.context + length p.texts)

module _ {S : ℕ → ℕ} {P : Prior} {left : ℕ} where
  kept_error : (n : ℕ) (t : Token) (b : Book.Book) → BookKept S P left b → BookKept S P left (push_book_error n t b)
  kept_error n t b k = record { prior = k.prior; functions = k.functions; counted = counted_more k.counted }

  kept_constant : (c : Constant) (b : Book.Book) → BookKept S P left b → BookKept S P left (add_book_constant c b).book
  kept_constant c b k =
      added_case (λ (a : Added). BookKept S P left (resumed a.work b)) c (working b)
      (record { prior = k.prior; functions = k.functions; counted = counted_at constants_area _ noted_here (counted_more k.counted) })
      (λ i h. record { prior = k.prior; functions = k.functions; counted = k.counted })

  kept_define : (n : ℕ) (b : Book.Book) → BookKept S P left b → BookKept S P left (define_context_local n b).book
  unfolding define_context_local
  kept_define n b k = go (find_name n b.compiler.locals)
    where
      go : (o : Option ℕ) → BookKept S P left (define_context_local_by o n b).book
      go none = record { prior = k.prior; functions = k.functions; counted = counted_at context_locals_area _ noted_here (counted_more k.counted) }
      go (some i) = k

  kept_value : (o : Option ℕ) (c : ℕ) (b : Book.Book) → BookKept S P left b → BookKept S P left (set_local_value o c b)
  kept_value none c b k = k
  kept_value (some i) c b k = record { prior = k.prior; functions = k.functions; counted = k.counted }

  kept_alias : (file : ℕ) (a : Alias) → Keeping S P left (compile_alias file a)
  unfolding compile_alias
  kept_alias file a = record {
    keeps = λ b k.
        go (define_context_local a.alias.value b).place (included_name file a.public_name.value b.context) _ (kept_define a.alias.value b k);
  }
    where
      go : (p o : Option ℕ) (b : Book.Book) → BookKept S P left b → BookKept S P left (give_value p o b)
      go p none b k = k
      go p (some c) b k = kept_value p c b k

  kept_then : {d e : BookStep} → Keeping S P left d → Keeping S P left e → Keeping S P left (λ b. e (d b))
  kept_then D E = record { keeps = λ b k. E.keeps _ (D.keeps b k) }

  kept_include : (file : ℕ) (l : List Alias) → Keeping S P left (compile_include_definition file l)
  unfolding compile_include_definition
  kept_include file [] = record { keeps = λ b k. k }
  kept_include file (a ∷ l) = kept_then (kept_alias file a) (kept_include file l)

  kept_include_or_row_11 : (index file : ℕ) (l : List Alias) → Keeping S P left (compile_include index file l)
  unfolding compile_include
  kept_include_or_row_11 index file l = record {
    keeps = λ b k. cond_case (BookKept S P left) (gives_values file l b.context) (λ t. (kept_include file l).keeps b k)
        (λ t. record { prior = k.prior; functions = k.functions; counted = counted_more k.counted });
  }

  kept_compile_value : (v : Value) (t : Token) (o : Option ℕ) (b : Book.Book) → BookKept S P left b → BookKept S P left (compile_value v t o b)
  kept_compile_value (Standing n) t o b k = kept_value o n b k
  kept_compile_value (Adding c) t o b k = kept_value o _ _ (kept_constant c b k)
  kept_compile_value NoConstant t o b k = kept_error 5 t b k

  kept_binding : (x : Binding) → Keeping S P left (compile_binding x)
  unfolding compile_binding
  kept_binding x = record { keeps = λ b k. go (define_context_local x.variable.value b).place x.value _ (kept_define x.variable.value b k) }
    where
      go : (o : Option ℕ) (v : Option Token) (b : Book.Book) → BookKept S P left b → BookKept S P left (compile_binding_by o v b)
      go none v b k = k
      go (some i) none b k = k
      go (some i) (some t) b k = kept_compile_value (value_of t) t (some i) b k

  kept_locals : (l : List Binding) → Keeping S P left (compile_local_definition l)
  unfolding compile_local_definition
  kept_locals [] = record { keeps = λ b k. k }
  kept_locals (x ∷ l) = kept_then (kept_binding x) (kept_locals l)

  -- models

  kept_property : (t : Token) (ps : List ℕ) (b : Book.Book) → PropertiesKept S P left (record { texts = ps; book = b })
      → PropertiesKept S P left (add_property t ps b)
  kept_property t ps b k =
      cond_case (PropertiesKept S P left) (has_text t.value ps) (λ h. record { book = kept_error 6 t b k.book; room = noted_more k.room })
      (λ h. record {
        book = record { prior = k.book.prior; functions = k.book.functions; counted = counted_more k.book.counted };
        room = noted_less _ (omega (arith, length-append ps (t.value ∷ []))) noted_here;
      })

  kept_properties : (ts : List Token) (ps : List ℕ) (b : Book.Book) → PropertiesKept S P left (record { texts = ps; book = b })
      → PropertiesKept S P left (compile_properties ts ps b)
  unfolding compile_properties
  kept_properties [] ps b k = k
  kept_properties (t ∷ ts) ps b k = kept_properties ts (add_property t ps b).texts (add_property t ps b).book (kept_property t ps b k)

  kept_add_model : (ps : List ℕ) (n : ℕ) (b : Book.Book) → PropertiesKept S P left (record { texts = ps; book = b }) → BookKept S P left (add_model ps n b)
  kept_add_model ps n b k =
      let m : Model = record { properties = ps; name = n; file = b.assembly.index } in
      record {
        prior = k.book.prior;
        functions = k.book.functions;
        counted = counted_at properties_area _ (noted_sum _ (λ (x : Model). length x.properties) b.context.program.models m (noted_more k.room))
            (counted_at models_area _ (noted_one _ b.context.program.models m) (counted_more k.book.counted));
      }

  kept_model : (n : Token) (ts : List Token) (b : Book.Book) → BookKept S P left b → BookKept S P left (compile_model_definition n ts b).book
  unfolding compile_model_definition
  kept_model n ts b k =
      let p = compile_properties ts [] b in
      let b₂ = add_model p.texts n.value p.book in
      let a = add_book_constant (constant_of 5 (model_count p.book.context)) b₂ in
      let d = define_context_local n.value a.book in
      let k₁ = kept_properties ts [] b (record { book = k; room = noted_less _ (omega arith) (k.counted.each properties_area) }) in
      let k₂ = kept_add_model p.texts n.value p.book (record { book = k₁.book; room = k₁.room }) in
      kept_value d.place a.place d.book (kept_define n.value a.book (kept_constant (constant_of 5 (model_count p.book.context)) b₂ k₂))

  kept_publish : (n : ℕ) (p : Placed) → BookKept S P left p.book → BookKept S P left (publish n p)
  kept_publish n p k = record { prior = k.prior; functions = k.functions; counted = counted_at public_names_area _ noted_here (counted_more k.counted) }

  -- functions

  base_kept : (f : FunctionDefinition) → LimitedFunction f → (b : Book.Book) → BookKept S P left b → MadeKept S P left (compile_base f b)
  unfolding compile_base
  base_kept f l b k = record {
    book = record {
      prior = k.prior;
      functions = k.functions;
      counted = counted_at context_locals_area _ (rw (function_moves f.parameters f.body (working b)).context (c.each context_locals_area))
          (counted_at constants_area _ h.constants c);
    };
    function = record { small = h.body.small; locals = omega (arith, h.body.few, room_limited f l) };
    room = rw h.before at h.code;
  }
    where
      w : Work
      w = compile_function_definition_base f.parameters f.body (working b)

      h : Kept (record { operands = most_records; standing = S; uses = b.uses; before = code_count b.context })
          (length f.parameters + room (size_ss f.body) (depth_ss f.body)) w
      h = function_kept most_records S f.parameters f.body (omega arith) (omega (arith, l.records)) (working b) (k.counted.each constants_area)

      c : Counted S w.uses (counts_of b.context (length b.assembly.publics) left)
      c = counted_later h.later k.counted

  kept_added : (n : ℕ) (m : Made) → MadeKept S P left m → BookKept S P left (add_function m.state n m.book)
  kept_added n m k =
      let b = m.book in
      let f : Function = record { state = m.state; name = n; file = b.assembly.index } in
      record {
        prior = k.book.prior;
        functions = all_append k.book.functions (k.function & nil);
        counted = counted_at code_area _ (noted_sum _ (λ (x : Function). length x.state.code.instructions) b.context.program.functions f
            (noted_more k.room))
            (counted_at functions_area _ (noted_one _ b.context.program.functions f) (counted_more k.book.counted));
      }

  kept_plain : (o : Option ℕ) (s : FunctionState) (n : ℕ) (b : Book.Book) → BookKept S P left (add_function s n b)
      → BookKept S P left (add_plain_function o s n b).book
  unfolding add_plain_function
  kept_plain o s n b k =
      let a = add_book_constant (constant_of 6 (function_count b.context)) (add_function s n b) in
      let k₁ = kept_value o a.place a.book (kept_constant (constant_of 6 (function_count b.context)) (add_function s n b) k) in
      cond_case (BookKept S P left) (eqb n 1) (λ t. record { prior = k₁.prior; functions = k₁.functions; counted = k₁.counted }) (λ t. k₁)

  kept_function : (f : FunctionDefinition) → LimitedFunction f → (b : Book.Book) → BookKept S P left b → BookKept S P left
      (compile_function_definition f b).book
  unfolding compile_function_definition
  kept_function f l b k =
      let d = define_context_local f.name.value b in
      let m = compile_base f d.book in
      let h = base_kept f l d.book (kept_define f.name.value b k) in
      cond_case (λ (p : Placed). BookKept S P left p.book) m.state.header.is_instance (λ t. kept_error 8 f.name m.book h.book)
      (λ t. kept_plain d.place m.state f.name.value m.book (kept_added f.name.value m h))

  -- implement and apply

  kept_find : (t : Token) (b : Book.Book) → BookKept S P left b → BookKept S P left (find_model_index_by_local_name t b).book
  unfolding find_model_index_by_local_name
  kept_find t b k = outer (find_name t.value b.compiler.locals)
    where
      inner : (o : Option ℕ) → BookKept S P left (find_model_by o t b).book
      inner none = kept_error 9 t b k
      inner (some m) = k

      outer : (o : Option ℕ) → BookKept S P left (find_model_in o t b).book
      outer none = kept_error 10 t b k
      outer (some local) = inner (model_of (get_local_value local b.context))

  kept_methods : (o : Option ℕ) (es : List Entry) (b : Book.Book) → BookKept S P left b → BookKept S P left (add_methods o es b)
  kept_methods none es b k = k
  kept_methods (some m) es b k =
      record { prior = k.prior; functions = k.functions; counted = counted_at methods_area _ noted_here (counted_more k.counted) }

  kept_compile_methods : (fs : List FunctionDefinition) → All LimitedFunction fs → (es : List Entry) (b : Book.Book) → BookKept S P left b
      → BookKept S P left (compile_methods fs es b).book
  unfolding compile_methods
  kept_compile_methods [] nil es b k = k
  kept_compile_methods (f ∷ fs) (l & ls) es b k = kept_compile_methods fs ls _ _ (kept_added f.name.value (compile_base f b) (base_kept f l b k))

  -- documents

  kept_definition : (d : Definition) → All LimitedFunction (functions_in d) → Keeping S P left (compile_definition d)
  unfolding compile_definition compile_implement_definition compile_apply_definition
  kept_definition (LocalDefinition bs) h = kept_locals bs
  kept_definition (IncludeDefinition index file l) h = kept_include_or_row_11 index file.value l
  kept_definition (ModelDefinition n ps) h = record { keeps = kept_model n ps }
  kept_definition (PublicModelDefinition n ps) h = record { keeps = λ b k. kept_publish n.value _ (kept_model n ps b k) }
  kept_definition (PlainFunction f) (l & nil) = record { keeps = kept_function f l }
  kept_definition (PublicFunction f) (l & nil) = record { keeps = λ b k. kept_publish f.name.value _ (kept_function f l b k) }
  kept_definition (ImplementDefinition m fs) h = record {
    keeps = λ b k.
        let c = compile_methods fs [] b in
        let d = find_model_index_by_local_name m c.book in
        kept_methods d.place c.entries d.book (kept_find m c.book (kept_compile_methods fs h [] b k));
  }
  kept_definition (ApplyDefinition s t) h = record {
    keeps = λ b k.
        let d = find_model_index_by_local_name s b in
        let e = find_model_index_by_local_name t d.book in
        kept_methods e.place (methods_of d.place d.book.context) e.book (kept_find t d.book (kept_find s b k));
  }

  kept_definitions : (ds : List Definition) → All (λ d. All LimitedFunction (functions_in d)) ds → Keeping S P left (compile_definitions ds)
  unfolding compile_definitions
  kept_definitions [] nil = record { keeps = λ b k. k }
  kept_definitions (d ∷ ds) (h & hs) = kept_then (kept_definition d h) (kept_definitions ds hs)

-- a context between books, with its notes
pub record ContextKept (S : ℕ → ℕ) (P : Prior) (left : ℕ) (c : Context) (us : List Use) : Type 0 where
  pub prior : c.prior ≡ P
  pub functions : KeptFunctions c.program.functions
  pub counted : Counted S us (counts_of c 0 left)

document_kept : {S : ℕ → ℕ} {P : Prior} {left : ℕ} (d : Document) (c : Context) (us : List Use) → LimitedDocument d → ContextKept S P (suc left) c us
    → ContextKept S P left (compile_document d c us).context (compile_document d c us).uses
unfolding compile_document
document_kept {S} {P} {left} d c us h k =
    let b = compile_definitions d.definitions (opened d c us) in
    let g : BookKept S P (suc left) b =
    (kept_definitions d.definitions h).keeps (opened d c us) (record { prior = k.prior; functions = k.functions; counted = k.counted }) in
    let publics = sum_append (λ (a : Assembly). length a.publics) b.context.assemblies b.assembly in
    record {
      prior = g.prior;
      functions = g.functions;
      counted = counted_at books_area _ (noted_less _ (omega (arith, length-append b.context.assemblies (b.assembly ∷ []))) (g.counted.each books_area))
          (counted_at public_names_area _ (noted_less _ (omega (arith, publics)) (g.counted.each public_names_area)) g.counted);
    }

-- in the order of a bundle: a document that is ready is one of the bundle's

find_document_lem : {P : Document → Type 0} (n : ℕ) (d : Document) (l : List Document) → All P l → find_document n l ≡ some d → P d
find_document_lem n d [] nil e = absurd (let z : ◌≡◌ {A = ℕ} 0 1 = cc in omega arith)
find_document_lem {P} n d (x ∷ l) (p & ps) e = go (eqb x.filename n) (λ q. find_document_lem n d l ps q) e
  where
    go : (b : Bool) → (find_document n l ≡ some d → P d) → cond b (some x) (find_document n l) ≡ some d → P d
    go true r q = let z : x ≡ d = cc in subst P z p
    go false r q = r q

pub ready_among : {P : Document → Type 0} (ds : List Document) (done left : List ℕ) (d : Document) → All P ds → ready ds done left ≡ some d → P d
ready_among ds done [] d h e = absurd (let z : ◌≡◌ {A = ℕ} 0 1 = cc in omega arith)
ready_among {P} ds done (n ∷ ns) d h e = go (find_document n ds) refl (λ q. ready_among ds done ns d h q) e
  where
    found : (x : Document) → find_document n ds ≡ some x → some x ≡ some d → P d
    found x f q = let z : x ≡ d = cc in subst P z (find_document_lem n x ds h f)

    go : (o : Option Document) → find_document n ds ≡ o → (ready ds done ns ≡ some d → P d) → ready_by o done (ready ds done ns) ≡ some d → P d
    go none f r = λ q. r q
    go (some x) f r =
        cond_case (λ (y : Option Document). y ≡ some d → P d) (all_in (dependencies x.definitions) done) (λ t q. found x f q) (λ t q. r q)

-- how the work ends, where it ends with a context: `r` is kept with the notes of all the work
abbrev Ends : (ℕ → ℕ) → Prior → Context → Worked → Type 0
Ends S P r w = w.ending ≡ Delivered r → ContextKept S P 0 r w.uses

drive_kept : {S : ℕ → ℕ} {P : Prior} (k : ℕ) (ds : List Document) (done left : List ℕ) (c r : Context) (us : List Use) → All LimitedDocument ds
    → ContextKept S P k c us → Ends S P r (drive k ds done left c us)
unfolding drive
drive_kept {S} {P} zero ds done left c r us h s e = let z : c ≡ r = cc in subst (λ (x : Context). ContextKept S P 0 x us) z s
drive_kept {S} {P} (suc k) ds done left c r us h s e = go (ready ds done left) refl (λ d c' us' t. drive_kept k ds _ _ c' r us' h t) e
  where
    next : Document → Context → List Use → Worked
    next d c' us' = drive k ds (d.filename ∷ done) (without d.filename left) c' us'

    after : (d : Document) → LimitedDocument d → (es : List Error) → ((c' : Context) (us' : List Use) → ContextKept S P k c' us' → Ends S P r (next d c' us'))
        → Ends S P r (after_book es d.filename (compile_document d c us).context (compile_document d c us).uses (next d))
    after d m [] rest = rest _ _ (document_kept d c us m s)
    after d m (x ∷ es) rest = λ q. absurd (let z : ◌≡◌ {A = ℕ} 0 1 = cc in omega arith)

    go : (o : Option Document) → ready ds done left ≡ o
        → ((d : Document) (c' : Context) (us' : List Use) → ContextKept S P k c' us' → Ends S P r (next d c' us'))
        → Ends S P r (drive_by o left c us next)
    go none f rest = λ q. absurd (let z : ◌≡◌ {A = ℕ} 0 1 = cc in omega arith)
    go (some d) f rest = after d (ready_among ds done left d h f) (compile_document d c us).compiler.errors (rest d)

-- what stands in a context, by area
abbrev pub standing_in : Context → ℕ → ℕ
standing_in c area = get_or (counts_of c 0 0) area 0

files_length : (l : List Assembly) → length (files_of l) ≡ length l
files_length [] = refl
files_length (a ∷ l) = ap suc (files_length l)

pub numbers_length : (es : Entries) → length (file_numbers es) ≡ length es
numbers_length [] = refl
numbers_length (e ∷ es) = ap suc (numbers_length es)

pub loaded_length : (c : Context) → length (loaded_of c) ≡ book_count c
loaded_length c =
    omega (arith, length-append (file_numbers c.prior.books) (files_of c.assemblies), numbers_length c.prior.books, files_length c.assemblies)

zeros : (n area : ℕ) → get_or (replicate n 0) area 0 ≤ 0
zeros zero area = le_refl 0
zeros (suc n) zero = le_refl 0
zeros (suc n) (suc area) = zeros n area

-- before the first book: all that is in use stood before; or, on a fresh context, nothing stood and its constants are noted
standing_counted : (c : Context) (us : List Use) → Counted (standing_in c) us (counts_of c 0 0)
standing_counted c us = record { each = λ area. record { known = omega arith } }

none_counted : (us : List Use) → Counted (λ area. 0) us (replicate 13 0)
none_counted us = record { each = λ area. record { known = omega (arith, zeros 13 area) } }

-- the whole work: each count of what is delivered is noted, or stood before
module _ (numbers : List ℕ) (ds : List Document) (r : Context) (h : All LimitedDocument ds) where
  pub standing_noted : (c : Context) → KeptFunctions c.program.functions → (compile_needed numbers ds c).ending ≡ Delivered r
      → ContextKept (standing_in c) c.prior 0 r (compile_needed numbers ds c).uses
  unfolding compile_needed
  standing_noted c f e =
      drive_kept (length numbers) ds _ numbers c r _ h (record {
        prior = refl;
        functions = f;
        counted = counted_at books_area _ (noted_less _ (omega (arith, loaded_length c)) noted_here) (standing_counted c _);
      }) e

  pub fresh_noted : (strict : Bool) → (compile_needed numbers ds (new_context strict)).ending ≡ Delivered r
      → ContextKept (λ area. 0) nothing_stands 0 r (compile_needed numbers ds (new_context strict)).uses
  unfolding compile_needed
  fresh_noted strict e =
      drive_kept (length numbers) ds _ numbers (new_context strict) r _ h (record {
        prior = refl;
        functions = nil;
        counted = counted_at books_area _ noted_here (counted_at constants_area _ (noted_more noted_here) (none_counted _));
      }) e

  -- on a fresh context all that is in use at the end is noted, in every area
  pub counts_noted : (strict : Bool) → (compile_needed numbers ds (new_context strict)).ending ≡ Delivered r
      → (area : ℕ) → standing_in r area ≤ greatest_use area (compile_needed numbers ds (new_context strict)).uses
  counts_noted strict e area = let x = ((fresh_noted strict e).counted.each area).known in omega arith
