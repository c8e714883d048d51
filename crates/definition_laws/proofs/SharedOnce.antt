-- Each shared constant has one entry (2026-05): a delivery's pool has no two shared constants that are the same. All through a book constants are added to the
-- pool as `add_constant` does (`PoolGrows`; for a function's pieces by `StepPreserves`), and such adding keeps shared constants apart. Assumes nothing.
use Prim.Native.Nat.{ℕ, zero, suc, ◌+◌, ◌<◌}
use native.Mathlib.Omega.{arith}
use native.Mathlib.Decide.{dec_lt}
use mathlib.Core.Path.{◌≡◌, refl, subst}
use mathlib.Core.Bool.{Bool, true, false, cond, not}
use mathlib.Core.Option.{Option, none, some}
use mathlib.Core.List.{List, [], ◌∷◌, ◌++◌}
use lib.ListN.{length, length-append, get_or-append}
use lib.Seq.{get_or-append_seam}
use lib.Dec.{T, eqb}
use Rattle.words.specs.Ast.{Token, Binding, Alias, FunctionDefinition, Definition, LocalDefinition, IncludeDefinition, ModelDefinition}
use Rattle.words.specs.Ast.{PublicModelDefinition, PlainFunction, PublicFunction, ImplementDefinition, ApplyDefinition, Document}
use Rattle.tree.specs.Reading.{documents_of}
use Rattle.words.specs.Object.{Constant, constant_of, default_constants, null_kind, model_kind, function_kind, is_shared, same_constant}
use Rattle.definition.specs.FunctionState.{Entry, FunctionState, find_name}
use Rattle.definition.specs.Uses.{Use}
use Rattle.definition.specs.Compiler.{Error, find_constant}
use Rattle.definition.specs.Book
use Rattle.definition.specs.Book.{function_count, model_count, Context, new_context, BookStep, Placed, working, add_book_constant, define_context_local}
use Rattle.definition.specs.Book.{define_context_local_by, set_local_value, gives_values, compile_include}
use Rattle.definition.specs.Book.{included_name, give_value, compile_alias, compile_include_definition, Value, Standing, Adding, NoConstant, value_of}
use Rattle.definition.specs.Book.{compile_value, compile_binding_by, compile_binding, compile_local_definition, has_text, Properties, add_property}
use Rattle.definition.specs.Book.{compile_properties, add_model, compile_model_definition, compile_base, add_function, add_plain_function}
use Rattle.definition.specs.Book.{compile_function_definition, model_of, get_local_value, find_model_by, find_model_in, find_model_index_by_local_name}
use Rattle.definition.specs.Book.{add_methods, compile_methods, compile_implement_definition, methods_of, compile_apply_definition, compile_definition}
use Rattle.definition.specs.Book.{compile_definitions, opened, compile_document}
use Rattle.definition.specs.DependencySolver.{Worked, Delivered, ready, without, after_book, drive_by, drive, compile_needed}
use Rattle.definition.specs.Answer.{Delivery, answer_from, answer}
use Rattle.definition.specs.SharedOnce.{numbered, SharedOnce}
use Rattle.definition_laws.proofs.Lists.{cond_case}
use Rattle.definition_laws.proofs.StepPreserves.{PoolGrows, same_pool, not_shared, not_found, grows_trans, preserves_constant, preserves_base}
use Rattle.definition_laws.proofs.Answer.{delivering}

-- a list of constants that grows keeps shared ones apart

-- none of the constants is the one that is not found
not_same : (c : Constant) (cs : List Constant) (k i : ℕ) → find_constant c cs k ≡ none → i < length cs → same_constant c (numbered cs i) ≡ false
not_same c [] k i e h = absurd (omega arith)
not_same c (d ∷ ds) k i e h = go (same_constant c d) refl i e h (λ j q p. not_same c ds (k + 1) j q p)
  where
    go : (b : Bool) → same_constant c d ≡ b → (i : ℕ) → cond b (some k) (find_constant c ds (k + 1)) ≡ none → i < length (d ∷ ds)
        → ((j : ℕ) → find_constant c ds (k + 1) ≡ none → j < length ds → same_constant c (numbered ds j) ≡ false) → same_constant c (numbered (d ∷ ds) i) ≡
        false
    go true s i e h rest = absurd (let z : ◌≡◌ {A = ℕ} 0 1 = cc in omega arith)
    go false s zero e h rest = s
    go false s (suc i) e h rest = rest i e (omega arith)

module _ (ds : List Constant) (d : Constant) (a : SharedOnce ds) where
  -- the constant that is added is apart from those before it, if it is shared
  apart_more : (is_shared d.kind ≡ true → (i : ℕ) → i < length ds → same_constant d (numbered ds i) ≡ false) → SharedOnce (ds ++ (d ∷ []))
  apart_more h = record { apart = λ i j p q s. go i j p q s (dec_lt j (length ds)) }
    where
      before : (i : ℕ) → i < length ds → numbered (ds ++ (d ∷ [])) i ≡ numbered ds i
      before i p = get_or-append ds (d ∷ []) (constant_of null_kind 0) i p

      go : (i j : ℕ) → i < j → j < length (ds ++ (d ∷ [])) → is_shared (numbered (ds ++ (d ∷ [])) j).kind ≡ true → Dec (j < length ds)
          → same_constant (numbered (ds ++ (d ∷ [])) j) (numbered (ds ++ (d ∷ [])) i) ≡ false
      go i j p q s (yes r) = rw (before j r, before i (omega arith)) (a.apart i j p r (rw (before j r) at s))
      go i j p q s (no r) =
          let e : j ≡ length ds = omega (arith, length-append ds (d ∷ [])) in
          let there : numbered (ds ++ (d ∷ [])) j ≡ d = rw e (get_or-append_seam ds d [] (constant_of null_kind 0)) in
          rw (there, before i (omega arith)) (h (rw there at s) i (omega arith))

pub grows_apart : {cs ds : List Constant} → SharedOnce cs → PoolGrows cs ds → SharedOnce ds
grows_apart a same_pool = a
grows_apart a (not_shared ds d g t) = apart_more ds d (grows_apart a g) (λ s. absurd (subst (λ (b : Bool). T (not b)) s t))
grows_apart a (not_found ds d g e) = apart_more ds d (grows_apart a g) (λ s i h. not_same d ds 0 i e h)

-- a book's pool

abbrev pool_of : Book.Book → List Constant
pool_of b = b.context.pool.constants

abbrev Grows : BookStep → Type 0
Grows d = (b : Book.Book) → PoolGrows (pool_of b) (pool_of (d b))

grows_constant : (c : Constant) (b : Book.Book) → PoolGrows (pool_of b) (pool_of (add_book_constant c b).book)
grows_constant c b = (preserves_constant c (working b)).pool

grows_define : (n : ℕ) (b : Book.Book) → PoolGrows (pool_of b) (pool_of (define_context_local n b).book)
unfolding define_context_local
grows_define n b = go (find_name n b.compiler.locals)
  where
    go : (o : Option ℕ) → PoolGrows (pool_of b) (pool_of (define_context_local_by o n b).book)
    go none = same_pool
    go (some i) = same_pool

grows_value : (o : Option ℕ) (c : ℕ) → Grows (set_local_value o c)
grows_value none c b = same_pool
grows_value (some i) c b = same_pool

grows_alias : (file : ℕ) (a : Alias) → Grows (compile_alias file a)
unfolding compile_alias
grows_alias file a b =
    let d = define_context_local a.alias.value b in
    grows_trans (grows_define a.alias.value b) (go d.place (included_name file a.public_name.value b.context) d.book)
  where
    go : (p o : Option ℕ) → Grows (give_value p o)
    go p none b = same_pool
    go p (some c) b = grows_value p c b

grows_include : (file : ℕ) (l : List Alias) → Grows (compile_include_definition file l)
unfolding compile_include_definition
grows_include file [] b = same_pool
grows_include file (a ∷ l) b = grows_trans (grows_alias file a b) (grows_include file l (compile_alias file a b))

grows_include_or_row_11 : (index file : ℕ) (l : List Alias) → Grows (compile_include index file l)
unfolding compile_include
grows_include_or_row_11 index file l b =
    cond_case (λ (x : Book.Book). PoolGrows (pool_of b) (pool_of x)) (gives_values file l b.context) (λ t. grows_include file l b) (λ t. same_pool)

grows_compile_value : (v : Value) (t : Token) (o : Option ℕ) → Grows (compile_value v t o)
grows_compile_value (Standing n) t o b = grows_value o n b
grows_compile_value (Adding c) t o b =
    let a = add_book_constant c b in
    grows_trans (grows_constant c b) (grows_value o a.place a.book)
grows_compile_value NoConstant t o b = same_pool

grows_binding : (x : Binding) → Grows (compile_binding x)
unfolding compile_binding
grows_binding x b =
    let d = define_context_local x.variable.value b in
    grows_trans (grows_define x.variable.value b) (go d.place x.value d.book)
  where
    go : (o : Option ℕ) (v : Option Token) → Grows (compile_binding_by o v)
    go none v b = same_pool
    go (some i) none b = same_pool
    go (some i) (some t) b = grows_compile_value (value_of t) t (some i) b

grows_locals : (l : List Binding) → Grows (compile_local_definition l)
unfolding compile_local_definition
grows_locals [] b = same_pool
grows_locals (x ∷ l) b = grows_trans (grows_binding x b) (grows_locals l (compile_binding x b))

-- models

grows_property : (t : Token) (ps : List ℕ) (b : Book.Book) → PoolGrows (pool_of b) (pool_of (add_property t ps b).book)
grows_property t ps b = cond_case (λ (p : Properties). PoolGrows (pool_of b) (pool_of p.book)) (has_text t.value ps) (λ h. same_pool) (λ h. same_pool)

grows_properties : (ts : List Token) (ps : List ℕ) (b : Book.Book) → PoolGrows (pool_of b) (pool_of (compile_properties ts ps b).book)
unfolding compile_properties
grows_properties [] ps b = same_pool
grows_properties (t ∷ ts) ps b = grows_trans (grows_property t ps b) (grows_properties ts (add_property t ps b).texts (add_property t ps b).book)

grows_model : (n : Token) (ts : List Token) (b : Book.Book) → PoolGrows (pool_of b) (pool_of (compile_model_definition n ts b).book)
unfolding compile_model_definition
grows_model n ts b =
    let p = compile_properties ts [] b in
    let c = constant_of model_kind (model_count p.book.context) in
    let b₂ = add_model p.texts n.value p.book in
    let a = add_book_constant c b₂ in
    let d = define_context_local n.value a.book in
    grows_trans (grows_properties ts [] b)
    (grows_trans (grows_constant c b₂) (grows_trans (grows_define n.value a.book) (grows_value d.place a.place d.book)))

-- functions

grows_base : (f : FunctionDefinition) (b : Book.Book) → PoolGrows (pool_of b) (pool_of (compile_base f b).book)
unfolding compile_base
grows_base f b = (preserves_base f (working b)).pool

grows_plain : (o : Option ℕ) (s : FunctionState) (n : ℕ) (b : Book.Book) → PoolGrows (pool_of b) (pool_of (add_plain_function o s n b).book)
unfolding add_plain_function
grows_plain o s n b =
    let c = constant_of function_kind (function_count b.context) in
    let a = add_book_constant c (add_function s n b) in
    let g = grows_trans (grows_constant c (add_function s n b)) (grows_value o a.place a.book) in
    cond_case (λ (x : Book.Book). PoolGrows (pool_of b) (pool_of x)) (eqb n 1) (λ t. g) (λ t. g)

grows_function : (f : FunctionDefinition) (b : Book.Book) → PoolGrows (pool_of b) (pool_of (compile_function_definition f b).book)
unfolding compile_function_definition
grows_function f b =
    let d = define_context_local f.name.value b in
    let m = compile_base f d.book in
    let g = grows_trans (grows_define f.name.value b) (grows_base f d.book) in
    cond_case (λ (p : Placed). PoolGrows (pool_of b) (pool_of p.book)) m.state.header.is_instance (λ t. g)
    (λ t. grows_trans g (grows_plain d.place m.state f.name.value m.book))

-- implement and apply

grows_find : (t : Token) (b : Book.Book) → PoolGrows (pool_of b) (pool_of (find_model_index_by_local_name t b).book)
unfolding find_model_index_by_local_name
grows_find t b = outer (find_name t.value b.compiler.locals)
  where
    inner : (o : Option ℕ) → PoolGrows (pool_of b) (pool_of (find_model_by o t b).book)
    inner none = same_pool
    inner (some m) = same_pool

    outer : (o : Option ℕ) → PoolGrows (pool_of b) (pool_of (find_model_in o t b).book)
    outer none = same_pool
    outer (some local) = inner (model_of (get_local_value local b.context))

grows_methods : (o : Option ℕ) (es : List Entry) → Grows (add_methods o es)
grows_methods none es b = same_pool
grows_methods (some m) es b = same_pool

grows_compile_methods : (fs : List FunctionDefinition) (es : List Entry) (b : Book.Book) → PoolGrows (pool_of b) (pool_of (compile_methods fs es b).book)
unfolding compile_methods
grows_compile_methods [] es b = same_pool
grows_compile_methods (f ∷ fs) es b = grows_trans (grows_base f b) (grows_compile_methods fs _ _)

-- documents

grows_definition : (d : Definition) → Grows (compile_definition d)
unfolding compile_definition compile_implement_definition compile_apply_definition
grows_definition (LocalDefinition bs) b = grows_locals bs b
grows_definition (IncludeDefinition index file l) b = grows_include_or_row_11 index file.value l b
grows_definition (ModelDefinition n ps) b = grows_model n ps b
grows_definition (PublicModelDefinition n ps) b = grows_model n ps b
grows_definition (PlainFunction f) b = grows_function f b
grows_definition (PublicFunction f) b = grows_function f b
grows_definition (ImplementDefinition m fs) b =
    let c = compile_methods fs [] b in
    let d = find_model_index_by_local_name m c.book in
    grows_trans (grows_compile_methods fs [] b) (grows_trans (grows_find m c.book) (grows_methods d.place c.entries d.book))
grows_definition (ApplyDefinition s t) b =
    let d = find_model_index_by_local_name s b in
    let e = find_model_index_by_local_name t d.book in
    grows_trans (grows_find s b) (grows_trans (grows_find t d.book) (grows_methods e.place (methods_of d.place d.book.context) e.book))

grows_definitions : (ds : List Definition) → Grows (compile_definitions ds)
unfolding compile_definitions
grows_definitions [] b = same_pool
grows_definitions (d ∷ ds) b = grows_trans (grows_definition d b) (grows_definitions ds (compile_definition d b))

grows_document : (d : Document) (c : Context) (us : List Use) → PoolGrows c.pool.constants (compile_document d c us).context.pool.constants
unfolding compile_document
grows_document d c us = grows_definitions d.definitions (opened d c us)

-- books in their order

abbrev Ends : Context → Context → Worked → Type 0
Ends c r w = w.ending ≡ Delivered r → PoolGrows c.pool.constants r.pool.constants

drive_grows : (k : ℕ) (ds : List Document) (done left : List ℕ) (c r : Context) (us : List Use) → Ends c r (drive k ds done left c us)
unfolding drive
drive_grows zero ds done left c r us e = let z : c ≡ r = cc in subst (λ (x : Context). PoolGrows c.pool.constants x.pool.constants) z same_pool
drive_grows (suc k) ds done left c r us e = go (ready ds done left) (λ d c' us'. drive_grows k ds _ _ c' r us') e
  where
    next : Document → Context → List Use → Worked
    next d c' us' = drive k ds (d.filename ∷ done) (without d.filename left) c' us'

    after : (d : Document) (es : List Error) → ((c' : Context) (us' : List Use) → Ends c' r (next d c' us'))
        → Ends c r (after_book es d.filename (compile_document d c us).context (compile_document d c us).uses (next d))
    after d [] rest = λ q. grows_trans (grows_document d c us) (rest _ _ q)
    after d (x ∷ es) rest = λ q. absurd (let z : ◌≡◌ {A = ℕ} 0 1 = cc in omega arith)

    go : (o : Option Document) → ((d : Document) (c' : Context) (us' : List Use) → Ends c' r (next d c' us')) → Ends c r (drive_by o left c us next)
    go none rest = λ q. absurd (let z : ◌≡◌ {A = ℕ} 0 1 = cc in omega arith)
    go (some d) rest = after d (compile_document d c us).compiler.errors (rest d)

-- what a compile adds to the pool of a context that stands
pub standing_grows : (w lengths : List ℕ) (c r : Context) → answer_from c w lengths ≡ Delivery r → PoolGrows c.pool.constants r.pool.constants
unfolding compile_needed
standing_grows w lengths c r e =
    let d = delivering c w lengths r e in
    drive_grows (length d.numbers) (documents_of w) _ d.numbers c r _ d.ends

-- the three constants of a fresh pool are not shared
fresh_apart : SharedOnce default_constants
fresh_apart = record { apart = λ i j p q s. go i j p q s }
  where
    go : (i j : ℕ) → i < j → j < 3 → is_shared (numbered default_constants j).kind ≡ true
        → same_constant (numbered default_constants j) (numbered default_constants i) ≡ false
    go i zero p q s = absurd (omega arith)
    go i (suc zero) p q s = absurd (let z : ◌≡◌ {A = ℕ} 0 1 = cc in omega arith)
    go i (suc (suc zero)) p q s = absurd (let z : ◌≡◌ {A = ℕ} 0 1 = cc in omega arith)
    go i (suc (suc (suc j))) p q s = absurd (omega arith)

-- the pool of a delivery has no two shared constants that are the same
pub shared_once : (strict : Bool) (w lengths : List ℕ) (c : Context) → answer strict w lengths ≡ Delivery c → SharedOnce c.pool.constants
unfolding answer
shared_once strict w lengths c e = grows_apart fresh_apart (standing_grows w lengths (new_context strict) c e)

-- and so has the pool of a delivery onto a context whose pool has none
pub standing_shared_once : (w lengths : List ℕ) (c r : Context) → answer_from c w lengths ≡ Delivery r → SharedOnce c.pool.constants
    → SharedOnce r.pool.constants
standing_shared_once w lengths c r e a = grows_apart a (standing_grows w lengths c r e)
