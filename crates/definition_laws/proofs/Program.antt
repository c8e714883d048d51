-- Demand 3 of a whole program: every definition keeps the context within itself, where no error is left
use Prim.Native.Nat.{ℕ, zero, suc, ◌+◌, ◌≤◌, ◌<◌}
use native.Mathlib.Nat.{le_refl, le_trans}
use native.Mathlib.Omega.{arith}
use native.Mathlib.Decide.{ℕ_discrete}
use mathlib.Core.Path.{◌≡◌, refl, sym, ap, ◌∙◌, subst}
use mathlib.Core.Logic.{inl, inr}
use mathlib.Core.Bool.{Bool, true, false, cond}
use mathlib.Core.Option.{Option, none, some}
use mathlib.Core.List.{List, [], ◌∷◌, ◌++◌}
use lib.ListN.{length, get_or, length-append}
use lib.Dec.{T, eqb, eqb→eq}
use Rattle.words.specs.Ast.{Token}
use Rattle.definition.specs.FunctionState.{Entry, FunctionState, new_function_state, find_name}
use Rattle.definition.specs.Compiler
use Rattle.definition.specs.Uses.{Use}
use Rattle.words.specs.Areas.{start_word}
use Rattle.words.specs.Object.{Constant, constant_of, is_shared}
use Rattle.words.specs.Opcode.{unword}
use Rattle.definition.specs.Compiler.{Error, CompilerContext, Work, add_constant, add_constant_no_check, Added, find_constant}
use Rattle.definition.specs.Compiler.{compile_function_definition_base}
use Rattle.definition.specs.Book
use Rattle.words.specs.Ast.{Binding, Alias, FunctionDefinition, Definition, LocalDefinition, IncludeDefinition, ModelDefinition, PublicModelDefinition}
use Rattle.words.specs.Ast.{PlainFunction, PublicFunction, ImplementDefinition, ApplyDefinition, Document}
use Rattle.definition.specs.Prior.{Entries, Prior, book_index, has_key, find_public}
use Rattle.definition.specs.Book.{Function, Model, Method, Assembly, Context, function_count, model_count, book_count, included_from, included_name}
use Rattle.definition.specs.Book.{BookStep, working, resumed, Placed, add_book_constant, MaybePlaced, define_context_local, define_context_local_by}
use Rattle.definition.specs.Book.{with_constant, only_one, gives_values, compile_include}
use Rattle.definition.specs.Book.{set_local_value, find_assembly, public_of, give_value, compile_alias, compile_include_definition, Value, Standing, Adding}
use Rattle.definition.specs.Book.{NoConstant, value_of, compile_value, compile_binding_by, compile_binding, compile_local_definition}
use Rattle.definition.specs.Book.{add_property, noted, add_model, value_at, compile_properties, has_text, compile_model_definition, publish, Made}
use Rattle.definition.specs.Book.{compile_base, add_function}
use Rattle.definition.specs.Book.{add_plain_function, compile_function_definition, model_of, constant_at, get_local_value, find_model_by, find_model_in}
use Rattle.definition.specs.Book.{find_model_index_by_local_name, insert_entry, same_method, insert_method, insert_methods, add_methods, methods_in, Methods}
use Rattle.definition.specs.Book.{compile_methods, compile_implement_definition, methods_of, compile_apply_definition, compile_definition}
use Rattle.definition.specs.Book.{compile_definitions, opened, compile_document, push_book_error, new_context}
use Rattle.words.specs.Areas.{properties_area}
use Rattle.definition.specs.DependencySolver.{Worked, Delivered, ready, without, after_book, drive_by, drive, compile_needed}
use Rattle.definition.specs.Within.{All, nil, ◌&◌, Class, Position, Slot, Read, Pool, ContextSlot, Other, class_of}
use Rattle.definition_laws.proofs.Safe.{EntryWithin, FunctionSafe, Named, LooseBy}
use Rattle.definition_laws.proofs.Safe.{standing_counts, StandingSafe, PriorSafe, PriorWide, Parts, PartsOf}
use Rattle.definition_laws.proofs.Safe.{ProgramSafe}
use Rattle.definition_laws.proofs.Lists.{all_map, all_append, cond_case}
use Rattle.definition_laws.proofs.Sound.{Wider, fit_mono, fits_mono, find_name_lem}
use Rattle.definition_laws.proofs.Moves.{Moves}
use Rattle.definition_laws.proofs.Good.{Good, Ready, find_constant_lem, no_snoc, function_good, function_moves, function_safe}

abbrev faults : Book.Book → List Error
faults b = b.compiler.errors

abbrev constants_of : Book.Book → ℕ
constants_of b = length b.context.pool.constants

record BookGood (b : Book.Book) : Type 0 where
  wide : PriorWide b.context.prior
  parts : PartsOf (book_count b.context + 1) b.context
  index : b.assembly.index ≡ book_count b.context
  counted : length b.context.prior.locals + length b.context.locals.names ≡ b.context.pool.local_count
  pool : 3 ≤ length b.context.pool.constants
  names : All (λ (e : Entry). e.index < b.context.pool.local_count) b.compiler.locals
  own : All (λ (e : Entry). e.index < length b.context.pool.constants) b.assembly.publics

-- growing counts

safe_mono : {K K' C C' : ℕ} {f : FunctionState} → K ≤ K' → C ≤ C' → FunctionSafe K C f → FunctionSafe K' C' f
safe_mono {f = f} k c s = record {
  sized = s.sized;
  fits = fits_mono f.code.instructions
      (record { tops = le_refl _; slots = le_refl _; pools = k; globals = c; reads = λ i a. a }) s.fits;
  rescue = s.rescue;
  loops = s.loops;
  breaks = s.breaks;
  closed = s.closed;
  nexts = s.nexts;
}

standing_mono : {K K' C C' A A' : ℕ} {code : Entries} {f : List ℕ} → K ≤ K' → C ≤ C' → A ≤ A' → StandingSafe K C A code f → StandingSafe K' C' A' code f
standing_mono {K} {K'} {C} {C'} {code = code} {f = f} k c a s = record {
  inside = s.inside;
  fits = λ i h. fit_mono i (unword (get_or (get_or code (get_or f start_word 0 + i) []) 0 0)) wider (s.fits i h);
  rescue = s.rescue;
  file = le_trans s.file a;
}
  where
    wider : Wider (standing_counts K C f) (standing_counts K' C' f)
    wider = record { tops = le_refl _; slots = le_refl _; pools = k; globals = c; reads = λ i a. a }

loose_mono : (k : Class) (n : ℕ) {K K' C C' : ℕ} → K ≤ K' → C ≤ C' → LooseBy k K C n → LooseBy k K' C' n
loose_mono Pool n k c h = le_trans h k
loose_mono ContextSlot n k c h = le_trans h c
loose_mono Position n k c h = tt
loose_mono Slot n k c h = tt
loose_mono Read n k c h = tt
loose_mono Other n k c h = tt

prior_mono : {K K' C C' M M' A A' : ℕ} {p : Prior} → K ≤ K' → C ≤ C' → M ≤ M' → A ≤ A' → PriorSafe K C M A p → PriorSafe K' C' M' A' p
prior_mono k c m a s = record {
  code = all_map (λ e h. loose_mono (class_of (unword (get_or e 0 0)).opcode) (unword (get_or e 0 0)).operand k c h) s.code;
  functions = all_map (λ f h. standing_mono k c a h) s.functions;
  models = all_map (λ e h. le_trans h a) s.models;
  properties = all_map (λ e h. le_trans h m) s.properties;
  locals = all_map (λ e h. (le_trans h.0 a, h.1, λ q. le_trans (h.2 q) k)) s.locals;
  publics = all_map (λ e h. (le_trans h.0 a, le_trans h.1 k)) s.publics;
}

named_mono : {M M' F F' : ℕ} {c : Constant} → M ≤ M' → F ≤ F' → Named M F c → Named M' F' c
named_mono m f n = (λ e. le_trans (n.0 e) m, λ e. le_trans (n.1 e) f)

entered_mono : {F F' n : ℕ} → F ≤ F' → EntryWithin F n → EntryWithin F' n
entered_mono h (inl q) = inl (le_trans q h)
entered_mono {F} {F'} {n} h (inr q) = go (ℕ_discrete F' 0)
  where
    go : Dec (F' ≡ 0) → EntryWithin F' n
    go (yes e) = inr (q.0, e)
    go (no e) = inl (omega (arith, q.0))

parts_mono : {K K' C C' M M' F F' A A' : ℕ} {c : Context} → K ≤ K' → C ≤ C' → M ≤ M' → F ≤ F' → A ≤ A' → Parts K C M F A c → Parts K' C' M' F' A' c
parts_mono k c m f a p = record {
  prior = prior_mono k c m a p.prior;
  functions = all_map (λ x s. (safe_mono k c s.0, le_trans s.1 a)) p.functions;
  constants = all_map (λ x n. named_mono m f n) p.constants;
  globals = all_map (λ x h. le_trans h k) p.globals;
  models = all_map (λ x h. le_trans h a) p.models;
  names = all_map (λ x h. le_trans h a) p.names;
  values = all_map (λ x h. (le_trans h.0 c, le_trans h.1 k)) p.values;
  methods = all_map (λ x h. (le_trans h.0 m, le_trans h.1 f)) p.methods;
  publics = all_map (λ x hs. (le_trans hs.0 a, all_map (λ y h. le_trans h k) hs.1)) p.publics;
  entry = entered_mono f p.entry;
}

-- lists

all_insert : {P : Entry → Type 0} {l : List Entry} (e : Entry) → P e → All P l → All P (insert_entry e l)
all_insert e p nil = p & nil
all_insert {P} {l} e p (◌&◌ {x = x} {xs = xs} q qs) = cond_case (All P) (eqb x.name e.name) (λ t. p & qs) (λ t. q & all_insert e p qs)

-- a pool's constant, found or added

pub added_case : (P : Added → Type 0) (c : Constant) (w : Work) → P (add_constant_no_check c w)
    → ((i : ℕ) → i < length w.context.constants → P (record { index = i; work = w })) → P (add_constant c w)
unfolding add_constant
added_case P c w new old = cond_case P (is_shared c.kind) (λ t. go (find_constant c w.context.constants 0) refl) (λ t. new)
  where
    go : (o : Option ℕ) → find_constant c w.context.constants 0 ≡ o → P (Compiler.add_constant_by o c w)
    go none e = new
    go (some i) e = old i (omega (arith, find_constant_lem c w.context.constants 0 i e))

record BookPlaced (b : Book.Book) (p : Placed) : Type 0 where
  good : BookGood p.book
  inside : p.place < length p.book.context.pool.constants

constant_placed : (c : Constant) (b : Book.Book) → BookGood b → Named (model_count b.context) (function_count b.context) c
    → BookPlaced b (add_book_constant c b)
constant_placed c b g n = added_case (λ (a : Added). BookPlaced b (record { place = a.index; book = resumed a.work b })) c (working b) new
    (λ i h. record {
      good = record { parts = g.parts; pool = g.pool; names = g.names; own = g.own; index = g.index; counted = g.counted; wide = g.wide };
      inside = h;
    })
  where
    cs : List Constant
    cs = b.context.pool.constants

    longer : length (cs ++ (c ∷ [])) ≡ length cs + 1
    longer = length-append cs (c ∷ [])

    more : length cs ≤ length (cs ++ (c ∷ []))
    more = omega (arith, longer)

    p : Parts (length (cs ++ (c ∷ []))) b.context.pool.local_count (model_count b.context) (function_count b.context)
        (book_count b.context + 1) b.context
    p = parts_mono more (le_refl _) (le_refl _) (le_refl _) (le_refl _) g.parts

    new : BookPlaced b (record { place = (add_constant_no_check c (working b)).index; book = resumed (add_constant_no_check c (working b)).work b })
    new = record {
      good = record {
        parts = record {
          prior = p.prior;
          functions = p.functions;
          constants = all_append p.constants (n & nil);
          globals = p.globals;
          models = p.models;
          names = p.names;
          values = p.values;
          methods = p.methods;
          publics = p.publics;
          entry = p.entry;
        };
        pool = le_trans g.pool more;
        names = g.names;
        own = all_map (λ x h. le_trans h more) g.own;
        index = g.index;
        counted = g.counted;
        wide = g.wide;
      };
      inside = omega (arith, longer);
    }

-- a context local

record BookDefined (b : Book.Book) (d : MaybePlaced) : Type 0 where
  good : BookGood d.book
  inside : (i : ℕ) → d.place ≡ some i → i < d.book.context.pool.local_count
  constants : d.book.context.pool.constants ≡ b.context.pool.constants
  functions : d.book.context.program.functions ≡ b.context.program.functions
  faults_same : faults d.book ≡ faults b

defined : (n : ℕ) (b : Book.Book) → BookGood b → BookDefined b (define_context_local n b)
unfolding define_context_local
defined n b g = go (find_name n b.compiler.locals)
  where
    L : ℕ
    L = b.context.pool.local_count

    p : Parts (length b.context.pool.constants) (L + 1) (model_count b.context) (function_count b.context)
        (book_count b.context + 1) b.context
    p = parts_mono (le_refl _) (omega arith) (le_refl _) (le_refl _) (le_refl _) g.parts

    go : (o : Option ℕ) → BookDefined b (define_context_local_by o n b)
    go (some i) = record {
      good = g;
      inside = λ j e. absurd (let z : ◌≡◌ {A = ℕ} 0 1 = cc in omega arith);
      constants = refl;
      functions = refl;
      faults_same = refl;
    }
    go none = record {
      good = record {
        parts = record {
          prior = p.prior;
          functions = p.functions;
          constants = p.constants;
          globals = p.globals;
          models = p.models;
          names = all_append p.names (mine & nil);
          values = p.values;
          methods = p.methods;
          publics = p.publics;
          entry = p.entry;
        };
        pool = g.pool;
        names = all_append (all_map (λ x h. omega arith) g.names) (here & nil);
        own = g.own;
        index = g.index;
        counted = omega (arith, length-append b.context.locals.names (record { name = n; index = b.assembly.index } ∷ []), g.counted);
        wide = g.wide;
      };
      inside = λ j e. let z : L ≡ j = cc in omega arith;
      constants = refl;
      functions = refl;
      faults_same = refl;
    }
      where
        here : L < L + 1
        here = omega arith

        mine : b.assembly.index < book_count b.context + 1
        mine = omega (arith, g.index)

value_good : (o : Option ℕ) (c : ℕ) (b : Book.Book) → BookGood b → ((i : ℕ) → o ≡ some i → i < b.context.pool.local_count)
    → c < length b.context.pool.constants → BookGood (set_local_value o c b)
value_good none c b g h k = g
value_good (some i) c b g h k = record {
  parts = record {
    prior = g.parts.prior;
    functions = g.parts.functions;
    constants = g.parts.constants;
    globals = g.parts.globals;
    models = g.parts.models;
    names = g.parts.names;
    values = all_insert _ (h i refl, k) g.parts.values;
    methods = g.parts.methods;
    publics = g.parts.publics;
    entry = g.parts.entry;
  };
  pool = g.pool;
  names = g.names;
  own = g.own;
  index = g.index;
  counted = g.counted;
  wide = g.wide;
}

value_faults : (o : Option ℕ) (c : ℕ) (b : Book.Book) → faults (set_local_value o c b) ≡ faults b
value_faults none c b = refl
value_faults (some i) c b = refl

define_before : (n : ℕ) (b : Book.Book) → faults (define_context_local n b).book ≡ [] → faults b ≡ []
unfolding define_context_local
define_before n b e = go (find_name n b.compiler.locals) e
  where
    go : (o : Option ℕ) → faults (define_context_local_by o n b).book ≡ [] → faults b ≡ []
    go none q = q
    go (some i) q = q

value_pool : (o : Option ℕ) (c : ℕ) (b : Book.Book) → (set_local_value o c b).context.pool ≡ b.context.pool
value_pool none c b = refl
value_pool (some i) c b = refl

-- a step that keeps the context within itself
record Fine (d : BookStep) : Type 0 where
  before : (b : Book.Book) → faults (d b) ≡ [] → faults b ≡ []
  keeps : (b : Book.Book) → BookGood b → faults (d b) ≡ [] → BookGood (d b)

faulty : {A : Type 0} (n : ℕ) (t : Token) (b : Book.Book) → faults (push_book_error n t b) ≡ [] → A
faulty n t b e = absurd (no_snoc (faults b) _ e)

fine_then : {d e : BookStep} → Fine d → Fine e → Fine (λ b. e (d b))
fine_then D E = record { before = λ b h. D.before b (E.before _ h); keeps = λ b g h. E.keeps _ (D.keeps b g (E.before _ h)) h }

-- includes

pub find_assembly_lem : {P : Assembly → Type 0} (n : ℕ) (a : Assembly) (l : List Assembly) → All P l → find_assembly n l ≡ some a → P a
find_assembly_lem n a [] nil e = absurd (let z : ◌≡◌ {A = ℕ} 0 1 = cc in omega arith)
find_assembly_lem {P} n a (x ∷ l) (p & ps) e = go (eqb x.filename n) (λ q. find_assembly_lem n a l ps q) e
  where
    go : (b : Bool) → (find_assembly n l ≡ some a → P a) → cond b (some x) (find_assembly n l) ≡ some a → P a
    go true r q = let z : x ≡ a = cc in subst P z p
    go false r q = r q

standing_public : {K : ℕ} (book name i : ℕ) {es : Entries} → All (λ (e : List ℕ). get_or e 2 0 < K) es → find_public book name es ≡ some i → i < K
standing_public book name i nil e = absurd (let z : ◌≡◌ {A = ℕ} 0 1 = cc in omega arith)
standing_public {K} book name i (◌&◌ {x = x} {xs = es} p ps) e = go (has_key book name x) (λ q. standing_public book name i ps q) e
  where
    go : (b : Bool) → (find_public book name es ≡ some i → i < K) → cond b (some (get_or x 2 0)) (find_public book name es) ≡ some i → i < K
    go true r q = let z : get_or x 2 0 ≡ i = cc in omega arith
    go false r q = r q

-- the case of one name is its rule
pub one_name : (file name : ℕ) (c : Context) → included_name file name c ≡ included_from (book_index file 0 c.prior.books) file name c
one_name file name c = go (included_from (book_index file 0 c.prior.books) file name c)
  where
    go : (o : Option ℕ) → only_one (with_constant o (some [])) ≡ o
    go none = refl
    go (some k) = refl

find_public_lem : (m n i : ℕ) (b : Book.Book) → BookGood b → included_name m n b.context ≡ some i → i < length b.context.pool.constants
find_public_lem m n i b g e = by (book_index m 0 b.context.prior.books) (sym (one_name m n b.context) ∙ e)
  where
    go : (o : Option Assembly) → find_assembly m b.context.assemblies ≡ o → public_of o n ≡ some i → i < length b.context.pool.constants
    go none q r = absurd (let z : ◌≡◌ {A = ℕ} 0 1 = cc in omega arith)
    go (some a) q r = find_name_lem n i (find_assembly_lem {P = λ (x : Assembly). (x.index < book_count b.context + 1)
        × All (λ (y : Entry). y.index < length b.context.pool.constants) x.publics} m a _ g.parts.publics q).1 r

    by : (o : Option ℕ) → included_from o m n b.context ≡ some i → i < length b.context.pool.constants
    by none q = go (find_assembly m b.context.assemblies) refl q
    by (some k) q = standing_public k n i (all_map (λ x h. h.1) g.parts.prior.publics) q

alias_fine : (file : ℕ) (a : Alias) → Fine (compile_alias file a)
unfolding compile_alias
alias_fine file a = record {
  before = λ b e. same b (lookup b) e;
  keeps = λ b g e. let d = defined a.alias.value b g in go b d _ refl (λ i q. rw d.constants (find_public_lem file a.public_name.value i b g q));
}
  where
    lookup : Book.Book → Option ℕ
    lookup b = included_name file a.public_name.value b.context

    same : (b : Book.Book) (o : Option ℕ) → faults (give_value (define_context_local a.alias.value b).place o
        (define_context_local a.alias.value b).book) ≡ [] → faults b ≡ []
    same b none e = define_before a.alias.value b e
    same b (some c) e = define_before a.alias.value b (sym
        (value_faults (define_context_local a.alias.value b).place c (define_context_local a.alias.value b).book) ∙ e)

    go : (b : Book.Book) → BookDefined b (define_context_local a.alias.value b) → (o : Option ℕ) → lookup b ≡ o
        → ((i : ℕ) → lookup b ≡ some i → i < length (define_context_local a.alias.value b).book.context.pool.constants)
        → BookGood (give_value (define_context_local a.alias.value b).place o (define_context_local a.alias.value b).book)
    go b d none q h = d.good
    go b d (some c) q h = value_good _ c _ d.good d.inside (h c q)

include_fine : (file : ℕ) (l : List Alias) → Fine (compile_include_definition file l)
unfolding compile_include_definition
include_fine file [] = record { before = λ b e. e; keeps = λ b g e. g }
include_fine file (a ∷ l) = fine_then (alias_fine file a) (include_fine file l)

noted_good : (area n : ℕ) (b : Book.Book) → BookGood b → BookGood (noted area n b)
noted_good area n b g = record { parts = g.parts; pool = g.pool; names = g.names; own = g.own; index = g.index; counted = g.counted; wide = g.wide }

include_or_row_11 : (index file : ℕ) (l : List Alias) → Fine (compile_include index file l)
unfolding compile_include
include_or_row_11 index file l = record {
  before = λ b. cond_case (λ (x : Book.Book). faults x ≡ [] → faults b ≡ []) (gives_values file l b.context) (λ t e. (include_fine file l).before b e)
      (λ t e. e);
  keeps = λ b g. cond_case (λ (x : Book.Book). faults x ≡ [] → BookGood x) (gives_values file l b.context) (λ t e. (include_fine file l).keeps b g e)
      (λ t e. noted_good _ 1 b g);
}

-- local definitions

plain_named : {M F : ℕ} (k v : ℕ) → k < 5 → Named M F (constant_of k v)
plain_named k v h = (λ e. absurd (omega arith), λ e. absurd (omega arith))

-- what a value adds is an integer or a float, and what stands is one of the first three
data Simple : Value → Type 0 where
  standing : {n : ℕ} → n < 3 → Simple (Standing n)
  adding : {k v : ℕ} → k < 5 → Simple (Adding (constant_of k v))
  neither : Simple NoConstant

simple : (t : Token) → Simple (value_of t)
simple t = cond_case Simple (eqb t.kind 32) (λ h. standing (omega arith))
    (λ h. cond_case Simple (eqb t.kind 36) (λ h. standing (cond_case (λ n. n < 3) (eqb t.value 1) (λ h. omega arith) (λ h. omega arith)))
    (λ h. cond_case Simple (eqb t.kind 33) (λ h. adding (omega arith))
    (λ h. cond_case Simple (eqb t.kind 34) (λ h. adding (omega arith)) (λ h. neither))))

constant_before : (c : Constant) (b : Book.Book) → faults (add_book_constant c b).book ≡ faults b
constant_before c b = added_case (λ (a : Added). faults (resumed a.work b) ≡ faults b) c (working b) refl (λ i h. refl)

constant_locals : (c : Constant) (b : Book.Book) → (add_book_constant c b).book.context.pool.local_count ≡ b.context.pool.local_count
constant_locals c b = added_case (λ (a : Added). (resumed a.work b).context.pool.local_count ≡ b.context.pool.local_count) c (working b) refl (λ i h. refl)

compile_value_before : (v : Value) (t : Token) (o : Option ℕ) (b : Book.Book) → faults (compile_value v t o b) ≡ [] → faults b ≡ []
compile_value_before (Standing n) t o b e = sym (value_faults o n b) ∙ e
compile_value_before (Adding c) t o b e = sym (constant_before c b) ∙ sym (value_faults o (add_book_constant c b).place (add_book_constant c b).book) ∙ e
compile_value_before NoConstant t o b e = faulty 5 t b e

compile_value_good : {v : Value} → Simple v → (t : Token) (i : ℕ) (b : Book.Book) → BookGood b → i < b.context.pool.local_count
    → faults (compile_value v t (some i) b) ≡ [] → BookGood (compile_value v t (some i) b)
compile_value_good (standing h) t i b g k e = value_good (some i) _ b g (λ j q. let z : i ≡ j = cc in omega arith) (le_trans h g.pool)
compile_value_good (adding {k = n} {v = v} h) t i b g k e =
    let a = constant_placed (constant_of n v) b g (plain_named n v h) in
    value_good (some i) _ _ a.good (λ j q. let z : i ≡ j = cc in omega (arith, constant_locals (constant_of n v) b)) a.inside
compile_value_good neither t i b g k e = faulty 5 t b e

binding_fine : (x : Binding) → Fine (compile_binding x)
unfolding compile_binding
binding_fine x = record {
  before = λ b e. define_before x.variable.value b (back (define_context_local x.variable.value b).place x.value _ e);
  keeps = λ b g e. let d = defined x.variable.value b g in go b d (define_context_local x.variable.value b).place x.value d.inside e;
}
  where
    back : (o : Option ℕ) (v : Option Token) (b : Book.Book) → faults (compile_binding_by o v b) ≡ [] → faults b ≡ []
    back none v b e = e
    back (some i) none b e = e
    back (some i) (some t) b e = compile_value_before (value_of t) t (some i) b e

    go : (b : Book.Book) → BookDefined b (define_context_local x.variable.value b) → (o : Option ℕ) (v : Option Token)
        → ((i : ℕ) → o ≡ some i → i < (define_context_local x.variable.value b).book.context.pool.local_count)
        → faults (compile_binding_by o v (define_context_local x.variable.value b).book) ≡ []
        → BookGood (compile_binding_by o v (define_context_local x.variable.value b).book)
    go b d none v h e = d.good
    go b d (some i) none h e = d.good
    go b d (some i) (some t) h e = compile_value_good (simple t) t i _ d.good (h i refl) e

locals_fine : (l : List Binding) → Fine (compile_local_definition l)
unfolding compile_local_definition
locals_fine [] = record { before = λ b e. e; keeps = λ b g e. g }
locals_fine (x ∷ l) = fine_then (binding_fine x) (locals_fine l)

-- models

property_case : (P : Book.Properties → Type 0) (t : Token) (ps : List ℕ) (b : Book.Book) → P (record { texts = ps; book = push_book_error 6 t b })
    → ((n : ℕ) → P (record { texts = ps ++ (t.value ∷ []); book = noted properties_area n b })) → P (add_property t ps b)
property_case P t ps b old new = cond_case P (has_text t.value ps) (λ h. old) (λ h. new _)

property_before : (t : Token) (ps : List ℕ) (b : Book.Book) → faults (add_property t ps b).book ≡ [] → faults b ≡ []
property_before t ps b = property_case (λ a. faults a.book ≡ [] → faults b ≡ []) t ps b (λ e. faulty 6 t b e) (λ n e. e)

property_good : (t : Token) (ps : List ℕ) (b : Book.Book) → BookGood b → faults (add_property t ps b).book ≡ [] → BookGood (add_property t ps b).book
property_good t ps b g = property_case (λ a. faults a.book ≡ [] → BookGood a.book) t ps b (λ e. faulty 6 t b e)
    (λ n e. record { parts = g.parts; pool = g.pool; names = g.names; own = g.own; index = g.index; counted = g.counted; wide = g.wide })

properties_before : (ts : List Token) (ps : List ℕ) (b : Book.Book) → faults (compile_properties ts ps b).book ≡ [] → faults b ≡ []
unfolding compile_properties
properties_before [] ps b e = e
properties_before (t ∷ ts) ps b e = property_before t ps b (properties_before ts _ _ e)

properties_good : (ts : List Token) (ps : List ℕ) (b : Book.Book) → BookGood b → faults (compile_properties ts ps b).book ≡ []
    → BookGood (compile_properties ts ps b).book
unfolding compile_properties
properties_good [] ps b g e = g
properties_good (t ∷ ts) ps b g e = properties_good ts _ _ (property_good t ps b g (properties_before ts _ _ e)) e

-- a new model
model_added : (b : Book.Book) (ps : List ℕ) (n : ℕ) → BookGood b → BookGood (add_model ps n b)
model_added b ps n g = record {
  parts = record {
    prior = p.prior;
    functions = p.functions;
    constants = p.constants;
    globals = p.globals;
    models = all_append p.models (mine & nil);
    names = p.names;
    values = p.values;
    methods = p.methods;
    publics = p.publics;
    entry = p.entry;
  };
  pool = g.pool;
  names = g.names;
  own = g.own;
  index = g.index;
  counted = g.counted;
  wide = g.wide;
}
  where
    m : Model
    m = record { properties = ps; name = n; file = b.assembly.index }

    mine : b.assembly.index < book_count b.context + 1
    mine = omega (arith, g.index)

    p : Parts (length b.context.pool.constants) b.context.pool.local_count
        (length b.context.prior.models + length (b.context.program.models ++ (m ∷ [])))
        (function_count b.context) (book_count b.context + 1) b.context
    p = parts_mono (le_refl _) (le_refl _) (omega (arith, length-append b.context.program.models (m ∷ []))) (le_refl _) (le_refl _) g.parts

record Places (d : Book.Book → Placed) : Type 0 where
  before : (b : Book.Book) → faults (d b).book ≡ [] → faults b ≡ []
  places : (b : Book.Book) → BookGood b → faults (d b).book ≡ [] → BookPlaced b (d b)

model_places : (n : Token) (ts : List Token) → Places (compile_model_definition n ts)
unfolding compile_model_definition
model_places n ts = record {
  before = λ b e. properties_before ts [] b (back b e);
  places = λ b g e.
      let b₁ = (compile_properties ts [] b).book in
      let g₁ = properties_good ts [] b g (back b e) in
      let b₂ = second b in
      let g₂ : BookGood b₂ = model_added b₁ (compile_properties ts [] b).texts n.value g₁ in
      let c = constant_of 5 (model_count b₁.context) in
      let a = constant_placed c b₂ g₂ (λ q. omega (arith, length-append b₁.context.program.models (new_model b ∷ [])), λ q. absurd (omega arith)) in
      let d = defined n.value (add_book_constant c b₂).book a.good in
      record {
        good = value_good _ _ _ d.good d.inside (rw d.constants a.inside);
        inside = inside (define_context_local n.value (add_book_constant c b₂).book) (add_book_constant c b₂) (rw d.constants a.inside);
      };
}
  where
    new_model : Book.Book → Model
    new_model b = record { properties = (compile_properties ts [] b).texts; name = n.value; file = (compile_properties ts [] b).book.assembly.index }

    inside : (d : MaybePlaced) (a : Placed) → a.place < length d.book.context.pool.constants
        → a.place < length (set_local_value d.place a.place d.book).context.pool.constants
    inside d a h = rw (value_pool d.place a.place d.book) h

    second : Book.Book → Book.Book
    second b = add_model (compile_properties ts [] b).texts n.value (compile_properties ts [] b).book

    back : (b : Book.Book) → faults (compile_model_definition n ts b).book ≡ [] → faults (compile_properties ts [] b).book ≡ []
    back b e =
        let c = constant_of 5 (model_count (compile_properties ts [] b).book.context) in
        let a = add_book_constant c (second b) in
        sym (constant_before c (second b)) ∙ define_before n.value a.book
        (sym (value_faults (define_context_local n.value a.book).place a.place (define_context_local n.value a.book).book) ∙ e)

publish_fine : {d : Book.Book → Placed} (n : ℕ) → Places d → Fine (λ b. publish n (d b))
publish_fine n D = record {
  before = D.before;
  keeps = λ b g e. let p = D.places b g e in
      record {
        parts = p.good.parts;
        pool = p.good.pool;
        names = p.good.names;
        own = all_insert _ p.inside p.good.own;
        index = p.good.index;
        counted = p.good.counted;
        wide = p.good.wide;
      };
}

place_fine : {d : Book.Book → Placed} → Places d → Fine (λ b. (d b).book)
place_fine D = record { before = D.before; keeps = λ b g e. (D.places b g e).good }

-- functions

record BookMade (b : Book.Book) (m : Made) : Type 0 where
  good : BookGood m.book
  safe : FunctionSafe (length m.book.context.pool.constants) m.book.context.pool.local_count m.state
  locals : b.context.pool.local_count ≤ m.book.context.pool.local_count

set_out : (b : Book.Book) → BookGood b → Ready (working b)
set_out b g = record { pool = g.pool; names = g.names; marks = g.parts.globals }

plain_all : {M F : ℕ} {cs : List Constant} → All (λ (c : Constant). c.kind < 5) cs → All (Named M F) cs
plain_all ps = all_map (λ c h. (λ e. absurd (omega arith), λ e. absurd (omega arith))) ps

base_made : (f : FunctionDefinition) (b : Book.Book) → BookGood b → faults (compile_base f b).book ≡ [] → BookMade b (compile_base f b)
unfolding compile_base
base_made f b g e = record {
  good = record {
    parts = record {
      prior = p.prior;
      functions = p.functions;
      constants = rw m.pool (all_append p.constants (plain_all m.plain));
      globals = h.marks;
      models = p.models;
      names = p.names;
      values = p.values;
      methods = p.methods;
      publics = p.publics;
      entry = p.entry;
    };
    pool = h.pool;
    names = h.names;
    own = all_map (λ x q. le_trans q more) g.own;
    index = g.index;
    counted = g.counted ∙ sym m.context;
    wide = g.wide;
  };
  safe = function_safe f.parameters f.body (working b) (set_out b g) e;
  locals = omega (arith, m.context);
}
  where
    w : Work
    w = compile_function_definition_base f.parameters f.body (working b)

    m : Moves (Compiler.with_function new_function_state (working b)) w
    m = function_moves f.parameters f.body (working b)

    h : Good w
    h = function_good f.parameters f.body (working b) (set_out b g) e

    more : length b.context.pool.constants ≤ length w.context.constants
    more = omega (arith, length-append b.context.pool.constants m.added, ap length m.pool)

    p : Parts (length w.context.constants) w.context.local_count (model_count b.context) (function_count b.context)
        (book_count b.context + 1) b.context
    p = parts_mono more (omega (arith, m.context)) (le_refl _) (le_refl _) (le_refl _) g.parts

base_before : (f : FunctionDefinition) (b : Book.Book) → faults (compile_base f b).book ≡ [] → faults b ≡ []
unfolding compile_base
base_before f b e = (function_moves f.parameters f.body (working b)).errors e

-- a function at the end
function_added : (s : FunctionState) (n : ℕ) (b : Book.Book) → BookGood b
    → FunctionSafe (length b.context.pool.constants) b.context.pool.local_count s → BookGood (add_function s n b)
function_added s n b g h = record {
  parts = record {
    prior = p.prior;
    functions = all_append p.functions ((h, mine) & nil);
    constants = p.constants;
    globals = p.globals;
    models = p.models;
    names = p.names;
    values = p.values;
    methods = p.methods;
    publics = p.publics;
    entry = p.entry;
  };
  pool = g.pool;
  names = g.names;
  own = g.own;
  index = g.index;
  counted = g.counted;
  wide = g.wide;
}
  where
    mine : b.assembly.index < book_count b.context + 1
    mine = omega (arith, g.index)

    p : Parts (length b.context.pool.constants) b.context.pool.local_count (model_count b.context)
        (function_count (add_function s n b).context) (book_count b.context + 1) b.context
    p = parts_mono (le_refl _) (le_refl _) (le_refl _) (omega
        (arith, length-append b.context.program.functions (record { state = s; name = n; file = b.assembly.index } ∷ []))) (le_refl _) g.parts

value_functions : (o : Option ℕ) (c : ℕ) (b : Book.Book) → function_count (set_local_value o c b).context ≡ function_count b.context
value_functions none c b = refl
value_functions (some i) c b = refl

constant_functions : (c : Constant) (b : Book.Book) → function_count (add_book_constant c b).book.context ≡ function_count b.context
constant_functions c b = added_case (λ (a : Added). function_count (resumed a.work b).context ≡ function_count b.context) c (working b) refl (λ i h. refl)

entry_good : (n : ℕ) (b : Book.Book) → BookGood b → n < function_count b.context → BookGood (Book.with_context (Book.with_entry_point n b.context) b)
entry_good n b g h = record {
  parts = record {
    prior = g.parts.prior;
    functions = g.parts.functions;
    constants = g.parts.constants;
    globals = g.parts.globals;
    models = g.parts.models;
    names = g.parts.names;
    values = g.parts.values;
    methods = g.parts.methods;
    publics = g.parts.publics;
    entry = inl h;
  };
  pool = g.pool;
  names = g.names;
  own = g.own;
  index = g.index;
  counted = g.counted;
  wide = g.wide;
}

plain_placed : (o : Option ℕ) (s : FunctionState) (n : ℕ) (b : Book.Book) → BookGood b
    → FunctionSafe (length b.context.pool.constants) b.context.pool.local_count s → ((i : ℕ) → o ≡ some i → i < b.context.pool.local_count)
    → BookPlaced b (add_plain_function o s n b)
unfolding add_plain_function
plain_placed o s n b g h local = cond_case (λ x. BookPlaced b (record { place = a.place; book = x })) (eqb n 1)
    (λ t. record {
      good = entry_good (function_count b.context) b₁ g₁
          (omega (arith, value_functions o a.place a.book, constant_functions c b₀, length-append b.context.program.functions (f ∷ [])));
      inside = in₁;
    })
    (λ t. record { good = g₁; inside = in₁ })
  where
    f : Function
    f = record { state = s; name = n; file = b.assembly.index }

    b₀ : Book.Book
    b₀ = add_function s n b

    c : Constant
    c = constant_of 6 (function_count b.context)

    a : Placed
    a = add_book_constant c b₀

    p : BookPlaced b₀ a
    p = constant_placed c b₀ (function_added s n b g h) (λ q. absurd (omega arith), λ q. omega (arith, length-append b.context.program.functions (f ∷ [])))

    b₁ : Book.Book
    b₁ = set_local_value o a.place a.book

    g₁ : BookGood b₁
    g₁ = value_good o _ _ p.good (λ i q. rw (constant_locals c b₀) (local i q)) p.inside

    in₁ : a.place < length b₁.context.pool.constants
    in₁ = rw (value_pool o a.place a.book) p.inside

plain_before : (o : Option ℕ) (s : FunctionState) (n : ℕ) (b : Book.Book) → faults (add_plain_function o s n b).book ≡ faults b
unfolding add_plain_function
plain_before o s n b = cond_case (λ x. faults x ≡ faults b) (eqb n 1) (λ t. same) (λ t. same)
  where
    c : Constant
    c = constant_of 6 (function_count b.context)

    same : faults (set_local_value o (add_book_constant c (add_function s n b)).place (add_book_constant c (add_function s n b)).book) ≡ faults b
    same = value_faults o _ _ ∙ constant_before c (add_function s n b)

function_places : (f : FunctionDefinition) → Places (compile_function_definition f)
unfolding compile_function_definition
function_places f = record {
  before = λ b e. define_before f.name.value b (base_before f (d b).book (back b (made b).state.header.is_instance e));
  places = λ b g e. go b (made b).state.header.is_instance g e;
}
  where
    d : Book.Book → MaybePlaced
    d b = define_context_local f.name.value b

    made : Book.Book → Made
    made b = compile_base f (d b).book

    either : Book.Book → Bool → Placed
    either b h = cond h (record { place = 0; book = push_book_error 8 f.name (made b).book })
        (add_plain_function (d b).place (made b).state f.name.value (made b).book)

    back : (b : Book.Book) (h : Bool) → faults (either b h).book ≡ [] → faults (made b).book ≡ []
    back b true e = faulty 8 f.name (made b).book e
    back b false e = sym (plain_before (d b).place (made b).state f.name.value (made b).book) ∙ e

    go : (b : Book.Book) (h : Bool) → BookGood b → faults (either b h).book ≡ [] → BookPlaced b (either b h)
    go b true g e = faulty 8 f.name (made b).book e
    go b false g e =
        let x = defined f.name.value b g in
        let m = base_made f (d b).book x.good (back b false e) in
        let p = plain_placed (d b).place (made b).state f.name.value (made b).book m.good m.safe (λ i q. le_trans (x.inside i q) m.locals) in
        record { good = p.good; inside = p.inside }

-- implement and apply

constant_at_lem : {P : Constant → Type 0} (l : List Constant) (n : ℕ) (c : Constant) → All P l → constant_at l n ≡ some c → P c
constant_at_lem [] n c nil e = absurd (let z : ◌≡◌ {A = ℕ} 0 1 = cc in omega arith)
constant_at_lem {P} (x ∷ l) zero c (p & ps) e = let z : x ≡ c = cc in subst P z p
constant_at_lem (x ∷ l) (suc n) c (p & ps) e = constant_at_lem l n c ps e

model_below : (o : Option Constant) (M F m : ℕ) → ((c : Constant) → o ≡ some c → Named M F c) → model_of o ≡ some m → m < M
model_below none M F m h e = absurd (let z : ◌≡◌ {A = ℕ} 0 1 = cc in omega arith)
model_below (some c) M F m h e = go (eqb c.kind 5) (λ t. eqb→eq _ _ t) e
  where
    go : (b : Bool) → (T b → c.kind ≡ 5) → cond b (some c.value) none ≡ some m → m < M
    go true k q = let z : c.value ≡ m = cc in omega (arith, (h c refl).0 (k tt))
    go false k q = absurd (let z : ◌≡◌ {A = ℕ} 0 1 = cc in omega arith)

model_case : (P : MaybePlaced → Type 0) (t : Token) (b : Book.Book) → BookGood b
    → ((m : ℕ) → m < model_count b.context → P (record { place = some m; book = b }))
    → ((n : ℕ) → P (record { place = none; book = push_book_error n t b })) → P (find_model_index_by_local_name t b)
unfolding find_model_index_by_local_name
model_case P t b g yes' no' = outer (find_name t.value b.compiler.locals)
  where
    named : (local : ℕ) (c : Constant) → get_local_value local b.context ≡ some c → Named (model_count b.context) (function_count b.context) c
    named local c e = go (find_name local b.context.locals.values) e
      where
        go : (o : Option ℕ) → value_at o b.context.pool.constants ≡ some c → Named (model_count b.context) (function_count b.context) c
        go none q = absurd (let z : ◌≡◌ {A = ℕ} 0 1 = cc in omega arith)
        go (some i) q = constant_at_lem _ i c g.parts.constants q

    inner : (local : ℕ) (o : Option ℕ) → model_of (get_local_value local b.context) ≡ o → P (find_model_by o t b)
    inner local none e = no' 9
    inner local (some m) e = yes' m (model_below _ _ (function_count b.context) m (named local) e)

    outer : (o : Option ℕ) → P (find_model_in o t b)
    outer none = no' 10
    outer (some local) = inner local (model_of (get_local_value local b.context)) refl

find_before : (t : Token) (b : Book.Book) → faults (find_model_index_by_local_name t b).book ≡ [] → faults b ≡ []
unfolding find_model_index_by_local_name
find_before t b e = outer (find_name t.value b.compiler.locals) e
  where
    inner : (o : Option ℕ) → faults (find_model_by o t b).book ≡ [] → faults b ≡ []
    inner none q = faulty 9 t b q
    inner (some m) q = q

    outer : (o : Option ℕ) → faults (find_model_in o t b).book ≡ [] → faults b ≡ []
    outer none q = faulty 10 t b q
    outer (some local) q = inner (model_of (get_local_value local b.context)) q

all_method : {P : Method → Type 0} {l : List Method} (e : Method) → P e → All P l → All P (insert_method e l)
all_method e p nil = p & nil
all_method {P} {l} e p (◌&◌ {x = x} {xs = xs} q qs) = cond_case (All P) (same_method x e) (λ t. p & qs) (λ t. q & all_method e p qs)

all_methods : {M F : ℕ} {l : List Method} (m : ℕ) (es : List Entry) → m < M → All (λ (e : Entry). e.index < F) es
    → All (λ (x : Method). (x.model < M) × (x.function < F)) l → All (λ (x : Method). (x.model < M) × (x.function < F)) (insert_methods m es l)
all_methods m [] k nil qs = qs
all_methods {l = l} m (e ∷ es) k (p & ps) qs = all_methods {l = insert_method (record { model = m; name = e.name; function = e.index }) l} m es k ps
    (all_method _ (k, p) qs)

own_methods : {M F : ℕ} (m : ℕ) (l : List Method) → All (λ (x : Method). (x.model < M) × (x.function < F)) l
    → All (λ (e : Entry). e.index < F) (methods_in m l)
own_methods m [] nil = nil
own_methods {M} {F} m (x ∷ l) (p & ps) = cond_case (All (λ (e : Entry). e.index < F)) (eqb x.model m) (λ t. p.1 & own_methods m l ps)
    (λ t. own_methods m l ps)

methods_added : (m : ℕ) (es : List Entry) (b : Book.Book) → BookGood b → m < model_count b.context
    → All (λ (e : Entry). e.index < function_count b.context) es → BookGood (add_methods (some m) es b)
methods_added m es b g k h = record {
  parts = record {
    prior = g.parts.prior;
    functions = g.parts.functions;
    constants = g.parts.constants;
    globals = g.parts.globals;
    models = g.parts.models;
    names = g.parts.names;
    values = g.parts.values;
    methods = all_methods m es k h g.parts.methods;
    publics = g.parts.publics;
    entry = g.parts.entry;
  };
  pool = g.pool;
  names = g.names;
  own = g.own;
  index = g.index;
  counted = g.counted;
  wide = g.wide;
}

add_before : (o : Option ℕ) (es : List Entry) (b : Book.Book) → faults (add_methods o es b) ≡ faults b
add_before none es b = refl
add_before (some m) es b = refl

record BookMethods (m : Methods) : Type 0 where
  good : BookGood m.book
  entries : All (λ (e : Entry). e.index < function_count m.book.context) m.entries

methods_before : (fs : List FunctionDefinition) (es : List Entry) (b : Book.Book) → faults (compile_methods fs es b).book ≡ [] → faults b ≡ []
unfolding compile_methods
methods_before [] es b e = e
methods_before (f ∷ fs) es b e = base_before f b (methods_before fs _ _ e)

methods_good : (fs : List FunctionDefinition) (es : List Entry) (b : Book.Book) → BookGood b
    → All (λ (e : Entry). e.index < function_count b.context) es → faults (compile_methods fs es b).book ≡ [] → BookMethods (compile_methods fs es b)
unfolding compile_methods compile_base
methods_good [] es b g h e = record { good = g; entries = h }
methods_good (f ∷ fs) es b g h e =
    let m = base_made f b g (methods_before fs _ _ e) in
    let n : length (add_function (compile_base f b).state f.name.value (compile_base f b).book).context.program.functions ≡ length
    b.context.program.functions + 1 = length-append b.context.program.functions _ in
    let here : function_count b.context < function_count (add_function (compile_base f b).state f.name.value (compile_base f b).book).context =
    omega (arith, n) in
    methods_good fs _ _ (function_added _ _ _ m.good m.safe) (all_insert _ here (all_map (λ x q. omega (arith, n)) h)) e

-- to a model found by its name
abbrev to_model : Token → List Entry → BookStep
to_model t es b = add_methods (find_model_index_by_local_name t b).place es (find_model_index_by_local_name t b).book

to_model_before : (t : Token) (es : List Entry) (b : Book.Book) → faults (to_model t es b) ≡ [] → faults b ≡ []
to_model_before t es b e = find_before t b (sym (add_before (find_model_index_by_local_name t b).place es (find_model_index_by_local_name t b).book) ∙ e)

to_model_good : (t : Token) (es : List Entry) (b : Book.Book) → BookGood b → All (λ (e : Entry). e.index < function_count b.context) es
    → faults (to_model t es b) ≡ [] → BookGood (to_model t es b)
to_model_good t es b g h = model_case (λ (d : MaybePlaced). faults (add_methods d.place es d.book) ≡ []
    → BookGood (add_methods d.place es d.book)) t b g (λ m k q. methods_added m es b g k h) (λ n q. faulty n t b q)

implement_fine : (t : Token) (fs : List FunctionDefinition) → Fine (compile_implement_definition t fs)
unfolding compile_implement_definition
implement_fine t fs = record {
  before = λ b e. methods_before fs [] b (to_model_before t (compile_methods fs [] b).entries (compile_methods fs [] b).book e);
  keeps = λ b g e.
      let c = methods_good fs [] b g nil (to_model_before t (compile_methods fs [] b).entries (compile_methods fs [] b).book e) in
      to_model_good t (compile_methods fs [] b).entries (compile_methods fs [] b).book c.good c.entries e;
}

apply_fine : (s t : Token) → Fine (compile_apply_definition s t)
unfolding compile_apply_definition
apply_fine s t = record {
  before = λ b e. find_before s b (to_model_before t (methods_of (find_model_index_by_local_name s b).place (find_model_index_by_local_name s b).book.context)
      (find_model_index_by_local_name s b).book e);
  keeps = λ b g. model_case (λ (d : MaybePlaced). faults (to_model t (methods_of d.place d.book.context) d.book) ≡ []
      → BookGood (to_model t (methods_of d.place d.book.context) d.book)) s b g
      (λ m h e. to_model_good t (methods_of (some m) b.context) b g (own_methods m b.context.program.methods g.parts.methods) e)
      (λ n e. faulty n s b (to_model_before t [] (push_book_error n s b) e));
}

-- documents

definition_fine : (d : Definition) → Fine (compile_definition d)
unfolding compile_definition
definition_fine (LocalDefinition bs) = locals_fine bs
definition_fine (IncludeDefinition index file l) = include_or_row_11 index file.value l
definition_fine (ModelDefinition n ps) = place_fine (model_places n ps)
definition_fine (PublicModelDefinition n ps) = publish_fine n.value (model_places n ps)
definition_fine (PlainFunction f) = place_fine (function_places f)
definition_fine (PublicFunction f) = publish_fine f.name.value (function_places f)
definition_fine (ImplementDefinition m fs) = implement_fine m fs
definition_fine (ApplyDefinition s t) = apply_fine s t

definitions_fine : (ds : List Definition) → Fine (compile_definitions ds)
unfolding compile_definitions
definitions_fine [] = record { before = λ b e. e; keeps = λ b g e. g }
definitions_fine (d ∷ ds) = fine_then (definition_fine d) (definitions_fine ds)

-- a document: its own book's index is the next
document_good : (d : Document) (c : Context) (us : List Use) → ProgramSafe c → faults (compile_document d c us) ≡ []
    → ProgramSafe (compile_document d c us).context
unfolding compile_document
document_good d c us s e = record {
  parts = record {
    prior = p.prior;
    functions = p.functions;
    constants = p.constants;
    globals = p.globals;
    models = p.models;
    values = p.values;
    names = p.names;
    methods = p.methods;
    publics = all_append p.publics ((mine, g.own) & nil);
    entry = p.entry;
  };
  pool = g.pool;
  counted = g.counted;
  wide = g.wide;
}
  where
    b : Book.Book
    b = compile_definitions d.definitions (opened d c us)

    start : BookGood (opened d c us)
    start = record {
      parts = parts_mono (le_refl _) (le_refl _) (le_refl _) (le_refl _) (omega arith) s.parts;
      index = refl;
      counted = s.counted;
      wide = s.wide;
      pool = s.pool;
      names = nil;
      own = nil;
    }

    g : BookGood b
    g = (definitions_fine d.definitions).keeps (opened d c us) start e

    -- the books with this one
    A : ℕ
    A = length b.context.prior.books + length (b.context.assemblies ++ (b.assembly ∷ []))

    one_more : A ≡ book_count b.context + 1
    one_more = omega (arith, length-append b.context.assemblies (b.assembly ∷ []))

    p : PartsOf A b.context
    p = parts_mono (le_refl _) (le_refl _) (le_refl _) (le_refl _) (omega (arith, one_more)) g.parts

    mine : b.assembly.index < A
    mine = omega (arith, one_more, g.index)

-- in the order of a bundle

drive_good : (k : ℕ) (ds : List Document) (done left : List ℕ) (c r : Context) (us : List Use) → ProgramSafe c
    → (drive k ds done left c us).ending ≡ Delivered r → ProgramSafe r
unfolding drive
drive_good zero ds done left c r us s e = let z : c ≡ r = cc in subst ProgramSafe z s
drive_good (suc k) ds done left c r us s e = go (ready ds done left) (λ d c' us' t q. drive_good k ds _ _ c' r us' t q) e
  where
    next : Document → Context → List Use → Worked
    next d c' us' = drive k ds (d.filename ∷ done) (without d.filename left) c' us'

    after : (d : Document) (es : List Error) → (compile_document d c us).compiler.errors ≡ es
        → ((c' : Context) (us' : List Use) → ProgramSafe c' → (next d c' us').ending ≡ Delivered r → ProgramSafe r)
        → (after_book es d.filename (compile_document d c us).context (compile_document d c us).uses (next d)).ending ≡ Delivered r → ProgramSafe r
    after d [] q rest h = rest _ _ (document_good d c us s q) h
    after d (x ∷ es) q rest h = absurd (let z : ◌≡◌ {A = ℕ} 0 1 = cc in omega arith)

    go : (o : Option Document) → ((d : Document) (c' : Context) (us' : List Use) → ProgramSafe c' → (next d c' us').ending ≡ Delivered r → ProgramSafe r)
        → (drive_by o left c us next).ending ≡ Delivered r → ProgramSafe r
    go none rest h = absurd (let z : ◌≡◌ {A = ℕ} 0 1 = cc in omega arith)
    go (some d) rest h = after d (compile_document d c us).compiler.errors refl (rest d) h

-- what is delivered onto a context that keeps within itself keeps within itself
pub worked_safe : (numbers : List ℕ) (ds : List Document) (c r : Context) → ProgramSafe c → (compile_needed numbers ds c).ending ≡ Delivered r → ProgramSafe r
unfolding compile_needed
worked_safe numbers ds c r s e = drive_good (length numbers) ds _ numbers c r _ s e

pub fresh_safe : (strict : Bool) → ProgramSafe (new_context strict)
fresh_safe strict = record {
  parts = record {
    prior = record { code = nil; functions = nil; models = nil; properties = nil; locals = nil; publics = nil };
    functions = nil;
    constants = plain_named 0 0 (omega arith) & plain_named 1 1 (omega arith) & plain_named 1 0 (omega arith) & nil;
    globals = nil;
    models = nil;
    values = nil;
    names = nil;
    methods = nil;
    publics = nil;
    entry = inr (refl, refl);
  };
  pool = omega arith;
  counted = refl;
  wide = record { code = nil; functions = nil; models = nil; properties = nil; locals = nil; publics = nil; books = nil };
}
