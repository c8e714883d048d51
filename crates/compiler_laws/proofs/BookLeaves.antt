-- One lemma for each way through a routine of the document level that compiles no part: what its calls ensure is the definition's step. By the laws of
-- the routines it calls. Assumes nothing.
use Prim.Native.Nat.{ℕ, ◌+◌, ◌*◌}
use native.Mathlib.Omega.{arith}
use mathlib.Core.Path.{◌≡◌, refl, sym, ap, ◌∙◌, subst}
use mathlib.Core.Bool.{Bool, true, false, cond}
use mathlib.Core.Option.{Option, none, some}
use mathlib.Core.List.{List, [], ◌∷◌, ◌++◌, append_assoc}
use lib.ListN.{length, length-append, length-set}
use lib.Dec.{eqb, ltb}
use Rattle.words.specs.Ast.{Token}
use Rattle.words.specs.Areas.{entries_in, word_fits, write_word, context_locals_area}
use Rattle.words.specs.Object.{Constant, constant_of}
use Rattle.definition.specs.FunctionState.{Entry, new_function_state, find_name}
use Rattle.definition.specs.Uses.{Limits}
use Rattle.definition.specs.Compiler.{Added, push_error, add_constant}
use Rattle.definition.specs.Book.{Book, working, push_book_error, add_book_constant, define_context_local_by, define_context_local, set_local_value}
use Rattle.definition.specs.Program.{Entries, local_words, local_entry, entries_from, local_table}
use Rattle.definition_laws.proofs.Lists.{cond_case}
use Rattle.definition_laws.proofs.Cells.{single_length}
use Rattle.definition_laws.proofs.Program.{added_case}
use Rattle.definition_laws.proofs.StepPreserves.{same, more, preserves_constant}
use Rattle.building.specs.declared.function_state.FunctionState.{FunctionState}
use Rattle.std.specs.Prelude.{Some, None}
use Rattle.building.specs.declared.taking.Taken.{Taken}
use Rattle.building.specs.State.{begun}
use Rattle.building.specs.Taking.{taken}
use Rattle.building.specs.Found.{Found, found_of}
use Rattle.building.specs.Pool.{pooling, add_constant_c}
use Rattle.building.specs.Context.{localing, define_context_c, set_value_c}
use Rattle.building.specs.RepresentsMachine.{Filled, LocalsHeld, machine, RepresentsMachine}
use Rattle.building.proofs.Filling.{over_fits, over_here}
use Rattle.building.proofs.PoolLaws.{add_constant_law, add_constant_index}
use Rattle.building.proofs.ContextLaws.{Grown, grown, over, Defines, there, new, with_local, define_context_law, set_value_law, set_value_locals}
use Rattle.compiler_laws.specs.declared.book.Book as struct
use Rattle.compiler_laws.specs.InsideFunction.{OnErrors}
use Rattle.compiler_laws.specs.BookAreas.{BookAreas, book_areas, BookContents, Fitted, RepresentsAreas}
use Rattle.compiler_laws.specs.BookSteps.{resumed_book, ErrorsDo, ConstantsPlace, LocalsSeek, AddedLocal, LocalsValue}
use Rattle.compiler_laws.proofs.BookCounts.{with_locals}
use Rattle.compiler_laws.proofs.UnchangedByBooks.{unchanged_local, unchanged_value}
use Rattle.compiler_laws.proofs.BookStepsInOrder.{keeping_longer}
use Rattle.compiler_laws.proofs.FunctionStates.{code_so_far, held_working, keeping_held}
use Rattle.compiler_laws.proofs.LocalEntries.{locals_entries, valued_longer, insert_all, table_set}

-- `fault`
module _ {s s' : struct.Book} {before r : FunctionState} {e e' : List ℕ} (number : ℕ) (token : Token)
    (worked : before ≡ begun s.full s.code s.constants s.errors) (acts : OnErrors before e r e' (push_error number token))
    (back : s' ≡ resumed_book s r) where
  pub fault_simulates : ErrorsDo s e s' e' (push_book_error number token)
  fault_simulates = record {
    simulates = λ c k f m p t l u n b. record {
      meets = λ κ ps x H.
          rw back (keeping_held H {w = push_error number token (working x)} (more same) refl refl refl
          ((acts.acts c k n b).meets κ (code_so_far x) (working x) (rw worked (held_working H))));
    };
  }

-- `add_constant`
module _ {s s' : struct.Book} {before r : FunctionState} {k k' : List ℕ} {i : ℕ} (kind value : ℕ)
    (worked : before ≡ begun s.full s.code s.constants s.errors) (added : pooling i r k' ≡ add_constant_c kind value before k)
    (back : s' ≡ resumed_book s r) where
  pub constant_places : ConstantsPlace s k s' k' i (add_book_constant (constant_of kind value))
  constant_places = record {
    places = λ c f m p t l u n b e. record {
      meets = λ κ ps x H.
          let a = add_constant (constant_of kind value) (working x) in
          rw back (keeping_held H {w = a.work} (preserves_constant (constant_of kind value) (working x)).uses (new_function (constant_of kind value) x)
          (preserves_constant (constant_of kind value) (working x)).locals (same_count (constant_of kind value) x)
          (add_constant_law kind value added (rw worked (held_working H))));
      placed = λ κ ps x H z.
          let A : RepresentsMachine κ (code_so_far x) (machine before c k n b e) (working x) = rw worked (held_working H) in
          add_constant_index kind value added A (rw back at z);
    };
  }
    where
      new_function : (c : Constant) (x : Book) → (add_constant c (working x)).work.function ≡ new_function_state
      new_function c x = added_case (λ (a : Added). a.work.function ≡ new_function_state) c (working x) refl (λ j h. refl)

      same_count : (c : Constant) (x : Book) → (add_constant c (working x)).work.context.local_count ≡ x.context.pool.local_count
      same_count c x = added_case (λ (a : Added). a.work.context.local_count ≡ x.context.pool.local_count) c (working x) refl (λ j h. refl)

-- `define_local`

pub names_count : {ps : List ℕ} {m : BookAreas} {x : Book} → BookContents ps m x → m.book.locals ≡ length x.context.prior.locals + length
    x.context.locals.names
names_count {x = x} S =
    let stood = x.context.prior.locals in
    S.locals.count ∙ length-append stood _ ∙ ap (λ (n : ℕ). length stood + n)
    (single_length (λ i e. local_words (find_name i x.context.locals.values) e.index e.name) (length stood) x.context.locals.names)

module _ {s : struct.Book} {c k f m p t l u n b e : List ℕ} {x : Book} where
  -- area 7 anew leaves all else
  contents_locals : {ps : List ℕ} (name : ℕ) {l' : List ℕ} → BookContents ps (book_areas s c k f m p t l u n b e) x
      → Filled 4 l' (local_table x.context ++ ((s.file ∷ name ∷ 0 ∷ 0 ∷ []) ∷ [])) (s.locals + 1)
      → LocalsHeld s.first_local (s.locals + 1) l' (with_local name s.locals x.compiler)
      → BookContents ps (book_areas (with_locals (taken 0 (s.locals + 1)) s) c k f m p t l' u n b e) (define_context_local_by none name x).book
  contents_locals name S filled held =
      let many : s.locals ≡ x.context.pool.local_count = names_count S ∙ sym S.counted in
      let entry : Entry = record { name = name; index = x.assembly.index } in
      let stood = x.context.prior.locals in
      record {
        code = S.code;
        sized = S.sized;
        constants = S.constants;
        marks = S.marks;
        functions = S.functions;
        models = S.models;
        properties = S.properties;
        methods = S.methods;
        locals = rw (
          locals_entries (length stood) x.context.locals.values x.context.locals.names entry S.valued,
          ← append_assoc stood (entries_from (local_entry x.context.locals.values) (length stood) x.context.locals.names)
              ((x.assembly.index ∷ name ∷ 0 ∷ 0 ∷ []) ∷ []),
          ← S.file,
        ) filled;
        counted = rw (length-append x.context.locals.names (entry ∷ [])) (omega (arith, S.counted));
        valued = valued_longer (length stood) x.context.locals.names entry S.valued;
        first_local = S.first_local;
        named = rw (← many) held;
        publics = S.publics;
        first_public = S.first_public;
        prior = S.prior;
        file = S.file;
        last_index = S.last_index;
        mode = S.mode;
        indexed = S.indexed;
        entry = S.entry;
        names = S.names;
        breaks = S.breaks;
        errors = S.errors;
      }

pub fitted_locals : {κ : Limits} {s s' : struct.Book} {c k f m p t l l' u n b e : List ℕ} → length l' ≡ length l → Fitted κ (book_areas s c k f m p t l u n b e)
    → Fitted κ (book_areas s' c k f m p t l' u n b e)
fitted_locals long F = record {
  code = F.code;
  constants = F.constants;
  functions = F.functions;
  models = F.models;
  properties = F.properties;
  methods = F.methods;
  locals = ap (λ (w : ℕ). entries_in 4 w) long ∙ F.locals;
  publics = F.publics;
  names = F.names;
  breaks = F.breaks;
  errors = F.errors;
  others = F.others;
}

module _ {κ : Limits} {ps : List ℕ} {s : struct.Book} {c k f m p t l u n b e : List ℕ} {x : Book} (z : s.full ≡ 0)
    (H : RepresentsAreas κ ps (book_areas s c k f m p t l u n b e) x) where
  abbrev local_entries : Entries
  local_entries = local_table x.context

  locals_many : s.locals ≡ x.context.pool.local_count
  locals_many = let S = H.rest z in names_count S ∙ sym S.counted

  define_new : (name : ℕ) {T : Taken} {l' : List ℕ} → Grown context_locals_area s.locals (s.file ∷ name ∷ 0 ∷ 0 ∷ []) l local_entries T l'
      → (T.full ≡ 0 → LocalsHeld s.first_local (s.locals + 1) l' (with_local name s.locals x.compiler))
      → RepresentsAreas κ ps (book_areas (with_locals T s) c k f m p t l' u n b e) (define_context_local_by none name x).book
  define_new name (grown room filled long) held = record {
    fitted = fitted_locals long H.fitted;
    full = over_fits κ _ _ (rw z at H.full) refl (omega (arith, room, H.fitted.locals, locals_many));
    rest = λ _. contents_locals name (H.rest z) filled (held refl);
  }
  define_new name (over none_left) held = record {
    fitted = fitted_locals refl H.fitted;
    full = over_here κ _ _ H.full z (omega (arith, none_left, H.fitted.locals, locals_many)) (omega arith);
    rest = λ y. absurd (omega (arith, y));
  }

  define_now : (name : ℕ) {g : Found} {T : Taken} {l' : List ℕ}
      → Defines s.first_local s.locals s.file name l local_entries x.compiler g T l'
      → RepresentsAreas κ ps (book_areas (with_locals T s) c k f m p t l' u n b e) (define_context_local name x).book
  unfolding define_context_local
  define_now name (there e₁) = rw e₁ (subst (λ (v : ℕ). RepresentsAreas κ ps (book_areas (with_locals (taken v s.locals) s) c k f m p t l u n b e) x) z H)
  define_now name (new e₁ G held) = rw e₁ (define_new name G held)

  define_found : (name : ℕ) {g : Found} {T : Taken} {l' : List ℕ}
      → Defines s.first_local s.locals s.file name l local_entries x.compiler g T l' → g ≡ found_of (define_context_local name x).place
  unfolding define_context_local
  define_found name (there e₁) = rw e₁ refl
  define_found name (new e₁ G held) = rw e₁ (ap Some locals_many)

module _ {s : struct.Book} {l : List ℕ} (name : ℕ) where
  pub define_full : (s.full ≡ 0 → ⊥) → {g : Found} → LocalsSeek s l s l g (define_context_local name)
  define_full ne = record {
    seeks = λ c k f m p t u n b e. record {
      meets = λ κ ps x H. keeping_longer (unchanged_local name x).uses ne H;
      sought = λ κ ps x H z. absurd (ne z);
    };
  }

  pub define_seeks : s.full ≡ 0 → {g : Found} {T : Taken} {l' : List ℕ}
      → localing g T l' ≡ define_context_c s.full s.first_local s.locals s.file name l
      → LocalsSeek s l (with_locals T s) l' g (define_context_local name)
  define_seeks z {g} {T} {l'} d = record {
    seeks = λ c k f m p t u n b e. record {
      meets = λ κ ps x H. define_now z H name (defines κ ps c k f m p t u n b e x H);
      sought = λ κ ps x H y. define_found z H name (defines κ ps c k f m p t u n b e x H);
    };
  }
    where
      defines : (κ : Limits) (ps c k f m p t u n b e : List ℕ) (x : Book) (H : RepresentsAreas κ ps (book_areas s c k f m p t l u n b e) x)
          → Defines s.first_local s.locals s.file name l (local_table x.context) x.compiler g T l'
      defines κ ps c k f m p t u n b e x H = define_context_law s.file name d z (H.rest z).locals (H.rest z).named

-- the local that is new is one of the book's context
pub defined_added : (name : ℕ) (x : Book) → x.context.pool.local_count ≡ length x.context.prior.locals + length x.context.locals.names
    → AddedLocal (define_context_local name x).place (define_context_local name x).book.context
unfolding define_context_local
defined_added name x many = go (find_name name x.compiler.locals)
  where
    go : (o : Option ℕ) → AddedLocal (define_context_local_by o name x).place (define_context_local_by o name x).book.context
    go (some i) = tt
    go none =
        let longer = length-append x.context.locals.names (record { name = name; index = x.assembly.index } ∷ []) in
        (omega arith, omega (arith, longer))

value_length : (full count i constant : ℕ) (l : List ℕ) → length (set_value_c full count i constant l) ≡ length l
unfolding set_value_c
value_length full count i constant l = go (eqb full 0) (ltb i count)
  where
    word : (k v : ℕ) (w : List ℕ) → length (write_word 4 i k v w) ≡ length w
    word k v w = cond_case (λ (r : List ℕ). length r ≡ length w) (word_fits 4 i k (length w)) (λ y. length-set w (i * 4 + k) v) (λ y. refl)

    go : (a b : Bool) → length (cond a (cond b (write_word 4 i 3 constant (write_word 4 i 2 1 l)) l) l) ≡ length l
    go false b = refl
    go true false = refl
    go true true = word 3 constant (write_word 4 i 2 1 l) ∙ word 2 1 l

value_keeping : {κ : Limits} {ps : List ℕ} {s : struct.Book} {c k f m p t l u n b e : List ℕ} {x : Book} → s.full ≡ 0 → (i constant : ℕ) {l' : List ℕ}
    → l' ≡ set_value_c s.full s.locals i constant l → AddedLocal (some i) x.context → RepresentsAreas κ ps (book_areas s c k f m p t l u n b e) x
    → RepresentsAreas κ ps (book_areas s c k f m p t l' u n b e) (set_local_value (some i) constant x)
value_keeping {s = s} {l = l} {x = x} z i constant {l'} d h H =
    let S = H.rest z in
    let filled = set_value_law i constant d z (omega (arith, names_count S, h.1)) S.locals in
    record {
      fitted = fitted_locals long H.fitted;
      full = H.full;
      rest = λ _. record {
        code = S.code;
        sized = S.sized;
        constants = S.constants;
        marks = S.marks;
        functions = S.functions;
        models = S.models;
        properties = S.properties;
        methods = S.methods;
        locals = rw (table_set x.context.prior.locals x.context.locals.values x.context.locals.names constant i h.0 h.1) at filled;
        counted = S.counted;
        valued = insert_all (record { name = i; index = constant }) h.1 S.valued;
        first_local = S.first_local;
        named = set_value_locals s.full i constant d S.named;
        publics = S.publics;
        first_public = S.first_public;
        prior = S.prior;
        file = S.file;
        last_index = S.last_index;
        mode = S.mode;
        indexed = S.indexed;
        entry = S.entry;
        names = S.names;
        breaks = S.breaks;
        errors = S.errors;
      };
    }
  where
    long : length l' ≡ length l
    long = rw d (value_length s.full s.locals i constant l)

-- `set_value`
module _ {s : struct.Book} {l : List ℕ} {found : Found} {constant : ℕ} where
  pub value_full : (s.full ≡ 0 → ⊥) → LocalsValue s l l found constant
  value_full ne = record { values = λ c k f m p t u n b e κ ps x o v A H. keeping_longer (unchanged_value o v x).uses ne H }

  pub value_nothing : s.full ≡ 0 → found ≡ None → LocalsValue s l l found constant
  value_nothing z lost = record {
    values = λ c k f m p t u n b e κ ps x o v A H. go c k f m p t u n b e κ ps x o v H (sym lost ∙ (A.agrees z).0);
  }
    where
      go : (c k f m p t u n b e : List ℕ) (κ : Limits) (ps : List ℕ) (x : Book) (o : Option ℕ) (v : ℕ)
          → RepresentsAreas κ ps (book_areas s c k f m p t l u n b e) x
          → None ≡ found_of o → RepresentsAreas κ ps (book_areas s c k f m p t l u n b e) (set_local_value o v x)
      go c k f m p t u n b e κ ps x none v H q = H
      go c k f m p t u n b e κ ps x (some i) v H q = absurd (let y : ◌≡◌ {A = ℕ} 0 1 = cc in omega arith)

  pub value_at_lem : s.full ≡ 0 → (i : ℕ) → found ≡ Some i → {l' : List ℕ} → l' ≡ set_value_c s.full s.locals i constant l → LocalsValue s l l' found constant
  value_at_lem z i at {l'} d = record {
    values = λ c k f m p t u n b e κ ps x o v A H.
        let (q, r, h) = A.agrees z in
        rw (← r) (go c k f m p t u n b e κ ps x o H (sym at ∙ q) h);
  }
    where
      go : (c k f m p t u n b e : List ℕ) (κ : Limits) (ps : List ℕ) (x : Book) (o : Option ℕ) → RepresentsAreas κ ps (book_areas s c k f m p t l u n b e) x
          → Some i ≡ found_of o → AddedLocal o x.context → RepresentsAreas κ ps (book_areas s c k f m p t l' u n b e) (set_local_value o constant x)
      go c k f m p t u n b e κ ps x none H q h = absurd (let y : ◌≡◌ {A = ℕ} 0 1 = cc in omega arith)
      go c k f m p t u n b e κ ps x (some j) H q h =
          let is : i ≡ j = cc in
          rw (← is) (value_keeping z i constant d (rw is h) H)
