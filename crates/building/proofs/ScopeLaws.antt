-- Scopes and locals: what the routines of `scopes.rt` make of memory is what the definition's methods of the same name make of its state, and what they
-- find is what those find. By the mark, by what the innermost scope has, and by whether area 9 has room. Assumes nothing.
use Rattle.std.proofs.Common.{◌≡◌, ℕ, ◌+◌, ◌-◌, ◌%◌, ◌^◌, ◌<◌, min, Bool, true, false, cond, eqb, ltb, List, [], ◌∷◌, ◌++◌, length, sym, refl, ap, ◌∙◌}
use Rattle.std.proofs.Common.{append-nil, arith, ltb-false, ltb-true, eq-eqb, eqb-true}
use native.Mathlib.Nat.{mod-add-mod}
use mathlib.Core.Option.{Option, none, some}
use lib.Seq.{length-sets}
use borrow.Author.Tests.{eqb-false}
use Rattle.words.specs.Areas.{entries_in, set_entry, scope_names_area}
use Rattle.definition.specs.FunctionState as Emission
use Rattle.definition.specs.FunctionState.{Entry, FunctionState, tail, innermost, find_name, find_local, enter_scope, exit_scope, insert_name}
use Rattle.definition.specs.FunctionState.{define_local, define_local_in, define_local_by, define_anonymous_local}
use Rattle.definition.specs.Uses.{Use, Limits, limit_of, total}
use Rattle.definition.specs.Compiler.{Work, with_function, doing}
use Rattle.definition.specs.Program.{Entries}
use Rattle.definition.specs.Within.{nil}
use Rattle.building.specs.declared.function_state.FunctionState as struct
use Rattle.building.specs.Found.{found_of, wrapped}
use Rattle.building.specs.State.{with_scope, with_names, with_local_count}
use Rattle.building.specs.Taking.{taken, given_up}
use Rattle.building.specs.Scopes.{Defined, Naming, naming, find_local_c, find_in_scope_c, enter_scope_c}
use Rattle.building.specs.Scopes.{exit_scope_c, end_function_c, define_anonymous_c, counted_c}
use Rattle.building.specs.Scopes.{insert_c, Definition, define_by, define_c, Defines}
use Rattle.building.specs.RepresentsMachine.{machine, Filled, name_entries, oldest_first, is_open, Contents, RepresentsMachine}
use Rattle.building.proofs.Filling.{filled_less, filled_more, names_length, capped, noted_within, set_entry_length, room_fits}
use Rattle.building.proofs.Filling.{over_stays, over_fits, over_here, held_full, held_step}
use Rattle.building.proofs.ScopeNames.{names_wide, names_split, total_split, names_insert, total_insert, tail_insert, found_in_scope, found_in_scopes}

-- other names, scopes and locals, and all else as it was
contents_named : {E : Entries} {s : struct.FunctionState} {c k n b e : List ℕ} {w : Work} (names scope locals : ℕ) (n' : List ℕ)
    (ss : List (List Entry)) (count : ℕ) (us : List Use) → Contents E (machine s c k n b e) w
    → Filled 2 n' (name_entries ss) names → scope ≡ total (tail ss) → locals ≡ count % 2 ^ 64
    → Contents E (machine (with_local_count locals (with_scope names scope s)) c k n' b e)
    (record {
      compiler = w.compiler;
      context = w.context;
      function = Emission.with_scopes ss (Emission.with_local_count count w.function);
      before = w.before;
      uses = us;
    })
contents_named names scope locals n' ss count us C f p q = record {
  before = C.before;
  sized = C.sized;
  code = C.code;
  base = C.base;
  constants = C.constants;
  marks = C.marks;
  names = f;
  scope = p;
  breaks = C.breaks;
  loop = C.loop;
  in_loop = C.in_loop;
  errors = C.errors;
  depth = C.depth;
  rescue = C.rescue;
  is_instance = C.is_instance;
  parameters = C.parameters;
  locals = q;
}

-- the function with no name in its outermost scope, and no note
abbrev pub unnamed : Work → Work
unnamed w = record {
  compiler = w.compiler;
  context = w.context;
  function = Emission.with_scopes ([] ∷ []) w.function;
  before = w.before;
  uses = w.uses;
}

module _ {κ : Limits} {E : Entries} {s : struct.FunctionState} {c k n b e : List ℕ} {w : Work} (H : RepresentsMachine κ E (machine s c k n b e) w) where
  -- searches, where nothing is full

  live : s.full ≡ 0 → s.names ≡ total w.function.scopes
  live z = (H.rest z).names.count ∙ names_length w.function.scopes

  pub find_law : (name : ℕ) → s.full ≡ 0 → find_local_c name (naming s n) ≡ wrapped (find_local name w.function)
  find_law name z =
      rw (live z) (found_in_scopes name {n = s.names} w.function.scopes [] (rw (append-nil (name_entries w.function.scopes)) (H.rest z).names))

  pub find_in_scope_law : (name : ℕ) → s.full ≡ 0 → find_in_scope_c name (naming s n) ≡ wrapped (find_name name (innermost w.function.scopes))
  find_in_scope_law name z =
      let ss = w.function.scopes in
      let C = H.rest z in
      let own : s.names - s.scope_base ≡ length (innermost ss) = omega (arith, live z, C.scope, total_split ss) in
      let f : Filled 2 n (name_entries (tail ss) ++ (oldest_first (innermost ss) ++ [])) s.names =
      rw (append-nil (oldest_first (innermost ss)), ← names_split ss) C.names in
      rw (own, C.scope) (found_in_scope name (tail ss) (innermost ss) [] f)

  -- a step that changes names, scopes and locals alone, where nothing is full
  named_step : s.full ≡ 0 → (names scope locals : ℕ) (n' : List ℕ) (ss : List (List Entry)) (count : ℕ) → length n' ≡ length n
      → Filled 2 n' (name_entries ss) names → scope ≡ total (tail ss) → locals ≡ count % 2 ^ 64
      → RepresentsMachine κ E (machine (with_local_count locals (with_scope names scope s)) c k n' b e)
      (with_function (Emission.with_scopes ss (Emission.with_local_count count w.function)) w)
  named_step z names scope locals n' ss count long f p q =
      let g = Emission.with_scopes ss (Emission.with_local_count count w.function) in
      held_step {m' = machine (with_local_count locals (with_scope names scope s)) c k n' b e} g H z z
      (record { code = H.code_cap; constants = H.constants_cap; names = rw long H.names_cap; breaks = H.breaks_cap; errors = H.errors_cap })
      (contents_named names scope locals n' ss count (with_function g w).uses (H.rest z) f p q)

  -- with the mark set nothing changes, and the notes of a step on the function change no mark
  marked_step : (f : FunctionState) → eqb s.full 0 ≡ false → RepresentsMachine κ E (machine s c k n b e) (with_function f w)
  marked_step f q = held_full (with_function f w) (_ ∷ _ ∷ _ ∷ []) refl (eqb-false s.full 0 q) H

  -- `enter_scope`
  pub enter_law : {s' : struct.FunctionState} → s' ≡ enter_scope_c s → RepresentsMachine κ E (machine s' c k n b e) (doing enter_scope w)
  enter_law same = rw same (go (eqb s.full 0) refl)
    where
      go : (t : Bool) → eqb s.full 0 ≡ t → RepresentsMachine κ E (machine (cond t (with_scope s.names s.names s) s) c k n b e) (doing enter_scope w)
      go false q = marked_step (enter_scope w.function) q
      go true q =
          let z = eqb-true s.full 0 q in
          let C = H.rest z in
          named_step z s.names s.names s.local_count n ([] ∷ w.function.scopes) w.function.header.local_count refl
          (rw (append-nil (name_entries w.function.scopes)) C.names) (live z) C.locals

  -- `define_anonymous_local`: both counts wrap alike
  one_more : s.full ≡ 0 → (s.local_count + 1) % 2 ^ 64 ≡ (w.function.header.local_count + 1) % 2 ^ 64
  one_more z = rw (H.rest z).locals (mod-add-mod w.function.header.local_count (2 ^ 64) 1)

  pub anonymous_law : {s' : struct.FunctionState} → s' ≡ define_anonymous_c s → RepresentsMachine κ E (machine s' c k n b e) (doing define_anonymous_local w)
  anonymous_law same = rw same (go (eqb s.full 0) refl)
    where
      go : (t : Bool) → eqb s.full 0 ≡ t
          → RepresentsMachine κ E (machine (cond t (with_local_count ((s.local_count + 1) % 2 ^ 64) s) s) c k n b e) (doing define_anonymous_local w)
      go false q = marked_step (define_anonymous_local w.function) q
      go true q =
          let z = eqb-true s.full 0 q in
          let C = H.rest z in
          named_step z s.names s.scope_base ((s.local_count + 1) % 2 ^ 64) n w.function.scopes (w.function.header.local_count + 1) refl
          C.names C.scope (one_more z)

  -- the innermost scope's names given up
  ended : s.full ≡ 0
      → Filled 2 (given_up 2 s.scope_base s.names n) (name_entries (tail w.function.scopes)) (min s.scope_base s.names)
  ended z =
      let ss = w.function.scopes in
      let C = H.rest z in
      let base : s.scope_base ≡ length (name_entries (tail ss)) = C.scope ∙ sym (names_length (tail ss)) in
      let low : min s.scope_base s.names ≡ length (name_entries (tail ss)) = omega (arith, base, live z, C.scope, total_split ss) in
      rw (low, base) (filled_less (name_entries (tail ss)) (oldest_first (innermost ss)) (omega arith) (names_wide (tail ss)) (rw (← names_split ss) C.names))

  -- `exit_scope`, where `start` is that of the scope around
  pub exit_law : {start : ℕ} {s' : struct.FunctionState} {n' : List ℕ} → naming s' n' ≡ exit_scope_c start (naming s n)
      → (s.full ≡ 0 → start ≡ total (tail (tail w.function.scopes))) → RepresentsMachine κ E (machine s' c k n' b e) (doing exit_scope w)
  unfolding exit_scope_c
  exit_law {start} {s'} {n'} q around = rw (ap (λ (m : Naming). m.state) q, ap (λ (m : Naming). m.names) q) (go (eqb s.full 0) refl)
    where
      low : Naming
      low = naming (with_scope (min s.scope_base s.names) start s) (given_up 2 s.scope_base s.names n)

      go : (t : Bool) → eqb s.full 0 ≡ t
          → RepresentsMachine κ E (machine (cond t low (naming s n)).state c k (cond t low (naming s n)).names b e) (doing exit_scope w)
      go false p = marked_step (exit_scope w.function) p
      go true p =
          let z = eqb-true s.full 0 p in
          named_step z (min s.scope_base s.names) start s.local_count (given_up 2 s.scope_base s.names n)
          (tail w.function.scopes) w.function.header.local_count (simp length-sets) (ended z) (around z) (H.rest z).locals

  -- the function's end: no name is left, and the definition's state goes
  pub end_law : {s' : struct.FunctionState} {n' : List ℕ} → naming s' n' ≡ end_function_c (naming s n) → RepresentsMachine κ E (machine s' c k n' b e)
      (unnamed w)
  unfolding end_function_c
  end_law {s'} {n'} q = rw (ap (λ (m : Naming). m.state) q, ap (λ (m : Naming). m.names) q) (go (eqb s.full 0) refl)
    where
      none_left : Naming
      none_left = naming (with_scope 0 0 s) (given_up 2 0 s.names n)

      go : (t : Bool) → eqb s.full 0 ≡ t
          → RepresentsMachine κ E (machine (cond t none_left (naming s n)).state c k (cond t none_left (naming s n)).names b e) (unnamed w)
      go false p = held_full (unnamed w) [] refl (eqb-false s.full 0 p) H
      go true p =
          let z = eqb-true s.full 0 p in
          let C = H.rest z in
          record {
            code_cap = H.code_cap;
            constants_cap = H.constants_cap;
            names_cap = simp length-sets H.names_cap;
            breaks_cap = H.breaks_cap;
            errors_cap = H.errors_cap;
            full = H.full;
            rest = λ y. contents_named 0 0 s.local_count (given_up 2 0 s.names n) ([] ∷ []) w.function.header.local_count w.uses C
                (filled_less [] (name_entries w.function.scopes) (omega arith) nil C.names) refl C.locals;
          }

  -- `define_local`

  -- the innermost scope has no such name
  module _ (name : ℕ) (open' : is_open w.function.scopes ≡ true) (q : eqb s.full 0 ≡ true) where
    abbrev entry : Entry
    entry = record { name = name; index = w.function.header.local_count }

    abbrev grown : FunctionState
    grown = (define_local_by none name w.function).state

    inserted : (room : Bool) → ltb s.names (entries_in 2 (length n)) ≡ room
        → RepresentsMachine κ E (machine (counted_c (with_names (cond room (taken s.full (s.names + 1)) (taken scope_names_area s.names)) s)) c k
        (cond room (set_entry 2 s.names (name ∷ s.local_count ∷ []) n) n) b e) (with_function grown w)
    inserted true h =
        let z = eqb-true s.full 0 q in
        let C = H.rest z in
        let ss = w.function.scopes in
        let lt = ltb-true s.names (entries_in 2 (length n)) h in
        rw q
        (named_step z (s.names + 1) s.scope_base ((s.local_count + 1) % 2 ^ 64) (set_entry 2 s.names (name ∷ s.local_count ∷ []) n)
        (insert_name entry ss) (w.function.header.local_count + 1)
        (set_entry_length 2 s.names (name ∷ s.local_count ∷ []) n refl (room_fits 2 s.names (length n) lt))
        (rw (names_insert entry ss open', ← C.locals) (filled_more (name ∷ s.local_count ∷ []) refl lt C.names))
        (rw (tail_insert entry ss) C.scope) (one_more z))
    inserted false h =
        let z = eqb-true s.full 0 q in
        let beyond : limit_of κ scope_names_area < total (insert_name entry w.function.scopes) =
        omega (arith, H.names_cap, ltb-false s.names (entries_in 2 (length n)) h, live z, total_insert entry w.function.scopes open') in
        record {
          code_cap = H.code_cap;
          constants_cap = H.constants_cap;
          names_cap = H.names_cap;
          breaks_cap = H.breaks_cap;
          errors_cap = H.errors_cap;
          full = over_stays κ _ _
              (over_here κ _ _ (over_fits κ _ _ H.full z (noted_within (capped H) (H.rest z)).code) z beyond (omega arith)) (λ y. absurd (omega arith));
          rest = λ y. absurd (omega arith);
        }

    insert_law : RepresentsMachine κ E (machine (insert_c name (naming s n)).state c k (insert_c name (naming s n)).names b e) (with_function grown w)
    insert_law = rw q (inserted (ltb s.names (entries_in 2 (length n))) refl)

  module _ (name : ℕ) where
    abbrev unchanged : Definition
    unchanged = record { found = none; memory = naming s n }

    define_go : is_open w.function.scopes ≡ true → (t : Bool) → eqb s.full 0 ≡ t → (o p : Option ℕ) → (s.full ≡ 0 → o ≡ wrapped p)
        → RepresentsMachine κ E (machine (cond t (define_by o name (naming s n)) unchanged).memory.state c k
        (cond t (define_by o name (naming s n)) unchanged).memory.names b e) (with_function (define_local_by p name w.function).state w)
    define_go op false q o p h = marked_step (define_local_by p name w.function).state q
    define_go op true q none none h = insert_law name op q
    define_go op true q none (some j) h = absurd (let y = h (eqb-true s.full 0 q) in let z : ◌≡◌ {A = ℕ} 0 1 = cc in omega arith)
    define_go op true q (some i) none h = absurd (let y = h (eqb-true s.full 0 q) in let z : ◌≡◌ {A = ℕ} 0 1 = cc in omega arith)
    define_go op true q (some i) (some j) h =
        let z = eqb-true s.full 0 q in
        let C = H.rest z in
        named_step z s.names s.scope_base s.local_count n w.function.scopes w.function.header.local_count refl C.names C.scope
        C.locals

    found_go : s.full ≡ 0 → (o p : Option ℕ) → o ≡ wrapped p
        → (define_by o name (naming s n)).found ≡ wrapped (define_local_by p name w.function).found
    found_go z none none h = ap some (H.rest z).locals
    found_go z none (some j) h = absurd (let y : ◌≡◌ {A = ℕ} 0 1 = cc in omega arith)
    found_go z (some i) none h = absurd (let y : ◌≡◌ {A = ℕ} 0 1 = cc in omega arith)
    found_go z (some i) (some j) h = refl

    -- where a scope is open, by what the innermost one has
    define_in : (f : FunctionState) (ss : List (List Entry)) → is_open ss ≡ true → define_local_in ss name f ≡ define_local_by (find_name name (innermost ss))
        name f
    define_in f [] op = absurd (let z : ◌≡◌ {A = ℕ} 0 1 = cc in omega arith)
    define_in f (x ∷ ss) op = refl

  module _ {name : ℕ} {r : Defined} {n' : List ℕ} (D : Defines name (naming s n) r n') where
    pub define_law : is_open w.function.scopes ≡ true
        → RepresentsMachine κ E (machine r.state c k n' b e) (with_function (define_local name w.function).state w)
    unfolding define_c define_local
    define_law op =
        rw (ap (λ (m : Naming). m.state) D.memory, ap (λ (m : Naming). m.names) D.memory, define_in name w.function w.function.scopes op)
        (define_go name op (eqb s.full 0) refl (find_in_scope_c name (naming s n)) (find_name name (innermost w.function.scopes)) (find_in_scope_law name))

    pub define_found : s.full ≡ 0 → is_open w.function.scopes ≡ true → r.found ≡ found_of (wrapped (define_local name w.function).found)
    unfolding define_c define_local
    define_found z op =
        let same : (define_c name (naming s n)).found ≡ wrapped (define_local name w.function).found =
        rw (eq-eqb s.full 0 z, define_in name w.function w.function.scopes op)
        (found_go name z (find_in_scope_c name (naming s n)) (find_name name (innermost w.function.scopes)) (find_in_scope_law name z)) in
        D.found ∙ ap found_of same

-- the mark stays: where nothing is full after a step, nothing was before it

pub enter_mark : (s : struct.FunctionState) → (enter_scope_c s).full ≡ s.full
enter_mark s = go (eqb s.full 0)
  where
    go : (t : Bool) → (cond t (with_scope s.names s.names s) s).full ≡ s.full
    go true = refl
    go false = refl

pub anonymous_mark : (s : struct.FunctionState) → (define_anonymous_c s).full ≡ s.full
anonymous_mark s = go (eqb s.full 0)
  where
    go : (t : Bool) → (cond t (with_local_count ((s.local_count + 1) % 2 ^ 64) s) s).full ≡ s.full
    go true = refl
    go false = refl

module _ (s s' : struct.FunctionState) (n n' : List ℕ) where
  -- a state and its names, or others with the same mark
  same_mark : (t : Bool) (m : Naming) → m.state.full ≡ s.full → naming s' n' ≡ cond t m (naming s n) → s'.full ≡ s.full
  same_mark true m e q = ap (λ (x : Naming). x.state.full) q ∙ e
  same_mark false m e q = ap (λ (x : Naming). x.state.full) q

  pub exit_mark : (start : ℕ) → naming s' n' ≡ exit_scope_c start (naming s n) → s'.full ≡ s.full
  unfolding exit_scope_c
  exit_mark start q = same_mark (eqb s.full 0) _ refl q

  pub end_mark : naming s' n' ≡ end_function_c (naming s n) → s'.full ≡ s.full
  unfolding end_function_c
  end_mark q = same_mark (eqb s.full 0) _ refl q

pub define_mark : {name : ℕ} {s : struct.FunctionState} {n : List ℕ} {r : Defined} {n' : List ℕ} → Defines name (naming s n) r n'
    → r.state.full ≡ 0 → s.full ≡ 0
unfolding define_c
define_mark {name} {s} {n} {r} {n'} D z = go (eqb s.full 0) refl D.memory
  where
    go : (t : Bool) → eqb s.full 0 ≡ t
        → naming r.state n' ≡ (cond t (define_by (find_in_scope_c name (naming s n)) name (naming s n)) (record { found = none; memory = naming s n })).memory
        → s.full ≡ 0
    go true e q = eqb-true s.full 0 e
    go false e q = sym (ap (λ (m : Naming). m.state.full) q) ∙ z
