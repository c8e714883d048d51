-- What the routines of `pool.rt` do to memory is what the definition's steps of the same names do: constants, their global marks, and errors. Each law
-- cites the relation `RepresentsMachine` alone. By cases on the mark and on the room, with the entries' laws of `Filling`. Assumes nothing.
use Rattle.std.proofs.Common.{◌≡◌, ℕ, zero, suc, ◌+◌, ◌*◌, ◌<◌, ◌≤◌, Bool, true, false, cond, eqb, ltb, List, [], ◌∷◌, ◌++◌, length, get_or, set, sym, refl, ap}
use Rattle.std.proofs.Common.{◌∙◌, append_assoc, append-nil, zero-add, arith, length-append, length-set, ltb-false, ltb-true, lt-ltb, eq-eqb, ne_eqb, eqb-true}
use mathlib.Core.Option.{Option, none, some}
use borrow.Author.Tests.{eqb-false}
use Rattle.words.specs.Ast.{Token}
use Rattle.words.specs.Areas.{entries_in, set_entry, entry_field, write_word, constants_area, errors_area}
use Rattle.words.specs.Object.{Constant, constant_of, is_shared, same_constant}
use Rattle.definition.specs.Uses.{Limits, using'}
use Rattle.definition.specs.Book.{has_text}
use Rattle.definition.specs.Compiler.{Work, Added, with_constants, add_constant_no_check, add_constant_by, add_constant, find_constant, mark_global, push_error}
use Rattle.definition.specs.Program.{Entries, bit, constant_entry, error_entry, entries_from}
use Rattle.definition.specs.Within.{All, nil, ◌&◌}
use Rattle.definition_laws.proofs.Program.{added_case}
use Rattle.definition_laws.proofs.Cells.{single_length, single_at}
use Rattle.building.specs.declared.function_state.FunctionState.{FunctionState}
use Rattle.building.specs.declared.taking.Taken.{Taken}
use Rattle.building.specs.State as state
use Rattle.building.specs.Taking.{taken, has_room}
use Rattle.building.specs.Found.{is_constant, find_constant_c}
use Rattle.building.specs.Pool.{Pooling, pooling, add_no_check_c, add_by, add_constant_c, mark_global_c, Erring, erring, push_error_c}
use Rattle.building.specs.RepresentsMachine.{machine, Filled, Contents, RepresentsMachine}
use Rattle.building.proofs.Filling.{room_fits, set_entry_length, filled_more, filled_set, filled_field, over_fits, over_here, held_full}
use Rattle.building.proofs.OldestFirst.{first_constant}

-- the entries of a list with one element more
pub entries_more : {A : Type 0} (f : ℕ → A → Entries) (i : ℕ) (xs : List A) (x : A)
    → entries_from f i (xs ++ (x ∷ [])) ≡ entries_from f i xs ++ f (i + length xs) x
entries_more f i [] x = let here : i + 0 ≡ i = omega arith in rw (here, append-nil)
entries_more f i (y ∷ xs) x =
    let next : i + suc (length xs) ≡ i + 1 + length xs = omega arith in
    rw (next, entries_more f (i + 1) xs x) (sym (append_assoc (f i y) (entries_from f (i + 1) xs) (f (i + 1 + length xs) x)))

-- a constant more has no mark: every mark is of a constant that stands
unmarked : (n : ℕ) {gs : List ℕ} → All (λ (m : ℕ). m < n) gs → has_text n gs ≡ false
unmarked n nil = refl
unmarked n (◌&◌ {x = g} {xs = gs} h hs) = rw (ne_eqb g n (λ q. omega arith), unmarked n hs)

constants_more : (gs : List ℕ) (cs : List Constant) (c : Constant) → All (λ (m : ℕ). m < length cs) gs
    → entries_from (constant_entry gs) 0 (cs ++ (c ∷ [])) ≡ entries_from (constant_entry gs) 0 cs ++ ((c.kind ∷ c.value ∷ 0 ∷ []) ∷ [])
constants_more gs cs c marks =
    entries_more (constant_entry gs) 0 cs c
    ∙ ap (λ (x : Entries). entries_from (constant_entry gs) 0 cs ++ x) (rw (zero-add (length cs), unmarked (length cs) marks))

-- a mark more: that of the entry before does not count, and its own entry's does
marks_past : (m : ℕ) (gs : List ℕ) (i : ℕ) (cs : List Constant) → m < i
    → entries_from (constant_entry (m ∷ gs)) i cs ≡ entries_from (constant_entry gs) i cs
marks_past m gs i [] h = refl
marks_past m gs i (c ∷ cs) h = rw (ne_eqb m i (λ q. omega arith), marks_past m gs (i + 1) cs (omega arith))

marks_more : (gs : List ℕ) (i j : ℕ) (cs : List Constant) → j < length cs
    → set (entries_from (constant_entry gs) i cs) j (set (get_or (entries_from (constant_entry gs) i cs) j []) 2 1)
    ≡ entries_from (constant_entry ((i + j) ∷ gs)) i cs
marks_more gs i j [] h = absurd (omega arith)
marks_more gs i zero (c ∷ cs) h =
    let here : i + 0 ≡ i = omega arith in
    rw (here, eq-eqb i i refl, marks_past (i + 0) gs (i + 1) cs (omega arith))
marks_more gs i (suc j) (c ∷ cs) h =
    let next : i + suc j ≡ i + 1 + j = omega arith in
    rw (ne_eqb (i + suc j) i (λ q. omega arith)) (ap (λ (x : Entries). (c.kind ∷ c.value ∷ bit (has_text i gs) ∷ []) ∷ x)
    (marks_more gs (i + 1) j cs (omega arith) ∙ ap (λ (k : ℕ). entries_from (constant_entry (k ∷ gs)) (i + 1) cs) (sym next)))

-- a constant as area 2 has it
constant_there : (gs : List ℕ) (cs : List Constant) {l : List ℕ} {n : ℕ} → Filled 3 l (entries_from (constant_entry gs) 0 cs) n
    → (j : ℕ) → j < length cs → constant_of (entry_field 3 j 0 l) (entry_field 3 j 1 l) ≡ get_or cs j (constant_of 0 0)
constant_there gs cs {l} {n} f j h = rw (word 0 (omega arith), word 1 (omega arith))
  where
    words : ℕ → Constant → List ℕ
    words i c = c.kind ∷ c.value ∷ bit (has_text i gs) ∷ []

    inside : j < n
    inside = omega (arith, f.count, single_length words 0 cs)

    word : (k : ℕ) → k < 3 → entry_field 3 j k l ≡ get_or (words (0 + j) (get_or cs j (constant_of 0 0))) k 0
    word k q = filled_field j k (omega arith) inside q f ∙ ap (λ (e : List ℕ). get_or e k 0) (single_at words 0 cs j (constant_of 0 0) h)

marks_longer : (cs : List Constant) (c : Constant) {gs : List ℕ} → All (λ (m : ℕ). m < length cs) gs → All (λ (m : ℕ). m < length (cs ++ (c ∷ []))) gs
marks_longer cs c nil = nil
marks_longer cs c (◌&◌ {x = g} h hs) =
    let longer : g < length (cs ++ (c ∷ [])) = omega (arith, length-append cs (c ∷ [])) in
    longer & marks_longer cs c hs

-- one more than a list has, against the area's length in entries
limit_over : {A : Type 0} (xs : List A) (x : A) {most limit count : ℕ} → most ≡ limit → most ≤ count → count ≡ length xs → limit < length (xs ++ (x ∷ []))
limit_over xs x p q r = rw (length-append xs (x ∷ [])) (omega arith)

limit_fits : {A : Type 0} (xs : List A) (x : A) {most limit count : ℕ} → most ≡ limit → count < most → count ≡ length xs → length (xs ++ (x ∷ [])) ≤ limit
limit_fits xs x p q r = rw (length-append xs (x ∷ [])) (omega arith)

-- constants and errors anew leave all else
with_constants_lem : {earlier : Entries} {s : FunctionState} {c k n b e : List ℕ} {w : Work} → Contents earlier (machine s c k n b e) w
    → (t : Taken) (k' : List ℕ) (cs : List Constant) (gs : List ℕ) → Filled 3 k' (entries_from (constant_entry gs) 0 cs) t.count
    → All (λ (m : ℕ). m < length cs) gs → Contents earlier (machine (state.with_constants t s) c k' n b e) (with_constants cs gs w)
with_constants_lem C t k' cs gs f marks = record {
  before = C.before;
  sized = C.sized;
  code = C.code;
  base = C.base;
  constants = f;
  marks = marks;
  names = C.names;
  scope = C.scope;
  breaks = C.breaks;
  loop = C.loop;
  in_loop = C.in_loop;
  errors = C.errors;
  depth = C.depth;
  rescue = C.rescue;
  is_instance = C.is_instance;
  parameters = C.parameters;
  locals = C.locals;
}

with_errors_lem : {earlier : Entries} {s : FunctionState} {c k n b e : List ℕ} {w : Work} → Contents earlier (machine s c k n b e) w
    → (t : Taken) (e' : List ℕ) (number : ℕ) (token : Token) → Filled 4 e' (entries_from error_entry 0 (push_error number token w).compiler.errors) t.count
    → Contents earlier (machine (state.with_errors t s) c k n b e') (push_error number token w)
with_errors_lem C t e' number token f = record {
  before = C.before;
  sized = C.sized;
  code = C.code;
  base = C.base;
  constants = C.constants;
  marks = C.marks;
  names = C.names;
  scope = C.scope;
  breaks = C.breaks;
  loop = C.loop;
  in_loop = C.in_loop;
  errors = f;
  depth = C.depth;
  rescue = C.rescue;
  is_instance = C.is_instance;
  parameters = C.parameters;
  locals = C.locals;
}

-- a pool in memory stands for the definition's, and the number is its number unless something is full
record Pooled (κ : Limits) (earlier : Entries) (c n b e : List ℕ) (p : Pooling) (a : Added) : Type 0 where
  held : RepresentsMachine κ earlier (machine p.state c p.constants n b e) a.work
  index : p.state.full ≡ 0 → p.index ≡ a.index

-- `add_constant` with nothing full, by whether the kind is shared and what the search found
abbrev adding : Bool → Option ℕ → ℕ → ℕ → FunctionState → List ℕ → Pooling
adding t o kind value s k = cond t (add_by o kind value s k) (add_no_check_c kind value s k)

abbrev added : Bool → Option ℕ → ℕ → ℕ → Work → Added
added t o kind value w = cond t (add_constant_by o (constant_of kind value) w) (add_constant_no_check (constant_of kind value) w)

module _ {κ : Limits} {earlier : Entries} {s : FunctionState} {c k n b e : List ℕ} {w : Work} (H : RepresentsMachine κ earlier (machine s c k n b e) w) where
  -- how many constants and errors there are
  constants_count : s.full ≡ 0 → s.constants ≡ length w.context.constants
  constants_count z =
      (H.rest z).constants.count ∙ single_length (λ i x. x.kind ∷ x.value ∷ bit (has_text i w.context.globals) ∷ []) 0 w.context.constants

  errors_count : s.full ≡ 0 → s.errors ≡ length w.compiler.errors
  errors_count z =
      (H.rest z).errors.count ∙ single_length (λ i x. x.number ∷ x.token.position ∷ x.token.kind ∷ x.token.value ∷ []) 0 w.compiler.errors

  module _ (kind value : ℕ) where
    -- `add_constant_no_check`
    no_check : (t : Bool) → eqb s.full 0 ≡ t → (u : Bool) → has_room 3 s.constants (length k) ≡ u
        → RepresentsMachine κ earlier
        (machine (state.with_constants (cond t (cond u (taken s.full (s.constants + 1)) (taken 2 s.constants)) (taken s.full s.constants)) s) c
        (cond t (cond u (set_entry 3 s.constants (kind ∷ value ∷ 0 ∷ []) k) k) k) n b e)
        (add_constant_no_check (constant_of kind value) w).work
    no_check false q u r = held_full (add_constant_no_check (constant_of kind value) w).work (_ ∷ []) refl (eqb-false s.full 0 q) H
    no_check true q false r =
        let z = eqb-true s.full 0 q in
        let past = ltb-false s.constants (entries_in 3 (length k)) r in
        record {
          code_cap = H.code_cap;
          constants_cap = H.constants_cap;
          names_cap = H.names_cap;
          breaks_cap = H.breaks_cap;
          errors_cap = H.errors_cap;
          full = over_here κ _ w.uses H.full z
              (limit_over w.context.constants (constant_of kind value) H.constants_cap past (constants_count z)) (omega arith);
          rest = λ y. absurd (omega (arith, y));
        }
    no_check true q true r =
        let z = eqb-true s.full 0 q in
        let C = H.rest z in
        let lt = ltb-true s.constants (entries_in 3 (length k)) r in
        let entry = kind ∷ value ∷ 0 ∷ [] in
        record {
          code_cap = H.code_cap;
          constants_cap = ap (λ (m : ℕ). entries_in 3 m) (set_entry_length 3 s.constants entry k refl (room_fits 3 s.constants (length k) lt))
              ∙ H.constants_cap;
          names_cap = H.names_cap;
          breaks_cap = H.breaks_cap;
          errors_cap = H.errors_cap;
          full = over_fits κ _ w.uses H.full z
              (limit_fits w.context.constants (constant_of kind value) H.constants_cap lt (constants_count z));
          rest = λ y. with_constants_lem C (taken s.full (s.constants + 1)) _ (w.context.constants ++ (constant_of kind value ∷ [])) w.context.globals
              (rw (constants_more w.context.globals w.context.constants (constant_of kind value) C.marks) (filled_more entry refl lt C.constants))
              (marks_longer w.context.constants (constant_of kind value) C.marks);
        }

    no_check_now : RepresentsMachine κ earlier (machine (add_no_check_c kind value s k).state c (add_no_check_c kind value s k).constants n b e)
        (add_constant_no_check (constant_of kind value) w).work
    no_check_now = no_check (eqb s.full 0) refl (has_room 3 s.constants (length k)) refl

    -- the constant is found where the definition finds it
    find_law : s.full ≡ 0 → find_constant_c s.constants (constant_of kind value) k ≡ find_constant (constant_of kind value) w.context.constants 0
    find_law z = rw (constants_count z)
        (first_constant (constant_of kind value) (is_constant (constant_of kind value) k) w.context.constants 0
        (λ j h. rw (zero-add j) (ap (λ (d : Constant). same_constant (constant_of kind value) d)
        (constant_there w.context.globals w.context.constants (H.rest z).constants j h))))

    -- with the mark set, whatever the definition does
    add_full : (s.full ≡ 0 → ⊥) → (t : Bool) (o : Option ℕ) → Pooled κ earlier c n b e (pooling 0 s k) (added t o kind value w)
    add_full ne true (some i) = record { held = H; index = λ z. absurd (ne z) }
    add_full ne true none = record {
      held = held_full (add_constant_no_check (constant_of kind value) w).work (_ ∷ []) refl ne H;
      index = λ z. absurd (ne z);
    }
    add_full ne false o = record {
      held = held_full (add_constant_no_check (constant_of kind value) w).work (_ ∷ []) refl ne H;
      index = λ z. absurd (ne z);
    }

    add_live : s.full ≡ 0 → (t : Bool) (o : Option ℕ) → Pooled κ earlier c n b e (adding t o kind value s k) (added t o kind value w)
    add_live z true (some i) = record { held = H; index = λ y. refl }
    add_live z true none = record { held = no_check_now; index = λ y. constants_count z }
    add_live z false o = record { held = no_check_now; index = λ y. constants_count z }

    add_now : Pooled κ earlier c n b e (add_constant_c kind value s k) (add_constant (constant_of kind value) w)
    unfolding add_constant_c add_constant
    add_now = go (eqb s.full 0) refl
      where
        same_found : {o o' : Option ℕ} → o ≡ o' → Pooled κ earlier c n b e (adding (is_shared kind) o' kind value s k) (added (is_shared kind) o' kind value w)
            → Pooled κ earlier c n b e (adding (is_shared kind) o kind value s k) (added (is_shared kind) o' kind value w)
        same_found q P = rw q P

        go : (f : Bool) → eqb s.full 0 ≡ f
            → Pooled κ earlier c n b e
            (cond f (adding (is_shared kind) (find_constant_c s.constants (constant_of kind value) k) kind value s k) (pooling 0 s k))
            (added (is_shared kind) (find_constant (constant_of kind value) w.context.constants 0) kind value w)
        go false q = add_full (eqb-false s.full 0 q) (is_shared kind) (find_constant (constant_of kind value) w.context.constants 0)
        go true q =
            let z = eqb-true s.full 0 q in
            same_found (find_law z) (add_live z (is_shared kind) (find_constant (constant_of kind value) w.context.constants 0))

  -- a mark more
  mark_live : s.full ≡ 0 → (i : ℕ) → i < length w.context.constants
      → RepresentsMachine κ earlier (machine s c (set k (i * 3 + 2) 1) n b e) (mark_global i w)
  mark_live z i h = record {
    code_cap = H.code_cap;
    constants_cap = ap (λ (m : ℕ). entries_in 3 m) (length-set k (i * 3 + 2) 1) ∙ H.constants_cap;
    names_cap = H.names_cap;
    breaks_cap = H.breaks_cap;
    errors_cap = H.errors_cap;
    full = over_fits κ _ w.uses H.full z (within H.constants_cap C.constants.room (constants_count z));
    rest = λ y. with_constants_lem C (taken s.full s.constants) (set k (i * 3 + 2) 1) w.context.constants (i ∷ w.context.globals)
        (rw more at (filled_set i 2 1 (omega (arith, constants_count z)) (omega arith) C.constants)) (h & C.marks);
  }
    where
      C : Contents earlier (machine s c k n b e) w
      C = H.rest z

      within : {most limit count length : ℕ} → most ≡ limit → count ≤ most → count ≡ length → length ≤ limit
      within p q r = omega arith

      es : Entries
      es = entries_from (constant_entry w.context.globals) 0 w.context.constants

      more : set es i (set (get_or es i []) 2 1) ≡ entries_from (constant_entry (i ∷ w.context.globals)) 0 w.context.constants
      more = rw (zero-add i) at (marks_more w.context.globals 0 i w.context.constants h)

  -- the word that is marked is there
  marked_word : s.full ≡ 0 → (i : ℕ) → i < length w.context.constants → mark_global_c i s k ≡ set k (i * 3 + 2) 1
  unfolding mark_global_c
  marked_word z i h =
      let used : i < s.constants = omega (arith, constants_count z) in
      let room : i < entries_in 3 (length k) = less used (H.rest z).constants.room in
      let there : i * 3 + 2 < length k = omega (arith, room_fits 3 i (length k) room) in
      rw (eq-eqb s.full 0 z, lt-ltb i s.constants used, lt-ltb (i * 3 + 2) (length k) there)
    where
      less : {a b c : ℕ} → a < b → b ≤ c → a < c
      less p q = omega arith

  mark_now : (i i' : ℕ) → (s.full ≡ 0 → (i ≡ i') × (i' < length w.context.constants))
      → RepresentsMachine κ earlier (machine s c (mark_global_c i s k) n b e) (mark_global i' w)
  unfolding mark_global_c
  mark_now i i' same = go (eqb s.full 0) refl
    where
      go : (f : Bool) → eqb s.full 0 ≡ f
          → RepresentsMachine κ earlier (machine s c (cond f (cond (ltb i s.constants) (write_word 3 i 2 1 k) k) k) n b e) (mark_global i' w)
      go false q = held_full (mark_global i' w) (using' constants_area (length w.context.constants) ∷ []) refl (eqb-false s.full 0 q) H
      go true q =
          let z = eqb-true s.full 0 q in
          let word : mark_global_c i' s k ≡ set k (i' * 3 + 2) 1 = marked_word z i' (same z).1 in
          rw (same z).0 (rw (rw (eq-eqb s.full 0 z) at word) (mark_live z i' (same z).1))

  -- an error more
  error_now : (number : ℕ) (token : Token) (t : Bool) → eqb s.full 0 ≡ t → (u : Bool) → has_room 4 s.errors (length e) ≡ u
      → RepresentsMachine κ earlier
      (machine (state.with_errors (cond t (cond u (taken s.full (s.errors + 1)) (taken errors_area s.errors)) (taken s.full s.errors)) s) c k n b
      (cond t (cond u (set_entry 4 s.errors (number ∷ token.position ∷ token.kind ∷ token.value ∷ []) e) e) e))
      (push_error number token w)
  error_now number token false q u r =
      held_full (push_error number token w) (using' errors_area (length w.compiler.errors + 1) ∷ []) refl (eqb-false s.full 0 q) H
  error_now number token true q false r =
      let z = eqb-true s.full 0 q in
      record {
        code_cap = H.code_cap;
        constants_cap = H.constants_cap;
        names_cap = H.names_cap;
        breaks_cap = H.breaks_cap;
        errors_cap = H.errors_cap;
        full = over_here κ _ w.uses H.full z
            (over H.errors_cap (ltb-false s.errors (entries_in 4 (length e)) r) (errors_count z)) (omega arith);
        rest = λ y. absurd (omega (arith, y));
      }
    where
      over : {most limit count length : ℕ} → most ≡ limit → most ≤ count → count ≡ length → limit < length + 1
      over p q r = omega arith
  error_now number token true q true r =
      let z = eqb-true s.full 0 q in
      let C = H.rest z in
      let lt = ltb-true s.errors (entries_in 4 (length e)) r in
      let entry = number ∷ token.position ∷ token.kind ∷ token.value ∷ [] in
      record {
        code_cap = H.code_cap;
        constants_cap = H.constants_cap;
        names_cap = H.names_cap;
        breaks_cap = H.breaks_cap;
        errors_cap = ap (λ (m : ℕ). entries_in 4 m) (set_entry_length 4 s.errors entry e refl (room_fits 4 s.errors (length e) lt)) ∙ H.errors_cap;
        full = over_fits κ _ w.uses H.full z (fits H.errors_cap lt (errors_count z));
        rest = λ y. with_errors_lem C (taken s.full (s.errors + 1)) (set_entry 4 s.errors entry e) number token
            (rw (entries_more error_entry 0 w.compiler.errors (record { number = number; token = token })) (filled_more entry refl lt C.errors));
      }
    where
      fits : {most limit count length : ℕ} → most ≡ limit → count < most → count ≡ length → length + 1 ≤ limit
      fits p q r = omega arith

-- `add_constant`
pub add_constant_law : {κ : Limits} {earlier : Entries} {s : FunctionState} {c k n b e : List ℕ} {w : Work} (kind value : ℕ) {i : ℕ} {r : FunctionState}
    {k' : List ℕ} → pooling i r k' ≡ add_constant_c kind value s k → RepresentsMachine κ earlier (machine s c k n b e) w
    → RepresentsMachine κ earlier (machine r c k' n b e) (add_constant (constant_of kind value) w).work
add_constant_law kind value q H = rw (ap (λ (p : Pooling). p.state) q, ap (λ (p : Pooling). p.constants) q) (add_now H kind value).held

-- the number that `add_constant` answers, where nothing is full afterwards
pub add_constant_index : {κ : Limits} {earlier : Entries} {s : FunctionState} {c k n b e : List ℕ} {w : Work} (kind value : ℕ) {i : ℕ} {r : FunctionState}
    {k' : List ℕ} → pooling i r k' ≡ add_constant_c kind value s k → RepresentsMachine κ earlier (machine s c k n b e) w → r.full ≡ 0
    → i ≡ (add_constant (constant_of kind value) w).index
add_constant_index kind value q H z =
    ap (λ (p : Pooling). p.index) q ∙ (add_now H kind value).index (sym (ap (λ (p : Pooling). p.state.full) q) ∙ z)

-- and it is one of the constants
pub add_constant_inside : (c : Constant) (w : Work) → (add_constant c w).index < length (add_constant c w).work.context.constants
add_constant_inside c w =
    let longer = length-append w.context.constants (c ∷ []) in
    added_case (λ (a : Added). a.index < length a.work.context.constants) c w (rw longer (omega arith)) (λ i h. h)

-- `global_dependencies.insert`; the number matters only where nothing is full
pub mark_global_law : {κ : Limits} {earlier : Entries} {s : FunctionState} {c k n b e : List ℕ} {w : Work} (i i' : ℕ) {k' : List ℕ}
    → k' ≡ mark_global_c i s k → (s.full ≡ 0 → (i ≡ i') × (i' < length w.context.constants)) → RepresentsMachine κ earlier (machine s c k n b e) w
    → RepresentsMachine κ earlier (machine s c k' n b e) (mark_global i' w)
mark_global_law i i' q same H = rw q (mark_now H i i' same)

-- `push_error`
pub push_error_law : {κ : Limits} {earlier : Entries} {s : FunctionState} {c k n b e : List ℕ} {w : Work} (number : ℕ) (token : Token)
    {r : FunctionState} {e' : List ℕ} → erring r e' ≡ push_error_c number token.position token.kind token.value s e
    → RepresentsMachine κ earlier (machine s c k n b e) w → RepresentsMachine κ earlier (machine r c k n b e') (push_error number token w)
unfolding push_error_c
push_error_law {s = s} {e = e} number token q H =
    rw (ap (λ (p : Erring). p.state) q, ap (λ (p : Erring). p.errors) q)
    (error_now H number token (eqb s.full 0) refl (has_room 4 s.errors (length e)) refl)
