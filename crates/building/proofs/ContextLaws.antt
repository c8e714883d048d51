-- What the routines of `context.rt` do to areas 7 and 3, over the entries that fill them: a search finds what the definition's list has, an entry more
-- stands behind the others or the mark is the area's, and a value changes no name. Assumes nothing.
use Rattle.std.proofs.Common.{◌≡◌, ℕ, ◌+◌, ◌-◌, ◌*◌, ◌^◌, ◌<◌, ◌≤◌, Bool, true, false, cond, eqb, ltb, List, [], ◌∷◌, ◌++◌, length, get_or, set, sym, refl, ap}
use Rattle.std.proofs.Common.{◌∙◌, arith, length-append, get_or-set_other, get_or-set_same, set-set, ltb-false, ltb-true, lt-ltb, eq-eqb, ne_eqb, eqb-true}
use native.Mathlib.Decide.{dec_lt}
use mathlib.Core.Option.{Option, none, some}
use lib.ListN.{get_or-append}
use lib.Seq.{get_or_at}
use borrow.Author.Tests.{eqb-false}
use Rattle.words.specs.Areas.{entries_in, set_entry, entry_word, word_fits, write_word, context_locals_area, functions_area}
use Rattle.words.proofs.Entries.{field_in}
use Rattle.definition.specs.FunctionState.{Entry, find_name}
use Rattle.definition.specs.Compiler.{CompilerState, Work}
use Rattle.definition.specs.Program.{Entries, code_entries, function_entry}
use Rattle.std.specs.Prelude.{Some, None}
use Rattle.building.specs.declared.function_state.FunctionState as struct
use Rattle.building.specs.declared.taking.Taken.{Taken}
use Rattle.building.specs.Taking.{Took, taken, has_room}
use Rattle.building.specs.Found.{Found, is_named, find_context_local_c}
use Rattle.building.specs.Context.{Localing, localing, define_context_by, define_context_c, set_value_c, function_state_words}
use Rattle.building.specs.RepresentsMachine.{Machine, Filled, Contents, LocalsHeld}
use Rattle.building.proofs.Filling.{room_fits, set_entry_length, filled_more, filled_set, filled_field, code_length}
use Rattle.building.proofs.OldestFirst.{first_name}

-- `find_context_local`
pub find_context_law : {start count : ℕ} {l : List ℕ} {s : CompilerState} (name : ℕ) → LocalsHeld start count l s
    → find_context_local_c start count name l ≡ find_name name s.locals
find_context_law {start} {count} {l} {s} name L =
    let many : count - start ≡ length s.locals = omega (arith, L.up_to) in
    rw many (first_name name (is_named name l) s.locals start
    (λ j h. (
      ap (λ (x : ℕ). eqb x name) (sym (field_in l 4 (start + j) 1 (omega arith) (omega arith)) ∙ sym (ap (λ (e : Entry). e.name) (L.each j h))),
      ap (λ (e : Entry). e.index) (L.each j h),
    )))

-- one entry more of an area, where nothing was full: it stands behind the others, or there was no room
pub data Grown (area count : ℕ) (entry l : List ℕ) (es : Entries) : Taken → List ℕ → Type 0 where
  grown : {l' : List ℕ} → count < entries_in (length entry) (length l) → Filled (length entry) l' (es ++ (entry ∷ [])) (count + 1) → length l' ≡ length l
      → Grown area count entry l es (taken 0 (count + 1)) l'
  over : entries_in (length entry) (length l) ≤ count → Grown area count entry l es (taken area count) l

pub took_law : {area full count : ℕ} {entry l : List ℕ} {t : Taken} {l' : List ℕ} {es : Entries} → Took area full count entry l t l' → full ≡ 0
    → Filled (length entry) l es count → Grown area count entry l es t l'
took_law {area} {full} {count} {entry} {l} {t} {l'} {es} T z f =
    rw (T.reply, T.words) (go (eqb full 0) refl (has_room (length entry) count (length l)) refl)
  where
    go : (x : Bool) → eqb full 0 ≡ x → (u : Bool) → has_room (length entry) count (length l) ≡ u
        → Grown area count entry l es (cond x (cond u (taken full (count + 1)) (taken area count)) (taken full count))
        (cond x (cond u (set_entry (length entry) count entry l) l) l)
    go false q u r = absurd (eqb-false full 0 q z)
    go true q false r = over (ltb-false count (entries_in (length entry) (length l)) r)
    go true q true r =
        let lt = ltb-true count (entries_in (length entry) (length l)) r in
        rw z (grown lt (filled_more entry refl lt f) (set_entry_length (length entry) count entry l refl (room_fits (length entry) count (length l) lt)))

-- with the mark set nothing changes
pub took_full : {area full count : ℕ} {entry l : List ℕ} {t : Taken} {l' : List ℕ} → Took area full count entry l t l' → (full ≡ 0 → ⊥)
    → (t ≡ taken full count) × (l' ≡ l)
took_full {area} {full} {count} {entry} {l} {t} {l'} T ne = rw (T.reply, T.words) (go (eqb full 0) refl)
  where
    go : (x : Bool) → eqb full 0 ≡ x
        → (cond x (cond (has_room (length entry) count (length l)) (taken full (count + 1)) (taken area count)) (taken full count) ≡ taken full count)
        × (cond x (cond (has_room (length entry) count (length l)) (set_entry (length entry) count entry l) l) l ≡ l)
    go false q = (refl, refl)
    go true q = absurd (ne (eqb-true full 0 q))

-- the name of a context local, by the entries
name_at : {l : List ℕ} {es : Entries} {n : ℕ} → Filled 4 l es n → (j : ℕ) → j < n → entry_word 4 j 1 l ≡ get_or (get_or es j []) 1 0
name_at {l} f j h = field_in l 4 j 1 (omega arith) (omega arith) ∙ filled_field j 1 (omega arith) h (omega arith) f

abbrev entry_of : ℕ → ℕ → Entry
entry_of name index = record { name = name; index = index }

-- a context local more: the names before it stay
abbrev pub with_local : ℕ → ℕ → CompilerState → CompilerState
with_local name index s = record { locals = s.locals ++ (record { name = name; index = index } ∷ []); errors = s.errors }

pub locals_more : (file name : ℕ) {start count : ℕ} {l l' : List ℕ} {es : Entries} {s : CompilerState} → Filled 4 l es count
    → Filled 4 l' (es ++ ((file ∷ name ∷ 0 ∷ 0 ∷ []) ∷ [])) (count + 1) → LocalsHeld start count l s
    → LocalsHeld start (count + 1) l' (with_local name count s)
locals_more file name {start} {count} {l} {l'} {es} {s} f f' L = record {
  up_to = rw (length-append s.locals (here ∷ [])) (omega (arith, L.up_to));
  each = λ i h. go i (dec_lt i (length s.locals)) (omega (arith, length-append s.locals (here ∷ [])));
}
  where
    here : Entry
    here = entry_of name count

    nobody : Entry
    nobody = entry_of 0 0

    entry : List ℕ
    entry = file ∷ name ∷ 0 ∷ 0 ∷ []

    go : (i : ℕ) → Dec (i < length s.locals) → i ≤ length s.locals
        → get_or (s.locals ++ (here ∷ [])) i nobody ≡ entry_of (entry_word 4 (start + i) 1 l') (start + i)
    go i (yes q) h =
        let old : start + i < count = omega (arith, L.up_to) in
        let kept : get_or (es ++ (entry ∷ [])) (start + i) [] ≡ get_or es (start + i) [] =
        get_or-append es (entry ∷ []) [] (start + i) (omega (arith, f.count)) in
        let word : entry_word 4 (start + i) 1 l ≡ entry_word 4 (start + i) 1 l' =
        name_at f (start + i) old ∙ sym (ap (λ (x : List ℕ). get_or x 1 0) kept) ∙ sym (name_at f' (start + i) (omega arith)) in
        get_or-append s.locals (here ∷ []) nobody i q ∙ L.each i q ∙ ap (λ (x : ℕ). entry_of x (start + i)) word
    go i (no q) h =
        let last : length s.locals ≡ i = omega arith in
        let place : start + i ≡ count = omega (arith, L.up_to) in
        let name' : entry_word 4 count 1 l' ≡ name =
        name_at f' count (omega arith) ∙ ap (λ (x : List ℕ). get_or x 1 0) (get_or_at es entry [] [] count (sym f.count)) in
        get_or_at s.locals here [] nobody i last ∙ rw (place, name')

-- what `define_context_local` answers and leaves, where nothing was full: a name that is there keeps its local; a new one has the next
pub data Defines (start count file name : ℕ) (l : List ℕ) (es : Entries) (s : CompilerState) : Found → Taken → List ℕ → Type 0 where
  there : {i : ℕ} → find_name name s.locals ≡ some i → Defines start count file name l es s None (taken 0 count) l
  new : {t : Taken} {l' : List ℕ} → find_name name s.locals ≡ none → Grown context_locals_area count (file ∷ name ∷ 0 ∷ 0 ∷ []) l es t l'
      → (t.full ≡ 0 → LocalsHeld start (count + 1) l' (with_local name count s)) → Defines start count file name l es s (Some count) t l'

grown_locals : (file name : ℕ) {start count : ℕ} {l l' : List ℕ} {es : Entries} {s : CompilerState} {t : Taken} → Filled 4 l es count
    → LocalsHeld start count l s → Grown context_locals_area count (file ∷ name ∷ 0 ∷ 0 ∷ []) l es t l' → t.full ≡ 0
    → LocalsHeld start (count + 1) l' (with_local name count s)
grown_locals file name f L (grown h f' e) z = locals_more file name f f' L
grown_locals file name f L (over h) z = absurd (omega (arith, z))

pub define_context_law : {start count : ℕ} (file name : ℕ) {full : ℕ} {l : List ℕ} {es : Entries} {s : CompilerState} {g : Found} {t : Taken}
    {l' : List ℕ} → localing g t l' ≡ define_context_c full start count file name l → full ≡ 0 → Filled 4 l es count → LocalsHeld start count l s
    → Defines start count file name l es s g t l'
unfolding define_context_c
define_context_law {start} {count} file name {full} {l} {es} {s} {g} {t} {l'} q z f L =
    rw (ap (λ (x : Localing). x.found) same, ap (λ (x : Localing). x.taken) same, ap (λ (x : Localing). x.locals) same)
    (go (find_name name s.locals) refl)
  where
    same : localing g t l' ≡ define_context_by (find_name name s.locals) 0 count file name l
    same = q ∙ rw (z, find_context_law name L)

    go : (o : Option ℕ) → find_name name s.locals ≡ o
        → (let x = define_context_by o 0 count file name l in Defines start count file name l es s x.found x.taken x.locals)
    go (some i) e = there e
    go none e =
        let G = took_law {full = 0} {entry = file ∷ name ∷ 0 ∷ 0 ∷ []} (record { reply = refl; words = refl }) refl f in
        new e G (grown_locals file name f L G)

-- with the mark set nothing changes
pub define_context_full : (start count file name : ℕ) {full : ℕ} {l : List ℕ} → (full ≡ 0 → ⊥)
    → define_context_c full start count file name l ≡ localing None (taken full count) l
unfolding define_context_c
define_context_full start count file name {full} ne = rw (ne_eqb full 0 ne)

-- `set_value`: a word of an entry that is in use is there
word_there : {l : List ℕ} {es : Entries} {n : ℕ} → Filled 4 l es n → (i k v : ℕ) → i < n → k < 4 → write_word 4 i k v l ≡ set l (i * 4 + k) v
word_there {l} {es} {n} f i k v h q =
    let whole : i * 4 + 4 ≤ length l = room_fits 4 i (length l) (less h f.room) in
    rw (lt-ltb k 4 q, lt-ltb (i * 4 + k) (length l) (omega arith))
  where
    less : {a b c : ℕ} → a < b → b ≤ c → a < c
    less p r = omega arith

pub set_value_law : {full count : ℕ} (i constant : ℕ) {l l' : List ℕ} {es : Entries} → l' ≡ set_value_c full count i constant l → full ≡ 0 → i < count
    → Filled 4 l es count → Filled 4 l' (set es i (set (set (get_or es i []) 2 1) 3 constant)) count
unfolding set_value_c
set_value_law {full} {count} i constant {l} {l'} {es} q z h f =
    rw (words, ← twice) (filled_set i 3 constant h (omega arith) (filled_set i 2 1 h (omega arith) f))
  where
    first : List ℕ
    first = set (get_or es i []) 2 1

    once : Filled 4 (set l (i * 4 + 2) 1) (set es i first) count
    once = filled_set i 2 1 h (omega arith) f

    words : l' ≡ set (set l (i * 4 + 2) 1) (i * 4 + 3) constant
    words =
        q ∙ rw (eq-eqb full 0 z, lt-ltb i count h) (ap (λ (x : List ℕ). write_word 4 i 3 constant x) (word_there f i 2 1 h (omega arith))
        ∙ word_there once i 3 constant h (omega arith))

    twice : set (set es i first) i (set (get_or (set es i first) i []) 3 constant) ≡ set es i (set first 3 constant)
    twice = rw (get_or-set_same es i first [] (omega (arith, f.count))) (set-set es i first (set first 3 constant))

-- and no name changes
word_beside : (i k v : ℕ) (l : List ℕ) (j : ℕ) → (j * 4 + 1 ≡ i * 4 + k → ⊥) → get_or (write_word 4 i k v l) (j * 4 + 1) 0 ≡ get_or l (j * 4 + 1) 0
word_beside i k v l j h = go (word_fits 4 i k (length l))
  where
    go : (b : Bool) → get_or (cond b (set l (i * 4 + k) v) l) (j * 4 + 1) 0 ≡ get_or l (j * 4 + 1) 0
    go true = get_or-set_other l (i * 4 + k) (j * 4 + 1) v 0 h
    go false = refl

names_stay : (full count i constant : ℕ) (l : List ℕ) (j : ℕ) → entry_word 4 j 1 (set_value_c full count i constant l) ≡ entry_word 4 j 1 l
unfolding set_value_c
names_stay full count i constant l j = go (eqb full 0) (ltb i count)
  where
    go : (a b : Bool) → entry_word 4 j 1 (cond a (cond b (write_word 4 i 3 constant (write_word 4 i 2 1 l)) l) l) ≡ entry_word 4 j 1 l
    go false b = refl
    go true false = refl
    go true true = word_beside i 3 constant (write_word 4 i 2 1 l) j (λ e. omega arith) ∙ word_beside i 2 1 l j (λ e. omega arith)

pub set_value_locals : (full : ℕ) {start count : ℕ} (i constant : ℕ) {l l' : List ℕ} {s : CompilerState} → l' ≡ set_value_c full count i constant l
    → LocalsHeld start count l s → LocalsHeld start count l' s
set_value_locals full {start} {count} i constant {l} {l'} {s} q L = record {
  up_to = L.up_to;
  each = λ j h. L.each j h ∙ ap (λ (x : ℕ). entry_of x (start + j)) (sym (rw q (names_stay full count i constant l (start + j))));
}

-- `add_function`: its entry is the definition's, where the locals' number stands in 64 bits
pub function_words : {earlier : Entries} {m : Machine} {w : Work} → Contents earlier m w → w.function.header.local_count < 2 ^ 64 → (file name : ℕ)
    → function_state_words m.state file name ≡ function_entry (length earlier) (record { state = w.function; name = name; file = file })
function_words {earlier} {m} {w} C small file name =
    rw (C.parameters, locals, C.rescue, C.is_instance, code, C.base)
  where
    locals : m.state.local_count ≡ w.function.header.local_count
    locals = C.locals ∙ omega arith

    code : m.state.code - m.state.base ≡ length w.function.code.instructions
    code = omega (
      arith,
      C.code.count,
      C.base,
      length-append earlier (code_entries w.function.code.instructions w.function.code.positions),
      code_length w.function.code.instructions w.function.code.positions C.sized,
    )

pub add_function_law : {full count : ℕ} (s : struct.FunctionState) (file name : ℕ) {l : List ℕ} {es : Entries} {t : Taken} {l' : List ℕ}
    → Took functions_area full count (function_state_words s file name) l t l' → full ≡ 0 → Filled 8 l es count
    → Grown functions_area count (function_state_words s file name) l es t l'
add_function_law s file name T z f = took_law T z f
