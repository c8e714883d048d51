-- Areas that hold entries and then zeros, at any width: an entry more, the last ones given up, a word set anew, a word read; what one note more makes
-- of the first full area; and that under `Contents` every count that a step notes is within its limit. By splitting the area at its entries, and by
-- induction over the entries. Assumes nothing.
use Rattle.std.proofs.Common.{◌≡◌, ℕ, zero, suc, ◌+◌, ◌-◌, ◌*◌, ◌/◌, ◌<◌, ◌≤◌, List, [], ◌∷◌, ◌++◌, length, get_or, drop, set, replicate, sym, refl, ap, ◌∙◌}
use Rattle.std.proofs.Common.{append_assoc, append-nil, mul-le-mul_right, suc-mul, suc-add, zero-add, zero-mul, div-mul-le_self, arith, length-append}
use Rattle.std.proofs.Common.{length-drop, length-set, length-take, drop_at, le-ltb, lt-ltb, le-leb}
use native.Mathlib.Nat.{sub-zero, zero-sub, suc-sub-suc}
use mathlib.Core.Option.{Option, none, some}
use lib.ListN.{length-replicate, replicate-append-replicate}
use lib.Seq.{sets, length-sets, take-append_seam, drop-append-add, set-append_left}
use Rattle.words.specs.Areas.{entries_in, set_entry, entry_field, code_area, constants_area, scope_names_area, breaks_area, errors_area}
use Rattle.words.proofs.Entries.{field_in}
use Rattle.definition.specs.FunctionState.{Entry, FunctionState, or_else}
use Rattle.definition.specs.Uses.{Use, Limits, limit_of, over_by, first_over, total}
use Rattle.definition.specs.Compiler.{Work, with_function}
use Rattle.definition.specs.Program.{Entries, flat, filled, code_entries, bit}
use Rattle.definition.specs.Book.{has_text}
use Rattle.definition.specs.Within.{All, nil, ◌&◌}
use Rattle.definition_laws.proofs.Lists.{all_append, all_set}
use Rattle.definition_laws.proofs.Cells.{Wide, all_at, flat_length, filled_word, single_length}
use Rattle.words.specs.Opcode.{Instruction}
use Rattle.building.specs.Taking.{given_up}
use Rattle.building.specs.RepresentsMachine.{Machine, Filled, name_entry, oldest_first, name_entries, break_entry, break_entries, Contents, Marks, unmarked}
use Rattle.building.specs.RepresentsMachine.{marked}
use Rattle.building.specs.RepresentsMachine.{Sized, RepresentsMachine}

-- lists

pub flat_append : (xs ys : Entries) → flat (xs ++ ys) ≡ flat xs ++ flat ys
flat_append [] ys = refl
flat_append (x ∷ xs) ys = ap (λ (l : List ℕ). x ++ l) (flat_append xs ys) ∙ sym (append_assoc x (flat xs) (flat ys))

pub drop_zeros : (k z : ℕ) → drop {A = ℕ} k (replicate z 0) ≡ replicate (z - k) 0
drop_zeros zero z = rw (sub-zero z)
drop_zeros (suc k) zero = rw (zero-sub (suc k))
drop_zeros (suc k) (suc z) = rw (suc-sub-suc z k) (drop_zeros k z)

pub set_append_add : {A : Type 0} (xs ys : List A) (i : ℕ) (v : A) → set (xs ++ ys) (length xs + i) v ≡ xs ++ set ys i v
set_append_add [] ys i v = rw (zero-add i)
set_append_add {A} (x ∷ xs) ys i v = rw (suc-add (length xs) i) (ap (λ (l : List A). x ∷ l) (set_append_add xs ys i v))

pub all_front : {A : Type 0} {P : A → Type 0} (xs ys : List A) → All P (xs ++ ys) → All P xs
all_front [] ys ps = nil
all_front (x ∷ xs) ys (p & ps) = p & all_front xs ys ps

sets_cons : (x : ℕ) (l : List ℕ) (i : ℕ) (vs : List ℕ) → sets (x ∷ l) (suc i) vs ≡ x ∷ sets l i vs
sets_cons x l i [] = refl
sets_cons x l i (v ∷ vs) = sets_cons x (set l i v) (suc i) vs

sets_front : (xs l vs : List ℕ) → sets (xs ++ l) (length xs) vs ≡ xs ++ sets l 0 vs
sets_front [] l vs = refl
sets_front (x ∷ xs) l vs = sets_cons x (xs ++ l) (length xs) vs ∙ ap (λ (r : List ℕ). x ∷ r) (sets_front xs l vs)

sets_over : (ys zs vs : List ℕ) → length vs ≡ length ys → sets (ys ++ zs) 0 vs ≡ vs ++ zs
sets_over [] zs [] e = refl
sets_over [] zs (v ∷ vs) e = absurd (omega arith)
sets_over (y ∷ ys) zs [] e = absurd (omega arith)
sets_over (y ∷ ys) zs (v ∷ vs) e = sets_cons v (ys ++ zs) 0 vs ∙ ap (λ (r : List ℕ). v ∷ r) (sets_over ys zs vs (omega arith))

-- a run of stores in the middle
pub sets_middle : (xs ys zs vs : List ℕ) → length vs ≡ length ys → sets (xs ++ (ys ++ zs)) (length xs) vs ≡ xs ++ (vs ++ zs)
sets_middle xs ys zs vs e = sets_front xs (ys ++ zs) vs ∙ ap (λ (r : List ℕ). xs ++ r) (sets_over ys zs vs e)

-- the area

-- where there is room for one more entry, its words are there
pub room_fits : (width i n : ℕ) → i < entries_in width n → i * width + width ≤ n
room_fits width i n h =
    let q : suc i ≤ n / width = omega arith in
    omega (arith, mul-le-mul_right width q, div-mul-le_self n width, suc-mul i width)

pub set_entry_length : (width i : ℕ) (entry l : List ℕ) → length entry ≡ width → i * width + width ≤ length l
    → length (set_entry width i entry l) ≡ length l
set_entry_length width i entry l e h = simp (length-append, length-take, length-drop) (omega arith)

pub filled_at : {width : ℕ} {l : List ℕ} {es : Entries} {n : ℕ} → Filled width l es n → length (flat es) ≡ n * width
filled_at {width} f = flat_length width f.wide ∙ ap (λ (k : ℕ). k * width) (sym f.count)

-- an entry more
pub filled_more : {width : ℕ} {l : List ℕ} {es : Entries} {n : ℕ} (entry : List ℕ) → length entry ≡ width → n < entries_in width (length l)
    → Filled width l es n → Filled width (set_entry width n entry l) (es ++ (entry ∷ [])) (n + 1)
filled_more {width} {l} {es} {n} entry e h f = record {
  zeros = f.zeros - width;
  is = rw (f.is, ← filled_at f, take-append_seam, drop-append-add, drop_zeros, flat_append) (simp (append-nil, append_assoc));
  count = simp length-append (omega (arith, f.count));
  wide = all_append f.wide (e & nil);
  room = rw (set_entry_length width n entry l e (room_fits width n (length l) h)) (omega arith);
}

-- the last entry given up
pub filled_back : {width : ℕ} {l : List ℕ} (es : Entries) (x : List ℕ) {n : ℕ} → Filled width l (es ++ (x ∷ [])) n
    → Wide width es → length x ≡ width → Filled width (set_entry width (length es) (replicate width 0) l) es (length es)
filled_back {width} {l} es x {n} f ws e = record {
  zeros = width + f.zeros;
  is = rw (split, ← flat_length width ws, take-append_seam, drop-append-add, drop_at x (replicate f.zeros 0) width e)
      (simp (replicate-append-replicate));
  count = refl;
  wide = ws;
  room = rw (set_entry_length width (length es) (replicate width 0) l (length-replicate width 0) fits)
      (omega (arith, f.count, f.room, length-append es (x ∷ [])));
}
  where
    split : l ≡ flat es ++ (x ++ replicate f.zeros 0)
    split = f.is ∙ simp (flat_append, append-nil, append_assoc)

    fits : length es * width + width ≤ length l
    fits = room_fits width (length es) (length l) (omega (arith, f.count, f.room, length-append es (x ∷ [])))

-- the last entries given up
pub filled_less : {width : ℕ} {l : List ℕ} (es fs : Entries) {n : ℕ} → width ≤ 8 → Wide width es → Filled width l (es ++ fs) n
    → Filled width (given_up width (length es) n l) es (length es)
filled_less {width} {l} es fs {n} h ws f = rw (le-leb width 8 h) (record {
  zeros = length (flat fs) + f.zeros;
  is = rw (split, ← flat_length width ws, run, sets_middle (flat es) (flat fs) (replicate f.zeros 0) (replicate (length (flat fs)) 0) (length-replicate _ 0))
      (simp (replicate-append-replicate));
  count = refl;
  wide = ws;
  room = simp length-sets (omega (arith, f.count, f.room, length-append es fs));
})
  where
    split : l ≡ flat es ++ (flat fs ++ replicate f.zeros 0)
    split = f.is ∙ simp (flat_append, append_assoc)

    run : n * width - length (flat es) ≡ length (flat fs)
    run = omega (arith, filled_at f, ap length (flat_append es fs), length-append (flat es) (flat fs))

-- a word of an entry anew
flat_set : (width : ℕ) {es : Entries} → Wide width es → (rest : List ℕ) (i k v : ℕ) → i < length es → k < width
    → set (flat es ++ rest) (i * width + k) v ≡ flat (set es i (set (get_or es i []) k v)) ++ rest
flat_set width nil rest i k v h q = absurd (omega arith)
flat_set width (◌&◌ {x = e} {xs = es} w ws) rest zero k v h q =
    rw (append_assoc e (flat es) rest, zero-mul width, zero-add k, set-append_left e (flat es ++ rest) k v (omega arith))
    (sym (append_assoc (set e k v) (flat es) rest))
flat_set width (◌&◌ {x = e} {xs = es} w ws) rest (suc i) k v h q =
    let next : suc i * width + k ≡ length e + (i * width + k) = rw (suc-mul i width) (omega arith) in
    rw (append_assoc e (flat es) rest, next, set_append_add e (flat es ++ rest) (i * width + k) v, flat_set width ws rest i k v (omega arith) q)
    (sym (append_assoc e (flat (set es i (set (get_or es i []) k v))) rest))

pub filled_set : {width : ℕ} {l : List ℕ} {es : Entries} {n : ℕ} (i k v : ℕ) → i < n → k < width → Filled width l es n
    → Filled width (set l (i * width + k) v) (set es i (set (get_or es i []) k v)) n
filled_set {width} {l} {es} {n} i k v h q f = record {
  zeros = f.zeros;
  is = rw f.is (flat_set width f.wide (replicate f.zeros 0) i k v (omega (arith, f.count)) q);
  count = rw (length-set es i (set (get_or es i []) k v)) f.count;
  wide = all_set f.wide (length-set (get_or es i []) k v ∙ all_at f.wide i [] (omega (arith, f.count))) i;
  room = rw (length-set l (i * width + k) v) f.room;
}

-- a word of an entry
pub filled_field : {width : ℕ} {l : List ℕ} {es : Entries} {n : ℕ} (i k : ℕ) → width ≤ 8 → i < n → k < width → Filled width l es n
    → entry_field width i k l ≡ get_or (get_or es i []) k 0
filled_field {width} {l} {es} {n} i k h q r f =
    sym (field_in l width i k h r)
    ∙ ap (λ (x : List ℕ). get_or x (i * width + k) 0) whole
    ∙ filled_word width f.wide (length l) i k (omega (arith, f.count)) r
  where
    rest : length l - length (flat es) ≡ f.zeros
    rest = omega (arith, ap length f.is, length-append (flat es) (replicate f.zeros 0), length-replicate {A = ℕ} f.zeros 0)

    whole : l ≡ filled (length l) es
    whole = rw rest f.is

-- the first full area after one note more

module _ (κ : Limits) (u : Use) (us : List Use) where
  -- one before did not fit: it stays the first
  pub over_stays : {n : ℕ} → Marks (first_over κ us) n → (n ≡ 0 → ⊥) → Marks (first_over κ (u ∷ us)) n
  unfolding first_over
  over_stays m ne = go (first_over κ us) m ne
    where
      go : {n : ℕ} (o : Option ℕ) → Marks o n → (n ≡ 0 → ⊥) → Marks (or_else o (over_by κ u)) n
      go none unmarked ne = absurd (ne refl)
      go (some a) (marked h) ne = marked h

  -- all before did, and so does this one
  pub over_fits : {n : ℕ} → Marks (first_over κ us) n → n ≡ 0 → u.count ≤ limit_of κ u.area → Marks (first_over κ (u ∷ us)) n
  unfolding first_over
  over_fits m z h = go (first_over κ us) m z
    where
      go : {n : ℕ} (o : Option ℕ) → Marks o n → n ≡ 0 → Marks (or_else o (over_by κ u)) n
      go none unmarked z = rw (le-ltb (limit_of κ u.area) u.count h) unmarked
      go (some a) (marked p) z = absurd (omega arith)

  -- all before did, and this one does not
  pub over_here : {n : ℕ} → Marks (first_over κ us) n → n ≡ 0 → limit_of κ u.area < u.count → 0 < u.area → Marks (first_over κ (u ∷ us)) u.area
  unfolding first_over
  over_here m z h p = go (first_over κ us) m z
    where
      go : {n : ℕ} (o : Option ℕ) → Marks o n → n ≡ 0 → Marks (or_else o (over_by κ u)) u.area
      go none unmarked z = rw (lt-ltb (limit_of κ u.area) u.count h) (marked p)
      go (some a) (marked q) z = absurd (omega arith)

pub over_all : (κ : Limits) (new us : List Use) {n : ℕ} → Marks (first_over κ us) n → (n ≡ 0 → ⊥) → Marks (first_over κ (new ++ us)) n
over_all κ [] us m ne = m
over_all κ (u ∷ new) us m ne = over_stays κ u (new ++ us) (over_all κ new us m ne) ne

-- what is full stays, whatever the definition goes on to do and to note
pub held_full : {κ : Limits} {earlier : Entries} {m : Machine} {w : Work} (w' : Work) (new : List Use) → w'.uses ≡ new ++ w.uses
    → (m.state.full ≡ 0 → ⊥) → RepresentsMachine κ earlier m w → RepresentsMachine κ earlier m w'
held_full {κ} {earlier} {m} {w} w' new e ne H = record {
  code_cap = H.code_cap;
  constants_cap = H.constants_cap;
  names_cap = H.names_cap;
  breaks_cap = H.breaks_cap;
  errors_cap = H.errors_cap;
  full = rw e (over_all κ new w.uses H.full ne);
  rest = λ z. absurd (ne z);
}

-- the counts that are noted

pub code_length : (is : List Instruction) (ps : List ℕ) → length ps ≡ length is → length (code_entries is ps) ≡ length is
code_length [] ps h = refl
code_length (x ∷ xs) [] h = absurd (omega arith)
code_length (x ∷ xs) (p ∷ ps) h = ap suc (code_length xs ps (omega arith))

pub code_wide : (is : List Instruction) (ps : List ℕ) → Wide 2 (code_entries is ps)
code_wide [] ps = nil
code_wide (x ∷ xs) [] = nil
code_wide (x ∷ xs) (p ∷ ps) = refl & code_wide xs ps

pub oldest_length : (es : List Entry) → length (oldest_first es) ≡ length es
oldest_length [] = refl
oldest_length (e ∷ es) = length-append (oldest_first es) (name_entry e ∷ []) ∙ omega (arith, oldest_length es)

pub names_length : (ss : List (List Entry)) → length (name_entries ss) ≡ total ss
names_length [] = refl
names_length (s ∷ ss) = length-append (name_entries ss) (oldest_first s) ∙ omega (arith, names_length ss, oldest_length s)

pub break_length : (is : List ℕ) → length (break_entry is) ≡ length is
break_length [] = refl
break_length (i ∷ is) = ap suc (break_length is)

pub breaks_length : (ss : List (List ℕ)) → length (break_entries ss) ≡ total ss
breaks_length [] = refl
breaks_length (s ∷ ss) = length-append (break_entries ss) (break_entry s) ∙ omega (arith, breaks_length ss, break_length s)

-- every count within its limit
pub record Within (κ : Limits) (w : Work) : Type 0 where
  pub code : w.before + length w.function.code.instructions ≤ limit_of κ code_area
  pub constants : length w.context.constants ≤ limit_of κ constants_area
  pub names : total w.function.scopes ≤ limit_of κ scope_names_area
  pub breaks : total w.function.break_scopes ≤ limit_of κ breaks_area
  pub errors : length w.compiler.errors ≤ limit_of κ errors_area

-- the areas are as long as κ says
pub record Capped (κ : Limits) (m : Machine) : Type 0 where
  pub code : Sized κ code_area m.code
  pub constants : Sized κ constants_area m.constants
  pub names : Sized κ scope_names_area m.names
  pub breaks : Sized κ breaks_area m.breaks
  pub errors : Sized κ errors_area m.errors

pub capped : {κ : Limits} {earlier : Entries} {m : Machine} {w : Work} → RepresentsMachine κ earlier m w → Capped κ m
capped H = record { code = H.code_cap; constants = H.constants_cap; names = H.names_cap; breaks = H.breaks_cap; errors = H.errors_cap }

pub noted_within : {κ : Limits} {earlier : Entries} {m : Machine} {w : Work} → Capped κ m → Contents earlier m w → Within κ w
noted_within {κ} {earlier} {m} {w} K C = record {
  code = omega (
    arith,
    K.code,
    C.code.count,
    C.code.room,
    C.before,
    length-append earlier (code_entries w.function.code.instructions w.function.code.positions),
    code_length w.function.code.instructions w.function.code.positions C.sized,
  );
  constants = omega (
    arith,
    K.constants,
    C.constants.count,
    C.constants.room,
    single_length (λ i c. c.kind ∷ c.value ∷ bit (has_text i w.context.globals) ∷ []) 0 w.context.constants,
  );
  names = omega (arith, K.names, C.names.count, C.names.room, names_length w.function.scopes);
  breaks = omega (arith, K.breaks, C.breaks.count, C.breaks.room, breaks_length w.function.break_scopes);
  errors = omega (
    arith,
    K.errors,
    C.errors.count,
    C.errors.room,
    single_length (λ i e. e.number ∷ e.token.position ∷ e.token.kind ∷ e.token.value ∷ []) 0 w.compiler.errors,
  );
}

-- a step on the function: where nothing was full before and the areas hold the function after it, its three notes fit
pub held_step : {κ : Limits} {earlier : Entries} {m m' : Machine} {w : Work} (f : FunctionState) → RepresentsMachine κ earlier m w → m.state.full ≡ 0
    → m'.state.full ≡ 0 → Capped κ m' → Contents earlier m' (with_function f w) → RepresentsMachine κ earlier m' (with_function f w)
held_step {κ} {earlier} {m} {m'} {w} f H z z' K C = record {
  code_cap = K.code;
  constants_cap = K.constants;
  names_cap = K.names;
  breaks_cap = K.breaks;
  errors_cap = K.errors;
  full = rw z' (over_fits κ _ _ (over_fits κ _ _ (over_fits κ _ _ (rw z at H.full) refl W.code) refl W.names) refl W.breaks);
  rest = λ _. C;
}
  where
    W : Within κ (with_function f w)
    W = noted_within K C
