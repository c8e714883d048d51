-- The entries of area 7: a new local has no value yet, and a value set changes its own entry alone. By induction over the names and over the values.
-- Assumes nothing.
use Prim.Native.Nat.{ℕ, zero, suc, ◌+◌, ◌-◌, ◌≤◌, ◌<◌}
use native.Mathlib.Omega.{arith}
use mathlib.Core.Path.{◌≡◌, refl, sym, ap, subst, ◌∙◌}
use mathlib.Core.Bool.{Bool, true, false, cond}
use mathlib.Core.Option.{Option, none, some}
use mathlib.Core.List.{List, [], ◌∷◌, ◌++◌}
use lib.ListN.{length, get_or, set, length-append}
use lib.Seq.{get_or-append-add}
use lib.Dec.{eqb}
use borrow.Author.Tests.{eqb-true, eq-eqb, ne_eqb}
use Rattle.definition.specs.FunctionState.{Entry, find_name}
use Rattle.definition.specs.Book.{insert_entry}
use Rattle.definition.specs.Program.{Entries, entries_from, local_words, local_entry}
use Rattle.definition.specs.Within.{All, nil, ◌&◌}
use Rattle.building.proofs.Filling.{set_append_add}
use Rattle.building.proofs.PoolLaws.{entries_more}

-- no value, where all are of locals below
pub no_value : (n : ℕ) {vs : List Entry} → All (λ (e : Entry). e.name < n) vs → find_name n vs ≡ none
no_value n nil = refl
no_value n (◌&◌ {x = e} {xs = vs} h hs) = rw (ne_eqb e.name n (λ q. omega arith), no_value n hs)

-- a local more, where i stood before
pub locals_entries : (i : ℕ) (vs ns : List Entry) (e : Entry) → All (λ (v : Entry). v.name < i + length ns) vs
    → entries_from (local_entry vs) i (ns ++ (e ∷ [])) ≡ entries_from (local_entry vs) i ns ++ ((e.index ∷ e.name ∷ 0 ∷ 0 ∷ []) ∷ [])
locals_entries i vs ns e valued =
    entries_more (local_entry vs) i ns e ∙ ap (λ (x : Entries). entries_from (local_entry vs) i ns ++ x) (rw (no_value (i + length ns) valued))

pub valued_longer : (i : ℕ) (ns : List Entry) (e : Entry) {vs : List Entry} → All (λ (v : Entry). v.name < i + length ns) vs
    → All (λ (v : Entry). v.name < i + length (ns ++ (e ∷ []))) vs
valued_longer i ns e nil = nil
valued_longer i ns e (◌&◌ {x = v} h hs) =
    let longer : v.name < i + length (ns ++ (e ∷ [])) = omega (arith, length-append ns (e ∷ [])) in
    longer & valued_longer i ns e hs

-- a map's insert
pub insert_found : (e : Entry) (vs : List Entry) → find_name e.name (insert_entry e vs) ≡ some e.index
insert_found e [] = rw (eq-eqb e.name e.name refl)
insert_found e (v ∷ vs) = go (insert_found e vs) (eqb v.name e.name) refl
  where
    go : find_name e.name (insert_entry e vs) ≡ some e.index → (t : Bool) → eqb v.name e.name ≡ t
        → find_name e.name (cond t (e ∷ vs) (v ∷ insert_entry e vs)) ≡ some e.index
    go h true q = rw (eq-eqb e.name e.name refl)
    go h false q = rw q h

pub insert_other : (e : Entry) (vs : List Entry) (j : ℕ) → (e.name ≡ j → ⊥) → find_name j (insert_entry e vs) ≡ find_name j vs
insert_other e [] j ne = rw (ne_eqb e.name j ne)
insert_other e (v ∷ vs) j ne = go (insert_other e vs j ne) (eqb v.name e.name) refl
  where
    go : find_name j (insert_entry e vs) ≡ find_name j vs → (t : Bool) → eqb v.name e.name ≡ t
        → find_name j (cond t (e ∷ vs) (v ∷ insert_entry e vs)) ≡ find_name j (v ∷ vs)
    go h true q = let other : v.name ≡ j → ⊥ = λ y. ne (sym (eqb-true v.name e.name q) ∙ y) in rw (ne_eqb e.name j ne, ne_eqb v.name j other)
    go h false q = ap (λ (o : Option ℕ). cond (eqb v.name j) (some v.index) o) h

pub insert_all : {P : Entry → Type 0} {vs : List Entry} (e : Entry) → P e → All P vs → All P (insert_entry e vs)
insert_all e p nil = p & nil
insert_all {P} e p (◌&◌ {x = v} {xs = vs} q qs) = go (insert_all e p qs) (eqb v.name e.name)
  where
    go : All P (insert_entry e vs) → (t : Bool) → All P (cond t (e ∷ vs) (v ∷ insert_entry e vs))
    go h true = p & qs
    go h false = q & h

-- a value set
words_set : (o : Option ℕ) (file name constant : ℕ) → set (set (local_words o file name) 2 1) 3 constant ≡ local_words (some constant) file name
words_set none file name constant = refl
words_set (some c) file name constant = refl

values_past : (e : Entry) (vs : List Entry) (i : ℕ) (ns : List Entry) → e.name < i
    → entries_from (local_entry (insert_entry e vs)) i ns ≡ entries_from (local_entry vs) i ns
values_past e vs i [] h = refl
values_past e vs i (n ∷ ns) h = rw (insert_other e vs i (λ q. omega arith), values_past e vs (i + 1) ns (omega arith))

pub values_set : (vs : List Entry) (constant i j : ℕ) (ns : List Entry) → j < length ns
    → set (entries_from (local_entry vs) i ns) j (set (set (get_or (entries_from (local_entry vs) i ns) j []) 2 1) 3 constant)
    ≡ entries_from (local_entry (insert_entry (record { name = i + j; index = constant }) vs)) i ns
values_set vs constant i j [] h = absurd (omega arith)
values_set vs constant i zero (n ∷ ns) h =
    let here : i + 0 ≡ i = omega arith in
    rw (here, insert_found (record { name = i; index = constant }) vs, values_past (record { name = i + 0; index = constant }) vs (i + 1) ns (omega arith))
    (ap (λ (x : List ℕ). x ∷ entries_from (local_entry vs) (i + 1) ns) (words_set (find_name i vs) n.index n.name constant))
values_set vs constant i (suc j) (n ∷ ns) h =
    let next : i + suc j ≡ i + 1 + j = omega arith in
    let more : ℕ → Entries = λ (k : ℕ). entries_from (local_entry (insert_entry (record { name = k; index = constant }) vs)) (i + 1) ns in
    rw (insert_other (record { name = i + suc j; index = constant }) vs i (λ q. omega arith))
    (ap (λ (x : Entries). local_words (find_name i vs) n.index n.name ∷ x) (values_set vs constant (i + 1) j ns (omega arith) ∙ ap more (sym next)))

-- behind those that stood before
pub table_set : (stood : Entries) (vs ns : List Entry) (constant i : ℕ) → length stood ≤ i → i < length stood + length ns
    → set (stood ++ entries_from (local_entry vs) (length stood) ns) i
    (set (set (get_or (stood ++ entries_from (local_entry vs) (length stood) ns) i []) 2 1) 3 constant)
    ≡ stood ++ entries_from (local_entry (insert_entry (record { name = i; index = constant }) vs)) (length stood) ns
table_set stood vs ns constant i past h = subst Sets there (at (i - length stood) (omega arith))
  where
    es : Entries
    es = entries_from (local_entry vs) (length stood) ns

    Sets : ℕ → Type 0
    Sets n = set (stood ++ es) n (set (set (get_or (stood ++ es) n []) 2 1) 3 constant)
        ≡ stood ++ entries_from (local_entry (insert_entry (record { name = n; index = constant }) vs)) (length stood) ns

    there : length stood + (i - length stood) ≡ i
    there = omega arith

    at : (j : ℕ) → j < length ns → Sets (length stood + j)
    at j q =
        rw (get_or-append-add stood es j [], set_append_add stood es j (set (set (get_or es j []) 2 1) 3 constant))
        (ap (λ (x : Entries). stood ++ x) (values_set vs constant (length stood) j ns q))
