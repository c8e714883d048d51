-- The names of area 9 and the definition's scopes: a search of a scope's entries, the newest first, is `find_name`, and one of all live entries is
-- `find_scopes`; entries are those of the scopes around, then the innermost's. By induction over a scope and over the scopes. Assumes nothing.
use Rattle.std.proofs.Common.{◌≡◌, ℕ, zero, suc, ◌+◌, ◌%◌, ◌^◌, ◌<◌, Bool, true, false, cond, eqb, List, [], ◌∷◌, ◌++◌, length, get_or, sym, refl, ap, ◌∙◌}
use Rattle.std.proofs.Common.{append_assoc, suc-add, zero-add, arith, length-append, get_or-append-add}
use mathlib.Core.Option.{Option, none, some}
use lib.Seq.{get_or_at}
use Rattle.words.specs.Areas.{entry_field}
use Rattle.definition.specs.FunctionState.{Entry, find_name, find_scopes, or_else, tail, innermost, insert_name}
use Rattle.definition.specs.Uses.{total}
use Rattle.definition.specs.Program.{Entries}
use Rattle.definition.specs.Within.{nil, ◌&◌}
use Rattle.definition_laws.proofs.Lists.{all_append}
use Rattle.definition_laws.proofs.Cells.{Wide}
use Rattle.building.specs.Found.{find_newest, wrapped}
use Rattle.building.specs.RepresentsMachine.{Filled, name_entry, oldest_first, name_entries, is_open}
use Rattle.building.proofs.Filling.{filled_field, oldest_length, names_length}

-- entries and their width
oldest_wide : (es : List Entry) → Wide 2 (oldest_first es)
oldest_wide [] = nil
oldest_wide (e ∷ es) = all_append (oldest_wide es) (refl & nil)

pub names_wide : (ss : List (List Entry)) → Wide 2 (name_entries ss)
names_wide [] = nil
names_wide (s ∷ ss) = all_append (names_wide ss) (oldest_wide s)

-- the scopes around, then the innermost
pub names_split : (ss : List (List Entry)) → name_entries ss ≡ name_entries (tail ss) ++ oldest_first (innermost ss)
names_split [] = refl
names_split (s ∷ ss) = refl

pub total_split : (ss : List (List Entry)) → total ss ≡ total (tail ss) + length (innermost ss)
total_split [] = refl
total_split (s ∷ ss) = omega arith

-- a name more in the innermost scope
module _ (e : Entry) where
  pub names_insert : (ss : List (List Entry)) → is_open ss ≡ true → name_entries (insert_name e ss) ≡ name_entries ss ++ (name_entry e ∷ [])
  names_insert [] q = absurd (let z : ◌≡◌ {A = ℕ} 0 1 = cc in omega arith)
  names_insert (s ∷ ss) q = sym (append_assoc (name_entries ss) (oldest_first s) (name_entry e ∷ []))

  pub total_insert : (ss : List (List Entry)) → is_open ss ≡ true → total (insert_name e ss) ≡ total ss + 1
  total_insert [] q = absurd (let z : ◌≡◌ {A = ℕ} 0 1 = cc in omega arith)
  total_insert (s ∷ ss) q = omega arith

  pub tail_insert : (ss : List (List Entry)) → tail (insert_name e ss) ≡ tail ss
  tail_insert [] = refl
  tail_insert (s ∷ ss) = refl

-- an answer of two searches
cond_wrapped : (b : Bool) (i : ℕ) (o : Option ℕ) → cond b (some (i % 2 ^ 64)) (wrapped o) ≡ wrapped (cond b (some i) o)
cond_wrapped true i o = refl
cond_wrapped false i o = refl

else_wrapped : (o p : Option ℕ) → or_else (wrapped o) (wrapped p) ≡ wrapped (or_else o p)
else_wrapped (some i) p = refl
else_wrapped none p = refl

cond_else : (b : Bool) (i : ℕ) (o p : Option ℕ) → cond b (some i) (or_else o p) ≡ or_else (cond b (some i) o) p
cond_else true i o p = refl
cond_else false i o p = refl

-- the newer k entries first, then the m older ones
newest_parts : (k m i name : ℕ) (w : List ℕ) → find_newest (k + m) i name w ≡ or_else (find_newest k (i + m) name w) (find_newest m i name w)
unfolding find_newest
newest_parts zero m i name w = rw (zero-add m)
newest_parts (suc k) m i name w =
    let e : i + (k + m) ≡ i + m + k = omega arith in
    rw (suc-add k m, e, newest_parts k m i name w) (cond_else (eqb (entry_field 2 (i + m + k) 0 w) name) _ _ _)

-- the entries from entry i on are a scope's, the oldest first
data Shows (w : List ℕ) (i : ℕ) : List Entry → Type 0 where
  shown : Shows w i []
  newest : {e : Entry} {es : List Entry} → entry_field 2 (i + length es) 0 w ≡ e.name → entry_field 2 (i + length es) 1 w ≡ e.index % 2 ^ 64
      → Shows w i es → Shows w i (e ∷ es)

scope_found : (name : ℕ) {w : List ℕ} {i : ℕ} {s : List Entry} → Shows w i s → find_newest (length s) i name w ≡ wrapped (find_name name s)
unfolding find_newest
scope_found name shown = refl
scope_found name (newest {e = e} {es = es} p q h) =
    rw (p, q, scope_found name h) (cond_wrapped (eqb e.name name) e.index (find_name name es))

shows : {l : List ℕ} {n : ℕ} (pre : Entries) (s : List Entry) (post : Entries) → Filled 2 l (pre ++ (oldest_first s ++ post)) n → Shows l (length pre) s
shows pre [] post f = shown
shows {l} {n} pre (e ∷ s) post f =
    let g : Filled 2 l (pre ++ (oldest_first s ++ (name_entry e ∷ post))) n = rw (append_assoc (oldest_first s) (name_entry e ∷ []) post) at f in
    let here : get_or (pre ++ (oldest_first s ++ (name_entry e ∷ post))) (length pre + length s) [] ≡ name_entry e =
    get_or-append-add pre (oldest_first s ++ (name_entry e ∷ post)) (length s) []
    ∙ get_or_at (oldest_first s) (name_entry e) post [] (length s) (oldest_length s) in
    let before : length pre + length s < n =
    omega (
      arith,
      g.count,
      length-append pre (oldest_first s ++ (name_entry e ∷ post)),
      length-append (oldest_first s) (name_entry e ∷ post),
      oldest_length s,
    ) in
    newest (filled_field (length pre + length s) 0 (omega arith) before (omega arith) g ∙ ap (λ (x : List ℕ). get_or x 0 0) here)
    (filled_field (length pre + length s) 1 (omega arith) before (omega arith) g ∙ ap (λ (x : List ℕ). get_or x 1 0) here)
    (shows pre s (name_entry e ∷ post) g)

-- the search of a scope's entries, with the scopes around before them
pub found_in_scope : (name : ℕ) {l : List ℕ} {n : ℕ} (ss : List (List Entry)) (s : List Entry) (post : Entries)
    → Filled 2 l (name_entries ss ++ (oldest_first s ++ post)) n → find_newest (length s) (total ss) name l ≡ wrapped (find_name name s)
found_in_scope name ss s post f = scope_found name (rw (names_length ss) at (shows (name_entries ss) s post f))

-- the search of all
pub found_in_scopes : (name : ℕ) {l : List ℕ} {n : ℕ} (ss : List (List Entry)) (post : Entries)
    → Filled 2 l (name_entries ss ++ post) n → find_newest (total ss) 0 name l ≡ wrapped (find_scopes name ss)
unfolding find_newest
found_in_scopes name [] post f = refl
found_in_scopes name {l} {n} (s ∷ ss) post f =
    let g : Filled 2 l (name_entries ss ++ (oldest_first s ++ post)) n = rw (append_assoc (name_entries ss) (oldest_first s) post) at f in
    newest_parts (length s) (total ss) 0 name l
    ∙ rw (zero-add (total ss), found_in_scope name ss s post g, found_in_scopes name ss (oldest_first s ++ post) g)
    (else_wrapped (find_name name s) (find_scopes name ss))
