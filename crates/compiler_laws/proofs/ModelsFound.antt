-- One lemma for each way through `model_of`, over what its calls ensure. Words behind the entries are zeros, and kind 0 is no model. Assumes nothing.
use Prim.Native.Nat.{ℕ, zero, suc, ◌+◌, ◌-◌, ◌≤◌, ◌<◌}
use native.Mathlib.Omega.{arith}
use native.Mathlib.Decide.{dec_lt}
use mathlib.Core.Path.{◌≡◌, refl, sym, ap, subst, ◌∙◌}
use mathlib.Core.Bool.{Bool, true, false, cond}
use mathlib.Core.Option.{Option, none, some}
use mathlib.Core.List.{List, [], ◌∷◌, ◌++◌}
use lib.ListN.{length, get_or, length-append}
use lib.Seq.{get_or-append-add}
use lib.Dec.{eqb}
use borrow.Author.Tests.{eq-eqb, ne_eqb}
use Rattle.words.specs.Areas.{entry_field}
use Rattle.words.specs.Object.{Constant, constant_of, model_kind}
use Rattle.words.specs.Record.{token_at, value_at}
use Rattle.definition.specs.FunctionState.{Entry, find_name}
use Rattle.definition.specs.Book as book
use Rattle.definition.specs.Book.{Book, model_of, constant_at, get_local_value, push_book_error, find_model_index_by_local_name}
use Rattle.definition.specs.Program.{Entries, entries_from, local_words, local_entry, constant_entry, bit}
use Rattle.definition.specs.Within.{All, nil, ◌&◌}
use Rattle.definition_laws.proofs.Cells.{single_length, single_at}
use Rattle.std.specs.Prelude.{Some, None}
use Rattle.building.specs.Found.{Found, found_of, first_from, find_context_local_c}
use Rattle.building.specs.RepresentsMachine.{Filled}
use Rattle.building.proofs.Filling.{filled_field}
use Rattle.building.proofs.ContextLaws.{find_context_law}
use Rattle.compiler_laws.specs.declared.book.Book as struct
use Rattle.compiler_laws.specs.BookAreas.{BookAreas, BookContents}
use Rattle.compiler_laws.specs.BookSteps.{ErrorsDo}
use Rattle.compiler_laws.specs.ModelSteps.{model_at_c, FindsModel}
use Rattle.compiler_laws.proofs.MapEntries.{found_at, found_none, filled_past}

-- `model_of`
module _ (i : ℕ) (l k : List ℕ) {mark : ℕ} (first : mark ≡ entry_field 4 i 2 l) where
  pub model_none : (mark ≡ 1 → ⊥) → None ≡ found_of (model_at_c i l k)
  model_none ne = rw (← first, ne_eqb mark 1 ne)

  module _ (one : mark ≡ 1) {c kind : ℕ} (second : c ≡ entry_field 4 i 3 l) (third : kind ≡ entry_field 3 c 0 k) where
    pub model_other : (kind ≡ 5 → ⊥) → None ≡ found_of (model_at_c i l k)
    model_other ne = rw (← first, eq-eqb mark 1 one, ← second, ← third, ne_eqb kind 5 ne)

    pub model_here : kind ≡ 5 → {value : ℕ} → value ≡ entry_field 3 c 1 k → Some value ≡ found_of (model_at_c i l k)
    model_here q fourth = rw (← first, eq-eqb mark 1 one, ← second, ← third, eq-eqb kind 5 q, ← fourth)

-- a context local's mark and value
no_value : (n i : ℕ) {vs : List Entry} → n ≤ i → All (λ (e : Entry). e.name < n) vs → find_name i vs ≡ none
no_value n i h nil = refl
no_value n i h (◌&◌ {x = e} {xs = vs} p ps) = rw (ne_eqb e.name i (λ q. omega arith), no_value n i h ps)

local_word : {l : List ℕ} {n : ℕ} (stood : Entries) (vs ns : List Entry) → Filled 4 l (stood ++ entries_from (local_entry vs) (length stood) ns) n
    → All (λ (e : Entry). e.name < length stood + length ns) vs → (i k : ℕ) → length stood ≤ i → k < 4
    → ((o : Option ℕ) (file name : ℕ) → get_or (local_words o file name) k 0 ≡ get_or (local_words o 0 0) k 0) → get_or (local_words none 0 0) k 0 ≡ 0
    → entry_field 4 i k l ≡ get_or (local_words (find_name i vs) 0 0) k 0
local_word {l} {n} stood vs ns f valued i k past q apart zero' = go (dec_lt i (length stood + length ns))
  where
    words : ℕ → Entry → List ℕ
    words j x = local_words (find_name j vs) x.index x.name

    es : Entries
    es = entries_from (local_entry vs) (length stood) ns

    many : n ≡ length stood + length ns
    many = f.count ∙ length-append stood es ∙ ap (λ (m : ℕ). length stood + m) (single_length words (length stood) ns)

    go : Dec (i < length stood + length ns) → entry_field 4 i k l ≡ get_or (local_words (find_name i vs) 0 0) k 0
    go (yes h) =
        let nobody : Entry = record { name = 0; index = 0 } in
        let j = i - length stood in
        let there : length stood + j ≡ i = omega arith in
        let entry : get_or (stood ++ es) i [] ≡ words i (get_or ns j nobody) =
        subst (λ (m : ℕ). get_or (stood ++ es) m [] ≡ words m (get_or ns j nobody)) there
        (get_or-append-add stood es j [] ∙ single_at words (length stood) ns j nobody (omega arith)) in
        filled_field i k (omega arith) (omega (arith, many)) q f
        ∙ ap (λ (e : List ℕ). get_or e k 0) entry
        ∙ apart (find_name i vs) (get_or ns j nobody).index (get_or ns j nobody).name
    go (no h) =
        filled_past f i k (omega arith) q (omega (arith, many))
        ∙ sym (ap (λ (o : Option ℕ). get_or (local_words o 0 0) k 0) (no_value (length stood + length ns) i (omega arith) valued) ∙ zero')

-- a constant's model
constant_at_lem : (cs : List Constant) (c : ℕ) → c < length cs → constant_at cs c ≡ some (get_or cs c (constant_of 0 0))
constant_at_lem [] c h = absurd (omega arith)
constant_at_lem (x ∷ cs) zero h = refl
constant_at_lem (x ∷ cs) (suc c) h = constant_at_lem cs c (omega arith)

constant_past : (cs : List Constant) (c : ℕ) → length cs ≤ c → constant_at cs c ≡ none
constant_past [] c h = refl
constant_past (x ∷ cs) zero h = absurd (omega arith)
constant_past (x ∷ cs) (suc c) h = constant_past cs c (omega arith)

constant_model : {k : List ℕ} {n : ℕ} (gs : List ℕ) (cs : List Constant) → Filled 3 k (entries_from (constant_entry gs) 0 cs) n → (c : ℕ)
    → cond (eqb (entry_field 3 c 0 k) model_kind) (some (entry_field 3 c 1 k)) none ≡ model_of (constant_at cs c)
constant_model {k} {n} gs cs f c = go (dec_lt c (length cs))
  where
    many : n ≡ length cs
    many = f.count ∙ single_length (λ i x. x.kind ∷ x.value ∷ bit (book.has_text i gs) ∷ []) 0 cs

    at : c < length cs → (j : ℕ) → j < 3
        → entry_field 3 c j k ≡ get_or ((get_or cs c (constant_of 0 0)).kind ∷ (get_or cs c (constant_of 0 0)).value ∷ bit (book.has_text (0 + c) gs) ∷ []) j 0
    at h j q =
        filled_field c j (omega arith) (omega (arith, many)) q f
        ∙ ap (λ (e : List ℕ). get_or e j 0) (single_at (λ i x. x.kind ∷ x.value ∷ bit (book.has_text i gs) ∷ []) 0 cs c (constant_of 0 0) h)

    go : Dec (c < length cs) → cond (eqb (entry_field 3 c 0 k) model_kind) (some (entry_field 3 c 1 k)) none ≡ model_of (constant_at cs c)
    go (yes h) = rw (at h 0 (omega arith), at h 1 (omega arith), constant_at_lem cs c h)
    go (no h) = rw (filled_past f c 0 (omega arith) (omega arith) (omega (arith, many)), constant_past cs c (omega arith))

-- a search finds nothing before it starts
first_past : (test : ℕ → Bool) (n from i : ℕ) → first_from test n from ≡ some i → from ≤ i
unfolding first_from
first_past test zero from i q = absurd (let z : ◌≡◌ {A = ℕ} 0 1 = cc in omega arith)
first_past test (suc n) from i q = go (test from) (λ r. omega (arith, first_past test n (from + 1) i r)) q
  where
    go : (b : Bool) → (first_from test n (from + 1) ≡ some i → from ≤ i) → cond b (some from) (first_from test n (from + 1)) ≡ some i → from ≤ i
    go true r q = let z : from ≡ i = cc in omega arith
    go false r q = r q

pub model_law : {ps : List ℕ} {m : BookAreas} {w : Book} (name : ℕ) → BookContents ps m w → (i : ℕ)
    → find_context_local_c m.book.first_local m.book.locals name m.locals ≡ some i
    → model_at_c i m.locals m.constants ≡ model_of (get_local_value i w.context)
model_law {ps} {m} {w} name S i found =
    let past : length w.context.prior.locals ≤ i = omega (arith, S.first_local, first_past _ _ _ i found) in
    rw (
      local_word w.context.prior.locals w.context.locals.values w.context.locals.names S.locals S.valued i 2 past
          (omega arith) apart2 refl,
      local_word w.context.prior.locals w.context.locals.values w.context.locals.names S.locals S.valued i 3 past
          (omega arith) apart3 refl,
    )
    (go (find_name i w.context.locals.values))
  where
    apart2 : (o : Option ℕ) (file name : ℕ) → get_or (local_words o file name) 2 0 ≡ get_or (local_words o 0 0) 2 0
    apart2 none file name = refl
    apart2 (some c) file name = refl

    apart3 : (o : Option ℕ) (file name : ℕ) → get_or (local_words o file name) 3 0 ≡ get_or (local_words o 0 0) 3 0
    apart3 none file name = refl
    apart3 (some c) file name = refl

    go : (o : Option ℕ)
        → cond (eqb (get_or (local_words o 0 0) 2 0) 1) (cond (eqb (entry_field 3 (get_or (local_words o 0 0) 3 0) 0 m.constants) model_kind)
        (some (entry_field 3 (get_or (local_words o 0 0) 3 0) 1 m.constants)) none) none
        ≡ model_of (book.value_at o w.context.pool.constants)
    go none = refl
    go (some c) = constant_model w.context.pool.globals w.context.pool.constants S.constants c

-- the context local of a name
local_is : {ps : List ℕ} {m : BookAreas} {w : Book} {name v : ℕ} → name ≡ v → BookContents ps m w → {o : Option ℕ}
    → find_context_local_c m.book.first_local m.book.locals name m.locals ≡ o → find_name v w.compiler.locals ≡ o
local_is {name = name} value S q = rw (← value) (sym (find_context_law name S.named) ∙ q)

-- `find_model`
module _ {tree : List ℕ} {at : ℕ} {s : struct.Book} {l k e : List ℕ} where
  module _ (z : s.full ≡ 0) {name : ℕ} (value : name ≡ value_at tree at) {g : Found}
      (searched : g ≡ found_of (find_context_local_c s.first_local s.locals name l)) where
    pub find_lost : g ≡ None → {s' : struct.Book} {e' : List ℕ} → ErrorsDo s e s' e' (push_book_error 10 (token_at tree at))
        → FindsModel tree at s l k e None s' e'
    unfolding find_model_index_by_local_name
    find_lost lost E = record {
      seeks = λ c f m p t u n b. record {
        meets = λ κ ps w H. rw (local_is value (H.rest z) (found_none (find_context_local_c s.first_local s.locals name l) searched lost))
            ((E.simulates c k f m p t l u n b).meets κ ps w H);
        sought = λ κ ps w H q. rw (local_is value (H.rest z) (found_none (find_context_local_c s.first_local s.locals name l) searched lost));
      };
    }

    module _ {i : ℕ} (at_i : g ≡ Some i) {r : Found} (model : r ≡ found_of (model_at_c i l k)) where
      pub find_other : r ≡ None → {s' : struct.Book} {e' : List ℕ} → ErrorsDo s e s' e' (push_book_error 9 (token_at tree at))
          → FindsModel tree at s l k e None s' e'
      unfolding find_model_index_by_local_name
      find_other lost E = record {
        seeks = λ c f m p t u n b. record {
          meets = λ κ ps w H. rw (
            local_is value (H.rest z) (found_at (find_context_local_c s.first_local s.locals name l) searched at_i),
            ← model_law name (H.rest z) i (found_at (find_context_local_c s.first_local s.locals name l) searched at_i),
            found_none (model_at_c i l k) model lost,
          ) ((E.simulates c k f m p t l u n b).meets κ ps w H);
          sought = λ κ ps w H q. rw (
            local_is value (H.rest z) (found_at (find_context_local_c s.first_local s.locals name l) searched at_i),
            ← model_law name (H.rest z) i (found_at (find_context_local_c s.first_local s.locals name l) searched at_i),
            found_none (model_at_c i l k) model lost,
          );
        };
      }

      pub find_there : {j : ℕ} → r ≡ Some j → FindsModel tree at s l k e r s e
      unfolding find_model_index_by_local_name
      find_there {j} at_j = record {
        seeks = λ c f m p t u n b. record {
          meets = λ κ ps w H. rw (
            local_is value (H.rest z) (found_at (find_context_local_c s.first_local s.locals name l) searched at_i),
            ← model_law name (H.rest z) i (found_at (find_context_local_c s.first_local s.locals name l) searched at_i),
            found_at (model_at_c i l k) model at_j,
          ) H;
          sought = λ κ ps w H q. rw (
            local_is value (H.rest z) (found_at (find_context_local_c s.first_local s.locals name l) searched at_i),
            ← model_law name (H.rest z) i (found_at (find_context_local_c s.first_local s.locals name l) searched at_i),
            found_at (model_at_c i l k) model at_j,
          ) at_j;
        };
      }
