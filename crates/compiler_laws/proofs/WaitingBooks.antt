-- One lemma for each way through the routines that keep the books of area 12: those needed, the next that is ready, and its move behind those done.
-- Assumes nothing.
use Prim.Native.Nat.{ℕ, suc, ◌+◌, ◌-◌, ◌*◌, ◌/◌, ◌%◌, ◌≤◌, ◌<◌}
use native.Mathlib.Omega.{arith}
use native.Mathlib.Decide.{dec_lt, ℕ_discrete}
use native.Mathlib.Numerals.{add-one}
use native.Mathlib.Nat.{mul-one, add-zero}
use mathlib.Core.Path.{◌≡◌, refl, sym, ap, subst, ◌∙◌}
use mathlib.Core.Bool.{Bool, true, false, cond}
use mathlib.Core.Option.{Option, none, some}
use mathlib.Core.List.{List, [], ◌∷◌, ◌++◌, append_assoc}
use lib.ListN.{length, get_or, set as set', take, drop, length-set, length-append, take-append-drop}
use lib.Seq.{set_split, take-suc-set, drop-set-lt, set_at, get_or_at, get_or-set_other}
use lib.Dec.{eqb}
use borrow.Author.Tests.{eq-eqb, ne_eqb, lt-ltb, le-ltb, eqb-true}
use Rattle.words.specs.Ast.{Document}
use Rattle.words.specs.Record.{kind_at, value_at, most_records}
use Rattle.words.specs.Areas.{entries_in, entry_field, books_area, Patched}
use Rattle.tree.specs.At.{RunAt, run_size, DocumentAt, size_doc}
use Rattle.definition.specs.DependencySolver.{dependencies, dependencies_of, find_document, missing, missing_by, ready, all_in, without}
use Rattle.building.specs.declared.taking.Taken.{Taken}
use Rattle.building.specs.Taking.{Took, taken}
use Rattle.building.proofs.Filling.{room_fits}
use Rattle.compiler_laws.specs.InsideFunction.{skip_c}
use Rattle.compiler_laws.specs.FileSets.{set_size, bit_of, all_bits, SetIs, NextIn, Below, Ascends}
use Rattle.compiler_laws.specs.SolverSteps.{Bundle, place_of, FindsDocument, book_unit, place_unit, waiting, TakesBooks, AllIncluded, Grows, ReadTo}
use Rattle.compiler_laws.specs.SolverSteps.{FirstUncompiled}
use Rattle.compiler_laws.specs.SolverSteps.{Waits, AllWait, Stands, Ready, NoneReady, FindsReady, Brings, Skips, Lowers, FindsNext}
use Rattle.compiler_laws.proofs.Tokens.{skip_law}
use Rattle.compiler_laws.proofs.FileLists.{all_bits_lem, grows_same, found_below}
use Rattle.compiler_laws.proofs.NextNumbers.{SetFrom, set_from, next_some, next_none}
use Rattle.compiler_laws.proofs.DocumentsRead.{bundle_first, bundle_next, bundle_past, bundle_none, bundle_rest, bundle_fits, defs_end, defs_other}
use Rattle.compiler_laws.proofs.DocumentsRead.{defs_more}

-- a document from a place on
module _ (tree : List ℕ) (i end n : ℕ) where
  find_end : end ≤ i → i ≤ end → FindsDocument tree i end n i
  find_end past in' = record { inside = in'; finds = go }
    where
      go : (ds : List Document) → Bundle ds tree i end → i ≡ place_of n i ds
      go [] b = refl
      go (d ∷ ds) b = absurd (omega (arith, bundle_past b))

  module _ (inside : i < end) {there : ℕ} (v : there ≡ value_at tree i) where
    find_here : there ≡ n → FindsDocument tree i end n i
    find_here q = record { inside = omega arith; finds = go }
      where
        go : (ds : List Document) → Bundle ds tree i end → i ≡ place_of n i ds
        go [] b = refl
        go (d ∷ ds) b = rw (eq-eqb d.filename n ((bundle_first b).file ∙ sym v ∙ q))

    find_more : {next r : ℕ} → (there ≡ n → ⊥) → next ≡ skip_c tree i end → FindsDocument tree next end n r → FindsDocument tree i end n r
    find_more {next} {r} ne l F = record { inside = F.inside; finds = go }
      where
        go : (ds : List Document) → Bundle ds tree i end → r ≡ place_of n i ds
        go [] b = absurd (omega (arith, bundle_none b))
        go (d ∷ ds) b =
            let nx = bundle_next b l in
            rw (ne_eqb d.filename n (λ q. ne (v ∙ sym (bundle_first b).file ∙ q)), ← nx.0) (F.finds ds nx.1)

-- from the start, and from a higher number on
pub skips_start : (tree : List ℕ) (end n above : ℕ) → Skips tree end 0 n above
skips_start tree end n above = record { inside = omega arith; skips = λ m r a b f. f }

pub skips_on : {tree : List ℕ} {end at n k above : ℕ} → n ≤ k → Skips tree end at n above → Skips tree end at k above
skips_on h S = record { inside = S.inside; skips = λ m r a b f. S.skips m r (omega arith) b f }

-- `find_document`
module _ (tree : List ℕ) (i end n : ℕ) {at above bound : ℕ} (below : n < bound) (S : Skips tree end at n above → Skips tree end i n bound) where
  pub place_end : end ≤ i → FindsNext tree end n at above i bound
  place_end past = record { finds = λ s. let q = S s in q.skips n i (omega arith) below (find_end tree i end n past q.inside); skips = S }

  module _ (inside : i < end) {there : ℕ} (v : there ≡ value_at tree i) where
    pub place_here : there ≡ n → FindsNext tree end n at above i bound
    place_here q = record { finds = λ s. (S s).skips n i (omega arith) below (find_here tree i end n inside v q); skips = S }

    pub place_more : {next bound' : ℕ} → (there ≡ n → ⊥) → Lowers bound n there bound' → next ≡ skip_c tree i end → next ≤ end
        → Skips tree end at n above → Skips tree end next n bound'
    place_more {next} {bound'} ne L l e s = record { inside = e; skips = go }
      where
        other : (m : ℕ) → n ≤ m → m < bound' → Dec (n < there) → there ≡ m → ⊥
        other m a b (yes h) q = omega (arith, L.bound h)
        other m a b (no h) q = ne (omega arith)

        go : (m r : ℕ) → n ≤ m → m < bound' → FindsDocument tree next end m r → FindsDocument tree 0 end m r
        go m r a b F = (S s).skips m r a (omega (arith, L.most)) (find_more tree i end m inside v (other m a b (dec_lt n there)) l F)

-- whether includes are all in a set
module _ (tree : List ℕ) (j end : ℕ) (set : List ℕ) where
  all_end : end ≤ j → AllIncluded tree j end set true
  all_end past = record { all = defs_end tree j end (λ ns. true ≡ all_bits set ns) past refl }

  all_other : {kind next : ℕ} {r : Bool} → j < end → kind ≡ kind_at tree j → (kind ≡ 11 → ⊥) → next ≡ skip_c tree j end
      → AllIncluded tree next end set r → AllIncluded tree j end set r
  all_other {r = r} inside k ne q A = record { all = defs_other tree j end (λ ns. r ≡ all_bits set ns) inside k ne q A.all }

  module _ {kind file next : ℕ} (inside : j < end) (k : kind ≡ kind_at tree j) (eleven : kind ≡ 11) (v : file ≡ value_at tree j) where
    all_more : {r : Bool} → true ≡ bit_of set file → next ≡ skip_c tree j end → AllIncluded tree next end set r → AllIncluded tree j end set r
    all_more {r} has q A = record {
      all = defs_more tree j end (λ ns. r ≡ all_bits set ns) inside k eleven v q (λ ds u f. A.all ds u f ∙ rw (← has));
    }

  all_not : {kind file : ℕ} → j < end → kind ≡ kind_at tree j → kind ≡ 11 → file ≡ value_at tree j → false ≡ bit_of set file
      → AllIncluded tree j end set false
  all_not inside k eleven v out = record { all = defs_more tree j end (λ ns. false ≡ all_bits set ns) inside k eleven v refl (λ ds u f. rw (← out)) }

-- `first_uncompiled`
pub read_none : (tree : List ℕ) (at end : ℕ) (set : List ℕ) → ReadTo tree at at end set
read_none tree at end set = record { on = λ larger r g a. a }

pub read_grows : {tree : List ℕ} {at to end : ℕ} {set larger : List ℕ} → Grows set larger → ReadTo tree at to end set → ReadTo tree at to end larger
read_grows g R = record { on = λ more r h a. R.on more r (record { stays = λ n b. h.stays n (g.stays n b) }) a }

read_on : {tree : List ℕ} {at to from end : ℕ} {set : List ℕ} → ReadTo tree at to end set → ReadTo tree to from end set → ReadTo tree at from end set
read_on R Q = record { on = λ larger r g a. R.on larger r g (Q.on larger r g a) }

module _ (tree : List ℕ) (at j end : ℕ) (set : List ℕ) (R : ReadTo tree at j end set) where
  pub uncompiled_end : end ≤ j → at ≤ j → FirstUncompiled tree at end set j
  uncompiled_end past l = record {
    later = l;
    read = R;
    all = λ h. R.on set true (grows_same set) (all_end tree j end set past);
    not_all = λ h. absurd (omega arith);
  }

  module _ {kind : ℕ} (inside : j < end) (k : kind ≡ kind_at tree j) where
    pub read_other : {next : ℕ} → (kind ≡ 11 → ⊥) → next ≡ skip_c tree j end → ReadTo tree at next end set
    read_other ne q = record { on = λ larger r g a. R.on larger r g (all_other tree j end larger inside k ne q a) }

    module _ {file : ℕ} (eleven : kind ≡ 11) (v : file ≡ value_at tree j) where
      pub read_include : {next : ℕ} → true ≡ bit_of set file → next ≡ skip_c tree j end → ReadTo tree at next end set
      read_include has q = record {
        on = λ larger r g a. R.on larger r g (all_more tree j end larger inside k eleven v (sym (g.stays file (sym has))) q a);
      }

      pub uncompiled_here : false ≡ bit_of set file → at ≤ j → FirstUncompiled tree at end set j
      uncompiled_here out l = record {
        later = l;
        read = R;
        all = λ h. absurd (omega arith);
        not_all = λ h. R.on set false (grows_same set) (all_not tree j end set inside k eleven v out);
      }

-- what an entry more of area 12 is
module _ {full count a : ℕ} {w : List ℕ} {r : Taken} {after : List ℕ} (T : Took books_area full count (a ∷ []) w r after) where
  took_marked : (full ≡ 0 → ⊥) → (r ≡ taken full count) × (after ≡ w)
  took_marked ne = (T.reply ∙ rw (ne_eqb full 0 ne), T.words ∙ rw (ne_eqb full 0 ne))

  took_none : full ≡ 0 → entries_in 1 (length w) ≤ count → (r ≡ taken books_area count) × (after ≡ w)
  took_none z h =
      let e = le-ltb count (entries_in 1 (length w)) h in
      (T.reply ∙ rw (eq-eqb full 0 z, e), T.words ∙ rw (eq-eqb full 0 z, e))

  took_room : full ≡ 0 → count < entries_in 1 (length w) → (r ≡ taken full (count + 1)) × (after ≡ set' w count a)
  took_room z h =
      let e = lt-ltb count (entries_in 1 (length w)) h in
      let small : count < length w = omega (arith, room_fits 1 count (length w) h) in
      (T.reply ∙ rw (eq-eqb full 0 z, e), T.words ∙ rw (eq-eqb full 0 z, e, mul-one count, add-one count) (sym (set_split w count a small)))

  -- the count is no lower, and what stood below it stays
  took_named : (count ≤ r.count) × ((k : ℕ) → k < count → get_or after k 0 ≡ get_or w k 0)
  took_named = go (ℕ_discrete full 0) (dec_lt count (entries_in 1 (length w)))
    where
      same : (r.count ≡ count) → after ≡ w → (count ≤ r.count) × ((k : ℕ) → k < count → get_or after k 0 ≡ get_or w k 0)
      same c e = (omega arith, λ k h. ap (λ (l : List ℕ). get_or l k 0) e)

      go : Dec (full ≡ 0) → Dec (count < entries_in 1 (length w)) → (count ≤ r.count) × ((k : ℕ) → k < count → get_or after k 0 ≡ get_or w k 0)
      go (no ne) d = let p = took_marked ne in same (ap (λ (x : Taken). x.count) p.0) p.1
      go (yes z) (no h) = let p = took_none z (omega arith) in same (ap (λ (x : Taken). x.count) p.0) p.1
      go (yes z) (yes h) =
          let p = took_room z h in
          let c : r.count ≡ count + 1 = ap (λ (x : Taken). x.count) p.0 in
          (omega arith, λ k l. ap (λ (x : List ℕ). get_or x k 0) p.1 ∙ get_or-set_other w count k a 0 (λ e. omega arith))

-- an entry more, and those after it
one_more : (books : List ℕ) (c a : ℕ) (ws : List ℕ) (j : ℕ) → c < length books
    → take (c + 1) (set' books c a) ++ (ws ++ drop (c + 1 + j) (set' books c a)) ≡ take c books ++ (a ∷ (ws ++ drop (c + suc j) books))
one_more books c a ws j h =
    let e : c + 1 + j ≡ c + suc j = omega arith in
    let d : drop (c + suc j) (set' books c a) ≡ drop (c + suc j) books = drop-set-lt (c + suc j) books c a (omega arith) in
    rw (e, d, add-one c, take-suc-set books c a h) (append_assoc (take c books) (a ∷ []) (ws ++ drop (c + suc j) books))

-- `take_books`
pub record TakesFrom (tree : List ℕ) (end : ℕ) (set : List ℕ) (k : ℕ) (t : Taken) (books : List ℕ) (r : Taken) (after : List ℕ) : Type 0 where
  pub marked : (t.full ≡ 0 → ⊥) → (r.full ≡ t.full) × (after ≡ books)
  pub fits : (ds : List Document) (l : List ℕ) → Bundle ds tree 0 end → SetFrom set k l → t.full ≡ 0 → t.count + length l ≤ entries_in 1 (length books)
      → (r ≡ taken 0 (t.count + length l)) × (after ≡ take t.count books ++ (waiting ds l ++ drop (t.count + length l) books))
  pub over : (ds : List Document) (l : List ℕ) → Bundle ds tree 0 end → SetFrom set k l → t.full ≡ 0 → t.count ≤ entries_in 1 (length books)
      → entries_in 1 (length books) < t.count + length l → r.full ≡ books_area
  pub named : (i : ℕ) → i < t.count → get_or after i 0 ≡ get_or books i 0

module _ (tree : List ℕ) (end : ℕ) (set : List ℕ) (k : ℕ) (t : Taken) (books : List ℕ) where
  stop : ((l : List ℕ) → SetFrom set k l → l ≡ []) → TakesFrom tree end set k t books t books
  stop h = record {
    marked = λ ne. (refl, refl);
    fits = λ ds l b s z f.
        rw (h l s, add-zero t.count, ← z) (refl, sym (take-append-drop t.count books));
    over = λ ds l b s z a f. absurd (omega (arith, subst (λ (x : List ℕ). entries_in 1 (length books) < t.count + length x) (h l s) f));
    named = λ i l. refl;
  }

  pub takes_end : set_size ≤ k → TakesFrom tree end set k t books t books
  takes_end past = stop go
    where
      go : (l : List ℕ) → SetFrom set k l → l ≡ []
      go [] s = refl
      go (x ∷ xs) s = absurd (omega (arith, s.below.0, s.ascends.0))

  pub takes_full : (t.full ≡ 0 → ⊥) → TakesFrom tree end set k t books t books
  takes_full ne = record {
    marked = λ ne'. (refl, refl);
    fits = λ ds l b s z f. absurd (ne z);
    over = λ ds l b s z a f. absurd (ne z);
    named = λ i l. refl;
  }

  module _ {n : ℕ} (next : NextIn set k n) where
    pub takes_none : set_size ≤ n → TakesFrom tree end set k t books t books
    takes_none big = stop (λ l s. next_none l s next big)

    pub takes_more : {place : ℕ} {t' r : Taken} {mid after : List ℕ} → n < set_size → FindsDocument tree 0 end n place
        → Took books_area t.full t.count ((n * book_unit + place) ∷ []) books t' mid → TakesFrom tree end set (n + 1) t' mid r after
        → TakesFrom tree end set k t books r after
    takes_more {place} {t'} {r} {mid} {after} small F T M =
        let N = took_named T in
        record { marked = kept; fits = more; over = past; named = λ i l. M.named i (omega (arith, N.0)) ∙ N.1 i l }
      where
        room : (t' ≡ taken t.full (t.count + 1)) × (mid ≡ set' books t.count (n * book_unit + place))
            → TakesFrom tree end set (n + 1) (taken t.full (t.count + 1)) (set' books t.count (n * book_unit + place)) r after
        room p =
            subst (λ (x : Taken). TakesFrom tree end set (n + 1) x (set' books t.count (n * book_unit + place)) r after) p.0
            (subst (λ (x : List ℕ). TakesFrom tree end set (n + 1) t' x r after) p.1 M)

        kept : (t.full ≡ 0 → ⊥) → (r.full ≡ t.full) × (after ≡ books)
        kept ne =
            let p = took_marked T ne in
            let same : t'.full ≡ t.full = ap (λ (x : Taken). x.full) p.0 in
            let m = M.marked (λ z. ne (sym same ∙ z)) in
            (m.0 ∙ same, m.1 ∙ p.1)

        more : (ds : List Document) (l : List ℕ) → Bundle ds tree 0 end → SetFrom set k l → t.full ≡ 0 → t.count + length l ≤ entries_in 1 (length books)
            → (r ≡ taken 0 (t.count + length l)) × (after ≡ take t.count books ++ (waiting ds l ++ drop (t.count + length l) books))
        more ds l b s z f =
            let S = next_some l s next small in
            let cut : length l ≡ suc (length S.rest) = ap length S.is in
            let p = took_room T z (omega arith) in
            let m = (room p).fits ds S.rest b S.after z (rw (length-set books t.count (n * book_unit + place)) (omega arith)) in
            let c : t.count + 1 + length S.rest ≡ t.count + length l = omega arith in (
              m.0 ∙ ap (λ (x : ℕ). taken 0 x) c,
              m.1 ∙ one_more books t.count (n * book_unit + place) (waiting ds S.rest) (length S.rest)
                  (omega (arith, room_fits 1 t.count (length books) (omega arith)))
                  ∙ ap (λ (x : ℕ). take t.count books ++ ((n * book_unit + x) ∷ (waiting ds S.rest ++ drop (t.count + suc (length S.rest)) books)))
                  (F.finds ds b)
                  ∙ ap (λ (x : List ℕ). take t.count books ++ (waiting ds x ++ drop (t.count + length x) books)) (sym S.is),
            )

        past : (ds : List Document) (l : List ℕ) → Bundle ds tree 0 end → SetFrom set k l → t.full ≡ 0 → t.count ≤ entries_in 1 (length books)
            → entries_in 1 (length books) < t.count + length l → r.full ≡ books_area
        past ds l b s z a f = go (dec_lt t.count (entries_in 1 (length books)))
          where
            go : Dec (t.count < entries_in 1 (length books)) → r.full ≡ books_area
            go (yes h) =
                let S = next_some l s next small in
                let cut : length l ≡ suc (length S.rest) = ap length S.is in
                let e : length (set' books t.count (n * book_unit + place)) ≡ length books = length-set books t.count (n * book_unit + place) in
                (room (took_room T z h)).over ds S.rest b S.after z (rw e (omega arith)) (rw e (omega arith))
            go (no h) =
                let p = took_none T z (omega arith) in
                let is12 : t'.full ≡ books_area = ap (λ (x : Taken). x.full) p.0 in
                (M.marked (λ q. omega arith)).0 ∙ is12

pub takes_whole : (tree : List ℕ) (end : ℕ) (set : List ℕ) (full stand : ℕ) (books : List ℕ) {r : Taken} {after : List ℕ}
    → TakesFrom tree end set 0 (taken full stand) books r after → TakesBooks tree end set full stand books r after
takes_whole tree end set full stand books T = record {
  marked = T.marked;
  fits = λ ds l b a w s z f. T.fits ds l b (set_from a w s) z f;
  over = λ ds l b a w s z c f. T.over ds l b (set_from a w s) z c f;
  named = T.named;
}

-- whether a document is there, and where
found : (n : ℕ) (ns : List ℕ) (ds : List Document) → missing ds (n ∷ ns) ≡ none → (d : Document) × (find_document n ds ≡ some d) × (missing ds ns ≡ none)
found n ns ds h = go (find_document n ds) refl h
  where
    go : (o : Option Document) → find_document n ds ≡ o → missing_by o n (missing ds ns) ≡ none
        → (d : Document) × (find_document n ds ≡ some d) × (missing ds ns ≡ none)
    go none q m = let z : ◌≡◌ {A = ℕ} 0 1 = cc in absurd (omega arith)
    go (some d) q m = (d, q, m)

pub record PlaceOf (tree : List ℕ) (end n i : ℕ) (ds : List Document) (d : Document) : Type 0 where
  pub file : d.filename ≡ n
  pub document : DocumentAt d tree (place_of n i ds)
  pub inside : place_of n i ds + size_doc d ≤ end

place : (tree : List ℕ) (end n i : ℕ) (ds : List Document) (d : Document) → Bundle ds tree i end → find_document n ds ≡ some d → PlaceOf tree end n i ds d
unfolding RunAt run_size
place tree end n i [] d b h = let z : ◌≡◌ {A = ℕ} 0 1 = cc in absurd (omega arith)
place tree end n i (x ∷ ds) d b h = go (eqb x.filename n) refl h (place tree end n (i + size_doc x) ds d (bundle_rest b))
  where
    go : (t : Bool) → eqb x.filename n ≡ t → cond t (some x) (find_document n ds) ≡ some d
        → (find_document n ds ≡ some d → PlaceOf tree end n (i + size_doc x) ds d) → PlaceOf tree end n i (x ∷ ds) d
    go true q e r =
        let same : x ≡ d = cc in
        subst (λ (y : Document). PlaceOf tree end n i (x ∷ ds) y) same (record {
          file = eqb-true x.filename n q;
          document = rw q (bundle_first b);
          inside = rw q (bundle_fits b);
        })
    go false q e r = let p = r e in record { file = p.file; document = rw q p.document; inside = rw q p.inside }

-- the words that `take_books` wrote: nothing was read
pub taken_wait : {ds : List Document} {tree : List ℕ} {end : ℕ} (set : List ℕ) → Bundle ds tree 0 end → end ≤ most_records → (l : List ℕ)
    → missing ds l ≡ none → AllWait ds tree end set l (waiting ds l)
taken_wait set b s [] h = tt
taken_wait {ds} {tree} {end} set b s (n ∷ ns) h =
    let f = found n ns ds h in
    let p = place tree end n 0 ds f.0 b f.1 in
    let small : place_of n 0 ds < place_unit = omega (arith, p.inside) in
    let none_read : (n * book_unit + place_of n 0 ds) / place_unit % place_unit ≡ 0 = omega arith in (
      record {
        number = omega arith;
        place = omega arith;
        read = rw (none_read, add-zero (place_of n 0 ds + 1)) (read_none tree (place_of n 0 ds + 1) (skip_c tree (place_of n 0 ds) end) set);
      },
      taken_wait set b s ns f.2,
    )

-- `next_ready`: what the entry of the first book that is left says
pub record First (ds : List Document) (tree : List ℕ) (end : ℕ) (files : List ℕ) (n : ℕ) (ns rest books set : List ℕ) (entry : ℕ) : Type 0 where
  pub book : Document
  pub is : find_document n ds ≡ some book
  pub name : book.filename ≡ n
  pub left : missing ds ns ≡ none
  pub waits : Waits ds tree end set n entry
  pub document : DocumentAt book tree (place_of n 0 ds)
  pub inside : place_of n 0 ds + size_doc book ≤ end
  pub below : Below set_size (dependencies book.definitions)
  pub tail : List ℕ
  pub area : books ≡ files ++ (entry ∷ (tail ++ rest))
  pub others : AllWait ds tree end set ns tail

entry_is : (k : ℕ) (files : List ℕ) (x : ℕ) (ws books : List ℕ) → books ≡ files ++ (x ∷ ws) → k ≡ length files → entry_field 1 k 0 books ≡ x
unfolding entry_field
entry_is k files x ws books q e =
    let i : k * 1 + 0 ≡ k = omega arith in
    ap (λ (j : ℕ). get_or books j 0) i ∙ ap (λ (l : List ℕ). get_or l k 0) q ∙ get_or_at files x ws 0 k (sym e)

first : {ds : List Document} {tree : List ℕ} {end : ℕ} {files : List ℕ} {n : ℕ} {ns rest books set compiled : List ℕ} {k entry : ℕ}
    → Stands ds tree end files (n ∷ ns) rest books set compiled → k ≡ length files → entry ≡ entry_field 1 k 0 books
    → First ds tree end files n ns rest books set entry
first {ds} {tree} {end} {files} {n} {ns} {rest} {books} {set} {compiled} {k} {entry} S e word = go S.words S.area S.waits
  where
    go : (ws : List ℕ) → books ≡ files ++ (ws ++ rest) → AllWait ds tree end set (n ∷ ns) ws → First ds tree end files n ns rest books set entry
    go [] a h = absurd h
    go (w ∷ ws) a h =
        let f = found n ns ds S.there in
        let p = place tree end n 0 ds f.0 S.bundle f.1 in
        let same : entry ≡ w = word ∙ entry_is k files w (ws ++ rest) books a e in
        rw same (record {
          book = f.0;
          is = f.1;
          name = p.file;
          left = f.2;
          waits = h.0;
          document = p.document;
          inside = p.inside;
          below = subst (λ (o : Option Document). Below set_size (dependencies_of o)) f.1 (found_below n ds S.bundle.numbers);
          tail = ws;
          area = a;
          others = h.1;
        })

-- a word of area 12 anew
set_word : (i value : ℕ) (a : List ℕ) (e : ℕ) (c w after : List ℕ) {answer : Bool} → Patched 1 i 0 value w after answer → w ≡ a ++ (e ∷ c) → i ≡ length a
    → after ≡ a ++ (value ∷ c)
set_word i value a e c w after P q h =
    let n : length w ≡ length a + suc (length c) = ap length q ∙ length-append a (e ∷ c) in
    let k : i * 1 + 0 ≡ i = omega arith in
    P.words ∙ rw (k, lt-ltb i (length w) (omega arith), q) (set_at a e c value i (sym h))

module _ (tree : List ℕ) (end k count : ℕ) (set books : List ℕ) where
  pub ready_end : count ≤ k → FindsReady tree end k count set books k books
  ready_end past = record { found = λ ds files left rest compiled S d c l. absurd (omega arith); nothing = go }
    where
      go : (ds : List Document) (files left rest compiled : List ℕ) → Stands ds tree end files left rest books set compiled → k ≡ length files
          → count ≡ k + length left → count ≤ k → NoneReady ds tree end files left rest books set compiled
      go ds files [] rest compiled S d c l = record { is = refl; stands = S }
      go ds files (n ∷ ns) rest compiled S d c l = absurd (omega arith)

  module _ {entry at from last stop : ℕ} (inside : k < count) (word : entry ≡ entry_field 1 k 0 books) (a : at ≡ entry % place_unit)
      (f : from ≡ at + 1 + entry / place_unit % place_unit) (s : last ≡ skip_c tree at end) (U : FirstUncompiled tree from last set stop) where
    -- what was read before
    read_before : {ds : List Document} {files : List ℕ} {n : ℕ} {ns rest : List ℕ} → First ds tree end files n ns rest books set entry
        → ReadTo tree (at + 1) from last set
    read_before {ds} {files} {n} B =
        let here : place_of n 0 ds ≡ at = sym B.waits.place ∙ sym a in
        let R : ReadTo tree (at + 1) (at + 1 + entry / place_unit % place_unit) (skip_c tree at end) set = rw here at B.waits.read in
        rw (f, s) R

    -- whether its includes are all compiled
    asked : {ds : List Document} {files : List ℕ} {n : ℕ} {ns rest compiled : List ℕ} {r : Bool} → SetIs set compiled
        → (B : First ds tree end files n ns rest books set entry) → AllIncluded tree from last set r
        → all_in (dependencies B.book.definitions) compiled ≡ r
    asked {ds} {files} {n} {ns} {rest} {compiled} {r} i B A =
        let here : place_of n 0 ds ≡ at = sym B.waits.place ∙ sym a in
        let D : DocumentAt B.book tree at = rw here at B.document in
        let e : last ≡ at + size_doc B.book = s ∙ skip_law tree at end D.head (omega arith) (rw here at B.inside) in
        let W : AllIncluded tree (at + 1) last set r = (read_before B).on set r (grows_same set) A in
        sym (W.all B.book.definitions D.definitions (omega arith) ∙ all_bits_lem set compiled (dependencies B.book.definitions) i B.below)

    pub ready_here : last ≤ stop → FindsReady tree end k count set books k books
    ready_here yes' = record { found = go; nothing = λ ds files left rest compiled S d c l. absurd (omega arith) }
      where
        go : (ds : List Document) (files left rest compiled : List ℕ) → Stands ds tree end files left rest books set compiled → k ≡ length files
            → count ≡ k + length left → k < count → Ready ds tree end files left rest books set compiled k
        go ds files [] rest compiled S d c l = absurd (omega arith)
        go ds files (n ∷ ns) rest compiled S d c l =
            let B = first S d word in
            let t : all_in (dependencies B.book.definitions) compiled ≡ true = asked S.held B (U.all yes') in
            let here : entry_field 1 k 0 books % place_unit ≡ place_of n 0 ds = ap (λ (x : ℕ). x % place_unit) (sym word) ∙ B.waits.place in
            record {
              book = B.book;
              is = rw (B.is, t);
              file = ap (λ (x : ℕ). x / book_unit) (sym word) ∙ B.waits.number ∙ sym B.name;
              document = rw here B.document;
              inside = rw here B.inside;
              before = [];
              later = ns;
              split = ap (λ (x : ℕ). x ∷ ns) (sym B.name);
              index = omega arith;
              stands = S;
            }

    module _ {read new : ℕ} {mid : List ℕ} {answer : Bool} (no' : stop < last) (read_is : read ≡ (stop - at - 1) % place_unit)
        (New-is : new ≡ entry / book_unit * book_unit + read * place_unit + entry % place_unit) (P : Patched 1 k 0 new books mid answer) where
      -- the word that says how far it was read
      anew : {ds : List Document} {files : List ℕ} {n : ℕ} {ns rest : List ℕ} → end ≤ most_records → First ds tree end files n ns rest books set entry
          → Waits ds tree end set n new
      anew {ds} {files} {n} small B =
          let here : place_of n 0 ds ≡ at = sym B.waits.place ∙ sym a in
          let D : DocumentAt B.book tree at = rw here at B.document in
          let fits : at + size_doc B.book ≤ end = rw here at B.inside in
          let e : last ≡ at + size_doc B.book = s ∙ skip_law tree at end D.head (omega arith) fits in
          let low : read < place_unit = omega arith in
          let so_far : read ≡ stop - at - 1 = omega (arith, U.later) in
          let mid' : new / place_unit % place_unit ≡ read = omega arith in
          let to : stop ≡ at + 1 + new / place_unit % place_unit = omega (arith, U.later) in
          record {
            number = (let h : new / book_unit ≡ entry / book_unit = omega arith in h) ∙ B.waits.number;
            place = (let h : new % place_unit ≡ entry % place_unit = omega arith in h) ∙ B.waits.place;
            read = rw (here, ← s, ← to) (read_on (read_before B) U.read);
          }

      pub ready_more : {i : ℕ} {after : List ℕ} → FindsReady tree end (k + 1) count set mid i after → FindsReady tree end k count set books i after
      ready_more {i} {after} R = record { found = go; nothing = none_of }
        where
          next : {ds : List Document} {files : List ℕ} {n : ℕ} {ns rest compiled : List ℕ} → Stands ds tree end files (n ∷ ns) rest books set compiled
              → k ≡ length files → Stands ds tree end (files ++ (new ∷ [])) ns rest mid set compiled
          next {ds} {files} {n} {ns} {rest} {compiled} S d =
              let B = first S d word in
              record {
                bundle = S.bundle;
                limit = S.limit;
                there = B.left;
                words = B.tail;
                area = set_word k new files entry (B.tail ++ rest) books mid P B.area d ∙ sym (append_assoc files (new ∷ []) (B.tail ++ rest));
                waits = B.others;
                held = S.held;
                room = S.room;
              }

          back : {ds : List Document} {files : List ℕ} {n : ℕ} {ns rest compiled : List ℕ} → Stands ds tree end files (n ∷ ns) rest books set compiled
              → k ≡ length files → Stands ds tree end (files ++ (new ∷ [])) ns rest after set compiled
              → Stands ds tree end files (n ∷ ns) rest after set compiled
          back {ds} {files} {n} {ns} {rest} {compiled} S d T = record {
            bundle = S.bundle;
            limit = S.limit;
            there = S.there;
            words = new ∷ T.words;
            area = T.area ∙ append_assoc files (new ∷ []) (T.words ++ rest);
            waits = (anew S.limit (first S d word), T.waits);
            held = S.held;
            room = S.room;
          }

          longer : (files : List ℕ) (x : ℕ) → k ≡ length files → k + 1 ≡ length (files ++ (x ∷ []))
          longer files x d = rw (length-append files (x ∷ [])) (omega arith)

          passed : {ds : List Document} {files : List ℕ} {n : ℕ} {ns rest compiled : List ℕ} → Stands ds tree end files (n ∷ ns) rest books set compiled
              → k ≡ length files → ready ds compiled (n ∷ ns) ≡ ready ds compiled ns
          passed S d =
              let B = first S d word in
              rw (B.is, asked S.held B (U.not_all no'))

          go : (ds : List Document) (files left rest compiled : List ℕ) → Stands ds tree end files left rest books set compiled → k ≡ length files
              → count ≡ k + length left → i < count → Ready ds tree end files left rest after set compiled i
          go ds files [] rest compiled S d c l = absurd (omega arith)
          go ds files (n ∷ ns) rest compiled S d c l =
              let p = R.found ds (files ++ (new ∷ [])) ns rest compiled (next S d) (longer files new d) (omega arith) l in
              record {
                book = p.book;
                is = passed S d ∙ p.is;
                file = p.file;
                document = p.document;
                inside = p.inside;
                before = n ∷ p.before;
                later = p.later;
                split = ap (λ (x : List ℕ). n ∷ x) p.split;
                index = p.index ∙ rw (length-append files (new ∷ [])) (omega arith);
                stands = back S d p.stands;
              }

          none_of : (ds : List Document) (files left rest compiled : List ℕ) → Stands ds tree end files left rest books set compiled → k ≡ length files
              → count ≡ k + length left → count ≤ i → NoneReady ds tree end files left rest after set compiled
          none_of ds files [] rest compiled S d c l = absurd (omega arith)
          none_of ds files (n ∷ ns) rest compiled S d c l =
              let p = R.nothing ds (files ++ (new ∷ [])) ns rest compiled (next S d) (longer files new d) (omega arith) l in
              record { is = passed S d ∙ p.is; stands = back S d p.stands }

-- the last of a list
pub record Last (l : List ℕ) : Type 0 where
  pub front : List ℕ
  pub end : ℕ
  pub is : l ≡ front ++ (end ∷ [])

last_of : (x : ℕ) (l : List ℕ) → Last (x ∷ l)
last_of x [] = record { front = []; end = x; is = refl }
last_of x (y ∷ l) = let t = last_of y l in record { front = x ∷ t.front; end = t.end; is = ap (λ (z : List ℕ). x ∷ z) t.is }

pub bring_end : (books : List ℕ) (done i file : ℕ) {after : List ℕ} {answer : Bool} → i ≤ done → Patched 1 done 0 file books after answer
    → Brings books done i file after
bring_end books done i file {after} past P = record { brings = go }
  where
    go : (a b c : List ℕ) (e : ℕ) → books ≡ a ++ (b ++ (e ∷ c)) → done ≡ length a → i ≡ done + length b → after ≡ a ++ (file ∷ (b ++ c))
    go a [] c e q h k = set_word done file a e c books after P q h
    go a (x ∷ b) c e q h k = absurd (omega arith)

pub bring_more : (books : List ℕ) (done i file : ℕ) {j word : ℕ} {mid after : List ℕ} {answer : Bool} → done < i → j ≡ i - 1
    → word ≡ entry_field 1 j 0 books → Patched 1 i 0 word books mid answer → Brings mid done j file after → Brings books done i file after
bring_more books done i file {j} {word} {mid} {after} more d w P B = record { brings = go }
  where
    go : (a b c : List ℕ) (e : ℕ) → books ≡ a ++ (b ++ (e ∷ c)) → done ≡ length a → i ≡ done + length b → after ≡ a ++ (file ∷ (b ++ c))
    go a [] c e q h k = absurd (omega arith)
    go a (x ∷ b) c e q h k = by (last_of x b)
      where
        by : Last (x ∷ b) → after ≡ a ++ (file ∷ ((x ∷ b) ++ c))
        by L =
            let f = L.front in
            let y = L.end in
            let len : length (x ∷ b) ≡ length f + 1 = ap length L.is ∙ length-append f (y ∷ []) in
            let front : length (a ++ f) ≡ length a + length f = length-append a f in
            let whole : books ≡ (a ++ f) ++ (y ∷ (e ∷ c))
            = q ∙ ap (λ (l : List ℕ). a ++ (l ++ (e ∷ c))) L.is ∙ simp append_assoc in
            let known : word ≡ y = w ∙ entry_is j (a ++ f) y (e ∷ c) books whole (omega arith) in
            let back : length ((a ++ f) ++ (y ∷ [])) ≡ length (a ++ f) + 1 = length-append (a ++ f) (y ∷ []) in
            let put : mid ≡ ((a ++ f) ++ (y ∷ [])) ++ (word ∷ c)
            = set_word i word ((a ++ f) ++ (y ∷ [])) e c books mid P (whole ∙ simp append_assoc) (omega arith) in
            B.brings a f (word ∷ c) y (put ∙ simp append_assoc) h (omega arith)
            ∙ ap (λ (v : ℕ). a ++ (file ∷ (f ++ (v ∷ c)))) known
            ∙ ap (λ (l : List ℕ). a ++ (file ∷ l)) (sym (ap (λ (l : List ℕ). l ++ c) L.is ∙ append_assoc f (y ∷ []) c))

-- the books that are left without one of them
pub apart : (k : ℕ) (before : List ℕ) (n : ℕ) (later : List ℕ) → Ascends k (before ++ (n ∷ later)) → without n (before ++ (n ∷ later)) ≡ before ++ later
apart k [] n later a = rw (eq-eqb n n refl)
apart k (x ∷ before) n later a =
    let l : x + 1 ≤ n = above (x + 1) before n later a.1 in
    rw (ne_eqb x n (λ q. omega arith)) (ap (λ (z : List ℕ). x ∷ z) (apart (x + 1) before n later a.1))
  where
    above : (j : ℕ) (bs : List ℕ) (m : ℕ) (ls : List ℕ) → Ascends j (bs ++ (m ∷ ls)) → j ≤ m
    above j [] m ls h = h.0
    above j (y ∷ bs) m ls h = let r = above (y + 1) bs m ls h.1 in omega (arith, h.0)
