-- One lemma for each way through the routines that read the documents one after the other. Whatever is answered from here is answered from the start.
-- Assumes nothing.
use Prim.Native.Nat.{ℕ, zero, suc, ◌+◌, ◌*◌, ◌/◌, ◌≤◌, ◌<◌}
use native.Mathlib.Omega.{arith}
use native.Mathlib.Decide.{ℕ_discrete}
use mathlib.Core.Path.{◌≡◌, refl, sym, ap, subst, ◌∙◌}
use mathlib.Core.Bool.{Bool, true, false, cond, not}
use mathlib.Core.Option.{none, some}
use mathlib.Core.List.{List, [], ◌∷◌}
use lib.ListN.{length}
use lib.Dec.{eqb}
use borrow.Author.Tests.{ne_eqb, lt-ltb, le-ltb, not-true, not-false}
use Rattle.words.specs.Ast.{Token, Document, Definition, LocalDefinition, IncludeDefinition, ModelDefinition, PublicModelDefinition, PlainFunction}
use Rattle.words.specs.Ast.{PublicFunction, ImplementDefinition, ApplyDefinition}
use Rattle.words.specs.Record.{kind_at, value_at}
use Rattle.tree.specs.At.{RunAt, run_size, DefinitionAt, size_d, kind_d, DocumentAt, DocumentsAt, size_doc}
use Rattle.tree.specs.Reading.{list_of}
use Rattle.tree.proofs.View.{head_d, see_d, size_d_pos, ViewD}
use Rattle.tree.proofs.View.ViewD.{v_Include_definition}
use Rattle.definition.specs.Book.{has_text}
use Rattle.definition.specs.DependencySolver.{dependencies, find_document, insert_numbers, reached_from, needed_in, missing}
use Rattle.definition.specs.Answer.{twice}
use Rattle.std.specs.Prelude.{Some, None}
use Rattle.building.specs.Found.{Found, found_of}
use Rattle.compiler_laws.specs.InsideFunction.{skip_c}
use Rattle.compiler_laws.specs.FileSets.{set_size, narrow_size, bit_of, add_bit, add_bits, all_known, Added, AddedAbsent, SetIs, NextIn, Below, Ascends}
use Rattle.compiler_laws.specs.SolverSteps.{Bundle, Room, Distinct, files, FindsTwice, Includes, Reaches, reach_bits, Needs, Misses}
use Rattle.compiler_laws.specs.SolverSteps.{InSets, Covers, NarrowIncludes, Narrows}
use Rattle.compiler_laws.proofs.Tokens.{skip_law}
use Rattle.compiler_laws.proofs.FileLists.{join, never, has_head, has_tail, add_bit_length, reach_length, set_add, set_adds, set_reached}
use Rattle.compiler_laws.proofs.FileLists.{inserts_ascend, inserts_below, reached_ascends, reached_below}
use Rattle.compiler_laws.proofs.FileLists.{add_bits_length, added_already, covers_none, covers_added, covers_reached}
use Rattle.compiler_laws.proofs.FileLists.{same_members, needed_still, missing_by_lem}
use Rattle.compiler_laws.proofs.NextNumbers.{SetFrom, set_from, Split, next_some, next_none}

-- the document at a place and those after it
pub bundle_first : {d : Document} {ds : List Document} {tree : List ℕ} {i end : ℕ} → Bundle (d ∷ ds) tree i end → DocumentAt d tree i
unfolding RunAt
bundle_first b = b.documents.0

pub bundle_rest : {d : Document} {ds : List Document} {tree : List ℕ} {i end : ℕ} → Bundle (d ∷ ds) tree i end → Bundle ds tree (i + size_doc d) end
unfolding RunAt run_size
bundle_rest {d} {ds} {tree} {i} {end} b =
    let f : i + (size_doc d + run_size size_doc ds) ≡ end = b.fills in
    record { documents = b.documents.1; fills = omega arith; numbers = b.numbers.2 }

pub bundle_fits : {d : Document} {ds : List Document} {tree : List ℕ} {i end : ℕ} → Bundle (d ∷ ds) tree i end → i + size_doc d ≤ end
unfolding run_size
bundle_fits {d} {ds} {tree} {i} {end} b = let f : i + (size_doc d + run_size size_doc ds) ≡ end = b.fills in omega arith

pub bundle_next : {d : Document} {ds : List Document} {tree : List ℕ} {i end next : ℕ} → Bundle (d ∷ ds) tree i end → next ≡ skip_c tree i end
    → (next ≡ i + size_doc d) × Bundle ds tree next end
bundle_next {d} {ds} {tree} {i} {end} {next} b q =
    let e : next ≡ i + size_doc d = q ∙ skip_law tree i end (bundle_first b).head (omega arith) (bundle_fits b) in
    (e, rw e (bundle_rest b))

pub bundle_past : {d : Document} {ds : List Document} {tree : List ℕ} {i end : ℕ} → Bundle (d ∷ ds) tree i end → i < end
unfolding run_size
bundle_past {d} {ds} {tree} {i} {end} b = let f : i + (size_doc d + run_size size_doc ds) ≡ end = b.fills in omega arith

pub bundle_none : {tree : List ℕ} {i end : ℕ} → Bundle [] tree i end → i ≡ end
unfolding run_size
bundle_none {tree} {i} {end} b = let f : i + 0 ≡ end = b.fills in omega arith

-- the places of the documents
abbrev places_from : ℕ → List Document → List ℕ
places_from i [] = []
places_from i (d ∷ ds) = i ∷ places_from (i + size_doc d) ds

places : (n : ℕ) (ds : List Document) (w : List ℕ) (i e : ℕ) → DocumentsAt ds w i → i + run_size size_doc ds ≡ e → e ≤ i + n
    → list_of (λ j. j) n w i e ≡ places_from i ds
unfolding list_of RunAt run_size
places zero [] w i e a f h = refl
places zero (d ∷ ds) w i e a f h = absurd (omega arith)
places (suc n) [] w i e a f h = rw (le-ltb i e (omega arith))
places (suc n) (d ∷ ds) w i e a f h =
    rw (lt-ltb i e (omega arith), a.0.head.span_is) (ap (λ (l : List ℕ). i ∷ l) (places n ds w (i + size_doc d) e a.1 (omega arith) (omega arith)))

-- `twice`
pub record TwiceOf (tree : List ℕ) (i : ℕ) (seen : List ℕ) (ds : List Document) (r : Found) (after : List ℕ) : Type 0 where
  pub answer : r ≡ found_of (twice seen tree (places_from i ds))
  pub distinct : r ≡ None → Distinct ds
  pub apart : r ≡ None → (n : ℕ) → has_text n seen ≡ true → find_document n ds ≡ none
  pub present : r ≡ None → (l : List ℕ) → ((m : ℕ) → m < set_size → has_text m l ≡ cond (has_text m seen) true (has_text m (files ds))) → SetIs after l

pub record TwiceFrom (tree : List ℕ) (i end : ℕ) (before : List ℕ) (r : Found) (after : List ℕ) : Type 0 where
  pub finds : (ds : List Document) (seen : List ℕ) → Bundle ds tree i end → Room before ds → SetIs before seen → TwiceOf tree i seen ds r after

is_there_lem : {A : Type 0} {i : ℕ} → Some i ≡ None → A
is_there_lem h = let z : ◌≡◌ {A = ℕ} 0 1 = cc in absurd (omega arith)

pub twice_end : (tree : List ℕ) (i end : ℕ) (before : List ℕ) → end ≤ i → TwiceFrom tree i end before None before
twice_end tree i end before past = record { finds = go }
  where
    or_false : (t : Bool) → cond t true false ≡ t
    or_false true = refl
    or_false false = refl

    go : (ds : List Document) (seen : List ℕ) → Bundle ds tree i end → Room before ds → SetIs before seen → TwiceOf tree i seen ds None before
    go [] seen b w s = record {
      answer = refl;
      distinct = λ h. tt;
      apart = λ h n m. refl;
      present = λ h l q. record { has = λ m g. s.has m g ∙ sym (q m g ∙ or_false (has_text m seen)) };
    }
    go (d ∷ ds) seen b w s = absurd (omega (arith, bundle_past b))

pub twice_here : (tree : List ℕ) (i end : ℕ) (before : List ℕ) {file : ℕ} {after : List ℕ} {fresh : Bool} → i < end → file ≡ value_at tree i
    → Added before file after fresh → not fresh ≡ true → TwiceFrom tree i end before (Some i) after
twice_here tree i end before {file} {after} {fresh} inside f a known = record { finds = go }
  where
    go : (ds : List Document) (seen : List ℕ) → Bundle ds tree i end → Room before ds → SetIs before seen → TwiceOf tree i seen ds (Some i) after
    go [] seen b w s = absurd (omega (arith, bundle_none b))
    go (d ∷ ds) seen b w s =
        let e : d.filename ≡ value_at tree i = (bundle_first b).file in
        let bit : bit_of before file ≡ true = not-false (bit_of before file) (sym a.is_new ∙ not-true fresh known) in
        let has : has_text (value_at tree i) seen ≡ true = ap (λ (n : ℕ). has_text n seen) (sym f)
        ∙ sym (s.has file (subst (λ (n : ℕ). n < set_size) (e ∙ sym f) b.numbers.0)) ∙ bit in
        record {
          answer = rw has;
          distinct = λ h. is_there_lem h;
          apart = λ h. is_there_lem h;
          present = λ h. is_there_lem h;
        }

pub twice_more : (tree : List ℕ) (i end : ℕ) (before : List ℕ) {file next : ℕ} {mid after : List ℕ} {fresh : Bool} {r : Found} → i < end
    → file ≡ value_at tree i → Added before file mid fresh → not fresh ≡ false → next ≡ skip_c tree i end → TwiceFrom tree next end mid r after
    → TwiceFrom tree i end before r after
twice_more tree i end before {file} {next} {mid} {after} {fresh} {r} inside f a new q T = record { finds = go }
  where
    go : (ds : List Document) (seen : List ℕ) → Bundle ds tree i end → Room before ds → SetIs before seen → TwiceOf tree i seen ds r after
    go [] seen b w s = absurd (omega (arith, bundle_none b))
    go (d ∷ ds) seen b w s =
        let e : d.filename ≡ file = (bundle_first b).file ∙ sym f in
        let small : file < set_size = subst (λ (n : ℕ). n < set_size) e b.numbers.0 in
        let bit : bit_of before file ≡ false = not-true (bit_of before file) (sym a.is_new ∙ not-false fresh new) in
        let has : has_text file seen ≡ false = sym (s.has file small) ∙ bit in
        let nx = bundle_next b q in
        let t : TwiceOf tree next (file ∷ seen) ds r after
        = T.finds ds (file ∷ seen) nx.1 (rw (a.words, add_bit_length before file) w.2)
        (rw a.words (set_add before seen file s (rw (← e) w.0))) in
        record {
          answer = rw (← f, has, ← nx.0) t.answer;
          distinct = λ h. (rw e (t.apart h file (has_head file seen)), t.distinct h);
          apart = λ h n m. find has t h n m (ℕ_discrete d.filename n);
          present = λ h l p. t.present h l (λ m g. p m g ∙ rw e (join (eqb file m) (has_text m seen) (has_text m (files ds))));
        }
      where
        find : has_text file seen ≡ false → TwiceOf tree next (file ∷ seen) ds r after → r ≡ None → (n : ℕ) → has_text n seen ≡ true
            → Dec (d.filename ≡ n) → find_document n (d ∷ ds) ≡ none
        find has t h n m (yes k) = never (sym m ∙ ap (λ (x : ℕ). has_text x seen) (sym k ∙ (bundle_first b).file ∙ sym f) ∙ has)
        find has t h n m (no k) =
            rw (ne_eqb d.filename n k) (t.apart h n (has_tail n file seen (λ z. k ((bundle_first b).file ∙ sym f ∙ z)) ∙ m))

pub twice_whole : (tree : List ℕ) (end : ℕ) (before : List ℕ) {r : Found} {after : List ℕ} → TwiceFrom tree 0 end before r after
    → FindsTwice tree end before r after
twice_whole tree end before {r} {after} T = record {
  finds = λ ds b w s.
      let t = T.finds ds [] b w s in
      record {
        answer = λ e. t.answer
            ∙ ap (λ (l : List ℕ). found_of (twice [] tree l))
            (sym (places (length tree / 4) ds tree 0 (length tree / 4) b.documents (b.fills ∙ e) (omega arith)));
        distinct = t.distinct;
        present = λ h. t.present h (files ds) (λ m g. refl);
      };
}

-- what holds of the includes among the definitions from a place up to the end: at the end, at another definition, and at an include
module _ (tree : List ℕ) (j end : ℕ) (P : List ℕ → Type 0) where
  pub defs_end : end ≤ j → P [] → (defs : List Definition) → RunAt DefinitionAt size_d defs tree j → j + run_size size_d defs ≡ end → P (dependencies defs)
  unfolding run_size
  defs_end past p [] a f = p
  defs_end past p (d ∷ ds) a f = absurd (omega (arith, size_d_pos d))

  pub defs_other : {kind next : ℕ} → j < end → kind ≡ kind_at tree j → (kind ≡ 11 → ⊥) → next ≡ skip_c tree j end
      → ((ds : List Definition) → RunAt DefinitionAt size_d ds tree next → next + run_size size_d ds ≡ end → P (dependencies ds))
      → (defs : List Definition) → RunAt DefinitionAt size_d defs tree j → j + run_size size_d defs ≡ end → P (dependencies defs)
  unfolding RunAt run_size
  defs_other inside k ne q p [] a f = absurd (omega arith)
  defs_other {next = next} inside k ne q p (d ∷ ds) a f =
      let e : j + (size_d d + run_size size_d ds) ≡ end = f in
      let nx : next ≡ j + size_d d = q ∙ skip_law tree j end (head_d d a.0) (size_d_pos d) (omega arith) in
      go d (λ r. ne (k ∙ (head_d d a.0).kind_is ∙ r)) (p ds (rw nx a.1) (omega arith))
    where
      go : (x : Definition) → (kind_d x ≡ 11 → ⊥) → P (dependencies ds) → P (dependencies (x ∷ ds))
      go (LocalDefinition x) h r = r
      go (IncludeDefinition n x y) h r = absurd (h refl)
      go (ModelDefinition x y) h r = r
      go (PublicModelDefinition x y) h r = r
      go (PlainFunction x) h r = r
      go (PublicFunction x) h r = r
      go (ImplementDefinition x y) h r = r
      go (ApplyDefinition x y) h r = r

  pub defs_more : {kind file next : ℕ} → j < end → kind ≡ kind_at tree j → kind ≡ 11 → file ≡ value_at tree j → next ≡ skip_c tree j end
      → ((ds : List Definition) → RunAt DefinitionAt size_d ds tree next → next + run_size size_d ds ≡ end → P (file ∷ dependencies ds))
      → (defs : List Definition) → RunAt DefinitionAt size_d defs tree j → j + run_size size_d defs ≡ end → P (dependencies defs)
  unfolding RunAt run_size DefinitionAt
  defs_more inside k eleven v q p [] a f = absurd (omega arith)
  defs_more {kind} {file} {next} inside k eleven v q p (d ∷ ds) a f = go d (see_d d tree j a.0 k eleven) a f
    where
      go : (x : Definition) → ViewD 11 x → RunAt DefinitionAt size_d (x ∷ ds) tree j → j + run_size size_d (x ∷ ds) ≡ end → P (dependencies (x ∷ ds))
      go (IncludeDefinition index t l) v_Include_definition u e =
          let f : j + (size_d (IncludeDefinition index t l) + run_size size_d ds) ≡ end = e in
          let nx : next ≡ j + size_d (IncludeDefinition index t l)
          = q ∙ skip_law tree j end (head_d (IncludeDefinition index t l) u.0) (size_d_pos (IncludeDefinition index t l)) (omega arith) in
          let same : t.value ≡ file = ap (λ (x : Token). x.value) u.0.0.token ∙ sym v in
          rw same (p ds (rw nx u.1) (omega arith))
      go (LocalDefinition _) s u e = elim s [ ]
      go (ModelDefinition _ _) s u e = elim s [ ]
      go (PublicModelDefinition _ _) s u e = elim s [ ]
      go (PlainFunction _) s u e = elim s [ ]
      go (PublicFunction _) s u e = elim s [ ]
      go (ImplementDefinition _ _) s u e = elim s [ ]
      go (ApplyDefinition _ _) s u e = elim s [ ]

-- `add_includes`
neither : (a b : Bool) → cond a true b ≡ false → (a ≡ false) × (b ≡ false)
neither true b h = never h
neither false b h = (refl, h)

module _ (tree : List ℕ) (j end : ℕ) (standing : List ℕ) (any : Bool) (set : List ℕ) where
  pub includes_end : end ≤ j → Includes tree j end standing any set set any
  includes_end past = record { adds = defs_end tree j end (λ ns. set ≡ add_bits standing set ns) past refl; still = λ h. (h, refl) }

  pub includes_other : {kind next : ℕ} {after : List ℕ} {r : Bool} → j < end → kind ≡ kind_at tree j → (kind ≡ 11 → ⊥) → next ≡ skip_c tree j end
      → Includes tree next end standing any set after r → Includes tree j end standing any set after r
  includes_other {after = after} inside k ne q I = record {
    adds = defs_other tree j end (λ ns. after ≡ add_bits standing set ns) inside k ne q I.adds;
    still = I.still;
  }

  pub includes_more : {kind file next : ℕ} {mid after : List ℕ} {fresh grew r : Bool} → j < end → kind ≡ kind_at tree j → kind ≡ 11
      → file ≡ value_at tree j → AddedAbsent standing set file mid fresh → next ≡ skip_c tree j end → grew ≡ cond any true fresh
      → Includes tree next end standing grew mid after r → Includes tree j end standing any set after r
  unfolding add_bit
  includes_more {kind} {file} {next} {mid} {after} {fresh} {grew} {r} inside k eleven v a q g I = record {
    adds = defs_more tree j end (λ ns. after ≡ add_bits standing set ns) inside k eleven v q (λ ds u f. I.adds ds u f ∙ rw a.words);
    still = λ h. quiet (I.still h);
  }
    where
      unchanged : (s b : Bool) → bit_of standing file ≡ s → bit_of set file ≡ b → fresh ≡ cond s false (not b) → fresh ≡ false → mid ≡ set
      unchanged true b p w f h = a.words ∙ rw p
      unchanged false true p w f h = a.words ∙ rw (p, w)
      unchanged false false p w f h = never (sym f ∙ h)

      quiet : (grew ≡ false) × (after ≡ mid) → (any ≡ false) × (after ≡ set)
      quiet p =
          let n = neither any fresh (sym g ∙ p.0) in
          (n.0, p.1 ∙ unchanged (bit_of standing file) (bit_of set file) refl refl a.is_new n.1)

-- `reach`
not_unread : (a b : Bool) → cond a false b ≡ false → (a ≡ true → ⊥) → b ≡ false
not_unread true b h ne = absurd (ne refl)
not_unread false b h ne = h

is_unread : (a b : Bool) → cond a false b ≡ true → b ≡ true
is_unread true b h = never (sym h)
is_unread false b h = h

module _ (tree : List ℕ) (i end : ℕ) (standing read set : List ℕ) (any : Bool) (next : List ℕ) where
  pub reach_end : end ≤ i → Reaches tree i end standing read set any next next any
  reach_end past = record { adds = go; still = λ h. (h, refl) }
    where
      go : (ds : List Document) → Bundle ds tree i end → Room next ds → Covers standing read next ds → next ≡ reach_bits standing set ds next
      go [] b w c = refl
      go (d ∷ ds) b w c = absurd (omega (arith, bundle_past b))

  module _ {last file : ℕ} (inside : i < end) (l : last ≡ skip_c tree i end) (v : file ≡ value_at tree i) where
    pub reach_past : {after : List ℕ} {r : Bool} → false ≡ cond (bit_of read file) false (bit_of set file)
        → Reaches tree last end standing read set any next after r
        → Reaches tree i end standing read set any next after r
    reach_past {after} {r} out R = record { adds = go; still = R.still }
      where
        -- it was read, and what it includes is in; or it is not in the set
        same : (t : Bool) (deps : List ℕ) → bit_of read file ≡ t → (bit_of read file ≡ true → all_known standing next deps ≡ true)
            → cond (bit_of set file) (add_bits standing next deps) next ≡ next
        same true deps q c = either_way (bit_of set file)
          where
            either_way : (t : Bool) → cond t (add_bits standing next deps) next ≡ next
            either_way true = added_already standing next deps (c q)
            either_way false = refl
        same false deps q c =
            let no' : bit_of set file ≡ false = not_unread (bit_of read file) (bit_of set file) (sym out) (λ e. never (sym e ∙ q)) in
            rw no' refl

        go : (ds : List Document) → Bundle ds tree i end → Room next ds → Covers standing read next ds → after ≡ reach_bits standing set ds next
        go [] b w c = absurd (omega (arith, bundle_none b))
        go (d ∷ ds) b w c =
            let f : d.filename ≡ file = (bundle_first b).file ∙ sym v in
            let deps = dependencies d.definitions in
            let e : cond (bit_of set d.filename) (add_bits standing next deps) next ≡ next
            = rw f (same (bit_of read file) deps refl (λ h. c.0 (rw f h))) in
            R.adds ds (bundle_next b l).1 w.2 c.1 ∙ ap (λ (x : List ℕ). reach_bits standing set ds x) (sym e)

    pub reach_more : {mid after : List ℕ} {grew r : Bool} → true ≡ cond (bit_of read file) false (bit_of set file)
        → Includes tree (i + 1) last standing any next mid grew
        → Reaches tree last end standing read set grew mid after r → Reaches tree i end standing read set any next after r
    reach_more {mid} {after} {grew} {r} has I R = record { adds = go; still = λ h. quiet (R.still h) }
      where
        quiet : (grew ≡ false) × (after ≡ mid) → (any ≡ false) × (after ≡ next)
        quiet p = let s = I.still p.0 in (s.0, p.1 ∙ s.1)

        go : (ds : List Document) → Bundle ds tree i end → Room next ds → Covers standing read next ds → after ≡ reach_bits standing set ds next
        go [] b w c = absurd (omega (arith, bundle_none b))
        go (d ∷ ds) b w c =
            let nx = bundle_next b l in
            let deps = dependencies d.definitions in
            let m : mid ≡ add_bits standing next deps = I.adds d.definitions (bundle_first b).definitions (omega (arith, nx.0)) in
            let in' : bit_of set d.filename ≡ true
            = ap (λ (x : ℕ). bit_of set x) ((bundle_first b).file ∙ sym v) ∙ is_unread (bit_of read file) (bit_of set file) (sym has) in
            R.adds ds nx.1 (rw (m, add_bits_length standing next deps) w.2) (rw m (covers_added standing read next deps ds w.1 c.1))
            ∙ rw (in', m) refl

-- `narrow_includes`
module _ (tree : List ℕ) (j end : ℕ) where
  pub narrow_defs_end : end ≤ j → NarrowIncludes tree j end true
  narrow_defs_end past = record { below = λ h. defs_end tree j end (λ ns. Below narrow_size ns) past tt }

  pub narrow_defs_other : {kind next : ℕ} {r : Bool} → j < end → kind ≡ kind_at tree j → (kind ≡ 11 → ⊥) → next ≡ skip_c tree j end
      → NarrowIncludes tree next end r → NarrowIncludes tree j end r
  narrow_defs_other inside k ne q N = record { below = λ h. defs_other tree j end (λ ns. Below narrow_size ns) inside k ne q (N.below h) }

  pub narrow_defs_more : {kind file next : ℕ} {r : Bool} → j < end → kind ≡ kind_at tree j → kind ≡ 11 → file ≡ value_at tree j → file < narrow_size
      → next ≡ skip_c tree j end → NarrowIncludes tree next end r → NarrowIncludes tree j end r
  narrow_defs_more inside k eleven v small q N = record {
    below = λ h. defs_more tree j end (λ ns. Below narrow_size ns) inside k eleven v q (λ ds u f. (small, N.below h ds u f));
  }

  pub narrow_defs_not : NarrowIncludes tree j end false
  narrow_defs_not = record { below = λ h. never (sym h) }

-- `narrow`
module _ (tree : List ℕ) (i end : ℕ) where
  pub narrow_end : end ≤ i → Narrows tree i end true
  narrow_end past = record { below = λ h. go }
    where
      go : (ds : List Document) → Bundle ds tree i end → InSets narrow_size ds
      go [] b = tt
      go (d ∷ ds) b = absurd (omega (arith, bundle_past b))

  pub narrow_more : {last file : ℕ} {here r : Bool} → i < end → last ≡ skip_c tree i end → file ≡ value_at tree i → file < narrow_size
      → NarrowIncludes tree (i + 1) last here → here ≡ true → Narrows tree last end r → Narrows tree i end r
  narrow_more {last} {file} {here} {r} inside l v small I yes' N = record { below = go }
    where
      go : r ≡ true → (ds : List Document) → Bundle ds tree i end → InSets narrow_size ds
      go h [] b = absurd (omega (arith, bundle_none b))
      go h (d ∷ ds) b =
          let nx = bundle_next b l in (
            rw ((bundle_first b).file, ← v) small,
            I.below yes' d.definitions (bundle_first b).definitions (omega (arith, nx.0)),
            N.below h ds nx.1,
          )

  pub narrow_not : Narrows tree i end false
  narrow_not = record { below = λ h. never (sym h) }

-- `needed`
pub record NeededFrom (tree : List ℕ) (i end : ℕ) (standing read set next after : List ℕ) : Type 0 where
  pub needs : (files : List ℕ) → SetIs standing files → (ds rest : List Document) (l : List ℕ) → Bundle ds tree 0 end → Distinct ds → Bundle rest tree i end
      → Room set ds → Ascends 0 l → Below set_size l → SetIs set l → next ≡ set → Covers standing read set ds → SetIs after (needed_in (length rest) files ds l)

pub needed_end : (tree : List ℕ) (i end : ℕ) (standing read set next : List ℕ) → end ≤ i → NeededFrom tree i end standing read set next set
unfolding needed_in
needed_end tree i end standing read set next past = record { needs = λ files s. go files }
  where
    go : (files : List ℕ) (ds rest : List Document) (l : List ℕ) → Bundle ds tree 0 end → Distinct ds → Bundle rest tree i end → Room set ds → Ascends 0 l
        → Below set_size l → SetIs set l → next ≡ set → Covers standing read set ds → SetIs set (needed_in (length rest) files ds l)
    go files ds [] l b u r room a w s q c = s
    go files ds (d ∷ rest) l b u r room a w s q c = absurd (omega (arith, bundle_past r))

module _ (tree : List ℕ) (i end : ℕ) (standing read set next : List ℕ) {mid : List ℕ} {grew : Bool}
    (R : Reaches tree 0 end standing read set false next mid grew) where
  all_reached : (ds : List Document) → Bundle ds tree 0 end → Room set ds → next ≡ set → Covers standing read set ds → mid ≡ reach_bits standing set ds next
  all_reached ds b room q c = R.adds ds b (rw q room) (rw q c)

  reached : {files : List ℕ} → SetIs standing files → (ds : List Document) (l : List ℕ) → Bundle ds tree 0 end → Distinct ds → Room set ds → SetIs set l
      → next ≡ set → Covers standing read set ds → SetIs mid (reached_from files ds l l)
  reached stands ds l b u room s q c = rw (all_reached ds b room q c) (set_reached set l next l ds stands s (rw q s) u b.numbers (rw q room))

  pub needed_stop : not grew ≡ true → NeededFrom tree i end standing read set next set
  needed_stop g = record {
    needs = λ files stands ds rest l b u r room a w s q c.
        let still : mid ≡ set = (R.still (not-true grew g)).1 ∙ q in
        let m : SetIs set (reached_from files ds l l)
        = subst (λ (x : List ℕ). SetIs x (reached_from files ds l l)) still (reached stands ds l b u room s q c) in
        let same : reached_from files ds l l ≡ l
        = same_members 0 (reached_from files ds l l) l (reached_ascends files ds l l a) a (reached_below files ds l l b.numbers w) w
        (λ k h. sym (m.has k h) ∙ s.has k h) in
        rw (needed_still files (length rest) ds l same) s;
  }

  pub needed_more : {last : ℕ} {read' copied after : List ℕ} → i < end → last ≡ skip_c tree i end → read' ≡ set → copied ≡ mid
      → NeededFrom tree last end standing read' copied mid after → NeededFrom tree i end standing read set next after
  unfolding needed_in
  needed_more {last} {read'} {copied} {after} inside l e c N = record { needs = go }
    where
      go : (files : List ℕ) → SetIs standing files → (ds rest : List Document) (n : List ℕ) → Bundle ds tree 0 end → Distinct ds → Bundle rest tree i end
          → Room set ds → Ascends 0 n → Below set_size n → SetIs set n → next ≡ set → Covers standing read set ds
          → SetIs after (needed_in (length rest) files ds n)
      go files stands ds [] n b u r room a w s q v = absurd (omega (arith, bundle_none r))
      go files stands ds (d ∷ rest) n b u r room a w s q v =
          let m = all_reached ds b room q v in
          N.needs files stands ds rest (reached_from files ds n n) b u (bundle_next r l).1 (rw (c, m, reach_length standing set ds next, q) room)
          (reached_ascends files ds n n a) (reached_below files ds n n b.numbers w)
          (rw c (reached stands ds n b u room s q v)) (sym c) (rw (e, c, m) (covers_reached standing set ds next (rw q room)))

pub needed_start : (tree : List ℕ) (end : ℕ) (standing read set next : List ℕ) {root : ℕ} {set' next' after : List ℕ} {f g : Bool} → root ≡ value_at tree 0
    → next ≡ set → AddedAbsent standing set root set' f → AddedAbsent standing next root next' g → NeededFrom tree 0 end standing read set' next' after
    → Needs tree end standing read set after
needed_start tree end standing read set next {root} {set'} {next'} {after} v q a b N = record {
  needs = λ files stands d ds w u room s e.
      let n : d.filename ≡ root = (bundle_first w).file ∙ sym v in
      let one : set' ≡ add_bits standing set (d.filename ∷ []) = a.words ∙ rw n refl in
      N.needs files stands (d ∷ ds) (d ∷ ds) (insert_numbers files (d.filename ∷ []) []) w u w
      (subst (λ (n : ℕ). InSets (n * 64) (d ∷ ds)) (sym (ap length one ∙ add_bits_length standing set (d.filename ∷ []))) room)
      (inserts_ascend files (d.filename ∷ []) [] tt) (inserts_below files (d.filename ∷ []) [] tt (w.numbers.0, tt))
      (rw one (set_adds set [] (d.filename ∷ []) stands s (room.0, tt))) (b.words ∙ rw (q, ← a.words))
      (covers_none standing read set' (d ∷ ds) e w.numbers);
}

-- `missing`
pub record MissesFrom (set present : List ℕ) (k : ℕ) (r : Found) : Type 0 where
  pub misses : (ds : List Document) (l : List ℕ) → SetFrom set k l → SetIs present (files ds) → r ≡ found_of (missing ds l)

pub misses_end : (set present : List ℕ) (k : ℕ) → set_size ≤ k → MissesFrom set present k None
misses_end set present k past = record { misses = go }
  where
    go : (ds : List Document) (l : List ℕ) → SetFrom set k l → SetIs present (files ds) → None ≡ found_of (missing ds l)
    go ds [] s p = refl
    go ds (x ∷ xs) s p = absurd (omega (arith, s.below.0, s.ascends.0))

module _ (set present : List ℕ) (k : ℕ) {n : ℕ} (next : NextIn set k n) where
  here : (ds : List Document) (l : List ℕ) (s : Split set n l) → n < set_size → SetIs present (files ds)
      → missing ds l ≡ cond (bit_of present n) (missing ds s.rest) (some n)
  here ds l s small p = rw (s.is, p.has n small) (missing_by_lem n ds (missing ds s.rest))

  pub misses_here : n < set_size → false ≡ bit_of present n → MissesFrom set present k (Some n)
  misses_here small out = record {
    misses = λ ds l s p.
        let t = next_some l s next small in
        let e : missing ds l ≡ some n = here ds l t small p ∙ ap (λ (b : Bool). cond b (missing ds t.rest) (some n)) (sym out) in
        sym (ap found_of e);
  }

  pub misses_more : {r : Found} → n < set_size → true ≡ bit_of present n → MissesFrom set present (n + 1) r → MissesFrom set present k r
  misses_more small there M = record {
    misses = λ ds l s p.
        let t = next_some l s next small in
        let e : missing ds l ≡ missing ds t.rest = here ds l t small p ∙ ap (λ (b : Bool). cond b (missing ds t.rest) (some n)) (sym there) in
        M.misses ds t.rest t.after p ∙ sym (ap found_of e);
  }

  pub misses_none : set_size ≤ n → MissesFrom set present k None
  misses_none big = record { misses = λ ds l s p. ap (λ (x : List ℕ). found_of (missing ds x)) (sym (next_none l s next big)) }

pub misses_whole : (set present : List ℕ) {r : Found} → MissesFrom set present 0 r → Misses set present r
misses_whole set present M = record { misses = λ ds l a b s p. M.misses ds l (set_from a b s) p }
