-- One lemma for each way through `publish_entry`, over what its calls ensure. Assumes nothing.
use Prim.Native.Nat.{ℕ, suc, ◌+◌, ◌-◌, ◌*◌, ◌<◌}
use native.Mathlib.Omega.{arith}
use mathlib.Core.Path.{◌≡◌, refl, sym, ap, ◌∙◌}
use mathlib.Core.Bool.{Bool, true, cond}
use mathlib.Core.Option.{none, some}
use mathlib.Core.List.{List, [], ◌∷◌, ◌++◌, append_assoc}
use lib.ListN.{length, get_or, set, length-append, length-set}
use lib.Dec.{eqb}
use borrow.Author.Tests.{eqb-true, eq-eqb}
use Rattle.words.specs.Areas.{public_names_area, Patched}
use Rattle.definition.specs.FunctionState.{Entry}
use Rattle.definition.specs.Uses.{Limits}
use Rattle.definition.specs.Book.{Context, Placed, insert_entry, public_count, publish}
use Rattle.definition.specs.Program.{Entries, entries_from, public_entries, assembly_publics, public_table}
use Rattle.definition_laws.proofs.Cells.{all_any, entries_length}
use Rattle.std.specs.Prelude.{Some, None}
use Rattle.building.specs.declared.taking.Taken.{Taken}
use Rattle.building.specs.Found.{Found, found_of}
use Rattle.building.specs.Taking.{Took}
use Rattle.building.specs.RepresentsMachine.{Filled}
use Rattle.building.proofs.ContextLaws.{took_law}
use Rattle.compiler_laws.specs.declared.book.Book as struct
use Rattle.compiler_laws.specs.BookAreas.{book_areas, BookContents, RepresentsAreas}
use Rattle.compiler_laws.specs.IncludeSteps.{is_pair, find_pair_c}
use Rattle.compiler_laws.specs.ModelSteps.{Publishes}
use Rattle.compiler_laws.proofs.BookCounts.{with_public_count}
use Rattle.compiler_laws.proofs.UnchangedByModels.{unchanged_publish}
use Rattle.compiler_laws.proofs.BookStepsInOrder.{keeping_longer}
use Rattle.compiler_laws.proofs.MapEntries.{found_at, found_none, insert_by, Inserting, there, new, inserting, patch_there, rows_from, rows_count}
use Rattle.compiler_laws.proofs.MapEntries.{rows_more}
use Rattle.compiler_laws.proofs.MapEntries.{row_word, row_set}
use Rattle.compiler_laws.proofs.AreaEntries.{keeping_fits, keeping_grown, contents_publics, fitted_publics}

abbrev public_words : ℕ → Entry → List ℕ
public_words file e = file ∷ e.name ∷ e.index ∷ []

abbrev no_entry : Entry
no_entry = record { name = 0; index = 0 }

abbrev entry_of : ℕ → ℕ → Entry
entry_of name place = record { name = name; index = place }

insert_by_lem : (e : Entry) (xs : List Entry) → insert_entry e xs ≡ insert_by (λ x. eqb x.name e.name) e xs
insert_by_lem e [] = refl
insert_by_lem e (x ∷ xs) = ap (λ (l : List Entry). cond (eqb x.name e.name) (e ∷ xs) (x ∷ l)) (insert_by_lem e xs)

-- a book's names, one entry each
public_rows : (file i : ℕ) (es : List Entry) → public_entries file es ≡ rows_from (public_words file) i es
public_rows file i [] = refl
public_rows file i (e ∷ es) = ap (λ (l : Entries). public_words file e ∷ l) (public_rows file (i + 1) es)

public_length : (file : ℕ) (es : List Entry) → length (public_entries file es) ≡ length es
public_length file [] = refl
public_length file (e ∷ es) = ap suc (public_length file es)

pub before_length : (c : Context) → length (public_table c) ≡ public_count c
before_length c =
    length-append c.prior.publics (entries_from assembly_publics 0 c.assemblies)
    ∙ ap (λ (n : ℕ). length c.prior.publics + n)
    (entries_length assembly_publics (λ a. length a.publics) 0 (λ j a u. public_length a.index a.publics) (all_any c.assemblies))

-- what the search finds, by the names that are there; what is set and what is taken, by the insert
module _ (file name place : ℕ) (front : Entries) (xs : List Entry) {u : List ℕ} {n : ℕ} (filled : Filled 3 u (front ++ public_entries file xs) n) where
  rows : Filled 3 u (front ++ rows_from (public_words file) 0 xs) n
  rows = rw (← public_rows file 0 xs) filled

  pub public_count_lem : n ≡ length front + length xs
  public_count_lem = rows_count (public_words file) front xs no_entry (omega arith) rows

  found_in : {from : ℕ} → from ≡ length front
      → Inserting no_entry (λ x. eqb x.name name) (entry_of name place) xs from (find_pair_c 3 from n file name u)
  found_in {from} q =
      let many : n - from ≡ length xs = omega (arith, public_count_lem) in
      rw (many, q) (inserting no_entry (λ x. eqb x.name name) (entry_of name place) (is_pair 3 file name u) xs (length front)
      (λ j h. rw (
        row_word (public_words file) front xs no_entry (omega arith) rows j 0 h (omega arith),
        row_word (public_words file) front xs no_entry (omega arith) rows j 1 h (omega arith),
        eq-eqb file file refl,
      )))

  set_in : (j : ℕ) {u' : List ℕ} → j < length xs → eqb (get_or xs j no_entry).name name ≡ true
      → insert_by (λ x. eqb x.name name) (entry_of name place) xs ≡ set xs j (entry_of name place)
      → u' ≡ set u ((length front + j) * 3 + 2) place → Filled 3 u' (front ++ public_entries file (insert_entry (entry_of name place) xs)) n
  set_in j h r set_is words =
      let words' : set (public_words file (get_or xs j no_entry)) 2 place ≡ public_words file (entry_of name place) =
      rw (eqb-true (get_or xs j no_entry).name name r) in
      rw (words, insert_by_lem (entry_of name place) xs, set_is, public_rows file 0 (set xs j (entry_of name place)))
      (row_set (public_words file) front xs no_entry (omega arith) rows j 2 place (entry_of name place) h (omega arith) words')

more_in : (file : ℕ) (e : Entry) (front : Entries) (xs : List Entry) → insert_entry e xs ≡ xs ++ (e ∷ [])
    → (front ++ public_entries file xs) ++ (public_words file e ∷ []) ≡ front ++ public_entries file (insert_entry e xs)
more_in file e front xs is =
    append_assoc front (public_entries file xs) (public_words file e ∷ [])
    ∙ ap (λ (l : Entries). front ++ l) (ap (λ (l : Entries). l ++ (public_words file e ∷ [])) (public_rows file 0 xs)
    ∙ sym (rows_more (public_words file) 0 xs e) ∙ sym (public_rows file 0 (xs ++ (e ∷ []))) ∙ ap (λ (l : List Entry). public_entries file l) (sym is))

-- `publish`
module _ {place name : ℕ} {s : struct.Book} {u : List ℕ} where
  pub publish_full : (s.full ≡ 0 → ⊥) → Publishes place name s u s u
  publish_full ne = record { meets = λ c k f m p t l n b e κ ps q H same. keeping_longer (unchanged_publish name q).uses ne H }

  pub publish_there : s.full ≡ 0 → {g : Found} {i : ℕ} → g ≡ found_of (find_pair_c 3 s.first_public s.publics s.file name u) → g ≡ Some i
      → {u' : List ℕ} {a : Bool} → Patched 3 i 2 place u u' a → Publishes place name s u s u'
  publish_there z {g} {i} searched at {u'} P = record {
    meets = λ c k f m p t l n b e κ ps q H same.
        let S = H.rest z in
        let file : s.file ≡ q.book.assembly.index = S.file in
        let from : s.first_public ≡ length (public_table q.book.context) =
        S.first_public ∙ sym (before_length q.book.context) in
        let found : find_pair_c 3 s.first_public s.publics q.book.assembly.index name u ≡ some i =
        rw file at (found_at (find_pair_c 3 s.first_public s.publics s.file name u) searched at) in
        go c k f m p t l n b e κ ps q H (same z) S from
        (rw found at (found_in q.book.assembly.index name q.place (public_table q.book.context)
        q.book.assembly.publics S.publics from));
  }
    where
      go : (c k f m p t l n b e : List ℕ) (κ : Limits) (ps : List ℕ) (q : Placed) → RepresentsAreas κ ps (book_areas s c k f m p t l u n b e) q.book
          → place ≡ q.place → BookContents ps (book_areas s c k f m p t l u n b e) q.book
          → s.first_public ≡ length (public_table q.book.context)
          → Inserting no_entry (λ x. eqb x.name name) (entry_of name q.place) q.book.assembly.publics s.first_public (some i)
          → RepresentsAreas κ ps (book_areas s c k f m p t l u' n b e) (publish name q)
      go c k f m p t l n b e κ ps q H same S from (there j at h r set_is first) =
          let xs = q.book.assembly.publics in
          let file = q.book.assembly.index in
          let front = public_table q.book.context in
          let count = public_count_lem file name q.place front xs S.publics in
          let words : u' ≡ set u (i * 3 + 2) place = patch_there i 2 place (omega arith) (omega arith) (omega arith) S.publics P in
          let where' : i ≡ length front + j = omega arith in
          let filled = set_in file name q.place front xs S.publics j h r set_is (words ∙ rw (where', same)) in
          keeping_fits H z public_names_area (public_count q.book.context + length (insert_entry (entry_of name q.place) xs)) _ refl
          (fitted_publics (ap length words ∙ simp length-set) H.fitted) z
          (omega (
            arith,
            H.fitted.publics,
            filled.room,
            ap length words,
            length-set u (i * 3 + 2) place,
            S.first_public,
            public_count_lem file name q.place front (insert_entry (entry_of name q.place) xs) filled,
          )) (contents_publics S filled)

  pub publish_new : s.full ≡ 0 → {g : Found} → g ≡ found_of (find_pair_c 3 s.first_public s.publics s.file name u) → g ≡ None
      → {r : Taken} {u' : List ℕ} → Took public_names_area s.full s.publics (s.file ∷ name ∷ place ∷ []) u r u'
      → Publishes place name s u (with_public_count r s) u'
  publish_new z {g} searched lost {r} {u'} T = record {
    meets = λ c k f m p t l n b e κ ps q H same.
        let S = H.rest z in
        let file : s.file ≡ q.book.assembly.index = S.file in
        let from : s.first_public ≡ length (public_table q.book.context) =
        S.first_public ∙ sym (before_length q.book.context) in
        let found : find_pair_c 3 s.first_public s.publics q.book.assembly.index name u ≡ none =
        rw file at (found_none (find_pair_c 3 s.first_public s.publics s.file name u) searched lost) in
        go c k f m p t l n b e κ ps q H (same z) S from
        (rw found at (found_in q.book.assembly.index name q.place (public_table q.book.context)
        q.book.assembly.publics S.publics from));
  }
    where
      go : (c k f m p t l n b e : List ℕ) (κ : Limits) (ps : List ℕ) (q : Placed) → RepresentsAreas κ ps (book_areas s c k f m p t l u n b e) q.book
          → place ≡ q.place → BookContents ps (book_areas s c k f m p t l u n b e) q.book
          → s.first_public ≡ length (public_table q.book.context)
          → Inserting no_entry (λ x. eqb x.name name) (entry_of name q.place) q.book.assembly.publics s.first_public none
          → RepresentsAreas κ ps (book_areas (with_public_count r s) c k f m p t l u' n b e) (publish name q)
      go c k f m p t l n b e κ ps q H same S from (new more-is) =
          let xs = q.book.assembly.publics in
          let index = q.book.assembly.index in
          let front = public_table q.book.context in
          let count = public_count_lem index name q.place front xs S.publics in
          let is : insert_entry (entry_of name q.place) xs ≡ xs ++ (entry_of name q.place ∷ []) = insert_by_lem (entry_of name q.place) xs ∙ more-is in
          let file : s.file ≡ index = S.file in
          let entry : (s.file ∷ name ∷ place ∷ []) ≡ public_words index (entry_of name q.place) = rw (file, same) in
          let entries : (front ++ public_entries index xs) ++ ((s.file ∷ name ∷ place ∷ []) ∷ [])
          ≡ front ++ public_entries index (insert_entry (entry_of name q.place) xs) =
          ap (λ (y : List ℕ). (front ++ public_entries index xs) ++ (y ∷ [])) entry ∙ more_in index (entry_of name q.place) front xs is in
          keeping_grown H z public_names_area (public_count q.book.context + length (insert_entry (entry_of name q.place) xs)) _ refl
          (took_law T z S.publics) (omega arith) refl H.fitted.publics
          (omega (arith, ap length is, length-append xs (entry_of name q.place ∷ []), S.first_public)) refl (λ e. fitted_publics e H.fitted)
          (λ f q. rw q (contents_publics S (rw (← entries) f)))
