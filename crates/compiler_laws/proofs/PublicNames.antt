-- The name that an include takes: what the searches in areas 12 and 8 find is what the definition finds among the books before. By induction over the
-- books and over the entries of their public names. Assumes nothing.
use Prim.Native.Nat.{ℕ, zero, suc, ◌+◌, ◌-◌, ◌≤◌, ◌<◌}
use native.Mathlib.Nat.{zero-add, suc-add, sub-zero}
use native.Mathlib.Omega.{arith}
use mathlib.Core.Path.{◌≡◌, refl, sym, ap, ◌∙◌, subst}
use mathlib.Core.Bool.{Bool, true, false, cond}
use mathlib.Core.Option.{Option, none, some}
use mathlib.Core.List.{List, [], ◌∷◌, ◌++◌}
use lib.ListN.{length, get_or}
use lib.Dec.{eqb}
use borrow.Author.Tests.{eq-eqb, ne_eqb}
use Rattle.words.specs.Areas.{entry_field}
use Rattle.words.proofs.Entries.{field_in}
use Rattle.definition.specs.FunctionState.{Entry, find_name, or_else}
use Rattle.definition.specs.Book.{Assembly, Book, find_assembly, public_of, included_from, included_name, with_constant, included_names, is_there}
use Rattle.definition_laws.proofs.Program.{one_name}
use Rattle.definition.specs.Program.{Entries, entries_from, public_entries, assembly_publics, public_table}
use Rattle.definition.specs.Prior.{book_index, has_key, find_public}
use Rattle.definition.specs.Within.{All, nil, ◌&◌}
use Rattle.building.specs.Found.{first_from}
use Rattle.building.proofs.Filling.{filled_field}
use Rattle.compiler_laws.specs.BookAreas.{BookAreas, BookContents, NamesBooks}
use Rattle.compiler_laws.specs.IncludeSteps.{is_book, find_book_c, is_pair, find_pair_c, public_constant, included_by, included_c, is_some, all_names_c}

abbrev nobody : Assembly
nobody = record { filename = 0; index = 0; publics = [] }

public_search : (index name : ℕ) (w : List ℕ) (es : Entries) (i : ℕ)
    → ((j k : ℕ) → j < length es → k < 3 → entry_field 3 (i + j) k w ≡ get_or (get_or es j []) k 0)
    → public_constant (first_from (is_pair 3 index name w) (length es) i) w ≡ find_public index name es
unfolding first_from
public_search index name w [] i each = refl
public_search index name w (e ∷ es) i each =
    let here : i + 0 ≡ i = omega arith in
    let w₀ : entry_field 3 i 0 w ≡ get_or e 0 0 = rw here at (each 0 0 (omega arith) (omega arith)) in
    let w₁ : entry_field 3 i 1 w ≡ get_or e 1 0 = rw here at (each 0 1 (omega arith) (omega arith)) in
    let w₂ : entry_field 3 i 2 w ≡ get_or e 2 0 = rw here at (each 0 2 (omega arith) (omega arith)) in
    let rest : public_constant (first_from (is_pair 3 index name w) (length es) (i + 1)) w ≡ find_public index name es =
    public_search index name w es (i + 1) (λ j k h q. let next : i + suc j ≡ i + 1 + j = omega arith in rw next at (each (suc j) k (omega arith) q)) in
    rw (w₀, w₁) (go (has_key index name e) w₂ rest)
  where
    go : (b : Bool) → entry_field 3 i 2 w ≡ get_or e 2 0
        → public_constant (first_from (is_pair 3 index name w) (length es) (i + 1)) w ≡ find_public index name es
        → public_constant (cond b (some i) (first_from (is_pair 3 index name w) (length es) (i + 1))) w ≡ cond b (some (get_or e 2 0))
        (find_public index name es)
    go true q r = ap some q
    go false q r = r

-- entries one after the other
found_append : (index name : ℕ) (xs ys : Entries) → find_public index name (xs ++ ys) ≡ or_else (find_public index name xs) (find_public index name ys)
found_append index name [] ys = refl
found_append index name (x ∷ xs) ys =
    go (has_key index name x) (found_append index name xs ys)
  where
    go : (b : Bool) → find_public index name (xs ++ ys) ≡ or_else (find_public index name xs) (find_public index name ys)
        → cond b (some (get_or x 2 0)) (find_public index name (xs ++ ys))
        ≡ or_else (cond b (some (get_or x 2 0)) (find_public index name xs)) (find_public index name ys)
    go true h = refl
    go false h = h

or_none : (o : Option ℕ) → or_else o none ≡ o
or_none none = refl
or_none (some i) = refl

-- the names of a book, its own and another's
own_names : (index name : ℕ) (es : List Entry) → find_public index name (public_entries index es) ≡ find_name name es
own_names index name [] = refl
own_names index name (e ∷ es) =
    rw (eq-eqb index index refl) (ap (λ (o : Option ℕ). cond (eqb e.name name) (some e.index) o) (own_names index name es))

other_names : (index other name : ℕ) → (other ≡ index → ⊥) → (es : List Entry) → find_public index name (public_entries other es) ≡ none
other_names index other name ne [] = refl
other_names index other name ne (e ∷ es) = rw (ne_eqb other index ne) (other_names index other name ne es)

-- no book with the index
names_past : (index name k i : ℕ) (as' : List Assembly) → ((j : ℕ) → j < length as' → (get_or as' j nobody).index ≡ i + j) → index < i
    → find_public index name (entries_from assembly_publics k as') ≡ none
names_past index name k i [] each h = refl
names_past index name k i (a ∷ as') each h =
    let first : a.index ≡ i + 0 = each 0 (omega arith) in
    let rest : find_public index name (entries_from assembly_publics (k + 1) as') ≡ none =
    names_past index name (k + 1) (i + 1) as'
    (λ j q. let next : i + suc j ≡ i + 1 + j = omega arith in rw next at (each (suc j) (omega arith))) (omega arith) in
    found_append index name (public_entries a.index a.publics) (entries_from assembly_publics (k + 1) as')
    ∙ rw (other_names index a.index name (λ q. omega arith) a.publics, rest)

-- the book with the index
names_there : (name k i j : ℕ) (as' : List Assembly) → ((j : ℕ) → j < length as' → (get_or as' j nobody).index ≡ i + j) → j < length as'
    → find_public (i + j) name (entries_from assembly_publics k as') ≡ find_name name (get_or as' j nobody).publics
names_there name k i j [] each h = absurd (omega arith)
names_there name k i zero (a ∷ as') each h =
    let first : i + 0 ≡ a.index = sym (each 0 (omega arith)) in
    let rest : find_public a.index name (entries_from assembly_publics (k + 1) as') ≡ none =
    names_past a.index name (k + 1) (i + 1) as'
    (λ j q. let next : i + suc j ≡ i + 1 + j = omega arith in rw next at (each (suc j) (omega arith))) (omega arith) in
    rw first (found_append a.index name (public_entries a.index a.publics) (entries_from assembly_publics (k + 1) as')
    ∙ rw (own_names a.index name a.publics, rest) (or_none (find_name name a.publics)))
names_there name k i (suc j) (a ∷ as') each h =
    let next : i + suc j ≡ i + 1 + j = omega arith in
    let first : a.index ≡ i + 0 = each 0 (omega arith) in
    let rest : find_public (i + 1 + j) name (entries_from assembly_publics (k + 1) as') ≡ find_name name (get_or as' j nobody).publics =
    names_there name (k + 1) (i + 1) j as'
    (λ j q. let next : i + suc j ≡ i + 1 + j = omega arith in rw next at (each (suc j) (omega arith))) (omega arith) in
    rw next (found_append (i + 1 + j) name (public_entries a.index a.publics) (entries_from assembly_publics (k + 1) as')
    ∙ rw (other_names (i + 1 + j) a.index name (λ q. omega arith) a.publics) rest)

-- the book of a file
data Booked (as' : List Assembly) (i : ℕ) : Option ℕ → Option Assembly → Type 0 where
  unknown : Booked as' i none none
  known : (j : ℕ) → j < length as' → Booked as' i (some (i + j)) (some (get_or as' j nobody))

booked : (file : ℕ) (books : List ℕ) (as' : List Assembly) (i : ℕ)
    → ((j : ℕ) → j < length as' → entry_field 1 (i + j) 0 books ≡ (get_or as' j nobody).filename)
    → Booked as' i (first_from (is_book file books) (length as') i) (find_assembly file as')
unfolding first_from
booked file books [] i each = unknown
booked file books (a ∷ as') i each =
    let here : i + 0 ≡ i = omega arith in
    let first : entry_field 1 i 0 books ≡ a.filename = rw here at (each 0 (omega arith)) in
    rw first (go (eqb a.filename file)
    (booked file books as' (i + 1) (λ j q. let next : i + suc j ≡ i + 1 + j = omega arith in rw next at (each (suc j) (omega arith)))))
  where
    later : {o : Option ℕ} {p : Option Assembly} → Booked as' (i + 1) o p → Booked (a ∷ as') i o p
    later unknown = unknown
    later (known j h) = let next : i + 1 + j ≡ i + suc j = omega arith in rw next (known (suc j) (omega arith))

    go : (b : Bool) → Booked as' (i + 1) (first_from (is_book file books) (length as') (i + 1)) (find_assembly file as')
        → Booked (a ∷ as') i (cond b (some i) (first_from (is_book file books) (length as') (i + 1))) (cond b (some a) (find_assembly file as'))
    go true B =
        let here : i + 0 ≡ i = omega arith in
        subst (λ (n : ℕ). Booked (a ∷ as') i (some n) (some a)) here (known 0 (omega arith))
    go false B = later B

-- those that stood before are of books that did
stood_none : {n : ℕ} (index name : ℕ) {es : Entries} → n ≤ index → All (λ (e : List ℕ). get_or e 0 0 < n) es → find_public index name es ≡ none
stood_none index name past nil = refl
stood_none index name past (◌&◌ {x = e} h hs) = rw (ne_eqb (get_or e 0 0) index (λ q. omega arith), stood_none index name past hs)

-- a search that goes on behind another
first_append : (test : ℕ → Bool) (a b i : ℕ) → first_from test (a + b) i ≡ or_else (first_from test a i) (first_from test b (i + a))
unfolding first_from
first_append test zero b i = let here : i + 0 ≡ i = omega arith in rw (zero-add b, here)
first_append test (suc a) b i =
    let next : i + suc a ≡ i + 1 + a = omega arith in
    rw (suc-add a b, next) (go (test i) (first_append test a b (i + 1)))
  where
    go : (t : Bool) → first_from test (a + b) (i + 1) ≡ or_else (first_from test a (i + 1)) (first_from test b (i + 1 + a))
        → cond t (some i) (first_from test (a + b) (i + 1)) ≡ or_else (cond t (some i) (first_from test a (i + 1))) (first_from test b (i + 1 + a))
    go true h = refl
    go false h = h

-- the book of a file among those that stood before
stood_found : (file : ℕ) (books : List ℕ) (es : Entries) (i : ℕ)
    → ((j : ℕ) → j < length es → entry_field 1 (i + j) 0 books ≡ get_or (get_or es j []) 0 0)
    → first_from (is_book file books) (length es) i ≡ book_index file i es
unfolding first_from
stood_found file books [] i each = refl
stood_found file books (e ∷ es) i each =
    let here : i + 0 ≡ i = omega arith in
    let first : entry_field 1 i 0 books ≡ get_or e 0 0 = rw here at (each 0 (omega arith)) in
    rw first (ap (λ (o : Option ℕ). cond (eqb (get_or e 0 0) file) (some i) o)
    (stood_found file books es (i + 1) (λ j q. let next : i + suc j ≡ i + 1 + j = omega arith in rw next at (each (suc j) (omega arith)))))

index_below : (file i j : ℕ) (es : Entries) → book_index file i es ≡ some j → j < i + length es
index_below file i j [] q = absurd (let z : ◌≡◌ {A = ℕ} 0 1 = cc in omega arith)
index_below file i j (e ∷ es) q = go (eqb (get_or e 0 0) file) (λ r. omega (arith, index_below file (i + 1) j es r)) q
  where
    go : (b : Bool) → (book_index file (i + 1) es ≡ some j → j < i + suc (length es)) → cond b (some i) (book_index file (i + 1) es) ≡ some j
        → j < i + suc (length es)
    go true r q = let z : i ≡ j = cc in omega arith
    go false r q = r q

-- `included_name`
pub included_law : {ps : List ℕ} {m : BookAreas} {x : Book} {books : List ℕ} (file name : ℕ) → BookContents ps m x → NamesBooks books x.context
    → included_c m.book.file m.book.publics file name books m.publics ≡ included_name file name x.context
included_law {m = m} {x = x} {books = books} file name S B =
    ap (λ (o : Option ℕ). included_by o m.book.publics name m.publics) found ∙ go (book_index file 0 stood) refl ∙ sym (one_name file name x.context)
  where
    as' : List Assembly
    as' = x.context.assemblies

    stood : Entries
    stood = x.context.prior.books

    n : ℕ
    n = length stood

    many : m.book.file ≡ n + length as'
    many = S.file ∙ S.last_index

    found : find_book_c m.book.file file books ≡ or_else (book_index file 0 stood) (first_from (is_book file books) (length as') n)
    found =
        let before = stood_found file books stood 0
        (λ j h. rw (zero-add j) (sym (field_in books 1 j 0 (omega arith) (omega arith)) ∙ B.stood j h)) in
        rw (many, first_append (is_book file books) n (length as') 0, zero-add n, before)

    own : Entries
    own = public_entries x.assembly.index x.assembly.publics

    added : Entries
    added = entries_from assembly_publics 0 as'

    -- what the search finds of a book before this one
    public : (index : ℕ) → index < n + length as' → public_constant (find_pair_c 3 0 m.book.publics index name m.publics) m.publics
        ≡ or_else (find_public index name x.context.prior.publics) (find_public index name added)
    public index h =
        let all : m.book.publics - 0 ≡ length (public_table x.context ++ own) = sub-zero m.book.publics ∙ S.publics.count in
        rw all (public_search index name m.publics (public_table x.context ++ own) 0
        (λ i k q r. rw (zero-add i) (filled_field i k (omega arith) (omega (arith, S.publics.count)) r S.publics)))
        ∙ found_append index name (public_table x.context) own
        ∙ rw (other_names index x.assembly.index name (λ q. omega (arith, S.last_index)) x.assembly.publics)
        (or_none _ ∙ found_append index name x.context.prior.publics added)

    by : {o : Option ℕ} {p : Option Assembly} → Booked as' n o p → included_by o m.book.publics name m.publics ≡ public_of p name
    by unknown = refl
    by (known j h) =
        public (n + j) (omega arith)
        ∙ rw (stood_none (n + j) name (omega arith) S.prior.publics) (names_there name 0 n j as' S.indexed h)

    go : (o : Option ℕ) → book_index file 0 stood ≡ o
        → included_by (or_else o (first_from (is_book file books) (length as') n)) m.book.publics name m.publics ≡ included_from o file name x.context
    go none q = by (booked file books as' n (λ j h. sym (field_in books 1 (n + j) 0 (omega arith) (omega arith)) ∙ B.each j h))
    go (some j) q =
        let h : j < n = omega (arith, index_below file 0 j stood q) in
        public j (omega arith) ∙ rw (names_past j name 0 n as' S.indexed h) (or_none _)

-- `all_public`, of the book that is found: the rule of the list
pub names_law : {ps : List ℕ} {m : BookAreas} {x : Book} {books : List ℕ} (file : ℕ) (names : List ℕ) → BookContents ps m x → NamesBooks books x.context
    → all_names_c (find_book_c m.book.file file books) m.book.publics names m.publics ≡ is_there (included_names file names x.context)
names_law file [] S B = refl
names_law {x = x} file (n ∷ ns) S B =
    rw (included_law file n S B ∙ one_name file n x.context, names_law file ns S B)
    (go (included_from (book_index file 0 x.context.prior.books) file n x.context) (included_names file ns x.context))
  where
    go : (o : Option ℕ) (cs : Option (List ℕ)) → cond (is_some o) (is_there cs) false ≡ is_there (with_constant o cs)
    go none cs = refl
    go (some c) none = refl
    go (some c) (some l) = refl
