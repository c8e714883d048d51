-- What is delivered onto a context in which everything is known (`ContextKnown`: what 2026-01's check asks beyond demand 3's bounds) is known again
-- (`standing_known`), and a fresh context is (`fresh_known`). Book by book (`Between`): a book's index is the count of the books before it, and its file number
-- is taken out of those that are left, so no key comes twice. Assumes nothing.
use Prim.Native.Nat.{ℕ, zero, suc, ◌+◌, ◌≤◌, ◌<◌}
use native.Mathlib.Omega.{arith}
use mathlib.Core.Path.{◌≡◌, refl, sym, ap, subst, ◌∙◌}
use mathlib.Core.Bool.{Bool, true, false, cond}
use mathlib.Core.Option.{Option, none, some}
use mathlib.Core.List.{List, [], ◌∷◌, ◌++◌, append_assoc}
use lib.ListN.{length, get_or, length-append, get_or-append}
use lib.Dec.{T, eqb, eqb→eq, eqb_refl}
use Rattle.words.specs.Ast.{Document}
use Rattle.words.specs.Areas.{instance_word, function_name_word}
use Rattle.words.specs.Object.{Constant, constant_of, null_kind, boolean_kind}
use Rattle.words.specs.Opcode.{unword}
use Rattle.words.specs.Record.{span_at, token_at}
use Rattle.tree.specs.At.{RunAt, DocumentAt, size_doc}
use Rattle.tree.specs.Reading.{documents_of}
use Rattle.tree.proofs.Bundle.{fine_spells}
use Rattle.definition.specs.FunctionState.{Entry}
use Rattle.definition.specs.Prior.{Entries, Prior, file_numbers}
use Rattle.definition.specs.Uses.{Use}
use Rattle.definition.specs.Compiler.{Error}
use Rattle.definition.specs.Book.{Assembly, Context, new_context, book_count, has_text, opened, compile_definitions, compile_document}
use Rattle.definition.specs.Program.{entries_from, public_entries, assembly_publics, book_entry, public_table, book_table}
use Rattle.definition.specs.DependencySolver.{Worked, Delivered, find_document, dependencies, all_in, ready, ready_by, without, after_book, drive_by, drive}
use Rattle.definition.specs.DependencySolver.{files_of, compile_needed}
use Rattle.definition.specs.Answer.{Delivery, answer_from}
use Rattle.definition.specs.SharedOnce.{numbered}
use Rattle.definition.specs.Within.{All, nil, ◌&◌}
use Rattle.definition.specs.ProgramCheck.{is_mark, instruction_known}
use Rattle.definition_laws.proofs.Safe.{ProgramSafe}
use Rattle.definition_laws.proofs.Lists.{all_map, all_append, cond_case}
use Rattle.definition_laws.proofs.Tests.{Test, passes}
use Rattle.definition_laws.proofs.Cells.{entries_all}
use Rattle.definition_laws.proofs.StepPreserves.{PoolGrows, same_pool, not_shared, not_found}
use Rattle.definition_laws.proofs.SharedOnce.{standing_grows}
use Rattle.definition_laws.proofs.Strict.{stays_definitions}
use Rattle.definition_laws.proofs.Counts.{ready_among}
use Rattle.definition_laws.proofs.Answer.{delivering}
use Rattle.definition_laws.proofs.Ranges.{IsText, IsPosition, Ranged, fine_ranged}
use Rattle.definition_laws.proofs.KnownBooks.{TextNames, KnownPartsOf, document_known, document_text}
use Rattle.definition_laws.proofs.DistinctKeys.{Distinct, none_left, ◌before◌, distinct_append, OtherKey, OtherFile, OtherName, OtherNumber}
use Rattle.definition_laws.proofs.DistinctKeys.{ascending_distinct, all_without, distinct_without, none_without}

-- the entries of what stood before
pub record PriorKnown (p : Prior) : Type 0 where
  pub code : All (λ (e : List ℕ). Test (instruction_known (unword (get_or e 0 0))) × IsPosition (get_or e 1 0)) p.code
  pub functions : All (λ (e : List ℕ). Test (is_mark (get_or e instance_word 0)) × IsText (get_or e function_name_word 0)) p.functions
  pub models : All (λ (e : List ℕ). IsText (get_or e 1 0)) p.models
  pub properties : All (λ (e : List ℕ). IsText (get_or e 1 0)) p.properties
  pub locals : All (λ (e : List ℕ). IsText (get_or e 1 0) × (get_or e 2 0 ≡ 0 → get_or e 3 0 ≡ 0)) p.locals
  pub publics : All (λ (e : List ℕ). IsText (get_or e 1 0)) p.publics
  pub books : All (λ (e : List ℕ). IsText (get_or e 0 0)) p.books

pub record KnownAssembly (a : Assembly) : Type 0 where
  pub filename : IsText a.filename
  pub publics : TextNames a.publics

-- null, true, false
pub record Begins (cs : List Constant) : Type 0 where
  pub long : 3 ≤ length cs
  pub null : numbered cs 0 ≡ constant_of null_kind 0
  pub yes' : numbered cs 1 ≡ constant_of boolean_kind 1
  pub no' : numbered cs 2 ≡ constant_of boolean_kind 0

-- what 2026-01's check asks of a context's entries beyond demand 3's bounds
pub record ContextKnown (c : Context) : Type 0 where
  pub prior : PriorKnown c.prior
  pub parts : KnownPartsOf c
  pub begins : Begins c.pool.constants
  pub assemblies : All KnownAssembly c.assemblies
  pub publics : Distinct OtherKey (public_table c)
  pub books : Distinct OtherFile (book_table c)

-- public names and books, of a list of books

record OtherThan (n : ℕ) (e : List ℕ) : Type 0 where
  differ : get_or e 0 0 ≡ n → ⊥

record FirstBelow (n : ℕ) (e : List ℕ) : Type 0 where
  less : get_or e 0 0 < n

entries_snoc : {A : Type 0} (f : ℕ → A → Entries) (i : ℕ) (xs : List A) (x : A)
    → entries_from f i (xs ++ (x ∷ [])) ≡ entries_from f i xs ++ (f (i + length xs) x ++ [])
entries_snoc f i [] x = let e : i + 0 ≡ i = omega arith in rw e refl
entries_snoc f i (y ∷ xs) x =
    let e : i + suc (length xs) ≡ i + 1 + length xs = omega arith in
    rw (entries_snoc f (i + 1) xs x, e) (sym (append_assoc (f i y) (entries_from f (i + 1) xs) (f (i + 1 + length xs) x ++ [])))

abbrev publics_from : Prior → List Assembly → Entries
publics_from p l = p.publics ++ entries_from assembly_publics 0 l

abbrev books_from : Prior → List Assembly → Entries
books_from p l = p.books ++ entries_from book_entry 0 l

publics_snoc : (p : Prior) (l : List Assembly) (a : Assembly)
    → publics_from p (l ++ (a ∷ [])) ≡ publics_from p l ++ (public_entries a.index a.publics ++ [])
publics_snoc p l a =
    ap (λ (es : Entries). p.publics ++ es) (entries_snoc assembly_publics 0 l a)
    ∙ sym (append_assoc p.publics (entries_from assembly_publics 0 l) (public_entries a.index a.publics ++ []))

books_snoc : (p : Prior) (l : List Assembly) (a : Assembly) → books_from p (l ++ (a ∷ [])) ≡ books_from p l ++ ((a.filename ∷ []) ∷ [])
books_snoc p l a =
    ap (λ (es : Entries). p.books ++ es) (entries_snoc book_entry 0 l a)
    ∙ sym (append_assoc p.books (entries_from book_entry 0 l) ((a.filename ∷ []) ∷ []))

-- a book's own public names
module _ (n : ℕ) where
  own_first : (Q : List ℕ → Type 0) → ((m c : ℕ) → Q (n ∷ m ∷ c ∷ [])) → (es : List Entry) → All Q (public_entries n es ++ [])
  own_first Q f [] = nil
  own_first Q f (e ∷ es) = f e.name e.index & own_first Q f es

  own_other : (e : Entry) {es : List Entry} → All (OtherName e) es → All (OtherKey (n ∷ e.name ∷ e.index ∷ [])) (public_entries n es ++ [])
  own_other e nil = nil
  own_other e (p & ps) = record { differ = λ a b. p.differ b } & own_other e ps

  own_distinct : {es : List Entry} → Distinct OtherName es → Distinct OtherKey (public_entries n es ++ [])
  own_distinct none_left = none_left
  own_distinct (◌before◌ {x = e} p d) = own_other e p before own_distinct d

-- between two books: what is left of the numbers is distinct and none of them is that of a book
record Between (left : List ℕ) (p : Prior) (l : List Assembly) : Type 0 where
  prior : PriorKnown p
  assemblies : All KnownAssembly l
  publics : Distinct OtherKey (publics_from p l)
  within : All (FirstBelow (length p.books + length l)) (publics_from p l)
  books : Distinct OtherFile (books_from p l)
  distinct : Distinct OtherNumber left
  absent : All (λ (n : ℕ). All (OtherThan n) (books_from p l)) left

all_zip : {A : Type 0} {P Q R : A → Type 0} {l : List A} → ((x : A) → P x → Q x → R x) → All P l → All Q l → All R l
all_zip f nil nil = nil
all_zip f (p & ps) (q & qs) = f _ p q & all_zip f ps qs

between_more : (left : List ℕ) (p : Prior) (l : List Assembly) (a : Assembly) → Between left p l → KnownAssembly a
    → a.index ≡ length p.books + length l → Distinct OtherName a.publics → All (OtherThan a.filename) (books_from p l)
    → Between (without a.filename left) p (l ++ (a ∷ []))
between_more left p l a B K i d f = record {
  prior = B.prior;
  assemblies = all_append B.assemblies (K & nil);
  publics = subst (Distinct OtherKey) (sym (publics_snoc p l a))
      (distinct_append B.publics (own_distinct a.index d)
      (all_map (λ e h. own_first a.index (OtherKey e) (λ m c. record { differ = λ q r. omega (arith, h.less, q, i) }) a.publics) B.within));
  within = subst (All (FirstBelow (length p.books + length (l ++ (a ∷ []))))) (sym (publics_snoc p l a))
      (all_append (all_map (λ e h. record { less = omega (arith, h.less, more) }) B.within)
      (own_first a.index (FirstBelow (length p.books + length (l ++ (a ∷ [])))) (λ m c. record { less = omega (arith, i, more) }) a.publics));
  books = subst (Distinct OtherFile) (sym (books_snoc p l a))
      (distinct_append B.books (nil before none_left) (all_map (λ e h. record { differ = h.differ } & nil) f));
  distinct = distinct_without a.filename B.distinct;
  absent = all_zip (λ n h q. subst (All (OtherThan n)) (sym (books_snoc p l a)) (all_append h (record { differ = q.differ } & nil)))
      (all_without a.filename B.absent) (none_without a.filename B.distinct);
}
  where
    more : length (l ++ (a ∷ [])) ≡ length l + 1
    more = length-append l (a ∷ [])

-- the documents of the words

abbrev InWords : List ℕ → Document → Type 0
InWords w d = (i : ℕ) × DocumentAt d w i

all_in_words : (w : List ℕ) (ds : List Document) (i : ℕ) → RunAt DocumentAt size_doc ds w i → All (InWords w) ds
unfolding RunAt
all_in_words w [] i x = nil
all_in_words w (d ∷ ds) i x = (i, x.0) & all_in_words w ds (i + size_doc d) x.1

found_number : (n : ℕ) (ds : List Document) (d : Document) → find_document n ds ≡ some d → d.filename ≡ n
found_number n [] d e = absurd (let z : ◌≡◌ {A = ℕ} 0 1 = cc in omega arith)
found_number n (x ∷ ds) d e = go (eqb x.filename n) (λ t. eqb→eq x.filename n t) (λ q. found_number n ds d q) e
  where
    go : (b : Bool) → (T b → x.filename ≡ n) → (find_document n ds ≡ some d → d.filename ≡ n) → cond b (some x) (find_document n ds) ≡ some d → d.filename ≡ n
    go true f r q = let z : x ≡ d = cc in subst (λ (y : Document). y.filename ≡ n) z (f tt)
    go false f r q = r q

-- a document that is ready has one of the numbers that are left
ready_left : (P : ℕ → Type 0) (ds : List Document) (done left : List ℕ) (d : Document) → All P left → ready ds done left ≡ some d → P d.filename
ready_left P ds done [] d h e = absurd (let z : ◌≡◌ {A = ℕ} 0 1 = cc in omega arith)
ready_left P ds done (n ∷ ns) d (p & ps) e = go (find_document n ds) refl (λ q. ready_left P ds done ns d ps q) e
  where
    found : (x : Document) → find_document n ds ≡ some x → some x ≡ some d → P d.filename
    found x f q =
        let z : x ≡ d = cc in
        subst (λ (y : Document). P y.filename) z (subst P (sym (found_number n ds x f)) p)

    go : (o : Option Document) → find_document n ds ≡ o → (ready ds done ns ≡ some d → P d.filename) → ready_by o done (ready ds done ns) ≡ some d
        → P d.filename
    go none f r = λ q. r q
    go (some x) f r =
        cond_case (λ (y : Option Document). y ≡ some d → P d.filename) (all_in (dependencies x.definitions) done) (λ t q. found x f q) (λ t q. r q)

-- the work, book by book

record Known (left : List ℕ) (c : Context) : Type 0 where
  parts : KnownPartsOf c
  between : Between left c.prior c.assemblies

module _ (w : List ℕ) (ranged : (i : ℕ) → 0 < span_at w i → Ranged (token_at w i)) where
  document_step : (left : List ℕ) (d : Document) (c : Context) (us : List Use) → InWords w d → Known left c
      → All (OtherThan d.filename) (books_from c.prior c.assemblies) → Known (without d.filename left) (compile_document d c us).context
  unfolding compile_document
  document_step left d c us x k f =
      let b = compile_definitions d.definitions (opened d c us) in
      let S = stays_definitions d.definitions (opened d c us) in
      let K = document_known w ranged d x.0 x.1 c us k.parts in
      let a = b.assembly in
      let name : a.filename ≡ d.filename = S.filename in
      let B : Between left b.context.prior b.context.assemblies =
      subst (λ (l : List Assembly). Between left b.context.prior l) (sym S.assemblies)
      (subst (λ (p : Prior). Between left p c.assemblies) (sym S.prior) k.between) in
      let g : All (OtherThan a.filename) (books_from b.context.prior b.context.assemblies) =
      subst (λ (n : ℕ). All (OtherThan n) (books_from b.context.prior b.context.assemblies)) (sym name)
      (subst (λ (l : List Assembly). All (OtherThan d.filename) (books_from b.context.prior l)) (sym S.assemblies)
      (subst (λ (p : Prior). All (OtherThan d.filename) (books_from p c.assemblies)) (sym S.prior) f)) in
      let count : a.index ≡ length b.context.prior.books + length b.context.assemblies =
      K.publics.index ∙ sym (ap (λ (p : Prior). length p.books + length b.context.assemblies) S.prior
      ∙ ap (λ (l : List Assembly). length c.prior.books + length l) S.assemblies) in
      let known : KnownAssembly a =
      record { filename = subst IsText (sym name) (document_text w ranged d x.0 x.1); publics = K.publics.names } in
      record {
        parts = K.parts;
        between = subst (λ (n : ℕ). Between (without n left) b.context.prior (b.context.assemblies ++ (a ∷ []))) name
            (between_more left b.context.prior b.context.assemblies a B known count K.publics.distinct g);
      }

  abbrev Ends : Context → Worked → Type 0
  Ends r v = v.ending ≡ Delivered r → (left : List ℕ) × Known left r

  drive_known : (k : ℕ) (ds : List Document) (done left : List ℕ) (c r : Context) (us : List Use) → All (InWords w) ds → Known left c
      → Ends r (drive k ds done left c us)
  unfolding drive
  drive_known zero ds done left c r us h s e = let z : c ≡ r = cc in (left, subst (Known left) z s)
  drive_known (suc k) ds done left c r us h s e =
      go (ready ds done left) refl (λ d c' us' t. drive_known k ds (d.filename ∷ done) (without d.filename left) c' r us' h t) e
    where
      later : Document → Context → List Use → Worked
      later d c' us' = drive k ds (d.filename ∷ done) (without d.filename left) c' us'

      after : (d : Document) → Known (without d.filename left) (compile_document d c us).context → (es : List Error)
          → ((c' : Context) (us' : List Use) → Known (without d.filename left) c' → Ends r (later d c' us'))
          → Ends r (after_book es d.filename (compile_document d c us).context (compile_document d c us).uses (later d))
      after d m [] rest = rest _ _ m
      after d m (x ∷ es) rest = λ q. absurd (let z : ◌≡◌ {A = ℕ} 0 1 = cc in omega arith)

      go : (o : Option Document) → ready ds done left ≡ o
          → ((d : Document) (c' : Context) (us' : List Use) → Known (without d.filename left) c' → Ends r (later d c' us'))
          → Ends r (drive_by o left c us later)
      go none f rest = λ q. absurd (let z : ◌≡◌ {A = ℕ} 0 1 = cc in omega arith)
      go (some d) f rest =
          let fresh = ready_left (λ (n : ℕ). All (OtherThan n) (books_from c.prior c.assemblies)) ds done left d s.between.absent f in
          after d (document_step left d c us (ready_among ds done left d h f) s fresh) (compile_document d c us).compiler.errors (rest d)

-- the first constants stay

begins_more : (cs ds : List Constant) → Begins cs → Begins (cs ++ ds)
begins_more cs ds b = record {
  long = omega (arith, length-append cs ds, b.long);
  null = get_or-append cs ds (constant_of null_kind 0) 0 (omega (arith, b.long)) ∙ b.null;
  yes' = get_or-append cs ds (constant_of null_kind 0) 1 (omega (arith, b.long)) ∙ b.yes';
  no' = get_or-append cs ds (constant_of null_kind 0) 2 (omega (arith, b.long)) ∙ b.no';
}

begins_grows : {cs ds : List Constant} → Begins cs → PoolGrows cs ds → Begins ds
begins_grows b same_pool = b
begins_grows b (not_shared ds d g t) = begins_more ds (d ∷ []) (begins_grows b g)
begins_grows b (not_found ds d g e) = begins_more ds (d ∷ []) (begins_grows b g)

-- what is not loaded is none of the books

not_among : (n : ℕ) (x : ℕ) (l : List ℕ) → has_text n (x ∷ l) ≡ false → (x ≡ n → ⊥) × (has_text n l ≡ false)
not_among n x l h = go (eqb x n) (λ e. subst (λ k. T (eqb x k)) e (eqb_refl x)) h
  where
    go : (b : Bool) → (x ≡ n → T b) → cond b true (has_text n l) ≡ false → (x ≡ n → ⊥) × (has_text n l ≡ false)
    go true f q = absurd (let z : ◌≡◌ {A = ℕ} 0 1 = cc in omega arith)
    go false f q = (f, q)

none_file : (n i : ℕ) (l : List Assembly) → has_text n (files_of l) ≡ false → All (OtherThan n) (entries_from book_entry i l)
none_file n i [] h = nil
none_file n i (a ∷ l) h = let q = not_among n a.filename (files_of l) h in record { differ = q.0 } & none_file n (i + 1) l q.1

none_book : (n : ℕ) (es : Entries) (l : List Assembly) → has_text n (file_numbers es ++ files_of l) ≡ false
    → All (OtherThan n) (es ++ entries_from book_entry 0 l)
none_book n [] l h = none_file n 0 l h
none_book n (e ∷ es) l h = let q = not_among n (get_or e 0 0) (file_numbers es ++ files_of l) h in record { differ = q.0 } & none_book n es l q.1

-- every public name's book is one of the books

publics_within : (c : Context) → ProgramSafe c → All (FirstBelow (book_count c)) (public_table c)
publics_within c s =
    all_append (all_map (λ e h. record { less = h.0 }) s.parts.prior.publics)
    (entries_all assembly_publics (length c.assemblies) 0 (λ j (a : Assembly) h q. own a.index q.0 a.publics) (omega arith) s.parts.publics)
  where
    own : (file : ℕ) → file < book_count c → (es : List Entry) → All (FirstBelow (book_count c)) (public_entries file es)
    own file h [] = nil
    own file h (e ∷ es) = record { less = h } & own file h es

-- a delivery onto a context that keeps within itself and in which everything is known
pub standing_known : (w lengths : List ℕ) (c r : Context) → ProgramSafe c → ContextKnown c → answer_from c w lengths ≡ Delivery r → ContextKnown r
unfolding compile_needed
standing_known w lengths c r safe k e =
    let d = delivering c w lengths r e in
    let start : Known d.numbers c = record {
      parts = k.parts;
      between = record {
        prior = k.prior;
        assemblies = k.assemblies;
        publics = k.publics;
        within = publics_within c safe;
        books = k.books;
        distinct = ascending_distinct d.once.ascending;
        absent = all_map (λ n h. none_book n c.prior.books c.assemblies h) d.once.absent;
      };
    } in
    let words = all_in_words w (documents_of w) 0 (fine_spells w d.fine).documents in
    let (left, s) = drive_known w (fine_ranged w d.fine) (length d.numbers) (documents_of w) _ d.numbers c r _ words start d.ends in
    record {
      prior = s.between.prior;
      parts = s.parts;
      begins = begins_grows k.begins (standing_grows w lengths c r e);
      assemblies = s.between.assemblies;
      publics = s.between.publics;
      books = s.between.books;
    }

-- a fresh context
pub fresh_known : (strict : Bool) → ContextKnown (new_context strict)
fresh_known strict = record {
  prior = record { code = nil; functions = nil; models = nil; properties = nil; locals = nil; publics = nil; books = nil };
  parts = record {
    constants = passes & passes & passes & nil;
    functions = nil;
    models = nil;
    methods = nil;
    distinct = none_left;
    names = nil;
  };
  begins = record { long = omega arith; null = refl; yes' = refl; no' = refl };
  assemblies = nil;
  publics = none_left;
  books = none_left;
}
