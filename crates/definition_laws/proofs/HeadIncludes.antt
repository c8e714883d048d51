-- A bundle whose includes all come first is answered as before 2026-04, whatever the areas' lengths and the context it is laid onto: reply and areas' words
-- are of the answer. The books needed are the same after each round, and so is the next that is ready. Assumes nothing.
use Prim.Native.Nat.{ℕ, zero, suc}
use mathlib.Core.Path.{◌≡◌, refl, ap, subst, ◌∙◌}
use mathlib.Core.Bool.{Bool, true, false, cond}
use mathlib.Core.Option.{Option, none, some}
use mathlib.Core.List.{List, [], ◌∷◌}
use lib.ListN.{length}
use lib.Dec.{eqb, ltb}
use borrow.Author.Tests.{eq-eqb}
use Rattle.std.specs.Prelude.{Result, Ok, Err}
use Rattle.words.specs.declared.row.Refused.{Refused}
use Rattle.words.specs.Ast.{Document}
use Rattle.tree.specs.Check.{shape_of}
use Rattle.tree.specs.Reading.{documents_of}
use Rattle.definition.specs.Uses.{Use, Limits}
use Rattle.definition.specs.Compiler.{Error}
use Rattle.definition.specs.Book.{Context, compile_document, has_text}
use Rattle.definition.specs.DependencySolver.{dependencies_of, find_document, insert_number, insert_numbers, reached_from, needed_in, needed}
use Rattle.definition.specs.DependencySolver.{missing, ready, ready_by, without, Worked, after_book, drive_by, drive, loaded_of, compile_needed}
use Rattle.definition.specs.Answer.{answer_worked, answer_needed, answer_bundle, answer_documents, answer_twice, answer_from, twice, document_places}
use Rattle.definition.specs.Answer.{answer_shape, limits_of}
use Rattle.definition.specs.HeadIncludes.{head_includes_of, reached_before, needed_in_before, needed_before, ready_before, ready_by_before}
use Rattle.definition.specs.HeadIncludes.{drive_before, compile_needed_before, answer_needed_before, answer_documents_before, answer_twice_before}
use Rattle.definition.specs.HeadIncludes.{answer_shape_before, answer_from_before, ComeFirst, HeadIncludes}

-- a number stays among others when more are inserted
or_true : (b : Bool) {x : Bool} → x ≡ true → cond b true x ≡ true
or_true true h = refl
or_true false h = h

or_map : (b : Bool) {x y : Bool} → (x ≡ true → y ≡ true) → cond b true x ≡ true → cond b true y ≡ true
or_map true f h = refl
or_map false f h = f h

insert_keeps : (n m : ℕ) (l : List ℕ) → has_text n l ≡ true → has_text n (insert_number m l) ≡ true
insert_keeps n m [] h = or_true (eqb m n) h
insert_keeps n m (x ∷ xs) h = go (insert_keeps n m xs) (ltb m x) (eqb m x)
  where
    go : (has_text n xs ≡ true → has_text n (insert_number m xs) ≡ true) → (a b : Bool)
        → has_text n (cond a (m ∷ x ∷ xs) (cond b (x ∷ xs) (x ∷ insert_number m xs))) ≡ true
    go f true b = or_true (eqb m n) h
    go f false true = h
    go f false false = or_map (eqb x n) f h

inserts_keep : (n : ℕ) (standing ms l : List ℕ) → has_text n l ≡ true → has_text n (insert_numbers standing ms l) ≡ true
inserts_keep n standing [] l h = h
inserts_keep n standing (m ∷ ms) l h = inserts_keep n standing ms _ (go (has_text m standing))
  where
    go : (b : Bool) → has_text n (cond b l (insert_number m l)) ≡ true
    go true = h
    go false = insert_keeps n m l h

reached_keeps : (n : ℕ) (standing : List ℕ) (ds : List Document) (ms l : List ℕ) → has_text n l ≡ true → has_text n (reached_before standing ds ms l) ≡ true
reached_keeps n standing ds [] l h = h
reached_keeps n standing ds (m ∷ ms) l h =
    reached_keeps n standing ds ms _ (inserts_keep n standing (head_includes_of (find_document m ds)) l h)

needed_keeps : (n k : ℕ) (standing : List ℕ) (ds : List Document) (l : List ℕ) → has_text n l ≡ true → has_text n (needed_in_before k standing ds l) ≡ true
unfolding needed_in_before
needed_keeps n zero standing ds l h = h
needed_keeps n (suc k) standing ds l h = needed_keeps n k standing ds _ (reached_keeps n standing ds l l h)

without_keeps : (n m : ℕ) (l : List ℕ) → has_text n (without m l) ≡ true → has_text n l ≡ true
without_keeps n m [] h = h
without_keeps n m (x ∷ xs) h = go (without_keeps n m xs) (eqb x m) h
  where
    go : (has_text n (without m xs) ≡ true → has_text n xs ≡ true) → (b : Bool)
        → has_text n (cond b xs (x ∷ without m xs)) ≡ true → cond (eqb x n) true (has_text n xs) ≡ true
    go f true e = or_true (eqb x n) e
    go f false e = or_map (eqb x n) f e

-- what holds of the books of a list holds of the first, and of the rest
first_of : {n : ℕ} {ns : List ℕ} {ds : List Document} → ComeFirst (n ∷ ns) ds → head_includes_of (find_document n ds) ≡ dependencies_of (find_document n ds)
first_of {n} {ns} c = c.first n (ap (λ (b : Bool). cond b true (has_text n ns)) (eq-eqb n n refl))

rest_of : {n : ℕ} {ns : List ℕ} {ds : List Document} → ComeFirst (n ∷ ns) ds → ComeFirst ns ds
rest_of {n} c = record { first = λ m h. c.first m (or_true (eqb n m) h) }

-- the books needed
reached_before_lem : (standing : List ℕ) (ds : List Document) (ns l : List ℕ) → ComeFirst ns ds → reached_before standing ds ns l ≡ reached_from standing ds ns
    l
reached_before_lem standing ds [] l c = refl
reached_before_lem standing ds (n ∷ ns) l c = rw (first_of c) (reached_before_lem standing ds ns _ (rest_of c))

needed_before_lem : (k : ℕ) (standing : List ℕ) (ds : List Document) (l : List ℕ) → ComeFirst (needed_in_before k standing ds l) ds
    → needed_in_before k standing ds l ≡ needed_in k standing ds l
unfolding needed_in needed_in_before
needed_before_lem zero standing ds l c = refl
needed_before_lem (suc k) standing ds l c =
    let same : reached_before standing ds l l ≡ reached_from standing ds l l
    = reached_before_lem standing ds l l (record { first = λ n h. c.first n (needed_keeps n (suc k) standing ds l h) }) in
    needed_before_lem k standing ds (reached_before standing ds l l) c ∙ ap (λ (x : List ℕ). needed_in k standing ds x) same

-- the next that is ready, and the work
ready_before_lem : (ds : List Document) (done ns : List ℕ) → ComeFirst ns ds → ready_before ds done ns ≡ ready ds done ns
ready_before_lem ds done [] c = refl
ready_before_lem ds done (n ∷ ns) c = go (find_document n ds) (first_of c) (ready_before_lem ds done ns (rest_of c))
  where
    go : (o : Option Document) → head_includes_of o ≡ dependencies_of o → ready_before ds done ns ≡ ready ds done ns
        → ready_by_before o done (ready_before ds done ns) ≡ ready_by o done (ready ds done ns)
    go none h r = r
    go (some d) h r = rw (h, r) refl

drive_before_lem : (k : ℕ) (ds : List Document) (done left : List ℕ) (c : Context) (uses : List Use) → ComeFirst left ds
    → drive_before k ds done left c uses ≡ drive k ds done left c uses
unfolding drive drive_before
drive_before_lem zero ds done left c uses h = refl
drive_before_lem (suc k) ds done left c uses h =
    rw (ready_before_lem ds done left h) (go (ready ds done left) (λ d c' us. drive_before_lem k ds _ _ c' us
    (record { first = λ n e. h.first n (without_keeps n d.filename left e) })))
  where
    before : Document → Context → List Use → Worked
    before d c' us = drive_before k ds (d.filename ∷ done) (without d.filename left) c' us

    now' : Document → Context → List Use → Worked
    now' d c' us = drive k ds (d.filename ∷ done) (without d.filename left) c' us

    after : (d : Document) (es : List Error) (c' : Context) (us : List Use) → before d c' us ≡ now' d c' us
        → after_book es d.filename c' us (before d) ≡ after_book es d.filename c' us (now' d)
    after d [] c' us e = e
    after d (x ∷ es) c' us e = refl

    go : (o : Option Document) → ((d : Document) (c' : Context) (us : List Use) → before d c' us ≡ now' d c' us)
        → drive_by o left c uses before ≡ drive_by o left c uses now'
    go none e = refl
    go (some d) e = let b = compile_document d c uses in after d b.compiler.errors b.context b.uses (e d _ _)

-- the call
documents_before : (ds : List Document) (l : Limits) (c : Context) → HeadIncludes (loaded_of c) ds
    → answer_documents_before ds l c ≡ answer_documents ds l c
unfolding answer_bundle compile_needed compile_needed_before
documents_before [] l c h = refl
documents_before (root ∷ others) l c h = rw same (go (missing ds numbers))
  where
    standing : List ℕ
    standing = loaded_of c

    ds : List Document
    ds = root ∷ others

    numbers : List ℕ
    numbers = needed standing root others

    same : needed_before standing root others ≡ numbers
    same = needed_before_lem (length ds) standing ds _ h

    first : ComeFirst numbers ds
    first = subst (λ (x : List ℕ). ComeFirst x ds) same h

    go : (o : Option ℕ) → answer_needed_before o numbers ds l c ≡ answer_needed o numbers ds l c
    go (some n) = refl
    go none = ap (λ (w : Worked). answer_worked l w) (drive_before_lem (length numbers) ds standing numbers c _ first)

pub head_includes_as_before : (c : Context) (w lengths : List ℕ) → HeadIncludes (loaded_of c) (documents_of w)
    → answer_from_before c w lengths ≡ answer_from c w lengths
unfolding answer_from answer_from_before
head_includes_as_before c w lengths h = go (shape_of w)
  where
    l : Limits
    l = limits_of lengths

    second : (o : Option ℕ) → answer_twice_before o w l c ≡ answer_twice o w l c
    second (some i) = refl
    second none = documents_before (documents_of w) l c h

    go : (s : Result (Unit {0}) Refused) → answer_shape_before s w l c ≡ answer_shape s w l c
    go (Err found) = refl
    go (Ok u) = second (twice [] w (document_places w))
