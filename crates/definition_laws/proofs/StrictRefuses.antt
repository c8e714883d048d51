-- A strict delivery has no include in a compiled book with a name that is not public (`strict_refuses`): every include of a compiled book gave its values, for
-- a note of row 11 would have been found; the books before it stay, so its names are public at the end too. Assumes nothing.
use Prim.Native.Nat.{ℕ, zero, suc, ◌-◌}
use native.Mathlib.Omega.{arith}
use mathlib.Core.Path.{◌≡◌, refl, sym, ap, subst, ◌∙◌}
use mathlib.Core.Bool.{Bool, true, false, cond}
use mathlib.Core.Option.{Option, none, some}
use mathlib.Core.List.{List, [], ◌∷◌, ◌++◌, append_assoc, append-nil}
use lib.ListN.{length}
use lib.Dec.{eqb, ltb}
use borrow.Author.Tests.{eq-eqb, eqb-true}
use Rattle.std.specs.Prelude.{Result, Ok, Err}
use Rattle.words.specs.declared.row.Refused.{Refused}
use Rattle.words.specs.Ast.{Token, Alias, Definition, LocalDefinition, IncludeDefinition, ModelDefinition}
use Rattle.words.specs.Ast.{PublicModelDefinition, PlainFunction, PublicFunction, ImplementDefinition, ApplyDefinition, Document}
use Rattle.tree.specs.Check.{shape_of}
use Rattle.tree.specs.Reading.{documents_of}
use Rattle.definition.specs.Prior.{Prior, book_index, find_public}
use Rattle.definition.specs.Uses.{Use, Limits, first_over, first_not_public, not_public_area}
use Rattle.definition.specs.Compiler.{Error}
use Rattle.definition.specs.Book
use Rattle.definition.specs.Book.{Assembly, Context, find_assembly, public_of, included_from, with_constant, included_names, public_names, is_there, has_text}
use Rattle.definition.specs.Book.{noted, gives_values, compile_include, compile_include_definition}
use Rattle.definition.specs.Book.{compile_definition, compile_definitions, opened, compile_document}
use Rattle.definition.specs.DependencySolver.{Worked, Ending, Delivered, Faulty, Ring, ready}
use Rattle.definition.specs.DependencySolver.{ready_by, without, after_book, drive_by, drive, loaded_of, needed}
use Rattle.definition.specs.DependencySolver.{missing, compile_needed, find_document, all_in, dependencies}
use Rattle.definition.specs.Answer.{Answer, Delivery, Refusal, answer_over, answer_by}
use Rattle.definition.specs.Answer.{answer_ending, answer_needed, answer_bundle, answer_documents}
use Rattle.definition.specs.Answer.{answer_twice, answer_shape, answer_from, twice, document_places, limits_of}
use Rattle.definition.specs.Strict.{NamesPublic, BookPublic, AllPublic}
use Rattle.definition.specs.Within.{All, nil, ◌&◌}
use Rattle.definition_laws.proofs.StepPreserves.{NotesGrow, same, more, longer_trans}
use Rattle.definition_laws.proofs.Strict.{stays_definition, stays_definitions, drive_longer, first_longer, noted_first, refusing}
use Rattle.definition_laws.proofs.Lists.{all_map}

-- public names stay public: what stood stays, and books are put away behind others
record Later (c c' : Context) : Type 0 where
  prior : c'.prior ≡ c.prior
  rest : List Assembly
  assemblies : c'.assemblies ≡ c.assemblies ++ rest

later_trans : {a b c : Context} → Later a b → Later b c → Later a c
later_trans x y = record {
  prior = y.prior ∙ x.prior;
  rest = x.rest ++ y.rest;
  assemblies = y.assemblies ∙ ap (λ (l : List Assembly). l ++ y.rest) x.assemblies ∙ simp append_assoc;
}

later_same : {c c' : Context} → c'.prior ≡ c.prior → c'.assemblies ≡ c.assemblies → Later c c'
later_same p q = record { prior = p; rest = []; assemblies = q ∙ sym (append-nil _) }

find_more : (n : ℕ) (a : Assembly) (as' bs : List Assembly) → find_assembly n as' ≡ some a → find_assembly n (as' ++ bs) ≡ some a
find_more n a [] bs h = absurd (let z : ◌≡◌ {A = ℕ} 0 1 = cc in omega arith)
find_more n a (x ∷ as') bs h = go (eqb x.filename n) (find_more n a as' bs) h
  where
    go : (t : Bool) → (find_assembly n as' ≡ some a → find_assembly n (as' ++ bs) ≡ some a) → cond t (some x) (find_assembly n as') ≡ some a
        → cond t (some x) (find_assembly n (as' ++ bs)) ≡ some a
    go true f q = q
    go false f q = f q

from_later : {c c' : Context} (o : Option ℕ) (file name i : ℕ) → Later c c' → included_from o file name c ≡ some i → included_from o file name c' ≡ some i
from_later (some k) file name i L h = ap (λ (p : Prior). find_public k name p.publics) L.prior ∙ h
from_later {c} {c'} none file name i L h = go (find_assembly file c.assemblies) refl h
  where
    go : (o : Option Assembly) → find_assembly file c.assemblies ≡ o → public_of o name ≡ some i → public_of (find_assembly file c'.assemblies) name ≡ some i
    go none q r = absurd (let z : ◌≡◌ {A = ℕ} 0 1 = cc in omega arith)
    go (some a) q r =
        let found : find_assembly file c'.assemblies ≡ some a
        = ap (λ (l : List Assembly). find_assembly file l) L.assemblies ∙ find_more file a c.assemblies L.rest q in
        ap (λ (o : Option Assembly). public_of o name) found ∙ r

names_later : {c c' : Context} (file : ℕ) (ns : List ℕ) → Later c c' → is_there (included_names file ns c) ≡ true → is_there (included_names file ns c') ≡ true
names_later file [] L h = refl
names_later {c} {c'} file (n ∷ ns) L h =
    go (included_from (book_index file 0 c.prior.books) file n c) refl (included_names file ns c) (names_later file ns L) h
  where
    after : {i : ℕ} → included_from (book_index file 0 c.prior.books) file n c ≡ some i
        → included_from (book_index file 0 c'.prior.books) file n c' ≡ some i
    after {i} q =
        ap (λ (p : Prior). included_from (book_index file 0 p.books) file n c') L.prior ∙ from_later (book_index file 0 c.prior.books) file n i L q

    there : (cs : Option (List ℕ)) (i : ℕ) → is_there cs ≡ true → is_there (with_constant (some i) cs) ≡ true
    there none i q = q
    there (some l) i q = refl

    go : (o : Option ℕ) → included_from (book_index file 0 c.prior.books) file n c ≡ o → (cs : Option (List ℕ))
        → (is_there cs ≡ true → is_there (included_names file ns c') ≡ true) → is_there (with_constant o cs) ≡ true
        → is_there (with_constant (included_from (book_index file 0 c'.prior.books) file n c') (included_names file ns c')) ≡ true
    go none q cs f r = absurd (let z : ◌≡◌ {A = ℕ} 0 1 = cc in omega arith)
    go (some i) q none f r = absurd (let z : ◌≡◌ {A = ℕ} 0 1 = cc in omega arith)
    go (some i) q (some l) f r = rw (after q) (there (included_names file ns c') i (f refl))

public_later : {c c' : Context} (d : Definition) → Later c c' → NamesPublic c d → NamesPublic c' d
public_later (IncludeDefinition index file as') L h = names_later file.value (public_names as') L h
public_later (LocalDefinition x) L h = tt
public_later (ModelDefinition x y) L h = tt
public_later (PublicModelDefinition x y) L h = tt
public_later (PlainFunction x) L h = tt
public_later (PublicFunction x) L h = tt
public_later (ImplementDefinition x y) L h = tt
public_later (ApplyDefinition x y) L h = tt

-- notes that fit

none_before : (l : Limits) {us vs : List Use} → NotesGrow us vs → first_over l vs ≡ none → first_over l us ≡ none
none_before l {us} m h = go (first_over l us) refl
  where
    go : (o : Option ℕ) → first_over l us ≡ o → first_over l us ≡ none
    go none q = q
    go (some a) q = absurd (let z : some a ≡ none = sym (first_longer l m q) ∙ h in let y : ◌≡◌ {A = ℕ} 0 1 = cc in omega arith)

module _ (lengths : List ℕ) where
  abbrev κ : Limits
  κ = limits_of lengths

  no_refusal : (index : ℕ) {us vs : List Use} → NotesGrow (refusing index ∷ us) vs → first_over κ vs ≡ none → ⊥
  no_refusal index {us} m h =
      let before : first_over κ us ≡ none = none_before κ (longer_trans (more same) m) h in
      let z : some (not_public_area index) ≡ none = sym (first_longer κ m (noted_first lengths index us before)) ∙ h in
      let y : ◌≡◌ {A = ℕ} 0 1 = cc in omega arith

  -- an include that is no refusal, in strict mode
  include_public : (index : ℕ) (file : Token) (l : List Alias) (b : Book.Book) {vs : List Use} → b.context.strict ≡ true
      → NotesGrow (compile_include index file.value l b).uses vs → first_over κ vs ≡ none
      → is_there (included_names file.value (public_names l) b.context) ≡ true
  unfolding compile_include
  include_public index file l b {vs} strict m h = go (gives_values file.value l b.context) refl m
    where
      names : Option (List ℕ)
      names = included_names file.value (public_names l) b.context

      go : (t : Bool) → gives_values file.value l b.context ≡ t
          → NotesGrow (cond t (compile_include_definition file.value l b) (noted (not_public_area index) 1 b)).uses vs → is_there names ≡ true
      go true q n = sym (ap (λ (s : Bool). cond s (is_there names) true) strict) ∙ q
      go false q n = absurd (no_refusal index n h)

  definition_public : (d : Definition) (b : Book.Book) {vs : List Use} → b.context.strict ≡ true → NotesGrow (compile_definition d b).uses vs
      → first_over κ vs ≡ none → NamesPublic b.context d
  unfolding compile_definition
  definition_public (IncludeDefinition index file l) b strict m h = include_public index file l b strict m h
  definition_public (LocalDefinition x) b strict m h = tt
  definition_public (ModelDefinition x y) b strict m h = tt
  definition_public (PublicModelDefinition x y) b strict m h = tt
  definition_public (PlainFunction x) b strict m h = tt
  definition_public (PublicFunction x) b strict m h = tt
  definition_public (ImplementDefinition x y) b strict m h = tt
  definition_public (ApplyDefinition x y) b strict m h = tt

  definitions_public : (ds : List Definition) (b : Book.Book) → b.context.strict ≡ true → first_over κ (compile_definitions ds b).uses ≡ none
      → All (NamesPublic b.context) ds
  unfolding compile_definitions
  definitions_public [] b strict h = nil
  definitions_public (d ∷ ds) b strict h =
      let s = stays_definition d b in
      let back : Later (compile_definition d b).context b.context = later_same (sym s.prior) (sym s.assemblies) in
      definition_public d b strict (stays_definitions ds (compile_definition d b)).uses h
      & all_map (λ x p. public_later x back p) (definitions_public ds (compile_definition d b) (s.strict ∙ strict) h)

  document_public : (d : Document) (c : Context) (us : List Use) → c.strict ≡ true → first_over κ (compile_document d c us).uses ≡ none → BookPublic c d
  unfolding compile_document
  document_public d c us strict h = definitions_public d.definitions (opened d c us) strict h

  document_later : (d : Document) (c : Context) (us : List Use) → Later c (compile_document d c us).context
  unfolding compile_document
  document_later d c us =
      let b = compile_definitions d.definitions (opened d c us) in
      let s = stays_definitions d.definitions (opened d c us) in
      record { prior = s.prior; rest = b.assembly ∷ []; assemblies = ap (λ (l : List Assembly). l ++ (b.assembly ∷ [])) s.assemblies }

  document_strict : (d : Document) (c : Context) (us : List Use) → (compile_document d c us).context.strict ≡ c.strict
  unfolding compile_document
  document_strict d c us = (stays_definitions d.definitions (opened d c us)).strict

-- the books that are found and left

find_named : (n : ℕ) (d : Document) (ds : List Document) → find_document n ds ≡ some d → d.filename ≡ n
find_named n d [] h = absurd (let z : ◌≡◌ {A = ℕ} 0 1 = cc in omega arith)
find_named n d (x ∷ ds) h = go (eqb x.filename n) refl h (find_named n d ds)
  where
    go : (t : Bool) → eqb x.filename n ≡ t → cond t (some x) (find_document n ds) ≡ some d → (find_document n ds ≡ some d → d.filename ≡ n) → d.filename ≡ n
    go true e q f = let z : x ≡ d = cc in sym (ap (λ (y : Document). y.filename) z) ∙ eqb-true x.filename n e
    go false e q f = f q

record Chosen (ds : List Document) (left : List ℕ) (d : Document) : Type 0 where
  among : has_text d.filename left ≡ true
  found : find_document d.filename ds ≡ some d

or_true : (b : Bool) {x : Bool} → x ≡ true → cond b true x ≡ true
or_true true h = refl
or_true false h = h

chosen : (ds : List Document) (done left : List ℕ) (d : Document) → ready ds done left ≡ some d → Chosen ds left d
chosen ds done [] d h = absurd (let z : ◌≡◌ {A = ℕ} 0 1 = cc in omega arith)
chosen ds done (n ∷ ns) d h = go (find_document n ds) refl h (chosen ds done ns d)
  where
    later : Chosen ds ns d → Chosen ds (n ∷ ns) d
    later c = record { among = or_true (eqb n d.filename) c.among; found = c.found }

    here : (x : Document) → find_document n ds ≡ some x → x ≡ d → Chosen ds (n ∷ ns) d
    here x f e =
        let named : d.filename ≡ n = find_named n d ds (f ∙ ap (λ (y : Document). some y) e) in
        record {
          among = ap (λ (b : Bool). cond b true (has_text d.filename ns)) (eq-eqb n d.filename (sym named));
          found = ap (λ (m : ℕ). find_document m ds) named ∙ f ∙ ap (λ (y : Document). some y) e;
        }

    go : (o : Option Document) → find_document n ds ≡ o → ready_by o done (ready ds done ns) ≡ some d → (ready ds done ns ≡ some d → Chosen ds ns d)
        → Chosen ds (n ∷ ns) d
    go none f q rest = later (rest q)
    go (some x) f q rest = by (all_in (dependencies x.definitions) done) q
      where
        by : (t : Bool) → cond t (some x) (ready ds done ns) ≡ some d → Chosen ds (n ∷ ns) d
        by true r = here x f (let z : x ≡ d = cc in z)
        by false r = later (rest r)

one_fewer : (n k : ℕ) (l : List ℕ) → has_text n l ≡ true → length l ≡ suc k → length (without n l) ≡ k
one_fewer n k [] h e = absurd (omega arith)
one_fewer n k (x ∷ xs) h e = go (eqb x n) h k e (λ j. one_fewer n j xs)
  where
    no_text : (l : List ℕ) → has_text n l ≡ true → length l ≡ 0 → ⊥
    no_text [] q z = let y : ◌≡◌ {A = ℕ} 0 1 = cc in omega arith
    no_text (y ∷ l) q z = omega arith

    go : (t : Bool) → cond t true (has_text n xs) ≡ true → (k : ℕ) → suc (length xs) ≡ suc k
        → ((j : ℕ) → has_text n xs ≡ true → length xs ≡ suc j → length (without n xs) ≡ j) → length (cond t xs (x ∷ without n xs)) ≡ k
    go true q k e f = omega arith
    go false q zero e f = absurd (no_text xs q (omega arith))
    go false q (suc k) e f = ap suc (f k q (omega arith))

-- a number that is left is the one taken away, or left after it
left_or : (n m : ℕ) (l : List ℕ) → has_text m l ≡ true → eqb n m ≡ false → has_text m (without n l) ≡ true
left_or n m [] h e = h
left_or n m (x ∷ xs) h e = go (eqb x n) refl (eqb x m) refl h (λ q. left_or n m xs q e)
  where
    go : (s : Bool) → eqb x n ≡ s → (t : Bool) → eqb x m ≡ t → cond t true (has_text m xs) ≡ true → (has_text m xs ≡ true → has_text m (without n xs) ≡ true)
        → has_text m (cond s xs (x ∷ without n xs)) ≡ true
    go true a true b q f =
        let same' : n ≡ m = sym (eqb-true x n a) ∙ eqb-true x m b in
        absurd (let z : true ≡ false = sym (eq-eqb n m same') ∙ e in let y : ◌≡◌ {A = ℕ} 0 1 = cc in omega arith)
    go true a false b q f = q
    go false a true b q f = ap (λ (y : Bool). cond y true (has_text m (without n xs))) b
    go false a false b q f = ap (λ (y : Bool). cond y true (has_text m (without n xs))) b ∙ f q

-- the books in their order

later_drive : (k : ℕ) (ds : List Document) (done left : List ℕ) (c r : Context) (us : List Use) → (drive k ds done left c us).ending ≡ Delivered r → Later c r
unfolding drive
later_drive zero ds done left c r us e = let z : c ≡ r = cc in subst (Later c) z (later_same refl refl)
later_drive (suc k) ds done left c r us e = go (ready ds done left) (λ d c' us'. later_drive k ds _ _ c' r us') e
  where
    next : Document → Context → List Use → Worked
    next d c' us' = drive k ds (d.filename ∷ done) (without d.filename left) c' us'

    after : (d : Document) (es : List Error) (c' : Context) (us' : List Use) → Later c c' → ((next d c' us').ending ≡ Delivered r → Later c' r)
        → (after_book es d.filename c' us' (next d)).ending ≡ Delivered r → Later c r
    after d [] c' us' L rest q = later_trans L (rest q)
    after d (x ∷ es) c' us' L rest q = absurd (let z : ◌≡◌ {A = ℕ} 0 1 = cc in omega arith)

    go : (o : Option Document) → ((d : Document) (c' : Context) (us' : List Use) → (next d c' us').ending ≡ Delivered r → Later c' r)
        → (drive_by o left c us next).ending ≡ Delivered r → Later c r
    go none rest q = absurd (let z : ◌≡◌ {A = ℕ} 0 1 = cc in omega arith)
    go (some d) rest q =
        let b = compile_document d c us in
        after d b.compiler.errors b.context b.uses (document_later [] d c us) (rest d b.context b.uses) q

-- what is left to show of a work that delivers r
abbrev Shows : List ℕ → List Document → List ℕ → Context → Worked → Type 0
Shows lengths ds left r w = w.ending ≡ Delivered r → first_over (limits_of lengths) w.uses ≡ none → (n : ℕ) (d : Document) → has_text n left ≡ true
    → find_document n ds ≡ some d → BookPublic r d

drive_public : (lengths : List ℕ) (k : ℕ) (ds : List Document) (done left : List ℕ) (c r : Context) (us : List Use) → c.strict ≡ true → length left ≡ k
    → Shows lengths ds left r (drive k ds done left c us)
unfolding drive
drive_public lengths zero ds done [] c r us strict many = λ e h n d among found. absurd
    (let z : false ≡ true = among in let y : ◌≡◌ {A = ℕ} 0 1 = cc in omega arith)
drive_public lengths zero ds done (x ∷ left) c r us strict many = absurd (omega arith)
drive_public lengths (suc k) ds done left c r us strict many =
    go (ready ds done left) (λ d q. chosen ds done left d q) (λ d c' us' s m. drive_public lengths k ds _ (without d.filename left) c' r us' s m)
  where
    next : Document → Context → List Use → Worked
    next d c' us' = drive k ds (d.filename ∷ done) (without d.filename left) c' us'

    after : (d₀ : Document) → Chosen ds left d₀ → (es : List Error) (c' : Context) (us' : List Use) → Later c c' → c'.strict ≡ true
        → (first_over (limits_of lengths) us' ≡ none → BookPublic c d₀)
        → Shows lengths ds (without d₀.filename left) r (next d₀ c' us') → Shows lengths ds left r (after_book es d₀.filename c' us' (next d₀))
    after d₀ C (x ∷ es) c' us' L s public rest = λ e. absurd (let z : ◌≡◌ {A = ℕ} 0 1 = cc in omega arith)
    after d₀ C [] c' us' L s public rest = λ e h n d among found. by e h n d among found (eqb d₀.filename n) refl
      where
        by : (next d₀ c' us').ending ≡ Delivered r → first_over (limits_of lengths) (next d₀ c' us').uses ≡ none → (n : ℕ) (d : Document)
            → has_text n left ≡ true → find_document n ds ≡ some d → (t : Bool) → eqb d₀.filename n ≡ t → BookPublic r d
        by e h n d among found true q =
            let here : some d₀ ≡ some d = sym C.found ∙ ap (λ (m : ℕ). find_document m ds) (eqb-true d₀.filename n q) ∙ found in
            let is : d₀ ≡ d = cc in
            let whole : Later c r = later_trans L (later_drive k ds _ _ c' r us' e) in
            let fits : first_over (limits_of lengths) us' ≡ none = none_before (limits_of lengths) (drive_longer k ds _ _ c' us') h in
            subst (λ (y : Document). BookPublic r y) is (all_map (λ x p. public_later x whole p) (public fits))
        by e h n d among found false q = rest e h n d (left_or d₀.filename n left among q) found

    go : (o : Option Document) → ((d : Document) → o ≡ some d → Chosen ds left d)
        → ((d : Document) (c' : Context) (us' : List Use) → c'.strict ≡ true → length (without d.filename left) ≡ k
        → Shows lengths ds (without d.filename left) r (next d c' us')) → Shows lengths ds left r (drive_by o left c us next)
    go none C rest = λ e. absurd (let z : ◌≡◌ {A = ℕ} 0 1 = cc in omega arith)
    go (some d₀) C rest =
        let b = compile_document d₀ c us in
        let X = C d₀ refl in
        let s : b.context.strict ≡ true = document_strict [] d₀ c us ∙ strict in
        after d₀ X b.compiler.errors b.context b.uses (document_later [] d₀ c us) s (document_public lengths d₀ c us strict)
        (rest d₀ b.context b.uses s (one_fewer d₀.filename k left X.among many))

-- the call

abbrev Public : List ℕ → List Document → Context → Answer → Type 0
Public standing ds c a = a ≡ Delivery c → AllPublic standing ds c

pub strict_refuses : (c₀ c : Context) (w lengths : List ℕ) → c₀.strict ≡ true → answer_from c₀ w lengths ≡ Delivery c
    → AllPublic (loaded_of c₀) (documents_of w) c
unfolding answer_from answer_bundle compile_needed
strict_refuses c₀ c w lengths strict = shape (shape_of w)
  where
    l : Limits
    l = limits_of lengths

    over : (area : ℕ) → answer_over area ≡ Delivery c → ⊥
    over area = go (ltb area first_not_public)
      where
        go : (t : Bool) → cond t (Refusal 9 area []) (Refusal 11 (area - first_not_public) []) ≡ Delivery c → ⊥
        go true q = let z : ◌≡◌ {A = ℕ} 0 1 = cc in omega arith
        go false q = let z : ◌≡◌ {A = ℕ} 0 1 = cc in omega arith

    ends : (e : Ending) → answer_ending e ≡ Delivery c → e ≡ Delivered c
    ends (Delivered d) x = cc
    ends (Faulty n es) x = absurd (let z : ◌≡◌ {A = ℕ} 0 1 = cc in omega arith)
    ends (Ring ns) x = absurd (let z : ◌≡◌ {A = ℕ} 0 1 = cc in omega arith)

    worked : (w' : Worked) (o : Option ℕ) → first_over l w'.uses ≡ o → answer_by o w'.ending ≡ Delivery c
        → (w'.ending ≡ Delivered c) × (first_over l w'.uses ≡ none)
    worked w' (some area) q x = absurd (over area x)
    worked w' none q x = (ends w'.ending x, q)

    needing : (root : Document) (others : List Document) (o : Option ℕ)
        → Public (loaded_of c₀) (root ∷ others) c (answer_needed o (needed (loaded_of c₀) root others) (root ∷ others) l c₀)
    needing root others (some n) q = absurd (let z : ◌≡◌ {A = ℕ} 0 1 = cc in omega arith)
    needing root others none q =
        let numbers = needed (loaded_of c₀) root others in
        let W = compile_needed numbers (root ∷ others) c₀ in
        let x = worked W (first_over l W.uses) refl q in
        record {
          each = λ file d among found.
              drive_public lengths (length numbers) (root ∷ others) (loaded_of c₀) numbers c₀ c _ strict refl x.0 x.1 file d among found;
        }

    documents : (ds : List Document) → Public (loaded_of c₀) ds c (answer_documents ds l c₀)
    documents [] q = tt
    documents (root ∷ others) q = needing root others (missing (root ∷ others) (needed (loaded_of c₀) root others)) q

    doubles : (o : Option ℕ) → Public (loaded_of c₀) (documents_of w) c (answer_twice o w l c₀)
    doubles (some i) q = absurd (let z : ◌≡◌ {A = ℕ} 0 1 = cc in omega arith)
    doubles none q = documents (documents_of w) q

    shape : (s : Result (Unit {0}) Refused) → Public (loaded_of c₀) (documents_of w) c (answer_shape s w l c₀)
    shape (Err found) q = absurd (let z : ◌≡◌ {A = ℕ} 0 1 = cc in omega arith)
    shape (Ok u) q = doubles (twice [] w (document_places w)) q
