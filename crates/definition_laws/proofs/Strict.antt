-- The two modes of 2026-07. The strict work is the present one up to its first note of row 11 (`Beside`); so where strict is not refused by row 11 both answer
-- the same (`strict_or_row_11`), a delivery too, word for word (`strict_equals_present`). Assumes nothing.
use Prim.Native.Nat.{ℕ, zero, suc, ◌-◌, ◌≤◌}
use native.Mathlib.Omega.{arith}
use mathlib.Core.Path.{◌≡◌, refl, sym, ap, subst, ◌∙◌}
use mathlib.Core.Bool.{Bool, true, false, cond}
use mathlib.Core.Option.{Option, none, some}
use mathlib.Core.List.{List, [], ◌∷◌, ◌++◌}
use lib.ListN.{length}
use lib.Dec.{ltb}
use borrow.Author.Tests.{lt-ltb, le-ltb}
use Rattle.std.specs.Prelude.{Result, Ok, Err}
use Rattle.words.specs.declared.row.Refused.{Refused}
use Rattle.words.specs.Ast.{Definition, LocalDefinition, IncludeDefinition, ModelDefinition}
use Rattle.words.specs.Ast.{PublicModelDefinition, PlainFunction, PublicFunction, ImplementDefinition, ApplyDefinition, Document}
use Rattle.words.specs.Areas.{widths}
use Rattle.tree.specs.Check.{shape_of}
use Rattle.tree.specs.Reading.{documents_of}
use Rattle.definition.specs.FunctionState.{or_else}
use Rattle.definition.specs.Uses.{Use, Limits, using', limit_of, first_over, over_by, first_not_public, not_public_area}
use Rattle.definition.specs.Compiler.{Error}
use Rattle.definition.specs.Book
use Rattle.definition.specs.Book.{Context, in_mode, BookStep, new_context, noted}
use Rattle.definition.specs.Book.{gives_values, compile_include, compile_include_definition, compile_definition, compile_definitions}
use Rattle.definition.specs.Book.{opened, compile_document, publish, compile_model_definition, compile_function_definition, with_context, with_assemblies}
use Rattle.definition.specs.DependencySolver.{Worked, Ending, Delivered, Faulty, Ring, ready, without, after_book, drive_by, drive, loaded_of, needed}
use Rattle.definition.specs.DependencySolver.{missing, compile_needed}
use Rattle.definition.specs.Program.{tables_of}
use Rattle.definition.specs.Answer.{Answer, Delivery, Refusal, answer_over, answer_by}
use Rattle.definition.specs.Answer.{answer_worked, answer_needed, answer_bundle, answer_documents}
use Rattle.definition.specs.Answer.{answer_twice, answer_shape, answer_from, answer, twice, document_places, limits_by, limits_of, reply_of, areas_of}
use Rattle.definition.specs.Strict.{in_present}
use Rattle.definition_laws.proofs.StepPreserves.{NotesGrow, same, more, longer_trans}
use Rattle.definition_laws.proofs.Modes.{Stays, Staying, stays_refl, stays_trans, stays_noted, stays_include, stays_locals, stays_model, stays_publish}
use Rattle.definition_laws.proofs.Modes.{stays_function, stays_implement, stays_apply, present, alike_include, alike_locals, alike_model, alike_function}
use Rattle.definition_laws.proofs.Modes.{alike_implement, alike_apply}
use Rattle.definition_laws.proofs.Lists.{cond_case}

-- notes

pub first_longer : (l : Limits) {us vs : List Use} {a : ℕ} → NotesGrow us vs → first_over l us ≡ some a → first_over l vs ≡ some a
unfolding first_over
first_longer l same h = h
first_longer l (more {v = v} m) h = ap (λ (o : Option ℕ). or_else o (over_by l v)) (first_longer l m h)

-- no area has a number from 16 on
limits_end : (ks ns : List ℕ) (area : ℕ) → length ks ≤ area → limit_of (limits_by ks ns) area ≡ 0
limits_end [] ns area h = refl
limits_end (k ∷ ks) [] area h = refl
limits_end (k ∷ ks) (n ∷ ns) zero h = absurd (omega arith)
limits_end (k ∷ ks) (n ∷ ns) (suc area) h = limits_end ks ns area (omega arith)

pub none_there : (lengths : List ℕ) (area : ℕ) → first_not_public ≤ area → limit_of (limits_of lengths) area ≡ 0
none_there lengths area h = limits_end widths lengths area (omega arith)

-- a note of row 11
abbrev pub refusing : ℕ → Use
refusing index = using' (not_public_area index) 1

pub noted_first : (lengths : List ℕ) (index : ℕ) (us : List Use) → first_over (limits_of lengths) us ≡ none
    → first_over (limits_of lengths) (refusing index ∷ us) ≡ some (not_public_area index)
unfolding first_over
noted_first lengths index us h =
    let z = none_there lengths (not_public_area index) (omega arith) in
    rw h (rw (lt-ltb (limit_of (limits_of lengths) (not_public_area index)) 1 (omega arith)))

row_11 : (index : ℕ) → answer_over (not_public_area index) ≡ Refusal 11 index []
row_11 index =
    let place : not_public_area index - first_not_public ≡ index = omega arith in
    ap (λ (b : Bool). cond b (Refusal 9 (not_public_area index) []) (Refusal 11 (not_public_area index - first_not_public) []))
    (le-ltb (not_public_area index) first_not_public (omega arith))
    ∙ ap (λ (n : ℕ). Refusal 11 n []) place

-- a work in strict mode and the same in the present mode: alike, or parted at an include from the same notes on
pub data Beside (b b' : Book.Book) : Type 0 where
  agree : b' ≡ present b → Beside b b'
  parted : (us : List Use) (index : ℕ) → NotesGrow (refusing index ∷ us) b.uses → NotesGrow us b'.uses → Beside b b'

pub stays_definition : (d : Definition) → Staying (compile_definition d)
unfolding compile_definition compile_include
stays_definition (LocalDefinition bs) b = stays_locals bs b
stays_definition (IncludeDefinition index file l) b =
    cond_case (Stays b) (gives_values file.value l b.context) (λ t. stays_include file.value l b) (λ t. stays_noted _ 1 b)
stays_definition (ModelDefinition n ps) b = stays_model n ps b
stays_definition (PublicModelDefinition n ps) b = stays_trans (stays_model n ps b) (stays_publish n.value (compile_model_definition n ps b))
stays_definition (PlainFunction f) b = stays_function f b
stays_definition (PublicFunction f) b = stays_trans (stays_function f b) (stays_publish f.name.value (compile_function_definition f b))
stays_definition (ImplementDefinition m fs) b = stays_implement m fs b
stays_definition (ApplyDefinition s t) b = stays_apply s t b

pub stays_definitions : (ds : List Definition) → Staying (compile_definitions ds)
unfolding compile_definitions
stays_definitions [] b = stays_refl b
stays_definitions (d ∷ ds) b = stays_trans (stays_definition d b) (stays_definitions ds (compile_definition d b))

beside_definition : (d : Definition) (b : Book.Book) → Beside (compile_definition d b) (compile_definition d (present b))
unfolding compile_definition compile_include
beside_definition (LocalDefinition bs) b = agree (alike_locals bs b)
beside_definition (IncludeDefinition index file l) b = go (gives_values file.value l b.context)
  where
    go : (t : Bool) → Beside (cond t (compile_include_definition file.value l b) (noted (not_public_area index) 1 b)) (compile_include_definition
        file.value l (present b))
    go true = agree (alike_include file.value l b)
    go false = parted b.uses index same (stays_include file.value l (present b)).uses
beside_definition (ModelDefinition n ps) b = agree (ap (λ (p : Book.Placed). p.book) (alike_model n ps b))
beside_definition (PublicModelDefinition n ps) b = agree (ap (λ (p : Book.Placed). publish n.value p) (alike_model n ps b))
beside_definition (PlainFunction f) b = agree (ap (λ (p : Book.Placed). p.book) (alike_function f b))
beside_definition (PublicFunction f) b = agree (ap (λ (p : Book.Placed). publish f.name.value p) (alike_function f b))
beside_definition (ImplementDefinition m fs) b = agree (alike_implement m fs b)
beside_definition (ApplyDefinition s t) b = agree (alike_apply s t b)

beside_definitions : (ds : List Definition) (b b' : Book.Book) → Beside b b' → Beside (compile_definitions ds b) (compile_definitions ds b')
unfolding compile_definitions
beside_definitions [] b b' h = h
beside_definitions (d ∷ ds) b b' (agree e) =
    beside_definitions ds (compile_definition d b) (compile_definition d b')
    (subst (λ (x : Book.Book). Beside (compile_definition d b) (compile_definition d x)) (sym e) (beside_definition d b))
beside_definitions (d ∷ ds) b b' (parted us i l l') =
    beside_definitions ds (compile_definition d b) (compile_definition d b')
    (parted us i (longer_trans l (stays_definition d b).uses) (longer_trans l' (stays_definition d b').uses))

beside_document : (d : Document) (c : Context) (us : List Use) → Beside (compile_document d c us) (compile_document d (in_mode false c) us)
unfolding compile_document
beside_document d c us = go (beside_definitions d.definitions (opened d c us) (opened d (in_mode false c) us) (agree refl))
  where
    away : Book.Book → Book.Book
    away b = with_context (with_assemblies (b.context.assemblies ++ (b.assembly ∷ [])) b.context) b

    go : {b b' : Book.Book} → Beside b b' → Beside (away b) (away b')
    go (agree e) = agree (ap away e)
    go (parted us i l l') = parted us i l l'

-- the books in their order

pub document_longer : (d : Document) (c : Context) (us : List Use) → NotesGrow us (compile_document d c us).uses
unfolding compile_document
document_longer d c us = (stays_definitions d.definitions (opened d c us)).uses

after_longer : (es : List Error) (file : ℕ) (c : Context) (us : List Use) (go : Context → List Use → Worked)
    → ((c : Context) (us : List Use) → NotesGrow us (go c us).uses) → NotesGrow us (after_book es file c us go).uses
after_longer [] file c us go h = h c us
after_longer (e ∷ es) file c us go h = same

pub drive_longer : (k : ℕ) (ds : List Document) (done left : List ℕ) (c : Context) (us : List Use) → NotesGrow us (drive k ds done left c us).uses
unfolding drive
drive_longer zero ds done left c us = same
drive_longer (suc k) ds done left c us = go (ready ds done left) (λ d c' us'. drive_longer k ds _ _ c' us')
  where
    next : Document → Context → List Use → Worked
    next d c' us' = drive k ds (d.filename ∷ done) (without d.filename left) c' us'

    go : (o : Option Document) → ((d : Document) (c' : Context) (us' : List Use) → NotesGrow us' (next d c' us').uses)
        → NotesGrow us (drive_by o left c us next).uses
    go none h = more same
    go (some d) h =
        let b = compile_document d c us in
        longer_trans (document_longer d c us) (after_longer b.compiler.errors d.filename b.context b.uses (next d) (h d))

abbrev presently : Ending → Ending
presently (Delivered c) = Delivered (in_mode false c)
presently (Faulty n es) = Faulty n es
presently (Ring l) = Ring l

data Together (w w' : Worked) : Type 0 where
  agree : w'.uses ≡ w.uses → w'.ending ≡ presently w.ending → Together w w'
  parted : (us : List Use) (index : ℕ) → NotesGrow (refusing index ∷ us) w.uses → NotesGrow us w'.uses → Together w w'

together_drive : (k : ℕ) (ds : List Document) (done left : List ℕ) (c : Context) (us : List Use)
    → Together (drive k ds done left c us) (drive k ds done left (in_mode false c) us)
unfolding drive
together_drive zero ds done left c us = agree refl refl
together_drive (suc k) ds done left c us = go (ready ds done left) (λ d c' us'. together_drive k ds _ _ c' us')
  where
    next : Document → Context → List Use → Worked
    next d c' us' = drive k ds (d.filename ∷ done) (without d.filename left) c' us'

    longer : (d : Document) (b : Book.Book) → NotesGrow b.uses (after_book b.compiler.errors d.filename b.context b.uses (next d)).uses
    longer d b = after_longer b.compiler.errors d.filename b.context b.uses (next d) (λ c' us'. drive_longer k ds _ _ c' us')

    after : (d : Document) (es : List Error) (c' : Context) (us' : List Use) → Together (next d c' us') (next d (in_mode false c') us')
        → Together (after_book es d.filename c' us' (next d)) (after_book es d.filename (in_mode false c') us' (next d))
    after d [] c' us' h = h
    after d (e ∷ es) c' us' h = agree refl refl

    book : (d : Document) (b b' : Book.Book) → Beside b b' → ((c' : Context) (us' : List Use) → Together (next d c' us') (next d (in_mode false c') us'))
        → Together (after_book b.compiler.errors d.filename b.context b.uses (next d))
        (after_book b'.compiler.errors d.filename b'.context b'.uses (next d))
    book d b b' (agree e) h =
        subst (λ (x : Book.Book). Together (after_book b.compiler.errors d.filename b.context b.uses (next d))
        (after_book x.compiler.errors d.filename x.context x.uses (next d))) (sym e)
        (after d b.compiler.errors b.context b.uses (h b.context b.uses))
    book d b b' (parted us₀ i l l') h = parted us₀ i (longer_trans l (longer d b)) (longer_trans l' (longer d b'))

    go : (o : Option Document) → ((d : Document) (c' : Context) (us' : List Use) → Together (next d c' us') (next d (in_mode false c') us'))
        → Together (drive_by o left c us next) (drive_by o left (in_mode false c) us next)
    go none h = agree refl refl
    go (some d) h = book d (compile_document d c us) (compile_document d (in_mode false c) us) (beside_document d c us) (h d)

-- the call

-- the answer of the present mode is that of the strict mode, or this is row 11
pub data Modes (strict present' : Answer) : Type 0 where
  equal : present' ≡ in_present strict → Modes strict present'
  refused : (index : ℕ) → strict ≡ Refusal 11 index [] → Modes strict present'

-- a refusal is the same in both
over_same : (area : ℕ) → answer_over area ≡ in_present (answer_over area)
over_same area = go (ltb area first_not_public)
  where
    go : (t : Bool) → cond t (Refusal 9 area []) (Refusal 11 (area - first_not_public) [])
        ≡ in_present (cond t (Refusal 9 area []) (Refusal 11 (area - first_not_public) []))
    go true = refl
    go false = refl

modes_worked : (lengths : List ℕ) {w w' : Worked} → Together w w' → Modes (answer_worked (limits_of lengths) w) (answer_worked (limits_of lengths) w')
modes_worked lengths {w} {w'} (agree u e) = equal (rw (u, e) (go (first_over (limits_of lengths) w.uses) w.ending))
  where
    go : (o : Option ℕ) (x : Ending) → answer_by o (presently x) ≡ in_present (answer_by o x)
    go (some area) x = over_same area
    go none (Delivered c) = refl
    go none (Faulty n es) = refl
    go none (Ring l) = refl
modes_worked lengths {w} {w'} (parted us index l l') = go (first_over (limits_of lengths) us) refl
  where
    κ : Limits
    κ = limits_of lengths

    by : (v : Worked) {a : ℕ} → first_over κ v.uses ≡ some a → answer_worked κ v ≡ answer_over a
    by v h = ap (λ (o : Option ℕ). answer_by o v.ending) h

    go : (o : Option ℕ) → first_over κ us ≡ o → Modes (answer_worked κ w) (answer_worked κ w')
    go (some a) h =
        let strict : answer_worked κ w ≡ answer_over a = by w (first_longer κ (longer_trans (more same) l) h) in
        equal (by w' (first_longer κ l' h) ∙ over_same a ∙ ap in_present (sym strict))
    go none h = refused index (by w (first_longer κ l (noted_first lengths index us h)) ∙ row_11 index)

pub strict_or_row_11 : (c : Context) (w lengths : List ℕ) → Modes (answer_from c w lengths) (answer_from (in_mode false c) w lengths)
unfolding answer_from answer_bundle compile_needed
strict_or_row_11 c w lengths = shape (shape_of w)
  where
    l : Limits
    l = limits_of lengths

    needing : (o : Option ℕ) (numbers : List ℕ) (ds : List Document) → Modes (answer_needed o numbers ds l c) (answer_needed o numbers ds l (in_mode false c))
    needing (some n) numbers ds = equal refl
    needing none numbers ds = modes_worked lengths (together_drive (length numbers) ds (loaded_of c) numbers c _)

    documents : (ds : List Document) → Modes (answer_documents ds l c) (answer_documents ds l (in_mode false c))
    documents [] = equal refl
    documents (root ∷ others) =
        let numbers = needed (loaded_of c) root others in
        needing (missing (root ∷ others) numbers) numbers (root ∷ others)

    doubles : (o : Option ℕ) → Modes (answer_twice o w l c) (answer_twice o w l (in_mode false c))
    doubles (some i) = equal refl
    doubles none = documents (documents_of w)

    shape : (s : Result (Unit {0}) Refused) → Modes (answer_shape s w l c) (answer_shape s w l (in_mode false c))
    shape (Err found) = equal refl
    shape (Ok u) = doubles (twice [] w (document_places w))

-- 'Strict programs equal the present ones whenever both are delivered': reply and every word; what is delivered in strict mode is delivered in the present one
pub strict_equals_present : (w lengths : List ℕ) (c : Context) → answer true w lengths ≡ Delivery c
    → (reply_of (answer true w lengths) ≡ reply_of (answer false w lengths)) × (areas_of lengths (answer true w lengths) ≡ areas_of lengths
    (answer false w lengths))
unfolding answer reply_of areas_of tables_of
strict_equals_present w lengths c e = go (strict_or_row_11 (new_context true) w lengths)
  where
    go : Modes (answer true w lengths) (answer false w lengths)
        → (reply_of (answer true w lengths) ≡ reply_of (answer false w lengths)) × (areas_of lengths (answer true w lengths) ≡ areas_of lengths
        (answer false w lengths))
    go (equal h) =
        let same' : answer false w lengths ≡ Delivery (in_mode false c) = h ∙ ap in_present e in
        (ap reply_of e ∙ sym (ap reply_of same'), ap (areas_of lengths) e ∙ sym (ap (areas_of lengths) same'))
    go (refused i h) = absurd (let z : ◌≡◌ {A = ℕ} 0 1 = cc in omega arith)
