-- The books that are left: what holds of each document holds of the one that is ready, and the entries of area 12 name the books. Assumes nothing.
use Prim.Native.Nat.{ℕ, zero, suc, ◌+◌, ◌*◌, ◌/◌, ◌<◌}
use native.Mathlib.Omega.{arith}
use mathlib.Core.Path.{◌≡◌, refl, sym, ap, subst, ◌∙◌}
use mathlib.Core.Bool.{Bool, true, false, cond}
use mathlib.Core.Option.{Option, none, some}
use mathlib.Core.List.{List, [], ◌∷◌, ◌++◌, append_assoc}
use lib.ListN.{length, get_or, length-append}
use lib.Seq.{get_or_at, get_or-append-add}
use lib.Dec.{eqb}
use Rattle.words.specs.Ast.{Document}
use Rattle.words.specs.Areas.{entry_word}
use Rattle.definition.specs.Prior.{Entries, file_numbers}
use Rattle.definition.specs.Book.{Assembly}
use Rattle.definition.specs.DependencySolver.{find_document, all_in, dependencies, ready_by, ready, files_of}
use Rattle.definition.specs.Within.{All, nil, ◌&◌}
use Rattle.definition_laws.proofs.Counts.{numbers_length}
use Rattle.compiler_laws.specs.SolverSteps.{book_unit, AllWait, Stands}
use Rattle.compiler_laws.specs.BooksInOrder.{Leaves}

-- what holds of each document holds of the one that is ready
module _ {P : Document → Type 0} where
  all_found : (n : ℕ) (ds : List Document) → All P ds → {d : Document} → find_document n ds ≡ some d → P d
  all_found n [] nil h = absurd (let z : ◌≡◌ {A = ℕ} 0 1 = cc in omega arith)
  all_found n (x ∷ ds) (p & ps) {d} h = go (λ q. all_found n ds ps q) (eqb x.filename n) h
    where
      go : (find_document n ds ≡ some d → P d) → (t : Bool) → cond t (some x) (find_document n ds) ≡ some d → P d
      go r true q = let same : x ≡ d = cc in subst P same p
      go r false q = r q

  all_by : (o : Option Document) (done : List ℕ) (rest : Option Document) {d : Document} → ((x : Document) → o ≡ some x → P x)
      → (rest ≡ some d → P d) → ready_by o done rest ≡ some d → P d
  all_by none done rest here later h = later h
  all_by (some x) done rest {d} here later h = go (all_in (dependencies x.definitions) done) h
    where
      go : (t : Bool) → cond t (some x) rest ≡ some d → P d
      go true q = let same : x ≡ d = cc in subst P same (here x refl)
      go false q = later q

  pub all_ready : (ds : List Document) (done left : List ℕ) → All P ds → {d : Document} → ready ds done left ≡ some d → P d
  all_ready ds done [] ps h = absurd (let z : ◌≡◌ {A = ℕ} 0 1 = cc in omega arith)
  all_ready ds done (n ∷ left) ps h =
      all_by (find_document n ds) done (ready ds done left) (λ x q. all_found n ds ps q) (λ q. all_ready ds done left ps q) h

-- the books that stood before are first in area 12, then those put away
pub stood_at : (es : Entries) (rest : List ℕ) (i : ℕ) → i < length es → get_or (file_numbers es ++ rest) i 0 ≡ get_or (get_or es i []) 0 0
stood_at [] rest i h = absurd (omega arith)
stood_at (e ∷ es) rest zero h = refl
stood_at (e ∷ es) rest (suc i) h = stood_at es rest i (omega arith)

files_at : (as' : List Assembly) (rest : List ℕ) (i : ℕ) → i < length as'
    → get_or (files_of as' ++ rest) i 0 ≡ (get_or as' i (record { filename = 0; index = 0; publics = [] })).filename
files_at [] rest i h = absurd (omega arith)
files_at (a ∷ as') rest zero h = refl
files_at (a ∷ as') rest (suc i) h = files_at as' rest i (omega arith)

pub added_at : (es : Entries) (as' : List Assembly) (rest : List ℕ) (i : ℕ) → i < length as'
    → get_or (file_numbers es ++ (files_of as' ++ rest)) (length es + i) 0 ≡ (get_or as' i (record { filename = 0; index = 0; publics = [] })).filename
added_at es as' rest i h =
    let place : length es + i ≡ length (file_numbers es) + i = omega (arith, numbers_length es) in
    rw (place, get_or-append-add (file_numbers es) (files_of as' ++ rest) i 0) (files_at as' rest i h)

-- a book that waits: its entry begins with its number
leaves_behind : (ds : List Document) (tree : List ℕ) (end : ℕ) (set o pre left ws rest : List ℕ) → o ≡ pre ++ (ws ++ rest)
    → AllWait ds tree end set left ws → Leaves o (length pre) left
leaves_behind ds tree end set o pre [] ws rest q h = tt
leaves_behind ds tree end set o pre (n ∷ left) [] rest q h = absurd h
leaves_behind ds tree end set o pre (n ∷ left) (w ∷ ws) rest q h =
    let place : length pre * 1 + 0 ≡ length pre = omega arith in
    let here : entry_word 1 (length pre) 0 o ≡ w = rw (place, q) (get_or_at pre w (ws ++ rest) 0 (length pre) refl) in
    let again : o ≡ (pre ++ (w ∷ [])) ++ (ws ++ rest) = q ∙ sym (append_assoc pre (w ∷ []) (ws ++ rest)) in
    let long : length (pre ++ (w ∷ [])) ≡ length pre + 1 = length-append pre (w ∷ []) in
    (ap (λ (x : ℕ). x / book_unit) here ∙ h.0.number, rw long at (leaves_behind ds tree end set o (pre ++ (w ∷ [])) left ws rest again h.1))

pub leaves_are : {ds : List Document} {tree : List ℕ} {end : ℕ} {files left rest books set compiled : List ℕ}
    → Stands ds tree end files left rest books set compiled → Leaves books (length files) left
leaves_are {ds} {tree} {end} {files} {left} {rest} {books} {set} S = leaves_behind ds tree end set books files left S.words rest S.area S.waits
