-- What compiling whole documents adds to the notes, and what it leaves of the books put away: by what each definition leaves unchanged. Assumes nothing.
use Prim.Native.Nat.{ℕ, zero, suc}
use mathlib.Core.Path.{◌≡◌, refl, sym, ap, ◌∙◌}
use mathlib.Core.Option.{Option, none, some}
use mathlib.Core.List.{List, [], ◌∷◌, ◌++◌, append_assoc}
use Rattle.words.specs.Ast.{Definition, Document}
use Rattle.definition.specs.Prior.{file_numbers}
use Rattle.definition.specs.Uses.{Use}
use Rattle.definition.specs.Compiler.{Error}
use Rattle.definition.specs.Book.{Assembly, Context, Book, opened, compile_definition, compile_definitions, compile_document}
use Rattle.definition.specs.DependencySolver.{Worked, after_book, drive_by, drive, ready, without, files_of, loaded_of}
use Rattle.definition_laws.proofs.StepPreserves.{NotesGrow, same, more, longer_trans}
use Rattle.compiler_laws.proofs.UnchangedByBooks.{Unchanged, unchanged_refl, unchanged_trans}
use Rattle.compiler_laws.proofs.BooksPutAway.{put_away}

module _ (calm : (d : Definition) → Unchanged (compile_definition d)) where
  pub unchanged_definitions : (ds : List Definition) → Unchanged (compile_definitions ds)
  unfolding compile_definitions
  unchanged_definitions [] b = unchanged_refl b
  unchanged_definitions (d ∷ ds) b = unchanged_trans (calm d b) (unchanged_definitions ds (compile_definition d b))

  pub document_longer : (d : Document) (c : Context) (uses : List Use) → NotesGrow uses (compile_document d c uses).uses
  unfolding compile_document
  document_longer d c uses = (unchanged_definitions d.definitions (opened d c uses)).uses

  pub after_longer : (es : List Error) (file : ℕ) (c : Context) (uses : List Use) (go : Context → List Use → Worked)
      → ((x : Context) (us : List Use) → NotesGrow us (go x us).uses) → NotesGrow uses (after_book es file c uses go).uses
  after_longer [] file c uses go h = h c uses
  after_longer (e ∷ es) file c uses go h = same

  by_longer : (o : Option Document) (left : List ℕ) (c : Context) (uses : List Use) (go : Document → Context → List Use → Worked)
      → ((d : Document) (x : Context) (us : List Use) → NotesGrow us (go d x us).uses) → NotesGrow uses (drive_by o left c uses go).uses
  by_longer none left c uses go h = more same
  by_longer (some d) left c uses go h =
      let b = compile_document d c uses in
      longer_trans (document_longer d c uses) (after_longer b.compiler.errors d.filename b.context b.uses (go d) (h d))

  pub drive_longer : (k : ℕ) (ds : List Document) (done left : List ℕ) (c : Context) (uses : List Use) → NotesGrow uses (drive k ds done left c uses).uses
  unfolding drive
  drive_longer zero ds done left c uses = same
  drive_longer (suc k) ds done left c uses =
      by_longer (ready ds done left) left c uses (λ d c' uses'. drive k ds (d.filename ∷ done) (without d.filename left) c' uses')
      (λ d c' uses'. drive_longer k ds (d.filename ∷ done) (without d.filename left) c' uses')

-- the file numbers of the books that stood before and of those put away
files_more : (as' : List Assembly) (a : Assembly) → files_of (as' ++ (a ∷ [])) ≡ files_of as' ++ (a.filename ∷ [])
files_more [] a = refl
files_more (x ∷ as') a = ap (λ (l : List ℕ). x.filename ∷ l) (files_more as' a)

pub loaded_more : (x : Book) → loaded_of (put_away x) ≡ loaded_of x.context ++ (x.assembly.filename ∷ [])
loaded_more x =
    let stood = file_numbers x.context.prior.books in
    ap (λ (l : List ℕ). stood ++ l) (files_more x.context.assemblies x.assembly)
    ∙ sym (append_assoc stood (files_of x.context.assemblies) (x.assembly.filename ∷ []))
