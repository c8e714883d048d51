-- What the routines that compile functions over one memory promise: parameters, the base, a function made and added to the book or dropped
-- Private contracts alone cite this file: whoever reads the promises need not believe it
use Rattle.std.specs.Prelude.{◌≡◌, ℕ, ◌+◌, ◌*◌, true, cond, List, length}
use Rattle.std.proofs.Math.Option.{Option}
use Rattle.words.specs.Ast.{Token, FunctionDefinition}
use Rattle.words.specs.Areas.{functions_area, context_locals_area}
use Rattle.words.specs.Record.{token_at}
use Rattle.tree.specs.At.{Leaf, ParametersAt, FunctionAt, size_f}
use Rattle.definition.specs.FunctionState.{new_function_state}
use Rattle.definition.specs.Uses.{Limits}
use Rattle.definition.specs.Compiler.{Work, with_function, compile_parameter, compile_parameters, compile_function_definition_base}
use Rattle.definition.specs.Book.{Book, push_book_error, compile_base, add_plain_function}
use Rattle.definition.specs.Program.{Entries, code_table}
use Rattle.building.specs.declared.function_state.FunctionState.{FunctionState}
use Rattle.building.specs.Found.{Found, found_of}
use Rattle.building.specs.RepresentsMachine.{LocalsHeld, is_open}
use Rattle.compiler_laws.specs.declared.book.Book as struct
use Rattle.compiler_laws.specs.BookSteps.{AddedLocal}
use Rattle.compiler_laws.specs.AddingFunctions.{Bounded, ended, base_of, AddsFunction}
use Rattle.undo.specs.Stood.{Spares}
use Rattle.book_compiler.specs.Represents.{Memory, laid, is_built, Represents}
use Rattle.book_compiler.specs.RepresentsBook.{BookMemory, book_laid, area_of, RepresentsBook, OnArea}

-- `parameter`
pub record CompilesParameter (tree : List ℕ) (at : ℕ) (m m' : Memory) : Type 0 where
  pub meets : (t : Token) → Leaf tree at t.kind t → (κ : Limits) (E : Entries) (others : ℕ → List ℕ) (w : Work) → is_open w.function.scopes ≡ true
      → Represents κ E others m w → Represents κ E others m' (compile_parameter t w)

-- `parameters`: those from a place up to the end
pub record CompilesParameters (tree : List ℕ) (at end : ℕ) (m m' : Memory) : Type 0 where
  pub meets : (ts : List Token) → ParametersAt ts tree at → at + length ts ≡ end → (κ : Limits) (E : Entries) (others : ℕ → List ℕ) (w : Work)
      → is_open w.function.scopes ≡ true → Represents κ E others m w → Represents κ E others m' (compile_parameters ts w)

-- `compile_function_definition_base`: a function from its record on, in a state that begins one
pub record CompilesBase (tree : List ℕ) (at end start count : ℕ) (m m' : Memory) : Type 0 where
  pub meets : (kind : ℕ) (f : FunctionDefinition) → FunctionAt kind f tree at → at + size_f f ≡ end → (κ : Limits) (E : Entries) (others : ℕ → List ℕ)
      (w : Work) → LocalsHeld start count (others context_locals_area) w.compiler → Represents κ E others m (with_function new_function_state w)
      → Represents κ E others m' (compile_function_definition_base f.parameters f.body w)

-- the parts beside a function of a book: those that no function changes as they are, and what stood in those that functions are built in
abbrev pub beside : (ℕ → List ℕ) → BookMemory → ℕ → List ℕ
beside stood m i = cond (is_built i) (stood i) (area_of m i)

-- the memory stood for a book, and with the function's state it now stands for a function of the book, at its end; the parts that no function
-- changes are as they were
pub record Built (κ : Limits) (ps : List ℕ) (others : ℕ → List ℕ) (m : BookMemory) (x : Book) (f : FunctionDefinition) (m' : Memory) : Type 0 where
  pub book : RepresentsBook κ ps others m x
  pub function : Represents κ (code_table x.context) (beside others m) m' (ended (base_of f x))

-- `make`
pub record MakesFunction (tree : List ℕ) (at end : ℕ) (m : BookMemory) (m' : Memory) : Type 0 where
  pub makes : (kind : ℕ) (f : FunctionDefinition) → FunctionAt kind f tree at → at + size_f f ≡ end → (κ : Limits) (ps : List ℕ) (others : ℕ → List ℕ)
      (x : Book) → RepresentsBook κ ps others m x → Built κ ps others m x f m'

-- a function's entry is written behind those in use
pub record SparesFunctions (r : FunctionState) (s : struct.Book) (g : List ℕ) (s' : struct.Book) (g' : List ℕ) : Type 0 where
  pub words : Spares functions_area r.full (s.functions * 8) g g'
  pub full : s'.full ≡ 0 → r.full ≡ 0

-- `add_function`: part 3; the book's constants are then the function's
pub record AddsBookFunction (name : ℕ) (r : FunctionState) (m m' : BookMemory) : Type 0 where
  pub acts : OnArea functions_area (λ g g'. (AddsFunction name m.book r g m'.book g' × SparesFunctions r m.book g m'.book g')
      × ((m'.book.constants ≡ r.constants) × (m'.book.standing_methods ≡ m.book.standing_methods))) m m'

-- `drop_instance`: error 8, at the function's name; l are the memory's words before the function
pub record DropsBookFunction (tree : List ℕ) (at : ℕ) (r : FunctionState) (m m' : BookMemory) : Type 0 where
  pub drops : (f : FunctionDefinition) (l : List ℕ) (κ : Limits) (ps : List ℕ) (others : ℕ → List ℕ) (x : Book)
      → Built κ ps others (book_laid m.book m.starts l) x f (laid r m.starts m.words)
      → RepresentsBook κ ps others m' (push_book_error 8 (token_at tree at) (compile_base f x).book)

-- `add_plain`: where nothing is full, the local is the definition's and one of the book's context
pub record AddsPlainFunction (name : ℕ) (found : Found) (r : FunctionState) (m m' : BookMemory) (place : ℕ) : Type 0 where
  pub adds : r.full ≡ 0 → (f : FunctionDefinition) → Bounded f → (l : List ℕ) (κ : Limits) (ps : List ℕ) (others : ℕ → List ℕ) (x : Book) (o : Option ℕ)
      → found ≡ found_of o → AddedLocal o x.context → Built κ ps others (book_laid m.book m.starts l) x f (laid r m.starts m.words)
      → RepresentsBook κ ps others m' (add_plain_function o (compile_base f x).state name (compile_base f x).book).book
      × (m'.book.full ≡ 0 → place ≡ (add_plain_function o (compile_base f x).state name (compile_base f x).book).place)
