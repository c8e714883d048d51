-- What the routines of a book's definitions promise over one memory: whatever book it stands for before, it stands for the definition's after
-- Private contracts alone cite this file: whoever reads the promises need not believe it
use Rattle.building.specs.Found.{Found}
use Rattle.std.specs.Prelude.{◌≡◌, ℕ, ◌+◌, ◌^◌, ◌<◌, ◌≤◌, List, [], ◌∷◌, length}
use Rattle.std.proofs.Math.Option.{Option, some}
use Rattle.words.specs.Ast.{Token, Binding, Alias, FunctionDefinition, IncludeDefinition, ApplyDefinition}
use Rattle.words.specs.Areas.{models_area, properties_area, books_area}
use Rattle.words.specs.Object.{constant_of}
use Rattle.words.specs.Record.{token_at}
use Rattle.tree.specs.At.{Leaf, Headed, ValueAt, BindingAt, AliasAt, NameAt, FunctionAt, DefinitionAt, RunAt, run_size, size_f, size_d, single, double}
use Rattle.definition.specs.Uses.{Limits}
use Rattle.definition.specs.Book.{Book, BookStep, Placed, set_local_value, add_book_constant, value_of, compile_value, compile_binding}
use Rattle.definition.specs.Book.{compile_local_definition}
use Rattle.definition.specs.Book.{compile_alias, compile_include_definition, compile_include, property_count, add_property, compile_properties}
use Rattle.definition.specs.Book.{compile_model_definition, find_model_index_by_local_name, compile_apply_definition, compile_function_definition}
use Rattle.definition.specs.Book.{add_methods, compile_implement_definition}
use Rattle.definition.specs.Within.{All}
use Rattle.building.specs.declared.taking.Taken.{Taken}
use Rattle.building.specs.Taking.{Took}
use Rattle.compiler_laws.specs.declared.book.Book as struct
use Rattle.compiler_laws.specs.BookAreas.{NamesBooks}
use Rattle.compiler_laws.specs.BookSteps.{Located}
use Rattle.compiler_laws.specs.AddingFunctions.{Bounded}
use Rattle.compiler_laws.specs.ImplementSteps.{implementing, implementing_all, numbered}
use Rattle.compiler_laws.specs.ModelSteps.{place_model}
use Rattle.compiler_laws.proofs.BookCounts.{with_model_count, with_property_count}
use Rattle.book_compiler.specs.RepresentsBook.{BookMemory, RepresentsBook, OnArea, SimulatesBook, SimulatesPlaced, SimulatesSought}
use Rattle.book_compiler.specs.BookLeaves.{SameCounts}

-- of a context local that was found: it is the definition's, where nothing is full
pub record SimulatesLocated (found : Found) (m m' : BookMemory) (step : Option ℕ → BookStep) : Type 0 where
  pub meets : (κ : Limits) (ps : List ℕ) (others : ℕ → List ℕ) (x : Book) (o : Option ℕ) → Located m.book found o x → RepresentsBook κ ps others m x
      → RepresentsBook κ ps others m' (step o x)

-- `add_value`: a constant, which is the value of the local
pub record AddsLocalValue (found : Found) (kind value : ℕ) (m m' : BookMemory) : Type 0 where
  pub adds : SimulatesLocated found m m' (λ o x. let a = add_book_constant (constant_of kind value) x in set_local_value o a.place a.book)

-- `give_value`: the value of the local, at its place
pub record GivesLocalValue (tree : List ℕ) (at : ℕ) (found : Found) (m m' : BookMemory) : Type 0 where
  pub gives : (v : Token) → Leaf tree at v.kind v → SimulatesLocated found m m' (compile_value (value_of v) v)

-- a pair of a local definition: its name, and its value at the next place
pub record CompilesBinding (tree : List ℕ) (at next : ℕ) (m m' : BookMemory) : Type 0 where
  pub binds : (x : Binding) → Leaf tree at 40 x.variable → ValueAt x.value tree next → SimulatesBook m m' (compile_binding x)

-- `compile_local_definition`: its pairs, from a place up to the end
pub record CompilesLocalDefinition (tree : List ℕ) (at end : ℕ) (m m' : BookMemory) : Type 0 where
  pub defines : (xs : List Binding) → RunAt BindingAt double xs tree at → at + run_size double xs ≡ end → SimulatesBook m m' (compile_local_definition xs)

-- among the books before, which area 12 names
pub record SimulatesAmong (m m' : BookMemory) (step : BookStep) : Type 0 where
  pub meets : (κ : Limits) (ps : List ℕ) (others : ℕ → List ℕ) (b : Book) → NamesBooks (others books_area) b.context → RepresentsBook κ ps others m b
      → RepresentsBook κ ps others m' (step b)

-- a pair of an include: the public name, and its local at the next place; all pairs from a place up to the end
pub record CompilesAlias (tree : List ℕ) (at next file : ℕ) (m m' : BookMemory) : Type 0 where
  pub takes : (a : Alias) → Leaf tree at 40 a.public_name → Leaf tree next 40 a.alias → SimulatesAmong m m' (compile_alias file a)

pub record CompilesAliases (tree : List ℕ) (at end file : ℕ) (m m' : BookMemory) : Type 0 where
  pub takes : (as' : List Alias) → RunAt AliasAt double as' tree at → at + run_size double as' ≡ end → SimulatesAmong m m' (compile_include_definition file as')

-- `compile_include_definition`, of the include at a place
pub record CompilesIncludeDefinition (tree : List ℕ) (at end : ℕ) (m m' : BookMemory) : Type 0 where
  pub includes : (index : ℕ) (file : Token) (as' : List Alias) → DefinitionAt (IncludeDefinition index file as') tree at
      → at + size_d (IncludeDefinition index file as') ≡ end → SimulatesAmong m m' (compile_include index file.value as')

-- an entry more of areas 5 and 4: a property of the model that is not there yet, and a model
pub record TookProperty (name : ℕ) (s : struct.Book) (p : List ℕ) (s' : struct.Book) (p' : List ℕ) : Type 0 where
  pub taken : Taken
  pub took : Took properties_area s.full s.properties (s.models ∷ name ∷ []) p taken p'
  pub counts : s' ≡ with_property_count taken s

pub record TookModel (name : ℕ) (s : struct.Book) (t : List ℕ) (s' : struct.Book) (t' : List ℕ) : Type 0 where
  pub taken : Taken
  pub took : Took models_area s.full s.models (s.file ∷ name ∷ []) t taken t'
  pub counts : s' ≡ with_model_count taken s

pub record TakesProperty (name : ℕ) (m m' : BookMemory) : Type 0 where
  pub counts : SameCounts m.book m'.book
  pub acts : OnArea properties_area (λ p p'. TookProperty name m.book p m'.book p') m m'

pub record TakesModel (name : ℕ) (m m' : BookMemory) : Type 0 where
  pub counts : SameCounts m.book m'.book
  pub acts : OnArea models_area (λ t t'. TookModel name m.book t m'.book t') m m'

-- `add_property`; the properties of the model that is not there yet start at entry `first`
pub record AddsModelProperty (tree : List ℕ) (at first : ℕ) (m m' : BookMemory) : Type 0 where
  pub meets : (κ : Limits) (ps : List ℕ) (others : ℕ → List ℕ) (w : Book) → (m.book.full ≡ 0 → first ≡ property_count w.context)
      → RepresentsBook κ ps others m w
      → RepresentsBook κ (add_property (token_at tree at) ps w).texts others m' (add_property (token_at tree at) ps w).book

-- the properties from a place up to the end, of a model that has none yet
pub record AddsModelProperties (tree : List ℕ) (at end : ℕ) (m m' : BookMemory) : Type 0 where
  pub meets : (κ : Limits) (others : ℕ → List ℕ) (w : Book) (ts : List Token) → RunAt NameAt single ts tree at
      → at + run_size single ts ≡ end → RepresentsBook κ [] others m w
      → RepresentsBook κ (compile_properties ts [] w).texts others m' (compile_properties ts [] w).book

-- the rest of `compile_model_definition`, after the properties
pub record AddsModel (name place : ℕ) (m m' : BookMemory) : Type 0 where
  pub meets : (κ : Limits) (ps : List ℕ) (others : ℕ → List ℕ) (w : Book) → RepresentsBook κ ps others m w
      → RepresentsBook κ [] others m' (place_model ps name w).book
  pub placed : (κ : Limits) (ps : List ℕ) (others : ℕ → List ℕ) (w : Book) → RepresentsBook κ ps others m w → m'.book.full ≡ 0
      → place ≡ (place_model ps name w).place

-- between definitions, where no model is under way
pub record SimulatesPlacedAlone (m m' : BookMemory) (place : ℕ) (step : Book → Placed) : Type 0 where
  pub meets : (κ : Limits) (others : ℕ → List ℕ) (w : Book) → RepresentsBook κ [] others m w → RepresentsBook κ [] others m' (step w).book
  pub placed : (κ : Limits) (others : ℕ → List ℕ) (w : Book) → RepresentsBook κ [] others m w → m'.book.full ≡ 0 → place ≡ (step w).place

-- `compile_model_definition`, of the model at a place
pub record CompilesModelDefinition (tree : List ℕ) (at end place : ℕ) (m m' : BookMemory) : Type 0 where
  pub places : (name : Token) (properties : List Token) → name ≡ token_at tree at → RunAt NameAt single properties tree (at + 1)
      → at + 1 + run_size single properties ≡ end → SimulatesPlacedAlone m m' place (compile_model_definition name properties)

-- `find_model_index_by_local_name`, of the name at a place
pub record FindsModelIndex (tree : List ℕ) (at : ℕ) (found : Found) (m m' : BookMemory) : Type 0 where
  pub seeks : SimulatesSought m m' found (find_model_index_by_local_name (token_at tree at))

-- `compile_apply_definition`, of the one at a place
pub record CompilesApplyDefinition (tree : List ℕ) (at end : ℕ) (m m' : BookMemory) : Type 0 where
  pub applies : (source target : Token) → DefinitionAt (ApplyDefinition source target) tree at → at + 3 ≡ end
      → SimulatesBook m m' (compile_apply_definition source target)

-- `compile_function_definition`, of the function at a place, plain or public
pub record CompilesFunctionDefinition (tree : List ℕ) (at end place : ℕ) (m m' : BookMemory) : Type 0 where
  pub places : (kind : ℕ) (f : FunctionDefinition) → FunctionAt kind f tree at → at + size_f f ≡ end → Bounded f
      → SimulatesPlaced m m' place (compile_function_definition f)

-- a function of an implement definition, and those from a place up to the end
pub record ImplementsFunction (tree : List ℕ) (at end : ℕ) (m m' : BookMemory) : Type 0 where
  pub simulates : (f : FunctionDefinition) → FunctionAt 14 f tree at → at + size_f f ≡ end → Bounded f → SimulatesBook m m' (implementing f)

pub record ImplementsFunctions (tree : List ℕ) (at end : ℕ) (m m' : BookMemory) : Type 0 where
  pub simulates : (fs : List FunctionDefinition) → RunAt (FunctionAt 14) size_f fs tree at → at + run_size size_f fs ≡ end → All Bounded fs
      → SimulatesBook m m' (implementing_all fs)

-- the methods of a model: of functions with numbers from `first` on, below `most`
pub record ImplementsMethods (tree : List ℕ) (at end model first most : ℕ) (m m' : BookMemory) : Type 0 where
  pub simulates : (fs : List FunctionDefinition) → RunAt (FunctionAt 14) size_f fs tree at → at + run_size size_f fs ≡ end → first + length fs ≤ most
      → most < 2 ^ 56 → SimulatesBook m m' (add_methods (some model) (numbered first fs))

-- `compile_implement_definition`, of the one at a place
pub record CompilesImplementDefinition (tree : List ℕ) (at end : ℕ) (m m' : BookMemory) : Type 0 where
  pub simulates : (model : Token) (fs : List FunctionDefinition) → Headed tree at 16 (1 + run_size size_f fs) model
      → RunAt (FunctionAt 14) size_f fs tree (at + 1) → at + (1 + run_size size_f fs) ≡ end → All Bounded fs
      → SimulatesBook m m' (compile_implement_definition model fs)
