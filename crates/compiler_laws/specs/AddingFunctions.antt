-- A function of a book compiled to its end, and its entry of area 3
-- Private contracts alone cite this file: whoever reads the promises need not believe it
use Rattle.std.specs.Prelude.{ℕ, ◌≤◌, List, [], ◌∷◌}
use Rattle.words.specs.Ast.{FunctionDefinition}
use Rattle.words.specs.Record.{most_records, most_levels}
use Rattle.tree.specs.At.{size_f, depth_f}
use Rattle.definition.specs.FunctionState as Emission
use Rattle.definition.specs.Uses.{Limits}
use Rattle.definition.specs.Compiler.{Work, compile_function_definition_base}
use Rattle.definition.specs.Book.{Book, working, compile_base, add_function}
use Rattle.definition.specs.Program.{code_table}
use Rattle.building.specs.declared.function_state.FunctionState.{FunctionState}
use Rattle.building.specs.RepresentsMachine.{Machine, machine, RepresentsMachine}
use Rattle.compiler_laws.specs.declared.book.Book as struct
use Rattle.compiler_laws.specs.BookAreas.{BookAreas, book_areas, RepresentsAreas}

-- within the limits on records and levels: its locals' number stands in 64 bits
pub record Bounded (f : FunctionDefinition) : Type 0 where
  pub records : size_f f ≤ most_records
  pub levels : depth_f f ≤ most_levels

-- a function's end: no name is left
abbrev pub ended : Work → Work
ended w = record {
  compiler = w.compiler;
  context = w.context;
  function = Emission.with_scopes ([] ∷ []) w.function;
  before = w.before;
  uses = w.uses;
}

-- the work of `compile_function_definition_base`
abbrev pub base_of : FunctionDefinition → Book → Work
base_of f x = compile_function_definition_base f.parameters f.body (working x)

-- the counts and areas stood for a book, and the state and the areas that functions are built in then hold a function of it, at its end
pub record Built (κ : Limits) (ps : List ℕ) (m : BookAreas) (x : Book) (f : FunctionDefinition) (a : Machine) : Type 0 where
  pub book : RepresentsAreas κ ps m x
  pub function : RepresentsMachine κ (code_table x.context) a (ended (base_of f x))

-- `add_function`
pub record AddsFunction (name : ℕ) (s : struct.Book) (r : FunctionState) (g : List ℕ) (s' : struct.Book) (g' : List ℕ) : Type 0 where
  pub adds : (f : FunctionDefinition) → Bounded f → (c₀ k₀ n₀ b₀ e₀ c k n b e m p t l u : List ℕ) (κ : Limits) (ps : List ℕ) (x : Book)
      → Built κ ps (book_areas s c₀ k₀ g m p t l u n₀ b₀ e₀) x f (machine r c k n b e)
      → RepresentsAreas κ ps (book_areas s' c k g' m p t l u n b e) (add_function (compile_base f x).state name (compile_base f x).book)
