-- The steps of an implement definition: its functions one by one, then its methods one by one
-- Private contracts alone cite this file: whoever reads the promises need not believe it
use Rattle.std.specs.Prelude.{ℕ, ◌+◌, List, [], ◌∷◌}
use Rattle.words.specs.Ast.{FunctionDefinition}
use Rattle.definition.specs.FunctionState.{Entry}
use Rattle.definition.specs.Book.{BookStep, compile_base, add_function}

-- a function compiled and added
abbrev pub implementing : FunctionDefinition → BookStep
implementing f x = add_function (compile_base f x).state f.name.value (compile_base f x).book

abbrev pub implementing_all : List FunctionDefinition → BookStep
implementing_all [] x = x
implementing_all (f ∷ fs) x = implementing_all fs (implementing f x)

-- the functions' names and numbers, from a number on
abbrev pub numbered : ℕ → List FunctionDefinition → List Entry
numbered i [] = []
numbered i (f ∷ fs) = record { name = f.name.value; index = i } ∷ numbered (i + 1) fs
