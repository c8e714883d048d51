-- A function's parameters: whether it is an instance's, and where they end
-- Private contracts alone cite this file: whoever reads the promises need not believe it
use Rattle.std.specs.Prelude.{ℕ, ◌+◌, ◌≤◌, ◌≡◌, Bool, true, cond, List, length, eqb}
use Rattle.words.specs.Ast.{Token, Statements}
use Rattle.tree.specs.At.{ParametersAt, StatementsAt, size_ss}

-- `instance_by`: whether a function is an instance's, after a parameter of a kind
abbrev pub instance_by : ℕ → Bool → Bool
instance_by kind before = cond (eqb kind 41) true before

-- `parameters_end`: where the parameters end and the body starts
pub record ParametersEnd (tree : List ℕ) (at end r : ℕ) : Type 0 where
  pub from : at ≤ r
  pub ends : (ts : List Token) (ss : Statements) → ParametersAt ts tree at → StatementsAt ss tree (at + length ts) → at + length ts + size_ss ss ≡ end
      → r ≡ at + length ts
