-- What is wanted of a bundle and a program that stands, as the definition has it
use Rattle.book_compiler.specs.declared.grown.Order as code
use Rattle.book_compiler.specs.declared.grown.Order.TheVariants as variants
use Rattle.book_compiler.specs.declared.grown.LineOne.{LineOne}
use Rattle.std.specs.Prelude.{ℕ, List, [], ◌∷◌}
use Rattle.definition.specs.Trial.{Order, Lay, Trial}
use Rattle.definition.specs.Promise.{commit_of}

unfoldable pub order_of : code.Order → Order
order_of variants.Lay = Lay
order_of variants.Trial = Trial
order_of (variants.Commit tried) = commit_of tried

-- the totals of the listing's line 1, in its order
abbrev pub numbers : LineOne → List ℕ
numbers l = l.functions ∷ l.constants ∷ l.models ∷ l.context_locals ∷ l.entry_point ∷ l.files ∷ l.global_dependencies ∷ []
