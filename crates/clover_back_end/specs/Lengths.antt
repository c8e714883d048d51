-- The lengths of the areas in one memory, by number
use Rattle.std.specs.Prelude.{ℕ, List, [], ◌∷◌}
use Rattle.clover_back_end.specs.declared.Lengths.{Lengths}

unfoldable pub lengths_of : Lengths → List ℕ
lengths_of l =
    l.code ∷ l.constants ∷ l.functions ∷ l.models ∷ l.properties ∷ l.methods ∷ l.context_locals ∷ l.public_names ∷ l.scope_names ∷ l.breaks
    ∷ l.errors ∷ l.books ∷ []
