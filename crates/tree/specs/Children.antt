-- What the code's pass over the children of one record gives. Row 3 at the parent, where a child is lacking, comes before any fault among the children;
-- the code finds it after them
-- Private contracts alone cite this file: whoever reads the promises need not believe it
use Rattle.std.specs.Prelude.{ℕ, cond, List, Result, Ok}
use Rattle.words.specs.declared.row.Row.TheVariants.{BadShape}
use Rattle.words.specs.declared.row.Refused.{Refused}
use Rattle.tree.specs.Rules.{is_due}
use Rattle.tree.specs.Check.{lacks_of, refused}

-- what is found among the children of p from i to e, from slot s on, unless one is lacking
unfoldable pub blamed : List ℕ → ℕ → ℕ → ℕ → ℕ → Result ℕ Refused → Result ℕ Refused
blamed w s p i e found = cond (lacks_of w s i e) (refused BadShape p) found

-- after the last child of p
unfoldable pub settled : ℕ → ℕ → ℕ → Result ℕ Refused
settled s t p = cond (is_due s) (refused BadShape p) (Ok t)
