-- What 2026-07 says of the two modes: the answer of the other mode, and that every name of an include is public. Proved in proofs/Strict.antt
use Rattle.std.specs.Prelude.{ℕ, ◌≡◌, true, false, List, [], ◌∷◌}
use Rattle.std.proofs.Math.Option.{some}
use Rattle.words.specs.Ast.{Definition, LocalDefinition, IncludeDefinition, ModelDefinition, PublicModelDefinition}
use Rattle.words.specs.Ast.{PlainFunction, PublicFunction, ImplementDefinition, ApplyDefinition, Document}
use Rattle.definition.specs.Book.{Context, in_mode, included_names, public_names, is_there, has_text}
use Rattle.definition.specs.DependencySolver.{needed, find_document}
use Rattle.definition.specs.Answer.{Answer, Delivery, Refusal}
use Rattle.definition.specs.Within.{All}

-- an answer, its context in the present mode
abbrev pub in_present : Answer → Answer
in_present (Delivery c) = Delivery (in_mode false c)
in_present (Refusal n p es) = Refusal n p es

-- of a definition that is an include, every name that it lists is public in that file
abbrev pub NamesPublic : Context → Definition → Type 0
NamesPublic c (IncludeDefinition index file as') = is_there (included_names file.value (public_names as') c) ≡ true
NamesPublic c (LocalDefinition x) = Unit {0}
NamesPublic c (ModelDefinition x y) = Unit {0}
NamesPublic c (PublicModelDefinition x y) = Unit {0}
NamesPublic c (PlainFunction x) = Unit {0}
NamesPublic c (PublicFunction x) = Unit {0}
NamesPublic c (ImplementDefinition x y) = Unit {0}
NamesPublic c (ApplyDefinition x y) = Unit {0}

-- and of all those of a book
abbrev pub BookPublic : Context → Document → Type 0
BookPublic c d = All (NamesPublic c) d.definitions

-- and of every book that a bundle onto what stands needs, each of which a delivery has compiled
pub record BooksPublic (standing : List ℕ) (root : Document) (others : List Document) (c : Context) : Type 0 where
  pub each : (file : ℕ) (d : Document) → has_text file (needed standing root others) ≡ true → find_document file (root ∷ others) ≡ some d → BookPublic c d

abbrev pub AllPublic : List ℕ → List Document → Context → Type 0
AllPublic standing [] c = Unit {0}
AllPublic standing (root ∷ others) c = BooksPublic standing root others c
