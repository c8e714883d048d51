-- What `needed` is without a word of rounds (01, 'Emission': "Books needed are those reached from the root through includes"): of all sets of file numbers that
-- hold the root and, for each of their books, the books that it includes, the least. Proved in proofs/Needed.antt, of any bundle. What stands is passed over;
-- before a fresh call nothing does. The rule of what a book includes is `dependencies`, and nothing else of it is used
use Rattle.std.specs.Prelude.{ℕ, ◌≡◌, true, false, List, ◌∷◌}
use Rattle.words.specs.Ast.{Document}
use Rattle.definition.specs.Book.{has_text}
use Rattle.definition.specs.DependencySolver.{find_document, dependencies_of}

-- a set of file numbers that holds the root and is closed under includes. A number that no document of the bundle has includes nothing
pub record Closed (standing : List ℕ) (root : Document) (others : List Document) (S : ℕ → Type 0) : Type 0 where
  pub holds_root : has_text root.filename standing ≡ false → S root.filename
  pub holds_includes : (file include : ℕ) → S file → has_text include (dependencies_of (find_document file (root ∷ others))) ≡ true
      → has_text include standing ≡ false → S include

-- the least of these, as a list
pub record LeastClosed (standing : List ℕ) (root : Document) (others : List Document) (files : List ℕ) : Type 1 where
  pub closed : Closed standing root others (λ file. has_text file files ≡ true)
  pub least : (S : ℕ → Type 0) → Closed standing root others S → (file : ℕ) → has_text file files ≡ true → S file
