-- The file numbers that a bundle needs ascend, and none is that of a book that stands (`needed_once`): so no book is compiled twice. Assumes nothing.
use Prim.Native.Nat.{ℕ, zero, suc}
use mathlib.Core.Path.{◌≡◌, refl}
use mathlib.Core.Bool.{Bool, true, false, cond}
use mathlib.Core.List.{List, [], ◌∷◌}
use lib.ListN.{length}
use Rattle.words.specs.Ast.{Document}
use Rattle.definition.specs.Book.{has_text}
use Rattle.definition.specs.DependencySolver.{find_document, dependencies_of, insert_number, insert_numbers, reached_from, needed_in, needed}
use Rattle.definition.specs.Within.{All, nil}
use Rattle.definition_laws.proofs.DistinctKeys.{Distinct, none_left, LessThan, all_insert_number, ascending_insert}

pub record NeededOnce (standing numbers : List ℕ) : Type 0 where
  pub ascending : Distinct LessThan numbers
  pub absent : All (λ n. has_text n standing ≡ false) numbers

module _ (standing : List ℕ) where
  inserts_once : (ns l : List ℕ) → NeededOnce standing l → NeededOnce standing (insert_numbers standing ns l)
  inserts_once [] l h = h
  inserts_once (n ∷ ns) l h = inserts_once ns (cond (has_text n standing) l (insert_number n l)) (go (has_text n standing) refl)
    where
      go : (b : Bool) → has_text n standing ≡ b → NeededOnce standing (cond b l (insert_number n l))
      go true e = h
      go false e = record { ascending = ascending_insert n h.ascending; absent = all_insert_number n e h.absent }

  reached_once : (ds : List Document) (ns l : List ℕ) → NeededOnce standing l → NeededOnce standing (reached_from standing ds ns l)
  reached_once ds [] l h = h
  reached_once ds (n ∷ ns) l h = reached_once ds ns _ (inserts_once (dependencies_of (find_document n ds)) l h)

  rounds_once : (k : ℕ) (ds : List Document) (l : List ℕ) → NeededOnce standing l → NeededOnce standing (needed_in k standing ds l)
  unfolding needed_in
  rounds_once zero ds l h = h
  rounds_once (suc k) ds l h = rounds_once k ds (reached_from standing ds l l) (reached_once ds l l h)

  pub needed_once : (root : Document) (others : List Document) → NeededOnce standing (needed standing root others)
  needed_once root others =
      rounds_once (length (root ∷ others)) (root ∷ others) _
      (inserts_once (root.filename ∷ []) [] (record { ascending = none_left; absent = nil }))
