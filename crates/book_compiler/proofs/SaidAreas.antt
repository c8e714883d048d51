-- What the parts say at the end of the books, whatever is noted in them: how the books came to their end is told of what they say, and after `settle` the
-- areas of a delivery are what they said. By the parts' numbers. Assumes nothing.
use Rattle.std.proofs.Common.{◌≡◌, ℕ, ◌*◌, ◌≤◌, List, get_or, refl, ◌∙◌, arith}
use Rattle.memory.specs.Layout.{part}
use Rattle.words.specs.Areas.{constants_area}
use Rattle.definition.specs.Uses.{Use, Limits}
use Rattle.definition.specs.DependencySolver.{Ending}
use Rattle.definition.specs.Promise.{areas}
use Rattle.undo.proofs.PlainMarks.{settled_plain}
use Rattle.compiler_laws.specs.declared.book.Book as struct
use Rattle.compiler_laws.specs.BooksInOrder as slices
use Rattle.compiler_laws.proofs.StandingProgram.{filled_behind}
use Rattle.book_compiler.specs.RepresentsBook.{BookMemory, book_laid, area_of, said_by}
use Rattle.book_compiler.specs.BookOrder.{Came, came_delivered, came_faulty, came_ring, Settled, parts_of}

-- what the parts are is what the areas were
pub came_parts : {κ : Limits} {others : ℕ → List ℕ} {m : BookMemory} {rest : List ℕ} {row place : ℕ} {us : List Use} {x : Ending}
    → Came κ others m rest row place us x
    → slices.Came κ m.book (area_of m 1) (said_by m 2) (area_of m 3) (area_of m 4) (area_of m 5) (said_by m 6) (area_of m 7) (area_of m 8) (area_of m 9)
    (area_of m 10)
    (area_of m 11) (area_of m 12) rest row place us x
came_parts (came_delivered h i R b) = slices.came_delivered h i (record { ready = R.represents.ready.keeping }) b
came_parts (came_faulty h i F) = slices.came_faulty h i F
came_parts (came_ring h i F) = slices.came_ring h i F

-- behind the constants of a delivery the area says zeros
pub constants_end : {κ : Limits} {s : struct.Book} {c k f m p t l u n b e o rest : List ℕ} {row place : ℕ} {us : List Use} {x : Ending}
    → slices.Came κ s c k f m p t l u n b e o rest row place us x → s.full ≡ 0 → row ≡ 0 → (j : ℕ) → s.constants * 3 ≤ j → get_or k j 0 ≡ 0
constants_end (slices.came_delivered h i R w) y z j g = filled_behind (R.ready.rest y).constants j g
constants_end (slices.came_faulty h i F) y z j g = absurd (omega (arith, h, z))
constants_end (slices.came_ring h i F) y z j g = absurd (omega (arith, h, z))

module _ (s : struct.Book) (a w : List ℕ) {w' : List ℕ} (S : Settled s.constants s.standing_methods a w w')
    (quiet : (j : ℕ) → s.constants * 3 ≤ j → get_or (said_by (book_laid s a w) 2) j 0 ≡ 0) where
  -- the marks are settled
  pub constants_settled : part a constants_area w' ≡ said_by (book_laid s a w) 2
  constants_settled = S.constants ∙ settled_plain s.constants (part a constants_area w) quiet

  -- so a delivery's areas are what they said
  pub settled_areas : parts_of a w'
      ≡ areas (part a 1 w) (said_by (book_laid s a w) 2) (part a 3 w) (part a 4 w) (part a 5 w) (said_by (book_laid s a w) 6) (part a 7 w) (part a 8 w)
      (part a 9 w) (part a 10 w) (part a 11 w) (part a 12 w)
  settled_areas =
      rw (
        S.others 1 (omega arith) (omega arith) refl refl,
        constants_settled,
        S.others 3 (omega arith) (omega arith) refl refl,
        S.others 4 (omega arith) (omega arith) refl refl,
        S.others 5 (omega arith) (omega arith) refl refl,
        S.methods,
        S.others 7 (omega arith) (omega arith) refl refl,
        S.others 8 (omega arith) (omega arith) refl refl,
        S.others 9 (omega arith) (omega arith) refl refl,
        S.others 10 (omega arith) (omega arith) refl refl,
        S.others 11 (omega arith) (omega arith) refl refl,
        S.others 12 (omega arith) (omega arith) refl refl,
      ) refl
