-- The areas in a memory are the parts by the table of starts, and the memory is its areas one after the other. By the definition of `areas_of`. Assumes
-- nothing.
use Rattle.std.proofs.Common.{◌≡◌, ℕ, zero, suc, ◌<◌, List, [], ◌∷◌, ◌++◌, length, get_or, take, drop, sym, refl, ap, ◌∙◌, append_assoc, append-nil, arith}
use Rattle.std.proofs.Common.{take-append-drop, drop_of_length-le, drop-cons}
use Rattle.memory.specs.Layout.{areas_of, starts_of, part}
use Rattle.memory.proofs.Starts.{part_is_area}
use Rattle.definition.specs.Program.{flat}
use Rattle.book_compiler.specs.BookOrder.{parts_of}
use Rattle.book_compiler.specs.Promise.{areas_in, left_over}

-- a list of thirteen
module _ {A : Type 0} (l : List A) (d : A) (long : length l ≡ 13) where
  item : (i : ℕ) → i < 13 → {xs : List A} → drop (suc i) l ≡ xs → drop i l ≡ get_or l i d ∷ xs
  item i h q = drop-cons l i d (omega (arith, long)) ∙ ap (λ (t : List A). get_or l i d ∷ t) q

  thirteen : l ≡ get_or l 0 d ∷ get_or l 1 d ∷ get_or l 2 d ∷ get_or l 3 d ∷ get_or l 4 d ∷ get_or l 5 d ∷ get_or l 6 d ∷ get_or l 7 d ∷ get_or l 8 d ∷ get_or l
      9 d ∷ get_or l 10 d
      ∷ get_or l 11 d ∷ get_or l 12 d ∷ []
  thirteen =
      item 0 (omega arith) (item 1 (omega arith) (item 2 (omega arith) (item 3 (omega arith) (item 4 (omega arith) (item 5 (omega arith)
      (item 6 (omega arith) (item 7 (omega arith) (item 8 (omega arith) (item 9 (omega arith) (item 10 (omega arith) (item 11 (omega arith)
      (item 12 (omega arith) (drop_of_length-le l {i = 13} (omega (arith, long)))))))))))))))

areas_length : (lengths memory : List ℕ) → length (areas_of lengths memory) ≡ suc (length lengths)
unfolding areas_of
areas_length [] memory = refl
areas_length (n ∷ ns) memory = ap suc (areas_length ns (drop n memory))

-- one after the other
flat_areas : (lengths memory : List ℕ) → flat (areas_of lengths memory) ≡ memory
unfolding areas_of
flat_areas [] memory = append-nil memory
flat_areas (n ∷ ns) memory = ap (λ (l : List ℕ). take n memory ++ l) (flat_areas ns (drop n memory)) ∙ take-append-drop n memory

flat_end : (n : ℕ) (l : List (List ℕ)) → length l ≡ suc n → flat (take n l) ++ get_or l n [] ≡ flat l
flat_end n [] h = absurd (omega arith)
flat_end zero (x ∷ []) h = sym (append-nil x)
flat_end zero (x ∷ (y ∷ l)) h = absurd (omega arith)
flat_end (suc n) (x ∷ l) h = append_assoc x (flat (take n l)) (get_or l n []) ∙ ap (λ (t : List ℕ). x ++ t) (flat_end n l (omega arith))

module _ (lengths memory : List ℕ) (twelve : length lengths ≡ 12) where
  many : length (areas_of lengths memory) ≡ 13
  many = areas_length lengths memory ∙ ap suc twelve

  -- the memory is its areas, and what is left over
  pub memory_is : memory ≡ flat (areas_in lengths memory) ++ left_over lengths memory
  memory_is = sym (flat_end 12 (areas_of lengths memory) many ∙ flat_areas lengths memory)

  abbrev starts : List ℕ
  starts = starts_of lengths (length memory)

  at : (i : ℕ) → i < 13 → part starts (suc i) memory ≡ get_or (areas_of lengths memory) i []
  at i h = part_is_area lengths memory i (omega (arith, twelve))

  pub left_over_is : left_over lengths memory ≡ part starts 13 memory
  left_over_is = sym (at 12 (omega arith))

  pub areas_are : areas_in lengths memory ≡ parts_of starts memory
  areas_are =
      rw (
        at 0 (omega arith),
        at 1 (omega arith),
        at 2 (omega arith),
        at 3 (omega arith),
        at 4 (omega arith),
        at 5 (omega arith),
        at 6 (omega arith),
        at 7 (omega arith),
        at 8 (omega arith),
        at 9 (omega arith),
        at 10 (omega arith),
        at 11 (omega arith),
      ) (ap (λ (l : List (List ℕ)). [] ∷ take 12 l) (thirteen (areas_of lengths memory) [] many))
