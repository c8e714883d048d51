-- One lemma for each way through the routines that read the file numbers of the books that stand, the first words of area 12: whether all are below a bound,
-- and their set. By the numbers that are left to read. Assumes nothing.
use Prim.Native.Nat.{ℕ, ◌+◌, ◌*◌, ◌≤◌, ◌<◌}
use native.Mathlib.Omega.{arith}
use native.Mathlib.Numerals.{add-one}
use mathlib.Core.Path.{◌≡◌, refl, sym, ap, ◌∙◌}
use mathlib.Core.Bool.{Bool, true, false, cond}
use mathlib.Core.List.{List, [], ◌∷◌, ◌++◌}
use lib.ListN.{length, get_or, take, drop, length-take, drop_of_length-le}
use lib.Seq.{drop-cons, get_or-take, take-append_seam}
use Rattle.definition.specs.Book.{has_text}
use Rattle.compiler_laws.specs.FileSets.{narrow_size, bit_of, add_bit, add_bits, SetIs, Below}
use Rattle.compiler_laws.specs.SolverSteps.{NarrowNumbers, AddsNumbers}
use Rattle.compiler_laws.proofs.SetBits.{bit_out}
use Rattle.compiler_laws.proofs.FileLists.{never, has_inserts, set_adds}
use Rattle.compiler_laws.proofs.BooksNeeded.{set_empty}

-- of the first `count` words, those from a place on
abbrev pub left_from : List ℕ → ℕ → ℕ → List ℕ
left_from books count i = drop i (take count books)

module _ (books : List ℕ) (count i : ℕ) where
  left_past : count ≤ i → left_from books count i ≡ []
  left_past h = drop_of_length-le (take count books) {i = i} (omega (arith, length-take count books))

  left_none : length books ≤ i → left_from books count i ≡ []
  left_none h = drop_of_length-le (take count books) {i = i} (omega (arith, length-take count books))

  left_more : i < count → i < length books → left_from books count i ≡ get_or books i 0 ∷ left_from books count (i + 1)
  left_more h l =
      drop-cons (take count books) i 0 (omega (arith, length-take count books))
      ∙ rw (get_or-take count books i 0 h, ← add-one i) refl

  -- `narrow_books`
  none_wide : left_from books count i ≡ [] → NarrowNumbers (left_from books count i) true
  none_wide e = rw e (record { below = λ _. tt; above = λ h. never h })

  pub narrow_past : count ≤ i → NarrowNumbers (left_from books count i) true
  narrow_past h = none_wide (left_past h)

  pub narrow_none : length books ≤ i → NarrowNumbers (left_from books count i) true
  narrow_none h = none_wide (left_none h)

  module _ (inside : i < count) (there : i < length books) where
    pub narrow_one : get_or books i 0 < narrow_size → {r : Bool} → NarrowNumbers (left_from books count (i + 1)) r → NarrowNumbers (left_from books count i) r
    narrow_one small N = rw (left_more inside there) (record { below = λ h. (small, N.below h); above = λ h b. N.above h b.1 })

    pub narrow_wide : narrow_size ≤ get_or books i 0 → NarrowNumbers (left_from books count i) false
    narrow_wide large = rw (left_more inside there) (record { below = λ h. never (sym h); above = λ h b. omega (arith, b.0) })

    -- `add_books`
    pub add_one_more : (set : List ℕ) {set₁ after : List ℕ} → set₁ ≡ add_bit set (get_or books i 0) → after ≡ add_bits [] set₁ (left_from books count (i + 1))
        → after ≡ add_bits [] set (left_from books count i)
    add_one_more set added is =
        is ∙ ap (λ (x : List ℕ). add_bits [] x (left_from books count (i + 1))) added ∙ sym (first (get_or books i 0) (left_from books count (i + 1)))
        ∙ ap (λ (l : List ℕ). add_bits [] set l) (sym (left_more inside there))
      where
        first : (n : ℕ) (ns : List ℕ) → add_bits [] set (n ∷ ns) ≡ add_bits [] (add_bit set n) ns
        first n ns = ap (λ (t : Bool). add_bits [] (cond t set (add_bit set n)) ns) (sym (bit_out [] n (omega arith)))

  module _ {set : List ℕ} where
    pub add_past : count ≤ i → set ≡ add_bits [] set (left_from books count i)
    add_past h = rw (left_past h) refl

    pub add_none : length books ≤ i → set ≡ add_bits [] set (left_from books count i)
    add_none h = rw (left_none h) refl

pub adds_numbers : (numbers set : List ℕ) {after : List ℕ} → after ≡ add_bits [] set numbers → AddsNumbers numbers set after
adds_numbers numbers set is = record {
  adds = λ empty room. record {
    has = λ m g. ap (λ (x : List ℕ). bit_of x m) is ∙ (set_adds set [] numbers (set_empty 0) empty room).has m g ∙ has_inserts [] m numbers []
        ∙ alone (has_text m numbers);
  };
}
  where
    alone : (t : Bool) → cond t true false ≡ t
    alone true = refl
    alone false = refl

-- where the words begin with the file numbers of the books that stand, these are what is read
module _ {books : List ℕ} (files rest : List ℕ) {stand : ℕ} (area : books ≡ files ++ rest) (so_many : stand ≡ length files) where
  files_read : take stand books ≡ files
  files_read = rw (area, so_many) (take-append_seam files rest)

  pub standing_set : {set after : List ℕ} → AddsNumbers (take stand books) set after → SetIs set [] → Below (length set * 64) files → SetIs after files
  standing_set A empty room = (rw files_read at A).adds empty room

  pub standing_narrow : {r : Bool} → NarrowNumbers (take stand books) r → r ≡ true → Below narrow_size files
  standing_narrow N h = (rw files_read at N).below h
