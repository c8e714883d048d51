-- The file numbers of the books that stand: whether all are below a bound, and their set, by the numbers that are left to add. Assumes nothing.
use Rattle.std.proofs.Common.{◌≡◌, ℕ, ◌+◌, ◌≤◌, ◌<◌, Bool, true, false, cond, ltb, ◌&&◌, List}
use Rattle.std.proofs.Common.{[], ◌∷◌, length, get_or, drop, refl, sym, ap, ◌∙◌, subst, arith, add-one}
use Rattle.std.proofs.Math.Seq.{drop-cons}
use Rattle.std.specs.List.{list_all}
use borrow.Author.Tests.{ltb-true, ltb-false}
use lib.ListN.{drop_of_length-le}
use Rattle.compiler_laws.specs.FileSets.{narrow_size, add_bit, add_bits}
use Rattle.compiler_laws.specs.SolverSteps.{NarrowNumbers}
use Rattle.compiler_laws.proofs.FileLists.{never}
use Rattle.compiler_laws.proofs.SetBits.{bit_out}

-- `narrow_books`
narrow_all : (l : List ℕ) → NarrowNumbers l (list_all (λ n. ltb n narrow_size) l)
narrow_all [] = record { below = λ _. tt; above = λ h _. never h }
narrow_all (n ∷ ns) = go (ltb n narrow_size) refl (narrow_all ns)
  where
    go : (t : Bool) → ltb n narrow_size ≡ t → {r : Bool} → NarrowNumbers ns r → NarrowNumbers (n ∷ ns) (t && r)
    go true e N = record { below = λ h. (ltb-true n narrow_size e, N.below h); above = λ h b. N.above h b.1 }
    go false e N = record { below = λ h. never (sym h); above = λ h b. omega (arith, ltb-false n narrow_size e, b.0) }

pub all_narrow : (l : List ℕ) {r : Bool} → r ≡ list_all (λ n. ltb n narrow_size) l → NarrowNumbers l r
all_narrow l e = subst (λ (t : Bool). NarrowNumbers l t) (sym e) (narrow_all l)

-- a number more of `add_books`
pub add_next : (books : List ℕ) (i : ℕ) → i < length books → (set : List ℕ) {set₁ after : List ℕ} → set₁ ≡ add_bit set (get_or books i 0)
    → after ≡ add_bits [] set₁ (drop (i + 1) books) → after ≡ add_bits [] set (drop i books)
add_next books i there set added is =
    let split : drop i books ≡ get_or books i 0 ∷ drop (i + 1) books = drop-cons books i 0 there ∙ rw (add-one i) refl in
    is ∙ ap (λ (x : List ℕ). add_bits [] x (drop (i + 1) books)) added ∙ sym (first (get_or books i 0) (drop (i + 1) books))
    ∙ ap (λ (l : List ℕ). add_bits [] set l) (sym split)
  where
    first : (n : ℕ) (ns : List ℕ) → add_bits [] set (n ∷ ns) ≡ add_bits [] (add_bit set n) ns
    first n ns = ap (λ (t : Bool). add_bits [] (cond t set (add_bit set n)) ns) (sym (bit_out [] n (omega arith)))

pub add_end : (books : List ℕ) (i : ℕ) → length books ≤ i → (set : List ℕ) → set ≡ add_bits [] set (drop i books)
add_end books i past set = ap (λ (l : List ℕ). add_bits [] set l) (sym (drop_of_length-le books {i = i} past))
