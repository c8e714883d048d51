-- The members of a set of file numbers, one more and the end: what the iterator's step says of the set that a loop goes over. Assumes nothing.
use Rattle.std.proofs.Common.{◌≡◌, ℕ, ◌≤◌, List, Option, Some, None, ◌∙◌, subst, arith}
use Rattle.compiler_laws.specs.FileSets.{NextIn, set_size}
use Rattle.book_compiler.specs.Rows.{or_count}
use Rattle.book_compiler.specs.SetMembers.{StepsTo}

-- nothing is behind the last number
pub next_past : (set : List ℕ) (from : ℕ) → set_size ≤ from → from ≤ set_size → NextIn set from set_size
next_past set from past most = record {
  on = most;
  last = omega arith;
  between = λ n a b. absurd (omega (arith, past, a, b));
  here = λ l. absurd (omega (arith, l));
}

module _ {t t' set : List ℕ} {from from' : ℕ} {found : Option ℕ} (S : StepsTo t from found t' from') (set_is : t ≡ set) (most : from ≤ set_size) where
  pub same_set : t' ≡ set
  same_set = S.set_is ∙ set_is

  next : NextIn set from (or_count set_size found)
  next = subst (λ (l : List ℕ). NextIn l from (or_count set_size found)) set_is (S.finds most)

  pub next_some : {n : ℕ} → found ≡ Some n → NextIn set from n
  next_some is = subst (λ (o : Option ℕ). NextIn set from (or_count set_size o)) is next

  pub next_none : found ≡ None → NextIn set from set_size
  next_none is = subst (λ (o : Option ℕ). NextIn set from (or_count set_size o)) is next

  pub on_size : {n : ℕ} → found ≡ Some n → from' ≤ set_size
  on_size {n} is = omega (arith, S.goes n is, S.inside n is)
