-- The subtrees that follow each other, one more and the end: what the iterator's step says of the words and the end that a loop goes over. Assumes nothing.
use Rattle.std.proofs.Common.{◌≡◌, ℕ, ◌+◌, ◌-◌, ◌<◌, ◌≤◌, List, Option, Some, None, sym, ap, ◌∙◌, subst, arith}
use Rattle.compiler_laws.specs.InsideFunction.{skip_c}
use Rattle.book_compiler.specs.declared.subtree.Subtree.{Subtree}
use Rattle.book_compiler.specs.Subtrees.{StepsOver, StepsByTwo}

pub record Over (tree : List ℕ) (at end : ℕ) (s : Subtree) (at' : ℕ) : Type 0 where
  pub inside : s.at < end
  pub next : s.end ≡ skip_c tree s.at end
  pub here_is : s.at ≡ at
  pub goes_is : at' ≡ s.end

-- what holds behind the subtree gives what holds before it
module _ {tree : List ℕ} {at end at' : ℕ} {s : Subtree} (O : Over tree at end s at') where
  pub before : (P : ℕ → Type 0) → P s.at → P at
  before P h = subst P O.here_is h

  pub back : (P Q : ℕ → Type 0) → (Q s.end → P s.at) → Q at' → P at
  back P Q f h = before P (f (subst Q O.goes_is h))

module _ {t t' tree : List ℕ} {at e at' e' end : ℕ} {found : Option Subtree} (S : StepsOver t at e found t' at' e') (tree_is : t ≡ tree)
    (end_is : e ≡ end) where
  pub same_tree : t' ≡ tree
  same_tree = S.tree_is ∙ tree_is

  pub same_end : e' ≡ end
  same_end = S.end_is ∙ end_is

  pub over : {s : Subtree} → found ≡ Some s → Over tree at end s at'
  over {s} is =
      let here : s.at ≡ at = S.at_is s is in
      record {
        inside = omega (arith, S.inside s is, here, end_is);
        next = S.next_is s is ∙ ap (λ (l : List ℕ). skip_c l at e) tree_is ∙ ap (λ (n : ℕ). skip_c tree at n) end_is
            ∙ ap (λ (n : ℕ). skip_c tree n end) (sym here);
        here_is = here;
        goes_is = S.goes s is;
      }

  pub past : found ≡ None → end ≤ at
  past is = omega (arith, S.past is, end_is)

-- pairs of leaves
pub record Two (at end i at' : ℕ) : Type 0 where
  pub inside : 1 < end - i
  pub here_is : i ≡ at + 1
  pub goes_is : at' ≡ i + 1

pub back_two : {at end i at' : ℕ} → Two at end i at' → (P Q : ℕ → Type 0) → (Q (i + 1 + 1) → P i) → Q (at' + 1) → P (at + 1)
back_two O P Q f h = subst P O.here_is (f (subst (λ (n : ℕ). Q (n + 1)) O.goes_is h))

pub before_two : {at end i at' : ℕ} → Two at end i at' → (P : ℕ → Type 0) → P i → P (at + 1)
before_two O P h = subst P O.here_is h

module _ {at e at' e' end : ℕ} {found : Option ℕ} (S : StepsByTwo at e found at' e') (end_is : e ≡ end) where
  pub same_last : e' ≡ end
  same_last = S.end_is ∙ end_is

  pub two : {i : ℕ} → found ≡ Some i → Two at end i at'
  two {i} is = record { inside = omega (arith, S.inside i is, end_is); here_is = S.at_is i is; goes_is = S.goes i is }

  pub no_two : found ≡ None → end - (at + 1) ≤ 1
  no_two is = omega (arith, S.past is, end_is)
