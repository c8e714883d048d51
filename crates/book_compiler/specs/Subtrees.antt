-- What the subtrees that follow each other give, one after the other
-- Private contracts alone cite this file: whoever reads the promises need not believe it
use Rattle.std.specs.Prelude.{◌≡◌, ℕ, ◌+◌, ◌-◌, ◌≤◌, ◌<◌, List, Option, Some, None}
use Rattle.compiler_laws.specs.InsideFunction.{skip_c}
use Rattle.book_compiler.specs.declared.subtree.Subtree.{Subtree}

-- nothing is at the end; before it the subtree at a place, and the place behind that
pub record StepsOver (tree : List ℕ) (at end : ℕ) (found : Option Subtree) (tree' : List ℕ) (at' end' : ℕ) : Type 0 where
  pub tree_is : tree' ≡ tree
  pub end_is : end' ≡ end
  pub past : found ≡ None → end ≤ at
  pub inside : (s : Subtree) → found ≡ Some s → at < end
  pub at_is : (s : Subtree) → found ≡ Some s → s.at ≡ at
  pub next_is : (s : Subtree) → found ≡ Some s → s.end ≡ skip_c tree at end
  pub goes : (s : Subtree) → found ≡ Some s → at' ≡ s.end

-- two leaves behind a place, and the place of the second; nothing where fewer are left
pub record StepsByTwo (at end : ℕ) (found : Option ℕ) (at' end' : ℕ) : Type 0 where
  pub end_is : end' ≡ end
  pub past : found ≡ None → end - (at + 1) ≤ 1
  pub inside : (i : ℕ) → found ≡ Some i → 1 < end - i
  pub at_is : (i : ℕ) → found ≡ Some i → i ≡ at + 1
  pub goes : (i : ℕ) → found ≡ Some i → at' ≡ i + 1
