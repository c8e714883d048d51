-- The numbers of a set from one on, ascending: the next of them, and those after it. Assumes nothing.
use Prim.Native.Nat.{ℕ, ◌+◌, ◌≤◌, ◌<◌}
use native.Mathlib.Omega.{arith}
use mathlib.Core.Path.{◌≡◌, refl, sym, ◌∙◌}
use mathlib.Core.Bool.{true}
use mathlib.Core.List.{List, [], ◌∷◌}
use Rattle.definition.specs.Book.{has_text}
use Rattle.compiler_laws.specs.FileSets.{set_size, bit_of, SetIs, NextIn, Below, Ascends}
use Rattle.compiler_laws.proofs.FileLists.{Order, less, same, more, order, never, has_head, has_tail, has_not}

-- the numbers of a set from one on
pub record SetFrom (bits : List ℕ) (k : ℕ) (l : List ℕ) : Type 0 where
  pub ascends : Ascends k l
  pub below : Below set_size l
  pub has : (m : ℕ) → k ≤ m → m < set_size → bit_of bits m ≡ has_text m l

pub set_from : {bits l : List ℕ} → Ascends 0 l → Below set_size l → SetIs bits l → SetFrom bits 0 l
set_from a b i = record { ascends = a; below = b; has = λ m h g. i.has m g }

pub next_none : {bits : List ℕ} {k r : ℕ} (l : List ℕ) → SetFrom bits k l → NextIn bits k r → set_size ≤ r → l ≡ []
next_none [] s n h = refl
next_none (x ∷ xs) s n h =
    let b = s.below.0 in
    never (sym (has_head x xs) ∙ sym (s.has x s.ascends.0 b) ∙ n.between x s.ascends.0 (omega arith))

pub record Split (bits : List ℕ) (r : ℕ) (l : List ℕ) : Type 0 where
  pub rest : List ℕ
  pub is : l ≡ r ∷ rest
  pub after : SetFrom bits (r + 1) rest

pub next_some : {bits : List ℕ} {k r : ℕ} (l : List ℕ) → SetFrom bits k l → NextIn bits k r → r < set_size → Split bits r l
next_some {bits} {k} {r} [] s n h = never (sym (n.here h) ∙ s.has r n.on h)
next_some {bits} {k} {r} (x ∷ xs) s n h = go (order x r)
  where
    there : has_text r (x ∷ xs) ≡ true
    there = sym (s.has r n.on h) ∙ n.here h

    go : Order x r → Split bits r (x ∷ xs)
    go (less l) = never (sym (has_head x xs) ∙ sym (s.has x s.ascends.0 s.below.0) ∙ n.between x s.ascends.0 l)
    go (same q) = record {
      rest = xs;
      is = rw q;
      after = record {
        ascends = rw q at s.ascends.1;
        below = s.below.1;
        has = λ m a b. s.has m (omega (arith, n.on)) b ∙ has_tail m x xs (λ z. omega arith);
      };
    }
    go (more l) = never (sym there ∙ has_not x (x ∷ xs) (omega arith, s.ascends.1) r l)
