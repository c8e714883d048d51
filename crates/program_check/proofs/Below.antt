-- Tests as Booleans, and tests of every number below another. Assumes nothing.
use Prim.Native.Nat.{ℕ, ◌+◌, ◌≤◌, ◌<◌, min}
use native.Mathlib.Omega.{arith}
use native.Mathlib.Numerals.{add-one}
use mathlib.Core.Path.{◌≡◌, refl, sym, subst}
use mathlib.Core.Bool.{Bool, true, false, ◌&&◌}
use lib.Dec.{T, leb, leb→le}
use Rattle.definition.specs.Within.{all_below, where'}
use Rattle.definition_laws.proofs.Tests.{below_at, all_below_lem}

pub true_by : (b : Bool) → T b → true ≡ b
true_by true t = refl
true_by false t = absurd t

pub false_by : (b : Bool) → (T b → ⊥) → false ≡ b
false_by true h = absurd (h tt)
false_by false h = refl

pub holds : {b : Bool} → b ≡ true → T b
holds e = subst T (sym e) tt

pub fails : {b : Bool} → b ≡ false → T b → ⊥
fails e t = subst T e t

pub and_holds : (a b : Bool) → T a → T b → T (a && b)
and_holds true b p q = q
and_holds false b p q = p

pub and_true : (b : Bool) → b && true ≡ b
and_true true = refl
and_true false = refl

pub same_truth : (a b : Bool) → (T a → T b) → (T b → T a) → a ≡ b
same_truth true true f g = refl
same_truth true false f g = absurd (f tt)
same_truth false true f g = absurd (g tt)
same_truth false false f g = refl

pub where_in : (a b : Bool) → (T a → T b) → T (where' a b)
where_in true b f = f tt
where_in false b f = tt

pub where_out : (a b : Bool) → T (where' a b) → T a → T b
where_out true b t h = t
where_out false b t h = absurd h

pub min_is : (m n : ℕ) → T (leb m n) → min m n ≡ m
min_is m n t = omega (arith, leb→le m n t)

pub every : (n : ℕ) (f : ℕ → Bool) → ((i : ℕ) → i < n → T (f i)) → T (all_below n f)
every n f h = (all_below_lem n f (λ i l. record { holds = h i l })).holds

pub below_turn : (f : ℕ → Bool) (i : ℕ) → T (all_below i f) → f i ≡ true → T (all_below (i + 1) f)
below_turn f i h e = subst (λ (k : ℕ). T (all_below k f)) (sym (add-one i)) (and_holds (f i) (all_below i f) (holds e) h)

pub below_no : (f : ℕ → Bool) (n i : ℕ) → i < n → f i ≡ false → false ≡ all_below n f
below_no f n i l e = false_by (all_below n f) (λ x. fails e (below_at n f x i l))

pub below_done : (f : ℕ → Bool) (n i : ℕ) → i ≤ n → n ≤ i → T (all_below i f) → true ≡ all_below n f
below_done f n i a b h =
    let q : i ≡ n = omega arith in
    true_by (all_below n f) (subst (λ (k : ℕ). T (all_below k f)) q h)

pub below_same : (n : ℕ) (f g : ℕ → Bool) → ((i : ℕ) → f i ≡ g i) → all_below n f ≡ all_below n g
below_same n f g h =
    same_truth (all_below n f) (all_below n g) (λ t. every n g (λ i l. subst T (h i) (below_at n f t i l)))
    (λ t. every n f (λ i l. subst T (sym (h i)) (below_at n g t i l)))
