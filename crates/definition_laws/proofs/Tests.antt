-- What makes a test of `Within` hold: laws of `&&`, `||`, `where'` and `all_below`. Assumes nothing.
use Prim.Native.Nat.{ℕ, zero, suc, ◌≤◌, ◌<◌}
use native.Mathlib.Omega.{arith}
use native.Mathlib.Decide.{dec_lt}
use mathlib.Core.Path.{◌≡◌, subst}
use mathlib.Core.Bool.{Bool, true, false, ◌&&◌, ◌||◌}
use lib.Dec.{T, eqb, ltb, leb, eqb_refl, le→leb, lt→ltb}
use Rattle.definition.specs.Within.{all_below, where'}

-- a test that holds
pub record Test (b : Bool) : Type 0 where
  pub holds : T b

pub both : {a b : Bool} → Test a → Test b → Test (a && b)
both {a} {b} p q = record { holds = go a p.holds }
  where
    go : (x : Bool) → T x → T (x && b)
    go true t = q.holds
    go false t = t

pub first_of : (a b : Bool) → T (a && b) → T a
first_of true b p = tt
first_of false b p = p

pub second_of : (a b : Bool) → T (a && b) → T b
second_of true b p = p
second_of false b p = absurd p

pub or_first : {a : Bool} (b : Bool) → Test a → Test (a || b)
or_first {a} b p = record { holds = go a p.holds }
  where
    go : (x : Bool) → T x → T (x || b)
    go true t = tt
    go false t = absurd t

pub or_second : (a : Bool) {b : Bool} → Test b → Test (a || b)
or_second a {b} p = record { holds = go a }
  where
    go : (x : Bool) → T (x || b)
    go true = tt
    go false = p.holds

pub where_holds : (a : Bool) {b : Bool} → (T a → Test b) → Test (where' a b)
where_holds a {b} f = record { holds = go a (λ t. (f t).holds) }
  where
    go : (x : Bool) → (T x → T b) → T (where' x b)
    go true g = g tt
    go false g = tt

pub less : (m n : ℕ) → m < n → Test (ltb m n)
less m n h = record { holds = lt→ltb m n h }

pub at_most : (m n : ℕ) → m ≤ n → Test (leb m n)
at_most m n h = record { holds = le→leb m n h }

pub equal : {m n : ℕ} → m ≡ n → Test (eqb m n)
equal {m} e = record { holds = subst (λ k. T (eqb m k)) e (eqb_refl m) }

pub passes : Test true
passes = record { holds = tt }

-- a test of every number below n, and of one of them
pub all_below_lem : (n : ℕ) (f : ℕ → Bool) → ((i : ℕ) → i < n → Test (f i)) → Test (all_below n f)
all_below_lem zero f h = record { holds = tt }
all_below_lem (suc n) f h = both (h n (omega arith)) (all_below_lem n f (λ i k. h i (omega arith)))

pub below_at : (n : ℕ) (f : ℕ → Bool) → T (all_below n f) → (i : ℕ) → i < n → T (f i)
below_at zero f t i h = absurd (omega arith)
below_at (suc n) f t i h = go (dec_lt i n) (λ k. below_at n f (second_of (f n) (all_below n f) t) i k)
  where
    go : Dec (i < n) → (i < n → T (f i)) → T (f i)
    go (yes k) r = r k
    go (no k) r = let e : i ≡ n = omega arith in rw e (first_of (f n) (all_below n f) t)
