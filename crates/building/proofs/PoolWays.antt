-- The ways through the routines of `pool.rt`: each gives what the definition over memory gives. By the tests on the way. Assumes nothing.
use Rattle.std.proofs.Common.{◌≡◌, ℕ, Bool, true, false, cond, List, sym, refl, ◌∙◌, arith, eq-eqb, ne_eqb}
use mathlib.Core.Option.{Option, none, some}
use Rattle.words.specs.Object.{constant_of, is_shared}
use Rattle.building.specs.declared.function_state.FunctionState.{FunctionState}
use Rattle.std.specs.Prelude.{Some, None}
use Rattle.building.specs.Found.{Found, found_of, find_constant_c}
use Rattle.building.specs.Pool.{Pooling, pooling, add_no_check_c, add_by, add_constant_c}

-- `add_constant`
module _ (kind value : ℕ) (s : FunctionState) (k : List ℕ) where
  pub add_full : (s.full ≡ 0 → ⊥) → pooling 0 s k ≡ add_constant_c kind value s k
  unfolding add_constant_c
  add_full h = rw (ne_eqb s.full 0 h)

  live : s.full ≡ 0 → add_constant_c kind value s k
      ≡ cond (is_shared kind) (add_by (find_constant_c s.constants (constant_of kind value) k) kind value s k) (add_no_check_c kind value s k)
  unfolding add_constant_c
  live z = rw (eq-eqb s.full 0 z)

  pub add_plain : s.full ≡ 0 → {shared : Bool} → shared ≡ is_shared kind → shared ≡ false → {p : Pooling} → p ≡ add_no_check_c kind value s k
      → p ≡ add_constant_c kind value s k
  add_plain z q r {p} e = e ∙ sym (live z ∙ rw (sym q ∙ r))

  shared_live : s.full ≡ 0 → {shared : Bool} → shared ≡ is_shared kind → shared ≡ true
      → add_constant_c kind value s k ≡ add_by (find_constant_c s.constants (constant_of kind value) k) kind value s k
  shared_live z q r = live z ∙ rw (sym q ∙ r)

  pub add_found : s.full ≡ 0 → {shared : Bool} → shared ≡ is_shared kind → shared ≡ true → {f : Found} {i : ℕ}
      → f ≡ found_of (find_constant_c s.constants (constant_of kind value) k) → f ≡ Some i → pooling i s k ≡ add_constant_c kind value s k
  add_found z q r {f} {i} found at = go (find_constant_c s.constants (constant_of kind value) k) (sym found ∙ at) ∙ sym (shared_live z q r)
    where
      go : (o : Option ℕ) → found_of o ≡ Some i → pooling i s k ≡ add_by o kind value s k
      go none e = absurd (let z : ◌≡◌ {A = ℕ} 0 1 = cc in omega arith)
      go (some j) e = let same : i ≡ j = cc in rw same

  pub add_new : s.full ≡ 0 → {shared : Bool} → shared ≡ is_shared kind → shared ≡ true → {f : Found}
      → f ≡ found_of (find_constant_c s.constants (constant_of kind value) k) → f ≡ None → {p : Pooling} → p ≡ add_no_check_c kind value s k
      → p ≡ add_constant_c kind value s k
  add_new z q r {f} found lost {p} e = e ∙ go (find_constant_c s.constants (constant_of kind value) k) (sym found ∙ lost) ∙ sym (shared_live z q r)
    where
      go : (o : Option ℕ) → found_of o ≡ None → add_no_check_c kind value s k ≡ add_by o kind value s k
      go none e = refl
      go (some j) e = absurd (let z : ◌≡◌ {A = ℕ} 0 1 = cc in omega arith)
