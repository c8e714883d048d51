-- Entries by themselves: from the words that were read and the tests that were made to the definition's test. Assumes nothing.
use Prim.Native.Nat.{ℕ, ◌+◌, ◌-◌, ◌≤◌, ◌<◌}
use native.Mathlib.Omega.{arith}
use mathlib.Core.Path.{◌≡◌, refl, sym, ◌∙◌}
use mathlib.Core.Bool.{Bool, true, false, ◌&&◌}
use mathlib.Core.List.{List}
use lib.Dec.{eqb, ltb, leb}
use borrow.Author.Tests.{le-leb, lt-leb, lt-ltb, le-ltb, leb-true}
use Rattle.words.specs.Areas.{entry_field}
use Rattle.words.specs.declared.reply.Totals.{Totals}
use Rattle.definition.specs.Within.{where'}
use Rattle.definition.specs.ProgramCheck.{is_text}
use Rattle.program_check.specs.Parts.{alone, entry_fine}

pub below_none : (s l t : ℕ) → l ≡ 0 → true ≡ where' (ltb 0 l) (leb (s + l) t)
below_none s l t e = simp (le-ltb 0 l (omega arith))

pub below_start : (s l t : ℕ) → (l ≡ 0 → ⊥) → t < s → false ≡ where' (ltb 0 l) (leb (s + l) t)
below_start s l t d h =
    let p : 0 < l = omega (arith, d) in
    simp (lt-ltb 0 l p, lt-leb (s + l) t (omega arith))

-- two tests that hold together
pub leb_same : (a b c d : ℕ) → (a ≤ b → c ≤ d) → (c ≤ d → a ≤ b) → leb a b ≡ leb c d
leb_same a b c d f g = go (leb a b) (leb c d) (λ e. f (leb-true a b e)) (λ e. g (leb-true c d e)) (λ h. le-leb c d h) (λ h. le-leb a b h)
  where
    go : (x y : Bool) → (x ≡ true → c ≤ d) → (y ≡ true → a ≤ b) → (c ≤ d → y ≡ true) → (a ≤ b → x ≡ true) → x ≡ y
    go true y p q r s = sym (r (p refl))
    go false true p q r s = s (q refl)
    go false false p q r s = refl

pub below_rest : (s l t : ℕ) → (l ≡ 0 → ⊥) → s ≤ t → leb l (t - s) ≡ where' (ltb 0 l) (leb (s + l) t)
below_rest s l t d h =
    let p : 0 < l = omega (arith, d) in
    let e : leb l (t - s) ≡ leb (s + l) t = leb_same l (t - s) (s + l) t (λ k. omega arith) (λ k. omega arith) in
    e ∙ simp (lt-ltb 0 l p)

module _ (w : List ℕ) (i : ℕ) (t : Totals) where
  pub constant_fine : {kind value mark : ℕ} {model function null boolean text known : Bool}
      → kind ≡ entry_field 3 i 0 w → value ≡ entry_field 3 i 1 w → mark ≡ entry_field 3 i 2 w
      → model ≡ where' (eqb kind 5) (ltb value t.models) → function ≡ where' (eqb kind 6) (ltb value t.functions)
      → null ≡ where' (eqb kind 0) (eqb value 0) → boolean ≡ where' (eqb kind 1) (ltb value 2)
      → known ≡ is_text value → text ≡ where' (eqb kind 4) known
      → (model && function && ltb mark 2) && (leb kind 6 && null && boolean && text) ≡ entry_fine (alone 2 w t) 2 i
  unfolding entry_field
  constant_fine a b c d e f g h j = rw (d, e, f, g, j, h, a, b, c)

  pub function_fine : {rescue instance start length file name : ℕ} {inside known : Bool}
      → rescue ≡ entry_field 8 i 2 w → instance ≡ entry_field 8 i 3 w → start ≡ entry_field 8 i 4 w → length ≡ entry_field 8 i 5 w
      → file ≡ entry_field 8 i 6 w → name ≡ entry_field 8 i 7 w
      → inside ≡ where' (ltb 0 length) (leb (start + length) t.code) → known ≡ is_text name
      → (inside && leb rescue length && ltb file t.books) && (ltb instance 2 && known) ≡ entry_fine (alone 3 w t) 3 i
  unfolding entry_field
  function_fine a b c d e f g h = rw (g, h, a, b, c, d, e, f)

  pub model_fine : {file name : ℕ} {known : Bool} → file ≡ entry_field 2 i 0 w → name ≡ entry_field 2 i 1 w → known ≡ is_text name
      → ltb file t.books && known ≡ entry_fine (alone 4 w t) 4 i
  unfolding entry_field
  model_fine a b c = rw (c, a, b)

  pub property_fine : {model name : ℕ} {known : Bool} → model ≡ entry_field 2 i 0 w → name ≡ entry_field 2 i 1 w → known ≡ is_text name
      → ltb model t.models && known ≡ entry_fine (alone 5 w t) 5 i
  unfolding entry_field
  property_fine a b c = rw (c, a, b)

  pub method_fine : {model name function : ℕ} {known : Bool} → model ≡ entry_field 3 i 0 w → name ≡ entry_field 3 i 1 w → function ≡ entry_field 3 i 2 w
      → known ≡ is_text name → ltb model t.models && ltb function t.functions && known ≡ entry_fine (alone 6 w t) 6 i
  unfolding entry_field
  method_fine a b c d = rw (d, a, b, c)

  pub local_fine : {file name mark constant : ℕ} {there none known : Bool}
      → file ≡ entry_field 4 i 0 w → name ≡ entry_field 4 i 1 w → mark ≡ entry_field 4 i 2 w → constant ≡ entry_field 4 i 3 w
      → there ≡ where' (eqb mark 1) (ltb constant t.constants) → none ≡ where' (eqb mark 0) (eqb constant 0) → known ≡ is_text name
      → (ltb file t.books && ltb mark 2 && there) && (known && none) ≡ entry_fine (alone 7 w t) 7 i
  unfolding entry_field
  local_fine a b c d e f g = rw (e, f, g, a, b, c, d)

  pub public_fine : {file name constant : ℕ} {known : Bool} → file ≡ entry_field 3 i 0 w → name ≡ entry_field 3 i 1 w → constant ≡ entry_field 3 i 2 w
      → known ≡ is_text name → ltb file t.books && ltb constant t.constants && known ≡ entry_fine (alone 8 w t) 8 i
  unfolding entry_field
  public_fine a b c d = rw (d, a, b, c)

  pub book_fine : {number : ℕ} {known : Bool} → number ≡ entry_field 1 i 0 w → known ≡ is_text number → known ≡ entry_fine (alone 12 w t) 12 i
  unfolding entry_field
  book_fine a b = rw (b, a)
