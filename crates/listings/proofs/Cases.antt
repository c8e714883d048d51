-- A constant of the pool and its words: what they were decoded to has their kind and their value, a float's as it stands; and what is no constant is no
-- integer. Assumes nothing.
use Prim.Native.Nat.{ℕ, ◌^◌, ◌<◌}
use native.Mathlib.Omega.{arith}
use mathlib.Core.Path.{◌≡◌, refl, sym, ap, subst, ◌∙◌}
use mathlib.Core.Bool.{Bool, true, false, cond}
use mathlib.Core.List.{List}
use lib.Dec.{eqb, ltb, lit<}
use borrow.Author.Tests.{eqb-true, eqb-false, ne_eqb}
use Rattle.words.specs.Areas.{width_of, entry_word, constants_area}
use Rattle.words.specs.Constants.{kind_of, decode_of, numbered_of, constant_at}
use Rattle.words.specs.Object.{null_kind, boolean_kind, integer_kind, float_kind, text_kind, model_kind, function_kind}
use Rattle.words.specs.declared.object.Constant.{Constant}
use Rattle.std.specs.Prelude.{Option, Some, None}
use Rattle.words.proofs.Integers.{word_back}
use Rattle.line_writer.specs.declared.writer.Fields.{Fields}
use Rattle.listings.specs.Cases.{value_in, case_line}
use Rattle.listings.specs.Sections.{line, constant_line}

-- what a kind and a value were decoded to
abbrev Origin : (kind value : ℕ) → Option Constant → Type 0
Origin k v (Some c) = (kind_of c ≡ k) × (value_in c v ≡ v)
Origin k v None = k ≡ integer_kind → ⊥

by_test_lem : (k v : ℕ) (b : Bool) (d e : Option Constant) → (b ≡ true → Origin k v d) → (b ≡ false → Origin k v e) → Origin k v (cond b d e)
by_test_lem k v true d e f g = f refl
by_test_lem k v false d e f g = g refl

origin : (k v : ℕ) → v < 2 ^ 64 → Origin k v (decode_of k v)
unfolding decode_of numbered_of
origin k v l =
    by_test_lem k v (eqb k null_kind) _ _ (λ p. by_test_lem k v (eqb v 0) _ _ (λ q. (sym (eqb-true k 0 p), sym (eqb-true v 0 q))) (λ q. other 0 p (lit< tt)))
    (λ p. by_test_lem k v (eqb k boolean_kind) _ _
    (λ q. by_test_lem k v (eqb v 0) _ _ (λ r. (sym (eqb-true k 1 q), sym (eqb-true v 0 r)))
    (λ r. by_test_lem k v (eqb v 1) _ _ (λ s. (sym (eqb-true k 1 q), sym (eqb-true v 1 s))) (λ s. other 1 q (lit< tt))))
    (λ q. by_test_lem k v (eqb k integer_kind) _ _ (λ r. (sym (eqb-true k 2 r), word_back v l))
    (λ r. by_test_lem k v (eqb k float_kind) _ _ (λ s. (sym (eqb-true k 3 s), refl))
    (λ s. by_test_lem k v (ltb v (2 ^ 32)) _ _
    (λ t. by_test_lem k v (eqb k text_kind) _ _ (λ u. (sym (eqb-true k 4 u), refl))
    (λ u. by_test_lem k v (eqb k model_kind) _ _ (λ x. (sym (eqb-true k 5 x), refl))
    (λ x. by_test_lem k v (eqb k function_kind) _ _ (λ y. (sym (eqb-true k 6 y), refl)) (λ y. none r)))) (λ t. none r)))))
  where
    other : (n : ℕ) → eqb k n ≡ true → n < 2 → k ≡ integer_kind → ⊥
    other n e t i = let z : k ≡ n = eqb-true k n e in absurd (omega arith)

    none : eqb k integer_kind ≡ false → k ≡ integer_kind → ⊥
    none e = eqb-false k integer_kind e

-- so the line is the definition's
module _ (w : List ℕ) (i v : ℕ) (l : v < 2 ^ 64) (is : v ≡ entry_word (width_of constants_area) i 1 w) where
  abbrev kind : ℕ
  kind = entry_word (width_of constants_area) i 0 w

  abbrev value : ℕ
  value = entry_word (width_of constants_area) i 1 w

  from : {d : Option Constant} → d ≡ constant_at w i → Origin kind value d
  from e = subst (λ (d : Option Constant). Origin kind value d) (sym e) (origin kind value (subst (λ (n : ℕ). n < 2 ^ 64) is l))

  pub constant_listed : {r : Fields} (c : Constant) → Some c ≡ constant_at w i → r ≡ case_line i c v → r ≡ constant_line w i
  unfolding case_line
  constant_listed c e f =
      let o : Origin kind value (Some c) = from e in
      f ∙ ap (λ (n : ℕ). case_line i c n) is ∙ ap (λ (k : ℕ). line 4 i k 0 0 0 0 (value_in c value) (eqb k integer_kind)) o.0
      ∙ ap (λ (n : ℕ). line 4 i kind 0 0 0 0 n (eqb kind integer_kind)) o.1

  pub words_listed : {r : Fields} (k : ℕ) → k ≡ kind → None ≡ constant_at w i → r ≡ line 4 i k 0 0 0 0 v false → r ≡ constant_line w i
  words_listed k p e f =
      f ∙ ap (λ (n : ℕ). line 4 i n 0 0 0 0 v false) p ∙ ap (λ (n : ℕ). line 4 i kind 0 0 0 0 n false) is
      ∙ ap (λ (b : Bool). line 4 i kind 0 0 0 0 value b) (sym (ne_eqb kind integer_kind (from e)))
