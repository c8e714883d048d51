-- The words of a method as the code reads them, whatever is noted: what each is where the entry is whole and where it is not. By the words of the entry.
-- Assumes nothing.
use Prim.Native.Nat.{ℕ, zero, suc, ◌+◌, ◌*◌, ◌/◌, ◌%◌, ◌^◌, ◌≤◌, ◌<◌}
use native.Mathlib.Omega.{arith}
use native.Mathlib.Decide.{dec_le, dec_lt}
use mathlib.Core.Path.{◌≡◌, refl, sym, ap, ◌∙◌}
use mathlib.Core.Bool.{Bool, true, false, cond, ◌&&◌, false≢true}
use mathlib.Core.List.{List}
use lib.ListN.{length, get_or-eq_default}
use lib.Dec.{eqb, ltb}
use borrow.Author.Tests.{ne_eqb, lt-ltb, le-ltb, ltb-true, ltb-false}
use Rattle.words.specs.Areas.{entry_word, entry_field}
use Rattle.undo.specs.Notes.{Words, words, entries_anew, plain_method, plain_methods}
use Rattle.undo.specs.Turns.{words_at}
use Rattle.undo.proofs.EntriesAnew.{anew_at, anew_beyond}
use Rattle.undo.proofs.PlainMethods.{plain_methods_none, plain_methods_some, plain_third}

-- of an entry that stood
pub stood_words : (n i : ℕ) (l : List ℕ) → i < n → i * 3 + 3 ≤ length l
    → words_at i (plain_methods n l) ≡ words (entry_word 3 i 0 l % 2 ^ 56) (entry_word 3 i 1 l % 2 ^ 20) (entry_word 3 i 2 l % 2 ^ 56)
unfolding plain_methods
stood_words n i l h w =
    ap (λ (m : List ℕ). words_at i m) (plain_methods_some n l (λ z. omega arith)) ∙ anew_at (plain_method n) l i w ∙ rw (lt-ltb i n h)

-- of one behind those, or that is not whole
pub later_words : (n i r : ℕ) (l : List ℕ) → n ≤ i → r < 2 → entry_word 3 i r (plain_methods n l) ≡ entry_word 3 i r l
unfolding plain_methods
later_words n i r l h s = go (eqb n 0) (dec_le (i * 3 + 3) (length l))
  where
    two : (k : ℕ) → k < 2 → words_at i (entries_anew (plain_method n) 0 l) ≡ words (entry_word 3 i 0 l) (entry_word 3 i 1 l) (entry_word 3 i 2 l % 2 ^ 56)
        → entry_word 3 i k (entries_anew (plain_method n) 0 l) ≡ entry_word 3 i k l
    two zero b e = ap (λ (x : Words). x.first) e
    two (suc zero) b e = ap (λ (x : Words). x.second) e
    two (suc (suc k)) b e = absurd (omega arith)

    go : (x : Bool) → Dec (i * 3 + 3 ≤ length l) → entry_word 3 i r (cond x l (entries_anew (plain_method n) 0 l)) ≡ entry_word 3 i r l
    go true w = refl
    go false (yes w) = two r s (anew_at (plain_method n) l i w ∙ rw (le-ltb i n h))
    go false (no w) = anew_beyond (plain_method n) 0 l i r (omega arith)

pub broken_words : (n i r : ℕ) (l : List ℕ) → length l < i * 3 + 3 → entry_word 3 i r (plain_methods n l) ≡ entry_word 3 i r l
unfolding plain_methods
broken_words n i r l w = go (eqb n 0)
  where
    go : (x : Bool) → entry_word 3 i r (cond x l (entries_anew (plain_method n) 0 l)) ≡ entry_word 3 i r l
    go true = refl
    go false = anew_beyond (plain_method n) 0 l i r w

module _ (n i : ℕ) (l : List ℕ) where
  -- the entry is not whole, or not one of those that stood
  not_noted : (r : ℕ) → r < 2 → (ltb i n && ltb i (length l / 3)) ≡ false → entry_word 3 i r (plain_methods n l) ≡ entry_word 3 i r l
  not_noted r h e = go (dec_lt i n)
    where
      go : Dec (i < n) → entry_word 3 i r (plain_methods n l) ≡ entry_word 3 i r l
      go (yes s) = broken_words n i r l (omega (arith, ltb-false i (length l / 3) (rw (lt-ltb i n s) at e)))
      go (no s) = later_words n i r l (omega arith) h

  noted : (ltb i n && ltb i (length l / 3)) ≡ true → (i < n) × (i < length l / 3)
  noted e = go (dec_lt i n)
    where
      go : Dec (i < n) → (i < n) × (i < length l / 3)
      go (yes s) = (s, ltb-true i (length l / 3) (rw (lt-ltb i n s) at e))
      go (no s) = absurd (false≢true (rw (le-ltb i n (omega arith)) at e))

-- what the code answers, from the word that it reads
module _ (n i : ℕ) (l : List ℕ) {v : ℕ} where
  module _ {t : Bool} (is : t ≡ (ltb i n && ltb i (length l / 3))) where
    pub model_plain : v ≡ entry_field 3 i 0 l → t ≡ false → v ≡ entry_field 3 i 0 (plain_methods n l)
    unfolding entry_field
    model_plain e f = e ∙ sym (not_noted n i l 0 (omega arith) (sym is ∙ f))

    pub model_noted : v ≡ entry_field 3 i 0 l → t ≡ true → v % 2 ^ 56 ≡ entry_field 3 i 0 (plain_methods n l)
    unfolding entry_field
    model_noted e f =
        let h = noted n i l (sym is ∙ f) in
        ap (λ (x : ℕ). x % 2 ^ 56) e ∙ sym (ap (λ (x : Words). x.first) (stood_words n i l h.0 (omega (arith, h.1))))

    pub name_plain : v ≡ entry_field 3 i 1 l → t ≡ false → v ≡ entry_field 3 i 1 (plain_methods n l)
    unfolding entry_field
    name_plain e f = e ∙ sym (not_noted n i l 1 (omega arith) (sym is ∙ f))

    pub name_noted : v ≡ entry_field 3 i 1 l → t ≡ true → v % 2 ^ 20 ≡ entry_field 3 i 1 (plain_methods n l)
    unfolding entry_field
    name_noted e f =
        let h = noted n i l (sym is ∙ f) in
        ap (λ (x : ℕ). x % 2 ^ 20) e ∙ sym (ap (λ (x : Words). x.second) (stood_words n i l h.0 (omega (arith, h.1))))

  pub function_none : v ≡ entry_field 3 i 2 l → n ≡ 0 → v ≡ entry_field 3 i 2 (plain_methods n l)
  function_none e z = e ∙ ap (λ (m : List ℕ). entry_field 3 i 2 m) (sym (plain_methods_none n l z))

  pub function_some : v ≡ entry_field 3 i 2 l → (n ≡ 0 → ⊥) → v % 2 ^ 56 ≡ entry_field 3 i 2 (plain_methods n l)
  unfolding entry_field plain_methods
  function_some e h = rw (e, ne_eqb n 0 h) (go (dec_le (i * 3 + 3) (length l)))
    where
      go : Dec (i * 3 + 3 ≤ length l) → entry_word 3 i 2 l % 2 ^ 56 ≡ entry_word 3 i 2 (entries_anew (plain_method n) 0 l)
      go (yes w) =
          sym (ap (λ (x : Words). x.third) (anew_at (plain_method n) l i w) ∙ plain_third n i (entry_word 3 i 0 l) (entry_word 3 i 1 l) (entry_word 3 i 2 l))
      go (no w) =
          let none : entry_word 3 i 2 l ≡ 0 = get_or-eq_default l 0 {n = i * 3 + 2} (omega arith) in
          let same : entry_word 3 i 2 (entries_anew (plain_method n) 0 l) ≡ entry_word 3 i 2 l = anew_beyond (plain_method n) 0 l i 2 (omega arith) in
          omega arith
