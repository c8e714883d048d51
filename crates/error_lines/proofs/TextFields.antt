-- Escapes, blanks, and where a text stands in the lent bytes. Assumes nothing.
use Prim.Native.Nat.{ℕ, suc, ◌+◌, ◌-◌, ◌*◌, ◌/◌, ◌≤◌, ◌<◌}
use native.Mathlib.Omega.{arith}
use mathlib.Core.Path.{◌≡◌, refl, ap, ◌∙◌}
use mathlib.Core.Bool.{Bool, true, false, cond, not}
use denote.Ref.{Bor}
use Rattle.std.specs.Prelude.{Option, Some, None}
use Rattle.std.specs.Option.{option_copied, unwrap_or}
use Rattle.std.proofs.lemmas.Bool.{ltb-false}
use Rattle.std.proofs.lemmas.List.Sums.{prefix_len-le-length}
use Rattle.std.specs.List.{position_or_len}
use Rattle.std.specs.Slice.{IsGetRangeResult}
use mathlib.Core.List.{List, [], ◌∷◌, ◌++◌}
use lib.ListN.{length, take, drop, get_or, length-drop}
use lib.Dec.{eqb, ltb}
use borrow.Author.Tests.{le-leb, lt-leb, eq-eqb, ne_eqb}
use Rattle.column_lines.specs.Numeral.{digit_of}
use Rattle.error_lines.specs.Texts.{backslash, after_blanks, escape, escaped, start_of, length_of, text_at}
use Rattle.error_lines.proofs.Putting.{bytes_more}

-- escapes, by the tests of the code

pub escape_quotation : (b : ℕ) → b ≡ 34 → (92 ∷ b ∷ []) ≡ escape b
unfolding escape
escape_quotation b e = simp (eq-eqb b 34 e)

pub escape_backslash : (b : ℕ) → (b ≡ 34 → ⊥) → b ≡ 92 → (92 ∷ b ∷ []) ≡ escape b
unfolding escape
escape_backslash b d e = simp (ne_eqb b 34 d, eq-eqb b 92 e)

abbrev pub coded : ℕ → List ℕ
coded b = backslash ∷ digit_of (b / 100) ∷ digit_of (b / 10) ∷ digit_of b ∷ []

pub escape_low : (b : ℕ) → (b ≡ 34 → ⊥) → (b ≡ 92 → ⊥) → b < 32 → coded b ≡ escape b
unfolding escape
escape_low b d e l = simp (ne_eqb b 34 d, ne_eqb b 92 e, lt-leb 32 b l)

pub escape_high : (b : ℕ) → (b ≡ 34 → ⊥) → (b ≡ 92 → ⊥) → 32 ≤ b → 126 < b → coded b ≡ escape b
unfolding escape
escape_high b d e m l = simp (ne_eqb b 34 d, ne_eqb b 92 e, le-leb 32 b m, lt-leb b 126 l)

pub escape_plain : (b : ℕ) → (b ≡ 34 → ⊥) → (b ≡ 92 → ⊥) → 32 ≤ b → b ≤ 126 → (b ∷ []) ≡ escape b
unfolding escape
escape_plain b d e m l = simp (ne_eqb b 34 d, ne_eqb b 92 e, le-leb 32 b m, le-leb b 126 l)

pub escaped_more : (text : List ℕ) (i : ℕ) → i < length text → escaped (drop i text) ≡ escape (get_or text i 0) ++ escaped (drop (i + 1) text)
unfolding escaped
escaped_more text i l = ap escaped (bytes_more text i l)

pub escaped_none : (rest : List ℕ) → rest ≡ [] → escaped rest ≡ []
unfolding escaped
escaped_none rest e = ap escaped e

-- blanks

abbrev pub no_blank : ℕ → Bool
no_blank b = not (eqb b 32)

one_more : (n : ℕ) → 1 + n ≡ suc n
one_more n = omega arith

blanks_first : (l : List ℕ) → drop (position_or_len no_blank l) l ≡ after_blanks l
unfolding after_blanks
blanks_first [] = refl
blanks_first (b ∷ bs) = go (eqb b 32) (blanks_first bs)
  where
    go : (t : Bool) → drop (position_or_len no_blank bs) bs ≡ after_blanks bs
        → drop (cond (not (not t)) (1 + position_or_len no_blank bs) 0) (b ∷ bs) ≡ cond t (after_blanks bs) (b ∷ bs)
    go true r = ap (λ (k : ℕ). drop k (b ∷ bs)) (one_more (position_or_len no_blank bs)) ∙ r
    go false r = refl

-- what `position` and `unwrap_or` find
pub place_or : (test : ℕ → Bool) (l : List ℕ) {r : Option ℕ} → r ≡ cond (ltb (position_or_len test l) (length l)) (Some (position_or_len test l)) None
    → unwrap_or r (length l) ≡ position_or_len test l
place_or test l e = rw e (go (ltb (position_or_len test l) (length l)) refl)
  where
    go : (t : Bool) → ltb (position_or_len test l) (length l) ≡ t → unwrap_or (cond t (Some (position_or_len test l)) None) (length l) ≡ position_or_len test l
    go true h = refl
    go false h =
        let past = ltb-false (position_or_len test l) (length l) h in
        let within = prefix_len-le-length (λ (b : ℕ). not (test b)) l in
        omega (arith, past, within)

pub blanks_passed : (l : List ℕ) (n : ℕ) → n ≡ position_or_len no_blank l → drop n l ≡ after_blanks l
blanks_passed l n e = ap (λ (k : ℕ). drop k l) e ∙ blanks_first l

-- where a text stands: i is n - 1

module _ (table bytes : List ℕ) (n : ℕ) where
  pub text_zero : n < 1 → None ≡ text_at table bytes n
  unfolding text_at
  text_zero h = simp (lt-leb 1 n h)

  pub text_past : 1 ≤ n → length table / 2 ≤ n - 1 → None ≡ text_at table bytes n
  unfolding text_at
  text_past h l = simp (le-leb 1 n h, lt-leb (2 * n) (length table) (omega (arith, h, l)))

  module _ (i : ℕ) (h : i + 1 ≡ n) (l : i < length table / 2) where
    start_lem : get_or table (i * 2) 0 ≡ start_of table n
    start_lem = ap (λ (k : ℕ). get_or table k 0) (omega (arith, h))

    length_lem : get_or table (i * 2 + 1) 0 ≡ length_of table n
    length_lem = ap (λ (k : ℕ). get_or table k 0) (omega (arith, h))

    text_ends : length bytes < start_of table n + length_of table n → None ≡ text_at table bytes n
    unfolding text_at
    text_ends x =
        simp (
          le-leb 1 n (omega (arith, h)),
          le-leb (2 * n) (length table) (omega (arith, h, l)),
          lt-leb (start_of table n + length_of table n) (length bytes) x,
        )

    text_inside : start_of table n + length_of table n ≤ length bytes → Some (take (length_of table n) (drop (start_of table n) bytes)) ≡ text_at table bytes n
    unfolding text_at
    text_inside x =
        simp (
          le-leb 1 n (omega (arith, h)),
          le-leb (2 * n) (length table) (omega (arith, h, l)),
          le-leb (start_of table n + length_of table n) (length bytes) x,
        )

    pub text_starts_past : length bytes < get_or table (i * 2) 0 → None ≡ text_at table bytes n
    text_starts_past x = text_ends (omega (arith, x, start_lem))

    -- the bytes from the start on, and of these as many as the text has
    pub text_got : (rest : List ℕ) (r : Option (Bor (List ℕ))) → rest ≡ drop (get_or table (i * 2) 0) bytes → get_or table (i * 2) 0 ≤ length bytes
        → IsGetRangeResult rest 0 (get_or table (i * 2 + 1) 0) r → option_copied r ≡ text_at table bytes n
    text_got rest None e x g =
        let k : length rest ≡ length bytes - get_or table (i * 2) 0 = ap length e ∙ length-drop _ bytes in
        let short : length rest < get_or table (i * 2 + 1) 0 = omega (arith, g.0) in
        text_ends (omega (arith, short, k, x, start_lem, length_lem))
    text_got rest (Some y) e x g =
        let k : length rest ≡ length bytes - get_or table (i * 2) 0 = ap length e ∙ length-drop _ bytes in
        let enough : get_or table (i * 2 + 1) 0 ≤ length rest = g.0.1 in
        let same : get_or table (i * 2 + 1) 0 - 0 ≡ get_or table (i * 2 + 1) 0 = omega arith in
        ap Some (g.0.2 ∙ (ap (λ (m : ℕ). take m rest) (same ∙ length_lem) ∙ (ap (take (length_of table n)) e
        ∙ ap (λ (m : ℕ). take (length_of table n) (drop m bytes)) start_lem)))
        ∙ text_inside (omega (arith, enough, k, x, start_lem, length_lem))
