-- The list of errors in an area, entry by entry: what a loop has left of it; and kinds, slot by slot. Assumes nothing.
use Prim.Native.Nat.{ℕ, zero, suc, ◌+◌, ◌-◌, ◌/◌, ◌≤◌, ◌<◌}
use native.Mathlib.Omega.{arith}
use mathlib.Core.Path.{◌≡◌, refl, sym, ap, ◌∙◌}
use mathlib.Core.Bool.{Bool, true, false, cond, ◌||◌}
use Rattle.std.specs.Prelude.{Some, None}
use mathlib.Core.List.{List, [], ◌∷◌, ◌++◌}
use lib.ListN.{length, drop, drop_of_length-le}
use lib.Seq.{drop-cons}
use Rattle.std.specs.List.{list_any, range_with_len}
use Rattle.tree.specs.Rules.{slots, nothing, slot_of, has, may_stand}
use Rattle.definition.specs.Compiler.{Error}
use Rattle.error_lines.specs.Known.{stands_in, is_kind, known}
use Rattle.error_lines.specs.Lines.{error_at, is_zeros, errors_from, errors_in, error_line, lines_of}
use Rattle.error_lines.specs.Words.{first_unknown}

-- an error by its four words
abbrev pub error : ℕ → ℕ → ℕ → ℕ → Error
error n p k v = record { number = n; token = record { position = p; kind = k; value = v } }

-- kinds

stands_step : (k i : ℕ) → i < length slots → stands_in k (drop i slots) ≡ (may_stand i k || stands_in k (drop (i + 1) slots))
unfolding stands_in may_stand
stands_step k i l =
    let e : suc i ≡ i + 1 = omega arith in
    ap (stands_in k) (drop-cons slots i nothing l) ∙ ap (λ (j : ℕ). has k (slot_of i).kinds || stands_in k (drop j slots)) e

past_all : (i : ℕ) → 24 ≤ i → drop i slots ≡ []
past_all i l = drop_of_length-le slots l

stands_from : (k n i : ℕ) → i + n ≡ 24 → list_any (λ (j : ℕ). may_stand j k) (range_with_len i n) ≡ stands_in k (drop i slots)
unfolding stands_in
stands_from k zero i e = sym (ap (stands_in k) (past_all i (omega (arith, e))))
stands_from k (suc n) i e =
    ap (λ (b : Bool). may_stand i k || b) (stands_from k n (i + 1) (omega (arith, e))) ∙ sym (stands_step k i (omega (arith, e)))

pub kind_stands : (k : ℕ) → list_any (λ (j : ℕ). may_stand j k) (range_with_len 0 24) ≡ is_kind k
unfolding is_kind
kind_stands k = stands_from k 24 0 refl

-- the list

module _ (w : List ℕ) where
  one_more : (i k : ℕ) → errors_from w i (suc k) ≡ cond (is_zeros (error_at w i)) [] (error_at w i ∷ errors_from w (i + 1) k)
  unfolding errors_from
  one_more i k = refl

  errors_step : (i n : ℕ) → i < n → errors_from w i (n - i) ≡ cond (is_zeros (error_at w i)) [] (error_at w i ∷ errors_from w (i + 1) (n - (i + 1)))
  errors_step i n l =
      let falls : n - i ≡ suc (n - (i + 1)) = omega (arith, l) in
      ap (λ (k : ℕ). errors_from w i k) falls ∙ one_more i (n - (i + 1))

  pub errors_zeros : (i n : ℕ) → i < n → is_zeros (error_at w i) ≡ true → errors_from w i (n - i) ≡ []
  errors_zeros i n l z = errors_step i n l ∙ ap (λ (t : Bool). cond t [] (error_at w i ∷ errors_from w (i + 1) (n - (i + 1)))) z

  pub errors_more : (i n : ℕ) → i < n → is_zeros (error_at w i) ≡ false → errors_from w i (n - i) ≡ error_at w i ∷ errors_from w (i + 1) (n - (i + 1))
  errors_more i n l z = errors_step i n l ∙ ap (λ (t : Bool). cond t [] (error_at w i ∷ errors_from w (i + 1) (n - (i + 1)))) z

  pub errors_end : (i n : ℕ) → n ≤ i → errors_from w i (n - i) ≡ []
  unfolding errors_from
  errors_end i n l = let e : n - i ≡ 0 = omega (arith, l) in ap (λ (k : ℕ). errors_from w i k) e

  pub errors_begin : errors_in w ≡ errors_from w 0 (length w / 4 - 0)
  unfolding errors_in
  errors_begin = let e : length w / 4 ≡ length w / 4 - 0 = omega arith in ap (λ (k : ℕ). errors_from w 0 k) e

-- what is left of the search for an unknown error

unknown_by : (i : ℕ) (e : Error) (es : List Error) → first_unknown i (e ∷ es) ≡ cond (known e) (first_unknown (i + 1) es) (Some i)
unfolding first_unknown
unknown_by i e es = refl

pub unknown_none : (i : ℕ) {es : List Error} → es ≡ [] → first_unknown i es ≡ None
unfolding first_unknown
unknown_none i e = ap (first_unknown i) e

pub unknown_more : (i : ℕ) (e : Error) {l : List Error} (es : List Error) → l ≡ e ∷ es → known e ≡ true → first_unknown i l ≡ first_unknown (i + 1) es
unknown_more i e es q h = ap (first_unknown i) q ∙ (unknown_by i e es ∙ ap (λ (t : Bool). cond t (first_unknown (i + 1) es) (Some i)) h)

pub unknown_here : (i : ℕ) (e : Error) {l : List Error} (es : List Error) → l ≡ e ∷ es → known e ≡ false → first_unknown i l ≡ Some i
unknown_here i e es q h = ap (first_unknown i) q ∙ (unknown_by i e es ∙ ap (λ (t : Bool). cond t (first_unknown (i + 1) es) (Some i)) h)

-- lines

module _ (table bytes : List ℕ) (file : ℕ) where
  pub lines_none : {es : List Error} → es ≡ [] → lines_of table bytes file es ≡ []
  unfolding lines_of
  lines_none e = ap (lines_of table bytes file) e

  pub lines_more : (e : Error) {l : List Error} (es : List Error) → l ≡ e ∷ es
      → lines_of table bytes file l ≡ error_line table bytes file e ++ lines_of table bytes file es
  unfolding lines_of
  lines_more e es q = ap (lines_of table bytes file) q
