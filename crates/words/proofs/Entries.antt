-- Entries of an area: where they lie, and what a reader reads after an entry was written. One law for every width. Assumes nothing.
use Prim.Native.Nat.{ℕ, suc, ◌+◌, ◌-◌, ◌*◌, ◌≤◌, ◌<◌}
use native.Mathlib.Nat.{mul-le-mul_left, mul-le-mul_right, suc-mul}
use native.Mathlib.Numerals.{add-one}
use native.Mathlib.Omega.{arith}
use mathlib.Core.Path.{◌≡◌, sym, ap, ◌∙◌}
use mathlib.Core.List.{List, ◌++◌, append-nil}
use lib.ListN.{length, take, drop, get_or, set, length-set, get_or-append}
use lib.Seq.{take_all, take-suc-set, append_snoc, length-take-le, get_or-append-add, get_or-take, get_or-drop}
use borrow.Author.Tests.{lt-ltb, le-leb}
use Rattle.words.specs.Areas.{entry_word, entry_field, set_entry, cleared_from}

-- where entry i of a width lies: no farther than at the greatest width
pub at_most : (i width : ℕ) → width ≤ 8 → i * width ≤ i * 8
at_most i width h = mul-le-mul_left i h

-- a word that is read
pub field_in : (w : List ℕ) (width i k : ℕ) → width ≤ 8 → k < width → get_or w (i * width + k) 0 ≡ entry_field width i k w
unfolding entry_field
field_in w width i k h l = simp (le-leb width 8 h, lt-ltb k width l)

-- a loop that clears: what is left to clear is what was asked
pub clear_turn : (w : List ℕ) (i : ℕ) → i < length w → cleared_from i w ≡ cleared_from (i + 1) (set w i 0)
clear_turn w i h =
    let e : length w - i ≡ suc (length w - suc i) = omega arith in
    rw (add-one, length-set, take-suc-set w i 0 h, append_snoc, e)

pub clear_end : (w : List ℕ) (i : ℕ) → length w ≤ i → cleared_from i w ≡ w
clear_end w i h =
    let e : length w - i ≡ 0 = omega arith in
    rw (take_all i w h, e, append-nil)

-- what is read after an entry was written: its own words, and every other entry's as it was
module _ (w e : List ℕ) (width i : ℕ) (long : length e ≡ width) (room : i * width + width ≤ length w) where
  front : length (take (i * width) w) ≡ i * width
  front = length-take-le (i * width) w (omega arith)

  pub entry_same : (k : ℕ) → k < width → entry_word width i k (set_entry width i e w) ≡ get_or e k 0
  entry_same k h =
      ap (λ (n : ℕ). get_or (set_entry width i e w) (n + k) 0) (sym front)
      ∙ get_or-append-add (take (i * width) w) (e ++ drop (i * width + width) w) k 0
      ∙ get_or-append e (drop (i * width + width) w) 0 k (omega arith)

  word_before : (p : ℕ) → p < i * width → get_or (set_entry width i e w) p 0 ≡ get_or w p 0
  word_before p h =
      get_or-append (take (i * width) w) (e ++ drop (i * width + width) w) 0 p (omega (arith, front)) ∙ get_or-take (i * width) w p 0 h

  word_after : (q : ℕ) → get_or (set_entry width i e w) (i * width + (width + q)) 0 ≡ get_or w (i * width + width + q) 0
  word_after q =
      ap (λ (n : ℕ). get_or (set_entry width i e w) (n + (width + q)) 0) (sym front)
      ∙ get_or-append-add (take (i * width) w) (e ++ drop (i * width + width) w) (width + q) 0
      ∙ ap (λ (n : ℕ). get_or (e ++ drop (i * width + width) w) (n + q) 0) (sym long)
      ∙ get_or-append-add e (drop (i * width + width) w) q 0
      ∙ get_or-drop (i * width + width) w q 0

  pub entry_below : (j k : ℕ) → j < i → k < width → entry_word width j k (set_entry width i e w) ≡ entry_word width j k w
  entry_below j k h l = word_before (j * width + k) (omega (arith, suc-mul j width, mul-le-mul_right width h))

  pub entry_above : (j k : ℕ) → i < j → k < width → entry_word width j k (set_entry width i e w) ≡ entry_word width j k w
  entry_above j k h l =
      let q : ℕ = j * width + k - (i * width + width) in
      let n : j * width + k ≡ i * width + (width + q) = omega (arith, suc-mul i width, mul-le-mul_right width h) in
      let m : i * width + width + q ≡ j * width + k = omega (arith, suc-mul i width, mul-le-mul_right width h) in
      ap (λ (p : ℕ). get_or (set_entry width i e w) p 0) n ∙ word_after q ∙ ap (λ (p : ℕ). get_or w p 0) m
