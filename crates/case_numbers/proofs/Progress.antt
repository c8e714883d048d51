-- How far `parse` is: the numbers that are still to come, over the words behind those that are read, give what the whole text gives. One law for each
-- way through its loop. Assumes nothing.
use Prim.Native.Nat.{ℕ, zero, suc, ◌+◌, ◌-◌, ◌≤◌, ◌<◌, min}
use native.Mathlib.Nat.{not-suc-le-zero, le_of_suc-le-suc}
use native.Mathlib.Numerals.{add-one}
use native.Mathlib.Omega.{arith}
use mathlib.Core.Path.{◌≡◌, refl, sym, ap, subst, ◌∙◌}
use mathlib.Core.Bool.{Bool, true, false, cond, ◌&&◌}
use mathlib.Core.List.{List, [], ◌∷◌}
use lib.ListN.{length, drop, get_or, set, length-set, drop_of_length-le}
use lib.Seq.{drop-cons}
use lib.Dec.{ltb}
use borrow.Author.Tests.{ltb-true, ltb-false}
use Rattle.std.proofs.Common.{Option, Some, None, is_some, unwrap_or}
use Rattle.case_numbers.specs.Numbers.{zero_digit, is_digit, longer_by, ended, numbers_at, numbers_from, numbers_in, overwritten, Parsed}

-- numbers over words from a place on
abbrev pub overwritten_from : ℕ → List ℕ → List ℕ → List ℕ
overwritten_from zero ns ws = overwritten ns ws
overwritten_from (suc count) ns [] = []
overwritten_from (suc count) ns (w ∷ ws) = w ∷ overwritten_from count ns ws

none_left : (count : ℕ) (ws : List ℕ) → overwritten_from count [] ws ≡ ws
unfolding overwritten
none_left zero ws = refl
none_left (suc count) [] = refl
none_left (suc count) (w ∷ ws) = ap (λ (l : List ℕ). w ∷ l) (none_left count ws)

no_room : (count : ℕ) (ns ws : List ℕ) → length ws ≤ count → overwritten_from count ns ws ≡ ws
unfolding overwritten
no_room zero [] ws h = refl
no_room zero (n ∷ ns) [] h = refl
no_room zero (n ∷ ns) (w ∷ ws) h = absurd (not-suc-le-zero h)
no_room (suc count) ns [] h = refl
no_room (suc count) ns (w ∷ ws) h = ap (λ (l : List ℕ). w ∷ l) (no_room count ns ws (le_of_suc-le-suc h))

first_put : (count n : ℕ) (ns ws : List ℕ) → count < length ws → overwritten_from count (n ∷ ns) ws ≡ overwritten_from (suc count) ns (set ws count n)
unfolding overwritten
first_put count n ns [] h = absurd (not-suc-le-zero h)
first_put zero n ns (w ∷ ws) h = refl
first_put (suc count) n ns (w ∷ ws) h = ap (λ (l : List ℕ). w ∷ l) (first_put count n ns ws (le_of_suc-le-suc h))

-- the numbers `ns`, over the words from `count` on, give the answer and the words of the whole text
pub record ToCome (text entry : List ℕ) (ns : List ℕ) (words : List ℕ) (count : ℕ) : Type 0 where
  pub room : length words ≡ length entry
  pub within : count ≤ length words
  pub answer : min (length (numbers_in text)) (length entry) ≡ min (count + length ns) (length words)
  pub filled : overwritten (numbers_in text) entry ≡ overwritten_from count ns words

-- what `put` ensures
abbrev has_place : Bool → ℕ → List ℕ → Bool
has_place begun count words = begun && ltb count (length words)

abbrev pub HasPut : Bool → ℕ → ℕ → List ℕ → List ℕ → ℕ → Type 0
HasPut begun count n words after r =
    (r ≡ cond (has_place begun count words) (count + 1) count) × (after ≡ cond (has_place begun count words) (set words count n) words)

-- where no number has begun `put` changes nothing
pub nothing_put : (begun : Bool) (count n : ℕ) (words : List ℕ) → begun ≡ false → HasPut begun count n words words count
nothing_put begun count n words e = rw e (refl, refl)

pub nothing_begun : (s : Option ℕ) → is_some s ≡ false → (is_some s ≡ false) × (unwrap_or s 0 ≡ 0)
nothing_begun None h = (refl, refl)
nothing_begun (Some n) h = absurd (let z : ◌≡◌ {A = ℕ} 0 1 = ap (λ (b : Bool). cond b 0 1) h in omega arith)

module _ (text entry : List ℕ) where
  pub put_number_lem : (begun : Bool) (count n : ℕ) (ns words after : List ℕ) (r : ℕ) → HasPut begun count n words after r
      → ToCome text entry (ended begun n ns) words count → ToCome text entry ns after r
  put_number_lem false count n ns words after r (a, b) h = rw (a, b) h
  put_number_lem true count n ns words after r (a, b) h = go (ltb count (length words)) refl a b
    where
      go : (t : Bool) → ltb count (length words) ≡ t → r ≡ cond t (count + 1) count → after ≡ cond t (set words count n) words → ToCome text entry ns after r
      go true e a b =
          let less : count < length words = ltb-true count (length words) e in
          let same : length after ≡ length words = ap length b ∙ length-set words count n in
          record {
            room = same ∙ h.room;
            within = omega (arith, a, less, same);
            answer = h.answer ∙ (let s : length (n ∷ ns) ≡ suc (length ns) = refl in omega (arith, a, less, same, s));
            filled = h.filled ∙ first_put count n ns words less ∙ rw (a, b, add-one);
          }
      go false e a b =
          let full : length words ≤ count = ltb-false count (length words) e in
          let same : length after ≡ length words = ap length b in
          record {
            room = same ∙ h.room;
            within = omega (arith, a, h.within, same);
            answer = h.answer ∙ (let s : length (n ∷ ns) ≡ suc (length ns) = refl in omega (arith, a, full, h.within, same, s));
            filled = h.filled ∙ no_room count (n ∷ ns) words full ∙ rw (a, b, no_room count ns words full);
          }

  -- a turn at a digit, a turn at any other byte, and the text's end
  module _ (begun : Bool) (n i count : ℕ) (words : List ℕ) (h : ToCome text entry (numbers_from begun n (drop i text)) words count) where
    at_end : length text ≤ i → ToCome text entry (ended begun n []) words count
    unfolding numbers_from
    at_end e = subst (λ (bs : List ℕ). ToCome text entry (numbers_from begun n bs) words count) (drop_of_length-le text e) h

    module _ (less : i < length text) where
      abbrev after_byte : Bool → Type 0
      after_byte digit = ToCome text entry (numbers_at digit begun n (get_or text i 0) (λ begun' n'. numbers_from begun' n' (drop (i + 1) text))) words count

      at_byte : after_byte (is_digit (get_or text i 0))
      unfolding numbers_from
      at_byte = subst (λ (bs : List ℕ). ToCome text entry (numbers_from begun n bs) words count) cut h
        where
          cut : drop i text ≡ get_or text i 0 ∷ drop (i + 1) text
          cut = rw (add-one, drop-cons text i 0 less)

      at_kind : (t : Bool) → is_digit (get_or text i 0) ≡ t → after_byte t
      at_kind t e = subst after_byte e at_byte

      pub digit_turn : (r : Bool) (longer : ℕ) → r ≡ is_digit (get_or text i 0) → r ≡ true → longer ≡ longer_by n (get_or text i 0 - zero_digit)
          → ToCome text entry (numbers_from true longer (drop (i + 1) text)) words count
      digit_turn r longer e t l = rw l (at_kind true (sym e ∙ t))

      pub other_turn : (r : Bool) (after : List ℕ) (read : ℕ) → r ≡ is_digit (get_or text i 0) → r ≡ false
          → HasPut begun count n words after read
          → ToCome text entry (numbers_from false 0 (drop (i + 1) text)) after read
      other_turn r after read e t p =
          put_number_lem begun count n (numbers_from false 0 (drop (i + 1) text)) words after read p (at_kind false (sym e ∙ t))

    pub last_put : (after : List ℕ) (read : ℕ) → length text ≤ i
        → HasPut begun count n words after read
        → ToCome text entry [] after read
    last_put after read e p = put_number_lem begun count n [] words after read p (at_end e)

  -- behind the last number
  pub at_last : (words : List ℕ) (r : ℕ) → ToCome text entry [] words r → Parsed text entry words r
  at_last words r h =
      record {
        words = sym (h.filled ∙ none_left r words);
        count = omega (arith, h.answer, h.within, (let z : length {A = ℕ} [] ≡ 0 = refl in z));
      }
