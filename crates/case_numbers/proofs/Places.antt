-- One law for each way through the loop of `find`. Assumes nothing.
use Prim.Native.Nat.{ℕ, suc, ◌+◌, ◌≤◌, ◌<◌}
use native.Mathlib.Numerals.{add-one}
use native.Mathlib.Omega.{arith}
use mathlib.Core.Path.{◌≡◌, ap, ◌∙◌}
use mathlib.Core.List.{List, ◌∷◌}
use lib.ListN.{length, drop, get_or}
use lib.Seq.{drop-cons}
use lib.Dec.{eqb}
use borrow.Author.Tests.{eq-eqb, ne_eqb}
use Rattle.case_numbers.specs.Places.{place_or, first_place, place_from}

module _ (byte : ℕ) (text : List ℕ) (i : ℕ) where
  pub place_end : length text ≤ i → length text ≡ place_from byte i text
  place_end h = omega (arith, h)

  module _ (h : i < length text) where
    at_byte : first_place byte (drop i text) ≡ place_or (eqb (get_or text i 0) byte) (first_place byte (drop (i + 1) text))
    unfolding first_place
    at_byte = ap (first_place byte) cut
      where
        cut : drop i text ≡ get_or text i 0 ∷ drop (i + 1) text
        cut = rw (add-one, drop-cons text i 0 h)

    pub place_here : get_or text i 0 ≡ byte → i ≡ place_from byte i text
    place_here e = omega (arith, (let p : first_place byte (drop i text) ≡ 0 = at_byte ∙ simp (eq-eqb (get_or text i 0) byte e) in p))

    pub place_next : (get_or text i 0 ≡ byte → ⊥) → place_from byte i text ≡ place_from byte (i + 1) text
    place_next e =
        omega (
          arith,
          (let p : first_place byte (drop i text) ≡ suc (first_place byte (drop (i + 1) text)) = at_byte ∙ simp (ne_eqb (get_or text i 0) byte e) in
              p),
        )
