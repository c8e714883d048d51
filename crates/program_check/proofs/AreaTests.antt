-- The entries of an area one after the other, and the zeros behind them. Assumes nothing.
use Prim.Native.Nat.{ℕ, suc, ◌+◌, ◌-◌, ◌*◌, ◌/◌, ◌≤◌, ◌<◌}
use native.Mathlib.Omega.{arith}
use native.Mathlib.Nat.{mul-le-mul_right, div-mul-le_self}
use Rattle.std.specs.Prelude.{nat_eq}
use Rattle.std.specs.List.{list_all}
use mathlib.Core.Path.{◌≡◌, refl, sym, ap, subst, ◌∙◌}
use mathlib.Core.Bool.{Bool, true, false, cond, not, ◌&&◌}
use mathlib.Core.List.{List, [], ◌∷◌}
use lib.ListN.{length, get_or, take, drop, replicate, length-drop, length-replicate, drop_of_length-le}
use lib.Seq.{get_or_at, take_all}
use lib.Dec.{T, eqb, leb}
use borrow.Author.Tests.{le-leb, lt-leb, not-true, not-false}
use Rattle.words.specs.Areas.{width_of, entries_in}
use Rattle.words.specs.Reply.{total_of}
use Rattle.words.specs.declared.reply.Totals.{Totals}
use Rattle.definition.specs.Within.{all_below}
use Rattle.definition.specs.ProgramCheck.{zeros}
use Rattle.definition_laws.proofs.Tests.{second_of, below_at}
use Rattle.program_check.proofs.Below.{true_by, false_by, holds, fails, and_holds, below_turn}
use Rattle.program_check.specs.HasEntries.{HasEntries}
use Rattle.program_check.specs.Parts.{alone, entry_fine, entries_fine}

-- zeros

zeros_are : (w : List ℕ) → list_all (λ x. nat_eq x 0) w ≡ zeros w
zeros_are [] = refl
zeros_are (x ∷ xs) = ap (λ (b : Bool). eqb x 0 && b) (zeros_are xs) ∙ both (eqb x 0) (zeros xs)
  where
    both : (a b : Bool) → (a && b) ≡ cond a b false
    both true b = refl
    both false b = refl

pub zeros_all : (w : List ℕ) {r : Bool} → r ≡ list_all (λ x. eqb x 0) w → r ≡ zeros w
zeros_all w e = e ∙ zeros_are w

pub zeros_past : (w : List ℕ) (from : ℕ) → length w < from → true ≡ zeros (drop from w)
zeros_past w from h =
    let s : zeros (drop from w) ≡ true = rw (drop_of_length-le w {i = from} (omega (arith, h))) in
    sym s

pub rest_all : (w : List ℕ) (from : ℕ) → take (length w - from) (drop from w) ≡ drop from w
rest_all w from = take_all (length w - from) (drop from w) (let e = length-drop from w in omega (arith, e))

-- entries that an area has room for
pub room : (n width total : ℕ) → total ≤ entries_in width n → total * width ≤ n
room n width total h =
    let q : total ≤ n / width = omega arith in
    omega (arith, mul-le-mul_right width q, div-mul-le_self n width)

module _ (area : ℕ) (w : List ℕ) (total : ℕ) where
  abbrev fit : Bool
  fit = leb total (entries_in (width_of area) (length w)) && zeros (drop (total * width_of area) w)

  pub fit_no : {entries : ℕ} → entries ≡ entries_in (width_of area) (length w) → entries < total → false ≡ fit
  fit_no e h = simp (lt-leb total (entries_in (width_of area) (length w)) (omega arith))

  pub fit_zeros : {entries width : ℕ} {r : Bool} → entries ≡ entries_in (width_of area) (length w) → total ≤ entries → width ≡ width_of area
      → r ≡ zeros (drop (total * width) w) → r ≡ fit
  fit_zeros {entries} {width} {r} e h k z =
      z ∙ (ap (λ (x : ℕ). zeros (drop (total * x) w)) k ∙ simp (le-leb total (entries_in (width_of area) (length w)) (omega arith)))

  pub fit_room : {entries width : ℕ} → entries ≡ entries_in (width_of area) (length w) → total ≤ entries → width ≡ width_of area → total * width ≤ length w
  fit_room {entries} {width} e h k =
      subst (λ (x : ℕ). total * x ≤ length w) (sym k) (room (length w) (width_of area) total (omega arith))

-- a program of which one area is read
pub alone_at : (area : ℕ) (w : List ℕ) (t : Totals) → get_or (alone area w t).areas area [] ≡ w
alone_at area w t = get_or_at (replicate area []) w [] [] area (length-replicate area [])

more : (a n : ℕ) → n ≤ a → (a ≡ n → ⊥) → suc n ≤ a
more a n l d = omega (arith, d)

-- of the areas whose entries are looked at only the books are none of the first eight
pub books_left : (a : ℕ) → HasEntries a → (a ≡ 1 → ⊥) → (a ≡ 2 → ⊥) → (a ≡ 3 → ⊥) → (a ≡ 4 → ⊥) → (a ≡ 5 → ⊥) → (a ≡ 6 → ⊥) → (a ≡ 7 → ⊥) → (a ≡ 8 → ⊥)
    → a ≡ 12
books_left a h n1 n2 n3 n4 n5 n6 n7 n8 =
    h.or_books (more a 8 (more a 7 (more a 6 (more a 5 (more a 4 (more a 3 (more a 2 (more a 1 h.from_code n1) n2) n3) n4) n5) n6) n7) n8)

pub dispatch : (area n i : ℕ) (w : List ℕ) (t : Totals) {r : Bool} → area ≡ n → r ≡ entry_fine (alone n w t) n i → r ≡ entry_fine (alone area w t) area i
dispatch area n i w t {r} e h = subst (λ (a : ℕ). r ≡ entry_fine (alone a w t) a i) (sym e) h

module _ (area : ℕ) (w : List ℕ) (t : Totals) {total : ℕ} (is : total ≡ total_of t area) where
  -- entriesFine, by what `lies_in` answers
  fine_is : entries_fine (alone area w t) area ≡ fit area w total && all_below total (entry_fine (alone area w t) area)
  unfolding entries_fine
  fine_is =
      ap (λ (x : List ℕ). leb (total_of t area) (entries_in (width_of area) (length x)) && zeros (drop (total_of t area * width_of area) x)
      && all_below (total_of t area) (entry_fine (alone area w t) area)) (alone_at area w t)
      ∙ ap (λ (x : ℕ). fit area w x && all_below x (entry_fine (alone area w t) area)) (sym is)

  pub fine_unfit : {f : Bool} → f ≡ fit area w total → not f ≡ true → false ≡ entries_fine (alone area w t) area
  fine_unfit {f} e n =
      let z : fit area w total ≡ false = sym e ∙ not-true f n in
      sym (fine_is ∙ simp z)

  pub fine_turn : (i : ℕ) {e : Bool} → T (all_below i (entry_fine (alone area w t) area)) → e ≡ entry_fine (alone area w t) area i → not e ≡ false
      → T (all_below (i + 1) (entry_fine (alone area w t) area))
  fine_turn i {e} h s n = below_turn (entry_fine (alone area w t) area) i h (sym s ∙ not-false e n)

  pub fine_entry : (i : ℕ) {e : Bool} → i < total → e ≡ entry_fine (alone area w t) area i → not e ≡ true → false ≡ entries_fine (alone area w t) area
  fine_entry i {e} l s n =
      false_by (entries_fine (alone area w t) area) (λ x. fails (sym s ∙ not-true e n)
      (below_at total (entry_fine (alone area w t) area)
      (second_of (fit area w total) (all_below total (entry_fine (alone area w t) area)) (subst T fine_is x)) i l))

  pub fine_all : (i : ℕ) {f : Bool} → f ≡ fit area w total → not f ≡ false → i ≤ total → total ≤ i
      → T (all_below i (entry_fine (alone area w t) area)) → true ≡ entries_fine (alone area w t) area
  fine_all i {f} e n l m h =
      let q : i ≡ total = omega arith in
      true_by (entries_fine (alone area w t) area) (subst T (sym fine_is)
      (and_holds (fit area w total) (all_below total (entry_fine (alone area w t) area)) (holds (sym e ∙ not-false f n))
      (subst (λ (k : ℕ). T (all_below k (entry_fine (alone area w t) area))) q h)))
