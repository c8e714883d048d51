-- Keys: entry by entry, no earlier one has the same. Assumes nothing.
use Prim.Native.Nat.{ℕ, ◌+◌, ◌≤◌, ◌<◌}
use mathlib.Core.Path.{◌≡◌, sym, ap, ◌∙◌}
use mathlib.Core.Bool.{Bool, true, false, cond, ◌&&◌}
use mathlib.Core.List.{List}
use lib.Dec.{T, eqb}
use Rattle.words.specs.Areas.{entry_field}
use Rattle.definition.specs.Within.{all_below}
use Rattle.program_check.specs.Keys.{same_by, differs_from, fresh_by}
use Rattle.program_check.proofs.Below.{below_turn, below_no, below_done}

module _ (width g n : ℕ) (w : List ℕ) (i : ℕ) {group name : ℕ} (a : group ≡ entry_field width i g w) (b : name ≡ entry_field width i n w) where
  same_is : (j : ℕ) {x y : ℕ} → x ≡ entry_field width j g w → y ≡ entry_field width j n w → eqb group x && eqb name y ≡ same_by width g n w i j
  same_is j c d = rw (a, b, c, d)

  pub fresh_turn : (j : ℕ) {x y : ℕ} → x ≡ entry_field width j g w → y ≡ entry_field width j n w → T (all_below j (differs_from width g n w i))
      → eqb group x && eqb name y ≡ false → T (all_below (j + 1) (differs_from width g n w i))
  fresh_turn j c d h e = below_turn (differs_from width g n w i) j h (ap (λ (s : Bool). cond s false true) (sym (same_is j c d) ∙ e))

  pub fresh_no : (j : ℕ) {x y : ℕ} → j < i → x ≡ entry_field width j g w → y ≡ entry_field width j n w → eqb group x && eqb name y ≡ true
      → false ≡ fresh_by width g n w i
  unfolding fresh_by
  fresh_no j l c d e = below_no (differs_from width g n w i) i j l (ap (λ (s : Bool). cond s false true) (sym (same_is j c d) ∙ e))

  pub fresh_done : (j : ℕ) → j ≤ i → i ≤ j → T (all_below j (differs_from width g n w i)) → true ≡ fresh_by width g n w i
  unfolding fresh_by
  fresh_done j l m h = below_done (differs_from width g n w i) i j l m h
