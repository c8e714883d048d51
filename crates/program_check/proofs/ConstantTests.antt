-- Area 2 as a whole: the first three constants and the marks. Assumes nothing.
use Prim.Native.Nat.{ℕ, ◌+◌, ◌*◌, ◌≤◌, ◌<◌}
use native.Mathlib.Omega.{arith}
use native.Mathlib.Numerals.{add-one}
use mathlib.Core.Path.{◌≡◌, sym, ap, subst}
use mathlib.Core.Bool.{Bool, true, ◌&&◌}
use mathlib.Core.List.{List, [], ◌∷◌}
use lib.ListN.{length, drop}
use lib.Dec.{T, eqb, ltb, leb, ltb→lt}
use Rattle.words.specs.Areas.{entries_in, entry_field}
use Rattle.words.specs.declared.reply.Totals.{Totals}
use Rattle.definition.specs.Within.{all_below, marked, present, where', constant_bound}
use Rattle.definition.specs.ProgramCheck.{zeros, value_known, whole_known}
use Rattle.definition_laws.proofs.Tests.{first_of, second_of, below_at}
use Rattle.program_check.specs.Parts.{alone, entry_fine, entries_fine}
use Rattle.program_check.proofs.Below.{holds, min_is}

pub constant_is : (w : List ℕ) (i kind value : ℕ) {k v : ℕ} → k ≡ entry_field 3 i 0 w → v ≡ entry_field 3 i 1 w
    → eqb k kind && eqb v value ≡ eqb (entry_field 3 i 0 w) kind && eqb (entry_field 3 i 1 w) value
constant_is w i kind value a b = rw (a, b)

pub marked_turn : (w : List ℕ) (i : ℕ) {count mark : ℕ} → count ≡ marked ([] ∷ [] ∷ w ∷ []) i → mark ≡ entry_field 3 i 2 w
    → count + mark ≡ marked ([] ∷ [] ∷ w ∷ []) (i + 1)
unfolding entry_field
marked_turn w i {count} {mark} a b = subst (λ (k : ℕ). count + mark ≡ marked ([] ∷ [] ∷ w ∷ []) k) (sym (add-one i)) (rw (a, b))

pub marked_done : (w : List ℕ) (i total : ℕ) {count : ℕ} → i ≤ total → total ≤ i → count ≡ marked ([] ∷ [] ∷ w ∷ []) i → count ≡ marked ([] ∷ [] ∷ w ∷ []) total
marked_done w i total {count} a b e =
    let q : i ≡ total = omega arith in
    subst (λ (k : ℕ). count ≡ marked ([] ∷ [] ∷ w ∷ []) k) q e

module _ (w : List ℕ) (t : Totals) (fine : entries_fine (alone 2 w t) 2 ≡ true) where
  abbrev fit : Bool
  fit = leb t.constants (entries_in 3 (length w)) && zeros (drop (t.constants * 3) w)

  whole : T (fit && all_below t.constants (entry_fine (alone 2 w t) 2))
  unfolding entries_fine
  whole = holds fine

  pub marks_known : (i : ℕ) → i < t.constants → entry_field 3 i 2 w < 2
  unfolding entry_field
  marks_known i l =
      let p = alone 2 w t in
      let e : T (entry_fine p 2 i) = below_at t.constants (entry_fine p 2) (second_of fit (all_below t.constants (entry_fine p 2)) whole) i l in
      ltb→lt (entry_field 3 i 2 w) 2
      (second_of (where' (eqb (entry_field 3 i 0 w) 5) (ltb (entry_field 3 i 1 w) t.models)
      && where' (eqb (entry_field 3 i 0 w) 6) (ltb (entry_field 3 i 1 w) t.functions)) (ltb (entry_field 3 i 2 w) 2) (first_of (constant_bound p i)
      (value_known (entry_field 3 i 0 w) (entry_field 3 i 1 w)) e))

  pub constants_whole : {null yes no : Bool} {count : ℕ}
      → null ≡ eqb (entry_field 3 0 0 w) 0 && eqb (entry_field 3 0 1 w) 0 → yes ≡ eqb (entry_field 3 1 0 w) 1 && eqb (entry_field 3 1 1 w) 1
      → no ≡ eqb (entry_field 3 2 0 w) 1 && eqb (entry_field 3 2 1 w) 0 → count ≡ marked ([] ∷ [] ∷ w ∷ []) t.constants
      → (leb 3 t.constants && null && yes && no) && eqb count t.global_dependencies ≡ whole_known (alone 2 w t) 2
  unfolding entry_field
  constants_whole {null} {yes} {no} {count} a b c d =
      let q : present (alone 2 w t) 2 ≡ t.constants =
      min_is t.constants (entries_in 3 (length w)) (first_of (leb t.constants (entries_in 3 (length w))) (zeros (drop (t.constants * 3) w))
      (first_of fit (all_below t.constants (entry_fine (alone 2 w t) 2)) whole)) in
      rw (a, b, c, d) (ap (λ (n : ℕ). (leb 3 n && (eqb (entry_field 3 0 0 w) 0 && eqb (entry_field 3 0 1 w) 0)
      && (eqb (entry_field 3 1 0 w) 1 && eqb (entry_field 3 1 1 w) 1) && (eqb (entry_field 3 2 0 w) 1 && eqb (entry_field 3 2 1 w) 0))
      && eqb (marked ([] ∷ [] ∷ w ∷ []) n) t.global_dependencies) (sym q))
