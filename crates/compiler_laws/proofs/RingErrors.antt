-- A ring: the errors of the books that are left, one after the other. With the mark set nothing is added. Assumes nothing.
use Prim.Native.Nat.{ℕ, ◌+◌, ◌/◌, ◌≤◌, ◌<◌}
use native.Mathlib.Omega.{arith}
use mathlib.Core.Path.{◌≡◌, refl, sym, ap, ◌∙◌}
use mathlib.Core.List.{List, [], ◌∷◌, ◌++◌, append-nil, append_assoc}
use lib.ListN.{length, length-append}
use Rattle.words.specs.Areas.{entry_field, errors_area}
use Rattle.words.proofs.Entries.{field_in}
use Rattle.definition.specs.Compiler.{Error}
use Rattle.definition.specs.Program.{entries_from, error_entry}
use Rattle.definition.specs.Answer.{ring_errors}
use Rattle.definition_laws.proofs.Cells.{single_length}
use Rattle.building.specs.declared.taking.Taken.{Taken}
use Rattle.building.specs.Taking.{Took}
use Rattle.building.specs.RepresentsMachine.{Filled}
use Rattle.building.proofs.ContextLaws.{Grown, grown, over, took_law, took_full}
use Rattle.building.proofs.PoolLaws.{entries_more}
use Rattle.compiler_laws.specs.SolverSteps.{book_unit}
use Rattle.compiler_laws.specs.BooksInOrder.{Leaves, Rung, PushesRingErrors}

errors_length : (es : List Error) → length (entries_from error_entry 0 es) ≡ length es
errors_length es = single_length _ 0 es

abbrev ring_error : ℕ → Error
ring_error n = record { number = 11; token = record { position = 0; kind = 0; value = n } }

module _ {i count : ℕ} {o : List ℕ} {t : Taken} {e : List ℕ} where
  pub ring_end : count ≤ i → PushesRingErrors i count o t e t e
  ring_end past = record { rings = go; stays = λ ne. (refl, refl) }
    where
      go : (es : List Error) (left : List ℕ) → Leaves o i left → i + length left ≡ count → t.full ≡ 0 → Filled 4 e (entries_from error_entry 0 es) t.count
          → Rung es left e t e
      go es [] h q z f = record {
        long = refl;
        fits = λ r. (z, rw (append-nil es) f);
        over = λ r. absurd (omega (arith, f.room, f.count, errors_length es));
      }
      go es (n ∷ left) h q z f = absurd (omega arith)

  pub ring_more : {file : ℕ} {t₁ r : Taken} {e₁ e' : List ℕ} → i < count → file ≡ entry_field 1 i 0 o
      → Took errors_area t.full t.count (11 ∷ 0 ∷ 0 ∷ file / book_unit ∷ []) e t₁ e₁ → PushesRingErrors (i + 1) count o t₁ e₁ r e'
      → PushesRingErrors i count o t e r e'
  ring_more {file} {t₁} {r} {e₁} {e'} inside file-is T R = record { rings = go; stays = kept }
    where
      kept : (t.full ≡ 0 → ⊥) → (r.full ≡ t.full) × (length e' ≡ length e)
      kept ne =
          let F = took_full T ne in
          let same : t₁.full ≡ t.full = ap (λ (x : Taken). x.full) F.0 in
          let R₁ = R.stays (λ y. ne (sym same ∙ y)) in
          (R₁.0 ∙ same, R₁.1 ∙ ap (λ (x : List ℕ). length x) F.1)

      go : (es : List Error) (left : List ℕ) → Leaves o i left → i + length left ≡ count → t.full ≡ 0 → Filled 4 e (entries_from error_entry 0 es) t.count
          → Rung es left e r e'
      go es [] h q z f = absurd (omega arith)
      go es (n ∷ left) h q z f = by (took_law T z f) R
        where
          number : file / book_unit ≡ n
          number = ap (λ (x : ℕ). x / book_unit) (file-is ∙ sym (field_in o 1 i 0 (omega arith) (omega arith))) ∙ h.0

          more : entries_from error_entry 0 es ++ ((11 ∷ 0 ∷ 0 ∷ file / book_unit ∷ []) ∷ []) ≡ entries_from error_entry 0 (es ++ (ring_error n ∷ []))
          more = rw number (sym (entries_more error_entry 0 es (ring_error n)))

          by : {t₂ : Taken} {e₂ : List ℕ} → Grown errors_area t.count (11 ∷ 0 ∷ 0 ∷ file / book_unit ∷ []) e (entries_from error_entry 0 es) t₂ e₂
              → PushesRingErrors (i + 1) count o t₂ e₂ r e' → Rung es (n ∷ left) e r e'
          by (grown room f' long) R₂ =
              let one : length (es ++ (ring_error n ∷ [])) ≡ length es + 1 = length-append es (ring_error n ∷ []) in
              let G = R₂.rings (es ++ (ring_error n ∷ [])) left h.1 (omega arith) refl (rw (← more) f') in
              record {
                long = G.long ∙ long;
                fits = λ y. rw (append_assoc es (ring_error n ∷ []) (ring_errors left)) at (G.fits (rw (long, one) (omega arith)));
                over = λ y. G.over (rw (long, one) (omega arith));
              }
          by (over none_left) R₂ =
              let S = R₂.stays (λ y. omega arith) in
              record {
                long = S.1;
                fits = λ y. absurd (omega (arith, f.count, errors_length es));
                over = λ y. S.0;
              }
