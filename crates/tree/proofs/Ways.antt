-- One law for each way through the code of `lacks`, `check_records` and `check`. Assumes nothing.
use mathlib.Core.Path.{◌≡◌, sym, ap, ◌∙◌}
use mathlib.Core.Bool.{Bool, true, false, not}
use mathlib.Core.List.{List}
use Prim.Native.Nat.{ℕ, ◌+◌, ◌%◌, ◌≤◌, ◌<◌}
use lib.ListN.{length}
use borrow.Author.Tests.{lt-ltb, le-ltb, eq-eqb, ne_eqb, not-true, not-false}
use Rattle.std.specs.Prelude.{Result}
use Rattle.words.specs.declared.row.Row.TheVariants.{BadLength, BadShape}
use Rattle.words.specs.declared.row.Refused.{Refused}
use Rattle.tree.specs.Rules.{slot_after}
use Rattle.words.specs.Record.{kind_at, span_at, most_records}
use Rattle.tree.specs.Check.{within_of, lacks_of, walk_of, shape_of, shape_by, records_of, refused}
use Rattle.tree.proofs.Walks.{lacks_stop, lacks_on}

-- lacks

pub lacks_out : (w : List ℕ) (s j e : ℕ) {sp : ℕ} {b : Bool} → j < e → sp ≡ span_at w j → b ≡ within_of j sp e → not b ≡ true → false ≡ lacks_of w s j e
lacks_out w s j e {sp} {b} h a p q = sym (lacks_stop w s j e h (let n : b ≡ false = not-true b q in cc))

pub lacks_more : (w : List ℕ) (s j e : ℕ) {k sp r : ℕ} {b : Bool}
    → j < e → k ≡ kind_at w j → sp ≡ span_at w j → b ≡ within_of j sp e → not b ≡ false → r ≡ slot_after s k → lacks_of w s j e ≡ lacks_of w r (j + sp) e
lacks_more w s j e {k} {sp} {r} {b} h x a p q y =
    let n : b ≡ true = not-false b q in
    let o : lacks_of w s j e ≡ lacks_of w (slot_after s (kind_at w j)) (j + span_at w j) e = lacks_on w s j e h (cc) in
    o ∙ rw (← x, ← a, ← y)

-- check

pub shape_length : (w : List ℕ) → (length w % 4 ≡ 0 → ⊥) → refused BadLength 0 ≡ shape_of w
unfolding shape_of
shape_length w n = simp (ne_eqb (length w % 4) 0 n)

pub shape_long : (w : List ℕ) → length w % 4 ≡ 0 → most_records < records_of w → refused BadLength 0 ≡ shape_of w
unfolding shape_of
shape_long w a n = simp (eq-eqb (length w % 4) 0 a, lt-ltb most_records (records_of w) n)

pub shape_none : (w : List ℕ) → length w % 4 ≡ 0 → records_of w ≤ most_records → records_of w ≡ 0 → refused BadShape 0 ≡ shape_of w
unfolding shape_of
shape_none w a n z = simp (eq-eqb (length w % 4) 0 a, le-ltb most_records (records_of w) n, eq-eqb (records_of w) 0 z)

pub shape_walked : (w : List ℕ) → length w % 4 ≡ 0 → records_of w ≤ most_records → (records_of w ≡ 0 → ⊥) → {o : Result ℕ Refused}
    → o ≡ walk_of w 1 1 0 0 (records_of w) → shape_by o ≡ shape_of w
unfolding shape_of
shape_walked w a n z O = simp (eq-eqb (length w % 4) 0 a, le-ltb most_records (records_of w) n, ne_eqb (records_of w) 0 z) (ap shape_by O)
