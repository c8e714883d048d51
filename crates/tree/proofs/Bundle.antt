-- The law `fine_spells`: where `shape_of` is fine, the documents that `documents_of` reads stand in the words and fill them, no level is past the last,
-- positions and values are in range, and 41 has one number. The documents are children from slot 1 on. Assumes nothing.
use mathlib.Core.Path.{◌≡◌, refl, sym, subst, ◌∙◌}
use mathlib.Core.Bool.{Bool, true, false}
use mathlib.Core.List.{List}
use Prim.Native.Nat.{ℕ, zero, suc, ◌+◌, ◌-◌, ◌%◌, ◌≤◌, ◌<◌}
use native.Mathlib.Omega.{arith}
use native.Mathlib.Decide.{dec_lt, ℕ_discrete}
use lib.ListN.{length}
use borrow.Author.Tests.{lt-ltb, le-ltb, eq-eqb, ne_eqb}
use Rattle.std.specs.Prelude.{Result, Ok, Err}
use Rattle.words.specs.declared.row.Refused.{Refused}
use Rattle.tree.specs.Rules.{goes_on, slot_after, is_due, first_slot, in_range}
use Rattle.words.specs.Record.{kind_at, span_at, position_at, value_at, most_records}
use Rattle.tree.specs.Check.{within_of, lacks_of, walk_of, shape_of, shape_by, records_of}
use Rattle.tree.specs.At.{size_doc, DocumentAt, depth_doc}
use Rattle.tree.specs.Spelled.{Spelled}
use Rattle.tree.specs.Reading.{document_of, documents_of}
use Rattle.tree.proofs.Spans.{within_true}
use Rattle.tree.proofs.Walks.{lacks_done, lacks_stop, lacks_on}
use Rattle.tree.proofs.Children.{takes, Children, Child, child}
use Rattle.tree.proofs.This.{same_number}
use Rattle.tree.proofs.Runs.{run_law}
use Rattle.tree.proofs.Definitions.{document_item}

-- every record's position and value are in the range of its kind
in-range : (w : List ℕ) (n s l i e : ℕ) → Children w s l i e → e - i ≤ n → (j : ℕ) → i ≤ j → j < e → in_range (kind_at w j) (position_at w j) (value_at w j) ≡
    true
in-range w zero s l i e k b j a h = absurd (omega arith)
in-range w (suc n) s l i e k b j a h = go (child k (omega arith)) (ℕ_discrete i j) (λ s l i e. in-range w n s l i e)
  where
    go : Child w s l i e → Dec (i ≡ j)
        → ((s l i e : ℕ) → Children w s l i e → e - i ≤ n → (j : ℕ) → i ≤ j → j < e → in_range (kind_at w j) (position_at w j) (value_at w j) ≡ true)
        → in_range (kind_at w j) (position_at w j) (value_at w j) ≡ true
    go c (yes q) r = subst (λ m. in_range (kind_at w m) (position_at w m) (value_at w m) ≡ true) q c.range
    go c (no q) r = by (dec_lt j (i + span_at w i))
      where
        by : Dec (j < i + span_at w i) → in_range (kind_at w j) (position_at w j) (value_at w j) ≡ true
        by (yes x) = let y = c.fits in r (first_slot (kind_at w i)) (l + 1) (i + 1) (i + span_at w i) c.inner (omega arith) j (omega arith) x
        by (no x) = let y = c.some in r (slot_after s (kind_at w i)) l (i + span_at w i) e c.rest (omega arith) j (omega arith) h

fine_walk : (o : Result ℕ Refused) → shape_by o ≡ Ok tt → (u : ℕ) × (o ≡ Ok u)
fine_walk (Ok u) h = (u, refl)
fine_walk (Err found) h = let z : ◌≡◌ {A = ℕ} 0 1 = cc in absurd (omega arith)

pub record Passed (w : List ℕ) : Type 0 where
  pub whole : length w % 4 ≡ 0
  pub limit : records_of w ≤ most_records
  pub went : (u : ℕ) × (walk_of w 1 1 0 0 (records_of w) ≡ Ok u)

not_fine : {A : Type 0} {found : Refused} → ◌≡◌ {A = Result (Unit {0}) Refused} (Err found) (Ok tt) → A
not_fine h = let z : ◌≡◌ {A = ℕ} 0 1 = cc in absurd (omega arith)

pub fine_passed : (w : List ℕ) → shape_of w ≡ Ok tt → Passed w
unfolding shape_of
fine_passed w h = go (ℕ_discrete (length w % 4) 0) (dec_lt most_records (records_of w)) (ℕ_discrete (records_of w) 0)
  where
    go : Dec (length w % 4 ≡ 0) → Dec (most_records < records_of w) → Dec (records_of w ≡ 0) → Passed w
    go (no a) b c = not_fine (simp (ne_eqb (length w % 4) 0 a) at h)
    go (yes a) (yes b) c = not_fine (simp (eq-eqb (length w % 4) 0 a, lt-ltb most_records (records_of w) b) at h)
    go (yes a) (no b) (yes c) =
        not_fine (simp (eq-eqb (length w % 4) 0 a, le-ltb most_records (records_of w) (omega arith), eq-eqb (records_of w) 0 c) at h)
    go (yes a) (no b) (no c) =
        let g : shape_by (walk_of w 1 1 0 0 (records_of w)) ≡ Ok tt
        = simp (eq-eqb (length w % 4) 0 a, le-ltb most_records (records_of w) (omega arith), ne_eqb (records_of w) 0 c) at h in
        record { whole = a; limit = omega arith; went = fine_walk (walk_of w 1 1 0 0 (records_of w)) g }

-- no document is ever due
after_1 : (k : ℕ) → slot_after 1 k ≡ 1
unfolding slot_after goes_on
after_1 k = refl

none_due : (w : List ℕ) (n j e : ℕ) → e - j ≤ n → lacks_of w 1 j e ≡ false
unfolding is_due
none_due w zero j e b = lacks_done w 1 j e (omega arith)
none_due w (suc n) j e b = go (dec_lt j e) (within_of j (span_at w j) e) refl (none_due w n (j + span_at w j) e)
  where
    go : Dec (j < e) → (t : Bool) → within_of j (span_at w j) e ≡ t
        → (e - (j + span_at w j) ≤ n → lacks_of w 1 (j + span_at w j) e ≡ false) → lacks_of w 1 j e ≡ false
    go (no h) t q r = lacks_done w 1 j e (omega arith)
    go (yes h) false q r = lacks_stop w 1 j e h q
    go (yes h) true q r =
        let x = within_true j (span_at w j) e q in
        lacks_on w 1 j e h q ∙ subst (λ s. lacks_of w s (j + span_at w j) e ≡ false) (sym (after_1 (kind_at w j))) (r (omega arith))

documents : {w : List ℕ} → Passed w → Children w 1 1 0 (records_of w)
documents {w} p = record {
  before = 0;
  after = p.went.0;
  went = p.went.1;
  full = none_due w (records_of w) 0 (records_of w) (omega arith);
  ordered = omega arith;
}

-- the law
pub fine_spells : (w : List ℕ) → shape_of w ≡ Ok tt → Spelled w (documents_of w)
unfolding documents_of is_due
fine_spells w h =
    let p = fine_passed w h in
    let n = records_of w in
    let k = documents p in
    let r = run_law (document_of w) DocumentAt size_doc depth_doc w (takes 1 refl) (document_item w) n 1 0 n (omega arith) k (omega arith) in
    let z = r.fills in
    let d = r.deep in
    record {
      documents = r.is;
      fills = omega arith;
      levels = omega arith;
      whole = p.whole;
      limit = p.limit;
      ranges = λ j x. in-range w (records_of w) 1 1 0 (records_of w) k (omega arith) j (omega arith) x;
      this = (p.went.0, λ j x c. same_number w 1 1 0 0 (records_of w) p.went.0 p.went.1 j (omega arith) x c);
    }
