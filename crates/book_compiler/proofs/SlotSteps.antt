-- The ways through the routines of `slots.rt` and through `add_constant`: constants and slots lent one after the other, by the parts of the memory. Assumes
-- nothing.
use Rattle.std.proofs.Common.{◌≡◌, ℕ, ◌+◌, ◌<◌, ◌≤◌, Bool, true, false, cond, eqb, List, length, sym, refl, ap, ◌∙◌, subst, arith, ne_eqb}
use mathlib.Core.Option.{Option, none, some}
use borrow.Author.Tests.{eqb-false}
use Rattle.memory.specs.Layout.{part, Fits}
use Rattle.memory.proofs.Parts.{put_part, put_fits}
use Rattle.words.specs.Object.{constant_of, is_shared}
use Rattle.std.specs.Prelude as code
use Rattle.constant_slots.specs.Plain as plain
use Rattle.constant_slots.specs.Plain.{pool_of}
use Rattle.constant_slots.specs.Slots.{slots_of, put_number}
use Rattle.building.specs.declared.function_state.FunctionState.{FunctionState}
use Rattle.building.specs.Found.{found_of, find_constant_c}
use Rattle.building.specs.Pool.{Pooling, pooling, add_no_check_c}
use Rattle.building.proofs.PoolWays.{add_full, add_found, add_new, add_plain}
use Rattle.book_compiler.specs.Represents.{Memory, laid, part_of, Slotted}
use Rattle.book_compiler.specs.Leaves.{ConstantAdded, AddsConstant, AddsNewConstant, AddsNoCheck, FindsConstant, PutsSlot}
use Rattle.book_compiler.proofs.Parts.{slots_same}
use Rattle.book_compiler.proofs.BothParts.{replacing}
use Rattle.book_compiler.proofs.PoolSlots.{search_same, slots_more, more_constants, same_constants}

-- on filled slots it finds what `building` finds
finds_same : {kind value : ℕ} {r : code.Option ℕ} {m : Memory} → FindsConstant kind value r m → Fits m.starts (length m.words) → Slotted m
    → r ≡ plain.found_of (find_constant_c m.state.constants (constant_of kind value) (part_of m 2))
finds_same {kind} {value} {r} {m} F f S =
    F.on f ∙ ap plain.found_of (search_same (length (part_of m 13)) m.state.constants (constant_of kind value) (part_of m 2) (part_of m 13) S.filled)

-- `add_constant`
unchanged : {f : FunctionState → List ℕ → Pooling} {index : ℕ} {m : Memory} → Fits m.starts (length m.words) → Slotted m
    → pooling index m.state (part_of m 2) ≡ f m.state (part_of m 2) → ConstantAdded f index m m
unchanged g S q = record { fits = g; others = λ i h n1 n2. refl; is = q; slotted = S }

pub adds_full : (kind value : ℕ) {m : Memory} → (m.state.full ≡ 0 → ⊥) → AddsConstant kind value 0 m m
adds_full kind value {m} ne = record { adds = λ f S. unchanged f S (add_full kind value m.state (part_of m 2) ne) }

module _ {kind value index : ℕ} {m : Memory} (z : m.state.full ≡ 0) {shared : Bool} (q : shared ≡ is_shared kind) where
  pub adds_found : shared ≡ true → {r : code.Option ℕ} → FindsConstant kind value r m → r ≡ code.Some index → AddsConstant kind value index m m
  adds_found y {r} F at = record {
    adds = λ f S. unchanged f S
        (add_found kind value m.state (part_of m 2) z q y (go (find_constant_c m.state.constants (constant_of kind value) (part_of m 2))
        (sym (finds_same F f S) ∙ at)) refl);
  }
    where
      go : (o : Option ℕ) → plain.found_of o ≡ code.Some index → found_of (some index) ≡ found_of o
      go none e = absurd (let x : ◌≡◌ {A = ℕ} 0 1 = cc in omega arith)
      go (some j) e = let same : index ≡ j = cc in rw same

  pub adds_new : shared ≡ true → {r : code.Option ℕ} → FindsConstant kind value r m → r ≡ code.None → {m' : Memory}
      → AddsNewConstant kind value index m m' → AddsConstant kind value index m m'
  adds_new y {r} F lost {m'} A = record {
    adds = λ f S.
        let B = A.adds f S in
        record {
          fits = B.fits;
          others = B.others;
          is = add_new kind value m.state (part_of m 2) z q y (go (find_constant_c m.state.constants (constant_of kind value) (part_of m 2))
              (sym (finds_same F f S) ∙ lost)) refl B.is;
          slotted = B.slotted;
        };
  }
    where
      go : (o : Option ℕ) → plain.found_of o ≡ code.None → found_of none ≡ found_of o
      go none e = refl
      go (some j) e = absurd (let x : ◌≡◌ {A = ℕ} 0 1 = cc in omega arith)

  pub adds_plain : shared ≡ false → {m' : Memory} → AddsNewConstant kind value index m m' → AddsConstant kind value index m m'
  adds_plain n {m'} A = record {
    adds = λ f S.
        let B = A.adds f S in
        record { fits = B.fits; others = B.others; is = add_plain kind value m.state (part_of m 2) z q n B.is; slotted = B.slotted };
  }

-- `add_new_constant`
apart : (i j : ℕ) → eqb i j ≡ false → (x y : List ℕ) → cond (eqb j i) x y ≡ y
apart i j q x y = ap (λ (t : Bool). cond t x y) (ne_eqb j i (λ r. eqb-false i j q (sym r)))

module _ {kind value index : ℕ} {s s' : FunctionState} {a l l₁ : List ℕ} (A : AddsNoCheck kind value index (laid s a l) (laid s' a l₁)) where
  pub new_refused : s'.constants ≤ s.constants → AddsNewConstant kind value index (laid s a l) (laid s' a l₁)
  new_refused few = record {
    adds = λ f S.
        let P = replacing (omega arith) A.acts f in
        let is = P.does in
        let count : s'.constants ≡ (add_no_check_c kind value s (part a 2 l)).state.constants = ap (λ (p : Pooling). p.state.constants) is in
        let words : P.words ≡ (add_no_check_c kind value s (part a 2 l)).constants = ap (λ (p : Pooling). p.constants) is in
        let here : part a 2 l₁ ≡ P.words = P.parts 2 (omega arith) in
        let same = same_constants kind value s (part a 2 l) (subst (λ (n : ℕ). n ≤ s.constants) count few) in
        record {
          fits = P.fits;
          others = λ i h n1 n2. P.parts i h ∙ apart i 2 n1 P.words (part a i l);
          is = ap (λ (k : List ℕ). pooling index s' k) here ∙ is;
          slotted = slots_same (P.parts 13 (omega arith))
              (ap (λ (n : ℕ). pool_of n (part a 2 l₁)) (count ∙ same.counted)
              ∙ ap (λ (k : List ℕ). pool_of s.constants k) (here ∙ words ∙ same.words)) S;
        };
  }

  pub new_with_slot : {l₂ : List ℕ} → PutsSlot index kind value a l₁ l₂ → s.constants < s'.constants
      → AddsNewConstant kind value index (laid s a l) (laid s' a l₂)
  new_with_slot {l₂} T more = record {
    adds = λ f S.
        let P = replacing (omega arith) A.acts f in
        let Q = T.on P.fits in
        let is = P.does in
        let n = s.constants in
        let k = part a 2 l in
        let at : index ≡ n = ap (λ (p : Pooling). p.index) is in
        let count : s'.constants ≡ (add_no_check_c kind value s k).state.constants = ap (λ (p : Pooling). p.state.constants) is in
        let words : P.words ≡ (add_no_check_c kind value s k).constants = ap (λ (p : Pooling). p.constants) is in
        let M = more_constants kind value s k (subst (λ (c : ℕ). n < c) count more) in
        let other : (i : ℕ) → i < 14 → part a i l₂ ≡ cond (eqb 13 i) Q.words (part a i l₁) =
        λ i h. ap (part a i) Q.is ∙ put_part a l₁ Q.words P.fits 13 (omega arith) Q.long i h in
        let here : part a 2 l₂ ≡ P.words = other 2 (omega arith) ∙ P.parts 2 (omega arith) in
        let table : part a 13 l₂ ≡ Q.words = other 13 (omega arith) in
        let before : part a 13 l₁ ≡ part a 13 l = P.parts 13 (omega arith) in
        let long : length (part a 13 l₂) ≡ length (part a 13 l) = ap length table ∙ Q.long ∙ ap length before in
        let after = slots_more n kind value k M.room (length (part a 13 l)) (before ∙ S.filled)
        (Q.does ∙ ap (λ (i : ℕ). put_number (part a 13 l₁) i (constant_of kind value)) at) in
        record {
          fits = rw Q.is (put_fits a l₁ Q.words P.fits 13 (omega arith) Q.long);
          others = λ i h n1 n2. other i h ∙ apart i 13 n2 Q.words (part a i l₁) ∙ P.parts i h ∙ apart i 2 n1 P.words (part a i l);
          is = ap (λ (x : List ℕ). pooling index s' x) here ∙ is;
          slotted = record {
            filled = table ∙ after ∙ ap (λ (x : List ℕ). slots_of (length (part a 13 l)) (pool_of (n + 1) x)) (sym M.words)
                ∙ ap (λ (x : ℕ). slots_of x (pool_of (n + 1) (add_no_check_c kind value s k).constants)) (sym long)
                ∙ ap (λ (x : ℕ). slots_of (length (part a 13 l₂)) (pool_of x (add_no_check_c kind value s k).constants)) (sym (count ∙ M.counted))
                ∙ ap (λ (x : List ℕ). slots_of (length (part a 13 l₂)) (pool_of s'.constants x)) (sym (here ∙ words));
          };
        };
  }
