-- The searches of the listing: a property's index in its model, the method that comes next, and how many errors there are. Each loop's invariant is that the
-- whole answer is the answer from here. Assumes nothing.
use Prim.Native.Nat.{ℕ, zero, suc, ◌+◌, ◌-◌, ◌≤◌, ◌<◌}
use native.Mathlib.Numerals.{add-one}
use native.Mathlib.Omega.{arith}
use mathlib.Core.Path.{◌≡◌, refl, sym, ap, ◌∙◌}
use mathlib.Core.Bool.{Bool, true, false, cond, not}
use mathlib.Core.List.{List}
use lib.ListN.{length}
use lib.Dec.{eqb, ltb}
use borrow.Author.Tests.{eq-eqb, ne_eqb}
use Rattle.listings.specs.Sections.{property_model, properties_of, property_index, error_number, errors_from}
use Rattle.listings.specs.declared.methods.MethodKey.{MethodKey}
use Rattle.listings.specs.Selecting.{is_above, is_less, lesser, key_of, lesser_key, least_from, method_after, method_at}
use Rattle.std.specs.Prelude.{Option, Some, None}
use Rattle.std.specs.Option.{MatchOption, IsSomeAnd, option_map, unwrap_or}
use Rattle.std.specs.List.{position_or_len, range_with_len}
use Rattle.std.proofs.lemmas.Bool.{ltb-false}
use Rattle.std.proofs.lemmas.List.FromFn.{length-range_with_len}
use Rattle.std.proofs.lemmas.List.Sums.{prefix_len-le-length}

-- a property's index: how many of the j entries passed are of its model
pub record Counted (w : List ℕ) (model index j : ℕ) : Type 0 where
  pub counts : index ≡ properties_of w model j
  pub most : index ≤ j

module _ (w : List ℕ) (model : ℕ) where
  pub counted_begin : Counted w model 0 0
  unfolding properties_of
  counted_begin = record { counts = refl; most = omega arith }

  step : (j : ℕ) (b : Bool) → eqb (property_model w j) model ≡ b → properties_of w model (j + 1) ≡ cond b 1 0 + properties_of w model j
  unfolding properties_of
  step j b e = ap (properties_of w model) (add-one j) ∙ ap (λ (t : Bool). cond t 1 0 + properties_of w model j) e

  pub counted_more : {index j other next : ℕ} → Counted w model index j → other ≡ property_model w j → other ≡ model → next ≡ index + 1
      → Counted w model next (j + 1)
  counted_more {index} {j} {other} {next} h o e n =
      let one = step j true (eq-eqb (property_model w j) model (sym o ∙ e)) in
      record { counts = omega (arith, h.counts, one, n); most = omega (arith, h.most, n) }

  pub counted_other : {index j other next : ℕ} → Counted w model index j → other ≡ property_model w j → (other ≡ model → ⊥) → next ≡ index
      → Counted w model next (j + 1)
  counted_other {index} {j} {other} {next} h o d n =
      let none = step j false (ne_eqb (property_model w j) model (λ q. d (o ∙ q))) in
      record { counts = omega (arith, h.counts, none, n); most = omega (arith, h.most, n) }

  pub counted_all : {index : ℕ} (i j : ℕ) → Counted w model index j → j ≤ i → i ≤ j → model ≡ property_model w i → index ≡ property_index w i
  counted_all {index} i j h a b e =
      let all : j ≡ i = omega (arith, a, b) in
      h.counts ∙ (λ k. properties_of w (e k) (all k))

-- the key of an entry, if there is one
abbrev pub key_if_any : List ℕ → Option ℕ → Option MethodKey
key_if_any w = option_map (key_of w)

-- the least so far, by its entry, and those to come
pub record Least (w : List ℕ) (last : Option ℕ) (n : ℕ) (least : Option MethodKey) (i : ℕ) : Type 0 where
  pub entry : Option ℕ
  pub key : least ≡ key_if_any w entry
  pub whole : least_from w last None 0 n ≡ least_from w last entry i (n - i)

module _ (w : List ℕ) where
  chosen : (x y : Bool) (least : Option ℕ) (i : ℕ) → cond x (cond y (Some (key_of w i)) (key_if_any w least)) (key_if_any w least)
      ≡ key_if_any w (cond x (cond y (Some i) least) least)
  chosen true true least i = refl
  chosen true false least i = refl
  chosen false y least i = refl

  lesser_keys : (last least : Option ℕ) (i : ℕ) → lesser_key (key_if_any w last) (key_if_any w least) (key_of w i) ≡ key_if_any w (lesser w last least i)
  lesser_keys None None i = refl
  lesser_keys None (Some k) i = chosen true (is_less w (Some k) i) (Some k) i
  lesser_keys (Some j) None i = chosen (is_above w (Some j) i) true None i
  lesser_keys (Some j) (Some k) i = chosen (is_above w (Some j) i) (is_less w (Some k) i) (Some k) i

  entry_of : (entry : Option ℕ) → option_map (λ (k : MethodKey). k.entry) (key_if_any w entry) ≡ entry
  entry_of None = refl
  entry_of (Some i) = refl

-- what `map` answers, of a closure that answers a key's entry
pub entry_mapped : (least : Option MethodKey) {r : Option ℕ} {Q : MethodKey → ℕ → Type 0} → MatchOption least (r ≡ None) (λ (m : MethodKey). IsSomeAnd r (Q m))
    → ((m : MethodKey) (x : ℕ) → Q m x → x ≡ m.entry) → r ≡ option_map (λ (k : MethodKey). k.entry) least
entry_mapped None h k = h
entry_mapped (Some m) {r} {Q = Q} h k = go r h
  where
    go : (r : Option ℕ) → IsSomeAnd r (Q m) → r ≡ Some m.entry
    go None h = absurd h
    go (Some x) h = ap Some (k m x h)

module _ (w : List ℕ) (last : Option ℕ) (n : ℕ) where
  one_more : (least : Option ℕ) (i k : ℕ) → least_from w last least i (suc k) ≡ least_from w last (lesser w last least i) (i + 1) k
  unfolding least_from
  one_more least i k = ap (λ (j : ℕ). least_from w last (lesser w last least i) j k) (omega arith)

  pub least_begin : Least w last n None 0
  least_begin = record { entry = None; key = refl; whole = ap (least_from w last None 0) (omega arith) }

  pub least_more : {listed least next : Option MethodKey} {i : ℕ} → Least w last n least i → listed ≡ key_if_any w last → i < n
      → next ≡ lesser_key listed least (key_of w i) → Least w last n next (i + 1)
  least_more {listed} {least} {next} {i} h s l e =
      let falls : n - i ≡ suc (n - (i + 1)) = omega (arith, l) in
      record {
        entry = lesser w last h.entry i;
        key = e ∙ ((λ k. lesser_key (s k) (h.key k) (key_of w i)) ∙ lesser_keys w last h.entry i);
        whole = h.whole ∙ (ap (least_from w last h.entry i) falls ∙ one_more h.entry i (n - (i + 1)));
      }

  pub least_all : {least : Option MethodKey} {i : ℕ} {r : Option ℕ} → Least w last n least i → n ≤ i → r ≡ option_map (λ (k : MethodKey). k.entry) least
      → r ≡ least_from w last None 0 n
  unfolding least_from
  least_all {least} {i} h l e =
      let none : n - i ≡ 0 = omega (arith, l) in
      e ∙ (ap (option_map (λ (k : MethodKey). k.entry)) h.key ∙ (entry_of w h.entry ∙ sym (h.whole ∙ ap (least_from w last h.entry i) none)))

-- errors up to the first without a number
abbrev pub no_number : List ℕ → ℕ → Bool
no_number w i = eqb (error_number w i) 0

one_more_lem : (n : ℕ) → 1 + n ≡ suc n
one_more_lem n = omega arith

numbered_from : (w : List ℕ) (i n : ℕ) → position_or_len (no_number w) (range_with_len i n) ≡ errors_from w i n
unfolding errors_from
numbered_from w i zero = refl
numbered_from w i (suc n) = go (no_number w i) (numbered_from w (i + 1) n ∙ ap (λ (j : ℕ). errors_from w j n) (omega arith))
  where
    go : (t : Bool) → position_or_len (no_number w) (range_with_len (i + 1) n) ≡ errors_from w (suc i) n
        → cond (not t) (1 + position_or_len (no_number w) (range_with_len (i + 1) n)) 0 ≡ cond t 0 (suc (errors_from w (suc i) n))
    go true r = refl
    go false r = one_more_lem (position_or_len (no_number w) (range_with_len (i + 1) n)) ∙ ap (λ (k : ℕ). suc k) r

pub numbered : (w : List ℕ) (n : ℕ) {r : Option ℕ} → r ≡ cond (ltb (position_or_len (no_number w) (range_with_len 0 n)) (length (range_with_len 0 n)))
    (Some (position_or_len (no_number w) (range_with_len 0 n))) None → unwrap_or r n ≡ errors_from w 0 n
numbered w n e = rw e (go (ltb place (length (range_with_len 0 n))) refl) ∙ numbered_from w 0 n
  where
    place : ℕ
    place = position_or_len (no_number w) (range_with_len 0 n)

    go : (t : Bool) → ltb place (length (range_with_len 0 n)) ≡ t → unwrap_or (cond t (Some place) None) n ≡ place
    go true h = refl
    go false h =
        let past = ltb-false place (length (range_with_len 0 n)) h in
        let within = prefix_len-le-length (λ (i : ℕ). not (no_number w i)) (range_with_len 0 n) in
        let long = length-range_with_len 0 n in
        omega (arith, past, within, long)

-- the method at a place of the section
pub method_first : (w : List ℕ) (n : ℕ) {m : Option ℕ} → m ≡ least_from w None None 0 n → m ≡ method_at w n 0
unfolding method_at
method_first w n e = e

pub method_next : (w : List ℕ) (n k : ℕ) {m next : Option ℕ} → m ≡ method_at w n k → next ≡ method_after w n m → next ≡ method_at w n (k + 1)
unfolding method_at
method_next w n k {m} {next} e h =
    let one : suc k ≡ k + 1 = omega arith in
    h ∙ (ap (method_after w n) e ∙ ap (method_at w n) one)
