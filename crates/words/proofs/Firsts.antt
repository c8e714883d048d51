-- The searches that go from an entry on, the first first: what a turn of their loops makes of `first_from`, and what entries that are passed over make of
-- it. By induction over the entries. Assumes nothing.
use Rattle.std.proofs.Common.{◌≡◌, ℕ, zero, suc, ◌+◌, ◌-◌, ◌<◌, ◌≤◌, Bool, true, false, cond, List, refl, sym, ap, ◌∙◌, subst, arith, ne_eqb}
use mathlib.Core.Option.{none, some}
use Rattle.std.specs.Prelude.{Some, None}
use Rattle.words.specs.Areas.{entry_field}
use Rattle.words.specs.Search.{Passes, found_of, first_from, has_word, find_word}
use Rattle.words.proofs.Entries.{field_in}

pub first_start : (test : ℕ → Bool) (n : ℕ) → first_from test (n - 0) 0 ≡ first_from test n 0
first_start test n = let all : n - 0 ≡ n = omega arith in rw all

-- the loop at entry i of those before entry n, whose search began with k entries from entry s on
module _ (test : ℕ → Bool) (n i k s : ℕ) where
  pub first_here : i < n → test i ≡ true → first_from test (n - i) i ≡ first_from test k s → Some i ≡ found_of (first_from test k s)
  unfolding first_from
  first_here h t e =
      let more : n - i ≡ suc (n - suc i) = omega arith in
      let here : first_from test (n - i) i ≡ some i = rw (more, t) in
      ap found_of (sym here ∙ e)

  pub first_next : i < n → test i ≡ false → first_from test (n - i) i ≡ first_from test k s → first_from test (n - (i + 1)) (i + 1) ≡ first_from test k s
  unfolding first_from
  first_next h t e =
      let more : n - i ≡ suc (n - (i + 1)) = omega arith in
      let past : first_from test (n - i) i ≡ first_from test (n - (i + 1)) (i + 1) = rw (more, t) in
      sym past ∙ e

  pub first_end : n ≤ i → first_from test (n - i) i ≡ first_from test k s → None ≡ found_of (first_from test k s)
  unfolding first_from
  first_end h e =
      let done : n - i ≡ 0 = omega arith in
      let end : first_from test (n - i) i ≡ none = rw done in
      ap found_of (sym end ∙ e)

pub ruleset first_steps = (first_here, first_next, first_end)

-- a search of k entries from entry s on, of those before entry n, goes on behind entries that its test does not take
pub first_passed : (test : ℕ → Bool) (n i k s d : ℕ) → i + d ≤ n → ((j : ℕ) → i ≤ j → j < i + d → test j ≡ false)
    → first_from test (n - i) i ≡ first_from test k s → first_from test (n - (i + d)) (i + d) ≡ first_from test k s
first_passed test n i k s zero h f e = subst (λ (j : ℕ). first_from test (n - j) j ≡ first_from test k s) (omega arith) e
first_passed test n i k s (suc d) h f e =
    subst (λ (j : ℕ). first_from test (n - j) j ≡ first_from test k s) (omega arith)
    (first_passed test n (i + 1) k s d (omega arith) (λ j a b. f j (omega arith) (omega arith))
    (first_next test n i k s (omega arith) (f i (omega arith) (omega arith)) e))

-- `find_word` behind the entries that `pass` goes over
pub word_passed : (w : List ℕ) (width word value from end : ℕ) {r : ℕ} → width ≤ 8 → word < width → Passes w width word value from end r
    → first_from (has_word width word value w) (end - r) r ≡ find_word width word value from end w
word_passed w width word value from end {r} h l p =
    let on = p.on in
    let last = p.last in
    let there : from + (r - from) ≡ r = omega arith in
    subst (λ (j : ℕ). first_from (has_word width word value w) (end - j) j ≡ find_word width word value from end w) there
    (first_passed (has_word width word value w) end from (end - from) from (r - from) (omega arith)
    (λ j a b. ne_eqb (entry_field width j word w) value (λ q. p.others j a (omega arith) (field_in w width j word h l ∙ q))) refl)

-- a search by a test that takes all that another takes: what the other finds from an entry on it finds from there on
pub record Reached (test other : ℕ → Bool) (n i r : ℕ) : Type 0 where
  pub on : i ≤ r
  pub last : r < n
  pub taken : test r ≡ true
  pub same : first_from other (n - i) i ≡ first_from other (n - r) r

module _ (test other : ℕ → Bool) (inner : (j : ℕ) → test j ≡ false → other j ≡ false) where
  pub reached : (n i k : ℕ) → k ≡ n - i → {r : ℕ} → Some r ≡ found_of (first_from test k i) → Reached test other n i r
  unfolding first_from
  reached n i zero l e = absurd (let z : ◌≡◌ {A = ℕ} 0 1 = cc in omega arith)
  reached n i (suc k) l {r} e = go (test i) refl (reached n (i + 1) k (omega arith)) e
    where
      go : (b : Bool) → test i ≡ b → (Some r ≡ found_of (first_from test k (i + 1)) → Reached test other n (i + 1) r)
          → Some r ≡ found_of (cond b (some i) (first_from test k (i + 1))) → Reached test other n i r
      go true t later e =
          let here : i ≡ r = cc in
          record { on = omega (arith, here); last = omega (arith, here); taken = sym (ap test here) ∙ t; same = rw here }
      go false t later e =
          let p = later e in
          let more : n - i ≡ suc (n - (i + 1)) = omega arith in
          let past : first_from other (n - i) i ≡ first_from other (n - (i + 1)) (i + 1) = rw (more, inner i t) in
          record { on = omega (arith, p.on); last = p.last; taken = p.taken; same = past ∙ p.same }

  pub none_reached : (i k : ℕ) → None ≡ found_of (first_from test k i) → first_from other k i ≡ none
  unfolding first_from
  none_reached i zero e = refl
  none_reached i (suc k) e = go (test i) refl (none_reached (i + 1) k) e
    where
      go : (b : Bool) → test i ≡ b → (None ≡ found_of (first_from test k (i + 1)) → first_from other k (i + 1) ≡ none)
          → None ≡ found_of (cond b (some i) (first_from test k (i + 1))) → cond (other i) (some i) (first_from other k (i + 1)) ≡ none
      go true t later e = absurd (let z : ◌≡◌ {A = ℕ} 0 1 = cc in omega arith)
      go false t later e = rw (inner i t) (later e)
