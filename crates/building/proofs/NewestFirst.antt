-- The search for a name among the entries of area 9, turn by turn: what is left to search answers what was asked. Assumes nothing.
use Rattle.std.proofs.Common.{◌≡◌, ℕ, suc, ◌+◌, ◌-◌, ◌*◌, ◌/◌, ◌%◌, ◌<◌, ◌≤◌, cond, eqb, List, length, get_or, sym, ap, ◌∙◌, arith, eq-eqb, ne_eqb, le-leb}
use mathlib.Core.Option.{Option, none, some}
use borrow.Author.Tests.{lt-leb}
use Rattle.words.specs.Areas.{entry_field}
use Rattle.words.proofs.Entries.{field_in}
use Rattle.building.specs.Found.{found_of, narrow_of, find_newest, find_narrow}
use Rattle.building.specs.declared.scopes.Narrow.{Narrow}
use Rattle.building.specs.declared.scopes.Narrow.TheVariants as narrow
use Rattle.std.specs.Prelude.{Some, None}

-- `all` is what was asked, and the entries from `from` up to i are left to search
module _ (all : Option ℕ) (from i name : ℕ) (w : List ℕ) (so_far : all ≡ find_newest (i - from) from name w) where
  ends : i ≤ from → all ≡ none
  unfolding find_newest
  ends h = let e : i - from ≡ 0 = omega arith in rw (so_far, e)

  pub newest_none : i ≤ from → None ≡ found_of all
  newest_none h = rw (ends h)

  pub narrow_none : i ≤ from → narrow.Nothing ≡ narrow_of all
  narrow_none h = rw (ends h)

  step : from < i → all ≡ cond (eqb (entry_field 2 (i - 1) 0 w) name) (some (entry_field 2 (i - 1) 1 w)) (find_newest (i - 1 - from) from name w)
  unfolding find_newest
  step h =
      let e : i - from ≡ suc (i - 1 - from) = omega arith in
      let a : from + (i - 1 - from) ≡ i - 1 = omega arith in
      so_far ∙ rw (e, a)

  hits : (other local : ℕ) → from < i → other ≡ entry_field 2 (i - 1) 0 w → other ≡ name → local ≡ entry_field 2 (i - 1) 1 w → all ≡ some local
  hits other local h o e l = rw (step h, eq-eqb (entry_field 2 (i - 1) 0 w) name (sym o ∙ e), l)

  pub newest_here : (other local : ℕ) → from < i → other ≡ entry_field 2 (i - 1) 0 w → other ≡ name → local ≡ entry_field 2 (i - 1) 1 w
      → Some local ≡ found_of all
  newest_here other local h o e l = rw (hits other local h o e l)

  -- of 32 bits, and past them
  pub narrow_here : (other local : ℕ) → from < i → other ≡ entry_field 2 (i - 1) 0 w → other ≡ name → local ≡ entry_field 2 (i - 1) 1 w
      → local ≤ 4294967295 → narrow.At local ≡ narrow_of all
  narrow_here other local h o e l q = rw (hits other local h o e l, le-leb local 4294967295 q)

  pub narrow_wide : (other local : ℕ) → from < i → other ≡ entry_field 2 (i - 1) 0 w → other ≡ name → local ≡ entry_field 2 (i - 1) 1 w
      → 4294967295 < local → narrow.Wide ≡ narrow_of all
  narrow_wide other local h o e l q = rw (hits other local h o e l, lt-leb local 4294967295 q)

  pub newest_next : (other : ℕ) → from < i → other ≡ entry_field 2 (i - 1) 0 w → (other ≡ name → ⊥) → all ≡ find_newest (i - 1 - from) from name w
  newest_next other h o e = step h ∙ rw (ne_eqb (entry_field 2 (i - 1) 0 w) name (λ q. e (o ∙ q)))

pub ruleset newest_steps = (newest_none, newest_here, newest_next)

-- the search of 32 bits: beyond the area it does not look

pub narrow_beyond : (from end name : ℕ) (w : List ℕ) → length w / 2 < end → narrow.Beyond ≡ find_narrow from end name w
narrow_beyond from end name w h = rw (lt-leb end (length w / 2) h)

pub narrow_inside : (from end name : ℕ) (w : List ℕ) (r : Narrow) → end ≤ length w / 2 → r ≡ narrow_of (find_newest (end - from) from name w)
    → r ≡ find_narrow from end name w
narrow_inside from end name w r h e = e ∙ rw (le-leb end (length w / 2) h)

-- a search that counts words: the entry that ends at word `at`

pub ends_at : (all : Option ℕ) (from end name : ℕ) (w : List ℕ) → all ≡ find_newest (end - from) from name w
    → all ≡ find_newest (end * 2 / 2 - from) from name w
ends_at all from end name w e = let h : end * 2 / 2 ≡ end = omega arith in rw h e

pub word_in_lem : (w : List ℕ) (at word : ℕ) → at % 2 ≡ 0 → 2 ≤ at → at ≤ length w → word < 2 → get_or w (at - 2 + word) 0 ≡ entry_field 2 (at / 2 - 1) word w
word_in_lem w at word even two inside small =
    let i : at - 2 + word ≡ (at / 2 - 1) * 2 + word = omega arith in
    ap (λ (j : ℕ). get_or w j 0) i ∙ field_in w 2 (at / 2 - 1) word (omega arith) (omega arith)

pub next_at : (all : Option ℕ) (from at name : ℕ) (w : List ℕ) → at % 2 ≡ 0 → 2 ≤ at → all ≡ find_newest (at / 2 - 1 - from) from name w
    → all ≡ find_newest ((at - 2) / 2 - from) from name w
next_at all from at name w even two e = let h : (at - 2) / 2 ≡ at / 2 - 1 = omega arith in rw h e
