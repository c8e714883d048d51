-- An entry more of an area: with the mark set nothing changes; where there is room the entry is written behind those in use; else the mark is the
-- area's number (01, row 9; docs/DECISIONS.md)
use Rattle.std.specs.Prelude.{◌≡◌, ℕ, ◌+◌, ◌-◌, ◌*◌, min, Bool, cond, List, length, replicate, ◌==◌, nat_le, nat_lt}
use Rattle.std.proofs.lemmas.List.Edits.{sets}
use Rattle.words.specs.Areas.{entries_in, set_entry, most_width}
use Rattle.building.specs.declared.taking.Taken.{Taken}

-- `Taken`: the mark and the count
abbrev pub taken : ℕ → ℕ → Taken
taken full count = record { full = full; count = count }

-- whether there is room for one more at a width, in an area of n words
abbrev pub has_room : ℕ → ℕ → ℕ → Bool
has_room width count n = nat_lt count (entries_in width n)

-- the mark and the count after it, in an area of n words
abbrev pub taken_of : ℕ → ℕ → ℕ → ℕ → ℕ → Taken
taken_of area width full count n = cond (full == 0) (cond (has_room width count n) (taken full (count + 1)) (taken area count)) (taken full count)

-- the area after it
abbrev pub took_words : ℕ → ℕ → List ℕ → List ℕ → List ℕ
took_words full count entry w =
    cond (full == 0) (cond (has_room (length entry) count (length w)) (set_entry (length entry) count entry w) w) w

-- `take`: the mark, the count and the area that it leaves
pub record Took (area full count : ℕ) (entry w : List ℕ) (r : Taken) (after : List ℕ) : Type 0 where
  pub reply : r ≡ taken_of area (length entry) full count (length w)
  pub words : after ≡ took_words full count entry w

-- where entry i starts in an area of n words, or the area's end where that comes first; at a width that no area has, 0
abbrev pub start_of : ℕ → ℕ → ℕ → ℕ
start_of width i n = cond (nat_le width most_width) (min (i * width) n) 0

-- words from place a up to b zero, those that there are
abbrev pub zeroed : ℕ → ℕ → List ℕ → List ℕ
zeroed a b w = sets w a (replicate (b - a) 0)

-- entries given up, from entry i on up to the count: zeros in their place; nothing at a width that no area has
abbrev pub given_up : ℕ → ℕ → ℕ → List ℕ → List ℕ
given_up width i count w = cond (nat_le width most_width) (zeroed (i * width) (count * width) w) w
