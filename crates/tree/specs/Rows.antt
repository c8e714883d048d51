-- The structs in which the code holds the rows of the tables in `Rules`. That they say the same is proved, proofs/Tables.antt
-- Private contracts alone cite this file: whoever reads the promises need not believe it
use Rattle.std.specs.Prelude.{ℕ, ◌+◌, ◌/◌, ◌%◌, ◌^◌, Bool, cond, ◌&&◌, List, [], ◌∷◌, eqb, leb, ltb}
use Rattle.tree.specs.Rules.{Slot, Rule, may_be_at, text, anything}
use Rattle.tree.specs.declared.SlotRule.{SlotRule}
use Rattle.tree.specs.declared.KindRule.{KindRule}
use Rattle.tree.specs.declared.Values.{Values}
use Rattle.tree.specs.declared.Values.TheVariants.{Text, Word, UpTo}

-- a slot: a bit for each of its kinds, which are below 50
abbrev pub bits : List ℕ → ℕ
bits [] = 0
bits (k ∷ ks) = 2 ^ k + bits ks

abbrev pub slot_row : Slot → SlotRule
slot_row s = record { kinds = bits s.kinds; next = s.next; due = s.due }

-- a rule: its value is a text or any word, else there is a greatest value
abbrev pub value_row : ℕ → Values
value_row most = cond (eqb most text) Text (cond (eqb most anything) Word (UpTo most))

abbrev pub rule_row : Rule → KindRule
rule_row r = record { first = r.first; placed = r.position; values = value_row r.most }

-- the least and the greatest value
abbrev pub least_in : Values → ℕ
least_in Text = 1
least_in Word = 0
least_in (UpTo most) = 0

abbrev pub most_in : Values → ℕ
most_in Text = text
most_in Word = anything
most_in (UpTo most) = most

-- whether a slot has a kind, and whether a position and a value are in the range of a rule
unfoldable pub holds_in : ℕ → ℕ → Bool
holds_in kinds k = ltb k 50 && eqb (kinds / 2 ^ k % 2) 1

unfoldable pub range_in : KindRule → ℕ → ℕ → Bool
range_in r p v = may_be_at r.placed p && (leb (least_in r.values) v && leb v (most_in r.values))
