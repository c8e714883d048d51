-- Rows 2, 3 and 4 of 01: one pass over the records, in their order (docs/DECISIONS.md, 1). At one record row 3 comes first, then row 4
use Rattle.std.specs.Prelude.{ℕ, zero, suc, ◌+◌, ◌-◌, ◌/◌, ◌%◌, Bool, true, false, cond, not, ◌&&◌, ◌||◌, List, length, eqb, leb, ltb, Result, Ok, Err}
use Rattle.words.specs.Record.{kind_at, span_at, position_at, value_at, most_records, most_levels}
use Rattle.words.specs.declared.row.Row.{Row}
use Rattle.words.specs.declared.row.Row.TheVariants.{BadLength, BadShape, TooDeep}
use Rattle.words.specs.declared.row.Refused.{Refused}
use Rattle.tree.specs.Rules.{may_stand, slot_after, is_due, first_slot, in_range}

-- refused by a row of 01 at a place
abbrev pub refused : {A : Type 0} → Row → ℕ → Result A Refused
refused row place = Err (record { row = row; place = place })

-- 'its span is 0 or passes its parent's end (the last record for a document)' does not hold: record i with span s, where e is that end
unfoldable pub within_of : ℕ → ℕ → ℕ → Bool
within_of i s e = not (eqb s 0) && leb (i + s) e

-- `by n` where a test holds, else `other`. (`cond` would compute both)
abbrev pub only_if : {A : Type 0} → Bool → A → (ℕ → A) → ℕ → A
only_if true other by n = by n
only_if false other by n = other

-- 'its children, span after span, fill it exactly while another is due': the children from j to e, from slot s on. A span of 0 or past the end
-- stops the hop, a kind that may not stand there does not (docs/DECISIONS.md, 1). The fuel e - j is enough
unfoldable pub lacks_by : ℕ → List ℕ → ℕ → ℕ → ℕ → Bool
lacks_by zero w s j e = is_due s
lacks_by (suc n) w s j e =
    only_if (ltb j e) (is_due s) (only_if (within_of j (span_at w j) e) false (λ i. lacks_by n w (slot_after s (kind_at w i)) (i + span_at w i) e)) j

abbrev pub lacks_of : List ℕ → ℕ → ℕ → ℕ → Bool
lacks_of w s j e = lacks_by (e - j) w s j e

-- '41 .. one number in the whole bundle; a record with another breaks these rules'. t is the number met so far, 0 if there was none (docs/DECISIONS.md, 3)
unfoldable pub same_this : ℕ → ℕ → ℕ → Bool
same_this k v t = not (eqb k 41) || (eqb t 0 || eqb t v)

unfoldable pub this_after : ℕ → ℕ → ℕ → ℕ
this_after k v t = cond (eqb k 41) v t

-- row 3 at the record i, at slot s: 'a record breaks these rules if ..', the whole sentence
unfoldable pub sound_at : List ℕ → ℕ → ℕ → ℕ → ℕ → Bool
sound_at w s t i e =
    may_stand s (kind_at w i) && (within_of i (span_at w i) e && (in_range (kind_at w i) (position_at w i) (value_at w i)
    && (same_this (kind_at w i) (value_at w i) t && not (lacks_of w (first_slot (kind_at w i)) (i + 1) (i + span_at w i)))))

-- a record by itself, at its level: row 3, then row 4; else the number of 41 met with it
unfoldable pub head_at : List ℕ → ℕ → ℕ → ℕ → ℕ → ℕ → Result ℕ Refused
head_at w s l t i e =
    cond (sound_at w s t i e) (cond (leb l most_levels) (Ok (this_after (kind_at w i) (value_at w i) t)) (refused TooDeep i))
    (refused BadShape i)

abbrev pub then_on : Result ℕ Refused → (ℕ → Result ℕ Refused) → Result ℕ Refused
then_on (Ok t) f = f t
then_on (Err found) f = Err found

-- the records from i to e, the children of one record from slot s on, at level l: a record, then its children, then those after it. The fuel
-- e - i is enough
unfoldable pub walk_by : ℕ → List ℕ → ℕ → ℕ → ℕ → ℕ → ℕ → Result ℕ Refused
walk_by zero w s l t i e = Ok t
walk_by (suc n) w s l t i e =
    only_if (ltb i e) (Ok t) (λ t₀. then_on (head_at w s l t₀ i e) (λ t₁.
    then_on (walk_by n w (first_slot (kind_at w i)) (l + 1) t₁ (i + 1) (i + span_at w i)) (λ t₂.
    walk_by n w (slot_after s (kind_at w i)) l t₂ (i + span_at w i) e))) t

abbrev pub walk_of : List ℕ → ℕ → ℕ → ℕ → ℕ → ℕ → Result ℕ Refused
walk_of w s l t i e = walk_by (e - i) w s l t i e

abbrev pub shape_by : Result ℕ Refused → Result (Unit {0}) Refused
shape_by (Ok t) = Ok tt
shape_by (Err found) = Err found

-- how many records the words are
abbrev pub records_of : List ℕ → ℕ
records_of w = length w / 4

-- row 2, 'words not a multiple of 4, or over 1,048,576 records; 0'; row 3, '0 for no records'; then the documents, at slot 1 and level 1
unfoldable pub shape_of : List ℕ → Result (Unit {0}) Refused
shape_of w =
    cond (not (eqb (length w % 4) 0) || ltb most_records (records_of w)) (refused BadLength 0)
    (only_if (not (eqb (records_of w) 0)) (refused BadShape 0) (λ n. shape_by (walk_of w 1 1 0 0 n)) (records_of w))
