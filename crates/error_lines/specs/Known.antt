-- Which errors 01 knows (2026-10: 'row 3, its index, for the first error whose number, position or token 01 does not know (known tokens: any record's
-- kind and value; error 11 has zeros and a text)'). Number, position and token are judged each by itself
use Rattle.std.specs.Prelude.{ℕ, Bool, false, cond, not, ◌&&◌, ◌||◌, List, [], ◌∷◌, eqb, leb}
use Rattle.words.specs.Record.{most_text, in_place}
use Rattle.tree.specs.Rules.{Slot, slots, has, in_range}
use Rattle.definition.specs.Compiler.{Error}

-- 01, 'Errors': '11 ring' is the last, and the only one without a token
abbrev pub ring : ℕ
ring = 11

abbrev pub is_ring : Error → Bool
is_ring e = eqb e.number ring

-- a record's kind: one that may stand at some place of a tree
unfoldable pub stands_in : ℕ → List Slot → Bool
stands_in k [] = false
stands_in k (s ∷ ss) = has k s.kinds || stands_in k ss

unfoldable pub is_kind : ℕ → Bool
is_kind k = stands_in k slots

-- 'any record's kind and value': the value is in the range of its kind
unfoldable pub known_token : ℕ → ℕ → Bool
known_token k v = is_kind k && in_range k 0 v

-- 01: 'Texts, file names included, are numbers 1 to 1,048,575'
abbrev pub is_text : ℕ → Bool
is_text n = leb 1 n && leb n most_text

-- the kinds whose value is a text: texts are numbered from 1, and the value of any other kind may be 0
unfoldable pub holds_text : ℕ → Bool
holds_text k = not (in_range k 0 0)

-- 'error 11 has zeros and a text'
abbrev pub known_ring : Error → Bool
known_ring e = eqb e.token.position 0 && (eqb e.token.kind 0 && is_text e.token.value)

-- errors 1 to 10; a position whose line and column are in range, each by itself
abbrev pub known_other : Error → Bool
known_other e = leb 1 e.number && (leb e.number 10 && (in_place e.token.position && known_token e.token.kind e.token.value))

unfoldable pub known : Error → Bool
known e = cond (is_ring e) (known_ring e) (known_other e)
