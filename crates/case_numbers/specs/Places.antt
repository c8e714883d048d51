-- The place of a byte in a text
use Rattle.std.specs.Prelude.{ℕ, suc, ◌+◌, min, Bool, true, false, List, [], ◌∷◌, length, drop, eqb}

-- a place of the rest, unless the byte is here
abbrev pub place_or : Bool → ℕ → ℕ
place_or true rest = 0
place_or false rest = suc rest

-- the first place of a byte; the length where it is nowhere
unfoldable pub first_place : ℕ → List ℕ → ℕ
first_place byte [] = 0
first_place byte (b ∷ bs) = place_or (eqb b byte) (first_place byte bs)

-- the first place from a place on; the text's end where it is nowhere
abbrev pub place_from : ℕ → ℕ → List ℕ → ℕ
place_from byte from text = min (from + first_place byte (drop from text)) (length text)
