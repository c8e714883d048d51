-- A position in range needs at most 8 digits a half (2026-06: 'each at most 99,999,999 so that the listing's columns hold'), so no line of the listing is
-- refused for its position: it fits where it would fit with position 0. Assumes nothing.
use Prim.Native.Nat.{ℕ}
use native.Mathlib.Omega.{arith}
use mathlib.Core.Path.{◌≡◌}
use mathlib.Core.Bool.{Bool, true, false}
use Rattle.words.specs.Opcode.{Instruction}
use Rattle.words.specs.Record.{line_of, column_of, in_place}
use Rattle.words.proofs.Positions.{in_place_lem}
use Rattle.column_lines.specs.Numeral.{numeral_fits}
use Rattle.column_lines.proofs.Again.{natural_fits}
use Rattle.line_writer.specs.Written.{field_width}
use Rattle.listings.specs.Lines.{line_fits}
use Rattle.listings.specs.Sections.{line, instruction_fields}

pub place_fits : (p : ℕ) → in_place p ≡ true → (numeral_fits field_width false (line_of p) ≡ true) × (numeral_fits field_width false (column_of p) ≡ true)
place_fits p h =
    let x = in_place_lem p h in
    (natural_fits field_width (line_of p) (omega arith) (omega (arith, x.0)), natural_fits field_width (column_of p) (omega arith) (omega (arith, x.1)))

pub position_free : (section a b p e f last : ℕ) (signed : Bool) → in_place p ≡ true
    → line_fits (line section a b (line_of p) (column_of p) e f last signed) ≡ line_fits (line section a b 0 0 e f last signed)
unfolding line_fits
position_free section a b p e f last signed h =
    let x = place_fits p h in
    let z : numeral_fits field_width false 0 ≡ true = natural_fits field_width 0 (omega arith) (omega arith) in
    simp (x.0, x.1, z)

-- sections 3 and 11, which have a position
pub instruction_fits : (function i p : ℕ) (x : Instruction) → in_place p ≡ true
    → line_fits (instruction_fields function i p x) ≡ line_fits (instruction_fields function i 0 x)
instruction_fits function i p x h = position_free 3 function i p x.opcode 0 x.operand false h

pub error_fits : (i number p kind value : ℕ) (signed : Bool) → in_place p ≡ true
    → line_fits (line 11 i number (line_of p) (column_of p) kind 0 value signed) ≡ line_fits (line 11 i number 0 0 kind 0 value signed)
error_fits i number p kind value signed h = position_free 11 i number p kind 0 value signed h
