-- The list of errors in an area, and the line of each (2026-10: 'message, file (the caller's number, for error 11 its own), line, column, token kind and
-- token value (0 and 0 for error 11), a comma and a blank between, a newline after, numbers plain, those of kind 33 signed')
use Rattle.std.specs.Prelude.{ℕ, zero, suc, ◌+◌, ◌/◌, Bool, false, cond, ◌&&◌, List, [], ◌∷◌, ◌++◌, length, eqb}
use Rattle.words.specs.Areas.{entry_word}
use Rattle.words.specs.Record.{line_of, column_of}
use Rattle.column_lines.specs.Form.{newline, signed_kind}
use Rattle.definition.specs.Compiler.{Error}
use Rattle.error_lines.specs.Known.{is_ring, holds_text}
use Rattle.error_lines.specs.Messages.{message}
use Rattle.error_lines.specs.Texts.{plain, text_field}

-- an entry of area 11: number, position, token kind, token value
abbrev pub error_at : List ℕ → ℕ → Error
error_at area i = record {
  number = entry_word 4 i 0 area;
  token = record { position = entry_word 4 i 1 area; kind = entry_word 4 i 2 area; value = entry_word 4 i 3 area };
}

abbrev pub is_zeros : Error → Bool
is_zeros e = eqb e.number 0 && (eqb e.token.position 0 && (eqb e.token.kind 0 && eqb e.token.value 0))

-- 'The list ends at its first entry of zeros', or with the area's last entry: n entries from entry i on
unfoldable pub errors_from : List ℕ → ℕ → ℕ → List Error
errors_from area i zero = []
errors_from area i (suc n) = cond (is_zeros (error_at area i)) [] (error_at area i ∷ errors_from area (i + 1) n)

unfoldable pub errors_in : List ℕ → List Error
errors_in area = errors_from area 0 (length area / 4)

-- 'a comma and a blank between'
abbrev pub between : List ℕ
between = 44 ∷ 32 ∷ []

-- 'the caller's number, for error 11 its own'
abbrev pub file_of : ℕ → Error → ℕ
file_of file e = cond (is_ring e) e.token.value file

-- 'token value (.. 0 for error 11)'
abbrev pub shown_value : Error → ℕ
shown_value e = cond (is_ring e) 0 e.token.value

-- a token's value by its kind: a text or a number, 'those of kind 33 signed'
unfoldable pub value_field : List ℕ → List ℕ → ℕ → ℕ → List ℕ
value_field table bytes kind value = cond (holds_text kind) (text_field table bytes value) (plain (eqb kind signed_kind) value)

unfoldable pub error_line : List ℕ → List ℕ → ℕ → Error → List ℕ
error_line table bytes file e =
    message e.number ++ (between ++ (text_field table bytes (file_of file e) ++ (between ++ (plain false (line_of e.token.position)
    ++ (between ++ (plain false (column_of e.token.position) ++ (between ++ (plain false e.token.kind
    ++ (between ++ (value_field table bytes e.token.kind (shown_value e) ++ (newline ∷ [])))))))))))

unfoldable pub lines_of : List ℕ → List ℕ → ℕ → List Error → List ℕ
lines_of table bytes file [] = []
lines_of table bytes file (e ∷ es) = error_line table bytes file e ++ lines_of table bytes file es
