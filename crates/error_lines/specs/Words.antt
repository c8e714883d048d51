-- The answer of the call (2026-10: 'Checks: row 3, its index, for the first error ..; then row 9, place 13, for a short line buffer, all zero after
-- either'): the reply and the whole line buffer
use Rattle.std.specs.Prelude.{ℕ, ◌+◌, ◌-◌, ◌<◌, cond, List, [], ◌∷◌, ◌++◌, length, take, get_or, replicate, leb}
use Rattle.std.specs.Prelude.{Option, Some, None}
use Rattle.column_files.specs.Convert.{Conversion, refuse, success}
use Rattle.definition.specs.Compiler.{Error}
use Rattle.error_lines.specs.Known.{known}
use Rattle.error_lines.specs.Lines.{errors_in, lines_of}

-- the place that row 9 gives for the line buffer: it comes after the twelve areas
abbrev pub line_buffer : ℕ
line_buffer = 13

-- the index of the first error that is not known, counted from i
unfoldable pub first_unknown : ℕ → List Error → Option ℕ
first_unknown i [] = None
first_unknown i (e ∷ es) = cond (known e) (first_unknown (i + 1) es) (Some i)

-- lines in a buffer of `room` bytes: zeros after them, and how many bytes; or row 9, and zeros
unfoldable pub delivered : List ℕ → ℕ → Conversion
delivered lines room =
    cond (leb (length lines) room) (record { reply = success (length lines); output = lines ++ replicate (room - length lines) 0 })
    (refuse 9 line_buffer room)

abbrev pub in_words_by : Option ℕ → List ℕ → ℕ → Conversion
in_words_by (Some i) lines room = refuse 3 i room
in_words_by None lines room = delivered lines room

unfoldable pub in_words : List ℕ → ℕ → List ℕ → List ℕ → ℕ → Conversion
in_words errors file table bytes room =
    in_words_by (first_unknown 0 (errors_in errors)) (lines_of table bytes file (errors_in errors)) room

-- the bytes that a call has delivered
abbrev pub written : Conversion → List ℕ
written c = take c.reply.total c.output

-- the elements of a lent slice are numbers below a bound
abbrev pub AllBelow : ℕ → List ℕ → Type 0
AllBelow bound l = (j : ℕ) → get_or l j 0 < bound
