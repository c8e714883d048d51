-- Lines as text (01: 'Lines have widths 4, six of 8, and 21, right-justified'), and what lines one after the other make of a buffer
use Rattle.std.specs.Prelude.{ℕ, Bool, true, false, ◌&&◌, List, [], ◌∷◌, ◌++◌}
use Rattle.column_lines.specs.Numeral.{numeral_fits}
use Rattle.line_writer.specs.Placed.{Placed}
use Rattle.line_writer.specs.Written.{section_width, field_width, last_width, line_at, line_behind}
use Rattle.line_writer.specs.declared.writer.Fields.{Fields}

-- a line's bytes
unfoldable pub line_bytes : Fields → List ℕ
line_bytes l = line_behind [] l

abbrev field_fits : ℕ → Bool
field_fits word = numeral_fits field_width false word

-- no number of the line is wider than its field
unfoldable pub line_fits : Fields → Bool
line_fits l =
    numeral_fits section_width false l.section && (field_fits l.first && (field_fits l.second && (field_fits l.third && (field_fits l.fourth
    && (field_fits l.fifth && (field_fits l.sixth && numeral_fits last_width l.signed l.last))))))

unfoldable pub text_of : List Fields → List ℕ
text_of [] = []
text_of (l ∷ ls) = line_bytes l ++ text_of ls

unfoldable pub all_fit : List Fields → Bool
all_fit [] = true
all_fit (l ∷ ls) = line_fits l && all_fit ls

-- lines written one after the other, from a place on
unfoldable pub lines_at : List Fields → Placed → Placed
lines_at [] m = m
lines_at (l ∷ ls) m = lines_at ls (line_at l m)
