-- A column file and its records, line by line (01, 'Column file': 'a record a line')
use Rattle.std.specs.Prelude.{ℕ, zero, suc, ◌+◌, ◌*◌, ◌/◌, ◌≡◌, cond, List, [], ◌∷◌, ◌++◌, length, take, drop, get_or, eqb, Option, Some, None, Result, Ok}
use Rattle.column_lines.specs.Form.{line_length}
use Rattle.column_lines.specs.Line.{read_line, record_line}
use Rattle.words.specs.declared.node.Record.{Record}
use Rattle.words.specs.declared.row.Row.TheVariants.{BadLine}
use Rattle.words.specs.declared.row.Refused.{Refused}
use Rattle.tree.specs.Check.{refused}

-- how many whole lines a file has; a rest of one does not count
abbrev pub lines_in : List ℕ → ℕ
lines_in file = length file / line_length

-- line i of a file, read; none where the file has none
abbrev pub line_in : ℕ → List ℕ → Option Record
line_in i file = read_line (take line_length (drop (i * line_length) file))

-- the words of a line; of a bad one, zeros
abbrev pub words_in : Option Record → List ℕ
words_in (Some r) = r.kind ∷ r.span ∷ r.position ∷ r.value ∷ []
words_in None = 0 ∷ 0 ∷ 0 ∷ 0 ∷ []

-- word k of a line's record; 0 outside
unfoldable pub word_in : Option Record → ℕ → ℕ
word_in line k = get_or (words_in line) k 0

-- the words that the first n lines of a file spell
unfoldable pub words_by : ℕ → List ℕ → List ℕ
words_by zero file = []
words_by (suc n) file = words_in (read_line (take line_length file)) ++ words_by n (drop line_length file)

abbrev pub words_of : List ℕ → List ℕ
words_of file = words_by (lines_in file) file

-- `next` after a line of its form, else its number
abbrev pub good_then : Option Record → ℕ → ℕ → ℕ
good_then (Some r) line next = next
good_then None line next = line

-- row 1: 'first line off its form; line, from 1', or 0. Before the file are `line - 1` lines, it has n whole lines, and a rest of one is a bad line
unfoldable pub bad_by : ℕ → ℕ → List ℕ → ℕ
bad_by zero line file = cond (eqb (length file) 0) 0 line
bad_by (suc n) line file = good_then (read_line (take line_length file)) line (bad_by n (line + 1) (drop line_length file))

abbrev pub first_bad : List ℕ → ℕ
first_bad file = bad_by (lines_in file) 1 file

abbrev pub row_one : List ℕ → Result (Unit {0}) Refused
row_one file = cond (eqb (first_bad file) 0) (Ok tt) (refused BadLine (first_bad file))

-- the lines of the first n records of some words
unfoldable pub lines_by : ℕ → List ℕ → List ℕ
lines_by zero words = []
lines_by (suc n) words = record_line (get_or words 0 0) (get_or words 1 0) (get_or words 2 0) (get_or words 3 0) ++ lines_by n (drop 4 words)

abbrev pub columns_of : List ℕ → List ℕ
columns_of words = lines_by (length words / 4) words

-- what a write of a part from a place to an end leaves
pub record Lent (part : List ℕ) (at end : ℕ) (before after : List ℕ) : Type 0 where
  pub is : after ≡ take at before ++ (part ++ drop end before)

-- what reading a file's lines to words leaves: row 1, and where no line is bad the words, with the rest as it was
pub record LinesRead (file before after : List ℕ) (r : Result (Unit {0}) Refused) : Type 0 where
  pub first : r ≡ row_one file
  pub words : r ≡ Ok tt → after ≡ words_of file ++ drop (lines_in file * 4) before
