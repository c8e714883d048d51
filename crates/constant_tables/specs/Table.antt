-- A table's lines and a document's records, one after the other: the entries of each, row 1 of a table and row 10 of a document (02, 2026-02)
use Rattle.std.specs.Prelude.{ℕ, zero, suc, ◌+◌, ◌*◌, ◌/◌, ◌%◌, ◌≤◌, ◌≡◌, Bool, true, false, cond, not, ◌&&◌, ◌||◌, List, [], ◌∷◌, ◌++◌, length, take, drop}
use Rattle.std.specs.Prelude.{eqb, ltb}
use Rattle.words.specs.Record.{kind_at, span_at, position_at, value_at}
use Rattle.tree.specs.Check.{records_of, refused}
use Rattle.constant_tables.specs.Form.{table_line_length, local_definition_kind, integer_kind, float_kind, name_kind}
use Rattle.constant_tables.specs.Entry.{Entry, entry, read_entry, entry_line, table_kind, definition_of, definitions_of}
use Rattle.std.specs.Prelude.{Option, Some, None, Result, Ok}
use Rattle.words.specs.declared.row.Row.TheVariants.{BadLine}
use Rattle.words.specs.declared.row.Refused.{Refused}

-- the first number of n from k on that a test holds of; k + n if it holds of none
unfoldable pub first_where : (ℕ → Bool) → ℕ → ℕ → ℕ
first_where test k zero = k
first_where test k (suc n) = cond (test k) k (first_where test (k + 1) n)

-- n entries by their numbers from k on
unfoldable pub list_from : (ℕ → Entry) → ℕ → ℕ → List Entry
list_from at k zero = []
list_from at k (suc n) = at k ∷ list_from at (k + 1) n

-- how many lines so many bytes are; a rest of one is one
abbrev pub count_in : ℕ → ℕ
count_in bytes = bytes / table_line_length + cond (eqb (bytes % table_line_length) 0) 0 1

abbrev pub line_count : List ℕ → ℕ
line_count table = count_in (length table)

-- line i of a table, from 0; none where there is no whole line
abbrev pub table_line : List ℕ → ℕ → Option Entry
table_line table i = read_entry (take table_line_length (drop (i * table_line_length) table))

abbrev pub is_bad : Option Entry → Bool
is_bad (Some e) = false
is_bad None = true

abbrev pub bad_at : List ℕ → ℕ → Bool
bad_at table i = is_bad (table_line table i)

-- row 1, 'a line off this form': the first such line, from 0; the lines' count if there is none
abbrev pub first_off : List ℕ → ℕ
first_off table = first_where (bad_at table) 0 (line_count table)

-- the entry of a line; nothing is asked of a bad one
abbrev pub entry_in : Option Entry → Entry
entry_in (Some e) = e
entry_in None = entry 0 0 0

abbrev pub line_entry : List ℕ → ℕ → Entry
line_entry table i = entry_in (table_line table i)

abbrev pub entries_of : List ℕ → List Entry
entries_of table = list_from (line_entry table) 0 (line_count table)

-- record i has a kind and a span, and position 0
unfoldable pub head_is : List ℕ → ℕ → ℕ → ℕ → Bool
head_is w i kind span = eqb (kind_at w i) kind && (eqb (span_at w i) span && eqb (position_at w i) 0)

-- a record by its place in its definition: the local definition, its name, its value
unfoldable pub in_definition : ℕ → List ℕ → ℕ → Bool
in_definition zero w i = head_is w i local_definition_kind 3 && eqb (value_at w i) 0
in_definition (suc zero) w i = head_is w i name_kind 1
in_definition (suc (suc part)) w i = head_is w i integer_kind 1 || head_is w i float_kind 1

-- record i agrees with a table's whose earlier records agree. Rows 2 to 4 have passed, so the first is a document, of which the span alone is left: a
-- table's is one more than a multiple of 3. No table has a record behind its document
unfoldable pub agrees_at : List ℕ → ℕ → Bool
agrees_at w zero = eqb (span_at w 0 % 3) 1
agrees_at w (suc i) = ltb (suc i) (span_at w 0) && in_definition (i % 3) w (suc i)

-- row 10, 'the index of the first record up to which no table agrees'; the records' count if there is none
abbrev pub not_table : List ℕ → ℕ
not_table w = first_where (λ i. not (agrees_at w i)) 0 (records_of w)

-- the entry of definition i, whose name is record 3i + 2 and whose value is the one after
abbrev pub entry_at : List ℕ → ℕ → Entry
entry_at w i = entry (value_at w (i * 3 + 2)) (table_kind (kind_at w (i * 3 + 2 + 1))) (value_at w (i * 3 + 2 + 1))

-- the definitions of a document of 1 + 3n records
abbrev pub definition_count : List ℕ → ℕ
definition_count w = length w / 12

abbrev pub entries_in : List ℕ → List Entry
entries_in w = list_from (entry_at w) 0 (definition_count w)

-- row 1 as a result: the first line off the form, from 1
abbrev pub row_one : List ℕ → Result (Unit {0}) Refused
row_one table = cond (ltb (first_off table) (line_count table)) (refused BadLine (first_off table + 1)) (Ok tt)

-- what is left by the writers of a definition, of a table's definitions and of a line
pub record DefinitionPut (i : ℕ) (e : Entry) (before after : List ℕ) : Type 0 where
  pub words : i * 12 + 4 + 12 ≤ length before
      → after ≡ take (i * 12 + 4) before ++ (definition_of e ++ drop (i * 12 + 4 + 12) before)

pub record DefinitionsPut (table before after : List ℕ) (r : Result (Unit {0}) Refused) : Type 0 where
  pub first : r ≡ row_one table
  pub words : r ≡ Ok tt → line_count table * 12 + 4 ≤ length before
      → after ≡ take 4 before ++ (definitions_of (entries_of table) ++ drop (line_count table * 12 + 4) before)

pub record ConstantPut (w : List ℕ) (i : ℕ) (before after : List ℕ) : Type 0 where
  pub bytes : after ≡ take (i * 34) before ++ (entry_line (entry_at w i) ++ drop (i * 34 + 34) before)
