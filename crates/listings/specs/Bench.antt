-- Bench piece (l) of 01: the listing of its example, by computing the whole call from the example's words; and lines as text
use Rattle.std.specs.Prelude.{ℕ, ◌≡◌, refl, true, false, cond, ◌&&◌, List, [], ◌∷◌, map, get_or, leb}
use Rattle.words.specs.Opcode.{word, unword}
use Rattle.words.specs.Program.{code_of}
use Rattle.words.specs.Record.{pack_position}
use Rattle.words.specs.Reply.{refusal as refused}
use Rattle.words.specs.declared.reply.Reply.{Reply}
use Rattle.words.specs.declared.reply.Totals.{Totals}
use Rattle.definition.specs.Answer.{Reply as Answered, answer, reply_of, areas_of}
use Rattle.definition.specs.Bench.{run, r, book, ample, example, example_lines, exact}
use Rattle.definition.specs.Program.{tables_of, error_tables}
use Rattle.column_files.specs.Convert.{Conversion, success, refusal, answer_by}
use Rattle.column_lines.specs.Numeral.{digits_by, written, right_justified}
use Rattle.line_writer.specs.declared.writer.Fields.{Fields}
use Rattle.listings.specs.Lines.{line_bytes, line_fits, text_of, all_fit}
use Rattle.listings.specs.Sections.{line, section, properties_of, entry_line, is_listed, each_from, insert_method, method_order, errors_from}
use Rattle.listings.specs.declared.lines.Section.TheVariants.{Properties}
use Rattle.listings.specs.Listing.{Areas, delivery_lines, refusal_lines, listing_lines, printed}

-- the reply and the areas that the definition answers, as the listing takes them; of the number of bundles it says nothing
abbrev totals_by : List ℕ → ℕ → ℕ → Totals
totals_by n entry globals = record {
  code = get_or n 1 0;
  constants = get_or n 2 0;
  functions = get_or n 3 0;
  models = get_or n 4 0;
  properties = get_or n 5 0;
  methods = get_or n 6 0;
  context_locals = get_or n 7 0;
  public_names = get_or n 8 0;
  scope_names = get_or n 9 0;
  breaks = get_or n 10 0;
  errors = get_or n 11 0;
  books = get_or n 12 0;
  entry_point = entry;
  global_dependencies = globals;
  bundles = 1;
}

abbrev reply_by : Answered → Reply
reply_by a = record { number = a.number; place = a.place; totals = totals_by a.totals a.entry_point a.globals }

abbrev areas_by : List (List ℕ) → Areas
areas_by m = record {
  code = get_or m 1 [];
  constants = get_or m 2 [];
  functions = get_or m 3 [];
  models = get_or m 4 [];
  properties = get_or m 5 [];
  methods = get_or m 6 [];
  locals = get_or m 7 [];
  books = get_or m 12 [];
}

-- the lines for the words of a tree, with areas of some lengths
listed : List ℕ → List ℕ → List Fields
unfolding run tables_of error_tables reply_of areas_of word unword code_of properties_of entry_line is_listed each_from insert_method method_order errors_from
    delivery_lines refusal_lines
listed w lengths =
    listing_lines (reply_by (reply_of (answer false w lengths))) (areas_by (areas_of lengths (answer false w lengths)))
    (get_or (areas_of lengths (answer false w lengths)) 11 [])

abbrev l : (section a b c d e f last : ℕ) → Fields
l section a b c d e f last = line section a b c d e f last false

-- a line's eight numbers, where its last is unsigned
abbrev numbers : Fields → List ℕ
numbers x =
    cond x.signed []
    (x.section ∷ x.first ∷ x.second ∷ x.third ∷ x.fourth ∷ x.fifth ∷ x.sixth ∷ x.last ∷ [])

-- the listing of a tree that takes of each area what 01's example takes
pub listing : List ℕ → List (List ℕ)
unfolding listed
listing w = map numbers (listed w exact)

-- (l) the listing of 01's example: a row of the table in definition (proofs/BenchTable.antt has the whole)
pub bench_l : listing example ≡ example_lines
unfolding listing
bench_l = refl

-- models, properties and methods, the last by model, then name: models 3 and 4 (two properties), 4 implemented before 3, each with two methods
models : List ℕ
models = book (r 12 1 0 3 ∷ r 12 3 0 4 ∷ r 40 1 0 7 ∷ r 40 1 0 8 ∷ r 16 3 0 4 ∷ r 14 1 0 9 ∷ r 14 1 0 6 ∷ r 16 3 0 3 ∷ r 14 1 0 9 ∷ r 14 1 0 6 ∷ [])

sections_5_to_7 : (ls : List Fields) → List Fields
sections_5_to_7 [] = []
sections_5_to_7 (x ∷ ls) = let rest = sections_5_to_7 ls in cond (leb 5 x.section && leb x.section 7) (x ∷ rest) rest

by_model : sections_5_to_7 (listed models ample) ≡
    l 5 0 0 0 0 0 0 3
    ∷ l 5 1 0 0 0 0 0 4
    ∷ l 6 1 0 0 0 0 0 7
    ∷ l 6 1 1 0 0 0 0 8
    ∷ l 7 0 3 0 0 0 0 6
    ∷ l 7 0 2 0 0 0 0 9
    ∷ l 7 1 1 0 0 0 0 6
    ∷ l 7 1 0 0 0 0 0 9
    ∷ []
unfolding listed models sections_5_to_7
by_model = refl

-- a refusal: its line, and the errors
faulty : listed (book (r 16 2 (pack_position 1 7) 3 ∷ r 14 1 0 4 ∷ [])) ample ≡ l 0 7 2 0 0 0 0 0 ∷ l 11 0 10 1 7 16 0 3 ∷ []
unfolding listed
faulty = refl

-- the program check's refusal, of area 1: area 11 is as lent, and the old error there is not listed; after row 7 it would be
old_errors_lem : map (λ (row : ℕ). refusal_lines (refused row 1048577) (10 ∷ 0 ∷ 16 ∷ 3 ∷ [])) (3 ∷ 7 ∷ [])
    ≡ (l 0 3 1048577 0 0 0 0 0 ∷ []) ∷ (l 0 7 1048577 0 0 0 0 0 ∷ l 11 0 10 0 0 16 0 3 ∷ []) ∷ []
unfolding refusal_lines errors_from each_from entry_line is_listed
old_errors_lem = refl

-- properties of models 0 and 1 in turn, as no fresh program has them: each model's are numbered from 0 on
apart : section Properties (0 ∷ 7 ∷ 1 ∷ 7 ∷ 0 ∷ 8 ∷ 1 ∷ 9 ∷ 0 ∷ 5 ∷ []) 5 ≡
    l 6 0 0 0 0 0 0 7
    ∷ l 6 1 0 0 0 0 0 7
    ∷ l 6 0 1 0 0 0 0 8
    ∷ l 6 1 1 0 0 0 0 9
    ∷ l 6 0 2 0 0 0 0 5
    ∷ []
unfolding properties_of each_from entry_line is_listed
apart = refl

-- a line as text: the constant 5 is the integer -7
constant_text : text_of (line 4 5 2 0 0 0 0 18446744073709551609 true ∷ []) ≡
    32 ∷ 32 ∷ 32 ∷ 52
    ∷ 32 ∷ 32 ∷ 32 ∷ 32 ∷ 32 ∷ 32 ∷ 32 ∷ 53
    ∷ 32 ∷ 32 ∷ 32 ∷ 32 ∷ 32 ∷ 32 ∷ 32 ∷ 50
    ∷ 32 ∷ 32 ∷ 32 ∷ 32 ∷ 32 ∷ 32 ∷ 32 ∷ 48
    ∷ 32 ∷ 32 ∷ 32 ∷ 32 ∷ 32 ∷ 32 ∷ 32 ∷ 48
    ∷ 32 ∷ 32 ∷ 32 ∷ 32 ∷ 32 ∷ 32 ∷ 32 ∷ 48
    ∷ 32 ∷ 32 ∷ 32 ∷ 32 ∷ 32 ∷ 32 ∷ 32 ∷ 48
    ∷ 32 ∷ 32 ∷ 32 ∷ 32 ∷ 32 ∷ 32 ∷ 32 ∷ 32 ∷ 32 ∷ 32 ∷ 32 ∷ 32 ∷ 32 ∷ 32 ∷ 32 ∷ 32 ∷ 32 ∷ 32 ∷ 32 ∷ 45 ∷ 55
    ∷ 10 ∷ []
unfolding text_of line_bytes digits_by written right_justified
constant_text = refl

-- a number that is wider than its field
too_wide : all_fit (l 9 100000000 0 0 0 0 0 0 ∷ []) ≡ false
unfolding all_fit line_fits digits_by written
too_wide = refl

-- 01's example takes 1,036 bytes, and no fewer
exactly : map (λ (c : Conversion). c.reply) (printed (listed example exact) 1036 ∷ printed (listed example exact) 1035 ∷ [])
    ≡ success 1036 ∷ refusal 9 0 ∷ []
unfolding listed printed answer_by text_of line_bytes all_fit line_fits digits_by written right_justified
exactly = refl
