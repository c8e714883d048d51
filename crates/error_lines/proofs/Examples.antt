-- Facts by computing: a line, a ring, which kinds are known and which hold texts, escapes, texts that are lacking, the rows. Assumes nothing.
use Prim.Native.Nat.{ℕ, zero, suc}
use mathlib.Core.Path.{◌≡◌, refl}
use mathlib.Core.Bool.{Bool, true, cond}
use Rattle.std.specs.Prelude.{Some, None}
use mathlib.Core.List.{List, [], ◌∷◌, ◌++◌}
use Rattle.words.specs.Record.{pack_position, in_place}
use Rattle.tree.specs.Rules.{in_range, may_be_at}
use Rattle.column_lines.specs.Numeral.{digits_by, written, right_justified}
use Rattle.column_files.specs.Convert.{refuse, success}
use Rattle.error_lines.specs.Known.{is_kind, stands_in, holds_text, known, known_token}
use Rattle.error_lines.specs.Messages.{message}
use Rattle.error_lines.specs.Texts.{plain, after_blanks, escape, escaped, quoted, text_at, text_field}
use Rattle.error_lines.specs.Lines.{errors_from, errors_in, error_line, lines_of, value_field}
use Rattle.error_lines.specs.Words.{first_unknown, delivered, in_words}

-- the numbers below n that pass a test, ascending
abbrev passing : (ℕ → Bool) → ℕ → List ℕ
passing f zero = []
passing f (suc n) = passing f n ++ cond (f n) (n ∷ []) []

kinds_known : passing is_kind 60
    ≡ 1 ∷ 10 ∷ 11 ∷ 12 ∷ 13 ∷ 14 ∷ 15 ∷ 16 ∷ 17 ∷ 20 ∷ 21 ∷ 22 ∷ 23 ∷ 24 ∷ 25 ∷ 30 ∷ 31 ∷ 32 ∷ 33 ∷ 34 ∷ 35 ∷ 36 ∷ 37 ∷ 38 ∷ 39 ∷ 40 ∷ 41 ∷ 42 ∷ 43 ∷ 44 ∷ 45
    ∷ 46
    ∷ 47 ∷ 49 ∷ []
unfolding is_kind stands_in
kinds_known = refl

kinds_of_texts : passing holds_text 60 ≡ 1 ∷ 11 ∷ 12 ∷ 13 ∷ 14 ∷ 15 ∷ 16 ∷ 30 ∷ 35 ∷ 40 ∷ 41 ∷ []
unfolding holds_text in_range may_be_at in_place
kinds_of_texts = refl

-- a newline, a delete, a quotation mark, a backslash, a blank and a tilde
escapes : escaped (10 ∷ 127 ∷ 34 ∷ 92 ∷ 32 ∷ 126 ∷ [])
    ≡ 92 ∷ 48 ∷ 49 ∷ 48 ∷ 92 ∷ 49 ∷ 50 ∷ 55 ∷ 92 ∷ 34 ∷ 92 ∷ 92 ∷ 32 ∷ 126 ∷ []
unfolding escaped escape
escapes = refl

-- half an entry; a start at the end; a start past it; an end past it; a sum past 2^64; number 0
half_an_entry : text_at (0 ∷ []) (97 ∷ []) 1 ≡ None
unfolding text_at
half_an_entry = refl

empty_at_the_end : text_at (1 ∷ 0 ∷ []) (97 ∷ []) 1 ≡ Some []
unfolding text_at
empty_at_the_end = refl

start_past : text_at (2 ∷ 0 ∷ []) (97 ∷ []) 1 ≡ None
unfolding text_at
start_past = refl

end_past : text_at (0 ∷ 2 ∷ []) (97 ∷ []) 1 ≡ None
unfolding text_at
end_past = refl

no_sum_wraps : text_at (18446744073709551615 ∷ 1 ∷ []) (97 ∷ []) 1 ≡ None
unfolding text_at
no_sum_wraps = refl

no_text_0 : text_at (0 ∷ 1 ∷ []) (97 ∷ []) 0 ≡ None
unfolding text_at
no_text_0 = refl

least_integer : plain true 9223372036854775808
    ≡ 45 ∷ 57 ∷ 50 ∷ 50 ∷ 51 ∷ 51 ∷ 55 ∷ 50 ∷ 48 ∷ 51 ∷ 54 ∷ 56 ∷ 53 ∷ 52 ∷ 55 ∷ 55 ∷ 53 ∷ 56 ∷ 48 ∷ 56 ∷ []
unfolding plain after_blanks digits_by written right_justified
least_integer = refl

-- error 9 at line 12, column 5, the name 2, in file 1: text 1 is `a`, text 2 `"`
abbrev table : List ℕ
table = 0 ∷ 1 ∷ 1 ∷ 1 ∷ []

abbrev bytes : List ℕ
bytes = 97 ∷ 34 ∷ []

one_line : in_words (9 ∷ pack_position 12 5 ∷ 40 ∷ 2 ∷ 0 ∷ 0 ∷ 0 ∷ 0 ∷ 99 ∷ []) 1 table bytes 40
    ≡ record {
      reply = success 37;
      output = 105 ∷ 115 ∷ 32 ∷ 110 ∷ 111 ∷ 116 ∷ 32 ∷ 97 ∷ 32 ∷ 109 ∷ 111 ∷ 100 ∷ 101 ∷ 108 ∷ 44 ∷ 32 ∷ 34 ∷ 97 ∷ 34 ∷ 44 ∷ 32 ∷ 49 ∷ 50 ∷ 44 ∷ 32 ∷ 53
          ∷ 44 ∷ 32 ∷ 52 ∷ 48 ∷ 44 ∷ 32 ∷ 34 ∷ 92 ∷ 34 ∷ 34 ∷ 10 ∷ 0 ∷ 0 ∷ 0 ∷ [];
    }
unfolding in_words first_unknown errors_in errors_from known known_token is_kind stands_in in_range may_be_at in_place lines_of error_line message text_field
    text_at quoted
    escaped
    escape value_field holds_text plain after_blanks digits_by written right_justified delivered
one_line = refl

-- a ring under its own file number, which the table lacks
one_ring : lines_of table bytes 1 (errors_in (11 ∷ 0 ∷ 0 ∷ 9 ∷ []))
    ≡ 114 ∷ 105 ∷ 110 ∷ 103 ∷ 44 ∷ 32 ∷ 57 ∷ 44 ∷ 32 ∷ 48 ∷ 44 ∷ 32 ∷ 48 ∷ 44 ∷ 32 ∷ 48 ∷ 44 ∷ 32 ∷ 48 ∷ 10 ∷ []
unfolding errors_in errors_from lines_of error_line message text_field text_at value_field holds_text in_range may_be_at in_place plain after_blanks
    digits_by written right_justified
one_ring = refl

-- the second error has a kind that no record has: row 3 before row 9
unknown_second : in_words (4 ∷ 7 ∷ 25 ∷ 0 ∷ 4 ∷ 0 ∷ 48 ∷ 0 ∷ []) 1 table bytes 3 ≡ refuse 3 1 3
unfolding in_words first_unknown errors_in errors_from known known_token is_kind stands_in in_range may_be_at in_place
unknown_second = refl
