-- The twelve areas of 01, 'Replies of the compiler': how many words an entry has and what each word means (docs/FORMAT.md has the same as a table).
-- An area is a list of words; its entries follow each other from word 0, and a tail shorter than an entry belongs to none
use Rattle.std.specs.Prelude.{ℕ, ◌+◌, ◌-◌, ◌*◌, ◌/◌, ◌^◌, min, ◌≡◌, Bool, false, cond, List, [], ◌∷◌, ◌++◌, length, take, drop, get_or, set, replicate, leb}
use Rattle.std.specs.Prelude.{ltb, Option, Some, None}
use Rattle.words.specs.declared.areas.Area.{Area}
use Rattle.words.specs.declared.areas.Area.TheVariants as area

-- area numbers
abbrev pub code_area : ℕ
code_area = 1

abbrev pub constants_area : ℕ
constants_area = 2

abbrev pub functions_area : ℕ
functions_area = 3

abbrev pub models_area : ℕ
models_area = 4

abbrev pub properties_area : ℕ
properties_area = 5

abbrev pub methods_area : ℕ
methods_area = 6

abbrev pub context_locals_area : ℕ
context_locals_area = 7

abbrev pub public_names_area : ℕ
public_names_area = 8

abbrev pub scope_names_area : ℕ
scope_names_area = 9

abbrev pub breaks_area : ℕ
breaks_area = 10

abbrev pub errors_area : ℕ
errors_area = 11

abbrev pub books_area : ℕ
books_area = 12

-- each area's number
abbrev pub number_of_area : Area → ℕ
number_of_area area.Code = code_area
number_of_area area.Constants = constants_area
number_of_area area.Functions = functions_area
number_of_area area.Models = models_area
number_of_area area.Properties = properties_area
number_of_area area.Methods = methods_area
number_of_area area.ContextLocals = context_locals_area
number_of_area area.PublicNames = public_names_area
number_of_area area.ScopeNames = scope_names_area
number_of_area area.Breaks = breaks_area
number_of_area area.Errors = errors_area
number_of_area area.Books = books_area

-- words of an entry, by area from 1:
-- 1 code: instruction word, position. 2 constants: kind, value, global mark. 3 functions: parameters, locals, rescue position, instance mark,
-- first code entry, code entries, file, name. 4 models: file, name. 5 properties: model, name. 6 methods: model, name, function.
-- 7 context locals: file, name, mark of a value, constant. 8 public names: file, name, constant. 9 scope names: name, local. 10 breaks: instruction.
-- 11 errors: number, position, token kind, token value. 12 books: file number. `file` is a book's index in area 12
abbrev pub widths : List ℕ
widths = 0 ∷ 2 ∷ 3 ∷ 8 ∷ 2 ∷ 2 ∷ 3 ∷ 4 ∷ 3 ∷ 2 ∷ 1 ∷ 4 ∷ 1 ∷ []

abbrev pub width_of : ℕ → ℕ
width_of area = get_or widths area 0

-- an area longer than this counts as this long (01, 'Emission'), so that every number fits its operand
abbrev pub most_entries : ℕ
most_entries = 2 ^ 56 - 1

-- the entries that an area of n words has, at a width above 0
abbrev pub entries_in : ℕ → ℕ → ℕ
entries_in width n = min most_entries (n / width)

-- word k of entry i at a width; 0 outside
abbrev pub entry_word : ℕ → ℕ → ℕ → List ℕ → ℕ
entry_word width i k w = get_or w (i * width + k) 0

-- entry i anew
abbrev pub set_entry : ℕ → ℕ → List ℕ → List ℕ → List ℕ
set_entry width i entry w = take (i * width) w ++ (entry ++ drop (i * width + width) w)

-- no area's entry has more words than this
abbrev pub most_width : ℕ
most_width = 8

-- word k of entry i as `entry_word` reads it: 0 also past the entry, and at a width that no area has
unfoldable pub entry_field : ℕ → ℕ → ℕ → List ℕ → ℕ
entry_field width i k w = cond (leb width most_width) (cond (ltb k width) (entry_word width i k w) 0) 0

-- whether entry i lies whole in an area of n words; at a width that no area has, none does
abbrev pub entry_fits : ℕ → ℕ → ℕ → Bool
entry_fits width i n = cond (ltb 0 width) (cond (leb width most_width) (leb (i * width + width) n) false) false

-- an area after entry i was written, where it fits
abbrev pub write_entry : ℕ → ℕ → List ℕ → List ℕ → List ℕ
write_entry width i entry w = cond (entry_fits width i (length w)) (set_entry width i entry w) w

-- what a writer of entry i answers, and the area that it leaves
pub record Written (width i : ℕ) (entry w after : List ℕ) (answer : Bool) : Type 0 where
  pub fitted : answer ≡ entry_fits width i (length w)
  pub words : after ≡ write_entry width i entry w

-- whether word k of entry i is a word of an area of n words
abbrev pub word_fits : ℕ → ℕ → ℕ → ℕ → Bool
word_fits width i k n = cond (leb width most_width) (cond (ltb k width) (ltb (i * width + k) n) false) false

-- where that word lies
abbrev pub word_place : ℕ → ℕ → ℕ → ℕ → Option ℕ
word_place width i k n = cond (word_fits width i k n) (Some (i * width + k)) None

-- an area after word k of entry i was written, where it is there
abbrev pub write_word : ℕ → ℕ → ℕ → ℕ → List ℕ → List ℕ
write_word width i k value w = cond (word_fits width i k (length w)) (set w (i * width + k) value) w

-- what a writer of word k of entry i answers, and the area that it leaves
pub record Patched (width i k value : ℕ) (w after : List ℕ) (answer : Bool) : Type 0 where
  pub fitted : answer ≡ word_fits width i k (length w)
  pub words : after ≡ write_word width i k value w

-- an area with zeros from a word on
abbrev pub cleared_from : ℕ → List ℕ → List ℕ
cleared_from from w = take from w ++ replicate (length w - from) 0

-- the places of the words in a function's entry
abbrev pub parameters_word : ℕ
parameters_word = 0

abbrev pub locals_word : ℕ
locals_word = 1

abbrev pub rescue_word : ℕ
rescue_word = 2

abbrev pub instance_word : ℕ
instance_word = 3

abbrev pub start_word : ℕ
start_word = 4

abbrev pub length_word : ℕ
length_word = 5

abbrev pub function_file_word : ℕ
function_file_word = 6

abbrev pub function_name_word : ℕ
function_name_word = 7
