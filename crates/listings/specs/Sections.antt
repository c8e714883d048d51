-- The lines of 01's listing as data: eight numbers each, from the reply and the words of the areas ('unused fields 0'; 'Sections ascend, then indices').
-- docs/FORMAT.md has the words of an entry
use Rattle.std.specs.Prelude.{ℕ, zero, suc, ◌+◌, ◌/◌, Bool, true, false, cond, ◌||◌, List, [], ◌∷◌, ◌++◌, map, length, eqb, ltb}
use Rattle.words.specs.Areas.{width_of, entry_word, code_area, constants_area, models_area, properties_area, methods_area, context_locals_area, errors_area}
use Rattle.words.specs.Areas.{books_area}
use Rattle.words.specs.Object.{integer_kind}
use Rattle.words.specs.Opcode.{Instruction, unword}
use Rattle.words.specs.Program.{function_at, code_of, instruction_word, instruction_position}
use Rattle.words.specs.Record.{line_of, column_of}
use Rattle.words.specs.declared.reply.Reply.{Reply}
use Rattle.words.specs.declared.reply.Totals.{Totals}
use Rattle.column_lines.specs.Form.{signed_kind}
use Rattle.line_writer.specs.declared.writer.Fields.{Fields}
use Rattle.listings.specs.declared.lines.Section.{Section}
use Rattle.listings.specs.declared.lines.Section.TheVariants.{
  Functions,
  Instructions,
  Constants,
  Models,
  Properties,
  Methods,
  ContextValues,
  Globals,
  Files,
  Errors,
}

-- 01's numbers of the sections that list an area; 0 and 1 are the refusal and the totals
abbrev pub number_of : Section → ℕ
number_of Functions = 2
number_of (Instructions function) = 3
number_of Constants = 4
number_of Models = 5
number_of Properties = 6
number_of Methods = 7
number_of ContextValues = 8
number_of Globals = 9
number_of Files = 10
number_of Errors = 11

-- a line; only the last number may be signed
abbrev pub line : (section a b c d e f last : ℕ) → Bool → Fields
line section a b c d e f last signed = record {
  section = section;
  first = a;
  second = b;
  third = c;
  fourth = d;
  fifth = e;
  sixth = f;
  last = last;
  signed = signed;
}

-- '0 refusal: number, place'
abbrev pub refusal_line : Reply → Fields
refusal_line r = line 0 r.number r.place 0 0 0 0 0 false

-- '1 totals: functions, constants, models, context locals, entry point, files, global dependencies'
abbrev pub totals_line : Totals → Fields
totals_line t =
    line 1 t.functions t.constants t.models t.context_locals t.entry_point t.books t.global_dependencies false

-- '2 function: index, parameters, locals, rescue, instance, file, name'
abbrev pub function_line : List ℕ → ℕ → Fields
function_line w i =
    let f = function_at w i in
    line 2 i f.parameters f.locals f.rescue f.instance f.file f.name false

-- '3 instruction: function, index, line, column, opcode, 0, operand', of the part of the code area that is the function's
abbrev pub instruction_fields : (function i position : ℕ) → Instruction → Fields
instruction_fields function i position x = line 3 function i (line_of position) (column_of position) x.opcode 0 x.operand false

abbrev pub instruction_line : ℕ → List ℕ → ℕ → Fields
unfolding unword
instruction_line function part i = instruction_fields function i (instruction_position part i) (unword (instruction_word part i))

-- '4 constant: index, kind (..), value last, integers signed'
abbrev pub constant_line : List ℕ → ℕ → Fields
constant_line w i =
    line 4 i (entry_word (width_of constants_area) i 0 w) 0 0 0 0 (entry_word (width_of constants_area) i 1 w)
    (eqb (entry_word (width_of constants_area) i 0 w) integer_kind)

-- '5 model: index, file, name last'
abbrev pub model_line : List ℕ → ℕ → Fields
model_line w i = line 5 i (entry_word (width_of models_area) i 0 w) 0 0 0 0 (entry_word (width_of models_area) i 1 w) false

-- a property's model, and how many of the first n entries are of a model
abbrev pub property_model : List ℕ → ℕ → ℕ
property_model w i = entry_word (width_of properties_area) i 0 w

unfoldable pub properties_of : List ℕ → (model : ℕ) → ℕ → ℕ
properties_of w model zero = 0
properties_of w model (suc n) = cond (eqb (property_model w n) model) 1 0 + properties_of w model n

-- a property's index in its model: the earlier entries of the model, together or apart (2026-01: 'no order of entries fails any')
abbrev pub property_index : List ℕ → ℕ → ℕ
property_index w i = properties_of w (property_model w i) i

-- '6 property: model, index, name last'
abbrev pub property_line : List ℕ → ℕ → Fields
property_line w i = line 6 (property_model w i) (property_index w i) 0 0 0 0 (entry_word (width_of properties_area) i 1 w) false

-- '7 method: model, function, name last'
abbrev pub method_model : List ℕ → ℕ → ℕ
method_model w i = entry_word (width_of methods_area) i 0 w

abbrev pub method_name : List ℕ → ℕ → ℕ
method_name w i = entry_word (width_of methods_area) i 1 w

abbrev pub method_line : List ℕ → ℕ → Fields
method_line w i = line 7 (method_model w i) (entry_word (width_of methods_area) i 2 w) 0 0 0 0 (method_name w i) false

-- '8 context value: local, constant', of each context local that has a value
abbrev pub has_value : List ℕ → ℕ → Bool
has_value w i = eqb (entry_word (width_of context_locals_area) i 2 w) 1

abbrev pub context_value_line : List ℕ → ℕ → Fields
context_value_line w i = line 8 i (entry_word (width_of context_locals_area) i 3 w) 0 0 0 0 0 false

-- '9 global: constant', of each constant that is marked
abbrev pub is_global : List ℕ → ℕ → Bool
is_global w i = eqb (entry_word (width_of constants_area) i 2 w) 1

abbrev pub global_line : ℕ → Fields
global_line i = line 9 i 0 0 0 0 0 0 false

-- '10 file: index, number last'
abbrev pub file_line : List ℕ → ℕ → Fields
file_line w i = line 10 i 0 0 0 0 0 (entry_word (width_of books_area) i 0 w) false

-- '11 error: index, number, line, column, token kind, 0, token value'; an integer token's value is signed, as in the column file
abbrev pub error_number : List ℕ → ℕ → ℕ
error_number w i = entry_word (width_of errors_area) i 0 w

abbrev pub error_line : List ℕ → ℕ → Fields
error_line w i =
    let position = entry_word (width_of errors_area) i 1 w in
    let kind = entry_word (width_of errors_area) i 2 w in
    line 11 i (error_number w i) (line_of position) (column_of position) kind 0 (entry_word (width_of errors_area) i 3 w) (eqb kind signed_kind)

-- the line of entry i of a section's area
unfoldable pub entry_line : Section → List ℕ → ℕ → Fields
entry_line Functions w i = function_line w i
entry_line (Instructions function) w i = instruction_line function w i
entry_line Constants w i = constant_line w i
entry_line Models w i = model_line w i
entry_line Properties w i = property_line w i
entry_line Methods w i = method_line w i
entry_line ContextValues w i = context_value_line w i
entry_line Globals w i = global_line i
entry_line Files w i = file_line w i
entry_line Errors w i = error_line w i

unfoldable pub is_listed : Section → List ℕ → ℕ → Bool
is_listed Functions w i = true
is_listed (Instructions function) w i = true
is_listed Constants w i = true
is_listed Models w i = true
is_listed Properties w i = true
is_listed Methods w i = true
is_listed ContextValues w i = has_value w i
is_listed Globals w i = is_global w i
is_listed Files w i = true
is_listed Errors w i = true

abbrev pub entry_lines : Section → List ℕ → ℕ → List Fields
entry_lines s w i = cond (is_listed s w i) (entry_line s w i ∷ []) []

-- what each of n numbers from i on gives, one after the other
unfoldable pub each_from : (ℕ → List Fields) → ℕ → ℕ → List Fields
each_from f i zero = []
each_from f i (suc n) = f i ++ each_from f (suc i) n

abbrev pub each : (ℕ → List Fields) → ℕ → List Fields
each f n = each_from f 0 n

-- the lines of a section: of the first n entries of its area
abbrev pub section : Section → List ℕ → ℕ → List Fields
section s w n = each (λ i. entry_lines s w i) n

-- each function's instructions
abbrev pub function_part : (functions code : List ℕ) → ℕ → List ℕ
function_part functions code i = code_of code (function_at functions i)

abbrev pub function_code : (functions code : List ℕ) → ℕ → List Fields
function_code functions code i =
    section (Instructions i) (function_part functions code i) (length (function_part functions code i) / width_of code_area)

-- 'methods by model, then name': whether entry i's key is below entry j's
abbrev pub is_below : List ℕ → ℕ → ℕ → Bool
is_below w i j =
    cond (ltb (method_model w i) (method_model w j)) true
    (cond (eqb (method_model w i) (method_model w j)) (ltb (method_name w i) (method_name w j)) false)

-- entry i among entries in order, of those with the same key the first alone
unfoldable pub insert_method : List ℕ → ℕ → List ℕ → List ℕ
insert_method w i [] = i ∷ []
insert_method w i (j ∷ js) = cond (is_below w i j) (i ∷ j ∷ js) (cond (is_below w j i) (j ∷ insert_method w i js) (j ∷ js))

-- the first n entries in order
unfoldable pub method_order : List ℕ → ℕ → List ℕ
method_order w zero = []
method_order w (suc n) = insert_method w n (method_order w n)

abbrev pub methods : List ℕ → ℕ → List Fields
methods w n = map (λ (i : ℕ). method_line w i) (method_order w n)

-- how many errors a refusal has: the entries ahead of the first without a number
unfoldable pub errors_from : List ℕ → ℕ → ℕ → ℕ
errors_from w i zero = 0
errors_from w i (suc n) = cond (eqb (error_number w i) 0) 0 (suc (errors_from w (suc i) n))

abbrev pub errors_in : List ℕ → ℕ
errors_in w = errors_from w 0 (length w / width_of errors_area)

-- whether a refusal lists errors: row 7 ('errors listed') and row 8 ('one error 11 each') alone. After the program check's row 3 'all memory' is 'as lent', and
-- what area 11 then has are no errors of this call; after any other row the area is zero
abbrev pub lists_errors : (row : ℕ) → Bool
lists_errors row = eqb row 7 || eqb row 8
