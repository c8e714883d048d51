-- The bench pieces of 01 in one table (`BenchPieces`); then a row for each kind of record (`Kinds`), each error (`Errors`) and each case of 01 (`Levels`,
-- `ExactAreas`, `Cases`). A row has the words of a bundle and what the whole call comes to on them. All are proved by computing, in proofs/AllRows.antt;
-- `Levels` and `ExactAreas`, which take longest and which no edit of a definition needs, in crates/definition_laws; (l) where the listing is defined, in
-- crates/listings
use Rattle.std.specs.Prelude.{ℕ, zero, suc, ◌+◌, ◌-◌, ◌≡◌, Bool, false, List, [], ◌∷◌, ◌++◌, map, length, get_or, set, replicate}
use Rattle.words.specs.Opcode.{Instruction, to_instruction, word, Pop, PushConstant, ReturnOp, LocalSet, LocalGet, LocalInit, ContextSet, ContextGet}
use Rattle.words.specs.Opcode.{GlobalSet, GlobalGet, InstanceSet, InstanceGetOp, IndexSet, IndexGetOp, Operation, Not, Negative, CallOp, ArrayOp}
use Rattle.words.specs.Opcode.{Jump, JumpIf, ForNext, Iterate}
use Rattle.words.specs.Opcode.{OPERATION_ADD, OPERATION_SUB, OPERATION_MULTIPLY, OPERATION_DIVIDE, OPERATION_MOD, OPERATION_EQUAL, OPERATION_GREATER}
use Rattle.words.specs.Opcode.{OPERATION_LESS, OPERATION_GREATER_EQUAL, OPERATION_LESS_EQUAL, OPERATION_AND, OPERATION_OR}
use Rattle.words.specs.Areas.{widths}
use Rattle.words.specs.Object.{integer_kind, float_kind, text_kind, model_kind, function_kind}
use Rattle.words.specs.Record.{field_of, pack_position, in_place}
use Rattle.tree.specs.Check.{shape_of, walk_by, head_at, sound_at, this_after, same_this, lacks_by, within_of}
use Rattle.tree.specs.Rules.{may_stand, slot_after, is_due, first_slot, goes_on, may_be_at, in_range}
use Rattle.tree.specs.Reading.{expression_of, list_of, pairs_of, parameters_of, definition_of, document_of, documents_of}
use Rattle.definition.specs.FunctionState.{remove_pop_or_push_null, emit_return, emit_break, exit_break_scope, define_local}
use Rattle.definition.specs.Uses.{first_over}
use Rattle.definition.specs.Compiler.{Assigning, Plain, Negated, Compound, Unknown, infix_kind}
use Rattle.definition.specs.Compiler.{add_constant, emit_constant, emit_global, compile_integer_expression, compile_float_expression}
use Rattle.definition.specs.Compiler.{compile_string_expression, compile_boolean_expression, compile_null_expression, emit_name}
use Rattle.definition.specs.Compiler.{compile_identifier_expression, compile_this_expression, compile_assign_name, compile_pair, compile_assign_expression}
use Rattle.definition.specs.Compiler.{compile_operation, compile_infix_expression, compile_prefix_expression, compile_call_expression}
use Rattle.definition.specs.Compiler.{compile_array_expression, compile_part, compile_no_part, compile_if_expression, compile_for_statement}
use Rattle.definition.specs.Compiler.{compile_expression_statement, compile_valued, compile_bare, compile_rescue, deeper, skip, and_then}
use Rattle.definition.specs.Compiler.{compile_expression, compile_parameter, compile_parameters, compile_function_definition_base}
use Rattle.definition.specs.Book.{Function, define_context_local, compile_alias, compile_include_definition, compile_include, compile_binding}
use Rattle.definition.specs.Book.{compile_local_definition, compile_properties, compile_model_definition, compile_base, add_plain_function}
use Rattle.definition.specs.Book.{compile_function_definition, find_model_index_by_local_name, compile_methods, compile_implement_definition}
use Rattle.definition.specs.Book.{compile_apply_definition, compile_definition, compile_definitions, compile_document}
use Rattle.definition.specs.DependencySolver.{needed_in, drive, compile_needed}
use Rattle.definition.specs.Program.{Entries, bit, flat, tables_of, error_tables}
use Rattle.definition.specs.Answer.{Answer, Delivery, Refusal, answer_bundle, answer_from, answer, reply_of, areas_of}

-- a record: its kind, span, position and value
abbrev pub r : ℕ → ℕ → ℕ → ℕ → List ℕ
r kind span position value = kind ∷ span ∷ position ∷ value ∷ []

-- the words of records; of book 2 with some definitions; of that with the function 3 alone, some parameters and statements; of that with an expression alone
abbrev pub bundle : List (List ℕ) → List ℕ
bundle records = flat records

abbrev pub book : List (List ℕ) → List ℕ
book definitions = bundle (r 1 (length definitions + 1) 0 2 ∷ definitions)

abbrev pub function : List (List ℕ) → List ℕ
function body = book (r 14 (length body + 1) 0 3 ∷ body)

abbrev pub expression : List (List ℕ) → List ℕ
expression e = function (r 25 (length e + 1) 0 0 ∷ e)

-- what a function came to
pub record Compiled : Type 0 where
  parameters : ℕ
  locals : ℕ
  rescue : ℕ
  instance : ℕ
  code : List Instruction
  positions : List ℕ

-- what the call came to: its row and place (0 and 0: delivered), the entries of errors, the functions, and the entries of the constants from the fourth on
pub record Result : Type 0 where
  pub row : ℕ
  place : ℕ
  errors : Entries
  functions : List Compiled
  constants : Entries

abbrev compiled : Function → Compiled
compiled f = record {
  parameters = f.state.header.parameter_count;
  locals = f.state.header.local_count;
  rescue = f.state.header.rescue_position;
  instance = bit f.state.header.is_instance;
  code = f.state.code.instructions;
  positions = f.state.code.positions;
}

-- without the three that every pool has
abbrev added : Entries → Entries
added (null ∷ true' ∷ false' ∷ rest) = rest
added (x ∷ y ∷ []) = []
added (x ∷ []) = []
added [] = []

abbrev result_of : Answer → Result
result_of (Delivery c) = record {
  row = 0;
  place = 0;
  errors = [];
  functions = map compiled c.program.functions;
  constants = added (get_or (tables_of c) 2 []);
}
result_of (Refusal n p es) = record { row = n; place = p; errors = get_or (error_tables es) 11 []; functions = []; constants = [] }

-- areas of 100 words each
abbrev pub ample : List ℕ
ample = 0 ∷ replicate 12 100

-- the call on words in a mode, with areas of these lengths. Its line unfolds all that the call computes with, for whoever unfolds it
unfoldable pub run_as : Bool → List ℕ → List ℕ → Result
unfolding shape_of walk_by head_at sound_at this_after same_this lacks_by within_of field_of may_stand slot_after is_due first_slot goes_on in_range may_be_at
    in_place
    expression_of list_of pairs_of parameters_of definition_of document_of documents_of remove_pop_or_push_null emit_return emit_break exit_break_scope
    define_local first_over
    add_constant emit_constant emit_global compile_integer_expression compile_float_expression compile_string_expression compile_boolean_expression
    compile_null_expression
    emit_name compile_identifier_expression compile_this_expression compile_assign_name compile_pair compile_assign_expression compile_operation
    compile_infix_expression
    compile_prefix_expression compile_call_expression compile_array_expression compile_part compile_no_part compile_if_expression compile_for_statement
    compile_expression_statement compile_valued compile_bare compile_rescue deeper skip and_then compile_expression compile_parameter compile_parameters
    compile_function_definition_base define_context_local compile_alias compile_include_definition compile_include compile_binding compile_local_definition
    compile_properties compile_model_definition compile_base add_plain_function compile_function_definition find_model_index_by_local_name compile_methods
    compile_implement_definition compile_apply_definition compile_definition compile_definitions compile_document needed_in drive compile_needed answer_bundle
    answer_from answer tables_of error_tables reply_of areas_of word
run_as strict lengths w = result_of (answer strict w lengths)

-- in the present mode, as everything below
unfoldable pub run_in : List ℕ → List ℕ → Result
unfolding run_as
run_in lengths w = run_as false lengths w

unfoldable pub run : List ℕ → Result
unfolding run_in
run w = run_in ample w

-- the entries of an area, the words of all areas, the areas' totals, the entry point
unfoldable pub table : ℕ → List ℕ → Entries
unfolding run
table area w = table_of (answer false w ample)
  where
    table_of : Answer → Entries
    table_of (Delivery c) = get_or (tables_of c) area []
    table_of (Refusal n p es) = []

unfoldable pub words_in : List ℕ → List ℕ → Entries
unfolding run
words_in lengths w = areas_of lengths (answer false w lengths)

unfoldable pub totals_in : List ℕ → List ℕ → List ℕ
unfolding run
totals_in lengths w = (reply_of (answer false w lengths)).totals

unfoldable pub entry : List ℕ → ℕ
unfolding run
entry w = (reply_of (answer false w ample)).entry_point

-- what a row expects: a delivery with its functions and constants, or a refusal
abbrev pub delivered : List Compiled → Entries → Result
delivered functions constants = record { row = 0; place = 0; errors = []; functions = functions; constants = constants }

abbrev pub refused : ℕ → ℕ → Entries → Result
refused row place errors = record { row = row; place = place; errors = errors; functions = []; constants = [] }

-- an error: its number, position, token kind and token value
abbrev pub error : ℕ → ℕ → ℕ → ℕ → List ℕ
error number position kind value = number ∷ position ∷ kind ∷ value ∷ []

-- a constant without and with the global mark
abbrev pub constant : ℕ → ℕ → List ℕ
constant kind value = kind ∷ value ∷ 0 ∷ []

abbrev pub marked : ℕ → ℕ → List ℕ
marked kind value = kind ∷ value ∷ 1 ∷ []

-- a function that is not an instance's: counts of parameters and locals, rescue position, code, positions
abbrev pub plain : ℕ → ℕ → ℕ → List Instruction → List ℕ → Compiled
plain parameters locals rescue code positions = record {
  parameters = parameters;
  locals = locals;
  rescue = rescue;
  instance = 0;
  code = code;
  positions = positions;
}

abbrev op : ℕ → ℕ → Instruction
op = to_instruction

-- an instruction whose operand is 0
abbrev op₀ : ℕ → Instruction
op₀ o = to_instruction o 0

abbrev null_returned : List Instruction
null_returned = op₀ PushConstant ∷ op₀ ReturnOp ∷ []

-- delivered: the function 3 alone, after constants of its own
abbrev one : ℕ → ℕ → ℕ → List Instruction → List ℕ → Entries → Result
one parameters locals rescue code positions constants =
    delivered (plain parameters locals rescue code positions ∷ []) (constants ++ (constant function_kind 0 ∷ []))

-- and without parameters, locals and rescue
abbrev body : List Instruction → List ℕ → Entries → Result
body code positions constants = one 0 0 0 code positions constants

-- 0.5
abbrev half : ℕ
half = 4602678819172646912

-- the book of 01's listing: a public function f with parameter x, `if x return end`; the positions of x and of `return`
abbrev at_x : ℕ
at_x = pack_position 2 6

abbrev at_return : ℕ
at_return = pack_position 3 5

abbrev pub example : List ℕ
example = book (r 15 7 (pack_position 1 10) 3 ∷ r 40 1 0 4 ∷ r 25 5 0 0 ∷ r 42 4 0 0 ∷ r 30 1 at_x 4 ∷ r 43 2 0 0 ∷ r 21 1 at_return 0 ∷ [])

-- its lines, by their eight numbers
abbrev pub example_lines : List (List ℕ)
example_lines =
    (1 ∷ 1 ∷ 4 ∷ 0 ∷ 1 ∷ 0 ∷ 1 ∷ 0 ∷ [])
    ∷ (2 ∷ 0 ∷ 1 ∷ 1 ∷ 0 ∷ 0 ∷ 0 ∷ 3 ∷ [])
    ∷ (3 ∷ 0 ∷ 0 ∷ 2 ∷ 6 ∷ 7 ∷ 0 ∷ 0 ∷ [])
    ∷ (3 ∷ 0 ∷ 1 ∷ 2 ∷ 6 ∷ 82 ∷ 0 ∷ 4 ∷ [])
    ∷ (3 ∷ 0 ∷ 2 ∷ 2 ∷ 6 ∷ 2 ∷ 0 ∷ 0 ∷ [])
    ∷ (3 ∷ 0 ∷ 3 ∷ 2 ∷ 6 ∷ 81 ∷ 0 ∷ 6 ∷ [])
    ∷ (3 ∷ 0 ∷ 4 ∷ 2 ∷ 6 ∷ 2 ∷ 0 ∷ 0 ∷ [])
    ∷ (3 ∷ 0 ∷ 5 ∷ 3 ∷ 5 ∷ 5 ∷ 0 ∷ 0 ∷ [])
    ∷ (4 ∷ 0 ∷ 0 ∷ 0 ∷ 0 ∷ 0 ∷ 0 ∷ 0 ∷ [])
    ∷ (4 ∷ 1 ∷ 1 ∷ 0 ∷ 0 ∷ 0 ∷ 0 ∷ 1 ∷ [])
    ∷ (4 ∷ 2 ∷ 1 ∷ 0 ∷ 0 ∷ 0 ∷ 0 ∷ 0 ∷ [])
    ∷ (4 ∷ 3 ∷ 6 ∷ 0 ∷ 0 ∷ 0 ∷ 0 ∷ 0 ∷ [])
    ∷ (8 ∷ 0 ∷ 3 ∷ 0 ∷ 0 ∷ 0 ∷ 0 ∷ 0 ∷ [])
    ∷ (10 ∷ 0 ∷ 0 ∷ 0 ∷ 0 ∷ 0 ∷ 0 ∷ 2 ∷ [])
    ∷ []

-- (a) to (l). `listing`: from words to the lines' eight numbers
pub record BenchPieces (listing : List ℕ → List (List ℕ)) : Type 0 where
  -- (a) an empty body: PushConstant 0, Return, positions 0. Constant 3 is the function itself
  pub a : run (function []) ≡ body null_returned (0 ∷ 0 ∷ []) []
  -- (b) a lone outside break: the same
  pub b : run (function (r 22 1 9 0 ∷ [])) ≡ run (function [])
  -- (c) `return return`: length 2
  pub c : run (function (r 21 1 1 0 ∷ r 21 1 2 0 ∷ [])) ≡ body null_returned (0 ∷ 1 ∷ []) []
  -- (d) a lone rescue: length 2, rescue 2
  pub d : run (function (r 23 1 1 0 ∷ [])) ≡ one 0 0 2 null_returned (0 ∷ 1 ∷ []) []
  -- (e) rescue in an if: error 4
  pub e : run (expression (r 42 4 0 0 ∷ r 32 1 0 0 ∷ r 43 2 0 0 ∷ r 23 1 8 0 ∷ [])) ≡ refused 7 2 (error 4 8 23 0 ∷ [])
  -- (f) 7 twice: constant 3 twice
  pub f : run (function (r 25 2 0 0 ∷ r 33 1 5 7 ∷ r 25 2 0 0 ∷ r 33 1 6 7 ∷ []))
      ≡ body (op PushConstant 3 ∷ op₀ Pop ∷ op PushConstant 3 ∷ op₀ ReturnOp ∷ []) (5 ∷ 5 ∷ 6 ∷ 6 ∷ []) (constant integer_kind 7 ∷ [])
  -- 0.5 twice: constant 3 twice (2026-05)
  pub f_floats : run (function (r 25 2 0 0 ∷ r 34 1 5 half ∷ r 25 2 0 0 ∷ r 34 1 6 half ∷ []))
      ≡ body (op PushConstant 3 ∷ op₀ Pop ∷ op PushConstant 3 ∷ op₀ ReturnOp ∷ []) (5 ∷ 5 ∷ 6 ∷ 6 ∷ []) (constant float_kind half ∷ [])
  -- (g) a lone `this`, no parameter: LocalGet 0, Return, no locals
  pub g : run (expression (r 31 1 5 0 ∷ [])) ≡ body (op LocalGet 0 ∷ op₀ ReturnOp ∷ []) (5 ∷ 5 ∷ []) []
  -- (h) parameter x, `for i in x break end`: length 15; JumpIf at 7 and Jump at 10 go to 13
  pub h : run (function (r 40 1 0 4 ∷ r 24 4 1 0 ∷ r 40 1 2 5 ∷ r 30 1 4 4 ∷ r 22 1 3 0 ∷ []))
      ≡ one 1 4 0
      (op LocalGet 0 ∷ op LocalSet 1 ∷ op₀ Pop ∷ op PushConstant 3 ∷ op LocalSet 2 ∷ op₀ Pop ∷ op ForNext 1 ∷ op JumpIf 13 ∷ op LocalSet 3
      ∷ op₀ Pop ∷ op Jump 13 ∷ op Iterate 2 ∷ op Jump 6 ∷ op PushConstant 0 ∷ op₀ ReturnOp ∷ [])
      (4 ∷ 1 ∷ 1 ∷ 1 ∷ 1 ∷ 1 ∷ 1 ∷ 1 ∷ 2 ∷ 2 ∷ 3 ∷ 3 ∷ 3 ∷ 3 ∷ 3 ∷ []) (constant integer_kind 0 ∷ [])
  -- (i) `a != b`: Operation 5, Not
  pub i : run (function (r 40 1 0 4 ∷ r 40 1 0 5 ∷ r 25 4 0 0 ∷ r 39 3 7 12 ∷ r 30 1 5 4 ∷ r 30 1 6 5 ∷ []))
      ≡ one 2 2 0 (op LocalGet 0 ∷ op LocalGet 1 ∷ op Operation 5 ∷ op₀ Not ∷ op₀ ReturnOp ∷ []) (5 ∷ 6 ∷ 7 ∷ 7 ∷ 7 ∷ []) []
  -- (j) assignment to 1: error 2
  pub j : run (expression (r 39 3 8 0 ∷ r 33 1 0 1 ∷ r 33 1 0 7 ∷ [])) ≡ refused 7 2 (error 2 8 39 0 ∷ [])
  -- (k) implement on a function's name: error 9
  pub k : run (book (r 14 1 0 3 ∷ r 16 1 8 3 ∷ [])) ≡ refused 7 2 (error 9 8 16 3 ∷ [])
  -- on an unknown name: 10
  pub k_unknown : run (book (r 16 1 8 3 ∷ [])) ≡ refused 7 2 (error 10 8 16 3 ∷ [])
  -- (l) the listing of 01's example
  pub l : listing example ≡ example_lines

-- models 3 and 4, the second public, with properties 7 and 8
abbrev models : List (List ℕ)
models = r 12 2 0 3 ∷ r 40 1 0 7 ∷ r 13 2 0 4 ∷ r 40 1 0 8 ∷ []

-- a context local 5 without value (number 0), then the function 3 (number 1) with one statement, an expression
abbrev after_local : List (List ℕ) → List ℕ
after_local e = book (r 10 3 0 0 ∷ r 40 1 0 5 ∷ r 49 1 0 0 ∷ r 14 (length e + 2) 0 3 ∷ r 25 (length e + 1) 0 0 ∷ e)

-- a row for each kind of record that no bench piece has
pub record Kinds : Type 0 where
  -- 10: context locals with null, true, an integer, a float, and absent: file, name, whether there is a value, its constant
  pub local_definition : table 7 (book (r 10 11 0 0 ∷ r 40 1 0 3 ∷ r 32 1 0 0 ∷ r 40 1 0 4 ∷ r 36 1 0 1 ∷ r 40 1 0 5 ∷ r 33 1 0 7 ∷ r 40 1 0 6 ∷ r 34 1 0 half
      ∷ r 40 1 0 7 ∷ r 49 1 0 0 ∷ []))
      ≡ (0 ∷ 3 ∷ 1 ∷ 0 ∷ []) ∷ (0 ∷ 4 ∷ 1 ∷ 1 ∷ []) ∷ (0 ∷ 5 ∷ 1 ∷ 3 ∷ []) ∷ (0 ∷ 6 ∷ 1 ∷ 4 ∷ []) ∷ (0 ∷ 7 ∷ 0 ∷ 0 ∷ []) ∷ []
  -- 11: an included name gets the public constant of its book, an unknown one no value
  pub include : table 7 (bundle (r 1 6 0 2 ∷ r 11 5 0 5 ∷ r 40 1 0 3 ∷ r 40 1 0 6 ∷ r 40 1 0 7 ∷ r 40 1 0 8 ∷ r 1 2 0 5 ∷ r 15 1 0 3 ∷ []))
      ≡ (0 ∷ 3 ∷ 1 ∷ 3 ∷ []) ∷ (1 ∷ 6 ∷ 1 ∷ 3 ∷ []) ∷ (1 ∷ 8 ∷ 0 ∷ 0 ∷ []) ∷ []
  -- 12 and 13: models (file, name), properties (model, name), public names (file, name, constant) and constants
  pub model : table 4 (book models) ≡ (0 ∷ 3 ∷ []) ∷ (0 ∷ 4 ∷ []) ∷ []
  pub property : table 5 (book models) ≡ (0 ∷ 7 ∷ []) ∷ (1 ∷ 8 ∷ []) ∷ []
  pub public_model : table 8 (book models) ≡ (0 ∷ 4 ∷ 4 ∷ []) ∷ []
  pub model_constant : run (book models) ≡ delivered [] (constant model_kind 0 ∷ constant model_kind 1 ∷ [])
  -- 14 and 15: parameters, locals, rescue, instance mark, first instruction, length, file, name; and the public name
  pub two_functions : table 3 (book (r 14 2 0 3 ∷ r 40 1 0 5 ∷ r 15 1 0 4 ∷ []))
      ≡ (1 ∷ 1 ∷ 0 ∷ 0 ∷ 0 ∷ 2 ∷ 0 ∷ 3 ∷ []) ∷ (0 ∷ 0 ∷ 0 ∷ 0 ∷ 2 ∷ 2 ∷ 0 ∷ 4 ∷ []) ∷ []
  pub public_function : table 8 (book (r 14 2 0 3 ∷ r 40 1 0 5 ∷ r 15 1 0 4 ∷ [])) ≡ (0 ∷ 4 ∷ 4 ∷ []) ∷ []
  -- 16 and 41: the instance mark
  pub instance_function : table 3 (book (r 12 1 0 3 ∷ r 16 3 0 3 ∷ r 14 2 0 5 ∷ r 41 1 0 6 ∷ [])) ≡ (1 ∷ 1 ∷ 0 ∷ 1 ∷ 0 ∷ 2 ∷ 0 ∷ 5 ∷ []) ∷ []
  -- a method (model, name, function) goes to the model that is named: here the second
  pub implement : table 6 (book (r 12 1 0 3 ∷ r 12 1 0 4 ∷ r 16 2 0 4 ∷ r 14 1 0 5 ∷ [])) ≡ (1 ∷ 5 ∷ 0 ∷ []) ∷ []
  -- 17: the methods of 3 (5 and 6) are given to 4, which had a 5 of its own
  pub apply : table 6 (book (r 12 1 0 3 ∷ r 12 1 0 4 ∷ r 16 3 0 3 ∷ r 14 1 0 5 ∷ r 14 1 0 6 ∷ r 16 2 0 4 ∷ r 14 1 0 5
      ∷ r 17 3 0 0 ∷ r 40 1 0 3 ∷ r 40 1 0 4 ∷ []))
      ≡ (0 ∷ 5 ∷ 0 ∷ []) ∷ (0 ∷ 6 ∷ 1 ∷ []) ∷ (1 ∷ 5 ∷ 0 ∷ []) ∷ (1 ∷ 6 ∷ 1 ∷ []) ∷ []
  -- 20: `local x = 7, y`
  pub local_statement : run (function (r 20 5 0 0 ∷ r 40 1 5 4 ∷ r 33 1 6 7 ∷ r 40 1 7 8 ∷ r 49 1 0 0 ∷ []))
      ≡ one 0 2 0 (op PushConstant 3 ∷ op LocalInit 0 ∷ op PushConstant 0 ∷ op₀ ReturnOp ∷ []) (6 ∷ 5 ∷ 5 ∷ 5 ∷ []) (constant integer_kind 7 ∷ [])
  -- 30: a context local read and set
  pub context_get : run (after_local (r 30 1 8 5 ∷ [])) ≡ body (op ContextGet 0 ∷ op₀ ReturnOp ∷ []) (8 ∷ 8 ∷ []) []
  pub context_set : run (after_local (r 39 3 9 0 ∷ r 30 1 8 5 ∷ r 32 1 7 0 ∷ []))
      ≡ body (op PushConstant 0 ∷ op ContextSet 0 ∷ op₀ ReturnOp ∷ []) (7 ∷ 9 ∷ 9 ∷ []) []
  -- a global read and set: its name is a text with the global mark
  pub global_get : run (expression (r 30 1 8 9 ∷ []))
      ≡ body (op GlobalGet 3 ∷ op₀ ReturnOp ∷ []) (8 ∷ 8 ∷ []) (marked text_kind 9 ∷ [])
  pub global_set : run (expression (r 39 3 9 0 ∷ r 30 1 8 9 ∷ r 32 1 7 0 ∷ []))
      ≡ body (op PushConstant 0 ∷ op GlobalSet 3 ∷ op₀ ReturnOp ∷ []) (7 ∷ 9 ∷ 9 ∷ []) (marked text_kind 9 ∷ [])
  -- a local set: the value before the target
  pub local_set : run (function (r 40 1 0 4 ∷ r 25 4 0 0 ∷ r 39 3 9 0 ∷ r 30 1 8 4 ∷ r 32 1 7 0 ∷ []))
      ≡ one 1 1 0 (op PushConstant 0 ∷ op LocalSet 0 ∷ op₀ ReturnOp ∷ []) (7 ∷ 9 ∷ 9 ∷ []) []
  -- 32 to 36: null, true, false, an integer, a float, a text without mark
  pub literals : run (function (r 25 2 0 0 ∷ r 32 1 1 0 ∷ r 25 2 0 0 ∷ r 36 1 2 1 ∷ r 25 2 0 0 ∷ r 36 1 3 0 ∷ r 25 2 0 0 ∷ r 33 1 4 7
      ∷ r 25 2 0 0 ∷ r 34 1 5 half ∷ r 25 2 0 0 ∷ r 35 1 6 9 ∷ []))
      ≡ body (op PushConstant 0 ∷ op₀ Pop ∷ op PushConstant 1 ∷ op₀ Pop ∷ op PushConstant 2 ∷ op₀ Pop ∷ op PushConstant 3 ∷ op₀ Pop
      ∷ op PushConstant 4 ∷ op₀ Pop ∷ op PushConstant 5 ∷ op₀ ReturnOp ∷ [])
      (1 ∷ 1 ∷ 2 ∷ 2 ∷ 3 ∷ 3 ∷ 4 ∷ 4 ∷ 5 ∷ 5 ∷ 6 ∷ 6 ∷ [])
      (constant integer_kind 7 ∷ constant float_kind half ∷ constant text_kind 9 ∷ [])
  -- 37: two values
  pub array : run (expression (r 37 3 9 0 ∷ r 32 1 5 0 ∷ r 36 1 6 1 ∷ []))
      ≡ body (op PushConstant 0 ∷ op PushConstant 1 ∷ op ArrayOp 2 ∷ op₀ ReturnOp ∷ []) (5 ∷ 6 ∷ 9 ∷ 9 ∷ []) []
  -- 38: Minus and Not
  pub minus : run (expression (r 38 2 9 0 ∷ r 31 1 5 0 ∷ [])) ≡ body (op LocalGet 0 ∷ op₀ Negative ∷ op₀ ReturnOp ∷ []) (5 ∷ 9 ∷ 9 ∷ []) []
  pub not : run (expression (r 38 2 9 1 ∷ r 31 1 5 0 ∷ [])) ≡ body (op LocalGet 0 ∷ op₀ Not ∷ op₀ ReturnOp ∷ []) (5 ∷ 9 ∷ 9 ∷ []) []
  -- 39: every infix value of 01, from 0 on, and what it asks for
  pub infix_operations : map infix_kind (0 ∷ 1 ∷ 2 ∷ 3 ∷ 4 ∷ 5 ∷ 6 ∷ 7 ∷ 8 ∷ 9 ∷ 10 ∷ 11 ∷ 12 ∷ 13 ∷ 14 ∷ 15 ∷ 16 ∷ 17 ∷ 18 ∷ 19 ∷ []) ≡
      Assigning
      ∷ Plain OPERATION_ADD ∷ Plain OPERATION_SUB ∷ Plain OPERATION_MULTIPLY ∷ Plain OPERATION_DIVIDE ∷ Plain OPERATION_MOD
      ∷ Compound OPERATION_ADD ∷ Compound OPERATION_SUB ∷ Compound OPERATION_MULTIPLY ∷ Compound OPERATION_DIVIDE ∷ Compound OPERATION_MOD
      ∷ Plain OPERATION_EQUAL ∷ Negated OPERATION_EQUAL ∷ Plain OPERATION_GREATER ∷ Plain OPERATION_LESS ∷ Plain OPERATION_GREATER_EQUAL
      ∷ Plain OPERATION_LESS_EQUAL ∷ Plain OPERATION_AND ∷ Plain OPERATION_OR ∷ Unknown ∷ []
  -- `this + null`, and `this.t += null`, whose target is compiled twice
  pub plus : run (expression (r 39 3 9 1 ∷ r 31 1 5 0 ∷ r 32 1 6 0 ∷ []))
      ≡ body (op LocalGet 0 ∷ op PushConstant 0 ∷ op Operation 0 ∷ op₀ ReturnOp ∷ []) (5 ∷ 6 ∷ 9 ∷ 9 ∷ []) []
  pub compound_twice : run (expression (r 39 5 9 6 ∷ r 45 3 8 0 ∷ r 31 1 5 0 ∷ r 35 1 6 7 ∷ r 32 1 7 0 ∷ []))
      ≡ body (op LocalGet 0 ∷ op PushConstant 3 ∷ op₀ InstanceGetOp ∷ op PushConstant 0 ∷ op Operation 0 ∷ op LocalGet 0 ∷ op PushConstant 3 ∷ op₀ InstanceSet
      ∷ op₀ ReturnOp ∷ [])
      (5 ∷ 6 ∷ 8 ∷ 7 ∷ 9 ∷ 5 ∷ 6 ∷ 8 ∷ 8 ∷ []) (constant text_kind 7 ∷ [])
  -- 42 and 43: `if true 7 else 8 end`: the false part before the true part
  pub if_else : run (expression (r 42 8 0 0 ∷ r 36 1 4 1 ∷ r 43 3 0 0 ∷ r 25 2 0 0 ∷ r 33 1 5 7 ∷ r 43 3 0 0 ∷ r 25 2 0 0 ∷ r 33 1 6 8 ∷ []))
      ≡ body (op PushConstant 1 ∷ op JumpIf 4 ∷ op PushConstant 3 ∷ op Jump 5 ∷ op PushConstant 4 ∷ op₀ ReturnOp ∷ []) (4 ∷ 4 ∷ 6 ∷ 6 ∷ 5 ∷ 5 ∷ [])
      (constant integer_kind 8 ∷ constant integer_kind 7 ∷ [])
  -- 44: the function itself is called, with one parameter
  pub call : run (expression (r 44 3 9 0 ∷ r 30 1 5 3 ∷ r 32 1 6 0 ∷ []))
      ≡ body (op ContextGet 0 ∷ op PushConstant 0 ∷ op CallOp 1 ∷ op₀ ReturnOp ∷ []) (5 ∷ 6 ∷ 9 ∷ 9 ∷ []) []
  -- 45 and 46: read, and set to null
  pub instance_get : run (expression (r 45 3 9 0 ∷ r 31 1 5 0 ∷ r 36 1 6 1 ∷ []))
      ≡ body (op LocalGet 0 ∷ op PushConstant 1 ∷ op₀ InstanceGetOp ∷ op₀ ReturnOp ∷ []) (5 ∷ 6 ∷ 9 ∷ 9 ∷ []) []
  pub instance_set : run (expression (r 39 5 4 0 ∷ r 45 3 9 0 ∷ r 31 1 5 0 ∷ r 36 1 6 1 ∷ r 32 1 7 0 ∷ []))
      ≡ body (op PushConstant 0 ∷ op LocalGet 0 ∷ op PushConstant 1 ∷ op₀ InstanceSet ∷ op₀ ReturnOp ∷ []) (7 ∷ 5 ∷ 6 ∷ 9 ∷ 9 ∷ []) []
  pub index_get : run (expression (r 46 3 9 0 ∷ r 31 1 5 0 ∷ r 36 1 6 1 ∷ []))
      ≡ body (op LocalGet 0 ∷ op PushConstant 1 ∷ op₀ IndexGetOp ∷ op₀ ReturnOp ∷ []) (5 ∷ 6 ∷ 9 ∷ 9 ∷ []) []
  pub index_set : run (expression (r 39 5 4 0 ∷ r 46 3 9 0 ∷ r 31 1 5 0 ∷ r 36 1 6 1 ∷ r 32 1 7 0 ∷ []))
      ≡ body (op PushConstant 0 ∷ op LocalGet 0 ∷ op PushConstant 1 ∷ op₀ IndexSet ∷ op₀ ReturnOp ∷ []) (7 ∷ 5 ∷ 6 ∷ 9 ∷ 9 ∷ []) []

-- a row for each error of 01, with its token. Bench pieces (e), (j) and (k) have errors 4, 2, and 9 and 10 of an implement
pub record Errors : Type 0 where
  -- 1: of `local x, x` the second
  pub variable_exists : run (function (r 20 5 0 0 ∷ r 40 1 7 4 ∷ r 49 1 0 0 ∷ r 40 1 8 4 ∷ r 49 1 0 0 ∷ [])) ≡ refused 7 2 (error 1 8 40 4 ∷ [])
  -- 2: the assignment, here `7 += null`
  pub can_not_assign : run (expression (r 39 3 8 6 ∷ r 33 1 6 7 ∷ r 32 1 7 0 ∷ [])) ≡ refused 7 2 (error 2 8 39 6 ∷ [])
  -- 3: the infix or the prefix. An infix leaves its statement's Pop alone; then emit_return empties the list, where the Rust panics
  pub unknown_infix : run (expression (r 39 3 8 19 ∷ r 32 1 6 0 ∷ r 32 1 7 0 ∷ [])) ≡ refused 7 2 (error 3 8 39 19 ∷ [])
  pub unknown_prefix : run (expression (r 38 2 8 2 ∷ r 32 1 7 0 ∷ [])) ≡ refused 7 2 (error 3 8 38 2 ∷ [])
  -- 4: the rescue, here in a loop
  pub rescue_in_loop : run (function (r 24 4 1 0 ∷ r 40 1 2 4 ∷ r 32 1 3 0 ∷ r 23 1 8 0 ∷ [])) ≡ refused 7 2 (error 4 8 23 0 ∷ [])
  -- 5: the value: an identifier, a text, another token
  pub no_constant : run (book (r 10 7 0 0 ∷ r 40 1 0 3 ∷ r 30 1 6 9 ∷ r 40 1 0 4 ∷ r 35 1 7 9 ∷ r 40 1 0 5 ∷ r 47 1 8 0 ∷ []))
      ≡ refused 7 2 (error 5 6 30 9 ∷ error 5 7 35 9 ∷ error 5 8 47 0 ∷ [])
  -- 6: of two properties of a name the second
  pub property_exists : run (book (r 12 3 0 3 ∷ r 40 1 7 5 ∷ r 40 1 8 5 ∷ [])) ≡ refused 7 2 (error 6 8 40 5 ∷ [])
  -- 7: of two parameters of a name the second
  pub parameter_exists : run (function (r 40 1 7 4 ∷ r 40 1 8 4 ∷ [])) ≡ refused 7 2 (error 7 8 40 4 ∷ [])
  -- 8: the function, outside of an implement
  pub instance_outside : run (book (r 14 2 7 3 ∷ r 41 1 0 5 ∷ r 15 2 8 4 ∷ r 41 1 0 5 ∷ [])) ≡ refused 7 2 (error 8 7 14 3 ∷ error 8 8 15 4 ∷ [])
  -- 9 and 10 of an apply, whose target is looked at after a faulty source too
  pub not_a_model : run (book (r 14 1 0 3 ∷ r 17 3 0 0 ∷ r 40 1 7 3 ∷ r 40 1 8 3 ∷ [])) ≡ refused 7 2 (error 9 7 40 3 ∷ error 9 8 40 3 ∷ [])
  pub no_model : run (book (r 17 3 0 0 ∷ r 40 1 7 3 ∷ r 40 1 8 4 ∷ [])) ≡ refused 7 2 (error 10 7 40 3 ∷ error 10 8 40 4 ∷ [])
  -- 11: a book that includes itself is a ring of one
  pub self_include : run (book (r 11 1 8 2 ∷ [])) ≡ refused 8 1 (error 11 0 0 2 ∷ [])
  -- in the order in which they come, and of the first book that has some
  pub several : run (bundle (r 1 4 0 2 ∷ r 11 1 0 5 ∷ r 16 1 7 3 ∷ r 16 1 8 4 ∷ r 1 3 0 5 ∷ r 16 1 5 3 ∷ r 16 1 6 4 ∷ []))
      ≡ refused 7 5 (error 10 5 16 3 ∷ error 10 6 16 4 ∷ [])

-- n array expressions in each other, in a statement of the function: the innermost stands at level 3 + n
abbrev nested : ℕ → List (List ℕ)
nested zero = []
nested (suc n) = r 37 (suc n) 0 0 ∷ nested n

-- the words that 01's example takes of each area, and the areas of which it takes some
abbrev pub exact : List ℕ
exact = 0 ∷ 14 ∷ 12 ∷ 8 ∷ 0 ∷ 0 ∷ 0 ∷ 4 ∷ 3 ∷ 2 ∷ 0 ∷ 0 ∷ 1 ∷ []

abbrev example_areas : List ℕ
example_areas = 1 ∷ 2 ∷ 3 ∷ 7 ∷ 8 ∷ 9 ∷ 12 ∷ []

-- a model with a property and a method, and a function with (h)'s loop: one entry of areas 4, 5, 6 and 10
abbrev model_and_loop : List ℕ
model_and_loop = book (r 12 2 0 3 ∷ r 40 1 0 7 ∷ r 16 2 0 3 ∷ r 14 1 0 5 ∷ r 14 6 0 4 ∷ r 40 1 0 4 ∷ r 24 4 1 0 ∷ r 40 1 2 5 ∷ r 30 1 4 4 ∷ r 22 1 3 0 ∷ [])

abbrev other_areas : List ℕ
other_areas = 4 ∷ 5 ∷ 6 ∷ 10 ∷ []

-- one area after the other as long as `lengths` says, less a number of words, the others ample
abbrev in_turn : ℕ → List ℕ → List ℕ → List ℕ → List Result
in_turn less lengths w areas = map (λ area. run_in (set ample area (get_or lengths area 0 - less)) w) areas

-- the row that the call answers
abbrev row_of : Result → ℕ
row_of x = x.row

-- the deepest level that 01 allows, and one more
pub record Levels : Type 0 where
  -- level 64: 61 arrays in each other. The 0 is the row: delivered
  pub level_64 : row_of (run_in (0 ∷ replicate 12 400) (expression (nested 61))) ≡ 0
  -- level 65: the record at index 64
  pub level_65 : run_in (0 ∷ replicate 12 400) (expression (nested 62)) ≡ refused 4 64 []

-- every area exactly full, and one word short: row 9 and the area. The code of 01's example takes a seventh entry for a Pop and gives it back
pub record ExactAreas : Type 0 where
  pub full : in_turn 0 exact example example_areas ≡ map (λ area. run example) example_areas
  pub short : in_turn 1 exact example example_areas ≡ map (λ area. refused 9 area []) example_areas
  pub full_models : in_turn 0 widths model_and_loop other_areas ≡ map (λ area. run model_and_loop) other_areas
  pub short_models : in_turn 1 widths model_and_loop other_areas ≡ map (λ area. refused 9 area []) other_areas

-- what 01 asks a program to run, and its rows and rules
pub record Cases : Type 0 where
  -- text 1,048,575 and 1,048,576
  pub text_most : run (bundle (r 1 1 0 1048575 ∷ [])) ≡ delivered [] []
  pub text_over : run (bundle (r 1 1 0 1048576 ∷ [])) ≡ refused 3 0 []
  -- no records
  pub no_records : run [] ≡ refused 3 0 []
  pub full_errors : run_in (set ample 11 4) (book (r 16 1 8 3 ∷ [])) ≡ refused 7 2 (error 10 8 16 3 ∷ [])
  pub short_errors : run_in (set ample 11 3) (book (r 16 1 8 3 ∷ [])) ≡ refused 9 11 []
  -- every area empty: the first constants come first
  pub all_empty : run_in (replicate 13 0) example ≡ refused 9 2 []
  -- row 6 comes before row 9
  pub missing_first : run_in (replicate 13 0) (book (r 11 1 0 3 ∷ [])) ≡ refused 6 3 []
  -- row 5: the index of the second
  pub twice_over : run (bundle (r 1 2 0 2 ∷ r 12 1 0 3 ∷ r 1 1 0 2 ∷ [])) ≡ refused 5 2 []
  -- an include below another definition is needed too, and of several each
  pub late_include : run (book (r 12 1 0 7 ∷ r 11 1 0 3 ∷ [])) ≡ refused 6 3 []
  pub second_late_include : run (bundle (r 1 4 0 2 ∷ r 12 1 0 7 ∷ r 11 1 0 3 ∷ r 11 1 0 4 ∷ r 1 1 0 3 ∷ [])) ≡ refused 6 4 []
  -- a chain of includes: book 2 includes 3, which includes 4, which includes 5, and there is no book 5
  pub include_chain : run (bundle (r 1 2 0 2 ∷ r 11 1 0 3 ∷ r 1 2 0 3 ∷ r 11 1 0 4 ∷ r 1 2 0 4 ∷ r 11 1 0 5 ∷ [])) ≡ refused 6 5 []
  -- a book that includes itself below another definition is a ring
  pub late_self_include : run (book (r 12 1 0 7 ∷ r 11 1 8 2 ∷ [])) ≡ refused 8 1 (error 11 0 0 2 ∷ [])
  -- its book comes first, whatever its number
  pub late_include_first : table 12 (bundle (r 1 3 0 2 ∷ r 12 1 0 7 ∷ r 11 1 0 3 ∷ r 1 1 0 3 ∷ [])) ≡ (3 ∷ []) ∷ (2 ∷ []) ∷ []
  -- a book that is not needed needs none
  pub include_not_needed : table 12 (bundle (r 1 1 0 2 ∷ r 1 2 0 3 ∷ r 11 1 0 4 ∷ [])) ≡ (2 ∷ []) ∷ []
  -- two books, the included one first: its functions come first
  pub smallest_first : run (bundle (r 1 3 0 2 ∷ r 11 1 0 5 ∷ r 14 1 0 3 ∷ r 1 3 0 5 ∷ r 14 2 0 4 ∷ r 21 1 8 0 ∷ []))
      ≡ delivered (plain 0 0 0 null_returned (0 ∷ 8 ∷ []) ∷ plain 0 0 0 null_returned (0 ∷ 0 ∷ []) ∷ [])
      (constant function_kind 0 ∷ constant function_kind 1 ∷ [])
  -- a break in the inner of two loops lands just after the inner one, and one after it just after the outer one
  pub innermost_break : map (λ f. map (λ i. (get_or f.code i (op₀ 0)).operand) (7 ∷ 17 ∷ 20 ∷ 23 ∷ []))
      (run (function (r 40 1 0 4 ∷ r 24 9 1 0 ∷ r 40 1 2 5 ∷ r 30 1 3 4 ∷ r 24 4 4 0 ∷ r 40 1 5 6 ∷ r 30 1 6 4 ∷ r 22 1 7 0 ∷ r 22 1 8 0 ∷ r 21 1 9 0 ∷ []))
      ).functions
      ≡ (28 ∷ 23 ∷ 23 ∷ 28 ∷ []) ∷ []
  -- a repeated top-level name keeps the first local, without error
  pub repeated_name : table 7 (book (r 14 1 0 3 ∷ r 12 1 0 3 ∷ [])) ≡ (0 ∷ 3 ∷ 1 ∷ 3 ∷ []) ∷ []
  -- of two functions called main (text 1) the last is the entry point
  pub last_main : entry (book (r 14 1 0 3 ∷ r 14 1 0 1 ∷ r 14 1 0 1 ∷ [])) ≡ 2
  -- a name that is made public twice has one entry, with its last constant
  pub last_public : table 8 (book (r 15 1 0 3 ∷ r 15 1 0 3 ∷ [])) ≡ (0 ∷ 3 ∷ 4 ∷ []) ∷ []
  -- the whole of 01's example: its function, the words of every area, exactly full, and the totals
  pub example_compiled : run example ≡ one 1 1 0
      (op LocalGet 0 ∷ op JumpIf 4 ∷ op PushConstant 0 ∷ op Jump 6 ∷ op PushConstant 0 ∷ op₀ ReturnOp ∷ [])
      (at_x ∷ at_x ∷ at_x ∷ at_x ∷ at_x ∷ at_return ∷ []) []
  pub example_words : words_in exact example ≡ []
      ∷ (504403158265495552 ∷ at_x ∷ 5908722711110090756 ∷ at_x ∷ 144115188075855872 ∷ at_x ∷ 5836665117072162822 ∷ at_x ∷ 144115188075855872
      ∷ at_x ∷ 360287970189639680 ∷ at_return ∷ 0 ∷ 0 ∷ [])
      ∷ (0 ∷ 0 ∷ 0 ∷ 1 ∷ 1 ∷ 0 ∷ 1 ∷ 0 ∷ 0 ∷ 6 ∷ 0 ∷ 0 ∷ [])
      ∷ (1 ∷ 1 ∷ 0 ∷ 0 ∷ 0 ∷ 6 ∷ 0 ∷ 3 ∷ [])
      ∷ [] ∷ [] ∷ []
      ∷ (0 ∷ 3 ∷ 1 ∷ 3 ∷ [])
      ∷ (0 ∷ 3 ∷ 3 ∷ [])
      ∷ (0 ∷ 0 ∷ [])
      ∷ [] ∷ []
      ∷ (2 ∷ [])
      ∷ []
  pub example_totals : totals_in exact example ≡ 0 ∷ 6 ∷ 4 ∷ 1 ∷ 0 ∷ 0 ∷ 0 ∷ 1 ∷ 1 ∷ 0 ∷ 0 ∷ 0 ∷ 1 ∷ []
