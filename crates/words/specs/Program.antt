-- `runtime/program.rs`: a function's record in area 3, the code that belongs to it, and an instruction of that code with its position
use Rattle.std.specs.Prelude.{ℕ, ◌+◌, ◌*◌, Bool, cond, List, [], length, take, drop, leb}
use Rattle.words.specs.Areas.{
  width_of,
  functions_area,
  code_area,
  entry_word,
  parameters_word,
  locals_word,
  rescue_word,
  instance_word,
  start_word,
  length_word,
  function_file_word,
  function_name_word,
}
use Rattle.words.specs.declared.program.FunctionRecord.{FunctionRecord}

-- word k of function i
abbrev pub function_word : List ℕ → ℕ → ℕ → ℕ
function_word w i k = entry_word (width_of functions_area) i k w

-- `Function`: entry i of area 3; 0 in every word that is not there
abbrev pub function_at : List ℕ → ℕ → FunctionRecord
function_at w i =
    record {
      parameters = function_word w i parameters_word;
      locals = function_word w i locals_word;
      rescue = function_word w i rescue_word;
      instance = function_word w i instance_word;
      start = function_word w i start_word;
      length = function_word w i length_word;
      file = function_word w i function_file_word;
      name = function_word w i function_name_word;
    }

-- whether a function's code lies in an area of n words
abbrev pub code_fits : FunctionRecord → ℕ → Bool
code_fits f n = leb ((f.start + f.length) * width_of code_area) n

-- the part of the code area that a function's code is; empty where it does not fit
unfoldable pub code_of : List ℕ → FunctionRecord → List ℕ
code_of w f = cond (code_fits f (length w)) (take (f.length * width_of code_area) (drop (f.start * width_of code_area) w)) []

-- the words of instruction i of a part of the code area: the instruction's, and its position
abbrev pub instruction_word : List ℕ → ℕ → ℕ
instruction_word part i = entry_word (width_of code_area) i 0 part

abbrev pub instruction_position : List ℕ → ℕ → ℕ
instruction_position part i = entry_word (width_of code_area) i 1 part
