-- Facts that would notice if demand 3 said less (`Within`): a small program that keeps every bound, one word changed at a time, and each change breaks the
-- bound of its own area and no other's; the logs of 01's pieces (g) and (h) and of a compound target that holds a loop. Computed; nothing rests on them
use Rattle.std.specs.Prelude.{ℕ, ◌+◌, ◌*◌, ◌≡◌, refl, Bool, true, false, cond, List, [], ◌∷◌, map, get_or, replicate, set, eqb}
use Rattle.std.proofs.Math.Option.{none, some}
use Rattle.words.specs.Areas.{width_of, code_area, constants_area, functions_area, models_area, properties_area, methods_area, context_locals_area}
use Rattle.words.specs.Areas.{public_names_area, books_area, locals_word, rescue_word, start_word, length_word, function_file_word}
use Rattle.words.specs.Object.{null_kind, boolean_kind, text_kind, model_kind, function_kind}
use Rattle.words.specs.Record.{in_place}
use Rattle.words.specs.Opcode.{to_instruction, word, unword, PushConstant, ReturnOp, LocalSet, LocalGet, LocalInit, ContextGet, ContextSet, GlobalGet}
use Rattle.words.specs.Opcode.{GlobalSet}
use Rattle.words.specs.Opcode.{Jump, JumpIf, ForNext, Iterate}
use Rattle.definition.specs.FunctionState.{Event, Entered, Broke, Left, Log}
use Rattle.definition.specs.Answer.{answer}
use Rattle.definition.specs.Within.{Program, all_below, area_bound, entry_point_bound, loops_of}
use Rattle.definition.specs.ProgramCheck.{area_fine, program_fault}
use Rattle.definition.specs.Promise.{logs_in}
use Rattle.definition.specs.Bench.{run}

-- an instruction and its position
abbrev op : ℕ → ℕ → List ℕ → List ℕ
op o n rest = word (to_instruction o n) ∷ 0 ∷ rest

-- Two books. Function 0 reads context local 0; function 1, a method, reads `this` and has no local; function 2 is a loop that breaks. One instruction
-- behind them is in no function
abbrev pub kept : Program
kept = record {
  areas = []
      ∷ op LocalSet 0 (op ContextGet 0 (op ReturnOp 0
      (op LocalGet 0 (op ReturnOp 0
      (op ForNext 0 (op JumpIf 5 (op Jump 5 (op Iterate 1 (op Jump 0 (op ReturnOp 0
      (op PushConstant 5 [])))))))))))
      ∷ (null_kind ∷ 0 ∷ 0 ∷ boolean_kind ∷ 1 ∷ 0 ∷ boolean_kind ∷ 0 ∷ 0 ∷ model_kind ∷ 0 ∷ 0 ∷ function_kind ∷ 1 ∷ 0 ∷ text_kind ∷ 11 ∷ 1 ∷ [])
      ∷ (0 ∷ 1 ∷ 0 ∷ 0 ∷ 0 ∷ 3 ∷ 0 ∷ 3 ∷ 0 ∷ 0 ∷ 2 ∷ 1 ∷ 3 ∷ 2 ∷ 0 ∷ 9 ∷ 0 ∷ 3 ∷ 0 ∷ 0 ∷ 5 ∷ 6 ∷ 1 ∷ 4 ∷ [])
      ∷ (0 ∷ 7 ∷ []) ∷ (0 ∷ 8 ∷ []) ∷ (0 ∷ 9 ∷ 1 ∷ []) ∷ (0 ∷ 10 ∷ 1 ∷ 3 ∷ []) ∷ (1 ∷ 7 ∷ 4 ∷ []) ∷ [] ∷ [] ∷ [] ∷ (3 ∷ 5 ∷ []) ∷ [];
  totals = 0 ∷ 12 ∷ 6 ∷ 3 ∷ 1 ∷ 1 ∷ 1 ∷ 1 ∷ 1 ∷ 0 ∷ 0 ∷ 0 ∷ 2 ∷ [];
  entry_point = 0;
  globals = 1;
}

-- its logs: function 1 reads `this` at 0; function 2 enters a loop, breaks at 2 and leaves it, its exit at 1 and just after it 5
abbrev pub noted : List Event → List ℕ → Log
noted trace this = record { trace = trace; this_reads = this }

abbrev pub kept_logs : List Log
kept_logs = noted [] [] ∷ noted [] (0 ∷ []) ∷ noted (Left 1 5 ∷ Broke 2 ∷ Entered ∷ []) [] ∷ []

-- word k of entry i of an area changed
pub record Change : Type 0 where
  pub area : ℕ
  pub entry : ℕ
  pub field : ℕ
  pub value : ℕ

abbrev pub changed : Program → Change → Program
changed p c = record {
  areas = set p.areas c.area (set (get_or p.areas c.area []) (c.entry * width_of c.area + c.field) c.value);
  totals = p.totals;
  entry_point = p.entry_point;
  globals = p.globals;
}

-- the bound of one area fails, and every other area's holds
abbrev pub breaks_only : ℕ → Program → Bool
breaks_only area p = all_below 13 (λ a. cond (eqb a area) (cond (area_bound p a) false true) (area_bound p a))

abbrev change : ℕ → ℕ → ℕ → ℕ → Change
change a i k v = record { area = a; entry = i; field = k; value = v }

-- an instruction changed
abbrev instruction : ℕ → ℕ → ℕ → Change
instruction i o n = change code_area i 0 (word (to_instruction o n))

-- each breaks one clause
abbrev pub broken : List Change
broken =
    -- a constant that is not there, in a function and in none; a context local; a jump past its function; locals past their count
    instruction 0 PushConstant 6 ∷ instruction 11 PushConstant 6 ∷ instruction 11 GlobalGet 6 ∷ instruction 0 GlobalSet 6
    ∷ instruction 1 ContextGet 1 ∷ instruction 11 ContextSet 1 ∷ instruction 6 JumpIf 7 ∷ instruction 9 Jump 7
    ∷ instruction 0 LocalSet 1 ∷ instruction 0 LocalGet 1 ∷ instruction 0 LocalInit 1 ∷ instruction 5 ForNext 3 ∷ instruction 8 Iterate 3
    ∷ instruction 3 LocalGet 1
    -- a model's and a function's constant; a mark
    ∷ change constants_area 3 1 1 ∷ change constants_area 4 1 3 ∷ change constants_area 5 2 2
    -- a function past area 1; its rescue position; its book
    ∷ change functions_area 2 start_word 7 ∷ change functions_area 0 rescue_word 4 ∷ change functions_area 2 function_file_word 2
    -- a model's book; a property's model; a method's model and function
    ∷ change models_area 0 0 2 ∷ change properties_area 0 0 1 ∷ change methods_area 0 0 1 ∷ change methods_area 0 2 3
    -- a context local's book, mark and constant; a public name's book and constant
    ∷ change context_locals_area 0 0 2 ∷ change context_locals_area 0 2 2 ∷ change context_locals_area 0 3 6
    ∷ change public_names_area 0 0 2 ∷ change public_names_area 0 2 6 ∷ []

kept_bounds : all_below 13 (area_bound kept) ≡ true
unfolding area_bound unword word
kept_bounds = refl

each_breaks_one : map (λ (c : Change). breaks_only c.area (changed kept c)) broken ≡ replicate 29 true
unfolding area_bound unword word
each_breaks_one = refl

-- these break none: a jump just behind its function, LocalGet 0 without locals, a function without instructions wherever it starts
abbrev allowed : List Change
allowed =
    instruction 9 Jump 6 ∷ instruction 4 LocalGet 0 ∷ instruction 11 Jump 99 ∷ instruction 11 LocalSet 99 ∷ change context_locals_area 0 2 0 ∷ []

none_breaks : map (λ (c : Change). all_below 13 (area_bound (changed kept c))) allowed ≡ replicate 5 true
unfolding area_bound unword word
none_breaks = refl

empty_function : all_below 13 (area_bound (changed (changed (changed kept (change functions_area 0 length_word 0)) (change functions_area 0 start_word 99))
    (change functions_area 0 locals_word 0))) ≡ true
unfolding area_bound unword word
empty_function = refl

-- the entry point: a function, or 0 where there is none
entry_points : map (λ (n : ℕ). entry_point_bound 3 n) (0 ∷ 2 ∷ 3 ∷ []) ≡ true ∷ true ∷ false ∷ []
entry_points = refl

no_function_lem : map (λ (n : ℕ). entry_point_bound 0 n) (0 ∷ 1 ∷ []) ≡ true ∷ false ∷ []
no_function_lem = refl

-- 2026-01's check: the program stands, a word that breaks a bound fails its own area, and so does what 01 does not know
stands : program_fault kept ≡ none
unfolding program_fault area_fine area_bound unword word in_place
stands = refl

bound_faults : map (λ (c : Change). program_fault (changed kept c)) broken ≡ map (λ (c : Change). some c.area) broken
unfolding program_fault area_fine area_bound unword word in_place
bound_faults = refl

-- an opcode and an operation that are none, a position, a kind, null, a boolean, a text; an instance mark, names, a context local's constant without a value;
-- a book's number, and one twice
abbrev unknown : List Change
unknown =
    instruction 11 0xFF 0 ∷ instruction 11 0x21 10 ∷ change code_area 11 1 0xFFFF_FFFF ∷ change code_area 11 1 100000000
    ∷ change code_area 11 1 429496729600000000 ∷ change constants_area 5 0 7 ∷ change constants_area 0 1 1
    ∷ change constants_area 1 1 2 ∷ change constants_area 5 1 0 ∷ change functions_area 0 3 2 ∷ change functions_area 0 7 0 ∷ change models_area 0 1 1048576
    ∷ change properties_area 0 1 0 ∷ change methods_area 0 1 0 ∷ change context_locals_area 0 1 0 ∷ change context_locals_area 0 2 0 ∷ change public_names_area
    0 1 0
    ∷ change books_area 0 0 0 ∷ change books_area 1 0 3 ∷ []

unknown_faults : map (λ (c : Change). program_fault (changed kept c)) unknown ≡ map (λ (c : Change). some c.area) unknown
unfolding program_fault area_fine area_bound unword word in_place
unknown_faults = refl

-- the reading of traces: a break belongs to the innermost loop that is open there

inner_and_outer : loops_of (Left 3 20 ∷ Broke 9 ∷ Left 7 12 ∷ Broke 8 ∷ Entered ∷ Broke 4 ∷ Entered ∷ [])
    ≡ record { exit = 7; breaks = 8 ∷ []; after = 12 } ∷ record { exit = 3; breaks = 4 ∷ 9 ∷ []; after = 20 } ∷ []
inner_and_outer = refl

-- what the definition logs of a bundle's functions

unfoldable logged : List ℕ → List Log
unfolding run
logged w = logs_in (answer false w (0 ∷ replicate 12 200))

-- (g) of 01: `this` is read at 0
this_logged : logged (1 ∷ 4 ∷ 0 ∷ 2 ∷ 14 ∷ 3 ∷ 0 ∷ 3 ∷ 25 ∷ 2 ∷ 0 ∷ 0 ∷ 31 ∷ 1 ∷ 0 ∷ 0 ∷ []) ≡ noted [] (0 ∷ []) ∷ []
unfolding logged
this_logged = refl

-- (h) of 01: exit 7, break 10, just after it 13
loop_logged : logged (1 ∷ 7 ∷ 0 ∷ 2 ∷ 14 ∷ 6 ∷ 0 ∷ 3 ∷ 40 ∷ 1 ∷ 0 ∷ 4 ∷ 24 ∷ 4 ∷ 1 ∷ 0 ∷ 40 ∷ 1 ∷ 2 ∷ 5 ∷ 30 ∷ 1 ∷ 4 ∷ 4 ∷ 22 ∷ 1 ∷ 3 ∷ 0 ∷ [])
    ≡ noted (Left 7 13 ∷ Broke 10 ∷ Entered ∷ []) [] ∷ []
unfolding logged
loop_logged = refl

-- a compound target that holds a loop is compiled twice, and so are two loops
target_logged : map (λ (g : Log). loops_of g.trace) (logged (1 ∷ 15 ∷ 0 ∷ 2 ∷ 14 ∷ 14 ∷ 0 ∷ 3 ∷ 40 ∷ 1 ∷ 0 ∷ 4 ∷ 25 ∷ 12 ∷ 0 ∷ 0 ∷ 39 ∷ 11 ∷ 0 ∷ 6 ∷ 45 ∷ 9
    ∷ 0 ∷ 0 ∷ 42 ∷ 7 ∷ 0 ∷ 0 ∷ 30 ∷ 1 ∷ 0 ∷ 4 ∷ 43 ∷ 5 ∷ 0 ∷ 0 ∷ 24 ∷ 4 ∷ 0 ∷ 0 ∷ 40 ∷ 1 ∷ 0 ∷ 5 ∷ 30 ∷ 1 ∷ 0 ∷ 4 ∷ 22 ∷ 1 ∷ 0 ∷ 0 ∷ 35 ∷ 1 ∷ 0 ∷ 1 ∷ 33 ∷ 1
    ∷ 0 ∷ 1 ∷ []))
    ≡ (record { exit = 11; breaks = 14 ∷ []; after = 17 } ∷ record { exit = 33; breaks = 36 ∷ []; after = 39 } ∷ []) ∷ []
unfolding logged
target_logged = refl
