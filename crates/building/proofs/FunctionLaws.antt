-- A function's begin and its end: a state begun behind the entries that stand holds the definition's new function, and where no name and no break is
-- left, the areas are again as they are between functions, with its code more. By the areas' entries. Assumes nothing.
use Rattle.std.proofs.Common.{◌≡◌, ℕ, ◌+◌, ◌<◌, List, [], ◌∷◌, ◌++◌, length, refl, ◌∙◌, append-nil, arith, length-append}
use Rattle.definition.specs.FunctionState.{new_function_state}
use Rattle.definition.specs.Uses.{Limits, first_over, total}
use Rattle.definition.specs.Compiler.{Work, with_function}
use Rattle.definition.specs.Program.{Entries, code_entries, constant_entry, error_entry, entries_from}
use Rattle.definition.specs.Within.{All}
use Rattle.building.specs.declared.function_state.FunctionState as struct
use Rattle.building.specs.State.{begun}
use Rattle.building.specs.RepresentsMachine.{machine, Filled, name_entries, break_entries, Marks, RepresentsMachine}
use Rattle.building.proofs.Filling.{Capped, names_length, breaks_length, code_length}
use Rattle.building.proofs.StateLaws.{touch_law}

-- between functions: area 1 holds E, areas 9 and 10 nothing
pub record Between (E : Entries) (code constants errors : ℕ) (c k n b e : List ℕ) (w : Work) : Type 0 where
  pub before : w.before ≡ length E
  pub filled_code : Filled 2 c E code
  pub filled_constants : Filled 3 k (entries_from (constant_entry w.context.globals) 0 w.context.constants) constants
  pub marks : All (λ (m : ℕ). m < length w.context.constants) w.context.globals
  pub filled_names : Filled 2 n [] 0
  pub filled_breaks : Filled 1 b [] 0
  pub filled_errors : Filled 4 e (entries_from error_entry 0 w.compiler.errors) errors

-- a new function that nothing is noted of
abbrev pub fresh : Work → Work
fresh w = record { compiler = w.compiler; context = w.context; function = new_function_state; before = w.before; uses = w.uses }

module _ {κ : Limits} {E : Entries} {full code constants errors : ℕ} {c k n b e : List ℕ} {w : Work}
    (K : Capped κ (machine (begun full code constants errors) c k n b e)) (marked_by : Marks (first_over κ w.uses) full)
    (live : full ≡ 0 → Between E code constants errors c k n b e w) where
  pub begin_law : RepresentsMachine κ E (machine (begun full code constants errors) c k n b e) (fresh w)
  begin_law = record {
    code_cap = K.code;
    constants_cap = K.constants;
    names_cap = K.names;
    breaks_cap = K.breaks;
    errors_cap = K.errors;
    full = marked_by;
    rest = λ z.
        let B = live z in
        record {
          before = B.before;
          sized = refl;
          code = rw (append-nil E) B.filled_code;
          base = B.filled_code.count;
          constants = B.filled_constants;
          marks = B.marks;
          names = B.filled_names;
          scope = refl;
          breaks = B.filled_breaks;
          loop = refl;
          in_loop = refl;
          errors = B.filled_errors;
          depth = refl;
          rescue = refl;
          is_instance = refl;
          parameters = refl;
          locals = refl;
        };
  }

  -- as `compile_function_definition_base` begins
  pub begin_noted_law : RepresentsMachine κ E (machine (begun full code constants errors) c k n b e) (with_function new_function_state w)
  begin_noted_law = touch_law begin_law

-- the function's code is behind E
abbrev pub done : Work → Work
done w = record {
  compiler = w.compiler;
  context = w.context;
  function = w.function;
  before = w.before + length w.function.code.instructions;
  uses = w.uses;
}

none_left : {width : ℕ} {l : List ℕ} (es : Entries) {n : ℕ} → length es ≡ 0 → Filled width l es n → Filled width l [] 0
none_left [] h f = record { zeros = f.zeros; is = f.is; count = refl; wide = f.wide; room = omega (arith, f.room) }
none_left (x ∷ es) h f = absurd (omega arith)

module _ {κ : Limits} {E : Entries} {s : struct.FunctionState} {c k n b e : List ℕ} {w : Work} (H : RepresentsMachine κ E (machine s c k n b e) w) where
  -- no name and no break is left
  pub between_law : s.full ≡ 0 → total w.function.scopes ≡ 0 → total w.function.break_scopes ≡ 0
      → Between (E ++ code_entries w.function.code.instructions w.function.code.positions) s.code s.constants s.errors c k n b e (done w)
  between_law z no_names no-breaks =
      let C = H.rest z in
      let is = w.function.code.instructions in
      let ps = w.function.code.positions in
      record {
        before = rw (length-append E (code_entries is ps), code_length is ps C.sized, C.before);
        filled_code = C.code;
        filled_constants = C.constants;
        marks = C.marks;
        filled_names = none_left (name_entries w.function.scopes) (names_length w.function.scopes ∙ no_names) C.names;
        filled_breaks = none_left (break_entries w.function.break_scopes) (breaks_length w.function.break_scopes ∙ no-breaks) C.breaks;
        filled_errors = C.errors;
      }
