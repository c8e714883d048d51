-- A book between its definitions as the state that functions, constants and errors work on, and back. By the laws of a function's begin; the areas that
-- such a step does not have stay. Assumes nothing.
use Prim.Native.Nat.{ℕ}
use native.Mathlib.Omega.{arith}
use mathlib.Core.Path.{◌≡◌, refl, ◌∙◌}
use mathlib.Core.List.{List, [], append-nil}
use lib.ListN.{length, length-append}
use Rattle.definition.specs.FunctionState.{new_function_state}
use Rattle.definition.specs.Uses.{Limits, first_over}
use Rattle.definition.specs.Compiler.{Work, CompilerState}
use Rattle.definition.specs.Book.{Function, Context, Book, working, resumed, code_count}
use Rattle.definition.specs.Program.{Entries, entries_from, function_code, code_table}
use Rattle.definition.specs.Within.{All}
use Rattle.definition_laws.proofs.Cells.{entries_length}
use Rattle.definition_laws.proofs.StepPreserves.{NotesGrow}
use Rattle.building.specs.declared.function_state.FunctionState.{FunctionState}
use Rattle.building.specs.State.{begun}
use Rattle.building.specs.RepresentsMachine.{machine, Filled, LocalsHeld, Marks, RepresentsMachine}
use Rattle.building.proofs.Filling.{Capped, capped, code_length}
use Rattle.building.proofs.FunctionLaws.{Between, begin_law}
use Rattle.building.proofs.Notes.{back}
use Rattle.compiler_laws.specs.declared.book.Book as struct
use Rattle.compiler_laws.specs.BookAreas.{book_areas, RepresentsAreas}
use Rattle.compiler_laws.specs.BookSteps.{resumed_book}

-- the code so far
abbrev pub code_so_far : Book → Entries
code_so_far x = code_table x.context

code_so_far_lem : (c : Context) → All (λ (f : Function). length f.state.code.positions ≡ length f.state.code.instructions) c.program.functions
    → code_count c ≡ length (code_table c)
code_so_far_lem c sized =
    omega (
      arith,
      length-append c.prior.code (entries_from function_code 0 c.program.functions),
      entries_length function_code (λ f. length f.state.code.instructions) 0
          (λ j f s. code_length f.state.code.instructions f.state.code.positions s) sized,
    )

-- an area without entries
pub nothing_left : {width : ℕ} {l : List ℕ} {n : ℕ} → Filled width l [] n → Filled width l [] 0
nothing_left f = record { zeros = f.zeros; is = f.is; count = refl; wide = f.wide; room = omega (arith, f.room) }

-- names by the locals alone
pub named_same : {start count : ℕ} {l : List ℕ} {s s' : CompilerState} → s'.locals ≡ s.locals → LocalsHeld start count l s → LocalsHeld start count l s'
named_same e L = record { up_to = rw e L.up_to; each = rw e L.each }

module _ {κ : Limits} {ps : List ℕ} {s : struct.Book} {c k f m p t l u n b e : List ℕ} {x : Book}
    (H : RepresentsAreas κ ps (book_areas s c k f m p t l u n b e) x) where
  pub held_working : RepresentsMachine κ (code_so_far x) (machine (begun s.full s.code s.constants s.errors) c k n b e) (working x)
  held_working =
      begin_law {w = working x} (record {
        code = H.fitted.code;
        constants = H.fitted.constants;
        names = H.fitted.names;
        breaks = H.fitted.breaks;
        errors = H.fitted.errors;
      }) H.full (λ z.
      let S = H.rest z in
      record {
        before = code_so_far_lem x.context S.sized;
        filled_code = S.code;
        filled_constants = S.constants;
        marks = S.marks;
        filled_names = S.names;
        filled_breaks = S.breaks;
        filled_errors = S.errors;
      })

  -- back, with the functions as they were: the book's own areas stay
  module _ {r : FunctionState} {c' k' n' b' e' : List ℕ} {w : Work} (K : Capped κ (machine r c' k' n' b' e'))
      (marked_by : Marks (first_over κ w.uses) r.full) (back' : r.full ≡ 0 → s.full ≡ 0) (names : w.compiler.locals ≡ x.compiler.locals)
      (many : w.context.local_count ≡ x.context.pool.local_count)
      (live : r.full ≡ 0 → Between (code_so_far x) r.code r.constants r.errors c' k' n' b' e' w) where
    pub keeping_resumed : RepresentsAreas κ ps (book_areas (resumed_book s r) c' k' f m p t l u n' b' e') (resumed w x)
    keeping_resumed = record {
      fitted = record {
        code = K.code;
        constants = K.constants;
        functions = H.fitted.functions;
        models = H.fitted.models;
        properties = H.fitted.properties;
        methods = H.fitted.methods;
        locals = H.fitted.locals;
        publics = H.fitted.publics;
        names = K.names;
        breaks = K.breaks;
        errors = K.errors;
        others = H.fitted.others;
      };
      full = marked_by;
      rest = λ z.
          let S = H.rest (back' z) in
          let B = live z in
          record {
            code = B.filled_code;
            sized = S.sized;
            constants = B.filled_constants;
            marks = B.marks;
            functions = S.functions;
            models = S.models;
            properties = S.properties;
            methods = S.methods;
            locals = S.locals;
            counted = many ∙ S.counted;
            valued = S.valued;
            first_local = S.first_local;
            named = named_same names S.named;
            publics = S.publics;
            first_public = S.first_public;
            prior = S.prior;
            file = S.file;
            last_index = S.last_index;
            mode = S.mode;
            indexed = S.indexed;
            entry = S.entry;
            names = B.filled_names;
            breaks = B.filled_breaks;
            errors = B.filled_errors;
          };
    }

  -- back from a step that leaves the function new
  pub keeping_held : {r : FunctionState} {c' k' n' b' e' : List ℕ} {w : Work} → NotesGrow x.uses w.uses → w.function ≡ new_function_state
      → w.compiler.locals ≡ x.compiler.locals → w.context.local_count ≡ x.context.pool.local_count
      → RepresentsMachine κ (code_so_far x) (machine r c' k' n' b' e') w
      → RepresentsAreas κ ps (book_areas (resumed_book s r) c' k' f m p t l u n' b' e') (resumed w x)
  keeping_held {r} {c'} {k'} {n'} {b'} {e'} {w} longer new names many A =
      keeping_resumed {w = w} (capped A) A.full (back longer held_working A) names many (λ z.
      let C = A.rest z in
      record {
        before = C.before;
        filled_code = rw (← append-nil (code_so_far x)) (rw new at C.code);
        filled_constants = C.constants;
        marks = C.marks;
        filled_names = nothing_left (rw new at C.names);
        filled_breaks = nothing_left (rw new at C.breaks);
        filled_errors = C.errors;
      })
