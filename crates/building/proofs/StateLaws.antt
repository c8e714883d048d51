-- The routines of `function_state.rt` that set fields of the state alone: depth, rescue position, parameters, a loop entered. Each law has the step
-- that the definition takes with its notes; those on `put_function` are for steps of the definition that do several things under one note.
-- By cases of the mark. Assumes nothing.
use Rattle.std.proofs.Common.{◌≡◌, ℕ, ◌+◌, min, Bool, true, false, cond, eqb, List, [], ◌∷◌, refl, ◌∙◌, append-nil, zero-add, arith, eqb-true}
use borrow.Author.Tests.{eqb-false}
use Rattle.definition.specs.FunctionState.{FunctionState}
use Rattle.definition.specs.FunctionState as method
use Rattle.definition.specs.Uses.{Limits, total}
use Rattle.definition.specs.Compiler.{Work, with_function, doing, next}
use Rattle.definition.specs.Program.{Entries}
use Rattle.building.specs.declared.function_state.FunctionState as struct
use Rattle.building.specs.State.{with_depth, with_rescue, with_parameters, with_loop, most_depth}
use Rattle.building.specs.Emission.{next_c, unless_full, enter_break_c, deeper_c, depth_c, rescue_c, parameters_c}
use Rattle.building.specs.RepresentsMachine.{Machine, machine, break_entries, Contents, RepresentsMachine}
use Rattle.building.proofs.Filling.{held_full, breaks_length}
use Rattle.building.proofs.EmissionLaws.{put_function, held_touch, next_is}

-- a step on the function that leaves it as it is
pub touch_law : {κ : Limits} {earlier : Entries} {m : Machine} {w : Work} → RepresentsMachine κ earlier m w
    → RepresentsMachine κ earlier m (with_function w.function w)
touch_law {κ} {earlier} {m} {w} H = go (eqb m.state.full 0) refl
  where
    go : (t : Bool) → eqb m.state.full 0 ≡ t → RepresentsMachine κ earlier m (with_function w.function w)
    go true d = held_touch H (eqb-true m.state.full 0 d)
    go false d = held_full (with_function w.function w) (_ ∷ _ ∷ _ ∷ []) refl (eqb-false m.state.full 0 d) H

module _ {κ : Limits} {earlier : Entries} {s : struct.FunctionState} {c k n b e : List ℕ} {w : Work}
    (H : RepresentsMachine κ earlier (machine s c k n b e) w) where
  -- fields anew unless an area is full
  pub put_law : (s' : struct.FunctionState) (f : FunctionState) → s'.full ≡ s.full
      → (s.full ≡ 0 → Contents earlier (machine s' c k n b e) (put_function f w))
      → RepresentsMachine κ earlier (machine (unless_full s s' s) c k n b e) (put_function f w)
  put_law s' f same C = go (eqb s.full 0) refl
    where
      go : (t : Bool) → eqb s.full 0 ≡ t → RepresentsMachine κ earlier (machine (cond t s' s) c k n b e) (put_function f w)
      go true d = record {
        code_cap = H.code_cap;
        constants_cap = H.constants_cap;
        names_cap = H.names_cap;
        breaks_cap = H.breaks_cap;
        errors_cap = H.errors_cap;
        full = rw same H.full;
        rest = λ z. C (eqb-true s.full 0 d);
      }
      go false d = record {
        code_cap = H.code_cap;
        constants_cap = H.constants_cap;
        names_cap = H.names_cap;
        breaks_cap = H.breaks_cap;
        errors_cap = H.errors_cap;
        full = H.full;
        rest = λ z. absurd (eqb-false s.full 0 d z);
      }

-- the fields that say nothing of an area
module _ {earlier : Entries} {s : struct.FunctionState} {c k n b e : List ℕ} {w : Work} (C : Contents earlier (machine s c k n b e) w) where
  fields_rest : (d d' r r' : ℕ) (i i' : Bool) (p p' : ℕ) (reads : List ℕ) → d ≡ min most_depth d' → r ≡ r' → i ≡ i' → p ≡ p'
      → Contents earlier (machine (with_parameters i p (with_rescue r (with_depth d s))) c k n b e)
      (put_function (method.with_this_reads reads (method.with_parameters i' p' (method.with_rescue r' (method.with_depth d' w.function)))) w)
  fields_rest d d' r r' i i' p p' reads hd hr hi hp = record {
    before = C.before;
    sized = C.sized;
    code = C.code;
    base = C.base;
    constants = C.constants;
    marks = C.marks;
    names = C.names;
    scope = C.scope;
    breaks = C.breaks;
    loop = C.loop;
    in_loop = C.in_loop;
    errors = C.errors;
    depth = hd;
    rescue = hr;
    is_instance = hi;
    parameters = hp;
    locals = C.locals;
  }

  enter_rest : Contents earlier (machine (with_loop s.breaks s.breaks true s) c k n b e) (put_function (method.enter_break_scope w.function) w)
  enter_rest = record {
    before = C.before;
    sized = C.sized;
    code = C.code;
    base = C.base;
    constants = C.constants;
    marks = C.marks;
    names = C.names;
    scope = C.scope;
    breaks = rw (append-nil (break_entries w.function.break_scopes)) C.breaks;
    loop = C.breaks.count ∙ breaks_length w.function.break_scopes;
    in_loop = refl;
    errors = C.errors;
    depth = C.depth;
    rescue = C.rescue;
    is_instance = C.is_instance;
    parameters = C.parameters;
    locals = C.locals;
  }

module _ {κ : Limits} {earlier : Entries} {s : struct.FunctionState} {c k n b e : List ℕ} {w : Work}
    (H : RepresentsMachine κ earlier (machine s c k n b e) w) where
  -- under the notes that stand

  pub put_depth : (d d' : ℕ) → (s.full ≡ 0 → d ≡ min most_depth d')
      → RepresentsMachine κ earlier (machine (depth_c d s) c k n b e) (put_function (method.with_depth d' w.function) w)
  put_depth d d' h = put_law H (with_depth d s) (method.with_depth d' w.function) refl
      (λ z. let C = H.rest z in fields_rest C d d' _ _ _ _ _ _ w.function.log.this_reads (h z) C.rescue C.is_instance C.parameters)

  pub put_rescue : RepresentsMachine κ earlier (machine (rescue_c s) c k n b e) (put_function (method.with_rescue (next w) w.function) w)
  put_rescue = put_law H (with_rescue (next_c s) s) (method.with_rescue (next w) w.function) refl
      (λ z. let C = H.rest z in fields_rest C _ _ (next_c s) (next w) _ _ _ _ w.function.log.this_reads C.depth (next_is C) C.is_instance
      C.parameters)

  pub put_parameters : (i i' : Bool) (p p' : ℕ) → (s.full ≡ 0 → i ≡ i') → (s.full ≡ 0 → p ≡ p')
      → RepresentsMachine κ earlier (machine (parameters_c i p s) c k n b e) (put_function (method.with_parameters i' p' w.function) w)
  put_parameters i i' p p' hi hp = put_law H (with_parameters i p s) (method.with_parameters i' p' w.function) refl
      (λ z. let C = H.rest z in fields_rest C _ _ _ _ i i' p p' w.function.log.this_reads C.depth C.rescue (hi z) (hp z))

  -- `enter_break_scope`
  pub put_enter_break : RepresentsMachine κ earlier (machine (enter_break_c s) c k n b e) (put_function (method.enter_break_scope w.function) w)
  put_enter_break = put_law H (with_loop s.breaks s.breaks true s) (method.enter_break_scope w.function) refl (λ z. enter_rest (H.rest z))

  -- the log of the reads of `this`, of which memory knows nothing
  pub put_reads : (l : List ℕ) → RepresentsMachine κ earlier (machine s c k n b e) (put_function (method.with_this_reads l w.function) w)
  put_reads l = record {
    code_cap = H.code_cap;
    constants_cap = H.constants_cap;
    names_cap = H.names_cap;
    breaks_cap = H.breaks_cap;
    errors_cap = H.errors_cap;
    full = H.full;
    rest = λ z. let C = H.rest z in fields_rest C _ _ _ _ _ _ _ _ l C.depth C.rescue C.is_instance C.parameters;
  }

-- as steps of their own
module _ {κ : Limits} {earlier : Entries} {s : struct.FunctionState} {c k n b e : List ℕ} {w : Work}
    (H : RepresentsMachine κ earlier (machine s c k n b e) w) where
  pub depth_law : (d d' : ℕ) → (s.full ≡ 0 → d ≡ min most_depth d')
      → RepresentsMachine κ earlier (machine (depth_c d s) c k n b e) (doing (method.with_depth d') w)
  depth_law d d' h = put_depth (touch_law H) d d' h

  pub deeper_law : RepresentsMachine κ earlier (machine (deeper_c s) c k n b e) (doing (λ f. method.with_depth (f.depth + 1) f) w)
  deeper_law = depth_law (min most_depth (s.depth + 1)) (w.function.depth + 1) (λ z. omega (arith, (H.rest z).depth))

  pub rescue_law : RepresentsMachine κ earlier (machine (rescue_c s) c k n b e) (doing (λ f. method.with_rescue (method.get_next_instruction_index f) f) w)
  rescue_law = put_rescue (touch_law H)

  pub parameters_law : (i i' : Bool) (p p' : ℕ) → (s.full ≡ 0 → i ≡ i') → (s.full ≡ 0 → p ≡ p')
      → RepresentsMachine κ earlier (machine (parameters_c i p s) c k n b e) (doing (method.with_parameters i' p') w)
  parameters_law i i' p p' hi hp = put_parameters (touch_law H) i i' p p' hi hp

  pub enter_break_law : RepresentsMachine κ earlier (machine (enter_break_c s) c k n b e) (doing method.enter_break_scope w)
  enter_break_law = rw (zero-add (total w.function.break_scopes)) (put_enter_break (touch_law H))
