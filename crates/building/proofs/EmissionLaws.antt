-- The routines of `function_state.rt` do to memory what the definition's steps of the same names do: one law for each, over the relation `RepresentsMachine`.
-- With
-- the mark set nothing changes and only notes come; where an area is full its note is the first beyond; else the areas hold the function after the
-- step. By cases of the mark and of room, and by the laws of `Filling`. Assumes nothing.
use Rattle.std.proofs.Common.{◌≡◌, ℕ, zero, suc, ◌+◌, ◌-◌, ◌*◌, ◌/◌, ◌^◌, ◌<◌, ◌≤◌, Bool, true, false, cond, eqb, ltb, List, [], ◌∷◌, ◌++◌, length, get_or}
use Rattle.std.proofs.Common.{take, sym, refl, ap, ◌∙◌, subst, append_assoc, arith, length-append, length-take, take-suc, get_or-append-add, ltb-false}
use Rattle.std.proofs.Common.{ltb-true, le-ltb, lt-ltb, eq-eqb, ne_eqb, eqb-true, le-leb}
use native.Mathlib.Decide.{dec_lt}
use mathlib.Core.Option.{Option, none}
use lib.ListN.{get_or-eq_default}
use lib.Seq.{take-length}
use borrow.Author.Tests.{eqb-false}
use Rattle.words.specs.Areas.{entries_in, set_entry, code_area, scope_names_area, breaks_area}
use Rattle.words.specs.Opcode.{Instruction, to_instruction, word, nothing, Pop, PushConstant, ReturnOp}
use Rattle.words.specs.Object.{NULL}
use Rattle.definition.specs.FunctionState.{FunctionState, or_else, last, init, get_last_position, last_opcode}
use Rattle.definition.specs.FunctionState as method
use Rattle.definition.specs.Uses.{using', Limits, limit_of, over_by, first_over, total}
use Rattle.definition.specs.Compiler.{Work, with_function, doing, next}
use Rattle.definition.specs.Compiler as step
use Rattle.definition.specs.Program.{Entries, code_entries}
use Rattle.building.specs.declared.function_state.FunctionState as struct
use Rattle.building.specs.State.{with_code, with_code_count}
use Rattle.building.specs.Taking.{taken}
use Rattle.building.specs.Emission.{Coded, coded, next_c, last_c, last_position_c, last_opcode_c, emit_c, emit_last_c, emit_null_c, pop_c, remove_pop_c}
use Rattle.building.specs.Emission.{emit_return_c}
use Rattle.building.specs.RepresentsMachine.{Machine, machine, Filled, Contents, Marks, unmarked, marked, RepresentsMachine}
use Rattle.building.proofs.Filling.{filled_more, filled_field, filled_back, room_fits, set_entry_length, all_front, code_length}
use Rattle.building.proofs.Filling.{over_stays, over_here, held_full, Capped, capped, held_step}
use Rattle.building.proofs.Notes.{contents_again}
use Rattle.building.proofs.Emitting.{remove_full, remove_pop, remove_return, remove_null}

abbrev pub coded_machine : Coded → List ℕ → List ℕ → List ℕ → List ℕ → Machine
coded_machine m k n b e = machine m.state m.code k n b e

-- what a routine leaves, by what it ensures
pub held_coded : {κ : Limits} {earlier : Entries} {k n b e : List ℕ} {w : Work} (r : struct.FunctionState) (c' : List ℕ) {m : Coded} → coded r c' ≡ m
    → RepresentsMachine κ earlier (coded_machine m k n b e) w → RepresentsMachine κ earlier (machine r c' k n b e) w
held_coded {κ} {earlier} {k} {n} {b} {e} {w} r c' q H = subst (λ (x : Coded). RepresentsMachine κ earlier (coded_machine x k n b e) w) (sym q) H

-- the function's state anew, with no note: what a step leaves that changes no count, after its notes
abbrev pub put_function : FunctionState → Work → Work
put_function f w = record { compiler = w.compiler; context = w.context; function = f; before = w.before; uses = w.uses }

-- entries of code

code_snoc : (is : List Instruction) (ps : List ℕ) (i : Instruction) (p : ℕ) → length ps ≡ length is
    → code_entries (is ++ (i ∷ [])) (ps ++ (p ∷ [])) ≡ code_entries is ps ++ ((word i ∷ p ∷ []) ∷ [])
code_snoc [] [] i p h = refl
code_snoc [] (q ∷ ps) i p h = absurd (omega arith)
code_snoc (x ∷ is) [] i p h = absurd (omega arith)
code_snoc (x ∷ is) (q ∷ ps) i p h = ap (λ (es : Entries). (word x ∷ q ∷ []) ∷ es) (code_snoc is ps i p (omega arith))

code_entry : (is : List Instruction) (ps : List ℕ) (i : ℕ) → length ps ≡ length is → i < length is
    → get_or (code_entries is ps) i [] ≡ word (get_or is i nothing) ∷ get_or ps i 0 ∷ []
code_entry [] ps i e h = absurd (omega arith)
code_entry (x ∷ is) [] i e h = absurd (omega arith)
code_entry (x ∷ is) (p ∷ ps) zero e h = refl
code_entry (x ∷ is) (p ∷ ps) (suc i) e h = code_entry is ps i (omega arith) (omega arith)

word_opcode : (i : Instruction) → word i / 2 ^ 56 ≡ i.opcode
unfolding word
word_opcode i = omega arith

-- what stands where nothing is full

module _ {earlier : Entries} {m : Machine} {w : Work} (C : Contents earlier m w) where
  pub code_count_lem : m.state.code ≡ length earlier + length w.function.code.instructions
  code_count_lem =
      C.code.count
      ∙ length-append earlier (code_entries w.function.code.instructions w.function.code.positions)
      ∙ ap (λ (x : ℕ). length earlier + x) (code_length w.function.code.instructions w.function.code.positions C.sized)

  -- an index is the definition's
  pub next_is : next_c m.state ≡ next w
  next_is = omega (arith, code_count_lem, C.base)

  last_some : (x : ℕ) → x < 2 → 0 < length w.function.code.instructions
      → last_c x (coded m.state m.code) ≡ get_or (word (last w.function.code.instructions nothing) ∷ get_last_position w.function ∷ []) x 0
  last_some x h q =
      let is = w.function.code.instructions in
      let ps = w.function.code.positions in
      let at : m.state.code - 1 ≡ length earlier + (length is - 1) = omega (arith, code_count_lem) in
      let same : length is - 1 ≡ length ps - 1 = omega (arith, C.sized) in
      rw (lt-ltb m.state.base m.state.code (omega (arith, code_count_lem, C.base)))
      (filled_field (m.state.code - 1) x (omega arith) (omega (arith, code_count_lem)) h C.code
      ∙ ap (λ (e : List ℕ). get_or e x 0)
      (ap (λ (j : ℕ). get_or (earlier ++ code_entries is ps) j []) at
      ∙ get_or-append-add earlier (code_entries is ps) (length is - 1) []
      ∙ code_entry is ps (length is - 1) C.sized (omega arith)
      ∙ ap (λ (j : ℕ). word (last is nothing) ∷ get_or ps j 0 ∷ []) same))

  last_none : (x : ℕ) → length w.function.code.instructions ≡ 0 → last_c x (coded m.state m.code) ≡ 0
  last_none x z = rw (le-ltb m.state.base m.state.code (omega (arith, code_count_lem, C.base)))

  pub last_position_is : last_position_c (coded m.state m.code) ≡ get_last_position w.function
  last_position_is = go (dec_lt 0 (length w.function.code.instructions))
    where
      go : Dec (0 < length w.function.code.instructions) → last_position_c (coded m.state m.code) ≡ get_last_position w.function
      go (yes h) = last_some 1 (omega arith) h
      go (no h) =
          last_none 1 (omega arith)
          ∙ sym (get_or-eq_default w.function.code.positions 0 {n = length w.function.code.positions - 1} (omega (arith, C.sized)))

  pub last_opcode_is : last_opcode_c (coded m.state m.code) ≡ last_opcode w.function
  last_opcode_is = go (dec_lt 0 (length w.function.code.instructions))
    where
      go : Dec (0 < length w.function.code.instructions) → last_opcode_c (coded m.state m.code) ≡ last_opcode w.function
      go (yes h) = ap (λ (x : ℕ). x / 2 ^ 56) (last_some 0 (omega arith) h) ∙ word_opcode (last w.function.code.instructions nothing)
      go (no h) =
          ap (λ (x : ℕ). x / 2 ^ 56) (last_none 0 (omega arith))
          ∙ ap (λ (i : Instruction). i.opcode)
          (sym (get_or-eq_default w.function.code.instructions nothing {n = length w.function.code.instructions - 1} (omega arith)))

-- the same over the relation
pub next_law : {κ : Limits} {earlier : Entries} {m : Machine} {w : Work} → RepresentsMachine κ earlier m w → m.state.full ≡ 0 → next_c m.state ≡ next w
next_law H z = next_is (H.rest z)

pub last_position_law : {κ : Limits} {earlier : Entries} {m : Machine} {w : Work} → RepresentsMachine κ earlier m w → m.state.full ≡ 0
    → last_position_c (coded m.state m.code) ≡ get_last_position w.function
last_position_law H z = last_position_is (H.rest z)

-- the function's code anew
module _ {earlier : Entries} {s : struct.FunctionState} {c k n b e : List ℕ} {w : Work} (C : Contents earlier (machine s c k n b e) w) where
  pub coded_rest : (count : ℕ) (c' : List ℕ) (is : List Instruction) (ps : List ℕ) → length ps ≡ length is
      → Filled 2 c' (earlier ++ code_entries is ps) count
      → Contents earlier (machine (with_code_count count s) c' k n b e) (with_function (method.with_code is ps w.function) w)
  coded_rest count c' is ps h F = record {
    before = C.before;
    sized = h;
    code = F;
    base = C.base;
    constants = C.constants;
    marks = C.marks;
    names = C.names;
    scope = C.scope;
    breaks = C.breaks;
    loop = C.loop;
    in_loop = C.in_loop;
    errors = C.errors;
    depth = C.depth;
    rescue = C.rescue;
    is_instance = C.is_instance;
    parameters = C.parameters;
    locals = C.locals;
  }

-- a step on the function that leaves it as it is
pub held_touch : {κ : Limits} {earlier : Entries} {m : Machine} {w : Work} → RepresentsMachine κ earlier m w → m.state.full ≡ 0
    → RepresentsMachine κ earlier m (with_function w.function w)
held_touch {w = w} H z = held_step w.function H z z (capped H) (contents_again _ (H.rest z))

none_over : {o : Option ℕ} {n : ℕ} → Marks o n → n ≡ 0 → o ≡ none
none_over unmarked z = refl
none_over (marked h) z = absurd (omega arith)

-- two steps on the function as one, where nothing is full after the first: its notes do not matter
pub held_merge : {κ : Limits} {earlier : Entries} {m m₁ m₂ : Machine} {w : Work} (g f : FunctionState) → RepresentsMachine κ earlier m w → m.state.full ≡ 0
    → RepresentsMachine κ earlier m₁ (with_function g w) → m₁.state.full ≡ 0 → RepresentsMachine κ earlier m₂ (with_function f (with_function g w))
    → RepresentsMachine κ earlier m₂ (with_function f w)
unfolding first_over
held_merge {κ} {earlier} {m} {m₁} {m₂} {w} g f H z H₁ z₁ H₂ = record {
  code_cap = H₂.code_cap;
  constants_cap = H₂.constants_cap;
  names_cap = H₂.names_cap;
  breaks_cap = H₂.breaks_cap;
  errors_cap = H₂.errors_cap;
  full = subst
      (λ (o : Option ℕ). Marks (or_else (or_else (or_else o (over_by κ (using' code_area (w.before + length f.code.instructions))))
      (over_by κ (using' scope_names_area (total f.scopes)))) (over_by κ (using' breaks_area (total f.break_scopes)))) m₂.state.full)
      (none_over H₁.full z₁ ∙ sym (none_over H.full z)) H₂.full;
  rest = λ z₂. contents_again _ (H₂.rest z₂);
}

-- area 1 is full
pub held_over : {κ : Limits} {earlier : Entries} {m : Machine} (m' : Machine) {w : Work} (f : FunctionState) → RepresentsMachine κ earlier m w
    → m.state.full ≡ 0
    → Capped κ m' → m'.state.full ≡ code_area → limit_of κ code_area < w.before + length f.code.instructions
    → RepresentsMachine κ earlier m' (with_function f w)
held_over {κ} m' {w} f H z K z' h = record {
  code_cap = K.code;
  constants_cap = K.constants;
  names_cap = K.names;
  breaks_cap = K.breaks;
  errors_cap = K.errors;
  full = rw z' (over_stays κ _ _ (over_stays κ _ _ (over_here κ _ _ H.full z h (omega arith)) (λ q. omega arith)) (λ q. omega arith));
  rest = λ q. absurd (omega arith);
}

-- `emit`; its word and its position matter only where nothing is full
module _ {κ : Limits} {earlier : Entries} {s : struct.FunctionState} {c k n b e : List ℕ} {w : Work} (x p : ℕ) (i : Instruction) (q : ℕ)
    (hx : s.full ≡ 0 → x ≡ word i) (hp : s.full ≡ 0 → p ≡ q) (H : RepresentsMachine κ earlier (machine s c k n b e) w) where
  emit_go : (t : Bool) → eqb s.full 0 ≡ t → (u : Bool) → ltb s.code (entries_in 2 (length c)) ≡ u
      → RepresentsMachine κ earlier (machine (with_code (cond t (cond u (taken s.full (s.code + 1)) (taken code_area s.code)) (taken s.full s.code)) s)
      (cond t (cond u (set_entry 2 s.code (x ∷ p ∷ []) c) c) c) k n b e) (step.emit i q w)
  emit_go false d u l = held_full (step.emit i q w) (_ ∷ _ ∷ _ ∷ []) refl (eqb-false s.full 0 d) H
  emit_go true d false l =
      let z = eqb-true s.full 0 d in
      let C = H.rest z in
      held_over _ (method.emit i q w.function) H z
      (record { code = H.code_cap; constants = H.constants_cap; names = H.names_cap; breaks = H.breaks_cap; errors = H.errors_cap }) refl
      (omega (
        arith,
        H.code_cap,
        ltb-false s.code (entries_in 2 (length c)) l,
        code_count_lem C,
        C.before,
        length-append w.function.code.instructions (i ∷ []),
      ))
  emit_go true d true l =
      let z = eqb-true s.full 0 d in
      let C = H.rest z in
      let is = w.function.code.instructions in
      let ps = w.function.code.positions in
      let r = ltb-true s.code (entries_in 2 (length c)) l in
      let same : length (set_entry 2 s.code (x ∷ p ∷ []) c) ≡ length c =
      set_entry_length 2 s.code (x ∷ p ∷ []) c refl (room_fits 2 s.code (length c) r) in
      let F = filled_more (x ∷ p ∷ []) refl r C.code in
      held_step (method.emit i q w.function) H z z
      (record { code = rw same H.code_cap; constants = H.constants_cap; names = H.names_cap; breaks = H.breaks_cap; errors = H.errors_cap })
      (coded_rest C (s.code + 1) (set_entry 2 s.code (x ∷ p ∷ []) c) (is ++ (i ∷ [])) (ps ++ (q ∷ []))
      (length-append ps (q ∷ []) ∙ omega (arith, length-append is (i ∷ []), C.sized))
      (rw (code_snoc is ps i q C.sized, ← hx z, ← hp z, ← append_assoc earlier (code_entries is ps) ((x ∷ p ∷ []) ∷ [])) F))

  pub emit_law : RepresentsMachine κ earlier (coded_machine (emit_c x p (coded s c)) k n b e) (step.emit i q w)
  unfolding emit_c
  emit_law = emit_go (eqb s.full 0) refl (ltb s.code (entries_in 2 (length c))) refl

-- `emit_opcode`
pub emit_opcode_law : {κ : Limits} {earlier : Entries} {s : struct.FunctionState} {c k n b e : List ℕ} {w : Work} (o p q : ℕ) → (s.full ≡ 0 → p ≡ q)
    → RepresentsMachine κ earlier (machine s c k n b e) w
    → RepresentsMachine κ earlier (coded_machine (emit_c (word (to_instruction o 0)) p (coded s c)) k n b e) (step.emit_opcode o q w)
emit_opcode_law o p q hp H = emit_law (word (to_instruction o 0)) p (to_instruction o 0) q (λ z. refl) hp H

-- `emit_opcode_without_position`, and null
module _ {κ : Limits} {earlier : Entries} {s : struct.FunctionState} {c k n b e : List ℕ} {w : Work}
    (H : RepresentsMachine κ earlier (machine s c k n b e) w) where
  pub emit_last_law : (i : Instruction)
      → RepresentsMachine κ earlier (coded_machine (emit_last_c (word i) (coded s c)) k n b e) (step.emit i (get_last_position w.function) w)
  emit_last_law i = emit_law (word i) (last_position_c (coded s c)) i (get_last_position w.function) (λ z. refl) (λ z. last_position_law H z) H

  pub emit_opcode_without_position_law : (o : ℕ)
      → RepresentsMachine κ earlier (coded_machine (emit_last_c (word (to_instruction o 0)) (coded s c)) k n b e) (step.emit_opcode_without_position o w)
  emit_opcode_without_position_law o = emit_last_law (to_instruction o 0)

  pub emit_null_law : RepresentsMachine κ earlier (coded_machine (emit_null_c (coded s c)) k n b e) (doing method.emit_null w)
  emit_null_law = emit_last_law (to_instruction PushConstant NULL)

-- the last instruction given up

init_last : {A : Type 0} (l : List A) (d : A) → 0 < length l → init l ++ (last l d ∷ []) ≡ l
init_last {A} l d h =
    let e : suc (length l - 1) ≡ length l = omega arith in
    sym (take-suc l (length l - 1) d (omega arith)) ∙ ap (λ (x : ℕ). take x l) e ∙ take-length l

init_length : {A : Type 0} (l : List A) → length (init l) ≡ length l - 1
init_length l = length-take (length l - 1) l ∙ omega arith

code_init : (is : List Instruction) (ps : List ℕ) → length ps ≡ length is → 0 < length is
    → code_entries is ps ≡ code_entries (init is) (init ps) ++ ((word (last is nothing) ∷ last ps 0 ∷ []) ∷ [])
code_init is ps h q =
    ap (λ (x : List Instruction). code_entries x ps) (sym (init_last is nothing q))
    ∙ ap (λ (x : List ℕ). code_entries (init is ++ (last is nothing ∷ [])) x) (sym (init_last ps 0 (omega arith)))
    ∙ code_snoc (init is) (init ps) (last is nothing) (last ps 0) (omega (arith, init_length is, init_length ps))

module _ {κ : Limits} {earlier : Entries} {s : struct.FunctionState} {c k n b e : List ℕ} {w : Work}
    (H : RepresentsMachine κ earlier (machine s c k n b e) w) where
  pop_law : s.full ≡ 0 → 0 < length w.function.code.instructions
      → RepresentsMachine κ earlier (coded_machine (pop_c (coded s c)) k n b e) (with_function (method.pop_last w.function) w)
  pop_law z q =
      let C = H.rest z in
      let is = w.function.code.instructions in
      let ps = w.function.code.positions in
      let es = earlier ++ code_entries (init is) (init ps) in
      let x = word (last is nothing) ∷ last ps 0 ∷ [] in
      let split : earlier ++ code_entries is ps ≡ es ++ (x ∷ []) =
      ap (λ (l : Entries). earlier ++ l) (code_init is ps C.sized q) ∙ sym (append_assoc earlier (code_entries (init is) (init ps)) (x ∷ [])) in
      let F : Filled 2 c (es ++ (x ∷ [])) s.code = rw split at C.code in
      let at : length es ≡ s.code - 1 = omega (arith, F.count, length-append es (x ∷ [])) in
      let fits : (s.code - 1) * 2 + 2 ≤ length c = room_fits 2 (s.code - 1) (length c) (omega (arith, code_count_lem C, C.code.room)) in
      let same : length (set_entry 2 (s.code - 1) (0 ∷ 0 ∷ []) c) ≡ length c = set_entry_length 2 (s.code - 1) (0 ∷ 0 ∷ []) c refl fits in
      rw (le-leb ((s.code - 1) * 2 + 2) (length c) fits)
      (held_step (method.pop_last w.function) H z z
      (record { code = rw same H.code_cap; constants = H.constants_cap; names = H.names_cap; breaks = H.breaks_cap; errors = H.errors_cap })
      (coded_rest C (s.code - 1) (set_entry 2 (s.code - 1) (0 ∷ 0 ∷ []) c) (init is) (init ps) (omega (arith, init_length is, init_length ps, C.sized))
      (rw (← at) (filled_back es x F (all_front es (x ∷ []) F.wide) refl))))

-- `remove_pop_or_push_null`

has_code : (f : FunctionState) → last_opcode f ≡ Pop → 0 < length f.code.instructions
has_code f q = go (dec_lt 0 (length f.code.instructions))
  where
    go : Dec (0 < length f.code.instructions) → 0 < length f.code.instructions
    go (yes h) = h
    go (no h) =
        absurd (omega (
          arith,
          q,
          ap (λ (i : Instruction). i.opcode)
              (get_or-eq_default f.code.instructions nothing {n = length f.code.instructions - 1} (omega arith)),
        ))

remove_is_pop : (f : FunctionState) → last_opcode f ≡ Pop → method.remove_pop_or_push_null f ≡ method.pop_last f
unfolding method.remove_pop_or_push_null
remove_is_pop f q = rw (eq-eqb (last_opcode f) Pop q)

remove_is_same : (f : FunctionState) → (last_opcode f ≡ Pop → ⊥) → last_opcode f ≡ ReturnOp → method.remove_pop_or_push_null f ≡ f
unfolding method.remove_pop_or_push_null
remove_is_same f r q = rw (ne_eqb (last_opcode f) Pop r, eq-eqb (last_opcode f) ReturnOp q)

remove_is_null : (f : FunctionState) → (last_opcode f ≡ Pop → ⊥) → (last_opcode f ≡ ReturnOp → ⊥) → method.remove_pop_or_push_null f ≡ method.emit_null f
unfolding method.remove_pop_or_push_null
remove_is_null f r q = rw (ne_eqb (last_opcode f) Pop r, ne_eqb (last_opcode f) ReturnOp q)

-- what is held, under equal names
held_as : {κ : Limits} {earlier : Entries} {k n b e : List ℕ} (w : Work) {m m' : Coded} {f f' : FunctionState} → m ≡ m' → f ≡ f'
    → RepresentsMachine κ earlier (coded_machine m k n b e) (with_function f w) → RepresentsMachine κ earlier (coded_machine m' k n b e) (with_function f' w)
held_as {κ} {earlier} {k} {n} {b} {e} w {m} {m'} {f} {f'} p q H = rw (← p, ← q) H

module _ {κ : Limits} {earlier : Entries} {s : struct.FunctionState} {c k n b e : List ℕ} {w : Work}
    (H : RepresentsMachine κ earlier (machine s c k n b e) w) where
  -- by the last opcode, where nothing is full
  remove_go : s.full ≡ 0 → (t : Bool) → eqb (last_opcode w.function) Pop ≡ t → (u : Bool) → eqb (last_opcode w.function) ReturnOp ≡ u
      → RepresentsMachine κ earlier (coded_machine (remove_pop_c (coded s c)) k n b e) (doing method.remove_pop_or_push_null w)
  remove_go z true p u q =
      let r = eqb-true (last_opcode w.function) Pop p in
      held_as w (remove_pop (coded s c) z (last_opcode_is (H.rest z) ∙ r) refl) (sym (remove_is_pop w.function r))
      (pop_law H z (has_code w.function r))
  remove_go z false p true q =
      let r = eqb-false (last_opcode w.function) Pop p in
      let v = eqb-true (last_opcode w.function) ReturnOp q in
      let o = last_opcode_is (H.rest z) in
      held_as w (remove_return (coded s c) z (λ x. r (sym o ∙ x)) (o ∙ v)) (sym (remove_is_same w.function r v)) (held_touch H z)
  remove_go z false p false q =
      let r = eqb-false (last_opcode w.function) Pop p in
      let v = eqb-false (last_opcode w.function) ReturnOp q in
      let o = last_opcode_is (H.rest z) in
      held_as w (remove_null (coded s c) z (λ x. r (sym o ∙ x)) (λ x. v (sym o ∙ x)) refl) (sym (remove_is_null w.function r v))
      (emit_last_law H (to_instruction PushConstant NULL))

  pub remove_law : RepresentsMachine κ earlier (coded_machine (remove_pop_c (coded s c)) k n b e) (doing method.remove_pop_or_push_null w)
  remove_law = go (eqb s.full 0) refl
    where
      go : (t : Bool) → eqb s.full 0 ≡ t → RepresentsMachine κ earlier (coded_machine (remove_pop_c (coded s c)) k n b e)
          (doing method.remove_pop_or_push_null w)
      go true d = remove_go (eqb-true s.full 0 d) (eqb (last_opcode w.function) Pop) refl (eqb (last_opcode w.function) ReturnOp) refl
      go false d =
          let ne = eqb-false s.full 0 d in
          held_as w (remove_full (coded s c) ne) refl (held_full (doing method.remove_pop_or_push_null w) (_ ∷ _ ∷ _ ∷ []) refl ne H)

-- `emit_return`

pub emit_full : (x p : ℕ) (m : Coded) → (m.state.full ≡ 0 → ⊥) → emit_c x p m ≡ m
unfolding emit_c
emit_full x p m h = rw (ne_eqb m.state.full 0 h)

abbrev returned_c : ℕ → Coded → Coded
returned_c p m = cond (eqb (last_opcode_c m) ReturnOp) m (emit_c (word (to_instruction ReturnOp 0)) p m)

abbrev returned : ℕ → FunctionState → FunctionState
returned p g = cond (eqb (last_opcode g) ReturnOp) g (method.emit_opcode ReturnOp p g)

returned_full : (p : ℕ) (m : Coded) → (m.state.full ≡ 0 → ⊥) → m ≡ returned_c p m
returned_full p m h = go (eqb (last_opcode_c m) ReturnOp)
  where
    go : (t : Bool) → m ≡ cond t m (emit_c (word (to_instruction ReturnOp 0)) p m)
    go true = refl
    go false = sym (emit_full (word (to_instruction ReturnOp 0)) p m h)

returned_longer : (p : ℕ) (g : FunctionState) → length g.code.instructions ≤ length (returned p g).code.instructions
returned_longer p g = go (eqb (last_opcode g) ReturnOp)
  where
    go : (t : Bool) → length g.code.instructions ≤ length (cond t g (method.emit_opcode ReturnOp p g)).code.instructions
    go true = omega arith
    go false = omega (arith, length-append g.code.instructions (to_instruction ReturnOp 0 ∷ []))

-- area 1 is full, and the function's code is why
pub record Overfull (κ : Limits) (m : Coded) (n : ℕ) : Type 0 where
  pub mark : m.state.full ≡ code_area
  pub more : limit_of κ code_area < n

module _ {κ : Limits} {earlier : Entries} {m : Machine} {k n b e : List ℕ} {w : Work} (p : ℕ) (H : RepresentsMachine κ earlier m w) (z : m.state.full ≡ 0)
    (g : FunctionState) (g' : Coded) (H₁ : RepresentsMachine κ earlier (coded_machine g' k n b e) (with_function g w)) where
  -- a Return behind what stands, where nothing is full
  return_on : g'.state.full ≡ 0 → (t : Bool) → eqb (last_opcode g) ReturnOp ≡ t
      → RepresentsMachine κ earlier (coded_machine (cond t g' (emit_c (word (to_instruction ReturnOp 0)) p g')) k n b e)
      (with_function (cond t g (method.emit_opcode ReturnOp p g)) w)
  return_on z₁ true q = H₁
  return_on z₁ false q =
      held_merge g (method.emit_opcode ReturnOp p g) H z H₁ z₁
      (emit_law (word (to_instruction ReturnOp 0)) p (to_instruction ReturnOp 0) p (λ _. refl) (λ _. refl) H₁)

  return_step : ((g'.state.full ≡ 0 → ⊥) → Overfull κ g' (w.before + length g.code.instructions))
      → RepresentsMachine κ earlier (coded_machine (returned_c p g') k n b e) (with_function (returned p g) w)
  return_step over = go (eqb g'.state.full 0) refl
    where
      go : (t : Bool) → eqb g'.state.full 0 ≡ t → RepresentsMachine κ earlier (coded_machine (returned_c p g') k n b e) (with_function (returned p g) w)
      go true d =
          let z₁ = eqb-true g'.state.full 0 d in
          rw (last_opcode_is (H₁.rest z₁)) (return_on z₁ (eqb (last_opcode g) ReturnOp) refl)
      go false d =
          let ne = eqb-false g'.state.full 0 d in
          let O = over ne in
          held_as w (returned_full p g' ne) refl
          (held_over (coded_machine g' k n b e) (returned p g) H z (capped H₁) O.mark (omega (arith, O.more, returned_longer p g)))

-- what fills area 1 when an instruction is emitted is the code with it
module _ {κ : Limits} {earlier : Entries} {s : struct.FunctionState} {c k n b e : List ℕ} {w : Work}
    (H : RepresentsMachine κ earlier (machine s c k n b e) w) where
  pub emit_over : (x p : ℕ) (i : Instruction) → s.full ≡ 0 → ((emit_c x p (coded s c)).state.full ≡ 0 → ⊥)
      → Overfull κ (emit_c x p (coded s c)) (w.before + length (w.function.code.instructions ++ (i ∷ [])))
  unfolding emit_c
  emit_over x p i z h = go (ltb s.code (entries_in 2 (length c))) refl (rw (eq-eqb s.full 0 z) at h)
    where
      go : (u : Bool) → ltb s.code (entries_in 2 (length c)) ≡ u
          → ((cond u (taken s.full (s.code + 1)) (taken code_area s.code)).full ≡ 0 → ⊥)
          → Overfull κ (emit_c x p (coded s c)) (w.before + length (w.function.code.instructions ++ (i ∷ [])))
      go true l h = absurd (h z)
      go false l h = record {
        mark = rw (eq-eqb s.full 0 z, l);
        more = omega (
          arith,
          H.code_cap,
          ltb-false s.code (entries_in 2 (length c)) l,
          code_count_lem (H.rest z),
          (H.rest z).before,
          length-append w.function.code.instructions (i ∷ []),
        );
      }

  remove_over_go : s.full ≡ 0 → (t : Bool) → eqb (last_opcode w.function) Pop ≡ t → (u : Bool) → eqb (last_opcode w.function) ReturnOp ≡ u
      → ((remove_pop_c (coded s c)).state.full ≡ 0 → ⊥)
      → Overfull κ (remove_pop_c (coded s c)) (w.before + length (method.remove_pop_or_push_null w.function).code.instructions)
  remove_over_go z true p u q h =
      let r = eqb-true (last_opcode w.function) Pop p in
      let same = remove_pop (coded s c) z (last_opcode_is (H.rest z) ∙ r) refl in
      absurd (h (ap (λ (m : Coded). m.state.full) (sym same) ∙ z))
  remove_over_go z false p true q h =
      let r = eqb-false (last_opcode w.function) Pop p in
      let v = eqb-true (last_opcode w.function) ReturnOp q in
      let o = last_opcode_is (H.rest z) in
      let same = remove_return (coded s c) z (λ x. r (sym o ∙ x)) (o ∙ v) in
      absurd (h (ap (λ (m : Coded). m.state.full) (sym same) ∙ z))
  remove_over_go z false p false q h =
      let r = eqb-false (last_opcode w.function) Pop p in
      let v = eqb-false (last_opcode w.function) ReturnOp q in
      let o = last_opcode_is (H.rest z) in
      let same = remove_null (coded s c) z (λ x. r (sym o ∙ x)) (λ x. v (sym o ∙ x)) refl in
      rw (← same, remove_is_null w.function r v)
      (emit_over (word (to_instruction PushConstant NULL)) (last_position_c (coded s c)) (to_instruction PushConstant NULL) z (rw (← same) at h))

  return_go : (p : ℕ) → s.full ≡ 0 → RepresentsMachine κ earlier (coded_machine (emit_return_c p (coded s c)) k n b e) (doing (method.emit_return p) w)
  unfolding emit_return_c method.emit_return
  return_go p z =
      return_step p H z (method.remove_pop_or_push_null w.function) (remove_pop_c (coded s c)) (remove_law H)
      (remove_over_go z (eqb (last_opcode w.function) Pop) refl (eqb (last_opcode w.function) ReturnOp) refl)

  return_full : (p : ℕ) → (s.full ≡ 0 → ⊥) → coded s c ≡ emit_return_c p (coded s c)
  unfolding emit_return_c
  return_full p h =
      let same = remove_full (coded s c) h in
      returned_full p (coded s c) h ∙ ap (λ (m : Coded). returned_c p m) same

-- its position matters only where nothing is full
pub return_law : {κ : Limits} {earlier : Entries} {s : struct.FunctionState} {c k n b e : List ℕ} {w : Work} (p q : ℕ) → (s.full ≡ 0 → p ≡ q)
    → RepresentsMachine κ earlier (machine s c k n b e) w
    → RepresentsMachine κ earlier (coded_machine (emit_return_c p (coded s c)) k n b e) (doing (method.emit_return q) w)
return_law {κ} {earlier} {s} {c} {k} {n} {b} {e} {w} p q hp H = go (eqb s.full 0) refl
  where
    go : (t : Bool) → eqb s.full 0 ≡ t → RepresentsMachine κ earlier (coded_machine (emit_return_c p (coded s c)) k n b e) (doing (method.emit_return q) w)
    go true d = let z = eqb-true s.full 0 d in rw (← hp z) (return_go H p z)
    go false d =
        let ne = eqb-false s.full 0 d in
        held_as w (return_full H p ne) refl (held_full (doing (method.emit_return q) w) (_ ∷ _ ∷ _ ∷ []) refl ne H)
