-- The laws of `building`'s routines on one memory: each is lent its part. Assumes nothing.
use Rattle.std.proofs.Common.{◌≡◌, ℕ, ◌+◌, ◌*◌, ◌%◌, ◌^◌, ◌<◌, min, true, List, length, sym, refl, ap, ◌∙◌, subst, arith, length-append}
use Rattle.words.specs.Ast.{Token}
use Rattle.words.specs.Areas.{code_area, constants_area, scope_names_area, errors_area}
use Rattle.words.specs.Object.{constant_of, NULL}
use Rattle.words.specs.Opcode.{Instruction, to_instruction, word, PushConstant}
use Rattle.constant_slots.specs.Plain.{pool_of}
use Rattle.definition.specs.FunctionState.{find_local, tail, get_last_position, define_local}
use Rattle.definition.specs.FunctionState as method
use Rattle.definition.specs.Uses.{Limits, total}
use Rattle.definition.specs.Compiler.{Work, emit, emit_opcode_without_position, replace_instruction, next, doing, with_function, push_error, add_constant}
use Rattle.definition.specs.Compiler.{mark_global}
use Rattle.definition.specs.Program.{Entries, code_entries}
use Rattle.building.specs.declared.function_state.FunctionState.{FunctionState}
use Rattle.building.specs.Emission.{Coded, coded, next_c, emit_c, emit_last_c, emit_null_c, remove_pop_c, emit_return_c, replace_c, enter_break_c, deeper_c}
use Rattle.building.specs.Emission.{depth_c}
use Rattle.building.specs.Emission.{unless_full}
use Rattle.building.specs.State.{most_depth, with_scope, with_loop, with_depth, with_local_count}
use Rattle.building.specs.Found.{Found, found_of, wrapped}
use Rattle.building.specs.Scopes.{Naming, naming, enter_scope_c, exit_scope_c, define_anonymous_c}
use Rattle.building.specs.Pool.{Pooling, pooling, add_constant_c, Erring}
use Rattle.building.specs.RepresentsMachine.{machine, RepresentsMachine, is_open}
use Rattle.building.proofs.EmissionLaws.{held_coded, emit_law, emit_opcode_without_position_law, emit_null_law, remove_law, return_law}
use Rattle.building.proofs.EmissionLaws as emission
use Rattle.building.proofs.BreakLaws.{replace_law}
use Rattle.building.proofs.StateLaws as state
use Rattle.building.proofs.ScopeLaws as scopes
use Rattle.building.proofs.PoolLaws as pool
use Rattle.book_compiler.specs.Represents.{Memory, laid, part_of, view, Represents}
use Rattle.book_compiler.specs.Leaves.{OnCode, OnNames, DefinesLocal, AddsConstant, MarksGlobal, PushesError, LastPosition, FindsLocal}
use Rattle.book_compiler.proofs.Stood.{stood_spared, stood_nothing, stood_added}
use Rattle.book_compiler.proofs.StoodFunctions.{Ordered, Onward, onward_refl, onward_unless, behind_onward, SparesCode, emit_spares, emit_last_spares}
use Rattle.book_compiler.proofs.StoodFunctions.{remove_spares}
use Rattle.book_compiler.proofs.StoodFunctions.{return_spares, replace_spares, exit_onward, define_onward, SparesConstants, add_spares}
use Rattle.book_compiler.proofs.StoodFunctions.{error_onward}
use Rattle.book_compiler.proofs.Parts.{Spared, with_area, on_law, on_other, slots_count, unbuilt}
use Rattle.undo.specs.Notes.{plain_marks}
use Rattle.undo.proofs.PlainMarks.{add_plain, plain_marks_mark, marks_spare}
use Rattle.book_compiler.proofs.PoolSlots.{pool_marked}
use Rattle.book_compiler.proofs.ConstantCount as count

module _ {κ : Limits} {E : Entries} {others : ℕ → List ℕ} {m : Memory} {w : Work} (H : Represents κ E others m w) where
  -- the function's code starts behind that of the functions before
  pub is_ordered : Ordered m.state
  is_ordered z =
      let C = H.held.rest z in
      let f = w.function.code in
      omega (arith, C.base, C.code.count, length-append E (code_entries f.instructions f.positions))

  -- so what stood is in place after a method over the code
  pub code_spared : {s' : FunctionState} (f : Coded → Coded) → ((x : Coded) → Ordered x.state → SparesCode x (f x)) → (c : List ℕ)
      → coded s' c ≡ f (coded m.state (part_of m code_area)) → Spared others code_area s' c
  code_spared {s'} f spares c r =
      let x = coded m.state (part_of m code_area) in
      let S : SparesCode x (coded s' c) = subst (SparesCode x) (sym r) (spares x is_ordered) in
      record {
        stood = stood_spared (H.preserves.stood code_area (omega arith) refl) (λ z. (H.preserves.behind z).code) S.words;
        behind = behind_onward S.onward H.preserves.behind;
      }

  -- after one over the constants
  pub constants_spared : {s' : FunctionState} {k : List ℕ} → SparesConstants m.state s' (part_of m constants_area) k → Spared others constants_area s' k
  constants_spared S = record {
    stood = stood_spared (H.preserves.stood constants_area (omega arith) refl) (λ z. (H.preserves.behind z).constants) S.words;
    behind = behind_onward S.onward H.preserves.behind;
  }

  -- and over an area in which nothing stood
  pub nothing_spared : {s' : FunctionState} {i : ℕ} {x : List ℕ} → length (others i) ≡ 0 → Onward m.state s' → Spared others i s' x
  nothing_spared {s'} {i} {x} none_stood o = record {
    stood = stood_nothing x none_stood;
    behind = behind_onward o H.preserves.behind;
  }

module _ {κ : Limits} {E : Entries} {others : ℕ → List ℕ} {m m' : Memory} {w : Work} where
  -- the code
  code_law : {f : Coded → Coded} {w' : Work} → ((x : Coded) → Ordered x.state → SparesCode x (f x))
      → ((g : Coded) → (f g).state.constants ≡ g.state.constants) → OnCode f m m' → Represents κ E others m w
      → ((c : List ℕ) → coded m'.state c ≡ f (coded m.state (part_of m 1)) → RepresentsMachine κ E (with_area 1 m'.state c m) w')
      → Represents κ E others m' w'
  code_law {f} spares keeps d H law =
      on_other (omega arith) refl refl refl d.acts H (code_spared H f spares)
      (λ c r. ap (λ (g : Coded). g.state.constants) r ∙ keeps (coded m.state (part_of m 1))) law

  pub emitted : {x p : ℕ} (i : Instruction) (q : ℕ) → OnCode (emit_c x p) m m' → (m.state.full ≡ 0 → x ≡ word i) → (m.state.full ≡ 0 → p ≡ q)
      → Represents κ E others m w → Represents κ E others m' (emit i q w)
  emitted {x} {p} i q d hx hp H = code_law (emit_spares x p) (count.emit_count x p) d H
      (λ c r. held_coded m'.state c r (emit_law x p i q hx hp H.held))

  pub last_emitted : (o : ℕ) → OnCode (emit_last_c (word (to_instruction o 0))) m m' → Represents κ E others m w
      → Represents κ E others m' (emit_opcode_without_position o w)
  last_emitted o d H = code_law (emit_last_spares (word (to_instruction o 0))) (count.last_count (word (to_instruction o 0))) d H
      (λ c r. held_coded m'.state c r (emit_opcode_without_position_law H.held o))

  pub null_emitted : OnCode emit_null_c m m' → Represents κ E others m w → Represents κ E others m' (doing method.emit_null w)
  null_emitted d H = code_law (emit_last_spares (word (to_instruction PushConstant NULL))) (count.last_count _) d H
      (λ c r. held_coded m'.state c r (emit_null_law H.held))

  pub removed : OnCode remove_pop_c m m' → Represents κ E others m w → Represents κ E others m' (doing method.remove_pop_or_push_null w)
  removed d H = code_law remove_spares count.remove_count d H (λ c r. held_coded m'.state c r (remove_law H.held))

  pub returned : (p q : ℕ) → OnCode (emit_return_c p) m m' → (m.state.full ≡ 0 → p ≡ q) → Represents κ E others m w
      → Represents κ E others m' (doing (method.emit_return q) w)
  returned p q d hp H =
      code_law (return_spares p) (count.return_count p) d H (λ c r. held_coded m'.state c r (return_law p q hp H.held))

  -- the names
  pub left : {start : ℕ} → OnNames (exit_scope_c start) m m' → (m.state.full ≡ 0 → start ≡ total (tail (tail w.function.scopes)))
      → Represents κ E others m w → Represents κ E others m' (doing method.exit_scope w)
  left {start} d h H = on_other (omega arith) refl refl refl d.acts H (λ n r. nothing_spared H H.preserves.nothing.names
      (subst (λ (x : Naming). Onward m.state x.state) (sym r) (exit_onward start (naming m.state (part_of m scope_names_area)))))
      (λ n r. ap (λ (g : Naming). g.state.constants) r ∙ count.exit_scope_count start (naming m.state (part_of m 9)))
      (λ n r. scopes.exit_law H.held r h)

  pub defined : {name : ℕ} {r : Found} → DefinesLocal name r m m' → is_open w.function.scopes ≡ true → Represents κ E others m w
      → Represents κ E others m' (with_function (define_local name w.function).state w)
  defined {name} d o H = on_other (omega arith) refl refl refl d.acts H (λ n D. nothing_spared H H.preserves.nothing.names
      (subst (λ (x : Naming). Onward m.state x.state) (sym D.memory) (define_onward name (naming m.state (part_of m scope_names_area)))))
      (λ n D. ap (λ (g : Naming). g.state.constants) D.memory ∙ count.define_count name (naming m.state (part_of m 9)))
      (λ n D. scopes.define_law H.held D o)

  pub defined_found : {name : ℕ} {r : Found} → DefinesLocal name r m m' → Represents κ E others m w → m.state.full ≡ 0
      → is_open w.function.scopes ≡ true → r ≡ found_of (wrapped (define_local name w.function).found)
  defined_found d H z op = scopes.define_found H.held (d.acts.on H.fits).does z op

  -- the constants with their slots, and the errors
  added_law : {kind value index : ℕ} {w' : Work} → AddsConstant kind value index m m' → Represents κ E others m w
      → RepresentsMachine κ E (machine m'.state (part_of m 1) (plain_marks (part_of m' 2)) (part_of m 9) (part_of m 10) (part_of m 11)) w'
      → Represents κ E others m' w'
  added_law {kind} {value} d H G =
      let A = d.adds H.fits H.slots in
      let S : Spared others constants_area m'.state (part_of m' constants_area) =
      constants_spared H (subst (λ (x : Pooling). SparesConstants m.state x.state (part_of m constants_area) x.constants) (sym A.is)
      (add_spares kind value m.state (part_of m constants_area))) in
      record {
        fits = A.fits;
        preserves = record {
          same = λ j g q. let u = unbuilt j q in A.others j g u.constants u.slots ∙ H.preserves.same j g q;
          stood = λ j g q.
              stood_added others (part_of m) (part_of m') j S.stood H.preserves.nothing.slots (A.others j g) (H.preserves.stood j g q);
          nothing = H.preserves.nothing;
          behind = S.behind;
        };
        held = rw (
          A.others 1 (omega arith) refl refl,
          A.others 9 (omega arith) refl refl,
          A.others 10 (omega arith) refl refl,
          A.others 11 (omega arith) refl refl,
        ) G;
        slots = A.slotted;
      }

  -- the same of the constants without notes
  plain_added : {kind value index : ℕ} → AddsConstant kind value index m m' → Represents κ E others m w
      → pooling index m'.state (plain_marks (part_of m' 2)) ≡ add_constant_c kind value m.state (plain_marks (part_of m 2))
  plain_added {kind} {value} d H =
      ap (λ (x : Pooling). pooling x.index x.state (plain_marks x.constants)) (d.adds H.fits H.slots).is
      ∙ add_plain kind value m.state (part_of m 2)

  pub added : {kind value index : ℕ} → AddsConstant kind value index m m' → Represents κ E others m w
      → Represents κ E others m' (add_constant (constant_of kind value) w).work
  added {kind} {value} d H = added_law d H (pool.add_constant_law kind value (plain_added d H) H.held)

  pub added_index : {kind value index : ℕ} → AddsConstant kind value index m m' → Represents κ E others m w → m'.state.full ≡ 0
      → index ≡ (add_constant (constant_of kind value) w).index
  added_index {kind} {value} d H z = pool.add_constant_index kind value (plain_added d H) H.held z

  pub marked : {index : ℕ} (i : ℕ) → MarksGlobal index m m' → (m.state.full ≡ 0 → (index ≡ i) × (i < length w.context.constants))
      → Represents κ E others m w → Represents κ E others m' (mark_global i w)
  marked {index} i d h H = on_law (omega arith) refl refl d.acts H (λ k r. constants_spared H (record {
    onward = rw d.state (onward_refl m.state);
    words = rw r (marks_spare index m.state m.state.full (m.state.constants * 3) (part_of m constants_area));
  }))
      (λ k r. ap (λ (u : List ℕ). pool_of m'.state.constants u) r ∙ pool_marked m'.state.constants index m.state (part_of m 2)
      ∙ ap (λ (u : FunctionState). pool_of u.constants (part_of m 2)) d.state)
      (λ k r. rw d.state (pool.mark_global_law index i (ap plain_marks r ∙ plain_marks_mark index m.state (part_of m 2)) h H.held))

  pub pushed : (number : ℕ) (t : Token) → PushesError number t.position t.kind t.value m m' → Represents κ E others m w
      → Represents κ E others m' (push_error number t w)
  pushed number t d H = on_other (omega arith) refl refl refl d.acts H (λ e r. nothing_spared H H.preserves.nothing.errors
      (subst (λ (x : Erring). Onward m.state x.state) (sym r)
      (error_onward number t.position t.kind t.value m.state (part_of m errors_area))))
      (λ e r. ap (λ (g : Erring). g.state.constants) r ∙ count.error_count number t.position t.kind t.value m.state (part_of m 11))
      (λ e r. pool.push_error_law number t r H.held)

module _ {κ : Limits} {E : Entries} {others : ℕ → List ℕ} {m : Memory} {w : Work} where
  pub next_is : Represents κ E others m w → m.state.full ≡ 0 → next_c m.state ≡ next w
  next_is H z = emission.next_law H.held z

  pub last_is : {r : ℕ} → LastPosition r m → Represents κ E others m w → m.state.full ≡ 0 → r ≡ get_last_position w.function
  last_is d H z = d.reads.on H.fits ∙ emission.last_position_law H.held z

  pub local_is : {name : ℕ} {r : Found} → FindsLocal name r m → Represents κ E others m w → m.state.full ≡ 0
      → r ≡ found_of (wrapped (find_local name w.function))
  local_is {name} d H z = d.reads.on H.fits ∙ ap found_of (scopes.find_law H.held name z)

-- the state alone
module _ {κ : Limits} {E : Entries} {others : ℕ → List ℕ} {s s' : FunctionState} {a l : List ℕ} {w : Work} (H : Represents κ E others (laid s a l) w) where
  counted : {t : FunctionState} → s' ≡ t → s'.constants ≡ t.constants
  counted q = ap (λ (u : FunctionState). u.constants) q

  pub alone : {w' : Work} → Onward s s' → s'.constants ≡ s.constants → RepresentsMachine κ E (view (laid s' a l)) w' → Represents κ E others (laid s' a l) w'
  alone o n G = record {
    fits = H.fits;
    preserves = record {
      same = H.preserves.same;
      stood = H.preserves.stood;
      nothing = H.preserves.nothing;
      behind = behind_onward o H.preserves.behind;
    };
    held = G;
    slots = slots_count n H.slots;
  }

  -- a state that is the same but for other counts and fields
  aside : (x : FunctionState) → s' ≡ unless_full s x s → Onward s x → Onward s s'
  aside x q o = subst (Onward s) (sym q) (onward_unless s x o)

  pub entered : s' ≡ enter_scope_c s → Represents κ E others (laid s' a l) (doing method.enter_scope w)
  entered q = alone (aside (with_scope s.names s.names s) q (record { full = λ z. z; base = refl; constants = omega arith }))
      (counted q ∙ count.enter_scope_count s) (scopes.enter_law H.held q)

  pub loop_entered : s' ≡ enter_break_c s → Represents κ E others (laid s' a l) (doing method.enter_break_scope w)
  loop_entered q = alone (aside (with_loop s.breaks s.breaks true s) q (record { full = λ z. z; base = refl; constants = omega arith }))
      (counted q ∙ count.enter_break_count s) (rw q (state.enter_break_law H.held))

  pub anonymous : s' ≡ define_anonymous_c s → Represents κ E others (laid s' a l) (doing method.define_anonymous_local w)
  anonymous q = alone (aside (with_local_count ((s.local_count + 1) % 2 ^ 64) s) q (record { full = λ z. z; base = refl; constants = omega arith }))
      (counted q ∙ count.anonymous_count s) (scopes.anonymous_law H.held q)

  pub deepened : s' ≡ deeper_c s → Represents κ E others (laid s' a l) (doing (λ f. method.with_depth (f.depth + 1) f) w)
  deepened q = alone (aside (with_depth (min most_depth (s.depth + 1)) s) q (record { full = λ z. z; base = refl; constants = omega arith }))
      (counted q ∙ count.deeper_count s) (rw q (state.deeper_law H.held))

  pub at_depth : (n d : ℕ) → s' ≡ depth_c n s → (s.full ≡ 0 → n ≡ min most_depth d)
      → Represents κ E others (laid s' a l) (doing (λ f. method.with_depth d f) w)
  at_depth n d q h = alone (aside (with_depth n s) q (record { full = λ z. z; base = refl; constants = omega arith }))
      (counted q ∙ count.depth_count s n) (rw q (state.depth_law H.held n d h))

-- an instruction anew; the state stays
module _ {κ : Limits} {E : Entries} {others : ℕ → List ℕ} {s : FunctionState} {a l l' : List ℕ} {w : Work} where
  pub replaced : {index v : ℕ} (j : ℕ) (i : Instruction) → OnCode (replace_c index v) (laid s a l) (laid s a l') → (s.full ≡ 0 → index ≡ j)
      → (s.full ≡ 0 → v ≡ word i) → Represents κ E others (laid s a l) w → Represents κ E others (laid s a l') (replace_instruction j i w)
  replaced {index} {v} j i d hj hv H = on_other (omega arith) refl refl refl d.acts H (code_spared H _ (replace_spares index v)) (λ c r. refl) (λ c r.
      let G = replace_law index v j i hj hv H.held in
      let M = view (laid s a l) in
      subst (λ (g : Coded). RepresentsMachine κ E (machine s g.code M.constants M.names M.breaks M.errors) (replace_instruction j i w)) (sym r) G)
