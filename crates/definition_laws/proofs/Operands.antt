-- What holds all through the compiling of a function (`Kept`): an operand that is no position and names nothing is small, since no list has more parts than
-- records; no more locals are defined than `room` says; notes are only added, and the code and the constants in use are noted. By recursion on the tree, over
-- steps that keep this. Assumes nothing.
use Prim.Native.Nat.{ℕ, ◌+◌, ◌-◌, ◌≤◌, max}
use native.Mathlib.Nat.{le_trans}
use native.Mathlib.Omega.{arith}
use mathlib.Core.Path.{◌≡◌, refl}
use mathlib.Core.Option.{Option, none, some}
use mathlib.Core.List.{List, [], ◌∷◌, ◌++◌}
use lib.ListN.{length}
use lib.Dec.{eqb, ltb, ltb→lt}
use Rattle.words.specs.Ast.{Token, Expression, Expressions, Variables, Statement, Statements, Identifier, This, Null, Integer, Float, Text, Boolean}
use Rattle.words.specs.Ast.{Array, Prefix, Infix, If, IfElse, Call, InstanceGet, IndexGet, ∅ₑ, ◌∷ₑ◌, ∅ᵥ, Bare, Valued, Local, Return, For, Break}
use Rattle.words.specs.Ast.{Rescue, Expr, ∅ₛ, ◌∷ₛ◌}
use Rattle.words.specs.Areas.{code_area, constants_area}
use Rattle.words.specs.Object.{Constant, constant_of, is_shared}
use Rattle.words.specs.Opcode.{Instruction, to_instruction, Pop, PushConstant, ReturnOp, LocalSet, LocalGet, ContextSet, ContextGet, GlobalSet}
use Rattle.words.specs.Opcode.{GlobalGet, InstanceSet, InstanceGetOp, IndexSet, IndexGetOp, Jump, JumpIf, ForNext, Iterate}
use Rattle.tree.specs.At.{size_e, size_es, size_vs, size_s, size_ss, depth_e, depth_es, depth_vs, depth_s, depth_ss}
use Rattle.definition.specs.FunctionState.{FunctionState, innermost, remove_pop_or_push_null, emit_return, emit_break, exit_break_scope, define_local}
use Rattle.definition.specs.FunctionState.{find_name, last_opcode, with_depth, with_parameters}
use Rattle.definition.specs.Uses.{Use}
use Rattle.definition.specs.Compiler.{count, Work, Step, doing, with_function, emit, Added, add_constant, with_constants, find_constant, push_error}
use Rattle.definition.specs.Compiler.{InfixKind, Assigning, Plain, Negated, Compound, Unknown, infix_kind, found_or, compile_statement}
use Rattle.definition.specs.Compiler.{compile_statements, compile_expression, compile_expressions, compile_variables}
use Rattle.definition.specs.Compiler.{compile_assign_expression_left_part, compile_parameters, skip, and_then, deeper, compile_rescue, compile_bare}
use Rattle.definition.specs.Compiler.{compile_valued, compile_expression_statement, compile_for_statement, compile_if_expression, compile_part}
use Rattle.definition.specs.Compiler.{compile_no_part, compile_array_expression, compile_call_expression, compile_prefix_expression}
use Rattle.definition.specs.Compiler.{compile_infix_expression, compile_infix_by, compile_operation, compile_assign_expression, compile_pair}
use Rattle.definition.specs.Compiler.{compile_assign_name, compile_function_definition_base, compile_this_expression, compile_identifier_expression}
use Rattle.definition.specs.Compiler.{emit_name, compile_null_expression, compile_boolean_expression, compile_string_expression}
use Rattle.definition.specs.Compiler.{compile_float_expression, compile_integer_expression, emit_global, emit_constant, compile_parameter}
use Rattle.definition.specs.Within.{All, nil, ◌&◌, Class, Position, Slot, Read, Pool, ContextSlot, Other, class_of}
use Rattle.definition_laws.proofs.Defining.{define_cases}
use Rattle.definition_laws.proofs.Lists.{all_append, all_set, all_take, all_patch, cond_case}
use Rattle.definition_laws.proofs.Uses.{Later, Noted, later_same, later_more, noted_here, noted_more}
use Rattle.definition_laws.proofs.Room.{room, room_deeper, room_two, room_more, room_beside, get_once, get_twice}
use Rattle.definition.specs.FunctionState as Emission
use Rattle.definition.specs.Compiler

-- an operand that is no position and names nothing
abbrev pub SmallBy : Class → ℕ → ℕ → Type 0
SmallBy Position B n = Unit {0}
SmallBy Slot B n = Unit {0}
SmallBy Read B n = Unit {0}
SmallBy Pool B n = Unit {0}
SmallBy ContextSlot B n = Unit {0}
SmallBy Other B n = n ≤ B

abbrev pub Small : ℕ → Instruction → Type 0
Small B i = SmallBy (class_of i.opcode) B i.operand

-- a function's code and its number of locals: small operands up to B, locals up to m
pub record Body (B m : ℕ) (code : List Instruction) (locals : ℕ) : Type 0 where
  pub small : All (Small B) code
  pub few : locals ≤ m

abbrev BodyOf : ℕ → ℕ → FunctionState → Type 0
BodyOf B m f = Body B m f.code.instructions f.header.local_count

-- what a function is compiled under: the greatest small operand, the entries that stand, the notes and the code before it
pub record Frame : Type 0 where
  pub operands : ℕ
  pub standing : ℕ → ℕ
  pub uses : List Use
  pub before : ℕ

-- what holds all through it, where m locals may be defined so far
pub record Kept (K : Frame) (m : ℕ) (w : Work) : Type 0 where
  pub body : Body K.operands m w.function.code.instructions w.function.header.local_count
  pub before : w.before ≡ K.before
  pub later : Later K.uses w.uses
  pub code : Noted K.standing w.uses code_area (w.before + length w.function.code.instructions)
  pub constants : Noted K.standing w.uses constants_area (length w.context.constants)

-- a step that keeps it and defines n locals at most
pub record Keeps (K : Frame) (n : ℕ) (s : Step) : Type 0 where
  pub keeps : (w : Work) (m : ℕ) → Kept K m w → Kept K (m + n) (s w)

-- function_state.rs

module _ {B m : ℕ} where
  body_emit : {code : List Instruction} {n : ℕ} (i : Instruction) → Small B i → Body B m code n → Body B m (code ++ (i ∷ [])) n
  body_emit i h b = record { small = all_append b.small (h & nil); few = b.few }

  body_close : (f : FunctionState) → BodyOf B m f → BodyOf B m (remove_pop_or_push_null f)
  unfolding remove_pop_or_push_null
  body_close f b =
      cond_case (BodyOf B m) (eqb (last_opcode f) Pop) (λ t. record { small = all_take b.small (length f.code.instructions - 1); few = b.few })
      (λ t. cond_case (BodyOf B m) (eqb (last_opcode f) ReturnOp) (λ u. b) (λ u. body_emit _ tt b))

  body_return : (p : ℕ) (f : FunctionState) → BodyOf B m f → BodyOf B m (emit_return p f)
  unfolding emit_return
  body_return p f b =
      cond_case (BodyOf B m) (eqb (last_opcode (remove_pop_or_push_null f)) ReturnOp) (λ t. body_close f b)
      (λ t. body_emit _ (omega arith) (body_close f b))

  body_define : (n : ℕ) (f : FunctionState) → BodyOf B m f → BodyOf B (m + 1) (define_local n f).state
  body_define n f b = define_cases (λ d. BodyOf B (m + 1) d.state) n f go
    where
      go : (o : Option ℕ) → BodyOf B (m + 1) (Emission.define_local_by o n f).state
      go none = record { small = b.small; few = omega (arith, b.few) }
      go (some i) = record { small = b.small; few = omega (arith, b.few) }

  body_break : (p : ℕ) (f : FunctionState) → BodyOf B m f → BodyOf B m (emit_break p f)
  unfolding emit_break
  body_break p f b = go f.break_scopes
    where
      go : (bs : List (List ℕ)) → BodyOf B m (Emission.emit_break_in bs p f)
      go [] = b
      go (s ∷ ss) = body_emit _ tt b

-- an operation's number
abbrev Known : InfixKind → Type 0
Known Assigning = Unit {0}
Known (Plain n) = n ≤ 258
Known (Negated n) = n ≤ 258
Known (Compound n) = n ≤ 258
Known Unknown = Unit {0}

operation_small : (n : ℕ) → Known (infix_kind n)
operation_small n =
    cond_case Known (eqb n 0) (λ h. tt)
    (λ h. cond_case Known (ltb n 6) (λ h. omega (arith, ltb→lt n 6 h))
    (λ h. cond_case Known (ltb n 11) (λ h. omega (arith, ltb→lt n 11 h))
    (λ h. cond_case Known (eqb n 11) (λ h. omega arith)
    (λ h. cond_case Known (eqb n 12) (λ h. omega arith)
    (λ h. cond_case Known (ltb n 17) (λ h. omega (arith, ltb→lt n 17 h))
    (λ h. cond_case Known (eqb n 17) (λ h. omega arith)
    (λ h. cond_case Known (eqb n 18) (λ h. omega arith) (λ h. tt))))))))

-- compiler.rs: leaves

module _ {K : Frame} where
  kept_le : {m n : ℕ} {w : Work} → m ≤ n → Kept K m w → Kept K n w
  kept_le h k = record {
    body = record { small = k.body.small; few = omega (arith, k.body.few) };
    before = k.before;
    later = k.later;
    code = k.code;
    constants = k.constants;
  }

  keeps_le : {m n : ℕ} {s : Step} → m ≤ n → Keeps K m s → Keeps K n s
  keeps_le h A = record { keeps = λ w x k. kept_le (omega arith) (A.keeps w x k) }

  -- a step that defines no local
  keeping : {s : Step} → ((w : Work) (m : ℕ) → Kept K m w → Kept K m (s w)) → Keeps K 0 s
  keeping h = record { keeps = λ w m k. kept_le (omega arith) (h w m k) }

  keep_function : {m n : ℕ} (w : Work) (f : FunctionState) → Kept K m w → BodyOf K.operands n f → Kept K n (with_function f w)
  keep_function w f k b = record {
    body = b;
    before = k.before;
    later = later_more _ (later_more _ (later_more _ k.later));
    code = noted_more (noted_more noted_here);
    constants = noted_more (noted_more (noted_more k.constants));
  }

  keep_constants : {m : ℕ} (w : Work) (cs : List Constant) (gs : List ℕ) → Kept K m w → Kept K m (with_constants cs gs w)
  keep_constants w cs gs k = record {
    body = k.body;
    before = k.before;
    later = later_more _ k.later;
    code = noted_more k.code;
    constants = noted_here;
  }

  keep_error : {m : ℕ} (n : ℕ) (t : Token) (w : Work) → Kept K m w → Kept K m (push_error n t w)
  keep_error n t w k = record {
    body = k.body;
    before = k.before;
    later = later_more _ k.later;
    code = noted_more k.code;
    constants = noted_more k.constants;
  }

  keep_emit : {m : ℕ} (w : Work) (o n p : ℕ) → Kept K m w → SmallBy (class_of o) K.operands n → Kept K m (emit (to_instruction o n) p w)
  keep_emit w o n p k h = keep_function w _ k (body_emit (to_instruction o n) h k.body)

  -- an instruction anew whose operand is a position
  keep_replace : {m : ℕ} (w : Work) (j o n : ℕ) → Kept K m w → SmallBy (class_of o) K.operands n
      → Kept K m (Compiler.replace_instruction j (to_instruction o n) w)
  keep_replace w j o n k h = keep_function w _ k (record { small = all_set k.body.small h j; few = k.body.few })

  keep_constant : {m : ℕ} (c : Constant) (w : Work) → Kept K m w → Kept K m (add_constant c w).work
  unfolding add_constant
  keep_constant {m} c w k =
      cond_case (λ (a : Added). Kept K m a.work) (is_shared c.kind) (λ t. go (find_constant c w.context.constants 0)) (λ t. keep_constants w _ _ k)
    where
      go : (o : Option ℕ) → Kept K m (Compiler.add_constant_by o c w).work
      go none = keep_constants w _ _ k
      go (some i) = k

  emit_keeps : (o n p : ℕ) → SmallBy (class_of o) K.operands n → Keeps K 0 (emit (to_instruction o n) p)
  emit_keeps o n p h = keeping (λ w m k. keep_emit w o n p k h)

  error_keeps : (n : ℕ) (t : Token) → Keeps K 0 (push_error n t)
  error_keeps n t = keeping (λ w m k. keep_error n t w k)

  return_keeps : (p : ℕ) → Keeps K 0 (doing (emit_return p))
  return_keeps p = keeping (λ w m k. keep_function w _ k (body_return p w.function k.body))

  break_keeps : (p : ℕ) → Keeps K 0 (doing (emit_break p))
  break_keeps p = keeping (λ w m k. keep_function w _ k (body_break p w.function k.body))

  rescue_keeps : (t : Token) → Keeps K 0 (compile_rescue t)
  unfolding compile_rescue
  rescue_keeps t = keeping (λ w m k.
      cond_case (Kept K m) (ltb 1 w.function.depth) (λ h. keep_error 4 t w k)
      (λ h. keep_function w _ k (body_return t.position w.function k.body)))

  emit_constant_keeps : (o : ℕ) (c : Constant) (p : ℕ) → ((n : ℕ) → SmallBy (class_of o) K.operands n) → Keeps K 0 (emit_constant o c p)
  unfolding emit_constant
  emit_constant_keeps o c p h = keeping (λ w m k. keep_emit (add_constant c w).work o _ p (keep_constant c w k) (h _))

  -- names: by the opcodes for a local, a context local, a global, whose operands are no small numbers
  name_keeps : (l c g n p : ℕ) → ((i : ℕ) → SmallBy (class_of l) K.operands i) → ((i : ℕ) → SmallBy (class_of c) K.operands i)
      → ((i : ℕ) → SmallBy (class_of g) K.operands i) → Keeps K 0 (emit_name l c g n p)
  unfolding emit_name emit_global
  name_keeps l c g n p x y z = keeping (λ w m k. go w m k (Emission.find_local n w.function))
    where
      inner : (w : Work) (m : ℕ) → Kept K m w → (o : Option ℕ) → Kept K m (Compiler.emit_name_in_context o c g n p w)
      inner w m k none =
          let a = add_constant (constant_of 4 n) w in
          keep_emit (Compiler.mark_global a.index a.work) g _ p (keep_constants a.work _ _ (keep_constant (constant_of 4 n) w k)) (z _)
      inner w m k (some i) = keep_emit w c i p k (y i)

      go : (w : Work) (m : ℕ) → Kept K m w → (o : Option ℕ) → Kept K m (Compiler.emit_name_by o l c g n p w)
      go w m k none = inner w m k (find_name n w.compiler.locals)
      go w m k (some i) = keep_emit w l i p k (x i)

  this_keeps : (t : Token) → Keeps K 0 (compile_this_expression t)
  unfolding compile_this_expression
  this_keeps t = keeping (λ w m k. keep_function w _ k (body_emit _ tt k.body))

  skip_keeps : Keeps K 0 skip
  unfolding skip
  skip_keeps = keeping (λ w m k. k)

  no_part_keeps : Keeps K 0 compile_no_part
  unfolding compile_no_part
  no_part_keeps = keeping (λ w m k. keep_function w _ k (body_emit _ tt k.body))

  bare_keeps : (n : ℕ) (t : Token) → Keeps K 1 (compile_bare n t)
  unfolding compile_bare
  bare_keeps n t = record {
    keeps = λ w m k.
        go (m + 1) (define_local t.value w.function).found _ (keep_function w _ k (body_define t.value w.function k.body));
  }
    where
      go : (m : ℕ) (o : Option ℕ) (v : Work) → Kept K m v → Kept K m (Compiler.bare_by o n t v)
      go m none v k = keep_error n t v k
      go m (some i) v k = k

  -- compiler.rs: compounds

  module _ {x : ℕ} {a : Step} (A : Keeps K x a) where
    array_keeps : (t : Token) (n : ℕ) → n ≤ K.operands → Keeps K x (compile_array_expression t n a)
    unfolding compile_array_expression
    array_keeps t n h = record { keeps = λ w m k. keep_emit (a w) _ n _ (A.keeps w m k) h }

    prefix_keeps : (t : Token) → Keeps K x (compile_prefix_expression t a)
    unfolding compile_prefix_expression
    prefix_keeps t = record {
      keeps = λ w m k.
          let j = A.keeps w m k in
          cond_case (Kept K (m + x)) (eqb t.value 0) (λ h. keep_emit (a w) _ 0 _ j (omega arith))
          (λ h. cond_case (Kept K (m + x)) (eqb t.value 1) (λ h. keep_emit (a w) _ 0 _ j (omega arith)) (λ h. keep_error 3 t (a w) j));
    }

    part_keeps : Keeps K x (compile_part a)
    unfolding compile_part
    part_keeps = record {
      keeps = λ w m k.
          let w₁ = doing Emission.enter_scope w in
          let j = A.keeps w₁ m (keep_function w _ k k.body) in
          let g = Emission.exit_scope (a w₁).function in
          keep_function _ _ (keep_function (a w₁) g j j.body) (body_close g j.body);
    }

    deeper_keeps : Keeps K x (deeper a)
    unfolding deeper
    deeper_keeps = record {
      keeps = λ w m k.
          let w₁ = doing (λ f. with_depth (f.depth + 1) f) w in
          let j = A.keeps w₁ m (keep_function w _ k k.body) in
          keep_function (a w₁) _ j j.body;
    }

    value_keeps : Keeps K x (compile_expression_statement a)
    unfolding compile_expression_statement
    value_keeps = record { keeps = λ w m k. keep_emit (a w) Pop 0 _ (A.keeps w m k) (omega arith) }

    valued_keeps : (t : Token) → Keeps K (1 + x) (compile_valued t a)
    unfolding compile_valued
    valued_keeps t = record {
      keeps = λ w m k.
          kept_le (omega arith)
          (go (m + 1) (define_local t.value w.function).found _ (keep_function w _ k (body_define t.value w.function k.body)));
    }
      where
        go : (m : ℕ) (o : Option ℕ) (v : Work) → Kept K m v → Kept K (m + x) (Compiler.valued_by o t a v)
        go m none v k = kept_le (omega arith) (keep_error 1 t v k)
        go m (some i) v k = keep_emit (a v) _ i _ (A.keeps v m k) tt

  module _ {x y : ℕ} {a b : Step} (X : Keeps K x a) (Y : Keeps K y b) where
    both : (w : Work) (m : ℕ) → Kept K m w → Kept K (m + (x + y)) (b (a w))
    both w m k = kept_le (omega arith) (Y.keeps (a w) (m + x) (X.keeps w m k))

    then_keeps : Keeps K (x + y) (and_then a b)
    unfolding and_then
    then_keeps = record { keeps = both }

    pair_keeps : (o : ℕ) (t : Token) → SmallBy (class_of o) K.operands 0 → Keeps K (x + y) (compile_pair o t a b)
    unfolding compile_pair
    pair_keeps o t h = record { keeps = λ w m k. keep_emit (b (a w)) o 0 _ (both w m k) h }

    call_keeps : (t : Token) (n : ℕ) → n ≤ K.operands → Keeps K (x + y) (compile_call_expression t n a b)
    unfolding compile_call_expression
    call_keeps t n h = record { keeps = λ w m k. keep_emit (b (a w)) _ n _ (both w m k) h }

    operation_keeps : (n : ℕ) (t : Token) → n ≤ K.operands → Keeps K (x + y) (compile_operation n t a b)
    unfolding compile_operation
    operation_keeps n t h = record { keeps = λ w m k. keep_emit (b (a w)) _ n _ (both w m k) h }

    -- the enumerable a, the statements b
    for_keeps : (t i : Token) → Keeps K (3 + x + y) (compile_for_statement t i a b)
    unfolding compile_for_statement exit_break_scope
    for_keeps t i = record {
      keeps = λ w m k.
          let w₁ = doing (λ f. Emission.enter_break_scope (Emission.enter_scope (Emission.define_anonymous_local (Emission.define_anonymous_local f)))) w in
          let k₁ : Kept K (m + 2) w₁ = keep_function w _ k (record { small = k.body.small; few = omega (arith, k.body.few) }) in
          let u₃ = emit (to_instruction LocalSet w.function.header.local_count) t.position (a w₁) in
          let w₃ = Compiler.emit_opcode_without_position Pop u₃ in
          let k₃ = keep_emit u₃ Pop 0 _ (keep_emit (a w₁) LocalSet _ t.position (X.keeps w₁ (m + 2) k₁) tt) (omega arith) in
          let w₄ = emit_constant PushConstant (constant_of 2 0) t.position w₃ in
          let k₄ : Kept K (m + 2 + x + 0) w₄ = (emit_constant_keeps PushConstant (constant_of 2 0) t.position (λ n. tt)).keeps w₃ (m + 2 + x) k₃ in
          let u₅ = emit (to_instruction LocalSet (w.function.header.local_count + 1)) t.position w₄ in
          let w₅ = Compiler.emit_opcode_without_position Pop u₅ in
          let k₅ = keep_emit u₅ Pop 0 _ (keep_emit w₄ LocalSet _ t.position k₄ tt) (omega arith) in
          let d = define_local i.value w₅.function in
          let w₆ = with_function d.state w₅ in
          let k₆ = keep_function w₅ d.state k₅ (body_define i.value w₅.function k₅.body) in
          let w₇ = emit (to_instruction ForNext w.function.header.local_count) t.position w₆ in
          let w₈ = Compiler.emit_opcode_without_position JumpIf w₇ in
          let k₈ = keep_emit w₇ JumpIf 0 _ (keep_emit w₆ ForNext _ t.position k₆ tt) tt in
          let u₉ = emit (to_instruction LocalSet (found_or 0 d.found)) i.position w₈ in
          let w₉ = Compiler.emit_opcode_without_position Pop u₉ in
          let k₉ : Kept K (m + (3 + x)) w₉ = kept_le (omega arith) (keep_emit u₉ Pop 0 _ (keep_emit w₈ LocalSet _ i.position k₈ tt) (omega arith)) in
          let v₁ = b w₉ in
          let v₂ = emit (to_instruction Iterate (w.function.header.local_count + 1)) (Emission.get_last_position v₁.function) v₁ in
          let v₃ = emit (to_instruction Jump (Compiler.next w₆)) (Emission.get_last_position v₂.function) v₂ in
          let j₁ : Kept K (m + (3 + x + y)) v₁ = kept_le (omega arith) (Y.keeps w₉ (m + (3 + x)) k₉) in
          close (m + (3 + x + y)) (Compiler.next w₇) v₃ (keep_emit v₂ Jump _ _ (keep_emit v₁ Iterate _ _ j₁ tt) tt);
    }
      where
        close : (m exit : ℕ) (v : Work) → Kept K m v
            → Kept K m (doing Emission.exit_scope (doing (exit_break_scope exit)
            (Compiler.replace_instruction exit (to_instruction JumpIf (Compiler.next v)) v)))
        close m exit v k =
            let v₄ = Compiler.replace_instruction exit (to_instruction JumpIf (Compiler.next v)) v in
            let k₄ : Kept K m v₄ = keep_replace v exit JumpIf (Compiler.next v) k tt in
            let s₅ = all_patch (innermost v₄.function.break_scopes) k₄.body.small tt in
            let k₅ : Kept K m (doing (exit_break_scope exit) v₄) = keep_function v₄ _ k₄ (record { small = s₅; few = k₄.body.few }) in
            keep_function _ _ k₅ k₅.body

  module _ {x y z : ℕ} {l r g : Step} (X : Keeps K x l) (Y : Keeps K y r) (Z : Keeps K z g) where
    infix_keeps : (t : Token) → 258 ≤ K.operands → Keeps K (x + y + z) (compile_infix_expression t l r g)
    unfolding compile_infix_expression compile_assign_expression
    infix_keeps t h = record { keeps = λ w m k. go w m k (infix_kind t.value) (operation_small t.value) }
      where
        plain : (n : ℕ) → n ≤ 258 → (w : Work) (m : ℕ) → Kept K m w → Kept K (m + (x + y)) (compile_operation n t l r w)
        plain n q w m k = (operation_keeps X Y n t (le_trans q h)).keeps w m k

        go : (w : Work) (m : ℕ) → Kept K m w → (i : InfixKind) → Known i → Kept K (m + (x + y + z)) (compile_infix_by i t l r g w)
        go w m k Assigning q = kept_le (omega arith) (both Y Z w m k)
        go w m k (Plain n) q = kept_le (omega arith) (plain n q w m k)
        go w m k (Negated n) q = kept_le (omega arith) (keep_emit (compile_operation n t l r w) _ 0 _ (plain n q w m k) (omega arith))
        go w m k (Compound n) q = kept_le (omega arith) (Z.keeps _ (m + (x + y)) (plain n q w m k))
        go w m k Unknown q = kept_le (omega arith) (keep_error 3 t w k)

    -- the condition l, the true part r, the false part g
    if_keeps : Keeps K (x + y + z) (compile_if_expression l r g)
    unfolding compile_if_expression
    if_keeps = record {
      keeps = λ w m k.
          let w₁ = l w in
          let w₂ = Compiler.emit_opcode_without_position JumpIf w₁ in
          let w₃ = g w₂ in
          let k₃ : Kept K (m + x + z) w₃ = Z.keeps w₂ (m + x) (keep_emit w₁ JumpIf 0 _ (X.keeps w m k) tt) in
          let w₄ = Compiler.emit_opcode_without_position Jump w₃ in
          let w₅ = Compiler.replace_instruction (Compiler.next w₁) (to_instruction JumpIf (Compiler.next w₄)) w₄ in
          let k₅ : Kept K (m + x + z) w₅ = keep_replace w₄ (Compiler.next w₁) JumpIf (Compiler.next w₄) (keep_emit w₃ Jump 0 _ k₃ tt) tt in
          let k₆ : Kept K (m + (x + y + z)) (r w₅) = kept_le (omega arith) (Y.keeps w₅ (m + x + z) k₅) in
          keep_replace (r w₅) (Compiler.next w₃) Jump (Compiler.next (r w₅)) k₆ tt;
    }

-- a list has no more parts than records

size_positive : (e : Expression) → 1 ≤ size_e e
unfolding size_e
size_positive (Identifier t) = omega arith
size_positive (This t) = omega arith
size_positive (Null t) = omega arith
size_positive (Integer t) = omega arith
size_positive (Float t) = omega arith
size_positive (Text t) = omega arith
size_positive (Boolean t) = omega arith
size_positive (Array t es) = omega arith
size_positive (Prefix t e) = omega arith
size_positive (Infix l t r) = omega arith
size_positive (If c t) = omega arith
size_positive (IfElse c t f) = omega arith
size_positive (Call t f es) = omega arith
size_positive (InstanceGet t l r) = omega arith
size_positive (IndexGet t l r) = omega arith

parts_within : (es : Expressions) → count es ≤ size_es es
unfolding size_e count
parts_within ∅ₑ = omega arith
parts_within (e ∷ₑ es) = omega (arith, size_positive e, parts_within es)

-- what an expression defines where it is read, and again where it is a compound's target
record Defines (K : Frame) (e : Expression) : Type 0 where
  own : ℕ
  again : ℕ
  read : Keeps K own (compile_expression e)
  target : (a : Token) → Keeps K again (compile_assign_expression_left_part e a)
  once : own ≤ room (size_e e) (depth_e e)
  twice : own + again ≤ room (size_e e) (1 + depth_e e)

module _ {K : Frame} where
  within : {e : Expression} → Defines K e → Keeps K (room (size_e e) (depth_e e)) (compile_expression e)
  within d = keeps_le d.once d.read

  refused : (a : Token) → Keeps K 0 (push_error 2 a)
  refused a = error_keeps 2 a

  -- no target, or a name
  plainly : {n : ℕ} (e : Expression) → Keeps K n (compile_expression e) → ((a : Token) → Keeps K 0 (compile_assign_expression_left_part e a))
      → n ≤ room (size_e e) (depth_e e) → Defines K e
  plainly {n} e A t h = record {
    own = n;
    again = 0;
    read = A;
    target = t;
    once = h;
    twice = omega (arith, room_deeper (size_e e) (let l : depth_e e ≤ 1 + depth_e e = omega arith in l));
  }

  leaf : (e : Expression) → Keeps K 0 (compile_expression e) → ((a : Token) → Keeps K 0 (compile_assign_expression_left_part e a)) → Defines K e
  leaf e A t = plainly e A t (omega arith)

-- every part keeps, where the numbers of parts and operations are small
module _ {K : Frame} (b : 258 ≤ K.operands) where
  mutual
    unfolding compile_expression compile_identifier_expression compile_null_expression compile_integer_expression compile_float_expression
        compile_string_expression
        compile_boolean_expression compile_assign_name size_e depth_e

    expression_defines : (e : Expression) → size_e e ≤ K.operands → Defines K e
    expression_defines (Identifier t) h =
        leaf _ (name_keeps LocalGet ContextGet GlobalGet _ _ (λ i. tt) (λ i. tt) (λ i. tt))
        (λ a. name_keeps LocalSet ContextSet GlobalSet _ _ (λ i. tt) (λ i. tt) (λ i. tt))
    expression_defines (This t) h = leaf _ (this_keeps t) refused
    expression_defines (Null t) h = leaf _ (emit_keeps _ _ _ tt) refused
    expression_defines (Integer t) h = leaf _ (emit_constant_keeps _ _ _ (λ n. tt)) refused
    expression_defines (Float t) h = leaf _ (emit_constant_keeps _ _ _ (λ n. tt)) refused
    expression_defines (Text t) h = leaf _ (emit_constant_keeps _ _ _ (λ n. tt)) refused
    expression_defines (Boolean t) h = leaf _ (emit_keeps _ _ _ tt) refused
    expression_defines (Array t es) h =
        plainly _ (array_keeps (expressions_keep es (omega arith)) t _ (le_trans (parts_within es) (omega arith))) refused
        (omega (arith, room_more 1 0 (size_es es) (depth_es es) (1 + depth_es es) (omega arith) (omega arith)))
    expression_defines (Prefix t e) h =
        plainly _ (prefix_keeps (within (expression_defines e (omega arith))) t) refused
        (omega (arith, room_more 1 0 (size_e e) (depth_e e) (1 + depth_e e) (omega arith) (omega arith)))
    expression_defines (Infix l t r) h =
        let x = expression_defines l (omega arith) in
        let y : x.own + x.again ≤ room (size_e l) (1 + depth_e l) = x.twice in
        plainly _ (infix_keeps x.read (within (expression_defines r (omega arith))) (x.target t) t b) refused
        (omega (
          arith,
          room_beside 1 0 (size_e l) (size_e r) (1 + depth_e l) (depth_e r) (1 + max (depth_e l) (depth_e r)) (omega arith) (omega arith)
              (omega arith),
        ))
    expression_defines (If c t) h =
        let n : ℕ = 1 + max (depth_e c) (1 + depth_ss t) in
        plainly _ (if_keeps (within (expression_defines c (omega arith))) (part_keeps (statements_keep t (omega arith))) no_part_keeps) refused
        (omega (
          arith,
          room_more 1 0 (size_e c) (depth_e c) n (omega arith) (omega arith),
          room_more 1 0 (size_ss t) (depth_ss t) n (omega arith) (omega arith),
          room_two (1 + size_e c) (1 + size_ss t) n n n (omega arith) (omega arith),
        ))
    expression_defines (IfElse c t f) h =
        let n : ℕ = 1 + max (depth_e c) (1 + max (depth_ss t) (depth_ss f)) in
        let yes' = part_keeps (statements_keep t (omega arith)) in
        let no' = part_keeps (statements_keep f (omega arith)) in
        plainly _ (if_keeps (within (expression_defines c (omega arith))) yes' no')
        refused
        (omega (
          arith,
          room_more 1 0 (size_e c) (depth_e c) n (omega arith) (omega arith),
          room_more 1 0 (size_ss t) (depth_ss t) n (omega arith) (omega arith),
          room_more 1 0 (size_ss f) (depth_ss f) n (omega arith) (omega arith),
          room_two (1 + size_e c) (1 + size_ss t) n n n (omega arith) (omega arith),
          room_two (1 + size_e c + (1 + size_ss t)) (1 + size_ss f) n n n (omega arith) (omega arith),
        ))
    expression_defines (Call t f es) h =
        plainly _ (call_keeps (within (expression_defines f (omega arith))) (expressions_keep es (omega arith)) t _ (le_trans (parts_within es) (omega arith)))
        refused (get_once (size_e f) (size_es es) (depth_e f) (depth_es es))
    expression_defines (InstanceGet t l r) h = record {
      own = _;
      again = _;
      read = pair_keeps (within (expression_defines l (omega arith))) (within (expression_defines r (omega arith))) InstanceGetOp t (omega arith);
      target = λ c. pair_keeps (within (expression_defines l (omega arith))) (within (expression_defines r (omega arith))) InstanceSet t (omega arith);
      once = get_once (size_e l) (size_e r) (depth_e l) (depth_e r);
      twice = get_twice (size_e l) (size_e r) (depth_e l) (depth_e r);
    }
    expression_defines (IndexGet t l r) h = record {
      own = _;
      again = _;
      read = pair_keeps (within (expression_defines l (omega arith))) (within (expression_defines r (omega arith))) IndexGetOp t (omega arith);
      target = λ c. pair_keeps (within (expression_defines l (omega arith))) (within (expression_defines r (omega arith))) IndexSet t (omega arith);
      once = get_once (size_e l) (size_e r) (depth_e l) (depth_e r);
      twice = get_twice (size_e l) (size_e r) (depth_e l) (depth_e r);
    }

    expressions_keep : (es : Expressions) → size_es es ≤ K.operands → Keeps K (room (size_es es) (depth_es es)) (compile_expressions es)
    expressions_keep ∅ₑ h = keeps_le (omega arith) skip_keeps
    expressions_keep (e ∷ₑ es) h =
        keeps_le (room_two (size_e e) (size_es es) (depth_e e) (depth_es es) _ (omega arith) (omega arith))
        (then_keeps (within (expression_defines e (omega arith))) (expressions_keep es (omega arith)))

    variables_keep : (vs : Variables) → size_vs vs ≤ K.operands → Keeps K (room (size_vs vs) (depth_vs vs)) (compile_variables vs)
    variables_keep ∅ᵥ h = keeps_le (omega arith) skip_keeps
    variables_keep (Bare t vs) h =
        keeps_le (room_more 2 1 (size_vs vs) (depth_vs vs) (max 1 (depth_vs vs)) (omega arith) (omega arith))
        (then_keeps (bare_keeps 1 t) (variables_keep vs (omega arith)))
    variables_keep (Valued t e vs) h =
        keeps_le (room_beside 1 1 (size_e e) (size_vs vs) (depth_e e) (depth_vs vs) (max (depth_e e) (depth_vs vs)) (omega arith) (omega arith) (omega arith))
        (then_keeps (valued_keeps (within (expression_defines e (omega arith))) t) (variables_keep vs (omega arith)))

    statement_keeps : (s : Statement) → size_s s ≤ K.operands → Keeps K (room (size_s s) (depth_s s)) (compile_statement s)
    statement_keeps (Local vs) h =
        keeps_le (omega (arith, room_more 1 0 (size_vs vs) (depth_vs vs) (1 + depth_vs vs) (omega arith) (omega arith)))
        (deeper_keeps (variables_keep vs (omega arith)))
    statement_keeps (Return t) h = keeps_le (omega arith) (deeper_keeps (return_keeps _))
    statement_keeps (For t i e ss) h =
        keeps_le (room_beside 2 3 (size_e e) (size_ss ss) (depth_e e) (depth_ss ss) (1 + max (depth_e e) (depth_ss ss)) (omega arith) (omega arith)
        (omega arith))
        (deeper_keeps (for_keeps (within (expression_defines e (omega arith))) (statements_keep ss (omega arith)) t i))
    statement_keeps (Break t) h = keeps_le (omega arith) (deeper_keeps (break_keeps _))
    statement_keeps (Rescue t) h = keeps_le (omega arith) (deeper_keeps (rescue_keeps t))
    statement_keeps (Expr e) h =
        keeps_le (omega (arith, room_more 1 0 (size_e e) (depth_e e) (1 + depth_e e) (omega arith) (omega arith)))
        (deeper_keeps (value_keeps (within (expression_defines e (omega arith)))))

    statements_keep : (ss : Statements) → size_ss ss ≤ K.operands → Keeps K (room (size_ss ss) (depth_ss ss)) (compile_statements ss)
    statements_keep ∅ₛ h = keeps_le (omega arith) skip_keeps
    statements_keep (s ∷ₛ ss) h =
        keeps_le (room_two (size_s s) (size_ss ss) (depth_s s) (depth_ss ss) _ (omega arith) (omega arith))
        (then_keeps (statement_keeps s (omega arith)) (statements_keep ss (omega arith)))

module _ {K : Frame} where
  parameter_keeps : (t : Token) → Keeps K 1 (compile_parameter t)
  unfolding compile_parameter
  parameter_keeps t = record { keeps = λ w m k. (bare_keeps 7 t).keeps _ m (keep_function w _ k k.body) }

  parameters_keep : (ts : List Token) → Keeps K (length ts) (compile_parameters ts)
  unfolding compile_parameters
  parameters_keep [] = skip_keeps
  parameters_keep (t ∷ ts) = keeps_le (omega arith) (then_keeps (parameter_keeps t) (parameters_keep ts))

-- a function keeps, whatever stood in the function state before
pub function_kept : (B : ℕ) (S : ℕ → ℕ) (parameters : List Token) (body : Statements) → 258 ≤ B → size_ss body ≤ B → (w : Work)
    → Noted S w.uses constants_area (length w.context.constants)
    → Kept (record { operands = B; standing = S; uses = w.uses; before = w.before }) (length parameters + room (size_ss body) (depth_ss body))
    (compile_function_definition_base parameters body w)
unfolding compile_function_definition_base
function_kept B S ps body b h w n =
    let w₀ = with_function Emission.new_function_state w in
    let k₀ : Kept (record { operands = B; standing = S; uses = w.uses; before = w.before }) 0 w₀ = record {
      body = record { small = nil; few = omega arith };
      before = refl;
      later = later_more _ (later_more _ (later_more _ (later_same _)));
      code = noted_more (noted_more noted_here);
      constants = noted_more (noted_more (noted_more n));
    } in
    let w₁ = compile_parameters ps w₀ in
    let k₁ = (parameters_keep ps).keeps w₀ 0 k₀ in
    let w₂ = doing (λ f. with_parameters f.header.is_instance (length ps) f) w₁ in
    let k₃ = (statements_keep b body h).keeps w₂ _ (keep_function w₁ _ k₁ k₁.body) in
    kept_le (omega arith) ((return_keeps _).keeps (compile_statements body w₂) _ k₃)
