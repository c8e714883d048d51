-- The invariant of a whole compiling, and each piece of compiler.rs under it, where no error is left at its end
use Prim.Native.Nat.{ℕ, zero, suc, ◌+◌, ◌≤◌, ◌<◌}
use native.Mathlib.Nat.{le_refl, le_trans}
use native.Mathlib.Omega.{arith}
use mathlib.Core.Path.{◌≡◌, refl, sym, ap, ◌∙◌, subst}
use mathlib.Core.Logic.{◌≢◌, ◌⊎◌, inl, inr}
use mathlib.Core.Bool.{Bool, true, false, cond}
use mathlib.Core.Option.{Option, none, some}
use mathlib.Core.List.{List, [], ◌∷◌, ◌++◌}
use lib.ListN.{length, length-append, length-set}
use lib.Seq.{get_or-set_same, get_or-set_other, get_or-append_seam}
use lib.Dec.{eqb, ltb}
use Rattle.words.specs.Ast.{Token, Expression, Expressions, Variables, Statement, Statements}
use Rattle.words.specs.Ast.{Identifier, This, Null, Integer, Float, Text, Boolean, Array, Prefix, Infix, If, IfElse, Call, InstanceGet, IndexGet}
use Rattle.words.specs.Ast.{∅ₑ, ◌∷ₑ◌, ∅ᵥ, Bare, Valued, Local, Return, For, Break, Rescue, Expr, ∅ₛ, ◌∷ₛ◌}
use Rattle.words.specs.Opcode.{Instruction, to_instruction, nothing}
use Rattle.definition.specs.FunctionState.{FunctionState, Entry, push_breaks, tail, last_opcode, init, pop_last, remove_pop_or_push_null}
use Rattle.definition.specs.FunctionState.{emit_return, emit_break, exit_break_scope, define_local, Defined, find_name, get_next_instruction_index}
use Rattle.definition.specs.FunctionState.{get_last_position, with_rescue, with_depth, with_parameters}
use Rattle.definition.specs.Within.{Loop}
use Rattle.words.specs.Opcode.{Pop, PushConstant, LocalSet, LocalGet, LocalInit, ContextSet, ContextGet, GlobalSet, GlobalGet, InstanceSet}
use Rattle.words.specs.Opcode.{InstanceGetOp, IndexSet, IndexGetOp, Operation, Not, Negative, CallOp, ArrayOp, Jump, JumpIf, ForNext, Iterate}
use Rattle.definition.specs.FunctionState as Emission
use Rattle.definition.specs.Compiler
use Rattle.definition.specs.Compiler.{Work, Step, Error, doing, with_function, emit, next, Added, add_constant, add_constant_no_check, find_constant}
use Rattle.definition.specs.Compiler.{push_error, InfixKind, Assigning, Plain, Negated, Compound, Unknown, infix_kind, found_or}
use Rattle.words.specs.Object.{is_shared, same_constant, Constant, constant_of}
use Rattle.definition.specs.Compiler.{compile_statement, compile_statements, compile_expression, compile_expressions, compile_variables}
use Rattle.definition.specs.Compiler.{compile_assign_expression_left_part, compile_parameter, compile_parameters, skip, and_then, deeper, compile_rescue}
use Rattle.definition.specs.Compiler.{compile_bare}
use Rattle.definition.specs.Compiler.{compile_valued, compile_expression_statement, compile_for_statement}
use Rattle.definition.specs.Compiler.{compile_if_expression, compile_part, compile_no_part, compile_array_expression, compile_call_expression}
use Rattle.definition.specs.Compiler.{compile_prefix_expression, compile_infix_expression, compile_infix_by, compile_operation, compile_assign_expression}
use Rattle.definition.specs.Compiler.{compile_pair, compile_assign_name}
use Rattle.definition.specs.Compiler.{compile_this_expression, compile_identifier_expression, emit_name, compile_null_expression, compile_boolean_expression}
use Rattle.definition.specs.Compiler.{compile_string_expression, compile_float_expression, compile_integer_expression, emit_global, emit_constant}
use Rattle.definition.specs.Within.{All, nil, ◌&◌, loops_of, exits_of, Among, here, there, InLoop, class_of}
use Rattle.definition_laws.proofs.Safe.{at, Safe, counts_of, Counts, Within}
use Rattle.definition_laws.proofs.Lists.{all_map, Fresh, kept_refl, kept_append}
use Rattle.definition_laws.proofs.Lists.{cond_case}
use Rattle.definition.specs.Compiler.{compile_function_definition_base}
use Rattle.definition_laws.proofs.Moves
use Rattle.definition_laws.proofs.Moves.{code, errs, MovesBut, Moves, NoNext, Moving, moves_refl, moves_trans, moves_function, emit_moves, set_moves}
use Rattle.definition_laws.proofs.Moves.{define_moves}
use Rattle.definition_laws.proofs.Moves.{constant_moves, emit_constant_moves, operation_moves, if_moves, for_moves}
use Rattle.definition_laws.proofs.Sound.{InSome, farther, Sound, Solid, SoundSolid, Pending, fits_mono, sound_more, sound_emit, solid_emit}
use Rattle.definition_laws.proofs.Sound.{sound_null, sound_close, sound_return, sound_set, pending_apart, all_push, all_tail, sound_break, sound_exit}
use Rattle.definition_laws.proofs.Sound.{find_name_lem, find_scopes_lem, sound_scopes, sound_define, define_found, pending_kept}

pub record Good (w : Work) : Type 0 where
  pub sound : Sound (length w.context.constants) w.context.local_count w.function
  pub pool : 3 ≤ length w.context.constants
  pub names : All (λ (e : Entry). e.index < w.context.local_count) w.compiler.locals
  pub marks : All (λ (n : ℕ). n < length w.context.constants) w.context.globals

pub record GoodSolid (w : Work) : Type 0 where
  pub good : Good w
  pub solid : Solid w.function

-- a statement; and an expression, which leaves something that is no Pop
pub record Compiles (s : Step) : Type 0 where
  pub moves : Moving s
  pub goes : (w : Work) → Good w → errs (s w) ≡ [] → Good (s w)

pub record Yields (s : Step) : Type 0 where
  pub moves : Moving s
  pub gives : (w : Work) → Good w → errs (s w) ≡ [] → GoodSolid (s w)

pub yields→compiles : {s : Step} → Yields s → Compiles s
yields→compiles y = record { moves = y.moves; goes = λ w g e. (y.gives w g e).good }

-- a change of the function alone
pub good_function : {w : Work} {f : FunctionState} → Good w → Sound (length w.context.constants) w.context.local_count f → Good (with_function f w)
good_function g s = record { sound = s; pool = g.pool; names = g.names; marks = g.marks }

pub good_solid : {w : Work} {f : FunctionState} → Good w → SoundSolid (length w.context.constants) w.context.local_count f → GoodSolid (with_function f w)
good_solid g s = record { good = good_function g s.sound; solid = s.solid }

-- an instruction that is no Pop
pub good_emit : (w : Work) (o n p : ℕ) → Good w → Within (class_of o) (counts_of w) (next w) n → o ≢ 1 → GoodSolid (emit (to_instruction o n) p w)
good_emit w o n p g fit d = record {
  good = good_function g (sound_emit (to_instruction o n) p g.sound fit (λ e. absurd (d e)));
  solid = solid_emit w.function (to_instruction o n) p d;
}

pub good_pop : (w : Work) → GoodSolid w → Good (Compiler.emit_opcode_without_position Pop w)
good_pop w g = good_function g.good (sound_emit (to_instruction Pop 0) _ g.good.sound tt (λ e. g.solid))

pub no_snoc : {A : Type 0} (l : List A) (a : A) → l ++ (a ∷ []) ≡ [] → ⊥
no_snoc [] a e = let z : ◌≡◌ {A = ℕ} 0 1 = cc in omega arith
no_snoc (x ∷ l) a e = let z : ◌≡◌ {A = ℕ} 0 1 = cc in omega arith

pub faulty : {A : Type 0} (n : ℕ) (t : Token) (w : Work) → errs (push_error n t w) ≡ [] → A
faulty n t w e = absurd (no_snoc (errs w) _ e)

-- constants

pub find_constant_lem : (c : Constant) (cs : List Constant) (k i : ℕ) → find_constant c cs k ≡ some i → i < k + length cs
find_constant_lem c [] k i e = absurd (let z : ◌≡◌ {A = ℕ} 0 1 = cc in omega arith)
find_constant_lem c (d ∷ ds) k i e = go (same_constant c d) (λ q. find_constant_lem c ds (k + 1) i q) e
  where
    go : (b : Bool) → (find_constant c ds (k + 1) ≡ some i → i < k + 1 + length ds) → cond b (some k) (find_constant c ds (k + 1)) ≡ some i
        → i < k + suc (length ds)
    go true r q = let z : k ≡ i = cc in omega arith
    go false r q = omega (arith, r q)

record GoodAdded (w : Work) (a : Added) : Type 0 where
  good : Good a.work
  inside : a.index < length a.work.context.constants

constant_good : (c : Constant) (w : Work) → Good w → GoodAdded w (add_constant c w)
unfolding add_constant
constant_good c w g = cond_case (GoodAdded w) (is_shared c.kind) (λ t. go (find_constant c w.context.constants 0) refl) (λ t. plain)
  where
    longer : length (w.context.constants ++ (c ∷ [])) ≡ length w.context.constants + 1
    longer = length-append w.context.constants (c ∷ [])

    plain : GoodAdded w (add_constant_no_check c w)
    plain = record {
      good = record {
        sound = sound_more (omega (arith, longer)) (le_refl _) g.sound;
        pool = omega (arith, longer, g.pool);
        names = g.names;
        marks = all_map (λ n q. omega (arith, longer)) g.marks;
      };
      inside = omega (arith, longer);
    }

    go : (o : Option ℕ) → find_constant c w.context.constants 0 ≡ o → GoodAdded w (Compiler.add_constant_by o c w)
    go none e = plain
    go (some i) e = record { good = g; inside = omega (arith, find_constant_lem c w.context.constants 0 i e) }

-- an opcode over the pool
emit_constant_good : (w : Work) (o : ℕ) (c : Constant) (p : ℕ) → Good w → ((d : Counts) (i n : ℕ) → n < d.constants → Within (class_of o) d i n) → o ≢ 1
    → GoodSolid (emit_constant o c p w)
unfolding emit_constant
emit_constant_good w o c p g f d = let a = constant_good c w g in good_emit (add_constant c w).work o _ p a.good (f _ _ _ a.inside) d

emit_global_good : (w : Work) (o n p : ℕ) → Good w → ((d : Counts) (i n : ℕ) → n < d.constants → Within (class_of o) d i n) → o ≢ 1
    → GoodSolid (emit_global o n p w)
unfolding emit_global
emit_global_good w o n p g f d =
    let a = constant_good (constant_of 4 n) w g in
    let b = add_constant (constant_of 4 n) w in
    good_emit (Compiler.mark_global b.index b.work) o b.index p
    (record { sound = a.good.sound; pool = a.good.pool; names = a.good.names; marks = a.inside & a.good.marks }) (f _ _ _ a.inside) d

name_good : (l c g n p : ℕ) → ((d : Counts) (i n : ℕ) → n < d.locals → Within (class_of l) d i n)
    → ((d : Counts) (i n : ℕ) → n < d.context → Within (class_of c) d i n) → ((d : Counts) (i n : ℕ) → n < d.constants → Within (class_of g) d i n)
    → l ≢ 1 → c ≢ 1 → g ≢ 1 → (w : Work) → Good w → GoodSolid (emit_name l c g n p w)
unfolding emit_name
name_good l c g n p fl fc fg dl dc dg w h = go (Emission.find_local n w.function) refl
  where
    inner : (o : Option ℕ) → find_name n w.compiler.locals ≡ o → GoodSolid (Compiler.emit_name_in_context o c g n p w)
    inner none e = emit_global_good w g n p h fg dg
    inner (some i) e = good_emit w c i p h (fc _ _ _ (find_name_lem n i h.names e)) dc

    go : (o : Option ℕ) → Emission.find_local n w.function ≡ o → GoodSolid (Compiler.emit_name_by o l c g n p w)
    go none e = inner (find_name n w.compiler.locals) refl
    go (some i) e = good_emit w l i p h (fl _ _ _ (find_scopes_lem n i h.sound.scopes e)) dl

-- compounds

module _ {a b : Step} (A : Compiles a) (B : Compiles b) where
  pub then_compiles : Compiles (and_then a b)
  unfolding and_then
  then_compiles = record { moves = Moves.then_moves A.moves B.moves; goes = λ w g e. B.goes _ (A.goes w g ((B.moves _).errors e)) e }

  -- both, then an opcode that has no number of these
  both_then : (o n p : ℕ) → ((d : Counts) (i : ℕ) → Within (class_of o) d i n) → o ≢ 1 → (w : Work) → Good w → errs (b (a w)) ≡ []
      → GoodSolid (emit (to_instruction o n) p (b (a w)))
  both_then o n p f d w g e = good_emit (b (a w)) o n p (B.goes _ (A.goes w g ((B.moves _).errors e)) e) (f _ _) d

  pub pair_yields : (o : ℕ) (t : Token) → ((d : Counts) (i : ℕ) → Within (class_of o) d i 0) → o ≢ 1 → NoNext o → Yields (compile_pair o t a b)
  unfolding compile_pair
  pair_yields o t f d s = record { moves = Moves.pair_moves A.moves B.moves o t s; gives = λ w g e. both_then o 0 _ f d w g e }

  pub operation_yields : (n : ℕ) (t : Token) → Yields (compile_operation n t a b)
  unfolding compile_operation
  operation_yields n t = record { moves = operation_moves A.moves B.moves n t; gives = λ w g e. both_then Operation n _ (λ c i. tt) (omega arith) w g e }

  pub call_yields : (t : Token) (n : ℕ) → Yields (compile_call_expression t n a b)
  unfolding compile_call_expression
  call_yields t n = record { moves = Moves.call_moves A.moves B.moves t n; gives = λ w g e. both_then CallOp n _ (λ c i. tt) (omega arith) w g e }

pub assign_yields : {a b : Step} → Compiles a → Yields b → Yields (compile_assign_expression a b)
unfolding compile_assign_expression
assign_yields A B = record { moves = Moves.assign_moves A.moves B.moves; gives = λ w g e. B.gives _ (A.goes w g ((B.moves _).errors e)) e }

pub array_yields : {a : Step} → Compiles a → (t : Token) (n : ℕ) → Yields (compile_array_expression t n a)
unfolding compile_array_expression
array_yields {a} A t n = record { moves = Moves.array_moves A.moves t n; gives = λ w g e. good_emit (a w) ArrayOp n _ (A.goes w g e) tt (omega arith) }

pub prefix_yields : {a : Step} → Compiles a → (t : Token) → Yields (compile_prefix_expression t a)
unfolding compile_prefix_expression
prefix_yields {a} A t = record {
  moves = Moves.prefix_moves A.moves t;
  gives = λ w g. cond_case (λ v. errs v ≡ [] → GoodSolid v) (eqb t.value 0)
      (λ h e. good_emit (a w) Negative 0 _ (A.goes w g e) tt (omega arith))
      (λ h. cond_case (λ v. errs v ≡ [] → GoodSolid v) (eqb t.value 1) (λ k e. good_emit (a w) Not 0 _ (A.goes w g e) tt (omega arith))
      (λ k e. faulty 3 t (a w) e));
}

pub infix_yields : {l r g : Step} → Yields l → Yields r → Yields g → (t : Token) → Yields (compile_infix_expression t l r g)
unfolding compile_infix_expression
infix_yields {l} {r} {g} L R G t = record { moves = Moves.infix_moves L.moves R.moves G.moves t; gives = λ w h e. go w h (infix_kind t.value) e }
  where
    go : (w : Work) → Good w → (k : InfixKind) → errs (compile_infix_by k t l r g w) ≡ [] → GoodSolid (compile_infix_by k t l r g w)
    go w h Assigning e = (assign_yields (yields→compiles R) G).gives w h e
    go w h (Plain n) e = (operation_yields (yields→compiles L) (yields→compiles R) n t).gives w h e
    go w h (Negated n) e = good_emit (compile_operation n t l r w) Not 0 _
        ((operation_yields (yields→compiles L) (yields→compiles R) n t).gives w h e).good tt (omega arith)
    go w h (Compound n) e = G.gives _ ((operation_yields (yields→compiles L) (yields→compiles R) n t).gives w h ((G.moves _).errors e)).good e
    go w h Unknown e = faulty 3 t w e

pub skip_compiles : Compiles skip
unfolding skip
skip_compiles = record { moves = Moves.skip_moves; goes = λ w g e. g }

pub part_yields : {a : Step} → Compiles a → Yields (compile_part a)
unfolding compile_part
part_yields {a} A = record {
  moves = Moves.part_moves A.moves;
  gives = λ w g e.
      let w₁ = doing Emission.enter_scope w in
      let g₂ : Good (a w₁) = A.goes w₁ (good_function g (sound_scopes w.function _ _ g.sound (le_refl _) (nil & g.sound.scopes))) e in
      let s : Sound _ _ (Emission.exit_scope (a w₁).function) = sound_scopes (a w₁).function _ _ g₂.sound (le_refl _) (all_tail g₂.sound.scopes) in
      good_solid (good_function g₂ s) (sound_close g₂.pool _ s);
}

pub no_part_yields : Yields compile_no_part
unfolding compile_no_part
no_part_yields = record { moves = Moves.no_part_moves; gives = λ w g e. good_solid g (sound_null g.pool g.sound) }

-- the fields that no claim speaks of: depth and parameters
good_fields : {w : Work} (n : ℕ) (b : Bool) (m : ℕ) → Good w → Good (with_function (with_parameters b m (with_depth n w.function)) w)
good_fields n b m g = record {
  sound = record {
    reach = g.sound.reach;
    sized = g.sound.sized;
    low = g.sound.low;
    room = g.sound.room;
    fits = g.sound.fits;
    rescue = g.sound.rescue;
    scopes = g.sound.scopes;
    breaks = g.sound.breaks;
    loops = g.sound.loops;
    traced = g.sound.traced;
    belongs = g.sound.belongs;
  };
  pool = g.pool;
  names = g.names;
  marks = g.marks;
}

good_depth : {w : Work} (n : ℕ) → Good w → Good (with_function (with_depth n w.function) w)
good_depth {w} n g = good_fields n w.function.header.is_instance w.function.header.parameter_count g

pub deeper_compiles : {a : Step} → Compiles a → Compiles (deeper a)
unfolding deeper
deeper_compiles A = record { moves = Moves.deeper_moves A.moves; goes = λ w g e. good_depth _ (A.goes _ (good_depth _ g) e) }

pub expression_statement_compiles : {a : Step} → Yields a → Compiles (compile_expression_statement a)
unfolding compile_expression_statement
expression_statement_compiles A = record { moves = Moves.expression_statement_moves A.moves; goes = λ w g e. good_pop _ (A.gives w g e) }

pub return_compiles : (p : ℕ) → Compiles (doing (emit_return p))
return_compiles p = record { moves = Moves.return_moves p; goes = λ w g e. good_function g (sound_return g.pool p _ g.sound).sound }

pub break_compiles : (p : ℕ) → Compiles (doing (emit_break p))
break_compiles p = record { moves = Moves.break_moves p; goes = λ w g e. good_function g (sound_break p _ g.sound) }

pub rescue_compiles : (t : Token) → Compiles (compile_rescue t)
unfolding compile_rescue
rescue_compiles t = record {
  moves = Moves.rescue_moves t;
  goes = λ w g. cond_case (λ v. errs v ≡ [] → Good v) (ltb 1 w.function.depth)
      (λ h e. faulty 4 t w e) (λ h e. good_function g (rescued w (sound_return g.pool t.position _ g.sound)));
}
  where
    rescued : {K C : ℕ} (w : Work) → SoundSolid K C (emit_return t.position w.function)
        → Sound K C (with_rescue (get_next_instruction_index (emit_return t.position w.function)) (emit_return t.position w.function))
    rescued w s = record {
      reach = length (emit_return t.position w.function).code.instructions;
      sized = s.sound.sized;
      low = le_refl _;
      room = λ q. absurd (s.solid.no_pop q);
      fits = fits_mono (emit_return t.position w.function).code.instructions
          (record { tops = s.sound.low; slots = le_refl _; pools = le_refl _; globals = le_refl _; reads = λ i a. a }) s.sound.fits;
      rescue = le_refl _;
      scopes = s.sound.scopes;
      breaks = s.sound.breaks;
      loops = s.sound.loops;
      traced = s.sound.traced;
      belongs = s.sound.belongs;
    }

pub valued_compiles : {a : Step} → Yields a → (t : Token) → Compiles (compile_valued t a)
unfolding compile_valued
valued_compiles {a} A t = record {
  moves = Moves.valued_moves A.moves t;
  goes = λ w g e. go w (good_function g (sound_define t.value _ g.sound)) (define_local t.value w.function).found refl e;
}
  where
    after : Work → Work
    after w = with_function (define_local t.value w.function).state w

    go : (w : Work) → Good (after w) → (o : Option ℕ) → (define_local t.value w.function).found ≡ o → errs (Compiler.valued_by o t a (after w)) ≡ []
        → Good (Compiler.valued_by o t a (after w))
    go w g none q e = faulty 1 t (after w) e
    go w g (some i) q e = (good_emit (a (after w)) LocalInit i _ (A.gives (after w) g e).good
        (le_trans (define_found t.value i w.function q) (A.moves (after w)).locals) (omega arith)).good

pub bare_compiles : (n : ℕ) (t : Token) → Compiles (compile_bare n t)
unfolding compile_bare
bare_compiles n t = record {
  moves = Moves.bare_moves n t;
  goes = λ w g e. go w (good_function g (sound_define t.value _ g.sound))
      (define_local t.value w.function).found e;
}
  where
    after : Work → Work
    after w = with_function (define_local t.value w.function).state w

    go : (w : Work) → Good (after w) → (o : Option ℕ) → errs (Compiler.bare_by o n t (after w)) ≡ [] → Good (Compiler.bare_by o n t (after w))
    go w g none e = faulty n t (after w) e
    go w g (some i) e = g

not_pop : {x : Instruction} (o n : ℕ) → o ≢ 1 → x ≡ to_instruction o n → x.opcode ≢ 1
not_pop o n d e q = d (ap (λ (y : Instruction). y.opcode) (sym e) ∙ q)

-- a fresh index is none that is there
fresh_apart : {l : List Instruction} (j : ℕ) → j < length l → (at l j).opcode ≢ 1 → (b : ℕ) → Fresh l b → b ≢ j
fresh_apart {l} j h d b f e = f.free (subst (λ k. k < length l) (sym e) h) (subst (λ k. (at l k).opcode ≢ 1) (sym e) d)

-- the condition l, the true part r, the false part g
pub if_yields : {l r g : Step} → Yields l → Yields r → Yields g → Yields (compile_if_expression l r g)
unfolding compile_if_expression
if_yields {l} {r} {g} L R G = record {
  moves = if_moves L.moves R.moves G.moves;
  gives = λ w h e.
      let w₁ = l w in
      let t = next w₁ in
      let w₂ = Compiler.emit_opcode_without_position JumpIf w₁ in
      let w₃ = g w₂ in
      let j = next w₃ in
      let w₄ = Compiler.emit_opcode_without_position Jump w₃ in
      let w₅ = Compiler.replace_instruction t (to_instruction JumpIf (next w₄)) w₄ in
      let w₆ = r w₅ in
      let e₃ : errs w₃ ≡ [] = (R.moves w₅).errors e in
      let g₁ : GoodSolid w₁ = L.gives w h ((G.moves w₂).errors e₃) in
      let g₂ : GoodSolid w₂ = good_emit w₁ JumpIf 0 _ g₁.good (omega arith) (omega arith) in
      let g₃ : GoodSolid w₃ = G.gives w₂ g₂.good e₃ in
      let g₄ : GoodSolid w₄ = good_emit w₃ Jump 0 _ g₃.good (omega arith) (omega arith) in
      let a₂ : at (code w₂) t ≡ to_instruction JumpIf 0 = get_or-append_seam (code w₁) (to_instruction JumpIf 0) [] nothing in
      let b₂ : t < length (code w₂) = omega (arith, length-append (code w₁) (to_instruction JumpIf 0 ∷ [])) in
      let k₃ : (t < length (code w₃)) × (at (code w₃) t ≡ at (code w₂) t) = (G.moves w₂).kept.keeps t b₂ (not_pop JumpIf 0 (omega arith) a₂) in
      let a₃ : at (code w₃) t ≡ to_instruction JumpIf 0 = k₃.1 ∙ a₂ in
      let k₄ : (t < length (code w₄)) × (at (code w₄) t ≡ at (code w₃) t) = (kept_append (code w₃) (to_instruction Jump 0 ∷ [])).keeps t k₃.0
      (not_pop JumpIf 0 (omega arith) a₃) in
      let a₄ : at (code w₄) t ≡ to_instruction JumpIf 0 = k₄.1 ∙ a₃ in
      let s₅ : SoundSolid _ _ w₅.function = sound_set w₄.function t JumpIf (record { sound = g₄.good.sound; solid = g₄.solid }) k₄.0 a₄ (le_refl _)
      (pending_apart (code w₄) t JumpIf (omega arith) a₄ g₄.good.sound.breaks) in
      let g₅ : GoodSolid w₅ = good_solid g₄.good s₅ in
      let g₆ : GoodSolid w₆ = R.gives w₅ g₅.good e in
      let p₅ : at (code w₅) j ≡ to_instruction Jump 0 = get_or-set_other (code w₄) t j _ nothing (omega arith)
      ∙ get_or-append_seam (code w₃) (to_instruction Jump 0) [] nothing in
      let q₅ : j < length (code w₅) = omega (
        arith,
        length-set (code w₄) t (to_instruction JumpIf (next w₄)),
        length-append (code w₃)
            (to_instruction Jump 0 ∷ []),
      ) in
      let d₅ : (at (code w₅) j).opcode ≢ 1 = not_pop Jump 0 (omega arith) p₅ in
      let k₆ : (j < length (code w₆)) × (at (code w₆) j ≡ at (code w₅) j) = (R.moves w₅).kept.keeps j q₅ d₅ in
      let apart : All (All (λ b. b ≢ j)) w₆.function.break_scopes = subst (All (All (λ b. b ≢ j))) (sym (R.moves w₅).breaks)
      (all_push (all_map (λ bs ps. all_map (λ b p. let q : b < j = p.0 in omega arith) ps) g₃.good.sound.breaks)
      (all_map (fresh_apart j q₅ d₅) (R.moves w₅).new)) in
      good_solid g₆.good (sound_set w₆.function j Jump (record { sound = g₆.good.sound; solid = g₆.solid }) k₆.0 (k₆.1 ∙ p₅) (le_refl _) apart);
}

-- the state in which a loop's parts are compiled
entered : FunctionState → FunctionState
entered f = Emission.enter_break_scope (Emission.enter_scope (Emission.define_anonymous_local (Emission.define_anonymous_local f)))

good_entered : (w : Work) → Good w → Good (with_function (entered w.function) w)
unfolding entered
good_entered w g = good_function g (record {
  reach = s.reach;
  sized = s.sized;
  low = s.low;
  room = s.room;
  fits = fits_mono f.code.instructions (record { tops = le_refl _; slots = omega arith; pools = le_refl _; globals = le_refl _; reads = λ i a. a })
      s.fits;
  rescue = s.rescue;
  scopes = nil & all_map (λ es qs. all_map (λ e q. omega arith) qs) s.scopes;
  breaks = nil & s.breaks;
  loops = s.loops;
  traced = ap (λ l. [] ∷ l) s.traced;
  belongs = all_map (λ b q. deep q) s.belongs;
})
  where
    f : FunctionState
    f = w.function

    s : Sound (length w.context.constants) w.context.local_count f
    s = g.sound

    deep : {b : ℕ} {ss : List (List ℕ)} {es : List Loop} → InSome b ss ⊎ InLoop b es → InSome b ([] ∷ ss) ⊎ InLoop b es
    deep (inl q) = inl (farther q)
    deep (inr q) = inr q

-- an opcode over a local that was there at w
slot_emit : {waiting : List ℕ} {w v : Work} (o n p : ℕ) → ((d : Counts) (i n : ℕ) → n < d.locals → Within (class_of o) d i n) → o ≢ 1
    → MovesBut waiting w v → n < w.function.header.local_count → Good v → GoodSolid (emit (to_instruction o n) p v)
slot_emit {w = w} {v = v} o n p f d m h g = good_emit v o n p g (f _ _ _ (le_trans h m.locals)) d

-- the enumerable a, the statements b
pub for_compiles : {a b : Step} → Yields a → Compiles b → (t i : Token) → Compiles (compile_for_statement t i a b)
unfolding compile_for_statement entered
for_compiles {a} {b} A B t i = record {
  moves = for_moves A.moves B.moves t i;
  goes = λ w h e.
      let x = w.function.header.local_count in
      let y = w.function.header.local_count + 1 in
      let p = t.position in
      let w₁ = with_function (entered w.function) w in
      let w₂ = a w₁ in
      let u₃ = emit (to_instruction LocalSet x) p w₂ in
      let w₃ = Compiler.emit_opcode_without_position Pop u₃ in
      let w₄ = emit_constant PushConstant (constant_of 2 0) p w₃ in
      let u₅ = emit (to_instruction LocalSet y) p w₄ in
      let w₅ = Compiler.emit_opcode_without_position Pop u₅ in
      let d = define_local i.value w₅.function in
      let w₆ = with_function d.state w₅ in
      let w₇ = emit (to_instruction ForNext x) p w₆ in
      let exit = next w₇ in
      let w₈ = Compiler.emit_opcode_without_position JumpIf w₇ in
      let u₉ = emit (to_instruction LocalSet (found_or 0 d.found)) i.position w₈ in
      let w₉ = Compiler.emit_opcode_without_position Pop u₉ in
      let v₁ = b w₉ in
      let v₂ = emit (to_instruction Iterate y) (get_last_position v₁.function) v₁ in
      let v₃ = emit (to_instruction Jump (next w₆)) (get_last_position v₂.function) v₂ in
      let v₄ = Compiler.replace_instruction exit (to_instruction JumpIf (next v₃)) v₃ in
      let m₂ : Moves w₁ w₂ = A.moves w₁ in
      let m₃ : Moves w₁ w₃ = moves_trans m₂ (moves_trans (emit_moves _ _ tt w₂) (emit_moves _ _ tt u₃)) in
      let m₄ : Moves w₁ w₄ = moves_trans m₃ (emit_constant_moves PushConstant (constant_of 2 0) p (omega arith) tt w₃) in
      let m₅ : Moves w₁ w₅ = moves_trans m₄ (moves_trans (emit_moves _ _ tt w₄) (emit_moves _ _ tt u₅)) in
      let m₆ : Moves w₁ w₆ = moves_trans m₅ (define_moves i.value w₅) in
      let n₉ : Moves w₈ w₉ = moves_trans (emit_moves _ _ tt w₈) (emit_moves _ _ tt u₉) in
      let n₁ : Moves w₈ v₁ = moves_trans n₉ (B.moves w₉) in
      let n₂ : Moves w₇ v₂ = moves_trans (emit_moves _ _ tt w₇) (moves_trans n₁ (emit_moves _ _ tt v₁)) in
      let n₃ : Moves w₈ v₃ = moves_trans n₁ (moves_trans (emit_moves _ _ tt v₁) (emit_moves _ _ tt v₂)) in
      let o₁ : MovesBut (next w₆ ∷ []) w₁ v₁ = moves_trans m₆ (moves_trans (Moves.emit_next_moves _ _ w₆) (moves_trans (emit_moves _ _ tt w₇) n₁)) in
      let o₃ : MovesBut (next w₆ ∷ []) w₁ v₃ = moves_trans o₁ (moves_trans (emit_moves _ _ tt v₁) (emit_moves _ _ tt v₂)) in
      let e₉ : errs w₉ ≡ [] = (B.moves w₉).errors e in
      let e₂ : errs w₂ ≡ [] = (moves_trans (emit_moves _ _ tt w₂) (moves_trans (emit_moves _ _ tt u₃)
      (emit_constant_moves PushConstant (constant_of 2 0) p (omega arith) tt w₃))).errors e₉ in
      let fit : (d : Counts) (i n : ℕ) → n < d.locals → n < d.locals = λ d i n q. q in
      let g₂ : GoodSolid w₂ = A.gives w₁ (good_entered w h) e₂ in
      let g₃ : Good w₃ = good_pop u₃ (slot_emit LocalSet x p fit (omega arith) m₂ (omega arith) g₂.good) in
      let g₄ : GoodSolid w₄ = emit_constant_good w₃ PushConstant (constant_of 2 0) p g₃ (λ d i n q. q) (omega arith) in
      let g₅ : Good w₅ = good_pop u₅ (slot_emit LocalSet y p fit (omega arith) m₄ (omega arith) g₄.good) in
      let g₆ : Good w₆ = good_function g₅ (sound_define i.value w₅.function g₅.sound) in
      let g₇ : GoodSolid w₇ = slot_emit ForNext x p fit (omega arith) m₆ (omega arith) g₆ in
      let g₈ : GoodSolid w₈ = good_emit w₇ JumpIf 0 _ g₇.good (omega arith) (omega arith) in
      let z : found_or 0 d.found < d.state.header.local_count = slot i.value w₅.function (le_trans (omega arith) m₅.locals) in
      let g₉ : Good w₉ = good_pop u₉ (good_emit w₈ LocalSet (found_or 0 d.found) i.position g₈.good z (omega arith)) in
      let k₁ : Good v₁ = B.goes w₉ g₉ e in
      let k₂ : GoodSolid v₂ = slot_emit Iterate y _ fit (omega arith) o₁ (omega arith) k₁ in
      let start : next w₆ < next v₂ = (n₂.kept.keeps (next w₆) (omega (arith, length-append (code w₆) (to_instruction ForNext x ∷ [])))
      (not_pop ForNext x (omega arith) (get_or-append_seam (code w₆) (to_instruction ForNext x) [] nothing))).0 in
      let k₃ : GoodSolid v₃ = good_emit v₂ Jump (next w₆) _ k₂.good (omega arith) (omega arith) in
      let a₈ : at (code w₈) exit ≡ to_instruction JumpIf 0 = get_or-append_seam (code w₇) (to_instruction JumpIf 0) [] nothing in
      let b₃ : (exit < length (code v₃)) × (at (code v₃) exit ≡ at (code w₈) exit) = n₃.kept.keeps exit
      (omega (arith, length-append (code w₇) (to_instruction JumpIf 0 ∷ []))) (not_pop JumpIf 0 (omega arith) a₈) in
      let a₃ : at (code v₃) exit ≡ to_instruction JumpIf 0 = b₃.1 ∙ a₈ in
      let s₄ : SoundSolid _ _ v₄.function = sound_set v₃.function exit JumpIf (record { sound = k₃.good.sound; solid = k₃.solid }) b₃.0 a₃
      (le_refl _) (pending_apart (code v₃) exit JumpIf (omega arith) a₃ k₃.good.sound.breaks) in
      let l₄ : length (code v₄) ≡ length (code v₃) = length-set (code v₃) exit (to_instruction JumpIf (next v₃)) in
      let a₄ : at (code v₄) exit ≡ to_instruction JumpIf (length (code v₄)) = get_or-set_same (code v₃) exit (to_instruction JumpIf (next v₃)) nothing b₃.0
      ∙ ap (to_instruction JumpIf) (sym l₄) in
      let outer : All (All (Pending (exit_break_scope exit v₄.function).code.instructions)) (tail v₄.function.break_scopes) =
      subst (All (All (Pending (exit_break_scope exit v₄.function).code.instructions))) (sym (ap tail o₃.breaks))
      (all_map (λ bs ps. all_map (pending_kept (for_moves A.moves B.moves t i w).kept) ps) h.sound.breaks) in
      let s₅ = sound_exit v₄.function exit s₄ (omega (arith, b₃.0, l₄), a₄) outer in
      let g₄ : Good v₄ = good_function k₃.good s₄.sound in
      let g₅ : Good (doing (exit_break_scope exit) v₄) = good_function g₄ s₅.sound in
      good_function g₅ (sound_scopes _ _ _ s₅.sound (le_refl _) (all_tail s₅.sound.scopes));
}
  where
    slot : (n : ℕ) (f : FunctionState) → 0 < f.header.local_count → found_or 0 (define_local n f).found < (define_local n f).state.header.local_count
    slot n f h = go (define_local n f).found refl
      where
        go : (o : Option ℕ) → (define_local n f).found ≡ o → found_or 0 o < (define_local n f).state.header.local_count
        go none e = le_trans h (Moves.define_same n f).1
        go (some k) e = define_found n k f e

pub this_yields : (t : Token) → Yields (compile_this_expression t)
unfolding compile_this_expression
this_yields t = record {
  moves = Moves.this_moves t;
  gives = λ w g e.
      let f = w.function in
      let reads : List ℕ = f.log.this_reads ++ (length f.code.instructions ∷ []) in
      let s = g.sound in
      let s' : Sound (length w.context.constants) w.context.local_count
      (Emission.with_this_reads reads f) = record {
        reach = s.reach;
        sized = s.sized;
        low = s.low;
        room = s.room;
        fits = fits_mono f.code.instructions (record {
          tops = le_refl _;
          slots = le_refl _;
          pools = le_refl _;
          globals = le_refl _;
          reads = λ i a. earlier _ a;
        }) s.fits;
        rescue = s.rescue;
        scopes = s.scopes;
        breaks = s.breaks;
        loops = s.loops;
        traced = s.traced;
        belongs = s.belongs;
      } in
      record {
        good = good_function g (sound_emit (to_instruction LocalGet 0) t.position s' (read f.header.local_count reads (latest f.log.this_reads))
            (λ q. absurd (omega arith)));
        solid = solid_emit (Emission.with_this_reads reads f) (to_instruction LocalGet 0) t.position (omega arith);
      };
}
  where
    read : {i : ℕ} (n : ℕ) (l : List ℕ) → Among i l → (0 < n) ⊎ ((◌≡◌ {A = ℕ} 0 0) × (n ≡ 0) × Among i l)
    read zero l a = inr (refl, refl, a)
    read (suc n) l a = inl (omega arith)

    earlier : {i : ℕ} {l : List ℕ} (m : List ℕ) → Among i l → Among i (l ++ m)
    earlier m here = here
    earlier m (there a) = there (earlier m a)

    latest : {i : ℕ} (l : List ℕ) → Among i (l ++ (i ∷ []))
    latest [] = here
    latest (x ∷ l) = there (latest l)

constant_yields : (c : Constant) (p : ℕ) → c.kind < 5 → Yields (emit_constant PushConstant c p)
constant_yields c p k = record {
  moves = emit_constant_moves PushConstant c p k tt;
  gives = λ w g e. emit_constant_good w PushConstant c p g (λ d i n q. q) (omega arith);
}

boolean_yields : (t : Token) → Yields (compile_boolean_expression t)
unfolding compile_boolean_expression
boolean_yields t = record {
  moves = emit_moves _ _ tt;
  gives = λ w g e. good_emit w PushConstant _ _ g
      (cond_case (λ n. n < length w.context.constants) (eqb t.value 1) (λ _. omega (arith, g.pool)) (λ _. omega (arith, g.pool))) (omega arith);
}

null_yields : (t : Token) → Yields (compile_null_expression t)
unfolding compile_null_expression
null_yields t = record { moves = emit_moves _ _ tt; gives = λ w g e. good_emit w PushConstant 0 _ g (omega (arith, g.pool)) (omega arith) }

read_yields : (t : Token) → Yields (compile_identifier_expression t)
unfolding compile_identifier_expression
read_yields t = record {
  moves = Moves.name_moves _ _ _ _ _ tt tt tt;
  gives = λ w g e. name_good LocalGet ContextGet GlobalGet t.value t.position (λ d i n q. inl q) (λ d i n q. q) (λ d i n q. q) (omega arith)
      (omega arith) (omega arith) w g;
}

write_yields : (t a : Token) → Yields (compile_assign_name t a)
unfolding compile_assign_name
write_yields t a = record {
  moves = Moves.name_moves _ _ _ _ _ tt tt tt;
  gives = λ w g e. name_good LocalSet ContextSet GlobalSet t.value a.position (λ d i n q. q) (λ d i n q. q) (λ d i n q. q) (omega arith)
      (omega arith) (omega arith) w g;
}

error_yields : (n : ℕ) (t : Token) → Yields (push_error n t)
error_yields n t = record { moves = Moves.error_moves n t; gives = λ w g e. faulty n t w e }

-- every piece compiles

mutual
  unfolding compile_expression compile_integer_expression compile_float_expression compile_string_expression

  pub expression_yields : (e : Expression) → Yields (compile_expression e)
  expression_yields (Identifier t) = read_yields t
  expression_yields (This t) = this_yields t
  expression_yields (Null t) = null_yields t
  expression_yields (Integer t) = constant_yields _ _ (omega arith)
  expression_yields (Float t) = constant_yields _ _ (omega arith)
  expression_yields (Text t) = constant_yields _ _ (omega arith)
  expression_yields (Boolean t) = boolean_yields t
  expression_yields (Array t values) = array_yields (expressions_compile values) _ _
  expression_yields (Prefix t right) = prefix_yields (yields→compiles (expression_yields right)) t
  expression_yields (Infix left t right) = infix_yields (expression_yields left) (expression_yields right) (target_yields left t) t
  expression_yields (If condition truePart) = if_yields (expression_yields condition) (part_yields (statements_compile truePart)) no_part_yields
  expression_yields (IfElse condition truePart falsePart) = if_yields (expression_yields condition) (part_yields (statements_compile truePart))
      (part_yields (statements_compile falsePart))
  expression_yields (Call t function parameters) = call_yields (yields→compiles (expression_yields function)) (expressions_compile parameters) _ _
  expression_yields (InstanceGet t instance index) = pair_yields (yields→compiles (expression_yields instance))
      (yields→compiles (expression_yields index)) InstanceGetOp t (λ d i. tt) (omega arith) tt
  expression_yields (IndexGet t instance index) = pair_yields (yields→compiles (expression_yields instance))
      (yields→compiles (expression_yields index)) IndexGetOp t (λ d i. tt) (omega arith) tt

  pub target_yields : (e : Expression) (a : Token) → Yields (compile_assign_expression_left_part e a)
  target_yields (Identifier t) a = write_yields t a
  target_yields (This t) a = error_yields _ _
  target_yields (Null t) a = error_yields _ _
  target_yields (Integer t) a = error_yields _ _
  target_yields (Float t) a = error_yields _ _
  target_yields (Text t) a = error_yields _ _
  target_yields (Boolean t) a = error_yields _ _
  target_yields (Array t values) a = error_yields _ _
  target_yields (Prefix t right) a = error_yields _ _
  target_yields (Infix left t right) a = error_yields _ _
  target_yields (If condition truePart) a = error_yields _ _
  target_yields (IfElse condition truePart falsePart) a = error_yields _ _
  target_yields (Call t function parameters) a = error_yields _ _
  target_yields (InstanceGet t instance index) a = pair_yields (yields→compiles (expression_yields instance))
      (yields→compiles (expression_yields index)) InstanceSet t (λ d i. tt) (omega arith) tt
  target_yields (IndexGet t instance index) a = pair_yields (yields→compiles (expression_yields instance))
      (yields→compiles (expression_yields index)) IndexSet t (λ d i. tt) (omega arith) tt

  pub expressions_compile : (es : Expressions) → Compiles (compile_expressions es)
  expressions_compile ∅ₑ = skip_compiles
  expressions_compile (e ∷ₑ es) = then_compiles (yields→compiles (expression_yields e)) (expressions_compile es)

  pub variables_compile : (vs : Variables) → Compiles (compile_variables vs)
  variables_compile ∅ᵥ = skip_compiles
  variables_compile (Bare t vs) = then_compiles (bare_compiles 1 t) (variables_compile vs)
  variables_compile (Valued t e vs) = then_compiles (valued_compiles (expression_yields e) t) (variables_compile vs)

  pub statement_compiles : (s : Statement) → Compiles (compile_statement s)
  statement_compiles (Local vs) = deeper_compiles (variables_compile vs)
  statement_compiles (Return t) = deeper_compiles (return_compiles _)
  statement_compiles (For t i e ss) = deeper_compiles (for_compiles (expression_yields e) (statements_compile ss) t i)
  statement_compiles (Break t) = deeper_compiles (break_compiles _)
  statement_compiles (Rescue t) = deeper_compiles (rescue_compiles t)
  statement_compiles (Expr e) = deeper_compiles (expression_statement_compiles (expression_yields e))

  pub statements_compile : (ss : Statements) → Compiles (compile_statements ss)
  statements_compile ∅ₛ = skip_compiles
  statements_compile (s ∷ₛ ss) = then_compiles (statement_compiles s) (statements_compile ss)

-- a function

good_parameters : {w : Work} (b : Bool) (n : ℕ) → Good w → Good (with_function (with_parameters b n w.function) w)
good_parameters {w} b n g = good_fields w.function.depth b n g

parameter_compiles : (t : Token) → Compiles (compile_parameter t)
unfolding compile_parameter
parameter_compiles t = record {
  moves = λ w. moves_trans (moves_function w _ (kept_refl _) refl (le_refl _) refl (λ i q. inl q)) (Moves.bare_moves 7 t _);
  goes = λ w g e. (bare_compiles 7 t).goes _ (good_parameters _ _ g) e;
}

parameters_compile : (ts : List Token) → Compiles (compile_parameters ts)
unfolding compile_parameters
parameters_compile [] = skip_compiles
parameters_compile (t ∷ ts) = then_compiles (parameter_compiles t) (parameters_compile ts)

-- what holds of the context and of the book's names before a function
pub record Ready (w : Work) : Type 0 where
  pub pool : 3 ≤ length w.context.constants
  pub names : All (λ (e : Entry). e.index < w.context.local_count) w.compiler.locals
  pub marks : All (λ (n : ℕ). n < length w.context.constants) w.context.globals

good_new : (w : Work) → Ready w → Good (with_function Emission.new_function_state w)
good_new w r = record {
  sound = record {
    reach = 0;
    sized = refl;
    low = omega arith;
    room = λ e. absurd (omega arith);
    fits = λ i h. absurd (omega arith);
    rescue = omega arith;
    scopes = nil & nil;
    breaks = nil;
    loops = nil;
    traced = refl;
    belongs = nil;
  };
  pool = r.pool;
  names = r.names;
  marks = r.marks;
}

nowhere : {b : ℕ} → InSome b [] → ⊥
nowhere q = elim q [ ]

pub safe_of_good : (w : Work) → Good w → w.function.break_scopes ≡ []
    → ((i : ℕ) → Moves.Next (code w) i → Among (i + 1) (exits_of (loops_of w.function.log.trace))) → Safe w
safe_of_good w g c n = record {
  sized = g.sound.sized;
  fits = fits_mono (code w)
      (record { tops = g.sound.low; slots = le_refl _; pools = le_refl _; globals = le_refl _; reads = λ i a. a }) g.sound.fits;
  rescue = le_trans g.sound.rescue g.sound.low;
  loops = g.sound.loops;
  breaks = all_map (λ b q. closed q) g.sound.belongs;
  closed = g.sound.traced ∙ c;
  nexts = λ i h e. n i (h, e);
}
  where
    closed : {b : ℕ} → InSome b w.function.break_scopes ⊎ InLoop b (loops_of w.function.log.trace) → InLoop b (loops_of w.function.log.trace)
    closed (inl q) = absurd (nowhere (subst (InSome _) c q))
    closed (inr q) = q

pub function_good : (parameters : List Token) (body : Statements) (w : Work) → Ready w → errs (compile_function_definition_base parameters body w) ≡ []
    → Good (compile_function_definition_base parameters body w)
unfolding compile_function_definition_base
function_good ps body w r e =
    let b = statements_compile body in
    let w₁ = compile_parameters ps (with_function Emission.new_function_state w) in
    let g₁ : Good w₁ = (parameters_compile ps).goes _ (good_new w r) ((b.moves _).errors e) in
    (return_compiles _).goes _ (b.goes _ (good_parameters _ _ g₁) e) e

pub function_moves : (parameters : List Token) (body : Statements) (w : Work)
    → Moves (with_function Emission.new_function_state w) (compile_function_definition_base parameters body w)
unfolding compile_function_definition_base
function_moves ps body w = moves_trans ((parameters_compile ps).moves _)
    (moves_trans (moves_function _ _ (kept_refl _) refl (le_refl _) refl (λ i q. inl q))
    (moves_trans ((statements_compile body).moves _) (Moves.return_moves _ _)))

-- demand 3 of one function
pub function_safe : (parameters : List Token) (body : Statements) (w : Work) → Ready w → errs (compile_function_definition_base parameters body w) ≡ []
    → Safe (compile_function_definition_base parameters body w)
function_safe ps body w r e = safe_of_good _ (function_good ps body w r e) (function_moves ps body w).breaks
    (λ i q. known i ((function_moves ps body w).nexts i q))
  where
    v : Work
    v = compile_function_definition_base ps body w

    known : (i : ℕ) → (Moves.Next [] i ⊎ Among i []) ⊎ Among (i + 1) (exits_of (loops_of v.function.log.trace))
        → Among (i + 1) (exits_of (loops_of v.function.log.trace))
    known i (inl (inl q)) = absurd (let h : i < 0 = q.0 in omega arith)
    known i (inl (inr q)) = absurd (elim q [ ])
    known i (inr q) = q
