-- What every piece of compiling does, errors or not: it keeps the code before it (but a Pop), adds fresh breaks to the innermost loop, and its counts grow
use Prim.Native.Nat.{ℕ, ◌+◌, ◌≤◌, ◌<◌}
use native.Mathlib.Nat.{le_refl, le_trans}
use native.Mathlib.Omega.{arith}
use mathlib.Core.Path.{◌≡◌, refl, sym, ap, ◌∙◌, subst}
use mathlib.Core.Logic.{◌⊎◌, inl, inr}
use mathlib.Core.Bool.{not}
use mathlib.Core.Option.{Option, none, some}
use mathlib.Core.List.{List, [], ◌∷◌, ◌++◌, append_assoc, append-nil}
use lib.ListN.{length, set, length-append}
use lib.Dec.{T, eqb, ltb, eqb→eq}
use Rattle.words.specs.Ast.{Token, Expression, Expressions, Variables, Statement, Statements}
use Rattle.words.specs.Ast.{Identifier, This, Null, Integer, Float, Text, Boolean, Array, Prefix, Infix, If, IfElse, Call, InstanceGet, IndexGet}
use Rattle.words.specs.Ast.{∅ₑ, ◌∷ₑ◌, ∅ᵥ, Bare, Valued, Local, Return, For, Break, Rescue, Expr, ∅ₛ, ◌∷ₛ◌}
use Rattle.words.specs.Opcode.{Instruction, to_instruction}
use Rattle.definition.specs.FunctionState.{FunctionState, Entry, push_breaks, innermost, tail, last_opcode, init, pop_last, remove_pop_or_push_null}
use Rattle.definition.specs.FunctionState.{emit_return, emit_break, exit_break_scope, define_local, Defined, find_name, get_next_instruction_index}
use Rattle.definition.specs.FunctionState.{get_last_position, with_rescue, with_depth, with_parameters}
use Rattle.words.specs.Opcode.{Pop, PushConstant, ReturnOp, LocalSet, LocalGet}
use Rattle.words.specs.Opcode.{Jump, JumpIf, ForNext, Iterate}
use Rattle.definition.specs.FunctionState as Emission
use Rattle.definition.specs.Compiler
use Rattle.definition.specs.Compiler.{Work, Step, Error, doing, with_function, emit, next, Added, add_constant, add_constant_no_check, find_constant}
use Rattle.definition.specs.Compiler.{push_error, InfixKind, Assigning, Plain, Negated, Compound, Unknown, infix_kind, found_or}
use Rattle.words.specs.Object.{is_shared, Constant, constant_of}
use Rattle.definition.specs.Compiler.{compile_statement, compile_statements, compile_expression, compile_expressions, compile_variables}
use Rattle.definition.specs.Compiler.{compile_assign_expression_left_part, compile_parameters, skip, and_then, deeper, compile_rescue, compile_bare}
use Rattle.definition.specs.Compiler.{compile_valued, compile_expression_statement, compile_for_statement}
use Rattle.definition.specs.Compiler.{compile_if_expression, compile_part, compile_no_part, compile_array_expression, compile_call_expression}
use Rattle.definition.specs.Compiler.{compile_prefix_expression, compile_infix_expression, compile_infix_by, compile_operation, compile_assign_expression}
use Rattle.definition.specs.Compiler.{compile_pair, compile_assign_name}
use Rattle.definition.specs.Compiler.{compile_this_expression, compile_identifier_expression, emit_name, compile_null_expression, compile_boolean_expression}
use Rattle.definition.specs.Compiler.{compile_string_expression, compile_float_expression, compile_integer_expression, emit_global, emit_constant}
use Rattle.definition.specs.Within.{All, nil, ◌&◌, Among, here, there, Loop, loops_of, exits_of, read_trace}
use Rattle.definition_laws.proofs.Defining.{define_cases}
use Rattle.definition_laws.proofs.Safe.{at}
use Rattle.definition_laws.proofs.Lists.{all_map, all_append, Kept, Fresh, kept_refl, kept_trans, fresh_ge, fresh_trans, kept_append, kept_set}
use Rattle.definition_laws.proofs.Lists.{kept_patch, kept_init, cond_case, ne_of_test, each_snoc, each_set, each_patch, each_init}
use Rattle.definition_laws.proofs.Sound.{leave_closed}

abbrev pub code : Work → List Instruction
code w = w.function.code.instructions

abbrev pub errs : Work → List Error
errs w = w.compiler.errors

-- the exits of the loops that were left
abbrev pub exits : Work → List ℕ
exits w = exits_of (loops_of w.function.log.trace)

-- a ForNext
abbrev pub Next : List Instruction → ℕ → Type 0
Next l i = (i < length l) × ((at l i).opcode ≡ ForNext)

-- `waiting`: the ForNexts whose loops are not left yet
pub record MovesBut (waiting : List ℕ) (w w' : Work) : Type 0 where
  pub kept : Kept (code w) (code w')
  pub pushed : List ℕ
  pub breaks : w'.function.break_scopes ≡ push_breaks pushed w.function.break_scopes
  pub new : All (Fresh (code w)) pushed
  pub errors : errs w' ≡ [] → errs w ≡ []
  pub locals : w.function.header.local_count ≤ w'.function.header.local_count
  pub added : List Constant
  pub pool : w'.context.constants ≡ w.context.constants ++ added
  pub plain : All (λ (c : Constant). c.kind < 5) added
  pub context : w'.context.local_count ≡ w.context.local_count
  pub left : (j : ℕ) → Among j (exits w) → Among j (exits w')
  -- a ForNext was there before, waits, or is that of a loop that was left
  pub nexts : (i : ℕ) → Next (code w') i → (Next (code w) i ⊎ Among i waiting) ⊎ Among (i + 1) (exits w')

abbrev pub Moves : Work → Work → Type 0
Moves w w' = MovesBut [] w w'

push_nil : (bs : List (List ℕ)) → bs ≡ push_breaks [] bs
push_nil [] = refl
push_nil (s ∷ ss) = ap {B = List (List ℕ)} (λ x. x ∷ ss) (sym (append-nil s))

push_push : (p q : List ℕ) (bs : List (List ℕ)) → push_breaks q (push_breaks p bs) ≡ push_breaks (p ++ q) bs
push_push p q [] = refl
push_push p q (s ∷ ss) = ap {B = List (List ℕ)} (λ x. x ∷ ss) (append_assoc s p q)

pub simply : {waiting : List ℕ} {w w' : Work} → Kept (code w) (code w') → w'.function.break_scopes ≡ w.function.break_scopes
    → (errs w' ≡ [] → errs w ≡ []) → w.function.header.local_count ≤ w'.function.header.local_count → w'.context.constants ≡ w.context.constants
    → w'.context.local_count ≡ w.context.local_count → w'.function.log.trace ≡ w.function.log.trace
    → ((i : ℕ) → Next (code w') i → Next (code w) i ⊎ Among i waiting) → MovesBut waiting w w'
simply {w = w} k b e l c x t n = record {
  kept = k;
  pushed = [];
  breaks = b ∙ push_nil w.function.break_scopes;
  new = nil;
  errors = e;
  locals = l;
  added = [];
  pool = c ∙ sym (append-nil _);
  plain = nil;
  context = x;
  left = λ j q. subst (λ es. Among j (exits_of (loops_of es))) (sym t) q;
  nexts = λ i q. inl (n i q);
}

pub moves_refl : (w : Work) → Moves w w
moves_refl w = simply (kept_refl (code w)) refl (λ e. e) (le_refl _) refl refl refl (λ i q. inl q)

among_first : {i : ℕ} {p : List ℕ} (q : List ℕ) → Among i p → Among i (p ++ q)
among_first q here = here
among_first q (there a) = there (among_first q a)

among_second : {i : ℕ} (p : List ℕ) {q : List ℕ} → Among i q → Among i (p ++ q)
among_second [] a = a
among_second (x ∷ p) a = there (among_second p a)

pub moves_trans : {p q : List ℕ} {a b c : Work} → MovesBut p a b → MovesBut q b c → MovesBut (p ++ q) a c
moves_trans {p} {q} {a} {b} {c} m n = record {
  kept = kept_trans m.kept n.kept;
  pushed = m.pushed ++ n.pushed;
  breaks = n.breaks ∙ ap (push_breaks n.pushed) m.breaks ∙ push_push m.pushed n.pushed a.function.break_scopes;
  new = all_append m.new (all_map (λ j f. fresh_trans m.kept f) n.new);
  errors = λ e. m.errors (n.errors e);
  locals = le_trans m.locals n.locals;
  added = m.added ++ n.added;
  pool = n.pool ∙ ap (λ l. l ++ n.added) m.pool ∙ append_assoc a.context.constants m.added n.added;
  plain = all_append m.plain n.plain;
  context = n.context ∙ m.context;
  left = λ j h. n.left j (m.left j h);
  nexts = λ i h. second i (n.nexts i h);
}
  where
    first' : (i : ℕ) → (Next (code a) i ⊎ Among i p) ⊎ Among (i + 1) (exits b) → (Next (code a) i ⊎ Among i (p ++ q)) ⊎ Among (i + 1) (exits c)
    first' i (inl (inl h)) = inl (inl h)
    first' i (inl (inr h)) = inl (inr (among_first q h))
    first' i (inr h) = inr (n.left (i + 1) h)

    second : (i : ℕ) → (Next (code b) i ⊎ Among i q) ⊎ Among (i + 1) (exits c) → (Next (code a) i ⊎ Among i (p ++ q)) ⊎ Among (i + 1) (exits c)
    second i (inl (inl h)) = first' i (m.nexts i h)
    second i (inl (inr h)) = inl (inr (among_second p h))
    second i (inr h) = inr h

abbrev pub Moving : Step → Type 0
Moving s = (w : Work) → Moves w (s w)

-- a change of the function state alone
pub moves_function : (w : Work) (f : FunctionState) → Kept (code w) f.code.instructions → f.break_scopes ≡ w.function.break_scopes
    → w.function.header.local_count ≤ f.header.local_count → f.log.trace ≡ w.function.log.trace
    → ((i : ℕ) → Next f.code.instructions i → Next (code w) i ⊎ Among i [])
    → Moves w (with_function f w)
moves_function w f k b l t n = simply k b (λ e. e) l refl refl t n

-- an opcode that is no ForNext
abbrev pub NoNext : ℕ → Type 0
NoNext o = T (not (eqb o ForNext))

no_next : {A : Type 0} {o : ℕ} → NoNext o → o ≡ ForNext → A
no_next t e = absurd (ne_of_test t e)

-- an instruction more
emit_next : (l : List Instruction) (x : Instruction) → NoNext x.opcode → (i : ℕ) → Next (l ++ (x ∷ [])) i → Next l i ⊎ Among i []
emit_next l x t i (h, e) = each_snoc (λ j (y : Instruction). y.opcode ≡ ForNext → Next l j ⊎ Among j []) l x (λ j q r. inl (q, r)) (λ r. no_next t r) i h e

pub emit_moves : (i : Instruction) (p : ℕ) → NoNext i.opcode → Moving (emit i p)
emit_moves i p t w = moves_function w _ (kept_append (code w) (i ∷ [])) refl (le_refl _) refl (emit_next (code w) i t)

-- a ForNext, whose loop is still to be left
pub emit_next_moves : (i : Instruction) (p : ℕ) (w : Work) → MovesBut (next w ∷ []) w (emit i p w)
emit_next_moves i p w = simply (kept_append (code w) (i ∷ [])) refl (λ e. e) (le_refl _) refl refl refl
    (λ j q. each_snoc (λ k (y : Instruction). y.opcode ≡ ForNext → Next (code w) k ⊎ Among k (next w ∷ [])) (code w) i (λ k r s. inl (r, s)) (λ r. inr here) j
    q.0 q.1)

pub set_moves : {p : List ℕ} {w v : Work} {j : ℕ} (i : Instruction) → NoNext i.opcode → MovesBut p w v → Fresh (code w) j
    → MovesBut p w (Compiler.replace_instruction j i v)
set_moves {p} {w} {v} {j} i t m f = record {
  kept = kept_set i m.kept f;
  pushed = m.pushed;
  breaks = m.breaks;
  new = m.new;
  errors = m.errors;
  locals = m.locals;
  added = m.added;
  pool = m.pool;
  plain = m.plain;
  context = m.context;
  left = m.left;
  nexts = λ k q. each_set (λ n (y : Instruction). y.opcode ≡ ForNext → (Next (code w) n ⊎ Among n p) ⊎ Among (n + 1) (exits v)) (code v) j i
      (λ n r s. m.nexts n (r, s)) (λ r. no_next t r) k q.0 q.1;
}

append_not_nil : {A : Type 0} (l : List A) (a : A) → l ++ (a ∷ []) ≡ [] → l ≡ []
append_not_nil [] a e = refl
append_not_nil (x ∷ l) a e = cc

pub error_moves : (n : ℕ) (t : Token) → Moving (push_error n t)
error_moves n t w = simply (kept_refl (code w)) refl (λ e. append_not_nil (errs w) _ e) (le_refl _) refl refl refl (λ i q. inl q)

-- function_state.rs

close_kept : (f : FunctionState) → Kept f.code.instructions (remove_pop_or_push_null f).code.instructions
unfolding remove_pop_or_push_null
close_kept f = cond_case (λ (g : FunctionState). Kept f.code.instructions g.code.instructions) (eqb (last_opcode f) Pop)
    (λ t. kept_init f.code.instructions (eqb→eq _ _ t))
    (λ t. cond_case (λ (g : FunctionState). Kept f.code.instructions g.code.instructions) (eqb (last_opcode f) ReturnOp) (λ s. kept_refl _)
    (λ s. kept_append _ _))

-- all but the code is as it was
pub record SameButCode (f g : FunctionState) : Type 0 where
  pub breaks : g.break_scopes ≡ f.break_scopes
  pub locals : g.header.local_count ≡ f.header.local_count
  pub scopes : g.scopes ≡ f.scopes
  pub trace : g.log.trace ≡ f.log.trace
  pub rescue : g.header.rescue_position ≡ f.header.rescue_position
  pub this : g.log.this_reads ≡ f.log.this_reads

pub close_same : (f : FunctionState) → SameButCode f (remove_pop_or_push_null f)
unfolding remove_pop_or_push_null
close_same f = cond_case (λ (g : FunctionState). SameButCode f g) (eqb (last_opcode f) Pop) (λ t. same)
    (λ t. cond_case (λ (g : FunctionState). SameButCode f g) (eqb (last_opcode f) ReturnOp) (λ s. same) (λ s. same))
  where
    same : {is : List Instruction} {ps : List ℕ} → SameButCode f (Emission.with_code is ps f)
    same = record { breaks = refl; locals = refl; scopes = refl; trace = refl; rescue = refl; this = refl }

pub return_kept : (p : ℕ) (f : FunctionState) → Kept f.code.instructions (emit_return p f).code.instructions
unfolding emit_return
return_kept p f = cond_case (λ (g : FunctionState). Kept f.code.instructions g.code.instructions) (eqb (last_opcode (remove_pop_or_push_null f)) ReturnOp)
    (λ t. close_kept f) (λ t. kept_trans (close_kept f) (kept_append _ _))

pub return_same : (p : ℕ) (f : FunctionState) → SameButCode f (emit_return p f)
unfolding emit_return
return_same p f = cond_case (λ (g : FunctionState). SameButCode f g) (eqb (last_opcode (remove_pop_or_push_null f)) ReturnOp) (λ t. close_same f)
    (λ t. record {
      breaks = (close_same f).breaks;
      locals = (close_same f).locals;
      scopes = (close_same f).scopes;
      trace = (close_same f).trace;
      rescue = (close_same f).rescue;
      this = (close_same f).this;
    })

close_next : (f : FunctionState) (i : ℕ) → Next (remove_pop_or_push_null f).code.instructions i → Next f.code.instructions i ⊎ Among i []
unfolding remove_pop_or_push_null
close_next f = cond_case (λ (g : FunctionState). (i : ℕ) → Next g.code.instructions i → Next f.code.instructions i ⊎ Among i [])
    (eqb (last_opcode f) Pop)
    (λ t i q. each_init (λ j (y : Instruction). y.opcode ≡ ForNext → Next f.code.instructions j ⊎ Among j []) f.code.instructions
    (λ j r s. inl (r, s)) i q.0
    q.1)
    (λ t. cond_case (λ (g : FunctionState). (i : ℕ) → Next g.code.instructions i → Next f.code.instructions i ⊎ Among i [])
    (eqb (last_opcode f) ReturnOp)
    (λ s. (λ i q. inl q)) (λ s. emit_next f.code.instructions _ tt))

return_next : (p : ℕ) (f : FunctionState) (i : ℕ) → Next (emit_return p f).code.instructions i → Next f.code.instructions i ⊎ Among i []
unfolding emit_return
return_next p f = cond_case (λ (g : FunctionState). (i : ℕ) → Next g.code.instructions i → Next f.code.instructions i ⊎ Among i [])
    (eqb (last_opcode (remove_pop_or_push_null f)) ReturnOp) (λ t. close_next f)
    (λ t i q. go i (emit_next (remove_pop_or_push_null f).code.instructions (to_instruction ReturnOp 0) tt i q))
  where
    go : (i : ℕ) → Next (remove_pop_or_push_null f).code.instructions i ⊎ Among i [] → Next f.code.instructions i ⊎ Among i []
    go i (inl q) = close_next f i q
    go i (inr q) = inr q

pub close_moves : Moving (doing remove_pop_or_push_null)
close_moves w = moves_function w _ (close_kept w.function) (close_same w.function).breaks (omega (arith, (close_same w.function).locals))
    (close_same w.function).trace (close_next w.function)

pub return_moves : (p : ℕ) → Moving (doing (emit_return p))
return_moves p w = moves_function w _ (return_kept p w.function) (return_same p w.function).breaks (omega (arith, (return_same p w.function).locals))
    (return_same p w.function).trace (return_next p w.function)

pub break_moves : (p : ℕ) → Moving (doing (emit_break p))
unfolding emit_break
break_moves p w = go w.function.break_scopes refl
  where
    go : (bs : List (List ℕ)) → w.function.break_scopes ≡ bs → Moves w (with_function (Emission.emit_break_in bs p w.function) w)
    go [] e = moves_function w _ (kept_refl _) refl (le_refl _) refl (λ i q. inl q)
    go (s ∷ ss) e = record {
      kept = kept_append (code w) _;
      pushed = next w ∷ [];
      breaks = refl;
      new = fresh_ge (le_refl _) & nil;
      errors = λ h. h;
      locals = le_refl _;
      added = [];
      pool = sym (append-nil _);
      plain = nil;
      context = refl;
      left = λ j q. q;
      nexts = λ i q. inl (emit_next (code w) (to_instruction Jump 0) tt i q);
    }

-- compiler.rs: leaves

pub define_same : (n : ℕ) (f : FunctionState) → ((define_local n f).state.break_scopes ≡ f.break_scopes)
    × (f.header.local_count ≤ (define_local n f).state.header.local_count) × ((define_local n f).state.code.instructions ≡ f.code.instructions)
    × ((define_local n f).state.log.trace ≡ f.log.trace)
define_same n f = define_cases (λ d. (d.state.break_scopes ≡ f.break_scopes) × (f.header.local_count ≤ d.state.header.local_count)
    × (d.state.code.instructions ≡ f.code.instructions) × (d.state.log.trace ≡ f.log.trace)) n f (λ o. go o)
  where
    go : (o : Option ℕ) → let g = (Emission.define_local_by o n f).state in (g.break_scopes ≡ f.break_scopes)
        × (f.header.local_count ≤ g.header.local_count) × (g.code.instructions ≡ f.code.instructions) × (g.log.trace ≡ f.log.trace)
    go none = (refl, omega arith, refl, refl)
    go (some i) = (refl, omega arith, refl, refl)

pub define_moves : (n : ℕ) (w : Work) → Moves w (with_function (define_local n w.function).state w)
define_moves n w = moves_function w _ (rw (define_same n w.function).2 (kept_refl _)) (define_same n w.function).0 (define_same n w.function).1
    (define_same n w.function).3 (λ i q. inl (subst (λ (l : List Instruction). Next l i) (define_same n w.function).2 q))

pub constant_moves : (c : Constant) → c.kind < 5 → (w : Work) → Moves w (add_constant c w).work
unfolding add_constant
constant_moves c k w = cond_case (λ (a : Added). Moves w a.work) (is_shared c.kind) (λ t. go (find_constant c w.context.constants 0)) (λ t. plain)
  where
    plain : Moves w (add_constant_no_check c w).work
    plain = record {
      kept = kept_refl _;
      pushed = [];
      breaks = push_nil _;
      new = nil;
      errors = λ e. e;
      locals = le_refl _;
      added = c ∷ [];
      pool = refl;
      plain = k & nil;
      context = refl;
      left = λ j q. q;
      nexts = λ i q. inl (inl q);
    }

    go : (o : Option ℕ) → Moves w (Compiler.add_constant_by o c w).work
    go none = plain
    go (some i) = moves_refl w

pub emit_constant_moves : (o : ℕ) (c : Constant) (p : ℕ) → c.kind < 5 → NoNext o → Moving (emit_constant o c p)
unfolding emit_constant
emit_constant_moves o c p k t w = moves_trans (constant_moves c k w) (emit_moves _ p t _)

mark_moves : (i : ℕ) → Moving (Compiler.mark_global i)
mark_moves i w = simply (kept_refl _) refl (λ e. e) (le_refl _) refl refl refl (λ i q. inl q)

pub emit_global_moves : (o n p : ℕ) → NoNext o → Moving (emit_global o n p)
unfolding emit_global
emit_global_moves o n p t w = moves_trans (constant_moves (constant_of 4 n) (omega arith) w) (moves_trans (mark_moves _ _) (emit_moves _ p t _))

pub name_moves : (l c g n p : ℕ) → NoNext l → NoNext c → NoNext g → Moving (emit_name l c g n p)
unfolding emit_name
name_moves l c g n p tl tc tg w = go (Emission.find_local n w.function)
  where
    inner : (o : Option ℕ) → Moves w (Compiler.emit_name_in_context o c g n p w)
    inner none = emit_global_moves g n p tg w
    inner (some i) = emit_moves _ p tc w

    go : (o : Option ℕ) → Moves w (Compiler.emit_name_by o l c g n p w)
    go none = inner (find_name n w.compiler.locals)
    go (some i) = emit_moves _ p tl w

-- compiler.rs: compounds

module _ {a b : Step} (A : Moving a) (B : Moving b) where
  pub then_moves : Moving (and_then a b)
  unfolding and_then
  then_moves w = moves_trans (A w) (B _)

  pub pair_moves : (o : ℕ) (t : Token) → NoNext o → Moving (compile_pair o t a b)
  unfolding compile_pair
  pair_moves o t s w = moves_trans (A w) (moves_trans (B _) (emit_moves _ _ s _))

  pub assign_moves : Moving (compile_assign_expression a b)
  unfolding compile_assign_expression
  assign_moves w = moves_trans (A w) (B _)

  pub operation_moves : (n : ℕ) (t : Token) → Moving (compile_operation n t a b)
  unfolding compile_operation
  operation_moves n t w = moves_trans (A w) (moves_trans (B _) (emit_moves _ _ tt _))

  pub call_moves : (t : Token) (n : ℕ) → Moving (compile_call_expression t n a b)
  unfolding compile_call_expression
  call_moves t n w = moves_trans (A w) (moves_trans (B _) (emit_moves _ _ tt _))

module _ {a : Step} (A : Moving a) where
  pub array_moves : (t : Token) (n : ℕ) → Moving (compile_array_expression t n a)
  unfolding compile_array_expression
  array_moves t n w = moves_trans (A w) (emit_moves _ _ tt _)

  pub prefix_moves : (t : Token) → Moving (compile_prefix_expression t a)
  unfolding compile_prefix_expression
  prefix_moves t w = moves_trans (A w) (cond_case (Moves (a w)) (eqb t.value 0) (λ h. emit_moves _ _ tt _)
      (λ h. cond_case (Moves (a w)) (eqb t.value 1) (λ k. emit_moves _ _ tt _) (λ k. error_moves 3 t _)))

  pub part_moves : Moving (compile_part a)
  unfolding compile_part
  part_moves w = moves_trans (moves_function w _ (kept_refl _) refl (le_refl _) refl (λ i q. inl q))
      (moves_trans (A _) (moves_trans (moves_function _ _ (kept_refl _) refl (le_refl _) refl (λ i q. inl q)) (close_moves _)))

  pub deeper_moves : Moving (deeper a)
  unfolding deeper
  deeper_moves w = moves_trans (moves_function w _ (kept_refl _) refl (le_refl _) refl (λ i q. inl q))
      (moves_trans (A _) (moves_function _ _ (kept_refl _) refl (le_refl _) refl (λ i q. inl q)))

  pub expression_statement_moves : Moving (compile_expression_statement a)
  unfolding compile_expression_statement
  expression_statement_moves w = moves_trans (A w) (emit_moves _ _ tt _)

  pub valued_moves : (t : Token) → Moving (compile_valued t a)
  unfolding compile_valued
  valued_moves t w = moves_trans (define_moves t.value w) (go (define_local t.value w.function).found _)
    where
      go : (o : Option ℕ) (v : Work) → Moves v (Compiler.valued_by o t a v)
      go none v = error_moves 1 t v
      go (some i) v = moves_trans (A v) (emit_moves _ _ tt _)

pub bare_moves : (n : ℕ) (t : Token) → Moving (compile_bare n t)
unfolding compile_bare
bare_moves n t w = moves_trans (define_moves t.value w) (go (define_local t.value w.function).found _)
  where
    go : (o : Option ℕ) (v : Work) → Moves v (Compiler.bare_by o n t v)
    go none v = error_moves n t v
    go (some i) v = moves_refl v

pub no_part_moves : Moving compile_no_part
unfolding compile_no_part
no_part_moves w = emit_moves _ _ tt w

pub skip_moves : Moving skip
unfolding skip
skip_moves w = moves_refl w

pub rescue_moves : (t : Token) → Moving (compile_rescue t)
unfolding compile_rescue
rescue_moves t w = cond_case (Moves w) (ltb 1 w.function.depth) (λ h. error_moves 4 t w)
    (λ h. moves_function w _ (return_kept _ w.function) (return_same _ w.function).breaks
    (omega (arith, (return_same t.position w.function).locals)) (return_same _ w.function).trace (return_next _ w.function))

module _ {l r g : Step} (L : Moving l) (R : Moving r) (G : Moving g) where
  pub infix_moves : (t : Token) → Moving (compile_infix_expression t l r g)
  unfolding compile_infix_expression
  infix_moves t w = go (infix_kind t.value)
    where
      go : (k : InfixKind) → Moves w (compile_infix_by k t l r g w)
      go Assigning = assign_moves R G w
      go (Plain n) = operation_moves L R n t w
      go (Negated n) = moves_trans (operation_moves L R n t w) (emit_moves _ _ tt _)
      go (Compound n) = moves_trans (operation_moves L R n t w) (G _)
      go Unknown = error_moves 3 t w

  -- the condition l, the true part r, the false part g
  pub if_moves : Moving (compile_if_expression l r g)
  unfolding compile_if_expression
  if_moves w =
      let w₁ = l w in
      let w₂ = Compiler.emit_opcode_without_position JumpIf w₁ in
      let w₃ = g w₂ in
      let m₃ : Moves w₁ w₃ = moves_trans (emit_moves _ _ tt w₁) (G w₂) in
      let m₄ : Moves w₁ (Compiler.emit_opcode_without_position Jump w₃) = moves_trans m₃ (emit_moves _ _ tt w₃) in
      moves_trans (L w) (set_moves _ tt (moves_trans (set_moves _ tt m₄ (fresh_ge (le_refl _))) (R _)) (fresh_trans m₃.kept (fresh_ge (le_refl _))))

module _ {a b : Step} (A : Moving a) (B : Moving b) where
  -- the enumerable a, the statements b
  pub for_moves : (t i : Token) → Moving (compile_for_statement t i a b)
  unfolding compile_for_statement exit_break_scope
  for_moves t i w =
      let enumerableIndex = w.function.header.local_count in
      let iteratorIndex = w.function.header.local_count + 1 in
      let w₁ = doing (λ f. Emission.enter_break_scope (Emission.enter_scope (Emission.define_anonymous_local (Emission.define_anonymous_local f)))) w in
      let w₂ = a w₁ in
      let w₃ = Compiler.emit_opcode_without_position Pop (emit (to_instruction LocalSet enumerableIndex) t.position w₂) in
      let w₄ = emit_constant PushConstant (constant_of 2 0) t.position w₃ in
      let w₅ = Compiler.emit_opcode_without_position Pop (emit (to_instruction LocalSet iteratorIndex) t.position w₄) in
      let d = define_local i.value w₅.function in
      let w₆ = with_function d.state w₅ in
      let w₇ = emit (to_instruction ForNext enumerableIndex) t.position w₆ in
      let w₈ = Compiler.emit_opcode_without_position JumpIf w₇ in
      let w₉ = Compiler.emit_opcode_without_position Pop (emit (to_instruction LocalSet (found_or 0 d.found)) i.position w₈) in
      let m₃ : Moves w₁ w₃ = moves_trans (A w₁) (moves_trans (emit_moves _ _ tt _) (emit_moves _ _ tt _)) in
      let m₅ : Moves w₁ w₅ = moves_trans m₃ (moves_trans (emit_constant_moves PushConstant (constant_of 2 0) t.position (omega arith) tt w₃)
      (moves_trans (emit_moves _ _ tt _) (emit_moves _ _ tt _))) in
      let m₇ : MovesBut (next w₆ ∷ []) w₁ w₇ = moves_trans m₅ (moves_trans (define_moves i.value w₅) (emit_next_moves _ _ w₆)) in
      let m₉ : MovesBut (next w₆ ∷ []) w₁ w₉ = moves_trans m₇ (moves_trans (emit_moves _ _ tt _) (moves_trans (emit_moves _ _ tt _) (emit_moves _ _ tt _))) in
      let n₁ = moves_trans m₉ (B w₉) in
      let n₃ = moves_trans n₁ (moves_trans (emit_moves (to_instruction Iterate iteratorIndex) _ tt _) (emit_moves (to_instruction Jump (next w₆)) _ tt _)) in
      finish w _ (next w₆) (next w₇) (length-append (code w₆) _) n₃ (fresh_trans m₇.kept (fresh_ge (le_refl _)))
    where
      finish : (w v : Work) (start exit : ℕ) → exit ≡ start + 1 → MovesBut (start ∷ []) (doing (λ f. Emission.enter_break_scope
          (Emission.enter_scope (Emission.define_anonymous_local (Emission.define_anonymous_local f)))) w) v → Fresh (code w) exit
          → Moves w (doing Emission.exit_scope (doing (exit_break_scope exit) (Compiler.replace_instruction exit (to_instruction JumpIf (next v)) v)))
      finish w v start exit one m f = record {
        kept = kept_patch (innermost v.function.break_scopes) _ (kept_set _ m.kept f)
            (subst (All (Fresh (code w))) (sym (ap innermost m.breaks)) m.new);
        pushed = [];
        breaks = ap tail m.breaks ∙ push_nil _;
        new = nil;
        errors = m.errors;
        locals = omega (arith, m.locals);
        added = m.added;
        pool = m.pool;
        plain = m.plain;
        context = m.context;
        left = λ j q. subst (Among j) (sym more) (among_first (exit ∷ []) (m.left j q));
        nexts = λ k q.
            let was = each_patch P (innermost v.function.break_scopes) (length (set (code v) exit (to_instruction JumpIf (next v))))
            (set (code v) exit (to_instruction JumpIf (next v))) (λ n e. absurd (omega arith))
            (each_set P (code v) exit (to_instruction JumpIf (next v)) (λ n r s. known n (m.nexts n (r, s))) (λ e. absurd (omega arith))) k q.0 q.1 in
            subst (λ es. (Next (code w) k ⊎ Among k []) ⊎ Among (k + 1) es) (sym more) was;
      }
        where
          P : ℕ → Instruction → Type 0
          P n y = y.opcode ≡ ForNext → (Next (code w) n ⊎ Among n []) ⊎ Among (n + 1) (exits v ++ (exit ∷ []))

          exits_append : (es fs : List Loop) → exits_of (es ++ fs) ≡ exits_of es ++ exits_of fs
          exits_append [] fs = refl
          exits_append (e ∷ es) fs = ap (λ l. e.exit ∷ l) (exits_append es fs)

          more : exits (doing Emission.exit_scope (doing (exit_break_scope exit) (Compiler.replace_instruction exit (to_instruction JumpIf (next v)) v)))
              ≡ exits v ++ (exit ∷ [])
          more = ap exits_of (leave_closed exit _ (read_trace v.function.log.trace).open' (loops_of v.function.log.trace))
              ∙ exits_append (loops_of v.function.log.trace) _

          -- the loop's own ForNext stands before its exit
          known : (n : ℕ) → (Next (code w) n ⊎ Among n (start ∷ [])) ⊎ Among (n + 1) (exits v)
              → (Next (code w) n ⊎ Among n []) ⊎ Among (n + 1) (exits v ++ (exit ∷ []))
          known n (inl (inl h)) = inl (inl h)
          known n (inl (inr here)) = inr (subst (λ x. Among x (exits v ++ (exit ∷ []))) one (among_second (exits v) here))
          known n (inl (inr (there q))) = elim q [ ]
          known n (inr h) = inr (among_first (exit ∷ []) h)

pub this_moves : (t : Token) → Moving (compile_this_expression t)
unfolding compile_this_expression
this_moves t w = moves_function w _ (kept_append _ _) refl (le_refl _) refl (emit_next (code w) (to_instruction LocalGet 0) tt)

-- every piece moves

mutual
  unfolding compile_expression compile_identifier_expression compile_null_expression compile_integer_expression compile_float_expression
      compile_string_expression
      compile_boolean_expression compile_assign_name

  pub expression_moves : (e : Expression) → Moving (compile_expression e)
  expression_moves (Identifier t) = name_moves _ _ _ _ _ tt tt tt
  expression_moves (This t) = this_moves t
  expression_moves (Null t) = emit_moves _ _ tt
  expression_moves (Integer t) = emit_constant_moves _ _ _ (omega arith) tt
  expression_moves (Float t) = emit_constant_moves _ _ _ (omega arith) tt
  expression_moves (Text t) = emit_constant_moves _ _ _ (omega arith) tt
  expression_moves (Boolean t) = emit_moves _ _ tt
  expression_moves (Array t values) = array_moves (expressions_moves values) _ _
  expression_moves (Prefix t right) = prefix_moves (expression_moves right) t
  expression_moves (Infix left t right) = infix_moves (expression_moves left) (expression_moves right) (target_moves left t) t
  expression_moves (If condition truePart) = if_moves (expression_moves condition) (part_moves (statements_moves truePart)) no_part_moves
  expression_moves (IfElse condition truePart falsePart) = if_moves (expression_moves condition) (part_moves (statements_moves truePart))
      (part_moves (statements_moves falsePart))
  expression_moves (Call t function parameters) = call_moves (expression_moves function) (expressions_moves parameters) _ _
  expression_moves (InstanceGet t instance index) = pair_moves (expression_moves instance) (expression_moves index) _ _ tt
  expression_moves (IndexGet t instance index) = pair_moves (expression_moves instance) (expression_moves index) _ _ tt

  pub target_moves : (e : Expression) (a : Token) → Moving (compile_assign_expression_left_part e a)
  target_moves (Identifier t) a = name_moves _ _ _ _ _ tt tt tt
  target_moves (This t) a = error_moves _ _
  target_moves (Null t) a = error_moves _ _
  target_moves (Integer t) a = error_moves _ _
  target_moves (Float t) a = error_moves _ _
  target_moves (Text t) a = error_moves _ _
  target_moves (Boolean t) a = error_moves _ _
  target_moves (Array t values) a = error_moves _ _
  target_moves (Prefix t right) a = error_moves _ _
  target_moves (Infix left t right) a = error_moves _ _
  target_moves (If condition truePart) a = error_moves _ _
  target_moves (IfElse condition truePart falsePart) a = error_moves _ _
  target_moves (Call t function parameters) a = error_moves _ _
  target_moves (InstanceGet t instance index) a = pair_moves (expression_moves instance) (expression_moves index) _ _ tt
  target_moves (IndexGet t instance index) a = pair_moves (expression_moves instance) (expression_moves index) _ _ tt

  pub expressions_moves : (es : Expressions) → Moving (compile_expressions es)
  expressions_moves ∅ₑ = skip_moves
  expressions_moves (e ∷ₑ es) = then_moves (expression_moves e) (expressions_moves es)

  pub variables_moves : (vs : Variables) → Moving (compile_variables vs)
  variables_moves ∅ᵥ = skip_moves
  variables_moves (Bare t vs) = then_moves (bare_moves 1 t) (variables_moves vs)
  variables_moves (Valued t e vs) = then_moves (valued_moves (expression_moves e) t) (variables_moves vs)

  pub statement_moves : (s : Statement) → Moving (compile_statement s)
  statement_moves (Local vs) = deeper_moves (variables_moves vs)
  statement_moves (Return t) = deeper_moves (return_moves _)
  statement_moves (For t i e ss) = deeper_moves (for_moves (expression_moves e) (statements_moves ss) t i)
  statement_moves (Break t) = deeper_moves (break_moves _)
  statement_moves (Rescue t) = deeper_moves (rescue_moves t)
  statement_moves (Expr e) = deeper_moves (expression_statement_moves (expression_moves e))

  pub statements_moves : (ss : Statements) → Moving (compile_statements ss)
  statements_moves ∅ₛ = skip_moves
  statements_moves (s ∷ₛ ss) = then_moves (statement_moves s) (statements_moves ss)
