-- Each routine of `building` leaves what stood before the function: it writes nothing with the mark set, and else behind the function's base or a count.
-- By cases over each. Assumes nothing.
use Rattle.std.proofs.Common.{◌≡◌, ℕ, zero, suc, ◌+◌, ◌-◌, ◌*◌, ◌/◌, ◌^◌, ◌<◌, ◌≤◌, min, Bool, true, false, cond, eqb, ltb, List, [], ◌∷◌, length, refl, ◌∙◌}
use Rattle.std.proofs.Common.{subst, arith, ltb-true, eqb-true}
use mathlib.Core.Option.{Option, none, some}
use Rattle.words.specs.Areas.{code_area, constants_area, breaks_area, errors_area, scope_names_area, entry_field, write_word}
use Rattle.words.specs.Object.{constant_of, is_shared, NULL}
use Rattle.words.specs.Opcode.{to_instruction, word, Pop, PushConstant, ReturnOp, Jump}
use Rattle.building.specs.declared.function_state.FunctionState.{FunctionState}
use Rattle.building.specs.State.{with_code_count, with_names, with_scope, with_loop, with_local_count}
use Rattle.building.specs.Taking.{taken_of, given_up}
use Rattle.building.specs.Found.{find_constant_c}
use Rattle.building.specs.Emission.{Coded, coded, Breaking, breaking, next_c, last_c, last_position_c}
use Rattle.building.specs.Emission.{last_opcode_c, emit_c, emit_last_c, emit_null_c, pop_c, remove_pop_c, emit_return_c}
use Rattle.building.specs.Emission.{replace_c, drop_c, mark_break_c, patch_c, emit_break_c, exit_break_c, unless_full}
use Rattle.building.specs.Scopes.{Naming, naming, exit_scope_c, end_function_c, insert_c, define_by, define_c, find_in_scope_c}
use Rattle.building.specs.Pool.{pooling, add_no_check_c, add_by, add_constant_c, push_error_c}
use Rattle.undo.specs.Stood.{Spares}
use Rattle.book_compiler.specs.Represents.{Behind}
use Rattle.book_compiler.proofs.Stood.{spares_refl, spares_then, spares_took, taken_back, taken_on, spares_entry, spares_word, spares_given}

-- the mark is not taken back, the base stays, constants are only added
pub record Onward (s s' : FunctionState) : Type 0 where
  pub full : s'.full ≡ 0 → s.full ≡ 0
  pub base : s'.base ≡ s.base
  pub constants : s.constants ≤ s'.constants

pub onward_refl : (s : FunctionState) → Onward s s
onward_refl s = record { full = λ z. z; base = refl; constants = omega arith }

pub onward_then : {s s₁ s₂ : FunctionState} → Onward s s₁ → Onward s₁ s₂ → Onward s s₂
onward_then a b = record {
  full = λ z. a.full (b.full z);
  base = b.base ∙ a.base;
  constants = omega (arith, a.constants, b.constants);
}

-- the state without the counts of code and constants anew
pub onward_unless : (s s' : FunctionState) → Onward s s' → Onward s (unless_full s s' s)
onward_unless s s' o = go (eqb s.full 0)
  where
    go : (t : Bool) → Onward s (cond t s' s)
    go true = o
    go false = onward_refl s

-- so what stood stays behind
pub behind_onward : {others : ℕ → List ℕ} {s s' : FunctionState} → Onward s s' → (s.full ≡ 0 → Behind others s) → s'.full ≡ 0 → Behind others s'
behind_onward o b z =
    let B = b (o.full z) in
    record { code = omega (arith, B.code, o.base); constants = omega (arith, B.constants, o.constants) }

-- the code
pub record SparesCode (x x' : Coded) : Type 0 where
  pub onward : Onward x.state x'.state
  pub words : Spares code_area x.state.full (x.state.base * 2) x.code x'.code
  pub ordered : x'.state.full ≡ 0 → x'.state.base ≤ x'.state.code

-- where the function's code starts is not past its end
abbrev pub Ordered : FunctionState → Type 0
Ordered s = s.full ≡ 0 → s.base ≤ s.code

code_refl : (x : Coded) → Ordered x.state → SparesCode x x
code_refl x h = record { onward = onward_refl x.state; words = spares_refl x.code; ordered = h }

code_then : {x x₁ x₂ : Coded} → SparesCode x x₁ → SparesCode x₁ x₂ → SparesCode x x₂
code_then {x} {x₁} {x₂} a b = record {
  onward = onward_then a.onward b.onward;
  words = spares_then a.onward.full a.words
      (subst (λ (n : ℕ). Spares code_area x₁.state.full (n * 2) x₁.code x₂.code) a.onward.base b.words);
  ordered = b.ordered;
}

pub emit_spares : (v p : ℕ) (x : Coded) → Ordered x.state → SparesCode x (emit_c v p x)
unfolding emit_c
emit_spares v p x h =
    let s = x.state in
    let n = length x.code in
    record {
      onward = record { full = taken_back code_area 2 s.full s.code n; base = refl; constants = omega arith };
      words = spares_took code_area s.full s.code (s.base * 2) (v ∷ p ∷ []) x.code (λ z. let l = h z in omega (arith, l));
      ordered = λ z. let l = h (taken_back code_area 2 s.full s.code n z) in omega (arith, l, taken_on code_area 2 s.full s.code n);
    }

pub emit_last_spares : (v : ℕ) (x : Coded) → Ordered x.state → SparesCode x (emit_last_c v x)
unfolding emit_c
emit_last_spares v x h = emit_spares v (last_position_c x) x h

-- only an instruction of the function is a Pop
inside_opcode : (b : Bool) (v : ℕ) → cond b v 0 / 2 ^ 56 ≡ 1 → b ≡ true
inside_opcode true v e = refl
inside_opcode false v e = absurd (omega (arith, e))

pub remove_spares : (x : Coded) → Ordered x.state → SparesCode x (remove_pop_c x)
unfolding remove_pop_c emit_c
remove_spares x h = go (eqb x.state.full 0) refl (eqb (last_opcode_c x) Pop) refl (eqb (last_opcode_c x) ReturnOp)
  where
    go : (t : Bool) → eqb x.state.full 0 ≡ t → (p : Bool) → eqb (last_opcode_c x) Pop ≡ p → (r : Bool)
        → SparesCode x (cond t (cond p (pop_c x) (cond r x (emit_null_c x))) x)
    go false e p q r = code_refl x h
    go true e true q r =
        let s = x.state in
        let z : s.full ≡ 0 = eqb-true s.full 0 e in
        let pop : last_c 0 x / 2 ^ 56 ≡ 1 = eqb-true (last_opcode_c x) Pop q in
        let inside : s.base < s.code = ltb-true s.base s.code (inside_opcode (ltb s.base s.code) (entry_field 2 (s.code - 1) 0 x.code) pop) in
        record {
          onward = record { full = λ y. y; base = refl; constants = omega arith };
          words = spares_entry code_area s.full (s.code - 1) (s.base * 2) (0 ∷ 0 ∷ []) x.code z (omega (arith, inside));
          ordered = λ y. omega (arith, inside);
        }
    go true e false q true = code_refl x h
    go true e false q false = emit_last_spares (word (to_instruction PushConstant NULL)) x h

pub return_spares : (p : ℕ) (x : Coded) → Ordered x.state → SparesCode x (emit_return_c p x)
unfolding emit_return_c remove_pop_c emit_c
return_spares p x h = go (eqb (last_opcode_c (remove_pop_c x)) ReturnOp)
  where
    R : SparesCode x (remove_pop_c x)
    R = remove_spares x h

    go : (t : Bool) → SparesCode x (cond t (remove_pop_c x) (emit_c (word (to_instruction ReturnOp 0)) p (remove_pop_c x)))
    go true = R
    go false = code_then R (emit_spares (word (to_instruction ReturnOp 0)) p (remove_pop_c x) R.ordered)

-- an instruction of the function
own_word : (s : FunctionState) (index v : ℕ) (c : List ℕ) → s.full ≡ 0 → Spares code_area s.full (s.base * 2) c (write_word 2 (s.base + index) 0 v c)
own_word s index v c z =
    spares_word code_area s.full (s.base * 2) 2 (s.base + index) 0 v c (λ k l e. let low : k < s.base * 2 = l z in omega (arith, low, e))

pub replace_spares : (index v : ℕ) (x : Coded) → Ordered x.state → SparesCode x (replace_c index v x)
unfolding replace_c
replace_spares index v x h = go (eqb x.state.full 0) refl (ltb index (next_c x.state))
  where
    go : (t : Bool) → eqb x.state.full 0 ≡ t → (i : Bool)
        → SparesCode x (cond t (cond i (coded x.state (write_word 2 (x.state.base + index) 0 v x.code)) x) x)
    go false e i = code_refl x h
    go true e false = code_refl x h
    go true e true = record {
      onward = onward_refl x.state;
      words = own_word x.state index v x.code (eqb-true x.state.full 0 e);
      ordered = h;
    }

pub drop_spares : (x : Coded) → Ordered x.state → SparesCode x (drop_c x)
unfolding drop_c
drop_spares x h = go (eqb x.state.full 0) refl
  where
    go : (t : Bool) → eqb x.state.full 0 ≡ t
        → SparesCode x (cond t (coded (with_code_count x.state.base x.state) (given_up 2 x.state.base x.state.code x.code)) x)
    go false e = code_refl x h
    go true e = record {
      onward = record { full = λ y. y; base = refl; constants = omega arith };
      words = spares_given code_area x.state.full (x.state.base * 2) 2 x.state.base x.state.code x.code (eqb-true x.state.full 0 e)
          (omega arith);
      ordered = λ y. omega arith;
    }

-- the code and the breaks: nothing stood in area 10
pub record SparesBreaking (x x' : Breaking) : Type 0 where
  pub onward : Onward x.state x'.state
  pub words : Spares code_area x.state.full (x.state.base * 2) x.code x'.code

abbrev jump_emitted : ℕ → Breaking → Coded
unfolding emit_c
jump_emitted p x = emit_c (word (to_instruction Jump 0)) p (coded x.state x.code)

pub break_spares : (p : ℕ) (x : Breaking) → Ordered x.state → SparesBreaking x (emit_break_c p x)
unfolding emit_break_c emit_c
break_spares p x h = go x.state.in_loop
  where
    E : SparesCode (coded x.state x.code) (jump_emitted p x)
    E = emit_spares (word (to_instruction Jump 0)) p (coded x.state x.code) h

    go : (t : Bool) → SparesBreaking x (cond t (mark_break_c (next_c x.state) (jump_emitted p x).state (jump_emitted p x).code x.breaks) x)
    go true = record {
      onward = onward_then E.onward (record {
        full = taken_back breaks_area 1 (jump_emitted p x).state.full x.state.breaks (length x.breaks);
        base = refl;
        constants = omega arith;
      });
      words = E.words;
    }
    go false = record { onward = onward_refl x.state; words = spares_refl x.code }

patch_spares : (k i v : ℕ) (s : FunctionState) (b c : List ℕ) → Ordered s → Spares code_area s.full (s.base * 2) c (patch_c k i v s b c)
unfolding patch_c
patch_spares zero i v s b c h = spares_refl c
patch_spares (suc k) i v s b c h =
    let d = (replace_c (entry_field 1 i 0 b) v (coded s c)).code in
    spares_then (λ z. z) (replace_spares (entry_field 1 i 0 b) v (coded s c) h).words (patch_spares k (i + 1) v s b d h)

pub exit_break_spares : (start : ℕ) (inside : Bool) (x : Breaking) → Ordered x.state → SparesBreaking x (exit_break_c start inside x)
unfolding exit_break_c
exit_break_spares start inside x h = go (eqb x.state.full 0)
  where
    go : (t : Bool) → SparesBreaking x (cond t (breaking (with_loop (min x.state.break_base x.state.breaks) start inside x.state)
        (patch_c (x.state.breaks - x.state.break_base) x.state.break_base (word (to_instruction Jump (next_c x.state))) x.state x.breaks
        x.code) (given_up 1 x.state.break_base x.state.breaks x.breaks)) x)
    go true =
        let s = x.state in
        record {
          onward = record { full = λ y. y; base = refl; constants = omega arith };
          words = patch_spares (s.breaks - s.break_base) s.break_base (word (to_instruction Jump (next_c s))) s x.breaks x.code h;
        }
    go false = record { onward = onward_refl x.state; words = spares_refl x.code }

-- the names: nothing stood in area 9
names_onward : (y x : Naming) → Onward x.state y.state → Onward x.state (unless_full x.state y x).state
names_onward y x o = go (eqb x.state.full 0)
  where
    go : (t : Bool) → Onward x.state (cond t y x).state
    go true = o
    go false = onward_refl x.state

pub exit_onward : (start : ℕ) (x : Naming) → Onward x.state (exit_scope_c start x).state
unfolding exit_scope_c
exit_onward start x = names_onward (naming (with_scope (min x.state.scope_base x.state.names) start x.state) _) x
    (record { full = λ y. y; base = refl; constants = omega arith })

pub end_onward : (x : Naming) → Onward x.state (end_function_c x).state
unfolding end_function_c
end_onward x = names_onward (naming (with_scope 0 0 x.state) _) x (record { full = λ y. y; base = refl; constants = omega arith })

counted_onward : (s s' : FunctionState) → Onward s s' → (n : ℕ) → Onward s (unless_full s' (with_local_count n s') s')
counted_onward s s' o n = go (eqb s'.full 0)
  where
    go : (t : Bool) → Onward s (cond t (with_local_count n s') s')
    go true = record { full = o.full; base = o.base; constants = o.constants }
    go false = o

insert_onward : (name : ℕ) (x : Naming) → Onward x.state (insert_c name x).state
insert_onward name x =
    let s = x.state in
    let t = taken_of scope_names_area 2 s.full s.names (length x.names) in
    counted_onward s (with_names t s)
    (record { full = taken_back scope_names_area 2 s.full s.names (length x.names); base = refl; constants = omega arith }) _

pub define_onward : (name : ℕ) (x : Naming) → Onward x.state (define_c name x).memory.state
unfolding define_c
define_onward name x = go (eqb x.state.full 0) (find_in_scope_c name x)
  where
    go : (t : Bool) (o : Option ℕ) → Onward x.state (cond t (define_by o name x) (record { found = none; memory = x })).memory.state
    go false o = onward_refl x.state
    go true (some i) = onward_refl x.state
    go true none = insert_onward name x

-- the constants
pub record SparesConstants (s s' : FunctionState) (k k' : List ℕ) : Type 0 where
  pub onward : Onward s s'
  pub words : Spares constants_area s.full (s.constants * 3) k k'

pub add_spares : (kind value : ℕ) (s : FunctionState) (k : List ℕ)
    → SparesConstants s (add_constant_c kind value s k).state k (add_constant_c kind value s k).constants
unfolding add_constant_c
add_spares kind value s k = go (eqb s.full 0) (is_shared kind) (find_constant_c s.constants (constant_of kind value) k)
  where
    same : SparesConstants s s k k
    same = record { onward = onward_refl s; words = spares_refl k }

    more : SparesConstants s (add_no_check_c kind value s k).state k (add_no_check_c kind value s k).constants
    more = record {
      onward = record {
        full = taken_back constants_area 3 s.full s.constants (length k);
        base = refl;
        constants = taken_on constants_area 3 s.full s.constants (length k);
      };
      words = spares_took constants_area s.full s.constants (s.constants * 3) (kind ∷ value ∷ 0 ∷ []) k (λ z. omega arith);
    }

    go : (t shared : Bool) (o : Option ℕ)
        → (let r = cond t (cond shared (add_by o kind value s k) (add_no_check_c kind value s k)) (pooling 0 s k) in
        SparesConstants s r.state k r.constants)
    go false shared o = same
    go true false o = more
    go true true none = more
    go true true (some i) = same

-- the errors: nothing stood in area 11
pub error_onward : (number position kind value : ℕ) (s : FunctionState) (e : List ℕ) → Onward s (push_error_c number position kind value s e).state
unfolding push_error_c
error_onward number position kind value s e =
    record { full = taken_back errors_area 4 s.full s.errors (length e); base = refl; constants = omega arith }
