-- What the routines of `function_state.rt` make of the state and the areas, by the ways through their code: one lemma for each way, from what the
-- callees ensure and the tests on the way. Assumes nothing.
use Rattle.std.proofs.Common.{◌≡◌, ℕ, suc, ◌+◌, ◌-◌, ◌/◌, ◌^◌, ◌<◌, ◌≤◌, min, Bool, true, false, cond, eqb, ltb, List, [], ◌∷◌, sym, refl, ap, ◌∙◌, arith}
use Rattle.std.proofs.Common.{ltb-true, le-ltb, lt-ltb, eq-eqb, ne_eqb}
use Rattle.words.specs.Areas.{breaks_area, entry_field, write_word}
use Rattle.words.specs.Opcode.{to_instruction, word, Pop, ReturnOp, Jump}
use Rattle.building.specs.declared.taking.Taken.{Taken}
use Rattle.building.specs.declared.function_state.FunctionState.{FunctionState}
use Rattle.building.specs.State.{with_code_count, with_breaks, with_loop}
use Rattle.building.specs.Taking.{Took, given_up}
use Rattle.building.specs.Emission.{Coded, coded, next_c, last_opcode_c, emit_c, emit_null_c, pop_c, remove_pop_c, replace_c}
use Rattle.building.specs.Emission.{drop_c}
use Rattle.building.specs.Emission.{breaking, mark_break_c, emit_break_c, patch_c, exit_break_c}

module _ (m : Coded) where
  -- where there is an opcode that is looked for, there is an instruction
  pub has_last : last_opcode_c m ≡ Pop → 0 < m.state.code
  has_last e = go (ltb m.state.base m.state.code) refl e
    where
      go : (t : Bool) → ltb m.state.base m.state.code ≡ t → cond t (entry_field 2 (m.state.code - 1) 0 m.code) 0 / 2 ^ 56 ≡ 1 → 0 < m.state.code
      go true l q = omega (arith, ltb-true m.state.base m.state.code l)
      go false l q = absurd (omega arith)

  -- `remove_pop_or_push_null`
  pub remove_full : (m.state.full ≡ 0 → ⊥) → m ≡ remove_pop_c m
  unfolding remove_pop_c
  remove_full h = rw (ne_eqb m.state.full 0 h)

  pub remove_pop : {r : Coded} → m.state.full ≡ 0 → last_opcode_c m ≡ Pop → r ≡ pop_c m → r ≡ remove_pop_c m
  unfolding remove_pop_c
  remove_pop z e q = rw (eq-eqb m.state.full 0 z, eq-eqb (last_opcode_c m) Pop e) q

  pub remove_return : m.state.full ≡ 0 → (last_opcode_c m ≡ Pop → ⊥) → last_opcode_c m ≡ ReturnOp → m ≡ remove_pop_c m
  unfolding remove_pop_c
  remove_return z n e = rw (eq-eqb m.state.full 0 z, ne_eqb (last_opcode_c m) Pop n, eq-eqb (last_opcode_c m) ReturnOp e)

  pub remove_null : {r : Coded} → m.state.full ≡ 0 → (last_opcode_c m ≡ Pop → ⊥) → (last_opcode_c m ≡ ReturnOp → ⊥) → r ≡ emit_null_c m → r ≡ remove_pop_c m
  unfolding remove_pop_c
  remove_null z n e q =
      q
      ∙ sym (ap (λ (t : Bool). cond t m (emit_null_c m)) (ne_eqb (last_opcode_c m) ReturnOp e))
      ∙ sym (ap (λ (t : Bool). cond t (pop_c m) (cond (eqb (last_opcode_c m) ReturnOp) m (emit_null_c m))) (ne_eqb (last_opcode_c m) Pop n))
      ∙ sym (ap (λ (t : Bool). cond t (cond (eqb (last_opcode_c m) Pop) (pop_c m) (cond (eqb (last_opcode_c m) ReturnOp) m (emit_null_c m))) m)
      (eq-eqb m.state.full 0 z))

-- `replace_instruction`

module _ (index w : ℕ) (s : FunctionState) (c : List ℕ) where
  pub replace_full : (s.full ≡ 0 → ⊥) → coded s c ≡ replace_c index w (coded s c)
  unfolding replace_c
  replace_full h = rw (ne_eqb s.full 0 h)

  pub replace_in : {c' : List ℕ} → s.full ≡ 0 → index < next_c s → c' ≡ write_word 2 (s.base + index) 0 w c → coded s c' ≡ replace_c index w (coded s c)
  unfolding replace_c
  replace_in z h e = rw (eq-eqb s.full 0 z, lt-ltb index (next_c s) h, e)

  pub replace_out : s.full ≡ 0 → next_c s ≤ index → coded s c ≡ replace_c index w (coded s c)
  unfolding replace_c
  replace_out z h = rw (eq-eqb s.full 0 z, le-ltb index (next_c s) h)

-- `drop_function`
pub drop_more : (s : FunctionState) (c : List ℕ) {c' : List ℕ} → s.full ≡ 0 → c' ≡ given_up 2 s.base s.code c
    → coded (with_code_count s.base s) c' ≡ drop_c (coded s c)
unfolding drop_c
drop_more s c z e = rw (eq-eqb s.full 0 z, e)

-- `emit_break`
pub break_out : (p : ℕ) (s : FunctionState) (c b : List ℕ) → s.in_loop ≡ false → breaking s c b ≡ emit_break_c p (breaking s c b)
unfolding emit_break_c
break_out p s c b e = rw e

pub break_in_lem : (p : ℕ) (s g : FunctionState) (c c' b b' : List ℕ) (t : Taken) → s.in_loop ≡ true
    → coded g c' ≡ emit_c (word (to_instruction Jump 0)) p (coded s c) → Took breaks_area g.full g.breaks (next_c s ∷ []) b t b'
    → breaking (with_breaks t g) c' b' ≡ emit_break_c p (breaking s c b)
unfolding emit_break_c
break_in_lem p s g c c' b b' t e q T =
    written
    ∙ ap (λ (x : Coded). mark_break_c (next_c s) x.state x.code b) q
    ∙ sym (ap (λ (u : Bool). cond u (let x = jumped in mark_break_c (next_c s) x.state x.code b) (breaking s c b)) e)
  where
    jumped : Coded
    jumped = emit_c (word (to_instruction Jump 0)) p (coded s c)

    written : breaking (with_breaks t g) c' b' ≡ mark_break_c (next_c s) g c' b
    written = rw (T.reply, T.words)

-- the loop over breaks: what is left to patch from i is what was to patch at first
pub patch_turn : (w i end : ℕ) (s : FunctionState) (b c c' : List ℕ) → i < end → coded s c' ≡ replace_c (entry_field 1 i 0 b) w (coded s c)
    → patch_c (end - i) i w s b c ≡ patch_c (end - (i + 1)) (i + 1) w s b c'
unfolding patch_c
patch_turn w i end s b c c' h e =
    let n : end - i ≡ suc (end - (i + 1)) = omega arith in
    rw n (ap (λ (m : Coded). patch_c (end - (i + 1)) (i + 1) w s b m.code) (sym e))

pub patch_end : (w i end : ℕ) (s : FunctionState) (b c : List ℕ) → end ≤ i → patch_c (end - i) i w s b c ≡ c
unfolding patch_c
patch_end w i end s b c h = let n : end - i ≡ 0 = omega arith in rw n

-- `exit_break_scope`
pub exit_full : (start : ℕ) (inside : Bool) (s : FunctionState) (c b : List ℕ) → (s.full ≡ 0 → ⊥) → breaking s c b ≡ exit_break_c start inside (breaking s c b)
unfolding exit_break_c
exit_full start inside s c b h = rw (ne_eqb s.full 0 h)

pub exit_more : (start : ℕ) (inside : Bool) (s : FunctionState) (c b : List ℕ) {c' b' : List ℕ} {n : ℕ} → s.full ≡ 0
    → c' ≡ patch_c (s.breaks - s.break_base) s.break_base (word (to_instruction Jump (next_c s))) s b c
    → b' ≡ given_up 1 s.break_base s.breaks b → n ≡ min s.break_base s.breaks
    → breaking (with_loop n start inside s) c' b' ≡ exit_break_c start inside (breaking s c b)
unfolding exit_break_c
exit_more start inside s c b z e q r = rw (eq-eqb s.full 0 z, e, q, r)
