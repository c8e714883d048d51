-- Instructions replaced, breaks, and code given back: what `replace_instruction`, `emit_break`, `exit_break_scope` and `drop_function` do to memory is
-- what the definition's steps of the same names do. The breaks of the innermost loop are patched one by one, by induction over them. Assumes nothing.
use Rattle.std.proofs.Common.{◌≡◌, ℕ, zero, suc, ◌+◌, ◌-◌, ◌*◌, ◌<◌, ◌≤◌, min, Bool, true, false, cond, eqb, ltb, List, [], ◌∷◌, ◌++◌, length, get_or, set, sym}
use Rattle.std.proofs.Common.{refl, ap, ◌∙◌, subst, append_assoc, arith, length-append, length-set, get_or-append-add, ltb-false, ltb-true, lt-ltb, ne_eqb}
use Rattle.std.proofs.Common.{eqb-true}
use native.Mathlib.Decide.{dec_lt}
use lib.Seq.{set_out, length-sets}
use borrow.Author.Tests.{eqb-false}
use Rattle.words.specs.Areas.{entries_in, set_entry, entry_field, word_fits, write_word, breaks_area}
use Rattle.words.specs.Opcode.{Instruction, to_instruction, word, Jump}
use Rattle.definition.specs.FunctionState.{FunctionState, Event, Broke, tail, innermost, patch_all}
use Rattle.definition.specs.FunctionState as method
use Rattle.definition.specs.Uses.{Limits, total}
use Rattle.definition.specs.Compiler.{Work, with_function, doing, next}
use Rattle.definition.specs.Compiler as step
use Rattle.definition.specs.Program.{Entries, code_entries}
use Rattle.definition_laws.proofs.Lists.{length_patch}
use Rattle.building.specs.declared.function_state.FunctionState as struct
use Rattle.building.specs.State.{with_breaks, with_loop}
use Rattle.building.specs.Taking.{taken, given_up}
use Rattle.building.specs.Emission.{Coded, coded, next_c, emit_c, replace_c, drop_c, Breaking, breaking, mark_break_c, emit_break_c, patch_c, exit_break_c}
use Rattle.building.specs.RepresentsMachine.{Machine, machine, Filled, break_entry, break_entries, is_open, Contents, RepresentsMachine}
use Rattle.building.proofs.Filling.{filled_more, filled_field, filled_set, filled_less, room_fits, set_entry_length, set_append_add, all_front}
use Rattle.building.proofs.Filling.{over_fits, over_here, held_full, held_step, breaks_length, break_length, capped, Within, noted_within}
use Rattle.building.proofs.Emitting.{replace_full, replace_in, replace_out, drop_more, exit_full, exit_more}
use Rattle.building.proofs.Notes.{contents_again}
use Rattle.building.proofs.EmissionLaws.{code_count_lem, next_is, coded_rest, held_touch, held_merge, held_over, emit_full, emit_over}
use Rattle.building.proofs.EmissionLaws.{emit_law}

-- an instruction replaced

code_set : (is : List Instruction) (ps : List ℕ) (j : ℕ) (x : Instruction) → length ps ≡ length is → j < length is
    → set (code_entries is ps) j (set (get_or (code_entries is ps) j []) 0 (word x)) ≡ code_entries (set is j x) ps
code_set [] ps j x h q = absurd (omega arith)
code_set (i ∷ is) [] j x h q = absurd (omega arith)
code_set (i ∷ is) (p ∷ ps) zero x h q = refl
code_set (i ∷ is) (p ∷ ps) (suc j) x h q = ap (λ (es : Entries). (word i ∷ p ∷ []) ∷ es) (code_set is ps j x (omega arith) (omega arith))

pub replace_length : (index v : ℕ) (s : struct.FunctionState) (c : List ℕ) → length (replace_c index v (coded s c)).code ≡ length c
unfolding replace_c
replace_length index v s c = go (eqb s.full 0) (ltb index (next_c s)) (word_fits 2 (s.base + index) 0 (length c))
  where
    go : (t u x : Bool) → length (cond t (cond u (coded s (cond x (set c ((s.base + index) * 2 + 0) v) c)) (coded s c)) (coded s c)).code ≡ length c
    go true true true = length-set c ((s.base + index) * 2 + 0) v
    go true true false = refl
    go true false x = refl
    go false u x = refl

module _ (earlier : Entries) (s : struct.FunctionState) (z : s.full ≡ 0) (base : s.base ≡ length earlier) (ps : List ℕ) where
  replace_filled : (c : List ℕ) (is : List Instruction) (j : ℕ) (x : Instruction) → length ps ≡ length is → s.code ≡ length earlier + length is
      → Filled 2 c (earlier ++ code_entries is ps) s.code
      → Filled 2 (replace_c j (word x) (coded s c)).code (earlier ++ code_entries (set is j x) ps) s.code
  replace_filled c is j x h count F = go (dec_lt j (length is))
    where
      go : Dec (j < length is) → Filled 2 (replace_c j (word x) (coded s c)).code (earlier ++ code_entries (set is j x) ps) s.code
      go (no q) =
          rw (set_out is j x (omega arith))
          (subst (λ (m : Coded). Filled 2 m.code (earlier ++ code_entries is ps) s.code) (replace_out j (word x) s c z (omega arith)) F)
      go (yes q) =
          let i = length earlier + j in
          let fits : i * 2 + 2 ≤ length c = room_fits 2 i (length c) (omega (arith, F.room)) in
          let there : ltb (i * 2 + 0) (length c) ≡ true = lt-ltb (i * 2 + 0) (length c) (omega arith) in
          let es = code_entries is ps in
          let same : set (earlier ++ es) i (set (get_or (earlier ++ es) i []) 0 (word x)) ≡ earlier ++ code_entries (set is j x) ps =
          ap (λ (y : List ℕ). set (earlier ++ es) i (set y 0 (word x))) (get_or-append-add earlier es j [])
          ∙ set_append_add earlier es j (set (get_or es j []) 0 (word x))
          ∙ ap (λ (y : Entries). earlier ++ y) (code_set is ps j x h q) in
          let G : Filled 2 (write_word 2 i 0 (word x) c) (earlier ++ code_entries (set is j x) ps) s.code =
          rw (there, ← same) (filled_set i 0 (word x) (omega arith) (omega arith) F) in
          subst (λ (m : Coded). Filled 2 m.code (earlier ++ code_entries (set is j x) ps) s.code)
          (replace_in j (word x) s c z (omega arith) refl) (rw base G)

-- `replace_instruction`; the index and the word matter only where nothing is full
module _ {κ : Limits} {earlier : Entries} {s : struct.FunctionState} {c k n b e : List ℕ} {w : Work} (index v j : ℕ) (i : Instruction)
    (hj : s.full ≡ 0 → index ≡ j) (hv : s.full ≡ 0 → v ≡ word i) (H : RepresentsMachine κ earlier (machine s c k n b e) w) where
  pub replace_law : RepresentsMachine κ earlier (machine s (replace_c index v (coded s c)).code k n b e) (step.replace_instruction j i w)
  replace_law = go (eqb s.full 0) refl
    where
      go : (t : Bool) → eqb s.full 0 ≡ t
          → RepresentsMachine κ earlier (machine s (replace_c index v (coded s c)).code k n b e) (step.replace_instruction j i w)
      go false d =
          let ne = eqb-false s.full 0 d in
          rw (← replace_full index v s c ne) (held_full (step.replace_instruction j i w) (_ ∷ _ ∷ _ ∷ []) refl ne H)
      go true d =
          let z = eqb-true s.full 0 d in
          let C = H.rest z in
          let is = w.function.code.instructions in
          let ps = w.function.code.positions in
          rw (hj z, hv z)
          (held_step (method.replace_instruction j i w.function) H z z
          (record {
            code = rw (replace_length j (word i) s c) H.code_cap;
            constants = H.constants_cap;
            names = H.names_cap;
            breaks = H.breaks_cap;
            errors = H.errors_cap;
          })
          (coded_rest C s.code (replace_c j (word i) (coded s c)).code (set is j i) ps (rw (length-set is j i) C.sized)
          (replace_filled earlier s z C.base ps c is j i C.sized (code_count_lem C) C.code)))

-- `drop_function`: the areas hold the earlier functions' code alone
pub drop_law : {κ : Limits} {earlier : Entries} {s : struct.FunctionState} {c k n b e : List ℕ} {w : Work} → RepresentsMachine κ earlier (machine s c k n b e) w
    → s.full ≡ 0 → Filled 2 (drop_c (coded s c)).code earlier (drop_c (coded s c)).state.code
drop_law {κ} {earlier} {s} {c} {w = w} H z =
    let C = H.rest z in
    let es = code_entries w.function.code.instructions w.function.code.positions in
    subst (λ (m : Coded). Filled 2 m.code earlier m.state.code) (drop_more s c z refl)
    (rw C.base (filled_less earlier es (omega arith) (all_front earlier es C.code.wide) C.code))

-- `emit_break`

abbrev pub breaking_machine : Breaking → List ℕ → List ℕ → List ℕ → Machine
breaking_machine m k n e = machine m.state m.code k n m.breaks e

-- what a routine leaves, by what it ensures
pub held_breaking : {κ : Limits} {earlier : Entries} {k n e : List ℕ} {w : Work} (r : struct.FunctionState) (c' b' : List ℕ) {m : Breaking}
    → breaking r c' b' ≡ m → RepresentsMachine κ earlier (breaking_machine m k n e) w → RepresentsMachine κ earlier (machine r c' k n b' e) w
held_breaking {κ} {earlier} {k} {n} {e} {w} r c' b' q H = subst (λ (x : Breaking). RepresentsMachine κ earlier (breaking_machine x k n e) w) (sym q) H

break_snoc : (is : List ℕ) (i : ℕ) → break_entry (is ++ (i ∷ [])) ≡ break_entry is ++ ((i ∷ []) ∷ [])
break_snoc [] i = refl
break_snoc (x ∷ is) i = ap (λ (es : Entries). (x ∷ []) ∷ es) (break_snoc is i)

module _ {earlier : Entries} {s : struct.FunctionState} {c k n b e : List ℕ} {w : Work} (C : Contents earlier (machine s c k n b e) w) where
  breaks_rest : (count start : ℕ) (inside : Bool) (b' : List ℕ) (t : List Event) (bs : List (List ℕ)) → Filled 1 b' (break_entries bs) count
      → start ≡ total (tail bs) → inside ≡ is_open bs
      → Contents earlier (machine (with_loop count start inside s) c k n b' e)
      (with_function (method.with_trace t (method.with_break_scopes bs w.function)) w)
  breaks_rest count start inside b' t bs F l o = record {
    before = C.before;
    sized = C.sized;
    code = C.code;
    base = C.base;
    constants = C.constants;
    marks = C.marks;
    names = C.names;
    scope = C.scope;
    breaks = F;
    loop = l;
    in_loop = o;
    errors = C.errors;
    depth = C.depth;
    rescue = C.rescue;
    is_instance = C.is_instance;
    parameters = C.parameters;
    locals = C.locals;
  }

-- its entry of area 10, after the Jump, where nothing is full
module _ {κ : Limits} {earlier : Entries} {m : Machine} {s : struct.FunctionState} {c k n b e : List ℕ} {w : Work} (H : RepresentsMachine κ earlier m w)
    (z : m.state.full ≡ 0) (f : FunctionState) (H₁ : RepresentsMachine κ earlier (machine s c k n b e) (with_function f w)) (z₁ : s.full ≡ 0)
    (i : ℕ) (t : List Event) (o : List ℕ) (os : List (List ℕ)) (q : f.break_scopes ≡ o ∷ os) where
  mark_count : s.breaks ≡ length o + total os
  mark_count = (H₁.rest z₁).breaks.count ∙ breaks_length f.break_scopes ∙ ap (λ (bs : List (List ℕ)). total bs) q

  mark_go : (v : Bool) → ltb s.breaks (entries_in 1 (length b)) ≡ v
      → RepresentsMachine κ earlier (machine (with_breaks (cond v (taken s.full (s.breaks + 1)) (taken breaks_area s.breaks)) s) c k n
      (cond v (set_entry 1 s.breaks (i ∷ []) b) b) e) (with_function (method.with_trace t (method.with_break_scopes ((o ++ (i ∷ [])) ∷ os) f)) w)
  mark_go true l =
      let C = H₁.rest z₁ in
      let r = ltb-true s.breaks (entries_in 1 (length b)) l in
      let same : length (set_entry 1 s.breaks (i ∷ []) b) ≡ length b = set_entry_length 1 s.breaks (i ∷ []) b refl (room_fits 1 s.breaks (length b) r) in
      let F : Filled 1 b (break_entries (o ∷ os)) s.breaks = rw q at C.breaks in
      let G : Filled 1 (set_entry 1 s.breaks (i ∷ []) b) (break_entries ((o ++ (i ∷ [])) ∷ os)) (s.breaks + 1) =
      rw (break_snoc o i, ← append_assoc (break_entries os) (break_entry o) ((i ∷ []) ∷ [])) (filled_more (i ∷ []) refl r F) in
      held_merge f (method.with_trace t (method.with_break_scopes ((o ++ (i ∷ [])) ∷ os) f)) H z H₁ z₁
      (held_step (method.with_trace t (method.with_break_scopes ((o ++ (i ∷ [])) ∷ os) f)) H₁ z₁ z₁
      (record { code = H₁.code_cap; constants = H₁.constants_cap; names = H₁.names_cap; breaks = rw same H₁.breaks_cap; errors = H₁.errors_cap })
      (breaks_rest C (s.breaks + 1) s.break_base s.in_loop (set_entry 1 s.breaks (i ∷ []) b) t ((o ++ (i ∷ [])) ∷ os) G
      (C.loop ∙ ap (λ (bs : List (List ℕ)). total (tail bs)) q) (C.in_loop ∙ ap (λ (bs : List (List ℕ)). is_open bs) q)))
  mark_go false l = record {
    code_cap = H₁.code_cap;
    constants_cap = H₁.constants_cap;
    names_cap = H₁.names_cap;
    breaks_cap = H₁.breaks_cap;
    errors_cap = H₁.errors_cap;
    full = over_here κ _ _ (over_fits κ _ _ (over_fits κ _ _ H.full z W.code) z W.names) z
        (omega (arith, H₁.breaks_cap, ltb-false s.breaks (entries_in 1 (length b)) l, mark_count, length-append o (i ∷ []))) (omega arith);
    rest = λ y. absurd (omega arith);
  }
    where
      W : Within κ (with_function f w)
      W = noted_within (capped H₁) (H₁.rest z₁)

break_is_none : (p : ℕ) (f : FunctionState) → f.break_scopes ≡ [] → method.emit_break p f ≡ f
unfolding method.emit_break
break_is_none p f q = rw q

break_is_more : (p : ℕ) (f : FunctionState) (o : List ℕ) (os : List (List ℕ)) → f.break_scopes ≡ o ∷ os
    → method.emit_break p f ≡ method.with_trace (Broke (length f.code.instructions) ∷ f.log.trace)
    (method.with_break_scopes ((o ++ (length f.code.instructions ∷ [])) ∷ os) (method.emit_opcode Jump p f))
unfolding method.emit_break
break_is_more p f o os q = rw q

mark_full : (index : ℕ) (s : struct.FunctionState) (c b : List ℕ) → (s.full ≡ 0 → ⊥) → mark_break_c index s c b ≡ breaking s c b
mark_full index s c b h = rw (ne_eqb s.full 0 h)

-- what is held, under equal names
broke_as : {κ : Limits} {earlier : Entries} {k n e : List ℕ} (w : Work) {m m' : Breaking} {f f' : FunctionState} → m ≡ m' → f ≡ f'
    → RepresentsMachine κ earlier (breaking_machine m k n e) (with_function f w) → RepresentsMachine κ earlier (breaking_machine m' k n e) (with_function f' w)
broke_as w p q H = rw (← p, ← q) H

abbrev jumped_c : ℕ → Coded → Coded
jumped_c p m = emit_c (word (to_instruction Jump 0)) p m

break_out_is : (p : ℕ) (s : struct.FunctionState) (c b : List ℕ) → s.in_loop ≡ false → breaking s c b ≡ emit_break_c p (breaking s c b)
unfolding emit_break_c
break_out_is p s c b q = rw q

break_in_is : (p : ℕ) (s : struct.FunctionState) (c b : List ℕ) → s.in_loop ≡ true
    → mark_break_c (next_c s) (jumped_c p (coded s c)).state (jumped_c p (coded s c)).code b ≡ emit_break_c p (breaking s c b)
unfolding emit_break_c
break_in_is p s c b q =
    sym (ap (λ (u : Bool). cond u (mark_break_c (next_c s) (jumped_c p (coded s c)).state (jumped_c p (coded s c)).code b) (breaking s c b)) q)

break_full : (p : ℕ) (s : struct.FunctionState) (c b : List ℕ) → (s.full ≡ 0 → ⊥) → breaking s c b ≡ emit_break_c p (breaking s c b)
break_full p s c b h = go s.in_loop refl
  where
    go : (t : Bool) → s.in_loop ≡ t → breaking s c b ≡ emit_break_c p (breaking s c b)
    go false q = break_out_is p s c b q
    go true q =
        sym (mark_full (next_c s) s c b h)
        ∙ ap (λ (m : Coded). mark_break_c (next_c s) m.state m.code b) (sym (emit_full (word (to_instruction Jump 0)) p (coded s c) h))
        ∙ break_in_is p s c b q

module _ {κ : Limits} {earlier : Entries} {s : struct.FunctionState} {c k n b e : List ℕ} {w : Work} (p : ℕ)
    (H : RepresentsMachine κ earlier (machine s c k n b e) w)
    (z : s.full ≡ 0) where
  abbrev jumped : Coded
  jumped = jumped_c p (coded s c)

  -- in a loop
  break_more : (o : List ℕ) (os : List (List ℕ)) → w.function.break_scopes ≡ o ∷ os → (t : Bool) → eqb jumped.state.full 0 ≡ t
      → RepresentsMachine κ earlier (breaking_machine (mark_break_c (next_c s) jumped.state jumped.code b) k n e) (doing (method.emit_break p) w)
  break_more o os q false d =
      let ne = eqb-false jumped.state.full 0 d in
      let O = emit_over H (word (to_instruction Jump 0)) p (to_instruction Jump 0) z ne in
      broke_as w (sym (mark_full (next_c s) jumped.state jumped.code b ne)) (sym (break_is_more p w.function o os q))
      (held_over (machine jumped.state jumped.code k n b e) _ H z
      (capped (emit_law (word (to_instruction Jump 0)) p (to_instruction Jump 0) p (λ _. refl) (λ _. refl) H)) O.mark O.more)
  break_more o os q true d =
      let z₁ = eqb-true jumped.state.full 0 d in
      rw (break_is_more p w.function o os q, d, next_is (H.rest z))
      (mark_go H z (method.emit_opcode Jump p w.function)
      (emit_law (word (to_instruction Jump 0)) p (to_instruction Jump 0) p (λ _. refl) (λ _. refl) H) z₁
      (length w.function.code.instructions) (Broke (length w.function.code.instructions) ∷ w.function.log.trace) o os q
      (ltb jumped.state.breaks (entries_in 1 (length b))) refl)

  break_go : (bs : List (List ℕ)) → w.function.break_scopes ≡ bs
      → RepresentsMachine κ earlier (breaking_machine (emit_break_c p (breaking s c b)) k n e) (doing (method.emit_break p) w)
  break_go [] q =
      let out : s.in_loop ≡ false = (H.rest z).in_loop ∙ ap (λ (bs : List (List ℕ)). is_open bs) q in
      broke_as w (break_out_is p s c b out) (sym (break_is_none p w.function q)) (held_touch H z)
  break_go (o ∷ os) q =
      let in' : s.in_loop ≡ true = (H.rest z).in_loop ∙ ap (λ (bs : List (List ℕ)). is_open bs) q in
      broke_as w (break_in_is p s c b in') refl (break_more o os q (eqb jumped.state.full 0) refl)

pub break_law : {κ : Limits} {earlier : Entries} {s : struct.FunctionState} {c k n b e : List ℕ} {w : Work} (p : ℕ)
    → RepresentsMachine κ earlier (machine s c k n b e) w
    → RepresentsMachine κ earlier (breaking_machine (emit_break_c p (breaking s c b)) k n e) (doing (method.emit_break p) w)
break_law {κ} {earlier} {s} {c} {k} {n} {b} {e} {w} p H = go (eqb s.full 0) refl
  where
    go : (t : Bool) → eqb s.full 0 ≡ t → RepresentsMachine κ earlier (breaking_machine (emit_break_c p (breaking s c b)) k n e) (doing (method.emit_break p) w)
    go true d = break_go p H (eqb-true s.full 0 d) w.function.break_scopes refl
    go false d =
        let ne = eqb-false s.full 0 d in
        broke_as w (break_full p s c b ne) refl (held_full (doing (method.emit_break p) w) (_ ∷ _ ∷ _ ∷ []) refl ne H)

-- `exit_break_scope`

break_at : (is : List ℕ) (j : ℕ) → j < length is → get_or (break_entry is) j [] ≡ get_or is j 0 ∷ []
break_at [] j h = absurd (omega arith)
break_at (i ∷ is) zero h = refl
break_at (i ∷ is) (suc j) h = break_at is j (omega arith)

breaks_split : (bs : List (List ℕ)) → break_entries bs ≡ break_entries (tail bs) ++ break_entry (innermost bs)
breaks_split [] = refl
breaks_split (o ∷ os) = refl

total_split : (bs : List (List ℕ)) → total bs ≡ length (innermost bs) + total (tail bs)
total_split [] = refl
total_split (o ∷ os) = refl

pub patch_length : (x i v : ℕ) (s : struct.FunctionState) (b c : List ℕ) → length (patch_c x i v s b c) ≡ length c
unfolding patch_c
patch_length zero i v s b c = refl
patch_length (suc x) i v s b c =
    patch_length x (i + 1) v s b (replace_c (entry_field 1 i 0 b) v (coded s c)).code ∙ replace_length (entry_field 1 i 0 b) v s c

module _ (earlier : Entries) (s : struct.FunctionState) (z : s.full ≡ 0) (base : s.base ≡ length earlier) (ps : List ℕ) (t : ℕ) (b : List ℕ) where
  patch_filled : (xs : List ℕ) (i : ℕ) → ((j : ℕ) → j < length xs → entry_field 1 (i + j) 0 b ≡ get_or xs j 0)
      → (c : List ℕ) (is : List Instruction) → length ps ≡ length is → s.code ≡ length earlier + length is
      → Filled 2 c (earlier ++ code_entries is ps) s.code
      → Filled 2 (patch_c (length xs) i (word (to_instruction Jump t)) s b c) (earlier ++ code_entries (patch_all xs t is) ps) s.code
  unfolding patch_c
  patch_filled [] i each c is h count F = F
  patch_filled (x ∷ xs) i each c is h count F =
      let here : entry_field 1 i 0 b ≡ x = ap (λ (j : ℕ). entry_field 1 j 0 b) (omega arith) ∙ each 0 (omega arith) in
      let J = to_instruction Jump t in
      ap' here
      (patch_filled xs (i + 1) (λ j q. ap (λ (y : ℕ). entry_field 1 y 0 b) (omega arith) ∙ each (suc j) (omega arith))
      (replace_c x (word J) (coded s c)).code (set is x J) (rw (length-set is x J) h) (rw (length-set is x J) count)
      (replace_filled earlier s z base ps c is x J h count F))
    where
      ap' : entry_field 1 i 0 b ≡ x
          → Filled 2 (patch_c (length xs) (i + 1) (word (to_instruction Jump t)) s b (replace_c x (word (to_instruction Jump t)) (coded s c)).code)
          (earlier ++ code_entries (patch_all xs t (set is x (to_instruction Jump t))) ps) s.code
          → Filled 2 (patch_c (length xs) (i + 1) (word (to_instruction Jump t)) s b
          (replace_c (entry_field 1 i 0 b) (word (to_instruction Jump t)) (coded s c)).code)
          (earlier ++ code_entries (patch_all xs t (set is x (to_instruction Jump t))) ps) s.code
      ap' e G = subst (λ (y : ℕ). Filled 2 (patch_c (length xs) (i + 1) (word (to_instruction Jump t)) s b
          (replace_c y (word (to_instruction Jump t)) (coded s c)).code)
          (earlier ++ code_entries (patch_all xs t (set is x (to_instruction Jump t))) ps) s.code) (sym e) G

-- the breaks of the innermost loop, as area 10 has them
break_each : (es : Entries) (xs b : List ℕ) (count start : ℕ) → Filled 1 b (es ++ break_entry xs) count → start ≡ length es
    → (j : ℕ) → j < length xs → entry_field 1 (start + j) 0 b ≡ get_or xs j 0
break_each es xs b count start F l j q =
    filled_field (start + j) 0 (omega arith) (omega (arith, F.count, length-append es (break_entry xs), break_length xs)) (omega arith) F
    ∙ ap (λ (x : List ℕ). get_or x 0 0)
    (ap (λ (y : ℕ). get_or (es ++ break_entry xs) (y + j) []) l ∙ get_or-append-add es (break_entry xs) j [] ∙ break_at xs j q)

-- `start` and `inside` are those of the loop around
module _ {κ : Limits} {earlier : Entries} {s : struct.FunctionState} {c k n b e : List ℕ} {w : Work} (exit start : ℕ) (inside : Bool)
    (H : RepresentsMachine κ earlier (machine s c k n b e) w) where
  exit_go : s.full ≡ 0 → start ≡ total (tail (tail w.function.break_scopes)) → inside ≡ is_open (tail w.function.break_scopes)
      → RepresentsMachine κ earlier (breaking_machine (exit_break_c start inside (breaking s c b)) k n e) (doing (method.exit_break_scope exit) w)
  unfolding method.exit_break_scope
  exit_go z hs hi =
      let C = H.rest z in
      let is = w.function.code.instructions in
      let ps = w.function.code.positions in
      let bs = w.function.break_scopes in
      let xs = innermost bs in
      let t = length is in
      let count : s.breaks ≡ length xs + total (tail bs) = C.breaks.count ∙ breaks_length bs ∙ total_split bs in
      let run : s.breaks - s.break_base ≡ length xs = omega (arith, C.loop) in
      let least : s.break_base ≡ min s.break_base s.breaks = omega (arith, C.loop) in
      let F : Filled 1 b (break_entries (tail bs) ++ break_entry xs) s.breaks = rw (breaks_split bs) at C.breaks in
      let start' : s.break_base ≡ length (break_entries (tail bs)) = C.loop ∙ sym (breaks_length (tail bs)) in
      let c' = patch_c (length xs) s.break_base (word (to_instruction Jump t)) s b c in
      let G : Filled 2 c' (earlier ++ code_entries (patch_all xs t is) ps) s.code =
      patch_filled earlier s z C.base ps t b xs s.break_base (break_each (break_entries (tail bs)) xs b s.breaks s.break_base F start')
      c is C.sized (code_count_lem C) C.code in
      let b' = given_up 1 s.break_base s.breaks b in
      let B : Filled 1 b' (break_entries (tail bs)) s.break_base =
      rw start' (filled_less (break_entries (tail bs)) (break_entry xs) (omega arith) (all_front (break_entries (tail bs)) (break_entry xs) F.wide) F) in
      let D = coded_rest C s.code c' (patch_all xs t is) ps (C.sized ∙ sym (length_patch xs t is)) G in
      broke_as w (exit_more start inside s c b z (rw (run, next_is C) refl) refl least) refl
      (held_step _ H z z
      (record {
        code = rw (patch_length (length xs) s.break_base (word (to_instruction Jump t)) s b c) H.code_cap;
        constants = H.constants_cap;
        names = H.names_cap;
        breaks = rw (length-sets b (s.break_base * 1) _) H.breaks_cap;
        errors = H.errors_cap;
      })
      (contents_again _ (breaks_rest D s.break_base start inside b' _ (tail bs) B hs hi)))

  -- they matter only where nothing is full
  pub exit_break_law : (s.full ≡ 0 → start ≡ total (tail (tail w.function.break_scopes)))
      → (s.full ≡ 0 → inside ≡ is_open (tail w.function.break_scopes))
      → RepresentsMachine κ earlier (breaking_machine (exit_break_c start inside (breaking s c b)) k n e) (doing (method.exit_break_scope exit) w)
  exit_break_law hs hi = go (eqb s.full 0) refl
    where
      go : (t : Bool) → eqb s.full 0 ≡ t
          → RepresentsMachine κ earlier (breaking_machine (exit_break_c start inside (breaking s c b)) k n e) (doing (method.exit_break_scope exit) w)
      go true d = let z = eqb-true s.full 0 d in exit_go z (hs z) (hi z)
      go false d =
          let ne = eqb-false s.full 0 d in
          broke_as w (exit_full start inside s c b ne) refl (held_full (doing (method.exit_break_scope exit) w) (_ ∷ _ ∷ _ ∷ []) refl ne H)
