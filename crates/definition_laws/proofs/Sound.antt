-- The invariant of a function state, over K constants and C context locals, and the methods of function_state.rs under it
use Prim.Native.Nat.{ℕ, suc, ◌+◌, ◌-◌, ◌≤◌, ◌<◌}
use native.Mathlib.Nat.{le_refl, le_trans}
use native.Mathlib.Omega.{arith}
use native.Mathlib.Decide.{ℕ_discrete}
use mathlib.Core.Path.{◌≡◌, refl, sym, ap, ◌∙◌, subst}
use mathlib.Core.Logic.{◌≢◌, ◌⊎◌, inl, inr}
use mathlib.Core.Bool.{Bool, true, false, cond}
use mathlib.Core.Option.{Option, none, some}
use mathlib.Core.List.{List, [], ◌∷◌, ◌++◌}
use lib.ListN.{length, set, length-append, length-set, length-take, get_or-append}
use lib.Seq.{get_or-set_other, get_or-take, get_or-append_seam}
use lib.Dec.{eqb, eqb→eq}
use Rattle.words.specs.Opcode.{Instruction, to_instruction, nothing, Pop, ReturnOp, Jump, JumpIf}
use Rattle.definition.specs.FunctionState.{FunctionState, Entry, push_breaks, innermost, tail, last, init, last_opcode, patch_all, remove_pop_or_push_null}
use Rattle.definition.specs.FunctionState.{emit_return, emit_break, exit_break_scope, define_local, find_name}
use Rattle.definition.specs.Within.{Loop}
use Rattle.definition.specs.FunctionState as Emission
use Rattle.definition.specs.Within.{All, nil, ◌&◌, Loop, read_trace, loops_of, breaks_of, Among, here, there, InLoop, first, later, Class, break_in, leave}
use Rattle.definition.specs.Within.{Position, Slot, Read, Pool, ContextSlot, Other, class_of}
use Rattle.definition_laws.proofs.Defining.{define_cases}
use Rattle.definition_laws.proofs.Safe.{at, Each, counts, Landed, Counts, Within, Fits}
use Rattle.definition_laws.proofs.Lists.{all_map, all_append, Kept, kept_append, kept_init, cond_case, ne_of_test, each_map, each_snoc}
use Rattle.definition_laws.proofs.Lists.{each_set, each_init, each_patch, last_snoc, opcode_set, opcode_patch, patch_other, patch_hits, length_patch}

-- a break that waits for its loop's end
abbrev pub Pending : List Instruction → ℕ → Type 0
Pending l b = (b < length l) × (at l b ≡ to_instruction Jump 0)

-- a break of one of the scopes
pub data InSome (b : ℕ) : List (List ℕ) → Type 0 where
  own : {l : List ℕ} {ls : List (List ℕ)} → Among b l → InSome b (l ∷ ls)
  farther : {l : List ℕ} {ls : List (List ℕ)} → InSome b ls → InSome b (l ∷ ls)

-- `reach`: no jump goes beyond it, and a last Pop stands after it
pub record Sound (K C : ℕ) (f : FunctionState) : Type 0 where
  pub reach : ℕ
  pub sized : length f.code.positions ≡ length f.code.instructions
  pub low : reach ≤ length f.code.instructions
  pub room : last_opcode f ≡ 1 → (reach < length f.code.instructions) × (2 ≤ length f.code.instructions)
      × ((at f.code.instructions (length f.code.instructions - 2)).opcode ≢ 1)
  pub fits : Each (Fits (counts reach K C f)) f.code.instructions
  pub rescue : f.header.rescue_position ≤ reach
  pub scopes : All (All (λ (e : Entry). e.index < f.header.local_count)) f.scopes
  pub breaks : All (All (Pending f.code.instructions)) f.break_scopes
  pub loops : All (Landed f.code.instructions) (loops_of f.log.trace)
  pub traced : (read_trace f.log.trace).open' ≡ f.break_scopes
  pub belongs : All (λ b. InSome b f.break_scopes ⊎ InLoop b (loops_of f.log.trace)) (breaks_of f.log.trace)

-- its last instruction is there, and is no Pop
pub record Solid (f : FunctionState) : Type 0 where
  pub some_code : 0 < length f.code.instructions
  pub no_pop : last_opcode f ≢ 1

pub record SoundSolid (K C : ℕ) (f : FunctionState) : Type 0 where
  pub sound : Sound K C f
  pub solid : Solid f

-- monotony

pub record Wider (c d : Counts) : Type 0 where
  pub tops : c.top ≤ d.top
  pub slots : c.locals ≤ d.locals
  pub pools : c.constants ≤ d.constants
  pub globals : c.context ≤ d.context
  pub reads : (i : ℕ) → Among i c.this → Among i d.this

within_mono : (k : Class) {c d : Counts} (i n : ℕ) → Wider c d → Within k c i n → Within k d i n
within_mono Position i n w h = omega arith
within_mono Slot i n w h = omega arith
within_mono Read i n w (inl h) = inl (omega arith)
within_mono Read {c} {d} i n w (inr h) = go (ℕ_discrete d.locals 0)
  where
    go : Dec (d.locals ≡ 0) → Within Read d i n
    go (yes e) = inr (h.0, e, w.reads i h.2)
    go (no e) = inl (omega (arith, h.0))
within_mono Pool i n w h = omega arith
within_mono ContextSlot i n w h = omega arith
within_mono Other i n w h = tt

pub fit_mono : {c d : Counts} (i : ℕ) (x : Instruction) → Wider c d → Fits c i x → Fits d i x
fit_mono i x w h = within_mono (class_of x.opcode) i x.operand w h

pub fits_mono : {c d : Counts} (l : List Instruction) → Wider c d → Each (Fits c) l → Each (Fits d) l
fits_mono l w ps = each_map l (λ i x h. fit_mono i x w h) ps

pub pending_kept : {l l' : List Instruction} → Kept l l' → (b : ℕ) → Pending l b → Pending l' b
pending_kept {l} {l'} k b (h, e) = let r = k.keeps b h (rw e (omega arith)) in (r.0, r.1 ∙ e)

pub lands_kept : {l l' : List Instruction} → Kept l l' → (e : Loop) → Landed l e → Landed l' e
lands_kept {l} {l'} k e r = record {
  after_positive = r.after_positive;
  exit_lands = land e.exit r.exit_lands;
  breaks_land = all_map (λ b q. land b q) r.breaks_land;
}
  where
    land : {o t : ℕ} (b : ℕ) → (b < length l) × (at l b ≡ to_instruction (suc (suc o)) t) → (b < length l') × (at l' b ≡ to_instruction (suc (suc o)) t)
    land b q = let r = k.keeps b q.0 (rw q.1 (omega arith)) in (r.0, r.1 ∙ q.1)

-- function_state.rs

pub solid_emit : (f : FunctionState) (i : Instruction) (p : ℕ) → i.opcode ≢ 1 → Solid (Emission.emit i p f)
solid_emit f i p h = record {
  some_code = omega (arith, length-append f.code.instructions (i ∷ []));
  no_pop = λ e. h (ap (λ (y : Instruction). y.opcode) (sym (last_snoc f.code.instructions i)) ∙ e);
}

-- a list with a last instruction that is not `nothing`
some_last : (l : List Instruction) {o : ℕ} → (last l nothing).opcode ≡ suc o → 0 < length l
some_last [] e = absurd (omega arith)
some_last (x ∷ l) e = omega arith

module _ {K C : ℕ} where
  -- more constants
  pub sound_more : {K' C' : ℕ} {f : FunctionState} → K ≤ K' → C ≤ C' → Sound K C f → Sound K' C' f
  sound_more {f = f} k c s = record {
    reach = s.reach;
    sized = s.sized;
    low = s.low;
    room = s.room;
    fits = fits_mono f.code.instructions (record { tops = le_refl _; slots = le_refl _; pools = k; globals = c; reads = λ i a. a }) s.fits;
    rescue = s.rescue;
    scopes = s.scopes;
    breaks = s.breaks;
    loops = s.loops;
    traced = s.traced;
    belongs = s.belongs;
  }

  -- an instruction within its counts; a Pop only after what is no Pop
  pub sound_emit : {f : FunctionState} (i : Instruction) (p : ℕ) → Sound K C f → Fits (counts (length f.code.instructions) K C f)
      (length f.code.instructions) i
      → (i.opcode ≡ 1 → Solid f) → Sound K C (Emission.emit i p f)
  sound_emit {f} i p s fit pop = record {
    reach = n;
    sized = omega (arith, length-append l (i ∷ []), length-append f.code.positions (p ∷ []), s.sized);
    low = omega (arith, longer);
    room = λ e. (omega (arith, longer), two e, before e);
    fits = each_snoc (Fits (counts n K C f)) l i (fits_mono l
        (record { tops = s.low; slots = le_refl _; pools = le_refl _; globals = le_refl _; reads = λ j a. a }) s.fits) fit;
    rescue = le_trans s.rescue s.low;
    scopes = s.scopes;
    breaks = all_map (λ bs h. all_map (pending_kept (kept_append l (i ∷ []))) h) s.breaks;
    loops = all_map (lands_kept (kept_append l (i ∷ []))) s.loops;
    traced = s.traced;
    belongs = s.belongs;
  }
    where
      l : List Instruction
      l = f.code.instructions

      n : ℕ
      n = length l

      longer : length (l ++ (i ∷ [])) ≡ n + 1
      longer = length-append l (i ∷ [])

      solid : (last (l ++ (i ∷ [])) nothing).opcode ≡ 1 → Solid f
      solid e = pop (rw last_snoc at e)

      two : (last (l ++ (i ∷ [])) nothing).opcode ≡ 1 → 2 ≤ length (l ++ (i ∷ []))
      two e = omega (arith, longer, (solid e).some_code)

      before : (last (l ++ (i ∷ [])) nothing).opcode ≡ 1 → (at (l ++ (i ∷ [])) (length (l ++ (i ∷ [])) - 2)).opcode ≢ 1
      before e =
          let m : length (l ++ (i ∷ [])) - 2 ≡ n - 1 = omega (arith, longer) in
          rw (m, get_or-append l (i ∷ []) nothing (n - 1) (omega (arith, (solid e).some_code))) (solid e).no_pop

  pub sound_pop : (f : FunctionState) → Sound K C f → last_opcode f ≡ 1 → SoundSolid K C (Emission.pop_last f)
  sound_pop f s e = record {
    sound = record {
      reach = s.reach;
      sized = omega (arith, shorter, length-take (length f.code.positions - 1) f.code.positions, s.sized);
      low = omega (arith, shorter, (s.room e).0);
      room = λ q. absurd (no q);
      fits = each_init (Fits (counts s.reach K C f)) l s.fits;
      rescue = s.rescue;
      scopes = s.scopes;
      breaks = all_map (λ bs h. all_map (pending_kept (kept_init l e)) h) s.breaks;
      loops = all_map (lands_kept (kept_init l e)) s.loops;
      traced = s.traced;
      belongs = s.belongs;
    };
    solid = record { some_code = omega (arith, shorter, (s.room e).1); no_pop = no };
  }
    where
      l : List Instruction
      l = f.code.instructions

      shorter : length (init l) ≡ length l - 1
      shorter = omega (arith, length-take (length l - 1) l)

      no : (last (init l) nothing).opcode ≢ 1
      no = let m : length (init l) - 1 ≡ length l - 2 = omega (arith, shorter) in
          rw (m, get_or-take (length l - 1) l (length l - 2) nothing (omega (arith, (s.room e).1))) (s.room e).2

  module _ (pool : 3 ≤ K) where
    pub sound_null : {f : FunctionState} → Sound K C f → SoundSolid K C (Emission.emit_null f)
    sound_null {f} s = record { sound = sound_emit _ _ s (omega arith) (λ e. absurd (omega arith)); solid = solid_emit f _ _ (omega arith) }

    pub sound_close : (f : FunctionState) → Sound K C f → SoundSolid K C (remove_pop_or_push_null f)
    unfolding remove_pop_or_push_null
    sound_close f s = cond_case (SoundSolid K C) (eqb (last_opcode f) Pop) (λ t. sound_pop f s (eqb→eq _ _ t))
        (λ t. cond_case (SoundSolid K C) (eqb (last_opcode f) ReturnOp)
        (λ u. record { sound = s; solid = record { some_code = some_last f.code.instructions (eqb→eq _ _ u); no_pop = ne_of_test t } }) (λ u. sound_null s))

    pub sound_return : (p : ℕ) (f : FunctionState) → Sound K C f → SoundSolid K C (emit_return p f)
    unfolding emit_return
    sound_return p f s = let r = sound_close f s in
        cond_case (SoundSolid K C) (eqb (last_opcode (remove_pop_or_push_null f)) ReturnOp) (λ t. r)
        (λ t. record {
          sound = sound_emit _ p r.sound tt (λ e. absurd (omega arith));
          solid = solid_emit (remove_pop_or_push_null f) (to_instruction ReturnOp 0) p (omega arith);
        })

  -- a jump that waits, patched to here
  pub sound_set : (f : FunctionState) (j o : ℕ) → SoundSolid K C f → j < length f.code.instructions → at f.code.instructions j ≡ to_instruction o 0
      → Within (class_of o) (counts (length f.code.instructions) K C f) j (length f.code.instructions) → All (All (λ b. b ≢ j)) f.break_scopes
      → SoundSolid K C (Emission.replace_instruction j (to_instruction o (length f.code.instructions)) f)
  sound_set f j o s h e fit apart = record {
    sound = record {
      reach = n;
      sized = omega (arith, same, s.sound.sized);
      low = omega (arith, same);
      room = λ q. absurd (no q);
      fits = each_set (Fits (counts n K C f)) l j x (fits_mono l
          (record { tops = s.sound.low; slots = le_refl _; pools = le_refl _; globals = le_refl _; reads = λ i a. a }) s.sound.fits) fit;
      rescue = le_trans s.sound.rescue s.sound.low;
      scopes = s.sound.scopes;
      breaks = waiting apart s.sound.breaks;
      loops = all_map land s.sound.loops;
      traced = s.sound.traced;
      belongs = s.sound.belongs;
    };
    solid = record { some_code = omega (arith, same, s.solid.some_code); no_pop = no };
  }
    where
      l : List Instruction
      l = f.code.instructions

      n : ℕ
      n = length l

      x : Instruction
      x = to_instruction o n

      l' : List Instruction
      l' = set l j x

      same : length l' ≡ n
      same = length-set l j x

      no : (last l' nothing).opcode ≢ 1
      no q = s.solid.no_pop (sym (opcode_set l j x (n - 1) (ap (λ (y : Instruction). y.opcode) e)) ∙ (rw same at q))

      other : (b : ℕ) (y : Instruction) → b ≢ j → (b < n) × (at l b ≡ y) → (b < length l') × (at l' b ≡ y)
      other b y d q = (omega (arith, same, q.0), get_or-set_other l j b x nothing d ∙ q.1)

      waits : {bs : List ℕ} → All (λ b. b ≢ j) bs → All (Pending l) bs → All (Pending l') bs
      waits nil nil = nil
      waits (d & ds) (p & ps) = other _ _ d p & waits ds ps

      waiting : {ss : List (List ℕ)} → All (All (λ b. b ≢ j)) ss → All (All (Pending l)) ss → All (All (Pending l')) ss
      waiting nil nil = nil
      waiting (d & ds) (p & ps) = waits d p & waiting ds ps

      far : (b k t : ℕ) → 0 < t → at l b ≡ to_instruction k t → b ≢ j
      far b k t a q c = let z : t ≡ 0 = ap (λ (y : Instruction). y.operand) (sym q ∙ ap (λ m. at l m) c ∙ e) in omega arith

      land : (r : Loop) → Landed l r → Landed l' r
      land r q = record {
        after_positive = q.after_positive;
        exit_lands = other _ _ (far _ _ _ q.after_positive q.exit_lands.1) q.exit_lands;
        breaks_land = all_map (λ b p. other b _ (far _ _ _ q.after_positive p.1) p) q.breaks_land;
      }

-- what is not a break that waits
pub pending_apart : (l : List Instruction) {ss : List (List ℕ)} (j o : ℕ) → o ≢ Jump → at l j ≡ to_instruction o 0 → All (All (Pending l)) ss
    → All (All (λ b. b ≢ j)) ss
pending_apart l j o d e ps = all_map (λ bs h. all_map (λ b p c. d (ap (λ (y : Instruction). y.opcode) (sym e ∙ ap (λ m. at l m) (sym c) ∙ p.1))) h) ps

pub all_push : {P : ℕ → Type 0} {ss : List (List ℕ)} {is : List ℕ} → All (All P) ss → All P is → All (All P) (push_breaks is ss)
all_push nil qs = nil
all_push (p & ps) qs = all_append p qs & ps

pub all_tail : {A : Type 0} {P : A → Type 0} {l : List A} → All P l → All P (tail l)
all_tail nil = nil
all_tail (p & ps) = ps

pub all_innermost : {A : Type 0} {P : A → Type 0} {l : List (List A)} → All (All P) l → All P (innermost l)
all_innermost nil = nil
all_innermost (p & ps) = p

among_append : {i : ℕ} {l : List ℕ} (m : List ℕ) → Among i l → Among i (l ++ m)
among_append m here = here
among_append m (there a) = there (among_append m a)

among_last : {i : ℕ} (l : List ℕ) → Among i (l ++ (i ∷ []))
among_last [] = here
among_last (x ∷ l) = there (among_last l)

in-loop-append : {b : ℕ} {es : List Loop} (fs : List Loop) → InLoop b es → InLoop b (es ++ fs)
in-loop-append fs (first a) = first a
in-loop-append fs (later q) = later (in-loop-append fs q)

in-loop-last : {b : ℕ} (es : List Loop) (e : Loop) → Among b e.breaks → InLoop b (es ++ (e ∷ []))
in-loop-last [] e a = first a
in-loop-last (x ∷ es) e a = later (in-loop-last es e a)

in-some-push : {b : ℕ} {ss : List (List ℕ)} (is : List ℕ) → InSome b ss → InSome b (push_breaks is ss)
in-some-push is (own a) = own (among_append is a)
in-some-push is (farther q) = farther q

pushed_one : {b : ℕ} {ss : List (List ℕ)} {es : List Loop} (k : ℕ) → InSome b ss ⊎ InLoop b es → InSome b (push_breaks (k ∷ []) ss) ⊎ InLoop b es
pushed_one k (inl q) = inl (in-some-push _ q)
pushed_one k (inr q) = inr q

-- the stack that a trace is read with goes as the break scopes do
break_in_lem : (i : ℕ) (ss : List (List ℕ)) → break_in i ss ≡ push_breaks (i ∷ []) ss
break_in_lem i [] = refl
break_in_lem i (s ∷ ss) = refl

leave_open : (exit after : ℕ) (ss : List (List ℕ)) (es : List Loop) → (leave exit after ss es).open' ≡ tail ss
leave_open exit after [] es = refl
leave_open exit after (s ∷ ss) es = refl

pub leave_closed : (exit after : ℕ) (ss : List (List ℕ)) (es : List Loop)
    → (leave exit after ss es).closed ≡ es ++ (record { exit = exit; breaks = innermost ss; after = after } ∷ [])
leave_closed exit after [] es = refl
leave_closed exit after (s ∷ ss) es = refl

-- a scope that is left is the new loop's
left_scope : {b : ℕ} {ss : List (List ℕ)} (e : Loop) (es : List Loop) → e.breaks ≡ innermost ss → InSome b ss → InSome b (tail ss) ⊎ InLoop b (es ++ (e ∷ []))
left_scope {b} e es h (own a) = inr (in-loop-last es e (subst (Among b) (sym h) a))
left_scope e es h (farther q) = inl q

module _ {K C : ℕ} where
  pub sound_break : (p : ℕ) (f : FunctionState) → Sound K C f → Sound K C (emit_break p f)
  unfolding emit_break
  sound_break p f s = go f.break_scopes refl
    where
      r : Sound K C (Emission.emit_opcode Jump p f)
      r = sound_emit (to_instruction Jump 0) p s (omega arith) (λ e. absurd (omega arith))

      newest : (b : List ℕ) (bs : List (List ℕ)) → f.break_scopes ≡ b ∷ bs
          → InSome (length f.code.instructions) (push_breaks (length f.code.instructions ∷ []) f.break_scopes)
          ⊎ InLoop (length f.code.instructions) (loops_of f.log.trace)
      newest b bs e = inl (rw e (own (among_last b)))

      go : (bs : List (List ℕ)) → f.break_scopes ≡ bs → Sound K C (Emission.emit_break_in bs p f)
      go [] e = s
      go (b ∷ bs) e = record {
        reach = r.reach;
        sized = r.sized;
        low = r.low;
        room = r.room;
        fits = r.fits;
        rescue = r.rescue;
        scopes = r.scopes;
        breaks = all_push r.breaks ((
          omega (arith, length-append f.code.instructions (to_instruction Jump 0 ∷ [])),
          get_or-append_seam f.code.instructions
              (to_instruction Jump 0) [] nothing,
        ) & nil);
        loops = r.loops;
        traced = break_in_lem (length f.code.instructions) (read_trace f.log.trace).open' ∙ ap (push_breaks (length f.code.instructions ∷ []))
            r.traced;
        belongs = newest b bs e & all_map (λ k q. pushed_one (length f.code.instructions) q) r.belongs;
      }

  -- the end of a loop: its breaks go to here
  pub sound_exit : (f : FunctionState) (exit : ℕ) → SoundSolid K C f → (exit < length f.code.instructions)
      × (at f.code.instructions exit ≡ to_instruction JumpIf (length f.code.instructions))
      → All (All (Pending (exit_break_scope exit f).code.instructions)) (tail f.break_scopes) → SoundSolid K C (exit_break_scope exit f)
  unfolding exit_break_scope
  sound_exit f exit s e outer = record {
    sound = record {
      reach = n;
      sized = omega (arith, same, s.sound.sized);
      low = omega (arith, same);
      room = λ q. absurd (no q);
      fits = each_patch (Fits (counts n K C f)) bs n l (λ i. le_refl n)
          (fits_mono l (record { tops = s.sound.low; slots = le_refl _; pools = le_refl _; globals = le_refl _; reads = λ i a. a }) s.sound.fits);
      rescue = le_trans s.sound.rescue s.sound.low;
      scopes = s.sound.scopes;
      breaks = outer;
      loops = subst (All (Landed l')) (sym closed) (all_append (all_map land s.sound.loops)
          (subst (λ (ks : List ℕ). Landed l' (record { exit = exit; breaks = ks; after = n })) (sym own_breaks) this & nil));
      traced = leave_open exit n (read_trace f.log.trace).open' (loops_of f.log.trace) ∙ ap tail s.sound.traced;
      belongs = subst (λ (es : List Loop). All (λ b. InSome b (tail f.break_scopes) ⊎ InLoop b es) (breaks_of f.log.trace)) (sym closed)
          (all_map (λ b q. left b q) s.sound.belongs);
    };
    solid = record { some_code = omega (arith, same, s.solid.some_code); no_pop = no };
  }
    where
      l : List Instruction
      l = f.code.instructions

      n : ℕ
      n = length l

      bs : List ℕ
      bs = innermost f.break_scopes

      l' : List Instruction
      l' = patch_all bs n l

      same : length l' ≡ n
      same = length_patch bs n l

      own_breaks : innermost (read_trace f.log.trace).open' ≡ bs
      own_breaks = ap innermost s.sound.traced

      new : Loop
      new = record { exit = exit; breaks = innermost (read_trace f.log.trace).open'; after = n }

      closed : (leave exit n (read_trace f.log.trace).open' (loops_of f.log.trace)).closed ≡ loops_of f.log.trace ++ (new ∷ [])
      closed = leave_closed exit n (read_trace f.log.trace).open' (loops_of f.log.trace)

      left : (b : ℕ) → InSome b f.break_scopes ⊎ InLoop b (loops_of f.log.trace) → InSome b (tail f.break_scopes)
          ⊎ InLoop b (loops_of f.log.trace ++ (new ∷ []))
      left b (inl q) = left_scope new (loops_of f.log.trace) own_breaks q
      left b (inr q) = inr (in-loop-append _ q)

      waits : All (Pending l) bs
      waits = all_innermost s.sound.breaks

      no : (last l' nothing).opcode ≢ 1
      no q = s.solid.no_pop (sym (opcode_patch bs n l (n - 1) (all_map (λ b p. ap (λ (y : Instruction). y.opcode) p.1) waits)) ∙ (rw same at q))

      -- what jumps beyond 0 does not wait
      other : (k o t : ℕ) → 0 < t → (k < n) × (at l k ≡ to_instruction o t) → (k < length l') × (at l' k ≡ to_instruction o t)
      other k o t a q = (
        omega (arith, same, q.0),
        patch_other bs n l k
            (all_map (λ b p c. let z : t ≡ 0 = ap (λ (y : Instruction). y.operand) (sym q.1 ∙ ap (λ m. at l m) (sym c) ∙ p.1) in omega arith) waits)
            ∙ q.1,
      )

      land : (r : Loop) → Landed l r → Landed l' r
      land r q = record {
        after_positive = q.after_positive;
        exit_lands = other _ _ _ q.after_positive q.exit_lands;
        breaks_land = all_map (λ b p. other b _ _ q.after_positive p) q.breaks_land;
      }

      this : Landed l' (record { exit = exit; breaks = bs; after = n })
      this = record {
        after_positive = s.solid.some_code;
        exit_lands = other _ _ _ s.solid.some_code e;
        breaks_land = patch_hits bs n l (all_map (λ b p. p.0) waits);
      }

-- locals

pub find_name_lem : {L : ℕ} {es : List Entry} (n i : ℕ) → All (λ (e : Entry). e.index < L) es → find_name n es ≡ some i → i < L
find_name_lem n i nil e = absurd (let z : ◌≡◌ {A = ℕ} 0 1 = cc in omega arith)
find_name_lem {L} {es} n i (◌&◌ {x = x} {xs = xs} p ps) e = go (eqb x.name n) (λ q. find_name_lem n i ps q) e
  where
    go : (b : Bool) → (find_name n xs ≡ some i → i < L) → cond b (some x.index) (find_name n xs) ≡ some i → i < L
    go true r q = let z : x.index ≡ i = cc in omega arith
    go false r q = r q

pub find_scopes_lem : {L : ℕ} {ss : List (List Entry)} (n i : ℕ) → All (All (λ (e : Entry). e.index < L)) ss → Emission.find_scopes n ss ≡ some i → i < L
find_scopes_lem n i nil e = absurd (let z : ◌≡◌ {A = ℕ} 0 1 = cc in omega arith)
find_scopes_lem {L} {ss} n i (◌&◌ {x = s} {xs = xs} p ps) e = go (find_name n s) refl (λ q. find_scopes_lem n i ps q) e
  where
    go : (o : Option ℕ) → find_name n s ≡ o → (Emission.find_scopes n xs ≡ some i → i < L) → Emission.or_else o (Emission.find_scopes n xs) ≡ some i → i < L
    go none c r q = r q
    go (some k) c r q = find_name_lem n i p (c ∙ q)

module _ {K C : ℕ} where
  -- more locals, other scopes
  pub sound_scopes : (f : FunctionState) (L : ℕ) (ss : List (List Entry)) → Sound K C f → f.header.local_count ≤ L → All (All (λ (e : Entry). e.index < L)) ss
      → Sound K C (Emission.with_scopes ss (Emission.with_local_count L f))
  sound_scopes f L ss s h ps = record {
    reach = s.reach;
    sized = s.sized;
    low = s.low;
    room = s.room;
    fits = fits_mono f.code.instructions (record { tops = le_refl _; slots = h; pools = le_refl _; globals = le_refl _; reads = λ i a. a }) s.fits;
    rescue = s.rescue;
    scopes = ps;
    breaks = s.breaks;
    loops = s.loops;
    traced = s.traced;
    belongs = s.belongs;
  }

  pub sound_define : (n : ℕ) (f : FunctionState) → Sound K C f → Sound K C (define_local n f).state
  sound_define n f s = define_cases (λ d. Sound K C d.state) n f go
    where
      insert : {ss : List (List Entry)} → All (All (λ (e : Entry). e.index < f.header.local_count + 1)) ss
          → All (All (λ (e : Entry). e.index < f.header.local_count + 1)) (Emission.insert_name (record { name = n; index = f.header.local_count }) ss)
      insert nil = nil
      insert (p & ps) = let new : f.header.local_count < f.header.local_count + 1 = omega arith in (new & p) & ps

      go : (o : Option ℕ) → Sound K C (Emission.define_local_by o n f).state
      go none = sound_scopes f (f.header.local_count + 1) _ s (omega arith) (insert (all_map (λ es qs. all_map (λ e q. omega arith) qs) s.scopes))
      go (some i) = s

pub define_found : (n i : ℕ) (f : FunctionState) → (define_local n f).found ≡ some i → i < (define_local n f).state.header.local_count
define_found n i f = define_cases (λ d. d.found ≡ some i → i < d.state.header.local_count) n f go
  where
    go : (o : Option ℕ) → (Emission.define_local_by o n f).found ≡ some i → i < (Emission.define_local_by o n f).state.header.local_count
    go none q = let z : f.header.local_count ≡ i = cc in omega arith
    go (some k) q = absurd (let z : ◌≡◌ {A = ℕ} 0 1 = cc in omega arith)
