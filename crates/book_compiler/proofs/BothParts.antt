-- The code and the breaks, lent one after the other: `emit_break` and `exit_break_scope` on one memory. Assumes nothing.
use Rattle.std.proofs.Common.{◌≡◌, ℕ, ◌+◌, ◌-◌, ◌<◌, ◌≤◌, min, Bool, true, false, cond, eqb, List, [], ◌∷◌, length, sym, refl, ap, ◌∙◌, subst, arith, ne_eqb}
use Rattle.std.proofs.Common.{eqb-true}
use borrow.Author.Tests.{eqb-false}
use Rattle.memory.specs.Layout.{part, Fits}
use Rattle.memory.proofs.Parts.{put_part, put_fits}
use Rattle.words.specs.Areas.{breaks_area, entry_field}
use Rattle.words.specs.Opcode.{to_instruction, word, Jump}
use Rattle.definition.specs.FunctionState as method
use Rattle.definition.specs.FunctionState.{tail}
use Rattle.definition.specs.Uses.{Limits, total}
use Rattle.definition.specs.Compiler.{Work, doing}
use Rattle.definition.specs.Program.{Entries}
use Rattle.building.specs.declared.function_state.FunctionState.{FunctionState}
use Rattle.building.specs.State.{with_breaks, with_loop}
use Rattle.building.specs.Taking.{taken_of, took_words, Took, given_up}
use Rattle.building.specs.Emission.{coded, Breaking, breaking, next_c, emit_c, replace_c, patch_c, emit_break_c, exit_break_c}
use Rattle.building.specs.RepresentsMachine.{RepresentsMachine, is_open}
use Rattle.building.proofs.Emitting.{patch_turn, patch_end, exit_full, exit_more, break_in_lem, break_out}
use Rattle.building.proofs.BreakLaws.{held_breaking, breaking_machine, break_law, exit_break_law}
use Rattle.constant_slots.specs.Plain.{pool_of}
use Rattle.undo.specs.Notes.{plain_marks}
use Rattle.undo.specs.Stood.{Stood}
use Rattle.book_compiler.specs.Represents.{Memory, laid, part_of, Represents, On, Simulates}
use Rattle.book_compiler.proofs.Parts.{unbuilt, slots_same}
use Rattle.book_compiler.proofs.ConstantCount.{break_count, exit_break_count}
use Rattle.book_compiler.specs.Leaves.{OnCode, OnBreaks, GivesUpBreaks, WaitingBreak, OnBoth, patched}
use Rattle.book_compiler.proofs.Stood.{stood_spared, stood_nothing}
use Rattle.book_compiler.proofs.StoodFunctions.{Ordered, behind_onward, SparesBreaking, break_spares, exit_break_spares}
use Rattle.book_compiler.proofs.Laws.{is_ordered}

-- every part after a routine that was lent part i
pub record Replacing (i : ℕ) (R : List ℕ → List ℕ → Type 0) (m m' : Memory) : Type 0 where
  pub words : List ℕ
  pub does : R (part_of m i) words
  pub fits : Fits m'.starts (length m'.words)
  pub parts : (j : ℕ) → j < 14 → part_of m' j ≡ cond (eqb i j) words (part_of m j)

pub replacing : {i : ℕ} {R : List ℕ → List ℕ → Type 0} {m m' : Memory} → i < 14 → On i R m m' → Fits m.starts (length m.words) → Replacing i R m m'
replacing {i} {R} {m} {m'} h o f =
    let p = o.on f in
    let a = m.starts in
    let fits : Fits a (length m'.words) = rw p.is (put_fits a m.words p.words f i h p.long) in
    record {
      words = p.words;
      does = p.does;
      fits = rw o.same fits;
      parts = λ j g. ap (λ (b : List ℕ). part b j m'.words) o.same ∙ ap (part a j) p.is ∙ put_part a m.words p.words f i h p.long j g;
    }

-- a method over both on what the memory stands for: it keeps the count of constants
pub both_law : {κ : Limits} {E : Entries} {others : ℕ → List ℕ} {f : Breaking → Breaking} {m m' : Memory} {w w' : Work} → m'.starts ≡ m.starts
    → OnBoth f m m' → Represents κ E others m w → ((x : Breaking) → Ordered x.state → SparesBreaking x (f x))
    → ((g : Breaking) → (f g).state.constants ≡ g.state.constants)
    → RepresentsMachine κ E (breaking_machine (f (breaking m.state (part_of m 1) (part_of m 10))) (plain_marks (part_of m 2)) (part_of m 9) (part_of m 11)) w'
    → Represents κ E others m' w'
both_law {others = others} {m = m} {m' = m'} same o H spares count G =
    let B = o.on H.fits in
    let x = breaking m.state (part_of m 1) (part_of m 10) in
    let S : SparesBreaking x (breaking m'.state (part_of m' 1) (part_of m' 10)) = subst (SparesBreaking x) (sym B.is) (spares x (is_ordered H)) in
    let P = H.preserves in
    let code : Stood 1 (others 1) (part_of m' 1) = stood_spared (P.stood 1 (omega arith) refl) (λ z. (P.behind z).code) S.words in
    let breaks : Stood 10 (others 10) (part_of m' 10) = stood_nothing (part_of m' 10) P.nothing.breaks in
    record {
      fits = B.fits;
      preserves = record {
        same = λ j g q. let u = unbuilt j q in B.others j g u.code u.breaks ∙ P.same j g q;
        stood = λ j g q. by_part j code breaks (λ n1 n2. subst (Stood j (others j)) (sym (B.others j g n1 n2)) (P.stood j g q)) (eqb j 1) refl
            (eqb j 10) refl;
        nothing = P.nothing;
        behind = behind_onward S.onward P.behind;
      };
      held = rw (B.others 2 (omega arith) refl refl, B.others 9 (omega arith) refl refl, B.others 11 (omega arith) refl refl)
          (held_breaking m'.state (part_of m' 1) (part_of m' 10) B.is G);
      slots = slots_same (B.others 13 (omega arith) refl refl)
          (ap (λ (u : List ℕ). pool_of m'.state.constants u) (B.others 2 (omega arith) refl refl)
          ∙ ap (λ (n : ℕ). pool_of n (part_of m 2))
          (ap (λ (x : Breaking). x.state.constants) B.is ∙ count (breaking m.state (part_of m 1) (part_of m 10)))) H.slots;
    }
  where
    by_part : (j : ℕ) → Stood 1 (others 1) (part_of m' 1) → Stood 10 (others 10) (part_of m' 10)
        → (eqb j 1 ≡ false → eqb j 10 ≡ false → Stood j (others j) (part_of m' j)) → (t : Bool) → eqb j 1 ≡ t → (u : Bool) → eqb j 10 ≡ u
        → Stood j (others j) (part_of m' j)
    by_part j code breaks other true e u p = subst (λ (n : ℕ). Stood n (others n) (part_of m' n)) (sym (eqb-true j 1 e)) code
    by_part j code breaks other false e true p = subst (λ (n : ℕ). Stood n (others n) (part_of m' n)) (sym (eqb-true j 10 p)) breaks
    by_part j code breaks other false e false p = other e p

-- `emit_break`
pub break_outside : (p : ℕ) {s : FunctionState} {a l : List ℕ} → s.in_loop ≡ false → OnBoth (emit_break_c p) (laid s a l) (laid s a l)
break_outside p {s} {a} {l} q = record {
  on = λ f. record { fits = f; others = λ i h n1 n2. refl; is = break_out p s (part a 1 l) (part a 10 l) q };
}

pub break_inside : (p : ℕ) {s : FunctionState} {a l : List ℕ} {index : ℕ} {m₁ m' : Memory} → s.in_loop ≡ true → index ≡ next_c s
    → OnCode (emit_c (word (to_instruction Jump 0)) p) (laid s a l) m₁ → OnBreaks index m₁ m' → OnBoth (emit_break_c p) (laid s a l) m'
break_inside p {s} {a} {l} {index} {m₁} {m'} inside at d e = record {
  on = λ f.
      let P = replacing (omega arith) d.acts f in
      let Q = replacing (omega arith) e.acts P.fits in
      let t = taken_of breaks_area 1 m₁.state.full m₁.state.breaks (length (part_of m₁ 10)) in
      let T : Took breaks_area m₁.state.full m₁.state.breaks (next_c s ∷ []) (part_of m₁ 10) t Q.words =
      record {
        reply = refl;
        words = Q.does.breaks ∙ ap (λ (j : ℕ). took_words m₁.state.full m₁.state.breaks (j ∷ []) (part_of m₁ 10)) at;
      } in
      let b : part_of m₁ 10 ≡ part a 10 l = P.parts 10 (omega arith) in
      let c' : part_of m' 1 ≡ P.words = Q.parts 1 (omega arith) ∙ P.parts 1 (omega arith) in
      let b' : part_of m' 10 ≡ Q.words = Q.parts 10 (omega arith) in
      record {
        fits = Q.fits;
        others = λ i h n1 n2. Q.parts i h ∙ other i n2 Q.words (part_of m₁ i) ∙ P.parts i h ∙ other1 i n1 P.words (part a i l);
        is = ap (λ (x : FunctionState). breaking x (part_of m' 1) (part_of m' 10)) Q.does.state
            ∙ ap (λ (x : List ℕ). breaking (with_breaks t m₁.state) x (part_of m' 10)) c'
            ∙ ap (λ (x : List ℕ). breaking (with_breaks t m₁.state) P.words x) b'
            ∙ break_in_lem p s m₁.state (part a 1 l) P.words (part_of m₁ 10) Q.words t inside P.does T
            ∙ ap (λ (x : List ℕ). emit_break_c p (breaking s (part a 1 l) x)) b;
      };
}
  where
    flip : (i j : ℕ) → eqb i j ≡ false → eqb j i ≡ false
    flip i j q = ne_eqb j i (λ r. eqb-false i j q (sym r))

    other : (i : ℕ) → eqb i 10 ≡ false → (x y : List ℕ) → cond (eqb 10 i) x y ≡ y
    other i q x y = ap (λ (t : Bool). cond t x y) (flip i 10 q)

    other1 : (i : ℕ) → eqb i 1 ≡ false → (x y : List ℕ) → cond (eqb 1 i) x y ≡ y
    other1 i q x y = ap (λ (t : Bool). cond t x y) (flip i 1 q)

pub break_acts : {s : FunctionState} {a l : List ℕ} {s' : FunctionState} {l' : List ℕ} (p : ℕ) → OnBoth (emit_break_c p) (laid s a l) (laid s' a l')
    → Simulates (laid s a l) (laid s' a l') (doing (method.emit_break p))
break_acts p o = record { meets = λ κ E others w H. both_law refl o H (break_spares p) (break_count p) (break_law p H.held) }

-- `patch_breaks`: what is left to patch from i is what was to patch at first
pub record Patching (v i : ℕ) (m m' : Memory) : Type 0 where
  pub fits : Fits m'.starts (length m'.words)
  pub others : (j : ℕ) → j < 14 → eqb 1 j ≡ false → part_of m' j ≡ part_of m j
  pub more : let s = m.state in patch_c (s.breaks - i) i v s (part_of m 10) (part_of m' 1)
      ≡ patch_c (s.breaks - s.break_base) s.break_base v s (part_of m 10) (part_of m 1)

pub patching_first : {v : ℕ} {m : Memory} → Fits m.starts (length m.words) → Patching v m.state.break_base m m
patching_first f = record { fits = f; others = λ j h q. refl; more = refl }

pub patching_more : {v i index : ℕ} {s : FunctionState} {a l₀ l l' : List ℕ} → i < s.breaks → WaitingBreak i index (laid s a l)
    → OnCode (replace_c index v) (laid s a l) (laid s a l') → Patching v i (laid s a l₀) (laid s a l) → Patching v (i + 1) (laid s a l₀) (laid s a l')
patching_more {v} {i} {index} {s} {a} {l₀} {l} {l'} lt waits d P =
    let R = replacing (omega arith) d.acts P.fits in
    let b : part a 10 l ≡ part a 10 l₀ = P.others 10 (omega arith) refl in
    let at : index ≡ entry_field 1 i 0 (part a 10 l₀) = waits.reads.on P.fits ∙ ap (entry_field 1 i 0) b in
    let c : part a 1 l' ≡ R.words = R.parts 1 (omega arith) in
    let one : coded s R.words ≡ replace_c index v (coded s (part a 1 l)) = R.does in
    let turn = patch_turn v i s.breaks s (part a 10 l₀) (part a 1 l) R.words lt
    (one ∙ ap (λ (j : ℕ). replace_c j v (coded s (part a 1 l))) at) in
    record {
      fits = R.fits;
      others = λ j h q. R.parts j h ∙ ap (λ (t : Bool). cond t R.words (part a j l)) q ∙ P.others j h q;
      more = rw c (sym turn ∙ P.more);
    }

pub patching_end : {v i : ℕ} {s : FunctionState} {a l l' : List ℕ} → v ≡ word (to_instruction Jump (next_c s)) → s.breaks ≤ i
    → (Fits a (length l) → Patching v i (laid s a l) (laid s a l')) → OnBoth patched (laid s a l) (laid s a l')
patching_end {v} {i} {s} {a} {l} {l'} as-word ge P = record {
  on = λ f.
      let Q = P f in
      let b : part a 10 l' ≡ part a 10 l = Q.others 10 (omega arith) refl in
      let c = sym (patch_end v i s.breaks s (part a 10 l) (part a 1 l') ge) ∙ Q.more in
      record {
        fits = Q.fits;
        others = λ j h n1 n2. Q.others j h (ne_eqb 1 j (λ r. eqb-false j 1 n1 (sym r)));
        is = rw (b, c, as-word) refl;
      };
}

-- `exit_break_scope`
pub exit_marked : (start : ℕ) (inside : Bool) {s : FunctionState} {a l : List ℕ} → (s.full ≡ 0 → ⊥)
    → OnBoth (exit_break_c start inside) (laid s a l) (laid s a l)
exit_marked start inside {s} {a} {l} ne = record {
  on = λ f. record { fits = f; others = λ i h n1 n2. refl; is = exit_full start inside s (part a 1 l) (part a 10 l) ne };
}

pub exit_both : {start : ℕ} {inside : Bool} {s s' : FunctionState} {a l l₁ l₂ : List ℕ} → s.full ≡ 0 → OnBoth patched (laid s a l) (laid s a l₁)
    → GivesUpBreaks (laid s a l₁) (laid s a l₂) → s' ≡ with_loop (min s.break_base s.breaks) start inside s
    → OnBoth (exit_break_c start inside) (laid s a l) (laid s' a l₂)
exit_both {start} {inside} {s} {s'} {a} {l} {l₁} {l₂} z p g q = record {
  on = λ f.
      let P = p.on f in
      let R = replacing (omega arith) g.acts P.fits in
      let b₁ : part a 10 l₁ ≡ part a 10 l = ap (λ (x : Breaking). x.breaks) P.is in
      let c₁ = ap (λ (x : Breaking). x.code) P.is in
      let c₂ : part a 1 l₂ ≡ part a 1 l₁ = R.parts 1 (omega arith) in
      let b₂ : part a 10 l₂ ≡ R.words = R.parts 10 (omega arith) in
      record {
        fits = R.fits;
        others = λ i h n1 n2. R.parts i h ∙ ap (λ (t : Bool). cond t R.words (part a i l₁)) (ne_eqb 10 i (λ r. eqb-false i 10 n2 (sym r)))
            ∙ P.others i h n1 n2;
        is = rw q (exit_more start inside s (part a 1 l) (part a 10 l) z (c₂ ∙ c₁) (b₂ ∙ R.does ∙ ap (given_up 1 s.break_base s.breaks) b₁) refl);
      };
}

pub exited : {κ : Limits} {E : Entries} {others : ℕ → List ℕ} {start : ℕ} {inside : Bool} {s s' : FunctionState} {a l l' : List ℕ} {w : Work} (exit : ℕ)
    → OnBoth (exit_break_c start inside) (laid s a l) (laid s' a l') → (s.full ≡ 0 → start ≡ total (tail (tail w.function.break_scopes)))
    → (s.full ≡ 0 → inside ≡ is_open (tail w.function.break_scopes)) → Represents κ E others (laid s a l) w
    → Represents κ E others (laid s' a l') (doing (method.exit_break_scope exit) w)
exited {start = start} {inside = inside} exit o hs hi H =
    both_law refl o H (exit_break_spares start inside) (exit_break_count start inside) (exit_break_law exit start inside H.held hs hi)
