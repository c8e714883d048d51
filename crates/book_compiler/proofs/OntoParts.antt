-- A program that stands made ready for a bundle, and given back: one lemma for each way through the routines of `onto.rt` that do it. By the law of parts, and
-- of the words of one part by what each routine of `undo` leaves. Assumes nothing.
use Rattle.std.proofs.Common.{◌≡◌, ℕ, ◌+◌, ◌<◌, ◌≤◌, Bool, true, false, cond, ◌||◌, eqb, List, length, sym, refl, ap, ◌∙◌}
use Rattle.std.proofs.Common.{subst, arith}
use borrow.Author.Tests.{eqb-false}
use Rattle.memory.specs.Layout.{part, Fits}
use Rattle.words.specs.Areas.{constants_area, methods_area, errors_area, cleared_from}
use Rattle.words.specs.declared.reply.Totals.{Totals}
use Rattle.words.specs.Reply.{total_of}
use Rattle.undo.specs.Notes.{noted_marks, noted_methods}
use Rattle.constant_slots.specs.Plain.{pool_of}
use Rattle.constant_slots.specs.Slots.{slots_of}
use Rattle.compiler_laws.proofs.CallEnd.{cleared_zero}
use Rattle.book_compiler.specs.Represents.{slots_part}
use Rattle.book_compiler.specs.Leaves.{FillsSlots, ClearsSlots}
use Rattle.book_compiler.specs.BookOrder.{LentPart, LentButErrors}
use Rattle.book_compiler.specs.Onto.{is_noted, MakesReady, GivesBack}
use Rattle.book_compiler.specs.OntoParts.{given_back}
use Rattle.book_compiler.proofs.SlotFilling.{slots_filled}
use Rattle.book_compiler.proofs.LentParts.{lent_does, lent_other, lent_length, lent_fits}
use Rattle.book_compiler.proofs.PartsInTurn.{ChangedUpTo, change_more, slots_lent, slots_zero}

-- a part that is not noted is none of these
or_first : (x y : Bool) → x || y ≡ false → x ≡ false
or_first true y e = e
or_first false y e = refl

or_second : (x y : Bool) → x || y ≡ false → y ≡ false
or_second true y e = absurd (let z : ◌≡◌ {A = ℕ} 0 1 = ap (λ (b : Bool). cond b 0 1) e in omega arith)
or_second false y e = e

module _ (i : ℕ) (q : is_noted i ≡ false) where
  three : eqb i constants_area || eqb i methods_area || eqb i errors_area ≡ false
  three = or_first (eqb i constants_area || eqb i methods_area || eqb i errors_area) (eqb i slots_part) q

  two : eqb i constants_area || eqb i methods_area ≡ false
  two = or_first (eqb i constants_area || eqb i methods_area) (eqb i errors_area) three

  pub not_constants : eqb i constants_area ≡ false
  not_constants = or_first (eqb i constants_area) (eqb i methods_area) two

  pub not_methods : eqb i methods_area ≡ false
  not_methods = or_second (eqb i constants_area) (eqb i methods_area) two

  pub not_errors : i ≡ errors_area → ⊥
  not_errors = eqb-false i errors_area (or_second (eqb i constants_area || eqb i methods_area) (eqb i errors_area) three)

  not_slots : i ≡ slots_part → ⊥
  not_slots = eqb-false i slots_part (or_second (eqb i constants_area || eqb i methods_area || eqb i errors_area) (eqb i slots_part) q)

-- the way of `make_ready`
pub made_ready : (t : Totals) {a w w₁ w₂ w₃ w₄ : List ℕ} → LentPart errors_area (λ e e'. e' ≡ cleared_from 0 e) a w w₁
    → LentPart constants_area (λ k k'. k' ≡ noted_marks t.constants k) a w₁ w₂ → LentPart methods_area (λ m m'. m' ≡ noted_methods t.methods m) a w₂ w₃
    → FillsSlots t.constants a w₃ w₄ → MakesReady t a w w₄
made_ready t {a} {w} {w₁} {w₂} {w₃} {w₄} E K T S = record {
  on = λ f.
      let f₁ : Fits a (length w₁) = lent_fits (omega arith) f E in
      let f₂ : Fits a (length w₂) = lent_fits (omega arith) f₁ K in
      let f₃ : Fits a (length w₃) = lent_fits (omega arith) f₂ T in
      let filled : LentPart slots_part (λ s s'. s' ≡ slots_of (length s) (pool_of t.constants (part a constants_area w₃))) a w₃ w₄ = record { on = S.on } in
      let by-errors = lent_other (omega arith) f E in
      let by-constants = lent_other (omega arith) f₁ K in
      let by-methods = lent_other (omega arith) f₂ T in
      let by_slots = lent_other (omega arith) f₃ filled in
      record {
        long = lent_length (omega arith) f₃ filled ∙ lent_length (omega arith) f₂ T ∙ lent_length (omega arith) f₁ K ∙ lent_length (omega arith) f E;
        constants = by_slots constants_area (omega arith) (λ e. omega arith) ∙ by-methods constants_area (omega arith) (λ e. omega arith)
            ∙ lent_does (omega arith) f₁ K ∙ ap (noted_marks t.constants) (by-errors constants_area (omega arith) (λ e. omega arith));
        methods = by_slots methods_area (omega arith) (λ e. omega arith) ∙ lent_does (omega arith) f₂ T
            ∙ ap (noted_methods t.methods)
            (by-constants methods_area (omega arith) (λ e. omega arith) ∙ by-errors methods_area (omega arith) (λ e. omega arith));
        errors = cleared_zero (part a errors_area w) (by_slots errors_area (omega arith) (λ e. omega arith)
            ∙ by-methods errors_area (omega arith) (λ e. omega arith) ∙ by-constants errors_area (omega arith) (λ e. omega arith) ∙ lent_does (omega arith) f
            E);
        slots = slots_filled S f₃;
        others = λ i h q.
            by_slots i h (λ e. not_slots i q (sym e)) ∙ by-methods i h (λ e. eqb-false i methods_area (not_methods i q) (sym e))
            ∙ by-constants i h (λ e. eqb-false i constants_area (not_constants i q) (sym e)) ∙ by-errors i h (λ e. not_errors i q (sym e));
      };
}

-- the ways of `give_back`: a part more, and the slots after the last
pub back_more : (t : Totals) {i total : ℕ} {a w w₁ w₂ : List ℕ} → i < slots_part → ChangedUpTo (λ j l. given_back j (total_of t j) l) 1 i a w w₁
    → total ≡ total_of t i → LentButErrors i (λ l l'. l' ≡ given_back i total l) a w₁ w₂ → length w₂ ≡ length w₁
    → ChangedUpTo (λ j l. given_back j (total_of t j) l) 1 (i + 1) a w w₂
back_more t {i} {total} {a} {w} {w₁} {w₂} h K total_is L long =
    change_more (omega arith) K (subst (λ (n : ℕ). LentButErrors i (λ l l'. l' ≡ given_back i n l) a w₁ w₂) total_is L) long

pub gave_back : (t : Totals) {i : ℕ} {a w w₁ w₂ : List ℕ} → slots_part ≤ i → ChangedUpTo (λ j l. given_back j (total_of t j) l) 1 i a w w₁
    → ClearsSlots a w₁ w₂ → GivesBack t a w w₂
gave_back t {i} {a} {w} {w₁} {w₂} past K C = record {
  on = λ f.
      let f₁ : Fits a (length w₁) = rw K.long f in
      let S = slots_lent f₁ C in
      let stays = lent_other (omega arith) f₁ S in
      let done = K.done f in
      record {
        long = lent_length (omega arith) f₁ S ∙ K.long;
        constants = stays constants_area (omega arith) (λ e. omega arith) ∙ done constants_area (omega arith) (omega arith) (λ e. omega arith);
        methods = stays methods_area (omega arith) (λ e. omega arith) ∙ done methods_area (omega arith) (omega arith) (λ e. omega arith);
        errors = stays errors_area (omega arith) (λ e. omega arith) ∙ K.errors f;
        slots = slots_zero f₁ C;
        others = λ j lo hi q.
            stays j (omega arith) (λ e. omega (arith, e, hi)) ∙ done j (omega arith) (omega arith) (not_errors j q)
            ∙ rw (not_constants j q, not_methods j q) refl;
      };
}
