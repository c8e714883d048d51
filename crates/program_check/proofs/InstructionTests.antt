-- Instructions by themselves: what the code reads off a word is what the definition does. Assumes nothing.
use Prim.Native.Nat.{ℕ, ◌+◌, ◌/◌, ◌%◌, ◌^◌}
use native.Mathlib.Decide.{ℕ_discrete}
use mathlib.Core.Path.{◌≡◌, refl, sym, ap, ◌∙◌}
use mathlib.Core.Bool.{Bool, true, false, ◌&&◌, false≢true}
use mathlib.Core.List.{List, [], ◌∷◌, map}
use lib.Dec.{eqb, ltb}
use borrow.Author.Tests.{eq-eqb, ne_eqb}
use Rattle.words.specs.Areas.{entry_field}
use Rattle.words.specs.Opcode.{unword}
use Rattle.words.specs.Record.{in_place}
use Rattle.words.specs.Codes as codes
use Rattle.words.specs.Codes.{number_of, opcode_in, opcode_of}
use Rattle.words.specs.declared.opcode.OpCode.{OpCode}
use Rattle.words.specs.declared.opcode.OpCode.TheVariants as op
use Rattle.words.specs.declared.reply.Totals.{Totals}
use Rattle.definition.specs.Book.{has_text}
use Rattle.definition.specs.Within.{Areas, Class, Position, Slot, Read, Pool, ContextSlot, Other, class_of, where', bound_by_totals}
use Rattle.definition.specs.ProgramCheck.{opcodes, is_operation}
use Rattle.program_check.specs.declared.instructions.Class as code
use Rattle.program_check.specs.declared.instructions.Class.TheVariants as kinds
use Rattle.program_check.specs.Instructions.{class_in, jump_by, locals_by, jump_of, locals_needed}
use Rattle.program_check.specs.Parts.{lent, alone, entry_fine}

-- the opcode that has a number
found : (os : List OpCode) (n : ℕ) → has_text n (map number_of os) ≡ true → number_of (opcode_in os n) ≡ n
found [] n e = absurd (false≢true e)
found (o ∷ os) n e = go (ℕ_discrete (number_of o) n) (found os n)
  where
    go : Dec (number_of o ≡ n) → (has_text n (map number_of os) ≡ true → number_of (opcode_in os n) ≡ n) → number_of (opcode_in (o ∷ os) n) ≡ n
    go (yes q) f = rw (eq-eqb n (number_of o) (sym q)) q
    go (no q) f = rw (ne_eqb n (number_of o) (λ r. q (sym r))) (f (simp (ne_eqb (number_of o) n q) at e))

lost : (os : List OpCode) (n : ℕ) → has_text n (map number_of os) ≡ false → opcode_in os n ≡ op.Unknown
lost [] n e = refl
lost (o ∷ os) n e = go (ℕ_discrete (number_of o) n) (lost os n)
  where
    go : Dec (number_of o ≡ n) → (has_text n (map number_of os) ≡ false → opcode_in os n ≡ op.Unknown) → opcode_in (o ∷ os) n ≡ op.Unknown
    go (yes q) f = absurd (false≢true (sym (simp (eq-eqb (number_of o) n q) at e)))
    go (no q) f = rw (ne_eqb n (number_of o) (λ r. q (sym r))) (f (simp (ne_eqb (number_of o) n q) at e))

-- a number that no opcode has
none_of : (n : ℕ) → has_text n opcodes ≡ false → class_of n ≡ Other
none_of n h =
    simp (
      other 0x51 refl,
      other 0x52 refl,
      other 0x07 refl,
      other 0x06 refl,
      other 0x08 refl,
      other 0x56 refl,
      other 0x57 refl,
      other 0x02 refl,
      other 0x11 refl,
      other 0x12 refl,
      other 0x0C refl,
      other 0x0D refl,
    )
  where
    other : (k : ℕ) → has_text k opcodes ≡ true → eqb n k ≡ false
    other k e = ne_eqb n k (λ q. false≢true (sym h ∙ ap (λ m. has_text m opcodes) q ∙ e))

class_is : (n : ℕ) → class_of (number_of (opcode_of n)) ≡ class_of n
unfolding opcode_of
class_is n = go (has_text n opcodes) refl
  where
    go : (b : Bool) → has_text n opcodes ≡ b → class_of (number_of (opcode_in codes.opcodes n)) ≡ class_of n
    go true e = ap class_of (found codes.opcodes n e)
    go false e = ap (λ o. class_of (number_of o)) (lost codes.opcodes n e) ∙ sym (none_of n e)

-- the class of an opcode that was read
module _ (n : ℕ) {o : OpCode} (e : o ≡ opcode_of n) where
  pub class_read : (p : OpCode) → o ≡ p → class_in (class_of (number_of p)) ≡ class_in (class_of n)
  class_read p q = ap (λ x. class_in (class_of (number_of x))) (sym q ∙ e) ∙ ap class_in (class_is n)

  pub class_none : (o ≡ op.PushConstant → ⊥) → (o ≡ op.LocalSet → ⊥) → (o ≡ op.LocalGet → ⊥)
      → (o ≡ op.LocalInit → ⊥) → (o ≡ op.ContextSet → ⊥) → (o ≡ op.ContextGet → ⊥)
      → (o ≡ op.GlobalSet → ⊥) → (o ≡ op.GlobalGet → ⊥) → (o ≡ op.Jump → ⊥) → (o ≡ op.JumpIf → ⊥) → (o ≡ op.ForNext → ⊥) → (o ≡ op.Iterate → ⊥)
      → kinds.Other ≡ class_in (class_of n)
  class_none n0 n1 n2 n3 n4 n5 n6 n7 n8 n9 n10 n11 = go o refl ∙ class_read o refl
    where
      go : (p : OpCode) → o ≡ p → kinds.Other ≡ class_in (class_of (number_of p))
      go op.Pop q = refl
      go op.PushConstant q = absurd (n0 q)
      go op.Return q = refl
      go op.LocalSet q = absurd (n1 q)
      go op.LocalGet q = absurd (n2 q)
      go op.LocalInit q = absurd (n3 q)
      go op.ContextSet q = absurd (n4 q)
      go op.ContextGet q = absurd (n5 q)
      go op.GlobalSet q = absurd (n6 q)
      go op.GlobalGet q = absurd (n7 q)
      go op.InstanceSet q = refl
      go op.InstanceGet q = refl
      go op.IndexSet q = refl
      go op.IndexGet q = refl
      go op.Operation q = refl
      go op.Not q = refl
      go op.Negative q = refl
      go op.Closure q = refl
      go op.Call q = refl
      go op.Array q = refl
      go op.PushNewMap q = refl
      go op.Jump q = absurd (n8 q)
      go op.JumpIf q = absurd (n9 q)
      go op.ForNext q = absurd (n10 q)
      go op.Iterate q = absurd (n11 q)
      go op.Unknown q = refl

pub unknown_is : (n : ℕ) {o : OpCode} → o ≡ opcode_of n → o ≡ op.Unknown → false ≡ has_text n opcodes
unfolding opcode_of
unknown_is n e u = go (has_text n opcodes) refl
  where
    go : (b : Bool) → has_text n opcodes ≡ b → false ≡ b
    go true q = absurd (false≢true (ap (λ m. has_text m opcodes) (ap number_of (sym u ∙ e) ∙ found codes.opcodes n q) ∙ q))
    go false q = refl

pub known_is : (n : ℕ) {o : OpCode} → o ≡ opcode_of n → (o ≡ op.Unknown → ⊥) → true ≡ has_text n opcodes
unfolding opcode_of
known_is n e u = go (has_text n opcodes) refl
  where
    go : (b : Bool) → has_text n opcodes ≡ b → true ≡ b
    go true q = refl
    go false q = absurd (u (e ∙ lost codes.opcodes n q))

-- a class as the code has it
abbrev class_back : code.Class → Class
class_back kinds.Position = Position
class_back kinds.Slot = Slot
class_back kinds.Read = Read
class_back kinds.Pool = Pool
class_back kinds.ContextSlot = ContextSlot
class_back kinds.Other = Other

back_is : (k : Class) → class_back (class_in k) ≡ k
back_is Position = refl
back_is Slot = refl
back_is Read = refl
back_is Pool = refl
back_is ContextSlot = refl
back_is Other = refl

class_told : (k : Class) {c d : code.Class} → c ≡ class_in k → c ≡ d → class_back d ≡ k
class_told k e q = ap class_back (sym q ∙ e) ∙ back_is k

-- the bounds by totals
pub totals_same : (k : Class) (x y : Areas) (t : Totals) (n : ℕ) → bound_by_totals k (lent x t) n ≡ bound_by_totals k (lent y t) n
totals_same Pool x y t n = refl
totals_same ContextSlot x y t n = refl
totals_same Position x y t n = refl
totals_same Slot x y t n = refl
totals_same Read x y t n = refl
totals_same Other x y t n = refl

module _ (k : Class) (t : Totals) (n : ℕ) {c : code.Class} (e : c ≡ class_in k) where
  pub pool_bound : c ≡ kinds.Pool → ltb n t.constants ≡ bound_by_totals k (lent [] t) n
  pool_bound q = ap (λ k. bound_by_totals k (lent [] t) n) (class_told k e q)

  pub context_bound : c ≡ kinds.ContextSlot → ltb n t.context_locals ≡ bound_by_totals k (lent [] t) n
  context_bound q = ap (λ k. bound_by_totals k (lent [] t) n) (class_told k e q)

  pub no_bound : (c ≡ kinds.Pool → ⊥) → (c ≡ kinds.ContextSlot → ⊥) → true ≡ bound_by_totals k (lent [] t) n
  no_bound p s = go k e
    where
      go : (k : Class) → c ≡ class_in k → true ≡ bound_by_totals k (lent [] t) n
      go Position e = refl
      go Slot e = refl
      go Read e = refl
      go Pool e = absurd (p e)
      go ContextSlot e = absurd (s e)
      go Other e = refl

pub code_fine : (w : List ℕ) (i : ℕ) (t : Totals) {word position : ℕ} {within operates operation known place : Bool}
    → word ≡ entry_field 2 i 0 w → position ≡ entry_field 2 i 1 w
    → within ≡ bound_by_totals (class_of (word / 2 ^ 56)) (lent [] t) (word % 2 ^ 56)
    → operates ≡ is_operation (word % 2 ^ 56) → operation ≡ where' (eqb (word / 2 ^ 56) 0x21) operates
    → known ≡ has_text (word / 2 ^ 56) opcodes → place ≡ in_place position
    → within && ((known && operation) && place) ≡ entry_fine (alone 1 w t) 1 i
unfolding entry_field unword
code_fine w i t {word} {position} a b d f g h j =
    rw (d, totals_same (class_of (word / 2 ^ 56)) [] (alone 1 w t).areas t (word % 2 ^ 56), g, f, h, j, a, b)

-- an instruction's jump and locals
module _ (w : ℕ) {c : code.Class} (e : c ≡ class_in (class_of (w / 2 ^ 56))) where
  pub jump_is : c ≡ kinds.Position → w % 2 ^ 56 ≡ jump_of w
  unfolding jump_of unword
  jump_is q = ap (λ k. jump_by k (w % 2 ^ 56)) (class_told (class_of (w / 2 ^ 56)) e q)

  pub jump_none : (c ≡ kinds.Position → ⊥) → 0 ≡ jump_of w
  unfolding jump_of unword
  jump_none p = go (class_of (w / 2 ^ 56)) e
    where
      go : (k : Class) → c ≡ class_in k → 0 ≡ jump_by k (w % 2 ^ 56)
      go Position e = absurd (p e)
      go Slot e = refl
      go Read e = refl
      go Pool e = refl
      go ContextSlot e = refl
      go Other e = refl

  pub slot_needs : c ≡ kinds.Slot → w % 2 ^ 56 + 1 ≡ locals_needed w
  unfolding locals_needed unword
  slot_needs q = ap (λ k. locals_by k (w % 2 ^ 56)) (class_told (class_of (w / 2 ^ 56)) e q)

  pub read_needs : c ≡ kinds.Read → (w % 2 ^ 56 ≡ 0 → ⊥) → w % 2 ^ 56 + 1 ≡ locals_needed w
  unfolding locals_needed unword
  read_needs q z =
      let read : locals_by Read (w % 2 ^ 56) ≡ w % 2 ^ 56 + 1 = rw (ne_eqb (w % 2 ^ 56) 0 z) refl in
      sym read ∙ ap (λ k. locals_by k (w % 2 ^ 56)) (class_told (class_of (w / 2 ^ 56)) e q)

  pub none_needs : (c ≡ kinds.Slot → ⊥) → (c ≡ kinds.Read → w % 2 ^ 56 ≡ 0) → 0 ≡ locals_needed w
  unfolding locals_needed unword
  none_needs p z = go (class_of (w / 2 ^ 56)) e
    where
      go : (k : Class) → c ≡ class_in k → 0 ≡ locals_by k (w % 2 ^ 56)
      go Position e = refl
      go Slot e = absurd (p e)
      go Read e = rw (eq-eqb (w % 2 ^ 56) 0 (z e)) refl
      go Pool e = refl
      go ContextSlot e = refl
      go Other e = refl
