-- Opcodes, their numbers and the instruction word: reading a word gives back what was written, and a word fits 64 bits. Assumes nothing.
use Prim.Native.Nat.{ℕ, ◌/◌, ◌%◌, ◌^◌, ◌<◌}
use native.Mathlib.Omega.{arith}
use mathlib.Core.Path.{◌≡◌, refl, sym, ap, ◌∙◌}
use mathlib.Core.Bool.{Bool, true, false, cond}
use mathlib.Core.List.{List, [], ◌∷◌}
use lib.Dec.{eqb, lit<}
use borrow.Author.Tests.{eqb-true}
use Rattle.words.specs.Opcode.{Instruction, to_instruction, word, unword}
use Rattle.words.specs.Codes.{number_of, opcodes, opcode_in, opcode_of, read_word}
use Rattle.words.specs.declared.opcode.OpCode.{OpCode}
use Rattle.words.specs.declared.opcode.OpCode.TheVariants.{
  Pop,
  PushConstant,
  Return,
  LocalSet,
  LocalGet,
  LocalInit,
  ContextSet,
  ContextGet,
  GlobalSet,
  GlobalGet,
  InstanceSet,
  InstanceGet,
  IndexSet,
  IndexGet,
  Operation,
  Not,
  Negative,
  Closure,
  Call,
  Array,
  PushNewMap,
  Jump,
  JumpIf,
  ForNext,
  Iterate,
  Unknown,
}

-- an opcode's number is a byte, and its opcode is that opcode again
pub record Numbered (o : OpCode) : Type 0 where
  pub small : number_of o < 256
  pub back : opcode_of (number_of o) ≡ o

pub numbered : (o : OpCode) → Numbered o
unfolding opcode_of
numbered Pop = record { small = lit< tt; back = refl }
numbered PushConstant = record { small = lit< tt; back = refl }
numbered Return = record { small = lit< tt; back = refl }
numbered LocalSet = record { small = lit< tt; back = refl }
numbered LocalGet = record { small = lit< tt; back = refl }
numbered LocalInit = record { small = lit< tt; back = refl }
numbered ContextSet = record { small = lit< tt; back = refl }
numbered ContextGet = record { small = lit< tt; back = refl }
numbered GlobalSet = record { small = lit< tt; back = refl }
numbered GlobalGet = record { small = lit< tt; back = refl }
numbered InstanceSet = record { small = lit< tt; back = refl }
numbered InstanceGet = record { small = lit< tt; back = refl }
numbered IndexSet = record { small = lit< tt; back = refl }
numbered IndexGet = record { small = lit< tt; back = refl }
numbered Operation = record { small = lit< tt; back = refl }
numbered Not = record { small = lit< tt; back = refl }
numbered Negative = record { small = lit< tt; back = refl }
numbered Closure = record { small = lit< tt; back = refl }
numbered Call = record { small = lit< tt; back = refl }
numbered Array = record { small = lit< tt; back = refl }
numbered PushNewMap = record { small = lit< tt; back = refl }
numbered Jump = record { small = lit< tt; back = refl }
numbered JumpIf = record { small = lit< tt; back = refl }
numbered ForNext = record { small = lit< tt; back = refl }
numbered Iterate = record { small = lit< tt; back = refl }
numbered Unknown = record { small = lit< tt; back = refl }

-- the word fits 64 bits
pub word_fits : (i : Instruction) → i.opcode < 256 → word i < 2 ^ 64
unfolding word
word_fits i h = omega arith

pub word_opcode : (i : Instruction) → word i / 2 ^ 56 ≡ i.opcode
unfolding word
word_opcode i = omega arith

pub word_operand : (i : Instruction) → word i % 2 ^ 56 ≡ i.operand % 2 ^ 56
unfolding word
word_operand i = omega arith

-- what was written is read
pub unword_word : (i : Instruction) → i.operand < 2 ^ 56 → unword (word i) ≡ i
unfolding unword
unword_word i h = same (word i / 2 ^ 56) (word i % 2 ^ 56) (word_opcode i) (omega (arith, word_operand i))
  where
    same : (o n : ℕ) → o ≡ i.opcode → n ≡ i.operand → to_instruction o n ≡ i
    same o n p q = rw (p, q)

-- a word of code memory that `to_instruction` made is read as it stands
pub read_word_lem : (o : OpCode) (n : ℕ) → read_word (word (to_instruction (number_of o) n)) ≡ word (to_instruction (number_of o) n)
unfolding read_word word
read_word_lem o n =
    rw (word_opcode (to_instruction (number_of o) n), (numbered o).back)
    (omega (arith, word_operand (to_instruction (number_of o) n)))

-- taken apart, a word of code memory that was read so gives its own operand, and its own opcode or `Unknown`
pub read_operand : (w : ℕ) → (unword (read_word w)).operand ≡ (unword w).operand
unfolding read_word unword
read_operand w = omega (arith, word_operand (to_instruction (number_of (opcode_of (w / 2 ^ 56))) (w % 2 ^ 56)))

pub read_opcode : (w : ℕ) → opcode_of (unword (read_word w)).opcode ≡ opcode_of (unword w).opcode
unfolding read_word unword
read_opcode w =
    ap opcode_of (word_opcode (to_instruction (number_of (opcode_of (w / 2 ^ 56))) (w % 2 ^ 56))) ∙ (numbered (opcode_of (w / 2 ^ 56))).back

-- the opcode of a number has that number, unless it is `Unknown`
has_number : (os : List OpCode) (n : ℕ) → (opcode_in os n ≡ Unknown → ⊥) → number_of (opcode_in os n) ≡ n
has_number [] n h = absurd (h refl)
has_number (o ∷ os) n h = go (eqb n (number_of o)) refl (λ (e : eqb n (number_of o) ≡ false). has_number os n (λ (u : opcode_in os n ≡ Unknown). h (simp e u)))
  where
    go : (b : Bool) → eqb n (number_of o) ≡ b → (eqb n (number_of o) ≡ false → number_of (opcode_in os n) ≡ n) → number_of (cond b o (opcode_in os n)) ≡ n
    go true e r = sym (eqb-true n (number_of o) e)
    go false e r = r e

pub number_back : (n : ℕ) → (opcode_of n ≡ Unknown → ⊥) → number_of (opcode_of n) ≡ n
unfolding opcode_of
number_back n h = has_number opcodes n h

known_opcode : (o : OpCode) → number_of o < 255 → o ≡ Unknown → ⊥
known_opcode o l e = let z : number_of o ≡ 255 = ap number_of e in absurd (omega arith)

-- so one that is known by its case is known by its number
pub is_number : (o : OpCode) (n : ℕ) → number_of o < 255 → o ≡ opcode_of n → n ≡ number_of o
is_number o n l e = sym (number_back n (λ u. known_opcode o l (e ∙ u))) ∙ ap number_of (sym e)

pub is_opcode : (o : OpCode) (n : ℕ) → n ≡ number_of o → opcode_of n ≡ o
is_opcode o n e = ap opcode_of e ∙ (numbered o).back
