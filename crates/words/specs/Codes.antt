-- The types that `src/opcode.rt` declares for `runtime/opcode.rs`: the number of each `OpCode`, and the word that an `Instruction` is
use Rattle.std.specs.Prelude.{ℕ, ◌/◌, ◌%◌, ◌^◌, cond, List, [], ◌∷◌, eqb}
use Rattle.words.specs.declared.opcode.Instruction.{Instruction}
use Rattle.words.specs.declared.opcode.OpCode.{OpCode}
use Rattle.words.specs.declared.opcode.OpCode.TheVariants.{
  Pop,
  PushConstant,
  Return,
  LocalSet,
  LocalGet,
  LocalInit,
  ContextSet,
  ContextGet,
  GlobalSet,
  GlobalGet,
  InstanceSet,
  InstanceGet,
  IndexSet,
  IndexGet,
  Operation,
  Not,
  Negative,
  Closure,
  Call,
  Array,
  PushNewMap,
  Jump,
  JumpIf,
  ForNext,
  Iterate,
  Unknown,
}
use Rattle.words.specs.declared.opcode.Operation.{Operation as TheOperation}
use Rattle.words.specs.declared.opcode.Operation.TheVariants as operation
use Rattle.words.specs.Opcode as number

-- each opcode's number, as in `opcode.rs`
abbrev pub number_of : OpCode → ℕ
number_of Pop = number.Pop
number_of PushConstant = number.PushConstant
number_of Return = number.ReturnOp
number_of LocalSet = number.LocalSet
number_of LocalGet = number.LocalGet
number_of LocalInit = number.LocalInit
number_of ContextSet = number.ContextSet
number_of ContextGet = number.ContextGet
number_of GlobalSet = number.GlobalSet
number_of GlobalGet = number.GlobalGet
number_of InstanceSet = number.InstanceSet
number_of InstanceGet = number.InstanceGetOp
number_of IndexSet = number.IndexSet
number_of IndexGet = number.IndexGetOp
number_of Operation = number.Operation
number_of Not = number.Not
number_of Negative = number.Negative
number_of Closure = number.Closure
number_of Call = number.CallOp
number_of Array = number.ArrayOp
number_of PushNewMap = number.PushNewMap
number_of Jump = number.Jump
number_of JumpIf = number.JumpIf
number_of ForNext = number.ForNext
number_of Iterate = number.Iterate
number_of Unknown = 0xFF

-- each operation's number, as in `opcode.rs`
abbrev pub number_of_operation : TheOperation → ℕ
number_of_operation operation.Add = number.OPERATION_ADD
number_of_operation operation.Sub = number.OPERATION_SUB
number_of_operation operation.Multiply = number.OPERATION_MULTIPLY
number_of_operation operation.Divide = number.OPERATION_DIVIDE
number_of_operation operation.Mod = number.OPERATION_MOD
number_of_operation operation.Equal = number.OPERATION_EQUAL
number_of_operation operation.Greater = number.OPERATION_GREATER
number_of_operation operation.Less = number.OPERATION_LESS
number_of_operation operation.GreaterEqual = number.OPERATION_GREATER_EQUAL
number_of_operation operation.LessEqual = number.OPERATION_LESS_EQUAL
number_of_operation operation.And = number.OPERATION_AND
number_of_operation operation.Or = number.OPERATION_OR

-- every opcode but `Unknown`
abbrev pub opcodes : List OpCode
opcodes =
    Pop ∷ PushConstant ∷ Return ∷ LocalSet ∷ LocalGet ∷ LocalInit ∷ ContextSet ∷ ContextGet ∷ GlobalSet ∷ GlobalGet ∷ InstanceSet ∷ InstanceGet
    ∷ IndexSet ∷ IndexGet ∷ Operation ∷ Not ∷ Negative ∷ Closure ∷ Call ∷ Array ∷ PushNewMap ∷ Jump ∷ JumpIf ∷ ForNext ∷ Iterate ∷ []

-- the opcode among some that has a number; `Unknown` for none
abbrev pub opcode_in : List OpCode → ℕ → OpCode
opcode_in [] n = Unknown
opcode_in (o ∷ os) n = cond (eqb n (number_of o)) o (opcode_in os n)

-- `Instruction::opcode`, of the number in the word's high 8 bits
unfoldable pub opcode_of : ℕ → OpCode
opcode_of n = opcode_in opcodes n

-- the word that an instruction is
abbrev pub code_word : Instruction → ℕ
code_word i = i.0

-- what a word of code memory is read as: its opcode, or `Unknown` with its operand
unfoldable pub read_word : ℕ → ℕ
read_word w = number.word (number.to_instruction (number_of (opcode_of (w / 2 ^ 56))) (w % 2 ^ 56))
