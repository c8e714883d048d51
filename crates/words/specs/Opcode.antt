-- `runtime/opcode.rs`: opcodes, operations and the instruction word (01, 'Emission': opcode × 2^56 + operand). Opcodes whose names the tree has too end
-- in `Op`
use Rattle.std.specs.Prelude.{ℕ, ◌+◌, ◌*◌, ◌/◌, ◌%◌, ◌^◌}

pub record Instruction : Type 0 where
  pub opcode : ℕ
  pub operand : ℕ

-- `OpCode::to_instruction`
abbrev pub to_instruction : ℕ → ℕ → Instruction
to_instruction o n = record { opcode = o; operand = n }

-- the instruction's word: of an operand its low 56 bits, and every operand that is emitted has no others (docs/DIFFERENCES.md)
unfoldable pub word : Instruction → ℕ
word i = i.opcode * 2 ^ 56 + i.operand % 2 ^ 56

-- `Instruction::opcode`, by its number, and `Instruction::operand`, of a word of 64 bits
unfoldable pub unword : ℕ → Instruction
unword w = record { opcode = w / 2 ^ 56; operand = w % 2 ^ 56 }

abbrev pub Pop : ℕ
Pop = 0x01

-- operand: constant
abbrev pub PushConstant : ℕ
PushConstant = 0x02

abbrev pub ReturnOp : ℕ
ReturnOp = 0x05

-- operand: local
abbrev pub LocalSet : ℕ
LocalSet = 0x06

abbrev pub LocalGet : ℕ
LocalGet = 0x07

abbrev pub LocalInit : ℕ
LocalInit = 0x08

-- operand: context local
abbrev pub ContextSet : ℕ
ContextSet = 0x0C

abbrev pub ContextGet : ℕ
ContextGet = 0x0D

-- operand: constant, a global's name
abbrev pub GlobalSet : ℕ
GlobalSet = 0x11

abbrev pub GlobalGet : ℕ
GlobalGet = 0x12

abbrev pub InstanceSet : ℕ
InstanceSet = 0x13

abbrev pub InstanceGetOp : ℕ
InstanceGetOp = 0x14

abbrev pub IndexSet : ℕ
IndexSet = 0x15

abbrev pub IndexGetOp : ℕ
IndexGetOp = 0x16

-- operand: operation
abbrev pub Operation : ℕ
Operation = 0x21

abbrev pub Not : ℕ
Not = 0x22

abbrev pub Negative : ℕ
Negative = 0x23

abbrev pub Closure : ℕ
Closure = 0x31

-- operand: count of parameters
abbrev pub CallOp : ℕ
CallOp = 0x32

-- operand: count of values
abbrev pub ArrayOp : ℕ
ArrayOp = 0x36

abbrev pub PushNewMap : ℕ
PushNewMap = 0x41

-- operand: position in the function
abbrev pub Jump : ℕ
Jump = 0x51

abbrev pub JumpIf : ℕ
JumpIf = 0x52

-- operand: local, the enumerable
abbrev pub ForNext : ℕ
ForNext = 0x56

-- operand: local, the iterator
abbrev pub Iterate : ℕ
Iterate = 0x57

-- the operations, in the Rust's order
abbrev pub OPERATION_ADD : ℕ
OPERATION_ADD = 0

abbrev pub OPERATION_SUB : ℕ
OPERATION_SUB = 1

abbrev pub OPERATION_MULTIPLY : ℕ
OPERATION_MULTIPLY = 2

abbrev pub OPERATION_DIVIDE : ℕ
OPERATION_DIVIDE = 3

abbrev pub OPERATION_MOD : ℕ
OPERATION_MOD = 4

abbrev pub OPERATION_EQUAL : ℕ
OPERATION_EQUAL = 5

abbrev pub OPERATION_GREATER : ℕ
OPERATION_GREATER = 6

abbrev pub OPERATION_LESS : ℕ
OPERATION_LESS = 7

abbrev pub OPERATION_GREATER_EQUAL : ℕ
OPERATION_GREATER_EQUAL = 8

abbrev pub OPERATION_LESS_EQUAL : ℕ
OPERATION_LESS_EQUAL = 9

abbrev pub OPERATION_AND : ℕ
OPERATION_AND = 257

abbrev pub OPERATION_OR : ℕ
OPERATION_OR = 258

-- no instruction: what the last of an empty list is taken for
abbrev pub nothing : Instruction
nothing = record { opcode = 0; operand = 0 }
