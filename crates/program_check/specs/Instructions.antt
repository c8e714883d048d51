-- What an instruction asks of each function that has it, as two numbers: the length that its jump needs and the locals that it needs. Also the classes
-- of operands as the code has them
use Rattle.std.specs.Prelude.{ℕ, ◌+◌, cond, eqb}
use Rattle.words.specs.Opcode.{unword}
use Rattle.program_check.specs.declared.instructions.Class as code
use Rattle.program_check.specs.declared.instructions.Class.TheVariants as kinds
use Rattle.definition.specs.Within.{Class, Position, Slot, Read, Pool, ContextSlot, Other, class_of}

-- "every jump lands in its function or just behind it"
abbrev pub jump_by : Class → ℕ → ℕ
jump_by Position n = n
jump_by Slot n = 0
jump_by Read n = 0
jump_by Pool n = 0
jump_by ContextSlot n = 0
jump_by Other n = 0

-- "every local number names a local of its function"; any LocalGet 0 is taken for a `this` read
abbrev pub locals_by : Class → ℕ → ℕ
locals_by Position n = 0
locals_by Slot n = n + 1
locals_by Read n = cond (eqb n 0) 0 (n + 1)
locals_by Pool n = 0
locals_by ContextSlot n = 0
locals_by Other n = 0

unfoldable pub jump_of : ℕ → ℕ
unfolding unword
jump_of w = jump_by (class_of (unword w).opcode) (unword w).operand

unfoldable pub locals_needed : ℕ → ℕ
unfolding unword
locals_needed w = locals_by (class_of (unword w).opcode) (unword w).operand

-- the classes as the code has them
abbrev pub class_in : Class → code.Class
class_in Position = kinds.Position
class_in Slot = kinds.Slot
class_in Read = kinds.Read
class_in Pool = kinds.Pool
class_in ContextSlot = kinds.ContextSlot
class_in Other = kinds.Other
