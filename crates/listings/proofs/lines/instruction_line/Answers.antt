-- `instruction_line` meets its contract: the word is read as an instruction and taken apart. Assumes nothing.
use Prim.Native.Nat.{ℕ}
use mathlib.Core.Path.{◌≡◌, sym, ap, ◌∙◌}
use Rattle.words.specs.Areas.{entry_field}
use Rattle.words.specs.Codes.{opcode_of}
use Rattle.words.specs.Opcode.{unword}
use Rattle.words.specs.Program.{instruction_word}
use Rattle.words.proofs.Codes.{read_opcode, read_operand}
use Rattle.listings.proofs.lines.instruction_line.Goals as goal

pub opcode_number-requires : goal.opcode_number-requires
unfolding entry_field
opcode_number-requires c =
    c.opcode-opcode.ensures ∙ ap (λ (w : ℕ). opcode_of (unword w).opcode) c.instruction_at-instruction.ensures ∙ read_opcode
    (instruction_word c.args.part.now c.args.i)
    ∙ ap (λ (w : ℕ). opcode_of (unword w).opcode) (sym c.entry_word-word.ensures)

pub returns : goal.returns
unfolding entry_field unword
returns c =
    let operand : c.operand.result ≡ (unword (instruction_word c.args.part.now c.args.i)).operand =
    c.operand.ensures ∙ ap (λ (w : ℕ). (unword w).operand) c.instruction_at-instruction.ensures ∙ read_operand (instruction_word c.args.part.now
    c.args.i) in
    let opcode : c.opcode_number.result ≡ (unword (instruction_word c.args.part.now c.args.i)).opcode =
    c.opcode_number.ensures ∙ ap (λ (w : ℕ). (unword w).opcode) c.entry_word-word.ensures in
    simp (
      c.number.ensures,
      operand,
      opcode,
      c.line_of.ensures,
      c.column_of.ensures,
      c.position_at-position.ensures,
      c.default.ensures.1.1.1.1.1.1.0,
      c.default.ensures.1.1.1.1.1.1.1.1,
    )
