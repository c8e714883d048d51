-- `class_of` meets its contract, by the opcode that was read. Assumes nothing.
use mathlib.Core.Logic.{inl, inr}
use Rattle.words.specs.declared.opcode.OpCode.TheVariants as op
use Rattle.program_check.proofs.InstructionTests.{class_read, class_none}
use Rattle.program_check.proofs.instructions.class_of.Goals as goal

pub returns-in-Jump : goal.returns-in-Jump
returns-in-Jump c = let read = class_read c.args.opcode c.from.ensures in
    elim c.in-Jump.is [ inl p ↦ read op.Jump p | inr q2 ↦ read op.JumpIf q2 ]

pub returns-in-LocalSet : goal.returns-in-LocalSet
returns-in-LocalSet c =
    let read = class_read c.args.opcode c.from.ensures in
    elim c.in-LocalSet.is [
      | inl p ↦ read op.LocalSet p
      | inr q4 ↦ elim q4 [
        | inl p ↦ read op.LocalInit p
        | inr q3 ↦ elim q3 [ inl p ↦ read op.ForNext p | inr q2 ↦ read op.Iterate q2 ]
      ]
    ]

pub returns-in-LocalGet : goal.returns-in-LocalGet
returns-in-LocalGet c = let read = class_read c.args.opcode c.from.ensures in
    read op.LocalGet c.in-LocalGet.is

pub returns-in-PushConstant : goal.returns-in-PushConstant
returns-in-PushConstant c = let read = class_read c.args.opcode c.from.ensures in
    elim c.in-PushConstant.is [
      | inl p ↦ read op.PushConstant p
      | inr q3 ↦ elim q3 [ inl p ↦ read op.GlobalSet p | inr q2 ↦ read op.GlobalGet q2 ]
    ]

pub returns-in-ContextSet : goal.returns-in-ContextSet
returns-in-ContextSet c = let read = class_read c.args.opcode c.from.ensures in
    elim c.in-ContextSet.is [ inl p ↦ read op.ContextSet p | inr q2 ↦ read op.ContextGet q2 ]

pub returns-in_default : goal.returns-in_default
returns-in_default c =
    let d = c.in_default in
    class_none c.args.opcode c.from.ensures d.not-PushConstant d.not-LocalSet d.not-LocalGet d.not-LocalInit d.not-ContextSet d.not-ContextGet
    d.not-GlobalSet d.not-GlobalGet d.not-Jump d.not-JumpIf d.not-ForNext d.not-Iterate
