-- `area_passes` meets its contract, by the area. Assumes nothing.
use native.Mathlib.Omega.{arith}
use mathlib.Core.Logic.{inl, inr}
use Rattle.program_check.proofs.WholeTests.{passes_1, passes_2, passes_3, passes_6, passes_8, passes_9, passes_10, passes_12, passes_by_entries}
use Rattle.program_check.proofs.whole.area_passes.Goals as goal

pub returns-in-1 : goal.returns-in-1
returns-in-1 c = passes_1 c.args.starts.now c.args.memory.now c.args.totals c.part_of-words.ensures c.in-1.is c.part_of.ensures c.code_area.ensures

pub returns-in-2 : goal.returns-in-2
returns-in-2 c = passes_2 c.args.starts.now c.args.memory.now c.args.totals c.part_of-words.ensures c.in-2.is c.constants_area.ensures

pub returns-in-3 : goal.returns-in-3
returns-in-3 c = passes_3 c.args.starts.now c.args.memory.now c.args.totals c.part_of-words.ensures c.in-3.is c.functions_area.ensures

pub returns-in-6 : goal.returns-in-6
returns-in-6 c =
    elim c.in-6.is [
      | inl a ↦ passes_6 c.args.starts.now c.args.memory.now c.args.totals c.part_of-words.ensures a c.keyed_area.ensures
      | inr a ↦ passes_8 c.args.starts.now c.args.memory.now c.args.totals c.part_of-words.ensures a c.keyed_area.ensures
    ]

pub returns-in-12 : goal.returns-in-12
returns-in-12 c = passes_12 c.args.starts.now c.args.memory.now c.args.totals c.part_of-words.ensures c.in-12.is c.keyed_area-in-12.ensures

pub returns-in-9 : goal.returns-in-9
returns-in-9 c = passes_9 c.args.starts.now c.args.memory.now c.args.totals c.part_of-words.ensures c.in-9.is c.empty_area.ensures

pub returns-in-10 : goal.returns-in-10
returns-in-10 c = passes_10 c.args.starts.now c.args.memory.now c.args.totals c.part_of-words.ensures c.in-10.is c.empty_area-in-10.ensures

pub returns-in_default : goal.returns-in_default
returns-in_default c =
    passes_by_entries c.args.starts.now c.args.memory.now c.args.totals c.part_of-words.ensures c.requires (λ q. omega arith) (λ q. omega arith)
    (λ q. omega arith) (λ q. grind arith) (λ q. grind arith) (λ q. omega arith) (λ q. omega arith) (λ q. omega arith) c.entries_fine.ensures
