-- `slot_row` gives the row at a number by its key, and 0 where no key is: each row is that of the table. Assumes nothing.
use mathlib.Core.Path.{sym, ap, ◌∙◌}
use Rattle.tree.proofs.Tables.{slot_at, no_slot}
use borrow.Author.Rules.{rules}
use Rattle.tree.proofs.slot_row.Goals as goal

pub returns-in-1 : goal.returns-in-1
returns-in-1 c = c.new.ensures ∙ sym (ap slot_at c.in-1.is)

pub returns-in-2 : goal.returns-in-2
returns-in-2 c = c.new-in-2.ensures ∙ sym (ap slot_at c.in-2.is)

pub returns-in-3 : goal.returns-in-3
returns-in-3 c = c.new-in-3.ensures ∙ sym (ap slot_at c.in-3.is)

pub returns-in-4 : goal.returns-in-4
returns-in-4 c = c.new-in-4.ensures ∙ sym (ap slot_at c.in-4.is)

pub returns-in-5 : goal.returns-in-5
returns-in-5 c = c.new-in-5.ensures ∙ sym (ap slot_at c.in-5.is)

pub returns-in-6 : goal.returns-in-6
returns-in-6 c = c.new-in-6.ensures ∙ sym (ap slot_at c.in-6.is)

pub returns-in-7 : goal.returns-in-7
returns-in-7 c = c.new-in-7.ensures ∙ sym (ap slot_at c.in-7.is)

pub returns-in-8 : goal.returns-in-8
returns-in-8 c = c.new-in-8.ensures ∙ sym (ap slot_at c.in-8.is)

pub returns-in-9 : goal.returns-in-9
returns-in-9 c = c.new-in-9.ensures ∙ sym (ap slot_at c.in-9.is)

pub returns-in-10 : goal.returns-in-10
returns-in-10 c = c.new-in-10.ensures ∙ sym (ap slot_at c.in-10.is)

pub returns-in-11 : goal.returns-in-11
returns-in-11 c = c.new-in-11.ensures ∙ sym (ap slot_at c.in-11.is)

pub returns-in-12 : goal.returns-in-12
returns-in-12 c = c.new-in-12.ensures ∙ sym (ap slot_at c.in-12.is)

pub returns-in-13 : goal.returns-in-13
returns-in-13 c = c.new-in-13.ensures ∙ sym (ap slot_at c.in-13.is)

pub returns-in-14 : goal.returns-in-14
returns-in-14 c = c.new-in-14.ensures ∙ sym (ap slot_at c.in-14.is)

pub returns-in-15 : goal.returns-in-15
returns-in-15 c = c.new-in-15.ensures ∙ sym (ap slot_at c.in-15.is)

pub returns-in-16 : goal.returns-in-16
returns-in-16 c = c.new-in-16.ensures ∙ sym (ap slot_at c.in-16.is)

pub returns-in-17 : goal.returns-in-17
returns-in-17 c = c.new-in-17.ensures ∙ sym (ap slot_at c.in-17.is)

pub returns-in-18 : goal.returns-in-18
returns-in-18 c = c.new-in-18.ensures ∙ sym (ap slot_at c.in-18.is)

pub returns-in-19 : goal.returns-in-19
returns-in-19 c = c.new-in-19.ensures ∙ sym (ap slot_at c.in-19.is)

pub returns-in-20 : goal.returns-in-20
returns-in-20 c = c.new-in-20.ensures ∙ sym (ap slot_at c.in-20.is)

pub returns-in-21 : goal.returns-in-21
returns-in-21 c = c.new-in-21.ensures ∙ sym (ap slot_at c.in-21.is)

pub returns-in-22 : goal.returns-in-22
returns-in-22 c = c.new-in-22.ensures ∙ sym (ap slot_at c.in-22.is)

pub returns-in-23 : goal.returns-in-23
returns-in-23 c = c.new-in-23.ensures ∙ sym (ap slot_at c.in-23.is)

pub returns-in_default : goal.returns-in_default
returns-in_default c = c.new-in_default.ensures ∙ no_slot c.args.slot (search rules)
