-- `undo::marks::marks_anew` meets its contract. The invariant: the entries so far are done and the words behind them are as they were. Assumes nothing.
use Rattle.undo.specs.Turns.{mark_anew, Done}
use Rattle.undo.proofs.marks.marks_anew.Given as goal

abbrev pub invariant-loop-i : goal.invariant-loop-i
invariant-loop-i l = Done (mark_anew l.step l.count) l.i l.initial.constants l.constants
