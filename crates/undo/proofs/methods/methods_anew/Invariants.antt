-- `undo::methods::methods_anew` meets its contract. The invariant: the entries so far are done and the words behind them are as they were. Assumes nothing.
use Rattle.undo.specs.Turns.{method_anew, Done}
use Rattle.undo.proofs.methods.methods_anew.Given as goal

abbrev pub invariant-loop-i : goal.invariant-loop-i
invariant-loop-i l = Done (method_anew l.step l.stood) l.i l.initial.methods l.methods
