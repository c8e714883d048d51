-- `write_digits` meets its contract. The invariant: what is left of the number, before k, makes the whole field. Assumes nothing.
use Rattle.std.proofs.Common.{length}
use Rattle.column_lines.proofs.Writing.{Writing}
use Rattle.column_lines.proofs.number.write_digits.Given as goal

abbrev pub invariant-loop-k : goal.invariant-loop-k
invariant-loop-k g l =
    let n = g.N.Digits in
    record { held : n.IsHeld l.rest; written : Writing l.negative (n.size l.fn.number) (length l.initial.out) l.out l.k (n.size l.rest) }
