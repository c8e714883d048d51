-- `read_digits` meets its contract. The invariant: all the digits give what the number and the digits from here on give. Assumes nothing.
use Rattle.std.proofs.Common.{◌≡◌, Bool, drop}
use Rattle.column_lines.specs.Numeral.{digits_from}
use Rattle.column_lines.proofs.number.read_digits.Given as goal

abbrev pub invariant-loop-b : goal.invariant-loop-b
invariant-loop-b g l =
    let n = g.N.Digits in
    record {
      held : n.IsHeld l.number;
      same : (signed negative : Bool) → digits_from signed negative 0 l.digits ≡ digits_from signed negative (n.size l.number) (drop l.b-index l.digits);
    }
