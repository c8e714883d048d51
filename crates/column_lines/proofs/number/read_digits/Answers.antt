-- `read_digits` meets its contract. Assumes nothing.
use Rattle.std.proofs.Common.{◌∙◌, ap, sym, arith, ℕ, drop, ◌+◌}
use Rattle.column_lines.specs.Numeral.{digits_from}
use Rattle.column_lines.proofs.Reading.{digit_off, digit_next, digit_over, digits_end}
use Rattle.column_lines.proofs.number.read_digits.Goals as goal

pub returns-then-not-is_ascii_digit : goal.returns-then-not-is_ascii_digit
returns-then-not-is_ascii_digit g c = λ s n _. c.loop-b.invariant.same s n
    ∙ digit_off c.args.digits.now c.loop-b.b-index c.loop-b-test.true s n _ (sym c.is_ascii_digit.ensures.value ∙ c.if-not-is_ascii_digit.true)

pub returns-in_err-number : goal.returns-in_err-number
returns-in_err-number g c =
    let large = c.in_err-number.ensures in
    rw c.from_residual.ensures (λ s n most. c.loop-b.invariant.same s n
    ∙ digit_over c.args.digits.now c.loop-b.b-index c.loop-b-test.true s n _ (sym c.is_ascii_digit.ensures.value ∙ c.if-not-is_ascii_digit.false)
    (omega (arith, large, most)))

pub loop-b-preserved : goal.loop-b-preserved
loop-b-preserved g c = record {
  held = c.in_ok-number.ensures.0;
  same = λ s n. c.loop-b.invariant.same s n
      ∙ digit_next c.args.digits.now c.loop-b.b-index c.loop-b-test.true s n _ (sym c.is_ascii_digit.ensures.value ∙ c.if-not-is_ascii_digit.false)
      ∙ ap (λ (m : ℕ). digits_from s n m (drop (c.loop-b.b-index + 1) c.args.digits.now)) (sym c.in_ok-number.ensures.1);
}

pub returns : goal.returns
returns g c = (c.loop-b.invariant.held, λ s n. c.loop-b.invariant.same s n ∙ digits_end c.args.digits.now c.loop-b.b-index c.loop-b-test.false s n _)
