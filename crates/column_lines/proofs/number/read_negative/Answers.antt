-- `read_negative` meets its contract. Assumes nothing.
use Rattle.std.proofs.Common.{◌∙◌, sym, arith, eqb-true, true, false, ap, Some}
use Rattle.column_lines.proofs.Integers.{word_held}
use Rattle.column_lines.proofs.Reading.{number_none, zero_signed, digits_start, negative_end, not_zero, some_bytes}
use Rattle.column_lines.proofs.number.read_negative.Goals as goal
use Rattle.column_lines.proofs.number.read_negative.Goals.{then-is_empty-via-then-is_empty, then-is_empty-via-else-is_empty+then-bytes-eq-NO_FIRST_DIGIT}

pub returns-then-is_empty : goal.returns-then-is_empty
returns-then-is_empty c = elim c.then-is_empty.branch [
  | then-is_empty-via-then-is_empty w ↦ number_none true true c.args.bytes.now (eqb-true _ _ (sym c.is_empty.ensures ∙ w.if-is_empty.true))
  | then-is_empty-via-else-is_empty+then-bytes-eq-NO_FIRST_DIGIT w ↦ zero_signed true c.args.bytes.now
      (some_bytes _ c.is_empty.ensures w.if-is_empty.false) w.if-bytes-eq-NO_FIRST_DIGIT.true
]

pub returns-in_err-integer : goal.returns-in_err-integer
returns-in_err-integer c =
    let large = c.in_err-integer.ensures in
    c.from_residual.ensures ∙ sym (digits_start true true c.args.bytes.now
    (some_bytes _ c.is_empty.ensures c.if-is_empty.false) c.if-bytes-eq-NO_FIRST_DIGIT.false ∙ large true true (omega arith))

pub returns : goal.returns
returns c =
    let read = c.in_ok-integer.ensures in
    let some = not_zero c.args.bytes.now _ (some_bytes _ c.is_empty.ensures c.if-is_empty.false) c.if-bytes-eq-NO_FIRST_DIGIT.false
    (read.1 false false) read.0.1 in
    ap Some (c.word_of_integer.ensures ∙ word_held c.in_ok-integer.integer read.0.0 read.0.1 some)
    ∙ sym (digits_start true true c.args.bytes.now (some_bytes _ c.is_empty.ensures c.if-is_empty.false) c.if-bytes-eq-NO_FIRST_DIGIT.false
    ∙ read.1 true true ∙ negative_end true _ read.0.1)
