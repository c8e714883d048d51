-- `read_number` meets its contract: its blanks, then a sign where one may be. Assumes nothing.
use Rattle.std.proofs.Common.{◌∙◌, sym, arith, length, ap, List, ℕ, ◌+◌, true, false}
use Rattle.std.proofs.lemmas.Slice.{between_to_end}
use Rattle.column_lines.specs.Numeral.{number_from}
use Rattle.column_lines.proofs.Reading.{field_some, field_none, sign_yes, sign_other, sign_never}
use Rattle.column_lines.proofs.number.read_number.Goals as goal
use Rattle.column_lines.proofs.number.read_number.Goals.{else-signed-via-then-signed+else-bytes-first-eq-MINUS, else-signed-via-else-signed}

pub returns-in_err-first : goal.returns-in_err-first
returns-in_err-first c = let e = c.in_err-first.ensures in c.from_residual.ensures ∙ field_none c.args.signed c.args.bytes.now e

pub returns-then-bytes-first-eq-MINUS : goal.returns-then-bytes-first-eq-MINUS
returns-then-bytes-first-eq-MINUS c =
    let f = field_some c.args.signed c.args.bytes.now c.in_ok-first.first c.in_ok-first.ensures in
    c.read_negative.ensures
    ∙ ap (λ (bs : List ℕ). number_from true true bs) (between_to_end c.args.bytes.now (c.in_ok-first.first + 1) (length c.args.bytes.now) (omega arith))
    ∙ sym (f.1 ∙ sign_yes c.args.signed c.args.bytes.now c.in_ok-first.first f.0 c.if-signed.true c.if-bytes-first-eq-MINUS.true)

pub returns : goal.returns
returns c =
    let f = field_some c.args.signed c.args.bytes.now c.in_ok-first.first c.in_ok-first.ensures in
    c.read_natural.ensures
    ∙ ap (λ (bs : List ℕ). number_from c.args.signed false bs) (between_to_end c.args.bytes.now c.in_ok-first.first (length c.args.bytes.now) (omega arith))
    ∙ sym (f.1 ∙ elim c.else-signed.branch [
      | else-signed-via-then-signed+else-bytes-first-eq-MINUS w ↦
          sign_other c.args.signed c.args.bytes.now c.in_ok-first.first f.0 w.if-bytes-first-eq-MINUS.false
      | else-signed-via-else-signed w ↦ sign_never c.args.signed _ w.if-signed.false
    ])
