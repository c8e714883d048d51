-- `read_natural` meets its contract. Assumes nothing.
use Rattle.std.proofs.Common.{◌∙◌, sym, arith, eqb-true, false, ◌≡◌}
use Rattle.column_lines.specs.Numeral.{most_of}
use Rattle.column_lines.proofs.Reading.{number_none, zero_alone, zero_more, digits_start, natural_word, most_small, some_bytes}
use Rattle.column_lines.proofs.number.read_natural.Goals as goal
use Rattle.column_lines.proofs.number.read_natural.Goals.{then-signed, else-signed}

pub returns-then-is_empty : goal.returns-then-is_empty
returns-then-is_empty c = number_none c.args.signed false c.args.bytes.now (eqb-true _ _ (sym c.is_empty.ensures ∙ c.if-is_empty.true))

pub returns-then-bytes-eq1 : goal.returns-then-bytes-eq1
returns-then-bytes-eq1 c = zero_alone c.args.signed c.args.bytes.now c.if-bytes-eq-ZERO.true c.if-bytes-eq1.true

pub returns-else-bytes-eq1 : goal.returns-else-bytes-eq1
returns-else-bytes-eq1 c = zero_more c.args.signed c.args.bytes.now (some_bytes _ c.is_empty.ensures c.if-is_empty.false) c.if-bytes-eq-ZERO.true
    c.if-bytes-eq1.false

pub returns-in_err-word : goal.returns-in_err-word
returns-in_err-word c =
    let large = c.in_err-word.ensures in
    c.from_residual.ensures ∙ sym (digits_start c.args.signed false c.args.bytes.now
    (some_bytes _ c.is_empty.ensures c.if-is_empty.false) c.if-bytes-eq-ZERO.false
    ∙ large c.args.signed false (omega (arith, most_small c.args.signed)))

pub returns : goal.returns
returns c =
    let read = c.in_ok-word.ensures in
    let m : c.if-signed.most ≡ most_of c.args.signed =
    elim c.if-signed.branch [ then-signed w ↦ w.most-is ∙ rw w.if-signed.true | else-signed w ↦ w.most-is ∙ rw w.if-signed.false ] in
    c.then_some.ensures ∙ natural_word c.args.signed c.in_ok-word.word c.if-signed.most m
    ∙ sym (digits_start c.args.signed false c.args.bytes.now (some_bytes _ c.is_empty.ensures c.if-is_empty.false) c.if-bytes-eq-ZERO.false
    ∙ read.1 c.args.signed false)
