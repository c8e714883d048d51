-- `parse` reads the numbers of its text. Assumes nothing.
use Rattle.std.proofs.Common.{◌∙◌, ap, is_some, unwrap_or, get_or, ◌-◌}
use Rattle.case_numbers.specs.Numbers.{zero_digit, longer_by}
use Rattle.case_numbers.proofs.Progress as p
use Rattle.case_numbers.proofs.parse.Goals as goal
use Rattle.case_numbers.proofs.parse.Goals.{then-is_ascii_digit, else-is_ascii_digit+then-is_some, else-is_ascii_digit+else-is_some}

pub loop-byte-preserved : goal.loop-byte-preserved
loop-byte-preserved c =
    let s = c.loop-byte.number in
    elim c.if-is_ascii_digit.branch [
      | then-is_ascii_digit w ↦
          rw (w.number-is, w.words-is, w.count-is)
          (p.digit_turn _ _ (is_some s) (unwrap_or s 0) c.loop-byte.byte-index _ _ c.loop-byte.invariant c.loop-byte-test.true _ _
          c.is_ascii_digit.ensures.value w.if-is_ascii_digit.true
          (w.longer.ensures ∙ ap (λ n. longer_by n (get_or c.args.text.now c.loop-byte.byte-index 0 - zero_digit)) w.unwrap_or.ensures))
      | else-is_ascii_digit+then-is_some w ↦
          rw (w.number-is, w.words-is, w.count-is)
          (p.other_turn _ _ (is_some s) (unwrap_or s 0) c.loop-byte.byte-index _ _ c.loop-byte.invariant c.loop-byte-test.true _ _ _
          c.is_ascii_digit.ensures.value w.if-is_ascii_digit.false w.put-count.ensures)
      | else-is_ascii_digit+else-is_some w ↦
          let none = p.nothing_begun s (rw w.is_some.ensures at w.if-is_some.false) in
          rw (w.number-is, w.words-is, w.count-is, none.0, none.1)
          (p.other_turn _ _ (is_some s) (unwrap_or s 0) c.loop-byte.byte-index _ _ c.loop-byte.invariant c.loop-byte-test.true _ _ _
          c.is_ascii_digit.ensures.value w.if-is_ascii_digit.false (p.nothing_put _ _ _ _ none.0))
    ]

pub returns : goal.returns
returns c =
    let s = c.loop-byte.number in
    p.at_last _ _ _ _ (p.last_put _ _ (is_some s) (unwrap_or s 0) c.loop-byte.byte-index _ _ c.loop-byte.invariant _ _ c.loop-byte-test.false c.put.ensures)
