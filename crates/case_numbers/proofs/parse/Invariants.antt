-- `parse` reads the numbers of its text. The invariant: the numbers to come give the answer and the words of the whole text. Assumes nothing.
use Rattle.std.proofs.Common.{drop, is_some, unwrap_or}
use Rattle.case_numbers.specs.Numbers.{numbers_from}
use Rattle.case_numbers.proofs.Progress.{ToCome}
use Rattle.case_numbers.proofs.parse.Given as goal

abbrev pub invariant-loop-byte : goal.invariant-loop-byte
invariant-loop-byte l =
    ToCome l.text l.initial.words (numbers_from (is_some l.number) (unwrap_or l.number 0) (drop l.byte-index l.text)) l.words l.count
