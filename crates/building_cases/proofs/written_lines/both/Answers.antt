-- A buffer of at most 80 bytes is one that a slice can lend.
use Rattle.std.proofs.Common.{arith}
use Rattle.building_cases.proofs.written_lines.both.Goals as goal

pub whole_as_slice-write_line : goal.whole_as_slice-write_line
whole_as_slice-write_line g c = omega (arith, c.requires)

pub shared_whole_as_slice-show : goal.shared_whole_as_slice-show
shared_whole_as_slice-show g c = omega (arith, c.requires)

pub whole_as_slice-write_line-2 : goal.whole_as_slice-write_line-2
whole_as_slice-write_line-2 g c = omega (arith, c.requires)

pub shared_whole_as_slice-show-2 : goal.shared_whole_as_slice-show-2
shared_whole_as_slice-show-2 g c = omega (arith, c.requires)
