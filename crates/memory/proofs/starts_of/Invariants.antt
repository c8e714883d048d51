-- `memory::starts_of` meets its contract. The invariant: the starts so far are those of the table. Assumes nothing.
use Rattle.std.proofs.Common.{◌≡◌, ℕ, ◌+◌, ◌<◌, length, get_or}
use Rattle.memory.specs.Layout.{starts_of}
use Rattle.memory.proofs.starts_of.Given as goal

abbrev pub invariant-loop-i : goal.invariant-loop-i
invariant-loop-i l = record {
  long : length l.starts ≡ 15;
  same : (k : ℕ) → k < l.i + 2 → get_or l.starts k 0 ≡ get_or (starts_of l.lengths l.size) k 0;
}
