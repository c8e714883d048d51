-- `memory::starts_of` meets its contract. Assumes nothing.
use Rattle.std.proofs.Common.{replicate, arith, refl, length-set}
use Rattle.memory.proofs.Starts.{starts_begin, starts_turn, starts_end}
use Rattle.memory.proofs.starts_of.Goals as goal

pub loop-i-init : goal.loop-i-init
loop-i-init c = record { long = refl; same = λ k h. starts_begin c.args.lengths (replicate 13 0) c.args.size k h }

pub loop-i-preserved : goal.loop-i-preserved
loop-i-preserved c = record {
  long = simp length-set (omega arith);
  same = starts_turn c.args.lengths c.loop-i.starts c.args.size c.loop-i.i (omega arith) (omega (arith, c.loop-i.invariant.long))
      c.loop-i.invariant.same (omega arith);
}

pub returns : goal.returns
returns c = starts_end c.args.lengths c.loop-i.starts c.args.size (omega arith) c.loop-i.invariant.long (λ k h. c.loop-i.invariant.same k (omega arith))
