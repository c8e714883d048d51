-- `write_digits` meets its contract. Assumes nothing.
use Rattle.std.proofs.Common.{arith, ◌≡◌, ◌+◌, ◌-◌, refl}
use Rattle.column_lines.proofs.Writing.{write_start, write_turn, write_end, write_none}
use Rattle.column_lines.proofs.number.write_digits.Goals as goal

pub loop-k-init : goal.loop-k-init
loop-k-init g c = record { held = c.requires; written = write_start c.args.negative _ c.args.out.now }

pub loop-k-preserved : goal.loop-k-preserved
loop-k-preserved g c =
    let e : c.loop-k.k ≡ c.loop-k.k - 1 + 1 = omega arith in
    let w = rw e at c.loop-k.invariant.written in
    record {
      held = c.in-Some.ensures.0;
      written = write_turn c.args.negative _ _ c.loop-k.out (c.loop-k.k - 1) _ _ w c.last_digit.ensures c.in-Some.ensures.1 c.in-Some.ensures.2;
    }

pub returns-in_default : goal.returns-in_default
returns-in_default g c =
    let e : c.loop-k.k ≡ c.loop-k.k - 1 + 1 = omega arith in
    let w = rw e at c.loop-k.invariant.written in
    write_end c.args.negative _ _ c.loop-k.out (c.loop-k.k - 1) _ _ w c.last_digit.ensures c.args.out.now _ refl c.in_default.ensures c.write_lead.ensures

pub returns : goal.returns
returns g c = write_none c.args.negative _ c.args.out.now c.loop-k.out c.loop-k.k _ refl c.loop-k.invariant.written (omega arith)
