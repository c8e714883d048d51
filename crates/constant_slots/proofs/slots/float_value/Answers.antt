-- `constant_slots::slots::float_value` meets its contract: bits that are shifted to the right and back are a multiple of the grain. Assumes nothing.
use Rattle.constant_slots.specs.Home.{first_prime, second_prime}
use Rattle.constant_slots.proofs.SlotWays.{product_fits, zeros_small, value_of_round, value_of_other}
use native.Mathlib.Omega.{arith}
use Rattle.constant_slots.proofs.slots.float_value.Goals as goal

pub overflow_shr-number : goal.overflow_shr-number
overflow_shr-number c = zeros_small c.args.n c.args.bits c.round_zeros-zeros.result c.round_zeros-zeros.ensures

pub overflow_shl-number : goal.overflow_shl-number
overflow_shl-number c = zeros_small c.args.n c.args.bits c.round_zeros-zeros.result c.round_zeros-zeros.ensures

pub returns-then-number-zeros : goal.returns-then-number-zeros
returns-then-number-zeros c = value_of_round c.args.n c.args.bits c.round_zeros-zeros.result c.round_zeros-zeros.ensures
    c.ranges.bits.fits c.if-number-zeros.true

pub overflow_mul-result : goal.overflow_mul-result
overflow_mul-result c = omega (arith, product_fits c.args.bits first_prime second_prime (omega arith) (omega arith) (omega arith) (omega arith))

pub returns : goal.returns
returns c = value_of_other c.args.n c.args.bits c.round_zeros-zeros.result c.round_zeros-zeros.ensures
    c.ranges.bits.fits c.if-number-zeros.false
