-- `book_compiler::solver::has` meets its contract: past the words no bit is set. Assumes nothing.
use Rattle.std.proofs.Common.{◌≡◌, ◌/◌, false, nat_lt, length, refl, ◌∙◌, arith}
use Rattle.std.proofs.lemmas.Bool.Decides.{nat_tests}
use Rattle.compiler_laws.specs.FileSets.{bit_of}
use Rattle.compiler_laws.proofs.SetBits.{bit_out}
use Rattle.book_compiler.proofs.solver.has.Goals as goal

pub returns-then-at-set : goal.returns-then-at-set
unfolding bit_of
returns-then-at-set c = refl

pub returns-else-at-set : goal.returns-else-at-set
returns-else-at-set c =
    let past : nat_lt (c.args.n / 64) (length c.args.set.now) ≡ false = grind (arith, nat_tests) in
    past ∙ bit_out c.args.set.now c.args.n c.if-at-set.false
