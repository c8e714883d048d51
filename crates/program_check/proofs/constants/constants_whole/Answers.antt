-- `constants_whole` meets its contract. Assumes nothing.
use Rattle.program_check.proofs.ConstantTests.{marks_known, constants_whole}
use Rattle.program_check.proofs.constants.constants_whole.Goals as goal

pub count_marked-count-requires : goal.count_marked-count-requires
count_marked-count-requires c = marks_known c.args.constants.now c.args.totals
    c.requires

pub returns : goal.returns
returns c =
    constants_whole c.args.constants.now c.args.totals c.requires c.is_constant-null.ensures
    c.is_constant-yes.ensures c.is_constant-no.ensures c.count_marked-count.ensures
