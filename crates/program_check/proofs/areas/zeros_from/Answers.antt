-- `zeros_from` meets its contract: behind the end there are no words. Assumes nothing.
use mathlib.Core.Path.{ap, ◌∙◌}
use Rattle.definition.specs.ProgramCheck.{zeros}
use Rattle.program_check.proofs.AreaTests.{zeros_all, rest_all}
use Rattle.program_check.proofs.areas.zeros_from.Goals as goal

pub returns : goal.returns
returns c =
    zeros_all c.in-Some.rest.now c.are_zeros.ensures
    ∙ ap zeros (c.in-Some.ensures.lookup.0.2 ∙ rest_all c.args.words.now c.args.from)
