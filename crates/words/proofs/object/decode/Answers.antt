-- `words::object::decode` meets its contract: a number that no kind has is no constant's. Assumes nothing.
use Rattle.words.proofs.Constants.{no_kind}
use Rattle.words.proofs.object.decode.Goals as goal

pub returns-in-Err : goal.returns-in-Err
returns-in-Err c = no_kind c.args.kind c.args.value c.in-Err.ensures.1
