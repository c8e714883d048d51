-- `clover_trial` meets its contract: the call's own promise, with the lengths by number.
use Rattle.clover_back_end.proofs.clover_trial.Goals as goal

pub returns : goal.returns
returns c = rw c.by_number.ensures at c.trial.ensures
