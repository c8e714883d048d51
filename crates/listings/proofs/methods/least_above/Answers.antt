-- The entry of the least is the answer.
use native.Mathlib.Omega.{arith}
use borrow.Author.Rules.{rules}
use Rattle.listings.proofs.Keys.{least_all, entry_mapped}
use Rattle.listings.proofs.methods.least_above.Goals as goal

pub returns : goal.returns
returns c = least_all c.args.methods.now c.args.last c.args.n c.loop-i.invariant.least (omega arith)
    (entry_mapped c.loop-i.least c.map.ensures.cases (λ m x h. search (rules, h)))
