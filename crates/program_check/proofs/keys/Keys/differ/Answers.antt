-- `Keys::differ` meets its contract. The invariant: no entry of the shares below has the key of one before it. Assumes nothing.
use Rattle.program_check.proofs.KeyPlaces.{shares_turn, shares_no, shares_done}
use native.Mathlib.Omega.{arith}
use mathlib.Core.Path.{ap}
use mathlib.Core.Bool.{not}
use Rattle.program_check.proofs.keys.Keys.differ.Goals as goal

pub loop-share-init : goal.loop-share-init
loop-share-init c = (omega arith, tt)

pub returns-then-not-share_differs : goal.returns-then-not-share_differs
returns-then-not-share_differs c =
    shares_no c.args.self.now.width c.args.self.now.group c.args.self.now.name c.args.self.now.words.now c.args.total c.args.shares
    c.loop-share.share
    c.share_differs.ensures (ap not c.if-not-share_differs.true)

pub loop-share-preserved : goal.loop-share-preserved
loop-share-preserved c = (
  omega arith,
  shares_turn c.args.self.now.width c.args.self.now.group c.args.self.now.name c.args.self.now.words.now c.args.total c.args.shares
      c.loop-share.share
      c.loop-share.invariant.1 c.share_differs.ensures (ap not c.if-not-share_differs.false),
)

pub returns : goal.returns
returns c = shares_done c.args.self.now.width c.args.self.now.group c.args.self.now.name
    c.args.self.now.words.now c.args.total c.args.shares c.loop-share.share
    c.requires
    c.loop-share.invariant.0 c.loop-share-test.false c.loop-share.invariant.1
