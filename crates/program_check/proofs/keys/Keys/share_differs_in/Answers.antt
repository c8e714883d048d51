-- `Keys::share_differs_in` meets its contract. The invariant: no entry of the share below i has the key of one before it, and the set has their places.
-- Assumes nothing.
use mathlib.Core.Path.{refl}
use Rattle.program_check.proofs.KeyPlaces.{none_yet, share_turn, share_no, share_done}
use native.Mathlib.Omega.{arith}
use mathlib.Core.Path.{ap}
use mathlib.Core.Bool.{not}
use Rattle.program_check.proofs.keys.Keys.share_differs_in.Goals as goal

pub loop-i-init : goal.loop-i-init
loop-i-init c = (
  omega arith,
  refl,
  tt,
  none_yet c.args.self.now.width c.args.self.now.group c.args.self.now.name c.args.self.now.words.now
      c.args.shares c.args.share 0 c.args.set.now,
)

pub entry_differs-requires : goal.entry_differs-requires
entry_differs-requires c = record {
  shares_nonzero = c.requires.shares_nonzero;
  set_len = omega (arith, c.loop-i.invariant.1, c.requires.set_len);
  has_places = c.loop-i.invariant.3;
}

pub shape_of-set-then-not-entry_differs : goal.shape_of-set-then-not-entry_differs
shape_of-set-then-not-entry_differs c =
    omega (arith, c.entry_differs.auto.set, c.loop-i.invariant.1)

pub returns-then-not-entry_differs : goal.returns-then-not-entry_differs
returns-then-not-entry_differs c =
    share_no c.args.self.now.width c.args.self.now.group c.args.self.now.name c.args.self.now.words.now c.args.total c.args.shares c.args.share c.loop-i.i
    c.loop-i-test.true c.entry_differs.ensures (ap not c.if-not-entry_differs.true)

pub loop-i-preserved : goal.loop-i-preserved
loop-i-preserved c =
    let turn = share_turn c.args.self.now.width c.args.self.now.group c.args.self.now.name c.args.self.now.words.now c.args.total c.args.shares c.args.share
    c.loop-i.i
    c.loop-i.invariant.2 c.entry_differs.ensures (ap not c.if-not-entry_differs.false) in
    (omega arith, omega (arith, c.entry_differs.auto.set, c.loop-i.invariant.1), turn.0, turn.1)

pub shape_of-set : goal.shape_of-set
shape_of-set c = omega (arith, c.loop-i.invariant.1)

pub returns : goal.returns
returns c = share_done c.args.self.now.width c.args.self.now.group
    c.args.self.now.name c.args.self.now.words.now c.args.total
    c.args.shares c.args.share c.loop-i.i
    c.loop-i.invariant.0 c.loop-i-test.false c.loop-i.invariant.2
