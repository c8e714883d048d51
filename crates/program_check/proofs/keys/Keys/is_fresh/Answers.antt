-- `Keys::is_fresh` meets its contract. The invariant: no entry below j has the key. Assumes nothing.
use Rattle.program_check.proofs.KeyTests.{fresh_turn, fresh_no, fresh_done}
use native.Mathlib.Omega.{arith}
use Rattle.program_check.proofs.keys.Keys.is_fresh.Goals as goal

pub loop-j-init : goal.loop-j-init
loop-j-init c = (omega arith, tt)

pub returns-then-same : goal.returns-then-same
returns-then-same c =
    fresh_no c.args.self.now.width c.args.self.now.group c.args.self.now.name c.args.self.now.words.now c.args.i
    c.entry_word-group.ensures c.entry_word-name.ensures c.loop-j.j c.loop-j-test.true
    c.entry_word-other_group.ensures c.entry_word-other_name.ensures c.if-same.true

pub loop-j-preserved : goal.loop-j-preserved
loop-j-preserved c = (
  omega arith,
  fresh_turn c.args.self.now.width c.args.self.now.group c.args.self.now.name c.args.self.now.words.now c.args.i c.entry_word-group.ensures
      c.entry_word-name.ensures c.loop-j.j
      c.entry_word-other_group.ensures c.entry_word-other_name.ensures c.loop-j.invariant.1 c.if-same.false,
)

pub returns : goal.returns
returns c =
    fresh_done c.args.self.now.width c.args.self.now.group c.args.self.now.name c.args.self.now.words.now c.args.i c.entry_word-group.ensures
    c.entry_word-name.ensures c.loop-j.j c.loop-j.invariant.0
    c.loop-j-test.false c.loop-j.invariant.1
