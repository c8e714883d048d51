-- `words::search::pass` meets its contract: four entries in a turn lie in the area, and none of them has the value. Assumes nothing.
use Rattle.std.proofs.Common.{arith}
use Rattle.words.proofs.Searching.{turn, pass_four}
use Rattle.words.proofs.search.pass.Goals as goal

pub bounds-area-at-else-area-at-2 : goal.bounds-area-at-else-area-at-2
bounds-area-at-else-area-at-2 g c =
    omega (arith, turn c.loop-i.i c.args.end g.row.WIDTH g.row.WORD c.loop-i-test.true c.requires.word_lt_width c.requires.width_in_bounds)

pub bounds-area-at-else-area-at-3 : goal.bounds-area-at-else-area-at-3
bounds-area-at-else-area-at-3 g c =
    turn c.loop-i.i c.args.end g.row.WIDTH g.row.WORD c.loop-i-test.true c.requires.word_lt_width c.requires.width_in_bounds

pub loop-i-preserved : goal.loop-i-preserved
loop-i-preserved g c =
    pass_four c.args.area.now g.row.WIDTH g.row.WORD c.args.value c.args.from c.args.end c.loop-i.i c.loop-i.invariant
    c.loop-i-test.true c.if-area-at.false c.if-area-at-2.false c.if-area-at-3.false c.if-area-at-4.false
