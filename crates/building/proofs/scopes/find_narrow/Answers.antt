-- `building::scopes::find_narrow` meets its contract. The invariant: an entry ends at the word, in the area, and what is left to search answers what was
-- asked. The measure is how much is left. Assumes nothing.
use Rattle.std.proofs.Common.{◌/◌, refl, arith}
use Rattle.building.proofs.NewestFirst.{narrow_none, narrow_here, narrow_wide, narrow_beyond, narrow_inside, newest_next, ends_at, word_in_lem, next_at}
use Rattle.building.proofs.scopes.find_narrow.Goals as goal

pub returns-then-names-end : goal.returns-then-names-end
returns-then-names-end c = narrow_beyond c.args.from c.args.end c.args.name c.args.names.now c.if-names-end.true

pub returns-then-end-from : goal.returns-then-end-from
returns-then-end-from c = narrow_inside c.args.from c.args.end c.args.name
    c.args.names.now _ c.if-names-end.false
    (narrow_none _ c.args.from c.args.end c.args.name c.args.names.now refl
    c.if-end-from.true)

pub loop-at-init : goal.loop-at-init
loop-at-init c = (
  omega arith,
  omega arith,
  ends_at _ c.args.from c.args.end c.args.name
      c.args.names.now refl,
)

pub returns-then-local-le-MOST_NARROW : goal.returns-then-local-le-MOST_NARROW
returns-then-local-le-MOST_NARROW c =
    narrow_inside c.args.from c.args.end c.args.name c.args.names.now _ c.if-names-end.false
    (narrow_here _ c.args.from (c.loop-at.at / 2) c.args.name c.args.names.now c.loop-at.invariant.2 _ _ (omega arith)
    (word_in_lem c.args.names.now c.loop-at.at 0 c.loop-at.invariant.1 (omega arith) (omega arith) (omega arith)) c.if-names-at.true
    (word_in_lem c.args.names.now c.loop-at.at 1 c.loop-at.invariant.1 (omega arith) (omega arith) (omega arith)) c.if-local-le-MOST_NARROW.true)

pub returns-then-names-at : goal.returns-then-names-at
returns-then-names-at c =
    narrow_inside c.args.from c.args.end c.args.name c.args.names.now _ c.if-names-end.false
    (narrow_wide _ c.args.from (c.loop-at.at / 2) c.args.name c.args.names.now c.loop-at.invariant.2 _ _ (omega arith)
    (word_in_lem c.args.names.now c.loop-at.at 0 c.loop-at.invariant.1 (omega arith) (omega arith) (omega arith)) c.if-names-at.true
    (word_in_lem c.args.names.now c.loop-at.at 1 c.loop-at.invariant.1 (omega arith) (omega arith) (omega arith)) c.if-local-le-MOST_NARROW.false)

pub loop-at-preserved : goal.loop-at-preserved
loop-at-preserved c = (
  omega arith,
  omega arith,
  next_at _ c.args.from c.loop-at.at c.args.name c.args.names.now
      c.loop-at.invariant.1 (omega arith)
      (newest_next _ c.args.from (c.loop-at.at / 2) c.args.name c.args.names.now
      c.loop-at.invariant.2 _ (omega arith)
      (word_in_lem c.args.names.now c.loop-at.at 0 c.loop-at.invariant.1 (omega arith) (omega arith) (omega arith))
      c.if-names-at.false),
)

pub returns : goal.returns
returns c = narrow_inside c.args.from c.args.end
    c.args.name c.args.names.now _ c.if-names-end.false
    (narrow_none _ c.args.from (c.loop-at.at / 2) c.args.name
    c.args.names.now c.loop-at.invariant.2 (omega arith))
