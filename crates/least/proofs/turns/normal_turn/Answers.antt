use native.Mathlib.Omega.{arith}
use Rattle.blocks.specs.Numbers.Laws.{lowest_inside, taken, taken_fewer}
use Rattle.least.specs.Turns.Laws.{so_start, so_more, so_end}
use Rattle.least.proofs.turns.normal_turn.Goals as goal

pub loop-rest-init : goal.loop-rest-init
loop-rest-init c = so_start _ _ _ _ _ (omega (arith, c.ranges.fresh)) c.empty-started.ensures.value

pub normal-rest-requires : goal.normal-rest-requires
normal-rest-requires c = lowest_inside _ _ c.loop-rest.invariant.fits c.loop-rest-test.true c.lowest-q.ensures

pub loop-rest-smaller : goal.loop-rest-smaller
loop-rest-smaller c = omega (arith, c.normal-rest.ensures.less, taken_fewer c.loop-rest.invariant.fits (taken c.loop-rest.invariant.fits c.loop-rest-test.true c.lowest-q.ensures c.without_lowest-rest.ensures))

pub loop-rest-preserved : goal.loop-rest-preserved
loop-rest-preserved c = so_more _ _ (lowest_inside _ _ c.loop-rest.invariant.fits c.loop-rest-test.true c.lowest-q.ensures) (taken c.loop-rest.invariant.fits c.loop-rest-test.true c.lowest-q.ensures c.without_lowest-rest.ensures) c.add-started.ensures c.normal-rest.ensures c.loop-rest.invariant

pub returns : goal.returns
returns c = so_end _ _ c.loop-rest-test.false c.loop-rest.invariant
