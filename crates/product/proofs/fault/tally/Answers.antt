use mathlib.Core.Path.{refl}
use native.Mathlib.Omega.{arith}
use Rattle.product.proofs.FaultCases.{letter_small, tally_start, count_fits, tally_next}
use Rattle.product.proofs.fault.tally.Goals as goal

pub loop-k-init : goal.loop-k-init
loop-k-init c = (refl, tally_start c.args.t.now.list.now)

pub bounds-counts-x : goal.bounds-counts-x
bounds-counts-x c = letter_small c.args.t.now.machine c.args.t.now.list.now c.args.t.now.obeys c.loop-k.k c.loop-k-test.true c.transition.result c.transition.ensures c.from-x.result c.from-x.ensures

pub overflow_add-counts : goal.overflow_add-counts
overflow_add-counts c = omega (arith, count_fits c.args.t.now.machine c.args.t.now.list.now c.args.t.now.obeys c.loop-k.k c.loop-k-test.true c.transition.result c.transition.ensures c.from-x.result c.from-x.ensures c.loop-k.counts c.loop-k.invariant.0 c.loop-k.invariant.1)

pub bounds-counts-x-in-loop-k : goal.bounds-counts-x-in-loop-k
bounds-counts-x-in-loop-k c = letter_small c.args.t.now.machine c.args.t.now.list.now c.args.t.now.obeys c.loop-k.k c.loop-k-test.true c.transition.result c.transition.ensures c.from-x.result c.from-x.ensures

pub loop-k-preserved : goal.loop-k-preserved
loop-k-preserved c = tally_next c.args.t.now.machine c.args.t.now.list.now c.args.t.now.obeys c.loop-k.k c.loop-k-test.true c.transition.result c.transition.ensures c.from-x.result c.from-x.ensures c.loop-k.counts c.loop-k.invariant.0 c.loop-k.invariant.1
