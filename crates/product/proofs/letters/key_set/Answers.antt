use mathlib.Core.Path.{refl}
use native.Mathlib.Omega.{arith}
use Rattle.product.proofs.LettersCases.{key_is, key_small, keying_start, keying_next}
use Rattle.product.proofs.letters.key_set.Goals as goal

pub loop-k-init : goal.loop-k-init
loop-k-init c = (refl, keying_start c.args.t.now.list.now)

pub bounds-words-y : goal.bounds-words-y
bounds-words-y c = omega (arith, key_small c.args.t.now.machine c.args.t.now.list.now c.args.t.now.obeys c.loop-k.k c.loop-k-test.true c.transition.result c.transition.ensures c.key-y.result c.key-y.ensures)

pub bounds-words-y-in-loop-k : goal.bounds-words-y-in-loop-k
bounds-words-y-in-loop-k c = omega (arith, key_small c.args.t.now.machine c.args.t.now.list.now c.args.t.now.obeys c.loop-k.k c.loop-k-test.true c.transition.result c.transition.ensures c.key-y.result c.key-y.ensures)

pub loop-k-preserved : goal.loop-k-preserved
loop-k-preserved c =
    keying_next c.args.t.now.list.now c.loop-k.words c.loop-k.k c.key-y.result c.add.result c.loop-k.invariant.0 c.loop-k.invariant.1
    (key_is c.args.t.now.machine c.args.t.now.list.now c.args.t.now.obeys c.loop-k.k c.loop-k-test.true c.transition.result c.transition.ensures c.key-y.result c.key-y.ensures)
    (key_small c.args.t.now.machine c.args.t.now.list.now c.args.t.now.obeys c.loop-k.k c.loop-k-test.true c.transition.result c.transition.ensures c.key-y.result c.key-y.ensures)
    c.add.ensures.members
