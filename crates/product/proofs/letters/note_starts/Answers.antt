use Prim.Native.Nat.{◌-◌}
use native.Mathlib.Omega.{arith}
use Rattle.fsbm.specs.Rules.{rules as rules_of}
use Rattle.product.proofs.LettersCases.{key_is, key_small, starting_next}
use Rattle.product.proofs.letters.note_starts.Goals as goal

pub overflow_cast-starts : goal.overflow_cast-starts
overflow_cast-starts c = omega (arith, (rules_of _ _ c.args.t.now.obeys).transitions_fit, c.loop-k.auto.k)

pub bounds-starts-y : goal.bounds-starts-y
bounds-starts-y c = key_small c.args.t.now.machine c.args.t.now.list.now c.args.t.now.obeys (c.loop-k.k - 1) (omega arith) c.transition.result c.transition.ensures c.key-y.result c.key-y.ensures

pub loop-k-preserved : goal.loop-k-preserved
loop-k-preserved c =
    starting_next c.args.t.now.list.now c.args.t.now.machine.transitions c.loop-k.starts c.loop-k.k c.key-y.result (c.loop-k.k - 1) c.loop-k.invariant (omega arith)
    (key_is c.args.t.now.machine c.args.t.now.list.now c.args.t.now.obeys (c.loop-k.k - 1) (omega arith) c.transition.result c.transition.ensures c.key-y.result c.key-y.ensures)
    (key_small c.args.t.now.machine c.args.t.now.list.now c.args.t.now.obeys (c.loop-k.k - 1) (omega arith) c.transition.result c.transition.ensures c.key-y.result c.key-y.ensures)
