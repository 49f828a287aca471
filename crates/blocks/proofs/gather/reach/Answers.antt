use native.Mathlib.Omega.{arith}
use mathlib.Core.Path.{refl}
use mathlib.Core.Logic.{inl, inr}
use Rattle.blocks.specs.Gathered.Laws.{reach_none, reach_more, reach_past}
use Rattle.blocks.proofs.gather.reach.Goals as goal

pub loop-k-init : goal.loop-k-init
loop-k-init c = (inl refl, reach_none _ _ _ _ _ _ _ (omega (arith, c.ranges.got)) (omega arith))

pub loop-k-preserved : goal.loop-k-preserved
loop-k-preserved c = (inr (omega (arith, c.loop-k-test.true)), reach_more _ _ _ c.loop-k.auto.k c.from.ensures c.loop-k.invariant.1 c.pick-all.ensures)

pub returns : goal.returns
returns c = reach_past _ _ _ c.loop-k.invariant.0 c.loop-k-test.false c.loop-k.invariant.1
