use native.Mathlib.Omega.{arith}
use mathlib.Core.Path.{refl}
use mathlib.Core.Logic.{inl, inr}
use Rattle.least.specs.Falls.Laws.{steps_start, steps_more, steps_past}
use Rattle.least.proofs.fall.steps.Goals as goal

pub loop-k-init : goal.loop-k-init
loop-k-init c = (inl refl, steps_start _ _ _ _ _ _ (omega (arith, c.ranges.got)))

pub loop-k-preserved : goal.loop-k-preserved
loop-k-preserved c = (inr (omega (arith, c.loop-k-test.true)), steps_more _ _ _ c.loop-k.auto.k c.loop-k.invariant.1 c.step-all.ensures)

pub returns : goal.returns
returns c = steps_past _ _ _ c.loop-k.invariant.0 c.loop-k-test.false c.loop-k.invariant.1
