use native.Mathlib.Omega.{arith}
use mathlib.Core.Path.{refl}
use mathlib.Core.Logic.{inl, inr}
use Rattle.blocks.specs.Numbers.Laws.{spread_start, spread_more, spread_past}
use Rattle.blocks.proofs.numbers.Pairs.spread.Goals as goal

pub loop-k-init : goal.loop-k-init
loop-k-init c = (inl refl, spread_start _ _ _ _ _ _ _)

pub loop-k-preserved : goal.loop-k-preserved
loop-k-preserved c = (inr (omega (arith, c.loop-k-test.true)), spread_more _ _ _ _ c.loop-k.auto.k c.from.ensures c.loop-k.invariant.1 c.enter.ensures)

pub returns : goal.returns
returns c = spread_past _ _ _ _ c.loop-k.invariant.0 c.loop-k-test.false c.loop-k.invariant.1
