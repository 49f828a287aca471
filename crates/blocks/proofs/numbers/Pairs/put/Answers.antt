use mathlib.Core.Path.{refl}
use Rattle.blocks.specs.Numbers.Laws.{rest_more, put_more, put_end}
use Rattle.blocks.proofs.numbers.Pairs.put.Goals as goal

pub loop-t-preserved : goal.loop-t-preserved
loop-t-preserved c = let k = c.in-Some.ensures.steps in (rest_more c.loop-t.invariant.0 k, put_more _ _ c.loop-t.invariant.0 k refl c.loop-t.invariant.1 c.lower.ensures)

pub returns : goal.returns
returns c = put_end _ _ _ _ c.in-None.ensures.steps.0 c.loop-t.invariant.1
