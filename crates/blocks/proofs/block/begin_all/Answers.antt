use mathlib.Core.Path.{sym}
use Rattle.pieces.proofs.BlocksLaws.{cost_inside}
use Rattle.blocks.specs.Numbers.Laws.{rest_more}
use Rattle.blocks.specs.Settling.Laws.{begins_more, begins_end}
use Rattle.blocks.proofs.block.begin_all.Goals as goal

pub loop-q-preserved : goal.loop-q-preserved
loop-q-preserved c = let k = c.in-Some.ensures.steps in (rest_more c.loop-q.invariant.0 k, begins_more _ _ _ c.loop-q.invariant.0 k (sym (cost_inside _ _ k.state)) c.loop-q.invariant.1 c.begin.ensures)

pub returns : goal.returns
returns c = begins_end _ _ _ _ _ c.in-None.ensures.steps.0 c.loop-q.invariant.1
