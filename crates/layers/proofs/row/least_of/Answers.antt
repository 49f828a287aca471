use Rattle.layers.proofs.RowCases.{least_turn, least_end}
use Rattle.layers.proofs.row.least_of.Goals as goal

pub loop-a-preserved : goal.loop-a-preserved
loop-a-preserved c = rw c.min-least.ensures (least_turn _ _ c.loop-a.invariant c.in-Some.ensures.steps)

pub returns : goal.returns
returns c = least_end _ _ c.loop-a.invariant c.in-None.ensures.steps.0
