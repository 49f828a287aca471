use Rattle.layers.specs.Rows.Laws.{sweep_turn, sweep_end, beside_one}
use Rattle.layers.proofs.row.change.Goals as goal

pub loop-q-preserved : goal.loop-q-preserved
loop-q-preserved c = sweep_turn c.loop-q.invariant c.in-Some.ensures.steps (beside_one _ _ _ _ c.lower-fell.ensures)

pub returns : goal.returns
returns c = sweep_end c.in-None.ensures.steps.0 c.loop-q.invariant
