use Rattle.least.specs.Turns.Laws.{lowered_same, lowered_then}
use Rattle.least.proofs.turns.lowered.Goals as goal

pub loop-f-init : goal.loop-f-init
loop-f-init c = lowered_same _

pub loop-f-preserved : goal.loop-f-preserved
loop-f-preserved c = lowered_then c.loop-f.invariant c.lower_limit-least.ensures
