use Rattle.layers.proofs.LayerCases.{none_storing}
use Rattle.layers.proofs.layer.storing_states.Goals as goal

pub returns-then-starts-eq0 : goal.returns-then-starts-eq0
returns-then-starts-eq0 c = none_storing _ _ c.if-starts-eq0.true
