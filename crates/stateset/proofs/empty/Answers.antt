use Rattle.stateset.specs.Set.Laws.{empty_is}
use Rattle.stateset.proofs.empty.Goals as goal

pub returns : goal.returns
returns c = empty_is
