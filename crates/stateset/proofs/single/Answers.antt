use Rattle.stateset.specs.Set.Laws.{single_is}
use Rattle.stateset.proofs.single.Goals as goal

pub returns : goal.returns
returns c = single_is _ _ _ c.empty.ensures.value c.add.ensures.value
