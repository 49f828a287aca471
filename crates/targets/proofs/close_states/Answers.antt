use Rattle.images.proofs.SetCases.{members_is}
use Rattle.targets.specs.Prepared.Laws.{closing_end}
use Rattle.targets.proofs.close_states.Goals as goal

pub returns : goal.returns
returns c = closing_end _ _ _ _ c.requires.0 _ _ c.put_closures.ensures (members_is c.full.ensures)
