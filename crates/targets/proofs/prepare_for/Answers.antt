use Rattle.targets.specs.Prepared.Laws.{made_for}
use Rattle.targets.proofs.prepare_for.Goals as goal

pub returns : goal.returns
returns c = made_for c.args.t.now.machine _ _ _ c.fill.ensures _ c.requires.0 c.letters_of-wanted.ensures
