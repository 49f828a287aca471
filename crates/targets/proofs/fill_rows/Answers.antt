use Rattle.targets.specs.Prepared.Laws.{filled_start}
use mathlib.Core.Path.{refl}
use Rattle.targets.proofs.fill_rows.Goals as goal

pub loop-k-init : goal.loop-k-init
loop-k-init c = (refl, filled_start c.args.t.now.machine _ _ _ c.requires.0 c.requires.1)
