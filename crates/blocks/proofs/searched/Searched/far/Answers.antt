use native.Mathlib.Omega.{arith}
use Rattle.blocks.specs.Gathered.Laws.{far_reach}
use Rattle.blocks.proofs.searched.Searched.far.Goals as goal

pub returns : goal.returns
returns c = far_reach _ _ _ _ _ _ _ (omega (arith, c.if-top-v.false)) c.from-lo.ensures c.from-hi.ensures c.reach.ensures
