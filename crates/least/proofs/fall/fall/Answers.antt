use native.Mathlib.Omega.{arith}
use Rattle.least.specs.Falls.Laws.{fall_not, fall_is}
use Rattle.least.proofs.fall.fall.Goals as goal

pub returns-then-d-q : goal.returns-then-d-q
returns-then-d-q c = fall_not _ _ _ _ c.requires (omega (arith, c.ranges.got)) c.if-d-q.true

pub returns : goal.returns
returns c = fall_is _ _ _ _ c.requires c.told-d (omega (arith, c.if-d-q.false)) c.add.ensures
