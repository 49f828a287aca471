use native.Mathlib.Omega.{arith}
use Rattle.blocks.specs.Numbers.Laws.{lower_not, lower_is}
use Rattle.blocks.proofs.numbers.Pairs.lower.Goals as goal

pub returns-then-self-i : goal.returns-then-self-i
returns-then-self-i c = lower_not _ _ _ _ _ c.requires.0 c.requires.1 c.if-self-i.true

pub returns : goal.returns
returns c = lower_is _ _ _ _ _ c.requires.0 c.requires.1 (record { numbers = omega arith; rows = omega arith }) (omega (arith, c.if-self-i.false)) c.add.ensures
