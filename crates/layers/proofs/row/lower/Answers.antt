use Rattle.std.proofs.Common.{arith}
use Rattle.layers.proofs.RowCases.{lower_not, lower_is}
use Rattle.layers.proofs.row.lower.Goals as goal

pub returns-then-row-a : goal.returns-then-row-a
returns-then-row-a c = lower_not _ c.args.a _ _ c.saturating_add-fewer.ensures c.if-row-a.true (omega (arith, c.fits-row c.args.a))

pub returns : goal.returns
returns c = lower_is _ _ _ _ c.saturating_add-fewer.ensures (omega (arith, c.if-row-a.false)) (omega (arith, c.fits-row c.args.a))
