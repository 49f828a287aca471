use Rattle.layers.proofs.RowCases.{least_low}
use Rattle.layers.proofs.row.least_in.Goals as goal

pub returns-then-intersection-ne0 : goal.returns-then-intersection-ne0
returns-then-intersection-ne0 c = least_low _ _ _ _ c.requires c.intersection.ensures c.if-intersection-ne0.true
