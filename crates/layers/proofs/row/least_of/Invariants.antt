use Rattle.layers.proofs.RowCases.{Least}
use Rattle.layers.proofs.row.least_of.Given as goal

abbrev pub invariant-loop-a : goal.invariant-loop-a
invariant-loop-a l = Least l.row l.set l.a-iterator.rest l.least
