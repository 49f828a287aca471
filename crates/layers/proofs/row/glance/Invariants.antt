use Rattle.layers.proofs.RowCases.{Glancing}
use Rattle.layers.proofs.row.glance.Given as goal

abbrev pub invariant-loop-q : goal.invariant-loop-q
invariant-loop-q l = Glancing l.row l.q l.least l.live l.lows
