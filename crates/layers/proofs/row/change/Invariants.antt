use Rattle.layers.specs.Rows.{Beside}
use Rattle.layers.specs.Rows.Laws.{Sweeping}
use Rattle.layers.proofs.row.change.Given as goal

abbrev pub invariant-loop-q : goal.invariant-loop-q
invariant-loop-q l = Sweeping (Beside l.next) l.set l.q-iterator.rest l.initial.row l.row l.fell
