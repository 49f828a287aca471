use Rattle.layers.specs.Rows.{Through}
use Rattle.layers.specs.Rows.Laws.{Sweeping}
use Rattle.layers.proofs.moves.Moves.pass.Given as goal

abbrev pub invariant-loop-a : goal.invariant-loop-a
invariant-loop-a l = Sweeping (Through l.self.table.machine l.self.table.list.now l.mode l.x l.next) l.set l.a-iterator.rest l.initial.row l.row l.fell
