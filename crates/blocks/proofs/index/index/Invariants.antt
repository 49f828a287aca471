use Rattle.blocks.specs.Stretches.Laws.{Built}
use Rattle.blocks.proofs.index.index.Given as goal

abbrev pub invariant-loop-y : goal.invariant-loop-y
invariant-loop-y l = Built l.table.machine l.table.list.now l.starts l.k l.y
