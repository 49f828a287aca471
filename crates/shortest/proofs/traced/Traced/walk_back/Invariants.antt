use Rattle.pieces.specs.Blocks.{cell}
use Rattle.shortest.specs.Copy.{Walking}
use Rattle.shortest.proofs.traced.Traced.walk_back.Given as goal

abbrev pub invariant-loop-list : goal.invariant-loop-list
invariant-loop-list l = Walking l.self.searched.now.table.machine l.self.searched.now.table.list.now l.b l.h l.fn.p.state l.initial.word l.fn.p.letter l.initial.run l.fn.p.entry l.word l.run l.later l.w

abbrev pub decreases-loop-list : goal.decreases-loop-list
decreases-loop-list l = cell l.b l.w.storing l.w.matching
