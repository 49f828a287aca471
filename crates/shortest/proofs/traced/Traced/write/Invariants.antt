use Rattle.pieces.specs.Blocks.{cost_of}
use Rattle.blocks.specs.Settling.{Past}
use Rattle.shortest.specs.Write.{Writing}
use Rattle.shortest.proofs.traced.Traced.write.Given as goal

abbrev pub invariant-loop-pairs : goal.invariant-loop-pairs
invariant-loop-pairs l = Writing l.self.searched.now.table.machine l.self.searched.now.table.list.now l.self.weights.now.least l.f l.initial.word l.initial.run l.word l.run l.p × Past l.self.searched.now.table.machine l.pairs.numbers

abbrev pub decreases-loop-pairs : goal.decreases-loop-pairs
decreases-loop-pairs l = cost_of l.self.weights.now.least l.p.state
