use Rattle.shortest.specs.Write.{Guessing}
use Rattle.shortest.proofs.traced.Traced.guess.Given as goal

abbrev pub invariant-loop-k : goal.invariant-loop-k
invariant-loop-k l = Guessing l.self.searched.now.table.machine l.self.searched.now.table.list.now l.self.weights.now.least l.pairs.numbers l.q l.first l.k
