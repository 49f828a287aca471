use Rattle.adjacency.specs.Index.Laws.{Built}
use Rattle.adjacency.proofs.index.Given as goal

abbrev pub invariant-loop-q : goal.invariant-loop-q
invariant-loop-q l = Built l.t.machine l.t.list.now l.first l.k l.q
