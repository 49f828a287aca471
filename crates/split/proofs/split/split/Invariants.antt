use Rattle.split.specs.Split.{Splitting}
use Rattle.split.proofs.split.split.Given as goal

abbrev pub invariant-loop-k : goal.invariant-loop-k
invariant-loop-k l = Splitting l.first.machine l.first.list.now l.second.machine l.second.list.now l.list l.initial.run l.initial.other l.run l.other l.k l.p
