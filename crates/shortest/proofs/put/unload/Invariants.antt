use Rattle.shortest.specs.Put.Laws.{Unloading}
use Rattle.shortest.proofs.put.unload.Given as goal

abbrev pub invariant-loop-k : goal.invariant-loop-k
invariant-loop-k l = Unloading l.later l.c l.initial.run l.r l.run l.k
