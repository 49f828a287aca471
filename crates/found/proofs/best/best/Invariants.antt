use Rattle.found.specs.Best.{Best}
use Rattle.found.proofs.best.best.Given as goal

abbrev pub invariant-loop-q : goal.invariant-loop-q
invariant-loop-q l = Best l.marks l.weights.least l.q l.b
