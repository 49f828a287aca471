use Rattle.runs.specs.Walk.{Started}
use Rattle.runs.proofs.walk.start.Given as goal

abbrev pub invariant-loop-q : goal.invariant-loop-q
invariant-loop-q l = Started l.t.machine l.row l.q l.b
