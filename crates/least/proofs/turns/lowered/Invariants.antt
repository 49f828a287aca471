use Rattle.least.specs.Turns.{Lowered}
use Rattle.least.proofs.turns.lowered.Given as goal

abbrev pub invariant-loop-f : goal.invariant-loop-f
invariant-loop-f l = Lowered l.marks l.d l.limit l.least
