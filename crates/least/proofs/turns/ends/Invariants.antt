use Rattle.least.specs.Turns.{EnteredBelow}
use Rattle.least.proofs.turns.ends.Given as goal

abbrev pub invariant-loop-k : goal.invariant-loop-k
invariant-loop-k l = EnteredBelow l.table.machine l.table.list.now l.k l.set
