use Rattle.emptiness.specs.Reached.{Swept}
use Rattle.emptiness.proofs.pass.Given as goal

abbrev pub invariant-loop-k : goal.invariant-loop-k
invariant-loop-k l = Swept l.t.list.now l.k l.kinds.buffering l.kinds.matching l.initial.all l.all
