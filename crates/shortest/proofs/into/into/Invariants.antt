use Rattle.shortest.specs.Into.{IntoFrom}
use Rattle.shortest.proofs.into.into.Given as goal

abbrev pub invariant-loop-k : goal.invariant-loop-k
invariant-loop-k l = IntoFrom l.table.machine.transitions l.table.list.now l.k l.links
