use Rattle.emptiness.specs.Reached.Laws.{Begun}
use Rattle.emptiness.proofs.is_barren.Given as goal

abbrev pub invariant-loop : goal.invariant-loop
invariant-loop l = Begun l.kinds.initial l.s
