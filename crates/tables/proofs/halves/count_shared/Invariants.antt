use Rattle.tables.proofs.HalvesCases.{Counted}
use Rattle.tables.proofs.halves.count_shared.Given as goal

abbrev pub invariant-loop-d : goal.invariant-loop-d
invariant-loop-d l = Counted l.word l.i l.d l.counts
