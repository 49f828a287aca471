use Rattle.product.proofs.WriteCases.{Rowing}
use Rattle.product.proofs.write.write_row.Given as goal

abbrev pub invariant-loop-r : goal.invariant-loop-r
invariant-loop-r l = Rowing l.f l.p l.initial.list l.k l.list l.at l.r
