use Rattle.product.proofs.WriteCases.{Writing}
use Rattle.product.proofs.write.write_rows.Given as goal

abbrev pub invariant-loop-p : goal.invariant-loop-p
invariant-loop-p l = Writing l.f l.initial.list l.list l.k l.lo l.p
