use Prim.Native.Nat.{◌-◌}
use Rattle.product.proofs.WriteCases.{Pairing, place}
use Rattle.product.proofs.write.write_pair.Given as goal

abbrev pub invariant-loop-next : goal.invariant-loop-next
invariant-loop-next l = Pairing l.f l.letters l.p l.r l.span.start l.hi l.initial.list l.k l.list l.at l.next

abbrev pub decreases-loop-next : goal.decreases-loop-next
decreases-loop-next l = l.hi - place l.hi l.next
